-- Rows that are computed from the definitions: their words are those of another assembler.
use Rattle.std.specs.Prelude.{◌≡◌, ℕ, [], ◌∷◌, slice_index}
use Rattle.pn_types.specs.declared.compare.Cmp.TheVariants.{Eq, Ne, Lt, Le, Gt, Ge}
use Rattle.pn_types.specs.declared.plan.Act.{Act}
use Rattle.pn_types.specs.declared.plan.Act.TheVariants.{Up, Down, Put, Start, Stop}
use Rattle.pn_types.specs.declared.plan.Left.TheVariants.{Counter, Argument}
use Rattle.pn_types.specs.declared.plan.Stmt.{Stmt}
use Rattle.rv_word.specs.Words.{word_of}
use Rattle.tramp_spec.specs.Bodies.{Stands, bank_at_end}
use Rattle.tramp_spec.specs.Marks.{tool}
use Rattle.tramp_spec.specs.Statements.{body_of, unless}
use Rattle.tramp_spec.specs.Steps.{Bench}

-- a statement with no condition
abbrev pub always : Act → Stmt
always act = record { conds = []; act = act }

pub record StatementRows : Type 0 where
  pub up : body_of (2 ∷ []) (always (Up 0) ∷ []) ≡ tool 0x00000fb7 ∷ tool 0x010fb283 ∷ tool 0x00128293 ∷ tool 0x005fb823 ∷ []
  -- the address 2,400 of slot 300 is 4,096 less 1,696
  pub down : body_of (300 ∷ []) (always (Down 0) ∷ [])
      ≡ tool 0x00001fb7 ∷ tool 0x960fb283 ∷ tool 0x00028663 ∷ tool 0xfff28293 ∷ tool 0x965fb023 ∷ []
  pub put : body_of (300 ∷ []) (always (Put 0 100000) ∷ []) ≡ tool 0x000182b7 ∷ tool 0x6a02829b ∷ tool 0x00001fb7 ∷ tool 0x965fb023 ∷ []
  pub start : body_of (2 ∷ []) (always (Start 0) ∷ [])
      ≡ tool 0x00000fb7 ∷ tool 0x018fb283 ∷ tool 0x00128293 ∷ tool 0x005fbc23 ∷ tool 0xfff28293 ∷ tool 0x00029e63
      ∷ tool 0x00000fb7 ∷ tool 0x010fbf83 ∷ tool 0x00003283 ∷ tool 0x405f82b3 ∷ tool 0x00000fb7 ∷ tool 0x005fb823 ∷ []
  -- on the last two slots
  pub stop : body_of (4094 ∷ []) (always (Stop 0) ∷ [])
      ≡ tool 0x00008fb7 ∷ tool 0xff8fb283 ∷ tool 0x02028463 ∷ tool 0xfff28293 ∷ tool 0xfe5fbc23 ∷ tool 0x00029e63
      ∷ tool 0x00008fb7 ∷ tool 0xff0fbf83 ∷ tool 0x00003283 ∷ tool 0x005f82b3 ∷ tool 0x00008fb7 ∷ tool 0xfe5fb823 ∷ []
  -- the first argument is below 7, and the second variable at least 2,147,483,647: the first goes up
  pub guarded : body_of (2 ∷ 300 ∷ [])
      (record {
        conds = record { left = Argument 0; cmp = Lt; right = 7 } ∷ record { left = Counter 1; cmp = Ge; right = 2147483647 } ∷ [];
        act = Up 0;
      } ∷ [])
      ≡ tool 0x00000fb7 ∷ tool 0x007f8f9b ∷ tool 0x03f57463 ∷ tool 0x00001fb7 ∷ tool 0x960fb283 ∷ tool 0x80000fb7
      ∷ tool 0xffff8f9b ∷ tool 0x01f2ea63 ∷ tool 0x00000fb7 ∷ tool 0x010fb283 ∷ tool 0x00128293 ∷ tool 0x005fb823 ∷ []
  -- the branches over four words where the other comparisons fail
  pub equal : word_of (unless Eq 5 20) ≡ 0x01f29a63
  pub other : word_of (unless Ne 5 20) ≡ 0x01f28a63
  pub above : word_of (unless Gt 5 20) ≡ 0x005ffa63
  pub at_most : word_of (unless Le 5 20) ≡ 0x005fea63
  -- where a timer has no start, a stop leaves the bank as it is
  pub idle_stop : (at ticks : ℕ) (x : Bench) → Stands (body_of (2 ∷ []) (always (Stop 0) ∷ [])) at x → slice_index x.bank 3 ≡ 0
      → bank_at_end (body_of (2 ∷ []) (always (Stop 0) ∷ [])) at x ticks ≡ x.bank
