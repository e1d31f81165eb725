-- Rows that are computed from the definitions and known from elsewhere.
use Rattle.std.specs.Prelude.{◌≡◌, ℕ, Some, None, [], ◌∷◌}
use Rattle.pn_types.specs.declared.plan.Act.TheVariants.{Up}
use Rattle.tramp_spec.specs.Marks.{own, tool, leave}
use Rattle.tramp_spec.specs.MovedWords.{moved_of}
use Rattle.tramp_spec.specs.Blocks.{base_words, mini_words}
use Rattle.tramp_spec.specs.Statements.{body_of}

pub record MovedRows : Type 0 where
  -- jalr ra, 16(ra)
  pub jalr : moved_of 0x010080e7 0x10004 0x1100c ≡ Some (tool 0x01008f93 ∷ tool 0x000100b7 ∷ tool 0x0080809b ∷ own 0x000f8067 ∷ [])
  -- beq a0, x0, +8
  pub branch : moved_of 0x00050463 0x10018 0x1100c ≡ Some (own 0x00050463 ∷ leave 0x80cff06f ∷ leave 0x80cff06f ∷ [])
  -- jal ra, +16
  pub jal : moved_of 0x010000ef 0x10000 0x1100c ≡ Some (tool 0x000100b7 ∷ tool 0x0040809b ∷ own 0xffdfe06f ∷ [])
  -- auipc ra, 0
  pub auipc : moved_of 0x00000097 0x10000 0x1100c ≡ Some (tool 0x000100b7 ∷ own 0x0000809b ∷ leave 0xff1fe06f ∷ [])
  -- beq x0, x0, +6
  pub unmovable : (to : ℕ) → moved_of 0x00000363 0x10004 to ≡ None

-- at 0x11000 and 0x11010, for `ret` at 0x10010 and one counter on slot 2
pub record CodeRows : Type 0 where
  pub base : base_words 0x11000 0x11010 (own 0x00008067 ∷ []) ≡ tool 0x00503423 ∷ tool 0x00c0006f ∷ tool 0x00803283 ∷ own 0x00008067 ∷ []
  pub ret : moved_of 0x00008067 0x10010 0x1100c ≡ Some (own 0x00008067 ∷ [])
  pub mini : mini_words 0x11010 (body_of (2 ∷ []) (record { conds = []; act = Up 0 } ∷ [])) 0x11008
      ≡ tool 0x00000fb7 ∷ tool 0x010fb283 ∷ tool 0x00128293 ∷ tool 0x005fb823 ∷ tool 0xfe9ff06f ∷ []
