-- For proofs alone: what the code's draft holds, with names and strings as lists.
use Rattle.std.specs.Prelude.{◌≡◌, ℕ, ◌+◌, List}
use Rattle.rv_asm.specs.FirstPass.{Placed, Declaration, text_start, data_start, len_all}
use Rattle.rv_asm.specs.declared.draft.Placed.{Placed as CodePlaced}
use Rattle.rv_asm.specs.declared.draft.Declaration.{Declaration as CodeDeclaration}

abbrev pub placed_seen : CodePlaced → Placed
placed_seen p = record { line = p.line; at = p.at; statement = p.statement; text = p.text.now }

abbrev pub declaration_seen : CodeDeclaration → Declaration
declaration_seen m = record { name = m.name.now; kind = m.kind; at = m.at; «module» = m.module.now }

-- where the sections of these statements end
pub record AreEnds (text_end data_end : ℕ) (text_part data_part : List Placed) : Type 0 where
  pub text_ends : text_end ≡ text_start + len_all text_part
  pub data_ends : data_end ≡ data_start + len_all data_part
