-- For proofs alone: the words of blocks in the tool text.
use Rattle.std.specs.Prelude.{ℕ, ◌^◌, ◌<◌, ◌==◌, if◌then◌else◌, IsTrue, Bool, false, Option, Some, None, List, [], ◌∷◌}
use Rattle.rv_word.specs.Plain.{Words}
use Rattle.tramp_spec.specs.Codes.{is_tool_word}
use Rattle.code_store.specs.Owners.{Owners, owners_without}
use Rattle.code_store.specs.Stores.{IsInToolText}
use Rattle.machine.specs.Cores.{Row}
use Rattle.machine.specs.Effects.{is_kept}
use Rattle.machine.specs.Events.{link_at}

-- the words of a block are words of the tool text
abbrev pub IsInText : Words → Row → Type 0
IsInText program r = IsInToolText program r.at r.len

-- the word that leads from a block to the next is one of them
pub record HasLink (program : Words) (r : Row) : Type 0 where
  pub small : link_at r < 2 ^ 64
  pub word : IsTrue (is_tool_word program (link_at r))

-- the words of the point's retired blocks belong to no block
abbrev pub owners_left : ℕ → List Row → Owners → Owners
owners_left p [] owners = owners
owners_left p (r ∷ rs) owners = owners_left p rs (if is_kept p r then owners else owners_without r.at r.len owners)

-- the owner is the point
abbrev pub is_of : ℕ → Option ℕ → Bool
is_of p None = false
is_of p (Some q) = q == p
