-- For proofs alone: what is kept of every machine.
use Rattle.std.specs.Prelude.{◌≡◌, ℕ, ◌*◌, Option, List, find}
use Rattle.std.specs.FinMap.{get}
use Rattle.std.specs.Option.{option_map}
use Rattle.pn_types.specs.declared.image.Image.{Image}
use Rattle.tramp_spec.specs.Codes.{is_word_of}
use Rattle.code_store.specs.Owners.{Owners}
use Rattle.machine.specs.Cores.{Row, Core, start_core}
use Rattle.machine.specs.Events.{Event}
use Rattle.machine.specs.Laws.{IsProgram}
use Rattle.machine.specs.Replays.{replay, Legal}

-- some list of events, each of which may happen when it comes, leads to the state
pub record IsReached (c : Core) : Type 0 where
  pub image : Image
  pub many : ℕ
  pub events : List Event
  pub program : IsProgram image
  pub legal : Legal events (start_core image many c.budget)
  pub is : c ≡ replay events (start_core image many c.budget)

-- the point of the block to which the word at an address belongs
abbrev pub owner_by : List Row → ℕ → Option ℕ
owner_by rows a = option_map (λ r. r.point) (find (λ r. is_word_of r.at (4 * r.len) a) rows)

-- the words of the blocks that aren't freed, and no others, belong to their points
abbrev pub AreOwners : Owners → List Row → Type 0
AreOwners owners rows = (a : ℕ) → get owners a ≡ owner_by rows a
