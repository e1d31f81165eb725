-- For proofs alone: the parts of a machine as the definitions have them.
use Rattle.std.specs.Prelude.{◌≡◌, ℕ, ◌<◌, ◌≤◌, ◌^◌, List, length}
use Rattle.pn_types.specs.declared.limits.TheConstants.{MAX_HARTS}
use Rattle.rv_word.specs.Exec.{Prog}
use Rattle.tramp_spec.specs.Harts.{Hart}
use Rattle.code_store.specs.Stores.{StoredCode}
use Rattle.machine.specs.Cores.{Status, Written, Live, Retired, Row, Core}
use Rattle.machine.specs.Reached.{IsReached, AreOwners}
use Rattle.machine.specs.declared.block_row.BlockStatus.{BlockStatus}
use Rattle.machine.specs.declared.block_row.BlockStatus.TheVariants as status
use Rattle.machine.specs.declared.block_row.BlockRow.{BlockRow}

abbrev pub status_of : BlockStatus → Status
status_of status.Written = Written
status_of status.Live = Live
status_of status.Retired = Retired

abbrev pub row_of : BlockRow → Row
row_of r = record { point = r.point; at = r.at; len = r.len; base = r.base; status = status_of r.status }

-- the rows, and for how many more there is room
pub record BlockList : Type 0 where
  pub rows : List Row
  pub room : ℕ

abbrev pub core_of : List Hart → Prog → StoredCode → List Row → ℕ → Core
core_of harts prog store rows budget =
    record { program = store.program; budget = budget; harts = harts; prog = prog; code = store.code; rows = rows }

-- the parts of a machine fit each other
pub record AreMachineParts (harts : List Hart) (prog : Prog) (store : StoredCode) (rows : List Row) (budget : ℕ) : Type 0 where
  pub reached : IsReached (core_of harts prog store rows budget)
  pub owners : AreOwners store.owners rows
  pub reservations : length prog.resv ≡ length harts
  pub few : length harts ≤ MAX_HARTS
  pub countable : budget < 2 ^ 64
