-- Whether a site of an instrument is linked: its mini block is live, and a jump that enters stands at its point.
use Rattle.std.specs.Prelude.{ℕ, ◌==◌, ◌&&◌, not, Bool, true, false, Option, Some, None}
use Rattle.pn_types.specs.declared.placed.PlacedSite.{PlacedSite}
use Rattle.tramp_spec.specs.Codes.{fetched_at}
use Rattle.tramp_spec.specs.declared.mark.Mark.{Mark}
use Rattle.tramp_spec.specs.declared.mark.Mark.TheVariants.{Own, Enter, Tool, Leave}
use Rattle.tramp_spec.specs.declared.mark.MarkedWord.{MarkedWord}
use Rattle.machine.specs.Cores.{Row, Core, is_live}
use Rattle.machine.specs.Events.{row_at}

-- a block is a live mini block of a point
abbrev pub is_live_mini : ℕ → Option Row → Bool
is_live_mini p None = false
is_live_mini p (Some r) = not r.base && ((r.point == p) && is_live r.status)

abbrev pub is_enter : Mark → Bool
is_enter Enter = true
is_enter Own = false
is_enter Tool = false
is_enter Leave = false

-- a word enters
abbrev pub enters : Option MarkedWord → Bool
enters None = false
enters (Some w) = is_enter w.mark

abbrev pub is_site_linked : Core → PlacedSite → Bool
is_site_linked c s = is_live_mini s.at (row_at c.rows s.mini) && enters (fetched_at c.program c.code s.at false)
