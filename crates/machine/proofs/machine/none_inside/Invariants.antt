use Rattle.std.proofs.Common.{◌≡◌, ℕ, ◌<◌}
use Rattle.std.specs.Prelude.{Some, false, slice_get}
use Rattle.tramp_spec.specs.Harts.{Hart}
use Rattle.machine.proofs.machine.none_inside.Given as goal

abbrev pub invariant-loop-hart : goal.invariant-loop-hart
invariant-loop-hart l = (h : ℕ) (x : Hart) → h < l.hart-index → slice_get l.fn.harts h ≡ Some x → x.inside ≡ false
