-- The shipped configuration has small statements.
use Rattle.std.proofs.Common.{ℕ, arith}
use Rattle.std.specs.List.{AllByRecursion}
use Rattle.pn_types.specs.declared.compare.Cmp.{Cmp}
use Rattle.mdl_ast.specs.Small.{IsSmallRight, IsSmallAction, IsSmall, AreSmall, HasSmall}
use Rattle.mdl_ast.specs.declared.action.Action.{Action}
use Rattle.mdl_ast.specs.declared.action.RightSide.{RightSide}
use Rattle.mdl_ast.specs.declared.action.Statement.{Statement}
use Rattle.mdl_ast.specs.declared.block.EventKind.{EventKind}
use Rattle.mdl_ast.specs.declared.block.EventKind.TheVariants.{Entry}
use Rattle.mdl_ast.specs.declared.block.Set.{Set}
use Rattle.mdl_ast.specs.declared.block.Set.TheVariants.{All}
use Rattle.pn_types.specs.declared.compare.Cmp.TheVariants.{Eq, Lt}
use Rattle.std.specs.Prelude.{Bool, true}
use Rattle.mdl_shipped.specs.Shipped.{plain, when_arg, before, around, in_proc, proc_entries, proc_calls, proc_time, on_object, procedure_calls, calls_made, cpu_inclusive, cpu, sync_wait, io_wait, small_io, shipped_conf}

plain_small : (a : Action) → IsSmallAction a → IsSmall (plain a)
plain_small a h = record { few = omega arith; rights = tt; act = h }

when_small : (n : ℕ) (cmp : Cmp) (right : RightSide) (a : Action) → IsSmallRight right → IsSmallAction a → IsSmall (when_arg n cmp right a)
when_small n cmp right a r h = record { few = omega arith; rights = (r, tt); act = h }

before_small : (s : Set) (kind : EventKind) (constrained : Bool) (one : Statement) → IsSmall one → AreSmall (before s kind constrained one)
before_small s kind constrained one h = (((h, tt), tt), tt)

around_small : (s : Set) (constrained : Bool) (one two : Statement) → IsSmall one → IsSmall two → AreSmall (around s constrained one two)
around_small s constrained one two h g = (((h, tt), ((g, tt), tt)), tt)

pub shipped_small : AllByRecursion HasSmall shipped_conf.items
unfolding shipped_conf in_proc proc_entries proc_calls proc_time on_object procedure_calls calls_made cpu_inclusive cpu sync_wait io_wait small_io
shipped_small = (
  tt,
  (
    around_small All true _ _ (plain_small _ tt) (plain_small _ tt),
    (
      before_small All Entry true _ (plain_small _ tt),
      (
        before_small All Entry true _ (plain_small _ tt),
        (
          around_small All true _ _ (plain_small _ tt) (plain_small _ tt),
          (
            around_small All true _ _ (when_small 0 Eq _ _ tt (omega arith)) (plain_small _ (omega arith)),
            (
              before_small All Entry true _ (plain_small _ tt),
              (
                before_small All Entry true _ (plain_small _ tt),
                (
                  tt,
                  (
                    around_small All true _ _ (plain_small _ tt) (plain_small _ tt),
                    (
                      around_small All true _ _ (plain_small _ tt) (plain_small _ tt),
                      (
                        around_small All true _ _ (plain_small _ tt) (plain_small _ tt),
                        (
                          before_small All Entry true _ (when_small 2 Lt _ _ (omega arith) tt),
                          (tt, (tt, (tt, (tt, tt)))),
                        ),
                      ),
                    ),
                  ),
                ),
              ),
            ),
          ),
        ),
      ),
    ),
  ),
)
