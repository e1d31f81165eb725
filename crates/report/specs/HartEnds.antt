-- How a hart ended.
use Rattle.std.specs.Prelude.{Bool, true, false, Option, Some, None}
use Rattle.pn_types.specs.declared.stop.StopText.{StopText}
use Rattle.pn_types.specs.declared.stop.StopText.TheVariants.{Cut, Budget, Exit, Illegal, Break, Misaligned, Access, TextAccess, FetchOutside}
use Rattle.rv_word.specs.declared.outcome.Cause.{Cause}
use Rattle.rv_word.specs.declared.outcome.Cause.TheVariants as cause

-- it stopped; or it could still go on, and the run was cut; or its ticks reached the budget
abbrev pub hart_end : Option Cause → Bool → StopText
hart_end None true = Cut
hart_end None false = Budget
hart_end (Some (cause.Exit status)) going = Exit status
hart_end (Some cause.Illegal) going = Illegal
hart_end (Some cause.Break) going = Break
hart_end (Some cause.Misaligned) going = Misaligned
hart_end (Some (cause.Access at)) going = Access at
hart_end (Some (cause.TextAccess at)) going = TextAccess at
hart_end (Some cause.FetchOutside) going = FetchOutside
