use Rattle.std.proofs.Common.{◌≡◌, drop}
use Rattle.tramp_spec.specs.Slots.{places, places_of, set_places}
use Rattle.machine.proofs.slots.set_variables.Given as goal

-- the variables that are left complete it
abbrev pub invariant-loop-i : goal.invariant-loop-i
invariant-loop-i l = set_places (places (drop l.i l.fn.instrument.slots) (drop l.i l.fn.instrument.vars)) (drop l.i l.fn.values.values) l.fn.ticks l.bank ≡ set_places (places_of l.fn.instrument) l.fn.values.values l.fn.ticks l.fn.bank
