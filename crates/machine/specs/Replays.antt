-- Lists of events from a state of the patched machine on.
use Rattle.std.specs.Prelude.{◌≡◌, ℕ, List, [], ◌∷◌, ◌++◌}
use Rattle.machine.specs.Cores.{Core}
use Rattle.machine.specs.Events.{Event, May}
use Rattle.machine.specs.Effects.{after_event, owned}

-- The state after these events.
abbrev pub replay : List Event → Core → Core
replay [] c = c
replay (e ∷ es) c = replay es (after_event c e)

-- Each event may happen when it comes.
abbrev pub Legal : List Event → Core → Type 0
Legal [] c = Unit {0}
Legal (e ∷ es) c = May c e × Legal es (after_event c e)

-- The harts whose turns were ticks, in order: the program's own run.
abbrev pub owns : List Event → Core → List ℕ
owns [] c = []
owns (e ∷ es) c = owned c e ++ owns es (after_event c e)

-- these events, and then those
pub record GoOn (es others : List Event) (c : Core) : Type 0 where
  pub state : replay (es ++ others) c ≡ replay others (replay es c)
  pub owned : owns (es ++ others) c ≡ owns es c ++ owns others (replay es c)
  pub legal : Legal es c → Legal others (replay es c) → Legal (es ++ others) c
  pub parts : Legal (es ++ others) c → Legal es c × Legal others (replay es c)
