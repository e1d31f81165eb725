-- How a session begins.
use Rattle.std.specs.Prelude.{Option, Some, None, List, [], ◌∷◌, length}
use Rattle.mdl_check.specs.declared.checked.CheckedWish.{CheckedWish}
use Rattle.instrument.specs.Scenes.{Hands}
use Rattle.instrumented.specs.Instrumented.{repeated}
use Rattle.session_spec.specs.declared.data.RefusedWish.{RefusedWish}
use Rattle.session_spec.specs.Inputs.{Inputs, first_wishes}
use Rattle.session_spec.specs.States.{SessionState, first_kept}
use Rattle.session_spec.specs.Admission.{with_wish}
use Rattle.session_spec.specs.Due.{with_arms}
use Rattle.session_spec.specs.Tests.{with_tests}

abbrev pub with_all : Inputs → List CheckedWish → SessionState → SessionState
with_all i [] k = k
with_all i (w ∷ ws) k = with_all i ws (with_wish i w k)

-- after the wishes at tick 0, in the order of the text
unfoldable pub wished : Inputs → SessionState
wished i = with_all i (first_wishes i) (first_kept i)

abbrev pub first_refused : List RefusedWish → Option RefusedWish
first_refused [] = None
first_refused (r ∷ rs) = Some r

-- The wish by which a session doesn't begin: the first of them that is refused.
abbrev pub bad_pick : Inputs → Option RefusedWish
bad_pick i = first_refused (wished i).refused

-- the whole agenda is done
unfoldable pub with_agenda : SessionState → SessionState
with_agenda k = record k { machine = repeated (length k.machine.placer.book.agenda) Hands k.machine }

-- The opening: the wishes at tick 0, the first nodes of the search, the whole agenda, and then each instrument is armed.
abbrev pub opening_state : Inputs → SessionState
opening_state i = with_arms (with_agenda (with_tests i (wished i)))
