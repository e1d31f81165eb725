-- What is due where a session can't be opened.
use Rattle.std.proofs.Common.{◌≡◌, Option, Some, None, Ok, Err, ap, ◌∙◌}
use Rattle.refusals.specs.Refusals.{Comes, RefusalIs, Step}
use Rattle.refusals.specs.declared.fault.Fault.{Fault}
use Rattle.refusals.specs.declared.refusal.Refusal.{Refusal}
use Rattle.refusals.specs.declared.refusal.Refusal.TheVariants as refusal
use Rattle.session_spec.specs.Inputs.{Inputs}
use Rattle.session_spec.specs.Opening.{bad_pick}
use Rattle.session_spec.specs.declared.data.RefusedWish.{RefusedWish}
use Rattle.commands.specs.Given.{IsPickFault, pick_fault}
use Rattle.commands.specs.Runs.{IsOpened}
use Rattle.commands.specs.declared.texts.Texts.{Texts}

picked : (pick : Option RefusedWish) (i : Inputs) (comes : Step Texts) (wish : RefusedWish) (fault : Fault) → pick ≡ Some wish → fault ≡ pick_fault i wish → IsOpened pick i comes (Err fault)
picked None i comes wish fault e is = absurd (cc)
picked (Some other) i comes wish fault e is = let same : wish ≡ other = cc in ap (λ (f : Fault). Err f) (is ∙ ap (pick_fault i) same)

-- the refusal of a wish is what is due, whatever would come of the session
pub unopened_is : (i : Inputs) (comes : Step Texts) (e : Refusal) → RefusalIs e (IsPickFault i) → Comes (Err e) (IsOpened (bad_pick i) i comes)
unopened_is i comes (refusal.Fault fault) (wish, is, same) = picked (bad_pick i) i comes wish fault is same
unopened_is i comes refusal.NoMemory h = tt

-- what comes of a session that opened is due
pub opened_is : (pick : Option RefusedWish) (i : Inputs) (comes : Step Texts) (texts : Texts) → pick ≡ None → comes (Ok texts) → IsOpened pick i comes (Ok texts)
opened_is None i comes texts e h = h
opened_is (Some wish) i comes texts e h = absurd (cc)
