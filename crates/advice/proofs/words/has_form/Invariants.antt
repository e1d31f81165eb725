use Rattle.std.proofs.Common.{◌≡◌, length}
use Rattle.advice.specs.Words.{are_as, has_form}
use Rattle.advice.proofs.words.has_form.Given as goal

-- what is left decides
abbrev pub invariant-loop-part : goal.invariant-loop-part
invariant-loop-part l = are_as l.forms l.words ≡ has_form l.form l.line

abbrev pub decreases-loop-part : goal.decreases-loop-part
decreases-loop-part l = length l.forms
