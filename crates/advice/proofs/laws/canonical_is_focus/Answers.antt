use Rattle.advice.proofs.CanonicalFoci.{canonical_is_focus}
use Rattle.advice.proofs.laws.canonical_is_focus.Goals as goal

pub returns : goal.returns
returns c = canonical_is_focus
