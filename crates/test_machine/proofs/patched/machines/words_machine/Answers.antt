use Rattle.std.proofs.Common.{◌≡◌, None, sym, subst}
use Rattle.pn_types.specs.Images.{text_of}
use Rattle.pn_types.specs.declared.image.Image.{Image}
use Rattle.rv_word.specs.Names.{scratch_in, words_of}
use Rattle.test_examples.proofs.HartInside.{hart_inside}
use Rattle.test_machine.proofs.patched.machines.words_machine.Goals as goal

pub new-requires-clause-unscratched : goal.new-requires-clause-unscratched
new-requires-clause-unscratched c = subst (λ (i : Image). scratch_in (words_of (text_of i)) i.text_at ≡ None) (sym c.in_ok-image.ensures) hart_inside.program.unscratched
