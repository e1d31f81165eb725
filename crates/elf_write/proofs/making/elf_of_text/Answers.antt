use Rattle.std.proofs.Common.{◌≡◌, ap, ◌∙◌, subst, arith}
use Rattle.elf_form.specs.Meaning.{meaning_of}
use Rattle.elf_write.specs.Layout.{elf_bytes, CanWrite}
use Rattle.elf_write.proofs.ReadAgain.{read_again}
use Rattle.elf_write.proofs.MeantAgain.{assembled_accepted}
use Rattle.elf_write.proofs.Writable.{can_write}
use Rattle.elf_write.proofs.making.elf_of_text.Goals as goal

pub returns-clause-again : goal.returns-clause-again
returns-clause-again c = λ image e entered.
    let same : c.in_ok-image.image ≡ image = cc (e, c.in_ok-image.ensures.meaning) in
    let can : CanWrite image = subst CanWrite same (can_write c.in_ok-image.image _ c.requires c.in_ok-image.ensures.named) in
    ap meaning_of (c.in_ok-write.ensures ∙ ap elf_bytes same) ∙ read_again image (assembled_accepted c.args.text.now image e (omega arith) entered) can
