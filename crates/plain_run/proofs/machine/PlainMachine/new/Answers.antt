use Rattle.std.proofs.Common.{◌∙◌, ap, sym, subst, length, ℕ, Option, ◌+◌, ◌*◌, ◌<◌, ◌^◌}
use Rattle.rv_word.specs.Names.{words_of}
use Rattle.plain_run.proofs.Programs.{words_end}
use Rattle.std.proofs.lemmas.List.{length-replicate}
use Rattle.plain_run.proofs.machine.PlainMachine.new.Goals as goal

pub invariant_of-result : goal.invariant_of-result
invariant_of-result c = (
  ap length c.in_ok-new-2.ensures ∙ length-replicate {A = Option ℕ} c.args.harts _ ∙ sym c.in_ok-states.ensures.len,
  subst (λ ws. c.args.image.now.text_at + 4 * length ws < 2 ^ 64) (sym (c.in_ok-words.ensures ∙ ap words_of c.text_bytes.ensures)) (words_end c.args.image.now c.requires.image),
)
