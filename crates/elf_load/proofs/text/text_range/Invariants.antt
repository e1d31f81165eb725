use Rattle.std.proofs.Common.{◌≡◌, ◌<◌, drop}
use Rattle.std.specs.Prelude.{fold, filter, IfSome}
use Rattle.elf_form.specs.Texts.{is_text, widened, text_range}
use Rattle.elf_load.proofs.text.text_range.Given as goal

abbrev pub invariant-loop-section : goal.invariant-loop-section
invariant-loop-section l = record {
  range : fold widened l.range (filter is_text (drop l.section-index l.sections)) ≡ text_range l.sections;
  positive : IfSome l.range (λ r. r.at < r.end);
}
