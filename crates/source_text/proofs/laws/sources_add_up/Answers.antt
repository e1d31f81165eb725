use Rattle.std.proofs.Common.{sym, ◌∙◌}
use Rattle.rv_mem.specs.Start.{program_of}
use Rattle.rv_word.specs.Memory.{in_range}
use Rattle.profile_text.specs.NumberedWords.{words_of_procedure}
use Rattle.profile_text.proofs.Ranges.{sum_at-with_numbers}
use Rattle.source_text.proofs.Adding.{all_add_up, any_add_up, sources_rise}
use Rattle.source_text.proofs.laws.sources_add_up.Goals as goal

pub returns : goal.returns
returns c = λ rows image r p fits.
    let words = words_of_procedure image r p in
    record {
      rise = sources_rise rows words;
      any = λ test. any_add_up test rows words;
      all = all_add_up rows words ∙ sym (sum_at-with_numbers (in_range p.start p.len) image.text_at (program_of image).words r.numbers fits.numbers);
    }
