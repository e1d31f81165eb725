use Rattle.std.proofs.Common.{◌≡◌, ℕ, ◌+◌, ◌-◌, ◌==◌, length, ap, ◌∙◌, arith}
use Rattle.std.proofs.lemmas.List.Splits.{length-slice_split}
use Rattle.advice.specs.Words.{word_at, words}
use Rattle.report_lines.proofs.histograms.last_at.Goals as goal

pub returns : goal.returns
returns c =
    let line = c.args.line.now in
    let place : c.saturating_sub.result ≡ length (words line) - (c.args.behind + 1) = omega (arith, length-slice_split (λ (byte : ℕ). byte == 32) line) in
    c.word_at.ensures ∙ ap (λ (k : ℕ). word_at k line) place
