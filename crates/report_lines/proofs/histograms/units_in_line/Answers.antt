use Rattle.std.proofs.Common.{◌≡◌, ℕ, ◌-◌, length, drop, take, ap, ap₂, ◌∙◌, arith}
use Rattle.report_lines.specs.Lines.{back_length, front_length}
use Rattle.advice.specs.Words.{word_at}
use Rattle.report_lines.proofs.Cuts.{drop_thrice}
use Rattle.report_lines.proofs.histograms.units_in_line.Goals as goal

pub returns : goal.returns
returns c =
    let line = c.args.line.now in
    let metric = ap length c.word_at-metric.ensures in
    let focus = ap length c.word_at-focus.ensures in
    let behind_metric = c.bytes_behind.ensures ∙ ap (λ (k : ℕ). drop k line) metric in
    let behind_focus = c.bytes_behind-2.ensures ∙ ap₂ drop focus behind_metric in
    let behind = c.bytes_behind-behind.ensures ∙ ap (drop 18) behind_focus ∙ drop_thrice (length (word_at 1 line)) (length (word_at 2 line)) 18 line in
    let count : c.units_len.result ≡ length line - back_length line - front_length line = omega (arith, metric, focus) in
    c.first_bytes.ensures ∙ ap₂ take count behind
