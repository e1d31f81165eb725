use Rattle.std.proofs.Common.{◌≡◌, ℕ, List, [], ◌++◌, length, flat_map, ap, ◌∙◌}
use Rattle.std.specs.Prelude.{if◌then◌else◌}
use Rattle.report.specs.Text.{hart_lines}
use Rattle.block_count.specs.Texts.{parts_of}
use Rattle.profile_text.specs.Lines.{call_lines, loop_lines, procedure_line, profile_line, rest_line, word_lines}
use Rattle.profile_text.specs.NumberedWords.{numbered_words, words_of_none}
use Rattle.profile_text.specs.Rows.{Row, rows_of}
use Rattle.profile_text.specs.Totals.{ticks_of_none}
use Rattle.profile_text.specs.declared.numbered_word.NumberedWord.{NumberedWord}
use Rattle.profile_text.proofs.Joins.{join}
use Rattle.profile_text.proofs.lines.add_lines.Goals as goal

pub returns : goal.returns
returns c =
    let image = c.args.text.now.image.now in
    let procs = c.args.text.now.procs.now in
    let r = c.args.text.now.profile.now in
    let old = c.args.out.now.items in
    let a = profile_line image r ++ hart_lines 0 (parts_of r.counts) in
    let b = flat_map procedure_line (rows_of image procs r) in
    let d = rest_line (length (words_of_none image procs r)) (ticks_of_none image procs r) in
    let e = flat_map (call_lines procs) (numbered_words image r) in
    let f = flat_map (loop_lines image procs r) (numbered_words image r) in
    let g = if c.args.has_words then word_lines image procs r else [] in
    let o1 = c.add_run_and_harts.new.out.items in
    let o2 = c.add_rows.new.out.items in
    let o3 = c.add_rest.new.out.items in
    let o4 = c.add_calls.new.out.items in
    let o5 = c.add_loops.new.out.items in
    let o6 = c.add_words_if.new.out.items in
    let e1 : o1 ≡ old ++ a = c.in_ok-add_run_and_harts.ensures in
    let e2 : o2 ≡ o1 ++ b = c.in_ok-add_rows.ensures ∙ ap (λ (z : List Row). o1 ++ flat_map procedure_line z) c.requires.rows in
    let e3 : o3 ≡ o2 ++ d = c.in_ok-add_rest.ensures ∙ ap (λ (n : ℕ). o2 ++ rest_line n c.ticks_of_none.result) (ap (λ (z : List NumberedWord). length z) c.requires.rest)
    ∙ ap (λ (n : ℕ). o2 ++ rest_line (length (words_of_none image procs r)) n) c.ticks_of_none.ensures in
    let e4 : o4 ≡ o3 ++ e = c.in_ok-add_calls.ensures ∙ ap (λ (z : List NumberedWord). o3 ++ flat_map (call_lines procs) z) c.requires.text.words in
    let e5 : o5 ≡ o4 ++ f = c.in_ok-add_loops.ensures ∙ ap (λ (z : List NumberedWord). o4 ++ flat_map (loop_lines image procs r) z) c.requires.text.words in
    let e6 : o6 ≡ o5 ++ g = c.in_ok-add_words_if.ensures in
    join old o5 o6 ((((a ++ b) ++ d) ++ e) ++ f) g
    (join old o4 o5 (((a ++ b) ++ d) ++ e) f
    (join old o3 o4 ((a ++ b) ++ d) e
    (join old o2 o3 (a ++ b) d
    (join old o1 o2 a b e1 e2) e3) e4) e5) e6
