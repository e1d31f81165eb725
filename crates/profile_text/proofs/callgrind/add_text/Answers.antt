use Rattle.std.proofs.Common.{◌≡◌, ℕ, List, ◌++◌, flat_map, ap, ◌∙◌}
use Rattle.std.specs.Prelude.{codes}
use Rattle.profile_text.specs.Callgrind.{callgrind_form, callgrind_summary, executed, function_costs, procedure_costs}
use Rattle.profile_text.specs.NumberedWords.{words_of_none}
use Rattle.profile_text.specs.Totals.{ticks_of}
use Rattle.profile_text.specs.declared.numbered_word.NumberedWord.{NumberedWord}
use Rattle.profile_text.proofs.Joins.{join}
use Rattle.profile_text.proofs.callgrind.add_text.Goals as goal

pub returns : goal.returns
returns c =
    let image = c.args.text.now.image.now in
    let procs = c.args.text.now.procs.now in
    let r = c.args.text.now.profile.now in
    let old = c.args.out.now.items in
    let form = callgrind_form in
    let a = callgrind_summary (ticks_of r) in
    let b = flat_map (procedure_costs image r) procs in
    let d = function_costs (codes "???") (codes "???") (executed (words_of_none image procs r)) in
    let o0 = c.add_form.new.out.items in
    let o1 = c.add_summary.new.out.items in
    let o2 = c.add_procedures.new.out.items in
    let o3 = c.add_function.new.out.items in
    let e0 : o0 ≡ old ++ form = c.in_ok-add_form.ensures in
    let e1 : o1 ≡ o0 ++ a = c.in_ok-add_summary.ensures ∙ ap (λ (n : ℕ). o0 ++ callgrind_summary n) c.ticks_of.ensures in
    let e2 : o2 ≡ o1 ++ b = c.in_ok-add_procedures.ensures in
    let e3 : o3 ≡ o2 ++ d = c.in_ok-add_function.ensures ∙ ap (λ (z : List NumberedWord). o2 ++ function_costs (codes "???") (codes "???") z) c.requires.rest in
    join old o2 o3 ((form ++ a) ++ b) d (join old o1 o2 (form ++ a) b (join old o0 o1 form a e0 e1) e2) e3
