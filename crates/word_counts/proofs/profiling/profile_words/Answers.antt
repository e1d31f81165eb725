use Rattle.std.proofs.Common.{◌≡◌, ℕ, ◌+◌, ◌-◌, ◌*◌, List, Option, length, ap, sym, ◌∙◌, arith, None}
use Rattle.std.specs.Prelude.{sum, map}
use Rattle.block_count.specs.Course.{Pace}
use Rattle.word_flow.specs.Numbers.{numbers_of, told_ticks}
use Rattle.word_flow.specs.declared.hart_end.HartEnd.{HartEnd}
use Rattle.word_counts.specs.Stops.{end_of_stop}
use Rattle.word_counts.specs.Placing.{count_at}
use Rattle.word_counts.proofs.Results.{same_lengths, ticks_few, is_profile}
use Rattle.word_counts.proofs.profiling.profile_words.Goals as goal

pub counts_of_words-requires-clause-counts : goal.counts_of_words-requires-clause-counts
counts_of_words-requires-clause-counts c =
    let p : Pace = record { harts = c.args.harts; turns = c.args.quantum; seed = c.args.seed } in
    ap length c.as_slice.ensures
    ∙ same_lengths c.args.image.now c.args.procs.now c.args.budget p c.in_ok-counts.counts c.in_ok-counts.ensures.counted c.deref.result.now
    (c.deref.ensures.value ∙ c.in_ok-heads.ensures.heads)

pub total-ticks-requires : goal.total-ticks-requires
total-ticks-requires c =
    let p : Pace = record { harts = c.args.harts; turns = c.args.quantum; seed = c.args.seed } in
    let few = ticks_few c.args.image.now c.args.procs.now c.args.budget p c.in_ok-counts.counts c.in_ok-counts.ensures.counted
    c.requires.harts c.requires.budget in
    let e = ap sum c.as_slice-3.ensures in
    omega arith

pub returns-clause-profile : goal.returns-clause-profile
returns-clause-profile c =
    let image = c.args.image.now in
    let at = image.text_at in
    let p : Pace = record { harts = c.args.harts; turns = c.args.quantum; seed = c.args.seed } in
    let ws : List ℕ = c.in_ok-words.words.items in
    let cs : List (Option ℕ) = c.in_ok-word_counts.word_counts.items in
    let es : List HartEnd = c.in_ok-ends.ends.items in
    let counted = c.in_ok-counts.ensures.counted in
    let small = ticks_few image c.args.procs.now c.args.budget p c.in_ok-counts.counts counted c.requires.harts c.requires.budget in
    let few : length ws ≡ c.len.result = sym (ap length c.deref-2.ensures.value) ∙ (c.deref-2.ensures.len ∙ sym c.len.ensures) in
    is_profile image c.args.procs.now c.args.budget p c.in_ok-counts.counts counted small
    cs c.deref.result.now ws es c.from_vec.result c.untold_ticks-untold.result
    c.in_ok-words.ensures.words
    (let l = c.in_ok-words.ensures.low in omega arith)
    (c.deref.ensures.value ∙ c.in_ok-heads.ensures.heads)
    (c.in_ok-word_counts.ensures.len ∙ sym few)
    (λ k f.
    c.in_ok-word_counts.ensures.counts k (omega arith)
    ∙ ap (λ z. count_at None c.deref.result.now z (at + 4 * k)) c.as_slice.ensures)
    (c.in_ok-ends.ensures ∙ ap (map end_of_stop) c.as_slice-2.ensures)
    (c.from_vec.ensures
    ∙ (c.in_ok-numbers.ensures
    ∙ (ap (λ z. numbers_of (record { at = at; words = c.deref-2.result.now }) z c.deref-3.result.now) c.deref-4.ensures.value
    ∙ (ap (λ z. numbers_of (record { at = at; words = c.deref-2.result.now }) es z) c.deref-3.ensures.value
    ∙ ap (λ z. numbers_of (record { at = at; words = z }) es cs) c.deref-2.ensures.value))))
    (c.untold_ticks-untold.ensures
    ∙ (ap (λ z. z - told_ticks (record { at = at; words = c.deref-5.result.now }) c.deref-6.result.now c.deref-7.result.now)
    (c.total-ticks.ensures ∙ ap sum c.as_slice-3.ensures)
    ∙ ap (λ z. sum c.in_ok-counts.counts.ticks - z)
    (ap (λ z. told_ticks (record { at = at; words = z }) c.deref-6.result.now c.deref-7.result.now) c.deref-5.ensures.value
    ∙ (ap (λ z. told_ticks (record { at = at; words = ws }) z c.deref-7.result.now) c.deref-6.ensures.value
    ∙ ap (λ z. told_ticks (record { at = at; words = ws }) es z) (c.deref-7.ensures.value ∙ sym c.from_vec.ensures)))))
