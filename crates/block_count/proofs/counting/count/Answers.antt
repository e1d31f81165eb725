use Rattle.std.proofs.Common.{◌≡◌, ◌≤◌, List, ap, sym, ◌∙◌, subst, map, length, arith}
use Rattle.std.proofs.lemmas.List.{length-map}
use Rattle.machine.specs.Cores.{Core, start_core}
use Rattle.machine.specs.Laws.{IsProgram}
use Rattle.machine.specs.Replays.{Legal, replay}
use Rattle.block_count.specs.Course.{Pace, beginning, turns_of}
use Rattle.block_count.specs.Counters.{Counter}
use Rattle.block_count.specs.Readings.{counts_read, stops_seen, ticks_seen}
use Rattle.block_count.specs.CountedBlocks.{counters_in, counters_of}
use Rattle.block_count.proofs.Answered.{answered, begun, settled}
use Rattle.block_count.proofs.Courses.{begins, first_len}
use Rattle.block_count.proofs.Sampled.{counts_are}
use Rattle.block_count.proofs.counting.count.Goals as goal

pub begun-requires-clause-may : goal.begun-requires-clause-may
begun-requires-clause-may c =
    let image = c.args.image.now in
    let procs = c.args.procs.now in
    let ks : List Counter = map (λ k. k.now) c.deref-2.result.now in
    let are : ks ≡ counters_of image procs = ap (map (λ k. k.now)) c.deref-2.ensures.value ∙ c.in_ok-counters.ensures.counters ∙ ap counters_in (c.deref.ensures.value ∙ c.in_ok-blocks.ensures.blocks) in
    let few : length (counters_of image procs) ≤ 4094 = omega (arith, length-map c.deref-2.result.now (λ k. k.now), ap length are, c.deref-2.ensures.len, c.len.ensures, c.if-len-gt-MAX_COUNTERS.false) in
    subst (λ xs. Legal (beginning xs) (start_core image c.args.harts c.args.budget)) (sym are) (begins image procs c.args.harts c.args.budget c.requires.image few).legal

pub take_turns-requires-clause-harts : goal.take_turns-requires-clause-harts
take_turns-requires-clause-harts c =
    let image = c.args.image.now in
    let procs = c.args.procs.now in
    let ks : List Counter = map (λ k. k.now) c.deref-2.result.now in
    let are : ks ≡ counters_of image procs = ap (map (λ k. k.now)) c.deref-2.ensures.value ∙ c.in_ok-counters.ensures.counters ∙ ap counters_in (c.deref.ensures.value ∙ c.in_ok-blocks.ensures.blocks) in
    let few : length (counters_of image procs) ≤ 4094 = omega (arith, length-map c.deref-2.result.now (λ k. k.now), ap length are, c.deref-2.ensures.len, c.len.ensures, c.if-len-gt-MAX_COUNTERS.false) in
    let first = start_core image c.args.harts c.args.budget in
    sym (ap (λ (d : Core). length d.harts) (c.in_ok-machine.ensures.begun ∙ ap (λ xs. replay (beginning xs) first) are) ∙ ((begins image procs c.args.harts c.args.budget c.requires.image few).len ∙ first_len image c.args.harts c.args.budget))

pub read-requires-clause-harts : goal.read-requires-clause-harts
read-requires-clause-harts c =
    let image = c.args.image.now in
    let procs = c.args.procs.now in
    let ks : List Counter = map (λ k. k.now) c.deref-2.result.now in
    let are : ks ≡ counters_of image procs = ap (map (λ k. k.now)) c.deref-2.ensures.value ∙ c.in_ok-counters.ensures.counters ∙ ap counters_in (c.deref.ensures.value ∙ c.in_ok-blocks.ensures.blocks) in
    let few : length (counters_of image procs) ≤ 4094 = omega (arith, length-map c.deref-2.result.now (λ k. k.now), ap length are, c.deref-2.ensures.len, c.len.ensures, c.if-len-gt-MAX_COUNTERS.false) in
    let first = start_core image c.args.harts c.args.budget in
    sym (c.take_turns.ensures.harts ∙ (ap (λ (d : Core). length d.harts) (c.in_ok-machine.ensures.begun ∙ ap (λ xs. replay (beginning xs) first) are) ∙ ((begins image procs c.args.harts c.args.budget c.requires.image few).len ∙ first_len image c.args.harts c.args.budget)))

pub returns-clause-counted : goal.returns-clause-counted
returns-clause-counted c =
    let image = c.args.image.now in
    let procs = c.args.procs.now in
    let p : Pace = record { harts = c.args.harts; turns = c.args.quantum; seed = c.args.seed } in
    let ks : List Counter = map (λ k. k.now) c.deref-2.result.now in
    let are : ks ≡ counters_of image procs = ap (map (λ k. k.now)) c.deref-2.ensures.value ∙ c.in_ok-counters.ensures.counters ∙ ap counters_in (c.deref.ensures.value ∙ c.in_ok-blocks.ensures.blocks) in
    let few : length (counters_of image procs) ≤ 4094 = omega (arith, length-map c.deref-2.result.now (λ k. k.now), ap length are, c.deref-2.ensures.len, c.len.ensures, c.if-len-gt-MAX_COUNTERS.false) in
    let first = start_core image c.args.harts c.args.budget in
    let program : IsProgram image = record { image = c.requires.image; narrow = c.in_ok-blocks.ensures.narrow; unscratched = c.requires.unscratched } in
    let begins_at : c.in_ok-machine.machine.core ≡ begun image procs c.args.budget p = c.in_ok-machine.ensures.begun ∙ ap (λ xs. replay (beginning xs) first) are in
    let end : c.take_turns.new.machine.core ≡ settled image procs c.args.budget p = c.in_ok-take_turns.ensures.taken ∙ ap (λ d. replay (turns_of p d) d) begins_at in
    answered image procs c.args.budget p c.in_ok-read.field-0 program few (counts_are image procs c.args.budget p program few c.requires.budget)
    (c.in_ok-read.ensures.ticks ∙ ap ticks_seen end)
    (c.in_ok-read.ensures.stops ∙ ap (stops_seen c.args.budget) end)
    (c.in_ok-read.ensures.counts ∙ ap (λ d. counts_read d c.deref-3.result.now) end ∙ ap (counts_read (settled image procs c.args.budget p)) (c.deref-3.ensures.value ∙ c.in_ok-blocks.ensures.blocks))
