use Rattle.std.proofs.Common.{◌≡◌, ℕ, suc, ◌-◌, ◌<◌, ◌≤◌, length, take, None, sym, ap, subst, ◌∙◌, arith, rules}
use Rattle.bucket_chains.specs.Left.{present_entries}
use Rattle.instrument.proofs.GivenBack.{IsGiving, giving_begun, giving_more, giving_on, giving_over, reserved, some_words, was_taken}
use Rattle.instrument.proofs.giving.give_behind.Goals as goal

below : (n : ℕ) → 0 < n → n ≡ suc (n - 1)
below n some = omega (arith, some)

none_left : (n : ℕ) → n ≤ 0 → n ≡ 0
none_left n none = omega (arith, none)

pub loop-place-init : goal.loop-place-init
loop-place-init c = subst (IsGiving c.args.count c.args.rooms.now c.args.words.now c.args.rooms.now c.args.words.now) (sym c.places-place.ensures) (giving_begun c.args.count c.args.rooms.now c.args.words.now c.requires.within)

pub at-requires : goal.at-requires
at-requires c = omega (arith, c.loop-place.invariant.within, c.loop-place.invariant.len, c.if-place-gt0.true)

pub give-requires-clause-some : goal.give-requires-clause-some
give-requires-clause-some c = some_words c.args.count c.args.rooms.now c.args.words.now c.loop-place.rooms c.loop-place.words (c.loop-place.place - 1) (subst (IsGiving c.args.count c.args.rooms.now c.args.words.now c.loop-place.rooms c.loop-place.words) (below c.loop-place.place c.if-place-gt0.true) c.loop-place.invariant) c.in-Some.room (sym c.at.ensures ∙ c.in-Some.is) c.requires.tied.0 c.requires.tied.1

pub give-requires-clause-reserved : goal.give-requires-clause-reserved
give-requires-clause-reserved c = reserved c.args.count c.args.rooms.now c.args.words.now c.loop-place.rooms c.loop-place.words (c.loop-place.place - 1) (subst (IsGiving c.args.count c.args.rooms.now c.args.words.now c.loop-place.rooms c.loop-place.words) (below c.loop-place.place c.if-place-gt0.true) c.loop-place.invariant) c.in-Some.room (sym c.at.ensures ∙ c.in-Some.is) c.requires.tied.0 c.requires.tied.1

pub give-requires-clause-taken : goal.give-requires-clause-taken
give-requires-clause-taken c = was_taken c.args.count c.args.rooms.now c.args.words.now c.loop-place.rooms c.loop-place.words (c.loop-place.place - 1) (subst (IsGiving c.args.count c.args.rooms.now c.args.words.now c.loop-place.rooms c.loop-place.words) (below c.loop-place.place c.if-place-gt0.true) c.loop-place.invariant) c.in-Some.room (sym c.at.ensures ∙ c.in-Some.is) c.requires.tied.0 c.requires.tied.1

pub loop-place-smaller-in-Some : goal.loop-place-smaller-in-Some
loop-place-smaller-in-Some c = omega (arith, c.if-place-gt0.true)

pub loop-place-preserved-in-Some : goal.loop-place-preserved-in-Some
loop-place-preserved-in-Some c =
    giving_more c.args.count c.args.rooms.now c.args.words.now c.loop-place.rooms c.loop-place.words (c.loop-place.place - 1) (subst (IsGiving c.args.count c.args.rooms.now c.args.words.now c.loop-place.rooms c.loop-place.words) (below c.loop-place.place c.if-place-gt0.true) c.loop-place.invariant) c.in-Some.room (sym c.at.ensures ∙ c.in-Some.is) c.remove.new.self c.give.new.self c.remove.ensures c.give.ensures (omega (arith, c.loop-place-test.true, c.count.ensures))

pub loop-place-smaller : goal.loop-place-smaller
loop-place-smaller c = omega (arith, c.if-place-gt0.true)

pub loop-place-preserved : goal.loop-place-preserved
loop-place-preserved c =
    let none : c.at.result ≡ None = search rules in
    giving_on c.args.count c.args.rooms.now c.args.words.now c.loop-place.rooms c.loop-place.words (c.loop-place.place - 1) (subst (IsGiving c.args.count c.args.rooms.now c.args.words.now c.loop-place.rooms c.loop-place.words) (below c.loop-place.place c.if-place-gt0.true) c.loop-place.invariant) (sym c.at.ensures ∙ none)

pub returns-else-place-gt0-clause-rooms : goal.returns-else-place-gt0-clause-rooms
returns-else-place-gt0-clause-rooms c =
    let none = subst (λ n. present_entries c.loop-place.rooms.places ≡ present_entries (take n c.args.rooms.now.places)) (none_left c.loop-place.place c.if-place-gt0.false) c.loop-place.invariant.left_is in
    giving_over c.args.count c.args.rooms.now c.args.words.now c.loop-place.rooms c.loop-place.words c.loop-place.place c.loop-place.invariant (omega (arith, ap length none))

pub returns-else-place-gt0-clause-spare : goal.returns-else-place-gt0-clause-spare
returns-else-place-gt0-clause-spare c = c.loop-place.invariant.spare

pub returns-else-place-gt0-clause-tied : goal.returns-else-place-gt0-clause-tied
returns-else-place-gt0-clause-tied c = c.loop-place.invariant.tied

pub returns-else-place-gt0-clause-takes : goal.returns-else-place-gt0-clause-takes
returns-else-place-gt0-clause-takes c = c.loop-place.invariant.takes

pub returns-after-loop-place-clause-rooms : goal.returns-after-loop-place-clause-rooms
returns-after-loop-place-clause-rooms c = giving_over c.args.count c.args.rooms.now c.args.words.now c.loop-place.rooms c.loop-place.words c.loop-place.place c.loop-place.invariant (omega (arith, c.loop-place-test.false, c.count.ensures))

pub returns-after-loop-place-clause-spare : goal.returns-after-loop-place-clause-spare
returns-after-loop-place-clause-spare c = c.loop-place.invariant.spare

pub returns-after-loop-place-clause-tied : goal.returns-after-loop-place-clause-tied
returns-after-loop-place-clause-tied c = c.loop-place.invariant.tied

pub returns-after-loop-place-clause-takes : goal.returns-after-loop-place-clause-takes
returns-after-loop-place-clause-takes c = c.loop-place.invariant.takes
