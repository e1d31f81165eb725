use Rattle.std.proofs.Common.{◌≡◌, ◌+◌, ◌<◌, None, Some, length, get_or, set, sym, ap, subst, ◌∙◌, arith}
use Rattle.std.specs.Vec.{vec_len, vec_capacity}
use Rattle.bucket_chains.specs.Entries.{IsFirst}
use Rattle.bucket_chains.specs.Chained.{IsNextBelow, IsChained, HasEnds, HasRoom}
use Rattle.bucket_chains.specs.declared.chains.TheConstants.{BUCKETS}
use Rattle.bucket_chains.proofs.Places.{within}
use Rattle.bucket_chains.proofs.RemovedEntry.{reads}
use Rattle.bucket_chains.proofs.Removed.{Backward, both, first_leaves, later_leaves, last_leaves, earlier_leaves}
use Rattle.bucket_chains.proofs.chains.Chains.remove.Goals as goal
use Rattle.bucket_chains.proofs.chains.Chains.remove.Goals.{in-Some-before, in-None}

pub index_mut-requires-in-Some-before : goal.index_mut-requires-in-Some-before
index_mut-requires-in-Some-before c =
    let s = c.self.inside in
    let es = s.buckets.items in
    let b = c.in-Some.bucket in
    let place = c.args.place in
    let chained = c.self.invariant.0 in
    let e = reads s b place c.index.result.now c.index-next.result.now c.index-before.result.now chained (omega (arith, c.requires, ap length (ap (λ v. v.buckets) c.self.view_is))) c.index.ensures c.in-Some.is c.index-next.ensures c.index-before.ensures in
    let behind : IsNextBelow b (Some c.in-Some-before.before) place es = subst (λ r. IsNextBelow b r place es) c.in-Some-before.is e.precedes in
    omega (arith, behind.0, e.within, chained.next_places)

pub index_mut-requires-in-None : goal.index_mut-requires-in-None
index_mut-requires-in-None c =
    let s = c.self.inside in
    let b = c.in-Some.bucket in
    let place = c.args.place in
    let chained = c.self.invariant.0 in
    let e = reads s b place c.index.result.now c.index-next.result.now c.index-before.result.now chained (omega (arith, c.requires, ap length (ap (λ v. v.buckets) c.self.view_is))) c.index.ensures c.in-Some.is c.index-next.ensures c.index-before.ensures in
    omega (arith, chained.below place b e.there, c.self.invariant.2.firsts (omega (arith, e.within)))

pub index_mut-requires-in-Some-next : goal.index_mut-requires-in-Some-next
index_mut-requires-in-Some-next c =
    let s = c.self.inside in
    let es = s.buckets.items in
    let ps = s.previous.items in
    let b = c.in-Some.bucket in
    let place = c.args.place in
    let chained = c.self.invariant.0 in
    let e = reads s b place c.index.result.now c.index-next.result.now c.index-before.result.now chained (omega (arith, c.requires, ap length (ap (λ v. v.buckets) c.self.view_is))) c.index.ensures c.in-Some.is c.index-next.ensures c.index-before.ensures in
    let follows : IsFirst b (place + 1) es (Some c.in-Some-next.next) = subst (IsFirst b (place + 1) es) c.in-Some-next.is e.follows in
    let inside : c.in-Some-next.next < length ps = omega (arith, within es c.in-Some-next.next b follows.1, chained.previous_places) in
    elim c.match-before.branch [
      | in-Some-before w ↦ subst (λ s. c.in-Some-next.next < vec_len s.previous) (sym w.self-inside-is) (omega (arith, inside))
      | in-None w ↦ subst (λ s. c.in-Some-next.next < vec_len s.previous) (sym w.self-inside-is) (omega (arith, inside))
    ]

pub index_mut-requires-in-None-next : goal.index_mut-requires-in-None-next
index_mut-requires-in-None-next c =
    let s = c.self.inside in
    let ls = s.last.items in
    let b = c.in-Some.bucket in
    let place = c.args.place in
    let chained = c.self.invariant.0 in
    let e = reads s b place c.index.result.now c.index-next.result.now c.index-before.result.now chained (omega (arith, c.requires, ap length (ap (λ v. v.buckets) c.self.view_is))) c.index.ensures c.in-Some.is c.index-next.ensures c.index-before.ensures in
    let inside : b < length ls = omega (arith, chained.below place b e.there, c.self.invariant.2.lasts (omega (arith, e.within))) in
    elim c.match-before.branch [
      | in-Some-before w ↦ subst (λ s. b < vec_len s.last) (sym w.self-inside-is) (omega (arith, inside))
      | in-None w ↦ subst (λ s. b < vec_len s.last) (sym w.self-inside-is) (omega (arith, inside))
    ]

pub invariant_of-self : goal.invariant_of-self
invariant_of-self c =
    let s = c.self.inside in
    let es = s.buckets.items in
    let ns = s.next.items in
    let ps = s.previous.items in
    let fs = s.first.items in
    let ls = s.last.items in
    let b = c.in-Some.bucket in
    let place = c.args.place in
    let chained = c.self.invariant.0 in
    let e = reads s b place c.index.result.now c.index-next.result.now c.index-before.result.now chained (omega (arith, c.requires, ap length (ap (λ v. v.buckets) c.self.view_is))) c.index.ensures c.in-Some.is c.index-next.ensures c.index-before.ensures in
    let firsts : length fs ≡ BUCKETS = omega (arith, c.self.invariant.2.firsts (omega (arith, e.within))) in
    let follows : IsFirst b (place + 1) es (Some c.in-Some-next.next) = subst (IsFirst b (place + 1) es) c.in-Some-next.is e.follows in
    let back : Backward (set es place None) (set ps c.in-Some-next.next (get_or ps place None)) ls = earlier_leaves es b place e.there ns ps fs ls chained c.in-Some-next.next follows in
    elim c.match-before.branch [
      | in-Some-before w ↦
          subst
          (λ s. IsChained s.buckets.items s.next.items (set s.previous.items c.in-Some-next.next c.match-before.before) s.first.items s.last.items
          × HasRoom (vec_len s.buckets) (vec_capacity s.buckets) (vec_capacity s.next) (vec_capacity s.previous) s.room
          × HasEnds (vec_len s.buckets) (vec_len s.first) (vec_len s.last) s.room)
          (sym w.self-inside-is) (
            rw w.before-is (rw (sym e.next_is)
                (both
                (later_leaves es b place e.there ns ps fs ls chained w.in-Some-before.before (subst (λ r. IsNextBelow b r place es) w.in-Some-before.is e.precedes))
                (subst (λ r. Backward (set es place None) (set ps c.in-Some-next.next r) ls) (e.before_is ∙ w.in-Some-before.is) back))),
            c.self.invariant.1,
            c.self.invariant.2,
          )
      | in-None w ↦
          subst
          (λ s. IsChained s.buckets.items s.next.items (set s.previous.items c.in-Some-next.next c.match-before.before) s.first.items s.last.items
          × HasRoom (vec_len s.buckets) (vec_capacity s.buckets) (vec_capacity s.next) (vec_capacity s.previous) s.room
          × HasEnds (vec_len s.buckets) (vec_len s.first) (vec_len s.last) s.room)
          (sym w.self-inside-is) (
            rw w.before-is (rw w.in-None.is (rw (sym e.next_is)
                (both
                (first_leaves es b place e.there ns ps fs ls chained firsts (subst (λ r. IsNextBelow b r place es) w.in-None.is e.precedes))
                (subst (λ r. Backward (set es place None) (set ps c.in-Some-next.next r) ls) (e.before_is ∙ w.in-None.is) back)))),
            c.self.invariant.1,
            c.self.invariant.2,
          )
    ]

pub invariant_of-self-in-None-next : goal.invariant_of-self-in-None-next
invariant_of-self-in-None-next c =
    let s = c.self.inside in
    let es = s.buckets.items in
    let ns = s.next.items in
    let ps = s.previous.items in
    let fs = s.first.items in
    let ls = s.last.items in
    let b = c.in-Some.bucket in
    let place = c.args.place in
    let chained = c.self.invariant.0 in
    let e = reads s b place c.index.result.now c.index-next.result.now c.index-before.result.now chained (omega (arith, c.requires, ap length (ap (λ v. v.buckets) c.self.view_is))) c.index.ensures c.in-Some.is c.index-next.ensures c.index-before.ensures in
    let firsts : length fs ≡ BUCKETS = omega (arith, c.self.invariant.2.firsts (omega (arith, e.within))) in
    let lasts : length ls ≡ BUCKETS = omega (arith, c.self.invariant.2.lasts (omega (arith, e.within))) in
    let follows : IsFirst b (place + 1) es None = subst (IsFirst b (place + 1) es) c.in-None-next.is e.follows in
    let back : Backward (set es place None) ps (set ls b (get_or ps place None)) = last_leaves es b place e.there ns ps fs ls chained lasts follows in
    elim c.match-before.branch [
      | in-Some-before w ↦
          subst
          (λ s. IsChained s.buckets.items s.next.items s.previous.items s.first.items (set s.last.items b c.match-before.before)
          × HasRoom (vec_len s.buckets) (vec_capacity s.buckets) (vec_capacity s.next) (vec_capacity s.previous) s.room
          × HasEnds (vec_len s.buckets) (vec_len s.first) (vec_len s.last) s.room)
          (sym w.self-inside-is) (
            rw w.before-is (rw (sym e.next_is)
                (both
                (later_leaves es b place e.there ns ps fs ls chained w.in-Some-before.before (subst (λ r. IsNextBelow b r place es) w.in-Some-before.is e.precedes))
                (subst (λ r. Backward (set es place None) ps (set ls b r)) (e.before_is ∙ w.in-Some-before.is) back))),
            c.self.invariant.1,
            c.self.invariant.2,
          )
      | in-None w ↦
          subst
          (λ s. IsChained s.buckets.items s.next.items s.previous.items s.first.items (set s.last.items b c.match-before.before)
          × HasRoom (vec_len s.buckets) (vec_capacity s.buckets) (vec_capacity s.next) (vec_capacity s.previous) s.room
          × HasEnds (vec_len s.buckets) (vec_len s.first) (vec_len s.last) s.room)
          (sym w.self-inside-is) (
            rw w.before-is (rw w.in-None.is (rw (sym e.next_is)
                (both
                (first_leaves es b place e.there ns ps fs ls chained firsts (subst (λ r. IsNextBelow b r place es) w.in-None.is e.precedes))
                (subst (λ r. Backward (set es place None) ps (set ls b r)) (e.before_is ∙ w.in-None.is) back)))),
            c.self.invariant.1,
            c.self.invariant.2,
          )
    ]
