use Rattle.std.proofs.Common.{◌≡◌, ◌<◌, ◌-◌, None, Some, length, get_or, set, sym, ap, subst, ◌∙◌, arith}
use Rattle.std.proofs.lemmas.List.{get_or_default}
use Rattle.std.specs.Vec.{vec_len, vec_capacity}
use Rattle.bucket_chains.specs.Chained.{IsChained, IsLast, HasEnds, HasRoom}
use Rattle.bucket_chains.specs.declared.chains.TheConstants.{BUCKETS}
use Rattle.bucket_chains.proofs.Places.{within}
use Rattle.bucket_chains.proofs.Pushed.{pushed_first, pushed_behind}
use Rattle.bucket_chains.proofs.chains.Chains.push.Goals as goal
use Rattle.bucket_chains.proofs.chains.Chains.push.Goals.{in-Some, in-None}

pub index_mut-requires : goal.index_mut-requires
index_mut-requires c =
    let es = c.self.inside.buckets.items in
    let b = c.bucket_of-bucket.result in
    let chained = c.self.invariant.0 in
    let lasts : length c.self.inside.last.items ≡ BUCKETS = omega (arith, c.self.invariant.2.lasts (omega (arith, c.requires, ap (λ v. v.room) c.self.view_is))) in
    let read : get_or c.self.inside.last.items b None ≡ Some c.in-Some.last =
    get_or_default c.self.inside.last.items b None c.index-last.result.now (omega (arith, c.bucket_of-bucket.ensures.below, lasts)) ∙ sym c.index-last.ensures ∙ c.in-Some.is in
    let last : IsLast b es (Some c.in-Some.last) = subst (IsLast b es) read (chained.last b c.bucket_of-bucket.ensures.below) in
    omega (arith, within es c.in-Some.last b last.0, chained.next_places, c.push_reserved-2.ensures.len)

pub invariant_of-self : goal.invariant_of-self
invariant_of-self c =
    let es = c.self.inside.buckets.items in
    let ns = c.self.inside.next.items in
    let ps = c.self.inside.previous.items in
    let fs = c.self.inside.first.items in
    let ls = c.self.inside.last.items in
    let b = c.bucket_of-bucket.result in
    let n = c.len-place.result in
    let chained = c.self.invariant.0 in
    let lt : b < BUCKETS = c.bucket_of-bucket.ensures.below in
    let firsts : length fs ≡ BUCKETS = omega (arith, c.self.invariant.2.firsts (omega (arith, c.requires, ap (λ v. v.room) c.self.view_is))) in
    let lasts : length ls ≡ BUCKETS = omega (arith, c.self.invariant.2.lasts (omega (arith, c.requires, ap (λ v. v.room) c.self.view_is))) in
    let room : HasRoom (vec_len c.push_reserved.new.self) (vec_capacity c.push_reserved.new.self) (vec_capacity c.push_reserved-2.new.self) (vec_capacity c.push_reserved-3.new.self) (c.self.inside.room - 1) =
    record {
      buckets = omega (arith, c.self.invariant.1.buckets, c.requires, c.push_reserved.ensures.len, c.push_reserved.ensures.capacity);
      nexts = omega (arith, c.self.invariant.1.nexts, c.requires, c.push_reserved.ensures.len, c.push_reserved-2.ensures.capacity);
      befores = omega (arith, c.self.invariant.1.befores, c.requires, c.push_reserved.ensures.len, c.push_reserved-3.ensures.capacity);
    } in
    let ends : HasEnds (vec_len c.push_reserved.new.self) (vec_len c.self.inside.first) (vec_len c.self.inside.last) (c.self.inside.room - 1) =
    record { firsts = λ _. omega (arith, firsts); lasts = λ _. omega (arith, lasts) } in
    let last : get_or ls b None ≡ c.index-last.result.now = get_or_default ls b None c.index-last.result.now (omega (arith, lt, lasts)) ∙ sym c.index-last.ensures in
    let place : n ≡ length es = omega (arith, c.len-place.ensures) in
    elim c.match-last.branch [
      | in-Some w ↦
          subst
          (λ s. IsChained s.buckets.items s.next.items s.previous.items s.first.items (set s.last.items b (Some n))
          × HasRoom (vec_len s.buckets) (vec_capacity s.buckets) (vec_capacity s.next) (vec_capacity s.previous) (s.room - 1)
          × HasEnds (vec_len s.buckets) (vec_len s.first) (vec_len s.last) (s.room - 1))
          (sym w.self-inside-is) (
            rw c.push_reserved.ensures.items (rw c.push_reserved-2.ensures.items (rw c.push_reserved-3.ensures.items (rw place (rw (sym last)
                (pushed_behind es b ns ps fs ls chained lt lasts w.in-Some.last (last ∙ w.in-Some.is)))))),
            room,
            ends,
          )
      | in-None w ↦
          subst
          (λ s. IsChained s.buckets.items s.next.items s.previous.items s.first.items (set s.last.items b (Some n))
          × HasRoom (vec_len s.buckets) (vec_capacity s.buckets) (vec_capacity s.next) (vec_capacity s.previous) (s.room - 1)
          × HasEnds (vec_len s.buckets) (vec_len s.first) (vec_len s.last) (s.room - 1))
          (sym w.self-inside-is) (
            rw c.push_reserved.ensures.items (rw c.push_reserved-2.ensures.items (rw c.push_reserved-3.ensures.items (rw place (rw (sym last)
                (pushed_first es b ns ps fs ls chained lt lasts firsts (last ∙ w.in-None.is)))))),
            room,
            ends,
          )
    ]
