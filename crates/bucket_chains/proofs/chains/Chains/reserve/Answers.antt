use Rattle.std.proofs.Common.{◌≡◌, refl, sym, ap, ◌∙◌, subst, arith, length}
use Rattle.std.specs.Vec.{vec_len, vec_capacity}
use Rattle.bucket_chains.specs.Chained.{IsChained, HasEnds, HasRoom}
use Rattle.bucket_chains.proofs.Places.{same_ends, filled_ends}
use Rattle.bucket_chains.proofs.chains.Chains.reserve.Goals as goal
use Rattle.bucket_chains.proofs.chains.Chains.reserve.Goals.{then-room-gt0+in_ok-resize+in_ok-resize-2, else-room-gt0}

pub invariant_of-self-in_err-resize-2 : goal.invariant_of-self-in_err-resize-2
invariant_of-self-in_err-resize-2 c =
    let s = c.self.inside in
    let i = c.self.invariant in
    let first = c.in_ok-resize.ensures in
    let last = c.in_err-resize-2.ensures in
    let ends : HasEnds (vec_len c.reserve.new.self) (vec_len c.resize.new.self) (vec_len c.resize-then-room-gt0.new.self) s.room =
    record { firsts = λ _. first.len; lasts = λ some. last.len ∙ i.2.lasts (omega (arith, some, c.reserve.ensures.len)) } in (
      rw c.reserve.ensures.items (rw c.reserve-2.ensures.items (rw c.reserve-3.ensures.items (rw last.items
          (same_ends c.resize.new.self.items s.last.items (filled_ends s.first.items c.resize.new.self.items (λ k d lt below. first.by_index.0 k d lt (omega (arith, below))) (λ k d past. first.by_index.1 k d refl (omega (arith, past)))) (λ b lt. refl) i.0)))),
      record {
        buckets = omega (arith, i.1.buckets, c.reserve.ensures.len, c.reserve.ensures.capacity);
        nexts = omega (arith, i.1.nexts, c.reserve.ensures.len, c.reserve-2.ensures.capacity);
        befores = omega (arith, i.1.befores, c.reserve.ensures.len, c.reserve-3.ensures.capacity);
      },
      ends,
    )

pub invariant_of-self-2 : goal.invariant_of-self-2
invariant_of-self-2 c =
    let s = c.self.inside in
    let i = c.self.invariant in
    let room : HasRoom (vec_len c.reserve.new.self) (vec_capacity c.reserve.new.self) (vec_capacity c.reserve-2.new.self) (vec_capacity c.reserve-3.new.self) c.max-room.result =
    record {
      buckets = omega (arith, c.in_ok-reserve.ensures.ok);
      nexts = omega (arith, c.reserve.ensures.len, c.in_ok-reserve-2.ensures.ok, c.reserve-2.ensures.len, ap length c.reserve-2.ensures.items, i.0.next_places);
      befores = omega (arith, c.reserve.ensures.len, c.in_ok-reserve-3.ensures.ok, c.reserve-3.ensures.len, ap length c.reserve-3.ensures.items, i.0.previous_places);
    } in
    elim c.if-room-gt0.branch [
      | then-room-gt0+in_ok-resize+in_ok-resize-2 w ↦
          let first = w.in_ok-resize.ensures in
          let last = w.in_ok-resize-2.ensures in
          let ends : HasEnds (vec_len c.reserve.new.self) (vec_len w.resize.new.self) (vec_len w.resize-then-room-gt0.new.self) c.max-room.result =
          record { firsts = λ _. first.len; lasts = λ _. last.len } in
          subst
          (λ s. IsChained s.buckets.items s.next.items s.previous.items s.first.items s.last.items
          × HasRoom (vec_len s.buckets) (vec_capacity s.buckets) (vec_capacity s.next) (vec_capacity s.previous) c.max-room.result
          × HasEnds (vec_len s.buckets) (vec_len s.first) (vec_len s.last) c.max-room.result)
          (sym w.self-inside-is) (
            rw c.reserve.ensures.items (rw c.reserve-2.ensures.items (rw c.reserve-3.ensures.items
                (same_ends w.resize.new.self.items w.resize-then-room-gt0.new.self.items
                (filled_ends s.first.items w.resize.new.self.items (λ k d lt below. first.by_index.0 k d lt (omega (arith, below))) (λ k d past. first.by_index.1 k d refl (omega (arith, past))))
                (filled_ends s.last.items w.resize-then-room-gt0.new.self.items (λ k d lt below. last.by_index.0 k d lt (omega (arith, below))) (λ k d past. last.by_index.1 k d refl (omega (arith, past)))) i.0))),
            room,
            ends,
          )
      | else-room-gt0 w ↦
          let none : s.room ≡ 0 = omega (arith, w.if-room-gt0.false, c.max-room.ensures) in
          let ends : HasEnds (vec_len c.reserve.new.self) (vec_len s.first) (vec_len s.last) c.max-room.result =
          record {
            firsts = λ some. i.2.firsts (omega (arith, some, w.if-room-gt0.false, c.reserve.ensures.len));
            lasts = λ some. i.2.lasts (omega (arith, some, w.if-room-gt0.false, c.reserve.ensures.len));
          } in
          subst
          (λ s. IsChained s.buckets.items s.next.items s.previous.items s.first.items s.last.items
          × HasRoom (vec_len s.buckets) (vec_capacity s.buckets) (vec_capacity s.next) (vec_capacity s.previous) c.max-room.result
          × HasEnds (vec_len s.buckets) (vec_len s.first) (vec_len s.last) c.max-room.result)
          (sym w.self-inside-is) (rw c.reserve.ensures.items (rw c.reserve-2.ensures.items (rw c.reserve-3.ensures.items i.0)), room, ends)
    ]
