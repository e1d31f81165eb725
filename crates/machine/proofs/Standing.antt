-- The block in which a hart stands.
use Rattle.std.proofs.Common.{◌≡◌, ℕ, zero, suc, ◌+◌, ◌*◌, ◌<◌, ◌≤◌, List, length, arith, inl, inr}
use Rattle.std.specs.Prelude.{true}
use Rattle.std.proofs.lemmas.Option.{slice_get_within}
use Rattle.rv_word.specs.Plain.{Words, PlainHart}
use Rattle.tramp_spec.specs.Codes.{Code}
use Rattle.tramp_spec.specs.Bodies.{Safe}
use Rattle.tramp_spec.specs.Harts.{Hart, bench_of}
use Rattle.tramp_spec.specs.Marks.{own, tool}
use Rattle.tramp_spec.specs.MovedWords.{own_place}
use Rattle.tramp_spec.specs.Steps.{Bench}
use Rattle.tramp_spec.specs.declared.mark.MarkedWord.{MarkedWord}
use Rattle.machine.specs.Cores.{In, Row}
use Rattle.machine.specs.Places.{holds}
use Rattle.machine.proofs.Invariant.{Piece, BasePlace, IsBase, Static, InBase, InMini}
use Rattle.machine.proofs.Homes.{covers, base_shape, mini_shape, base_len}

-- a body's place is in it
in_body : (f : ℕ) (body : List MarkedWord) (at i ticks : ℕ) (x : Bench) → Safe f body at i x ticks → i ≤ length body
in_body zero body at i ticks x e = omega arith
in_body (suc f) body at i ticks x (inl e) = omega arith
in_body (suc f) body at i ticks x (inr r) = let l = slice_get_within body i (tool (r.2).word) (r.2).here in omega arith

module _ (t : Words) (budget : ℕ) (code : Code) (rows : List Row) (ps : List Piece) (clock : ℕ) (st : Static t code rows ps clock) (x : Hart) (y : PlainHart) where
  at_place : (b : Piece) → In b ps → IsBase b → BasePlace t budget b x y → (b.row.at ≤ x.pc) × (x.pc < b.row.at + 4 * b.row.len)
  at_place b hb bs (inl k) = let l = (base_shape t code rows ps clock st b hb bs).len in let e = k.pc in (omega arith, omega arith)
  at_place b hb bs (inr (inl k)) = let l = (base_shape t code rows ps clock st b hb bs).len in let e = k.pc in (omega arith, omega arith)
  at_place b hb bs (inr (inr (inl k))) = let l = (base_shape t code rows ps clock st b hb bs).len in let e = k.pc in (omega arith, omega arith)
  at_place b hb bs (inr (inr (inr (inl k)))) =
      let l = base_len t code b k.m (base_shape t code rows ps clock st b hb bs) in
      let tk = ((k.m).moves).tick in
      let w = slice_get_within (k.m).moved (own_place (k.m).word) (own tk.0) tk.1 in
      let j = k.low in
      let e = k.pc in
      (omega arith, omega arith)
  at_place b hb bs (inr (inr (inr (inr k)))) =
      let l = base_len t code b k.m (base_shape t code rows ps clock st b hb bs) in
      let j = k.low in
      let e = k.pc in
      (omega arith, omega arith)

  pub in_base : (k : InBase t budget ps x y) → ((k.b).row.at ≤ x.pc) × (x.pc < (k.b).row.at + 4 * (k.b).row.len)
  in_base k = at_place k.b k.is_in k.base k.place

  pub in_mini : (k : InMini budget ps x y) → ((k.m).row.at ≤ x.pc) × (x.pc < (k.m).row.at + 4 * (k.m).row.len)
  in_mini k =
      let l = (mini_shape t code rows ps clock st k.m k.is_in k.linked).len in
      let i = in_body k.f (k.m).body (k.m).row.at k.i x.ticks (bench_of x) k.safe in
      let e = k.pc in
      (omega arith, omega arith)

  pub base_holds : (k : InBase t budget ps x y) → holds (k.b).row x.pc ≡ true
  base_holds k = let r = in_base k in covers (k.b).row x.pc r.0 r.1

  pub mini_holds : (k : InMini budget ps x y) → holds (k.m).row x.pc ≡ true
  mini_holds k = let r = in_mini k in covers (k.m).row x.pc r.0 r.1
