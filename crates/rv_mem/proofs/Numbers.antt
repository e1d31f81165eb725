-- A number whose bytes stand in one region.
use Rattle.std.proofs.Common.{◌≡◌, ℕ, zero, suc, ◌+◌, ◌-◌, ◌*◌, ◌^◌, ◌<◌, ◌≤◌, List, ◌∷◌, length, drop, get_or, [], Option, Some, None, Ok, refl, ap, subst, sym, ◌∙◌, arith}
use Rattle.std.specs.Prelude.{false, slice_index, IfSome}
use Rattle.std.proofs.lemmas.Bool.{cond-false}
use Rattle.std.specs.FinMap.{get}
use Rattle.rv_word.specs.Memory.{Memory, cell, mapped, in_range, load, next_address, ◌>>=◌}
use Rattle.rv_mem.specs.Regions.{content, place_in, place_of, byte_or, first_byte, little_endian, with_high, number_in, HasRange}
use Rattle.rv_mem.specs.declared.mapped.Region.{Region}
use Rattle.rv_mem.specs.declared.region.Spot.{Spot}
use Rattle.rv_mem.proofs.Maps.{place_in-within}

pub number_in-place : (n : ℕ) (f : ℕ → Option ℕ) (bs : List ℕ) (base i a : ℕ) → a ≡ base + i → ((j : ℕ) → i ≤ j → j < i + n → f (base + j) ≡ Some (slice_index bs j)) → number_in n f a ≡ Some (little_endian n bs i)
number_in-place zero f bs base i a e h = refl
number_in-place (suc n) f bs base i a e h =
    ap (λ o. with_high o (number_in n f (a + 1))) (ap f e ∙ h i (omega arith) (omega arith))
    ∙ ap (with_high (Some (slice_index bs i))) (number_in-place n f bs base (i + 1) (a + 1) (omega arith) (λ j l k. h j (omega arith) (omega arith)))

pub first_byte-at : (ss : List Region) (i : ℕ) (s : Region) (j : ℕ) → s ≡ get_or ss i s → i < length ss → j < length (content s) → first_byte (drop i ss) (s.at + j) ≡ Some (slice_index (content s) j)
first_byte-at [] i s j e h l = absurd (omega arith)
first_byte-at (x ∷ ss) zero s j e h l =
    let p : s.at + j - s.at ≡ j = omega arith in
    ap (λ z. byte_or (place_in z.at (length (content z)) (s.at + j)) (content z) (first_byte ss (s.at + j))) (sym e)
    ∙ ap (λ o. byte_or o (content s) (first_byte ss (s.at + j))) (place_in-within s.at (length (content s)) (s.at + j) (omega arith) (omega arith) ∙ ap Some p)
first_byte-at (x ∷ ss) (suc i) s j e h l = first_byte-at ss i s j e (omega arith) l

with_high-is : (x y : Option ℕ) (v : ℕ) → with_high x y ≡ Some v → (b : ℕ) × (h : ℕ) × (x ≡ Some b) × (y ≡ Some h) × (b + h * 256 ≡ v)
with_high-is (Some b) (Some h) v e = (b, h, refl, refl, cc)
with_high-is (Some b) None v e = absurd (cc)
with_high-is None y v e = absurd (cc)

pub loaded : (n : ℕ) (m : Memory) (a v : ℕ) → a + n < 2 ^ 64 → ((q : ℕ) → a ≤ q → q < a + n → in_range m.text_at m.text_len q ≡ false) → number_in n (get m.cells) a ≡ Some v → load n m a ≡ Ok v
unfolding load
loaded zero m a v l out e = ap (λ o. mapped o 0) e
loaded (suc n) m a v l out e =
    let p = with_high-is (get m.cells a) (number_in n (get m.cells) (a + 1)) v e in
    let w : next_address a ≡ a + 1 = omega arith in
    let first : cell m a ≡ Ok p.0 = cond-false (in_range m.text_at m.text_len a) _ _ (out a (omega arith) (omega arith)) ∙ ap (λ o. mapped o a) p.2 in
    let others : load n m (next_address a) ≡ Ok p.1 = ap (load n m) w ∙ loaded n m (a + 1) p.1 (omega arith) (λ q g k. out q (omega arith) (omega arith)) p.3 in
    ap (λ r. r >>= λ low. load n m (next_address a) >>= λ high. Ok (low + high * 256)) first
    ∙ ap (λ r. r >>= λ high. Ok (p.0 + high * 256)) others
    ∙ ap Ok p.4

-- regions that do not have the address do not count
pub first_byte-drop : (rs : List Region) (i q : ℕ) → i ≤ length rs → ((k : ℕ) (d : Region) → k < i → place_of (get_or rs k d) q ≡ None) → first_byte rs q ≡ first_byte (drop i rs) q
first_byte-drop rs zero q l none = refl
first_byte-drop [] (suc i) q l none = absurd (omega arith)
first_byte-drop (r ∷ rs) (suc i) q l none =
    ap (λ o. byte_or o (content r) (first_byte rs q)) (none 0 r (omega arith)) ∙ first_byte-drop rs i q (omega arith) (λ k d h. none (suc k) d (omega arith))

pub number_in-spot : (rs : List Region) (a n : ℕ) (spot : Spot) (r : Region) → HasRange rs a n spot → r ≡ get_or rs spot.region r → number_in n (first_byte rs) a ≡ Some (little_endian n (content r) spot.place)
number_in-spot rs a n spot r h is =
    let at : r.at + spot.place ≡ a = ap (λ z. z.at + spot.place) is ∙ h.address r in
    let fits : spot.place + n ≤ length (content r) = subst (λ z. spot.place + n ≤ length (content z)) (sym is) (h.within r) in
    let listed : spot.region < length rs = h.listed in
    number_in-place n (first_byte rs) (content r) r.at spot.place a (omega arith) (λ j l k. first_byte-drop rs spot.region (r.at + j) (omega arith) (λ i d lt. h.first i d (r.at + j) lt (omega arith) (omega arith)) ∙ first_byte-at rs spot.region r j is listed (omega arith))

-- what is said of a number's value carries over to the number that a map has
pub some_is : (o p : Option ℕ) (x : ℕ) → IfSome o (λ v. v ≡ x) → p ≡ Some x → IfSome o (λ v. p ≡ Some v)
some_is None p x h e = tt
some_is (Some v) p x h e = e ∙ ap Some (sym h)
