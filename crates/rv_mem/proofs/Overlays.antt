-- What a number that is put into memory changes.
use Rattle.std.proofs.Common.{◌≡◌, ℕ, zero, suc, ◌+◌, ◌-◌, ◌/◌, ◌%◌, ◌^◌, ◌<◌, ◌≤◌, List, [], ◌∷◌, length, get_or, set, length-set, Option, Some, None, Ok, refl, ap, subst, sym, ◌∙◌, arith, cond, false, nat_eq}
use Rattle.std.specs.Option.{IsSome}
use Rattle.std.specs.FinMap.{from_entries, get, same_map, nat_cmp-IsAntisymmetric}
use Rattle.std.proofs.lemmas.Cmp.{nat_cmp_total}
use Rattle.rv_word.specs.Memory.{Memory, in_range, load, store, put_bytes, set_byte, next_address, ◌>>=◌}
use Rattle.rv_mem.specs.Regions.{content, place_in, place_of, byte_or, first_byte, entries_of, number_in, with_number, overlaid, HasRange}
use Rattle.rv_mem.specs.declared.mapped.Region.{Region}
use Rattle.rv_mem.specs.declared.region.Spot.{Spot}
use Rattle.rv_mem.proofs.Maps.{get_flat, funext, place_in-within}
use Rattle.rv_mem.proofs.Numbers.{loaded}
use Rattle.rv_mem.proofs.Writes.{in_first, in_other, get_put}

-- ---- in one region's bytes

pub with_number-next : (n i place rest b : ℕ) (bs : List ℕ) → i < n → b ≡ rest % 256 → with_number (n - (i + 1)) (set bs (place + i) b) (place + (i + 1)) (rest / 256) ≡ with_number (n - i) bs (place + i) rest
with_number-next n i place rest b bs h e =
    let k : suc (n - (i + 1)) ≡ n - i = omega arith in
    let p : place + (i + 1) ≡ place + i + 1 = omega arith in
    ap (λ z. with_number (n - (i + 1)) (set bs (place + i) z) (place + (i + 1)) (rest / 256)) e
    ∙ ap (λ z. with_number (n - (i + 1)) (set bs (place + i) (rest % 256)) z (rest / 256)) p
    ∙ ap (λ z. with_number z bs (place + i) rest) k

length-with_number : (n : ℕ) (bs : List ℕ) (i v : ℕ) → length (with_number n bs i v) ≡ length bs
length-with_number zero bs i v = refl
length-with_number (suc n) bs i v =
    length-with_number n (set bs i (v % 256)) (i + 1) (v / 256) ∙ length-set bs i (v % 256)

place_in-plus : (at len place : ℕ) → place < len → place_in at len (at + place) ≡ Some place
place_in-plus at len place h =
    let e : at + place - at ≡ place = omega arith in
    place_in-within at len (at + place) (omega arith) (omega arith) ∙ ap Some e

written_in : (n : ℕ) (at len : ℕ) (bs : List ℕ) (place v x : ℕ) (rest : Option ℕ) → length bs ≡ len → place + n ≤ len → byte_or (place_in at len x) (with_number n bs place v) rest ≡ overlaid n v (at + place) x (byte_or (place_in at len x) bs rest)
written_in zero at len bs place v x rest e h = refl
written_in (suc n) at len bs place v x rest e h =
    let b = v % 256 in
    let q : at + (place + 1) ≡ at + place + 1 = omega arith in
    let one : byte_or (place_in at len x) (set bs place b) rest ≡ cond (nat_eq x (at + place)) (Some b) (byte_or (place_in at len x) bs rest) = subst (λ z. byte_or (place_in at z x) (set bs place b) rest ≡ cond (nat_eq x (at + place)) (Some b) (byte_or (place_in at z x) bs rest)) e (in_first at x (at + place) b place bs rest (place_in-plus at (length bs) place (omega arith))) in
    written_in n at len (set bs place b) (place + 1) (v / 256) x rest (length-set bs place b ∙ e) (omega arith)
    ∙ ap (λ z. overlaid n (v / 256) z x (byte_or (place_in at len x) (set bs place b) rest)) q
    ∙ ap (overlaid n (v / 256) (at + place + 1) x) one

-- ---- in the regions

-- a region that has none of the addresses hides nothing of them
written_past : (n : ℕ) (at : ℕ) (bs : List ℕ) (v a x : ℕ) (rest : Option ℕ) → ((q : ℕ) → a ≤ q → q < a + n → place_in at (length bs) q ≡ None) → byte_or (place_in at (length bs) x) bs (overlaid n v a x rest) ≡ overlaid n v a x (byte_or (place_in at (length bs) x) bs rest)
written_past zero at bs v a x rest none = refl
written_past (suc n) at bs v a x rest none =
    let b = v % 256 in
    written_past n at bs (v / 256) (a + 1) x (cond (nat_eq x a) (Some b) rest) (λ q g k. none q (omega arith) (omega arith))
    ∙ ap (overlaid n (v / 256) (a + 1) x) (in_other at x a b bs rest (cond (nat_eq x a) (Some b) rest) (none a (omega arith) (omega arith)) refl)

written_at : (rs : List Region) (i : ℕ) (d new : Region) (n a v place x : ℕ) → i < length rs → (get_or rs i d).at + place ≡ a → place + n ≤ length (content (get_or rs i d)) → ((k : ℕ) (q : ℕ) → k < i → a ≤ q → q < a + n → place_of (get_or rs k d) q ≡ None) → new.at ≡ (get_or rs i d).at → content new ≡ with_number n (content (get_or rs i d)) place v → first_byte (set rs i new) x ≡ overlaid n v a x (first_byte rs x)
written_at [] i d new n a v place x l at fits none ea eb = absurd (omega arith)
written_at (r ∷ rs) zero d new n a v place x l at fits none ea eb =
    rw (ea, eb, length-with_number n (content r) place v) (written_in n r.at (length (content r)) (content r) place v x (first_byte rs x) refl fits ∙ ap (λ z. overlaid n v z x (first_byte (r ∷ rs) x)) at)
written_at (r ∷ rs) (suc i) d new n a v place x l at fits none ea eb =
    ap (byte_or (place_of r x) (content r)) (written_at rs i d new n a v place x (omega arith) at fits (λ k q h. none (suc k) q (omega arith)) ea eb)
    ∙ written_past n r.at (content r) v a x (first_byte rs x) (λ q. none 0 q (omega arith))

pub written_spot : (rs : List Region) (spot : Spot) (d new : Region) (n a v x : ℕ) → HasRange rs a n spot → d ≡ get_or rs spot.region d → new.at ≡ d.at → content new ≡ with_number n (content d) spot.place v → first_byte (set rs spot.region new) x ≡ overlaid n v a x (first_byte rs x)
written_spot rs spot d new n a v x h is ea eb =
    written_at rs spot.region d new n a v spot.place x h.listed (h.address d) (h.within d) (λ k. h.first k d) (ea ∙ ap (λ z. z.at) is) (eb ∙ ap (λ z. with_number n (content z) spot.place v) is)

-- ---- in the memory

get-put : (n : ℕ) (m : Memory) (a v x : ℕ) → a + n < 2 ^ 64 → get (put_bytes n m a v).cells x ≡ overlaid n v a x (get m.cells x)
unfolding put_bytes
get-put zero m a v x h = refl
get-put (suc n) m a v x h =
    let e : next_address a ≡ a + 1 = omega arith in
    ap (λ z. get (put_bytes n (set_byte m a (v % 256)) z (v / 256)).cells x) e
    ∙ get-put n (set_byte m a (v % 256)) (a + 1) (v / 256) x (omega arith)
    ∙ ap (overlaid n (v / 256) (a + 1) x) (get_put m a (v % 256) x)

-- the text stays where it was
put-text : (n : ℕ) (m : Memory) (a v : ℕ) → put_bytes n m a v ≡ record { text_at = m.text_at; text_len = m.text_len; cells = (put_bytes n m a v).cells }
unfolding put_bytes
put-text zero m a v = refl
put-text (suc n) m a v = put-text n (set_byte m a (v % 256)) (next_address a) (v / 256)

-- the memory that regions and a text stand for
abbrev pub memory_in : ℕ → ℕ → List Region → Memory
memory_in text_at text_len rs = record { text_at = text_at; text_len = text_len; cells = from_entries (entries_of rs) }

put-regions : (n text_at text_len : ℕ) (rs new : List Region) (a v : ℕ) → a + n < 2 ^ 64 → ((q : ℕ) → first_byte new q ≡ overlaid n v a q (first_byte rs q)) → put_bytes n (memory_in text_at text_len rs) a v ≡ memory_in text_at text_len new
put-regions n text_at text_len rs new a v h written =
    put-text n (memory_in text_at text_len rs) a v
    ∙ ap (λ cells. record { text_at = text_at; text_len = text_len; cells = cells }) (same_map nat_cmp_total nat_cmp-IsAntisymmetric _ _ (λ q.
    get-put n (memory_in text_at text_len rs) a v q h ∙ ap (overlaid n v a q) (get_flat rs q) ∙ sym (written q) ∙ sym (get_flat new q)))

loaded_some : (n : ℕ) (m : Memory) (a : ℕ) (o : Option ℕ) → a + n < 2 ^ 64 → ((q : ℕ) → a ≤ q → q < a + n → in_range m.text_at m.text_len q ≡ false) → number_in n (get m.cells) a ≡ o → IsSome o → (v : ℕ) × (load n m a ≡ Ok v)
loaded_some n m a None h out e k = absurd (cc)
loaded_some n m a (Some v) h out e k = (v, loaded n m a v h out e)

pub store-regions : (n text_at text_len : ℕ) (rs new : List Region) (a v : ℕ) → a + n < 2 ^ 64 → ((q : ℕ) → a ≤ q → q < a + n → in_range text_at text_len q ≡ false) → IsSome (number_in n (first_byte rs) a) → ((q : ℕ) → first_byte new q ≡ overlaid n v a q (first_byte rs q)) → store n (memory_in text_at text_len rs) a v ≡ Ok (memory_in text_at text_len new)
store-regions n text_at text_len rs new a v h out there written =
    let m = memory_in text_at text_len rs in
    let old = loaded_some n m a (number_in n (first_byte rs) a) h out (ap (λ f. number_in n f a) (funext (get_flat rs))) there in
    ap (λ r. r >>= λ _. Ok (put_bytes n m a v)) old.1 ∙ ap Ok (put-regions n text_at text_len rs new a v h written)
