-- What a write to one region changes.
use Rattle.std.proofs.Common.{◌≡◌, ℕ, zero, suc, ◌+◌, ◌*◌, ◌<◌, ◌≤◌, List, [], ◌∷◌, length, get_or, set, length-set, Option, Some, None, Result, Ok, Err, refl, ap, subst, sym, ◌∙◌, arith, rules, cond, Bool, true, false, nat_eq}
use Rattle.std.proofs.lemmas.Grind.{common_steps}
use Rattle.std.proofs.lemmas.List.{get_or_default}
use Rattle.std.specs.Prelude.{IsOk}
use Rattle.std.specs.Option.{IsSome}
use Rattle.std.specs.FinMap.{get, get-insert}
use Rattle.std.proofs.lemmas.Cmp.{nat_cmp_total}
use Rattle.std.specs.Cmp.{unsigned_tied}
use Rattle.rv_word.specs.declared.outcome.MemStop.{MemStop}
use Rattle.rv_word.specs.declared.outcome.MemStop.TheVariants.{InText}
use Rattle.rv_word.specs.Memory.{Memory, cell, mapped, in_range, set_byte, load, next_address, ◌>>=◌}
use Rattle.rv_mem.specs.Regions.{content, place_in, place_of, byte_or, first_byte}
use Rattle.rv_mem.specs.declared.mapped.Region.{Region}

place_in-is : (at len a place : ℕ) → place_in at len a ≡ Some place → (a ≡ at + place) × (place < len)
place_in-is at len a place e = grind arith

pub in_first : (at x a b place : ℕ) (items : List ℕ) (rest : Option ℕ) → place_in at (length items) a ≡ Some place → byte_or (place_in at (length items) x) (set items place b) rest ≡ cond (nat_eq x a) (Some b) (byte_or (place_in at (length items) x) items rest)
in_first at x a b place items rest e = grind (arith, common_steps, place_in-is at (length items) a place e)

pub in_other : (at x a b : ℕ) (items : List ℕ) (rest new : Option ℕ) → place_in at (length items) a ≡ None → new ≡ cond (nat_eq x a) (Some b) rest → byte_or (place_in at (length items) x) items new ≡ cond (nat_eq x a) (Some b) (byte_or (place_in at (length items) x) items rest)
in_other at x a b items rest new e n = grind (arith, common_steps)

pub put_at : (segs : List Region) (i : ℕ) (d new : Region) (a b place x : ℕ) → i < length segs → ((k : ℕ) → k < i → place_of (get_or segs k d) a ≡ None) → place_of (get_or segs i d) a ≡ Some place → new.at ≡ (get_or segs i d).at → content new ≡ set (content (get_or segs i d)) place b → first_byte (set segs i new) x ≡ cond (nat_eq x a) (Some b) (first_byte segs x)
put_at [] i d new a b place x h before e ea eb = absurd (omega arith)
put_at (s ∷ ss) zero d new a b place x h before e ea eb =
    rw (ea, eb, length-set) (in_first s.at x a b place (content s) (first_byte ss x) e)
put_at (s ∷ ss) (suc i) d new a b place x h before e ea eb =
    in_other s.at x a b (content s) (first_byte ss x) (first_byte (set ss i new) x) (before 0 (omega arith)) (put_at ss i d new a b place x (omega arith) (λ k h. before (suc k) (omega arith)) e ea eb)

pub none_in : (segs : List Region) (d : Region) (a : ℕ) → ((k : ℕ) → k < length segs → place_of (get_or segs k d) a ≡ None) → first_byte segs a ≡ None
none_in [] d a none = refl
none_in (s ∷ ss) d a none = rw (none 0 (omega arith)) (none_in ss d a (λ k h. none (suc k) (omega arith)))

pub put_found : (segs old : List Region) (i : ℕ) (s d new : Region) (a b place : ℕ) → i < length segs → ((k : ℕ) (e : Region) → k < i → place_of (get_or segs k e) a ≡ None) → s ≡ get_or segs i s → Some place ≡ place_of s a → d ≡ get_or segs i d → new.at ≡ d.at → content new ≡ set (content d) place b → segs ≡ old → (x : ℕ) → first_byte (set segs i new) x ≡ cond (nat_eq x a) (Some b) (first_byte old x)
put_found segs old i s d new a b place h before es e ed ea eb same x =
    let es' : s ≡ get_or segs i d = es ∙ get_or_default segs i s d h in
    let e' : place_of (get_or segs i d) a ≡ Some place = subst (λ z. place_of z a ≡ Some place) es' (sym e) in
    let ea' : new.at ≡ (get_or segs i d).at = ea ∙ ap (λ z. z.at) ed in
    let eb' : content new ≡ set (content (get_or segs i d)) place b = eb ∙ ap (λ z. set (content z) place b) ed in
    subst (λ z. first_byte (set segs i new) x ≡ cond (nat_eq x a) (Some b) (first_byte z x)) same (put_at segs i d new a b place x h (λ k lt. before k d lt) e' ea' eb')

-- where nothing has the address, no byte is there
pub none_found : (segs : List Region) (a n : ℕ) → length segs ≤ n → ((k : ℕ) (e : Region) → k < n → place_of (get_or segs k e) a ≡ None) → first_byte segs a ≡ None
none_found [] a n h none = refl
none_found (s ∷ ss) a n h none = none_in (s ∷ ss) s a (λ k lt. none k s (omega arith))

pub unfound : (segs old : List Region) (a n : ℕ) → length segs ≤ n → ((k : ℕ) (e : Region) → k < n → place_of (get_or segs k e) a ≡ None) → segs ≡ old → IsSome (first_byte old a) → ⊥
unfound segs old a n h none same ok =
    let e : first_byte segs a ≡ None = none_found segs a n h none in
    let k : IsSome (first_byte segs a) = subst (λ z. IsSome (first_byte z a)) (sym same) ok in
    cc

-- a byte that is put leaves each readable byte readable
kept_by : (w t : Bool) (b : ℕ) (e : MemStop) (a : ℕ) (o : Option ℕ) → IsOk (cond t (Err e) (mapped o a)) → IsOk (cond t (Err e) (mapped (cond w (Some b) o) a))
kept_by true true b e a o h = h
kept_by true false b e a o h = search rules
kept_by false t b e a o h = h

pub get_put : (m : Memory) (x b a : ℕ) → get (set_byte m x b).cells a ≡ cond (nat_eq a x) (Some b) (get m.cells a)
get_put m x b a = get-insert nat_cmp_total m.cells x b a ∙ ap (λ t. cond t (Some b) (get m.cells a)) (unsigned_tied a x)

cell_kept : (m : Memory) (x b a : ℕ) → IsOk (cell m a) → IsOk (cell (set_byte m x b) a)
cell_kept m x b a h =
    subst (λ o. IsOk (cond (in_range m.text_at m.text_len a) (Err (InText a)) (mapped o a))) (sym (get_put m x b a)) (kept_by (nat_eq a x) (in_range m.text_at m.text_len a) b (InText a) a (get m.cells a) h)

-- whether the bytes can be read, one by one
ok_bind : (r q : Result ℕ MemStop) → IsOk (r >>= λ low. q >>= λ high. Ok (low + high * 256)) → IsOk r × IsOk q
ok_bind (Ok x) (Ok y) h = (search rules, search rules)
ok_bind (Ok x) (Err e) h = absurd (cc)
ok_bind (Err e) q h = absurd (cc)

bind_ok : (r q : Result ℕ MemStop) → IsOk r → IsOk q → IsOk (r >>= λ low. q >>= λ high. Ok (low + high * 256))
bind_ok (Ok x) (Ok y) h k = search rules
bind_ok (Ok x) (Err e) h k = absurd (cc)
bind_ok (Err e) q h k = absurd (cc)

pub kept : (n : ℕ) (m : Memory) (x b a : ℕ) → IsOk (load n m a) → IsOk (load n (set_byte m x b) a)
unfolding load
kept zero m x b a h = h
kept (suc n) m x b a h =
    let p = ok_bind (cell m a) (load n m (next_address a)) h in
    bind_ok (cell (set_byte m x b) a) (load n (set_byte m x b) (next_address a)) (cell_kept m x b a p.0) (kept n m x b (next_address a) p.1)

pub rest_ok : (n k : ℕ) (m : Memory) (a : ℕ) → n ≡ suc k → IsOk (load n m a) → IsOk (cell m a) × IsOk (load k m (next_address a))
unfolding load
rest_ok n k m a e h = ok_bind (cell m a) (load k m (next_address a)) (subst (λ j. IsOk (load j m a)) e h)

-- a byte that can be read is some region's
pub is_there : (t : Bool) (e : MemStop) (a : ℕ) (o : Option ℕ) → IsOk (cond t (Err e) (mapped o a)) → IsSome o
is_there true e a o h = absurd (cc)
is_there false e a None h = absurd (cc)
is_there false e a (Some x) h = search rules

pub outside : (t : Bool) (e : MemStop) (a : ℕ) (o p : Option ℕ) → false ≡ t → o ≡ p → mapped p a ≡ cond t (Err e) (mapped o a)
outside t e a o p f h = subst (λ z. mapped p a ≡ cond z (Err e) (mapped o a)) f (ap (λ z. mapped z a) (sym h))
