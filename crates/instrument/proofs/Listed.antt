-- The listed instruments in the order of their numbers: how one is found, and what keeps the order.
use Rattle.std.proofs.Common.{◌≡◌, ℕ, zero, suc, ◌+◌, ◌<◌, ◌≤◌, List, [], ◌∷◌, ◌++◌, Option, Some, None, Result, Ok, Err, refl, sym, ap, ◌∙◌, subst, arith, ⊎_elim, inl, inr, length, map, get_or, take, drop}
use Rattle.std.specs.Prelude.{Bool, true, false, slice_get, slice_set, find, filter, cond, IfSome, IfNone, not, ◌==◌, ◌&&◌}
use Rattle.std.specs.List.Sorted.{IsSearchInRange, IsBinarySearchResult, IsNonDecreasingBy}
use Rattle.std.specs.Option.{option_map}
use Rattle.std.specs.Ordering.{nat_cmp, ordering_index}
use Rattle.std.specs.Result.{result_ok}
use Rattle.std.proofs.lemmas.Bool.{cases_lt, cond-true, cond-false, eq-eqb, ne_eqb}
use Rattle.std.proofs.lemmas.Bool.Decides.{nat_tests}
use Rattle.std.proofs.lemmas.Cmp.{ranked}
use Rattle.std.proofs.lemmas.List.{get_or_default}
use Rattle.machine.specs.Cores.{In}
use Rattle.machine.proofs.Lists.{in_map, in_filter, in_snoc}
use Rattle.instrument.specs.Freed.{is_kept}
use Rattle.instrument.specs.Listed.{AreInOrder, AreNumberedBelow}
use Rattle.instrument.specs.Placements.{is_leaving, with_state}
use Rattle.instrument.specs.declared.instrument.Instrument.{Instrument}
use Rattle.instrument.specs.declared.number.State.{State}
use Rattle.instrument.proofs.Grown.{item_in}

-- ---- the order by places

in_at : (xs : List Instrument) (j : ℕ) (d : Instrument) → j < length xs → In (get_or xs j d) xs
in_at xs j d l = item_in xs j (get_or xs j d) l (get_or_default xs j d (get_or xs j d) l)

above_at : (xs : List Instrument) (i j : ℕ) (d : Instrument) → AreInOrder xs → i < j → j < length xs → (get_or xs i d).no < (get_or xs j d).no
above_at [] i j d a l m = absurd (omega arith)
above_at (x ∷ xs) i zero d a l m = absurd (omega arith)
above_at (x ∷ xs) zero (suc j) d a l m = a.0 (get_or xs j d) (in_at xs j d (omega arith))
above_at (x ∷ xs) (suc i) (suc j) d a l m = above_at xs i j d a.1 (omega arith) (omega arith)

-- the place of an instrument in a list of them
place_in : (xs : List Instrument) (i : Instrument) → In i xs → (k : ℕ) × (k < length xs) × ((d : Instrument) → get_or xs k d ≡ i)
place_in [] i h = absurd h
place_in (x ∷ xs) i (inl e) = (zero, omega arith, λ d. sym e)
place_in (x ∷ xs) i (inr h) = let r = place_in xs i h in (suc r.0, let l = r.1 in omega arith, r.2)

-- ---- a search

-- the comparisons with a number rise along the list, as the search asks
rises : (xs : List Instrument) (n : ℕ) → AreInOrder xs → IsNonDecreasingBy (λ (i : Instrument). ordering_index (nat_cmp i.no n)) xs
rises xs n a i j d le l =
    let o = λ (lt : i < j). above_at xs i j d a lt l in
    let same = λ (e : i ≡ j). ap (λ k. (get_or xs k d).no) e in
    grind (arith, nat_tests, o, same)

at_get : (xs : List Instrument) (k : ℕ) (d : Instrument) → k < length xs → slice_get xs k ≡ Some (get_or xs k d)
at_get [] k d l = absurd (omega arith)
at_get (x ∷ xs) zero d l = refl
at_get (x ∷ xs) (suc k) d l = at_get xs k d (omega arith)

-- what the search returns
pub record IsPlace (xs : List Instrument) (n : ℕ) (o : Option ℕ) : Type 0 where
  pub within : IfSome o (λ place. place < length xs)
  pub some : IfSome o (λ place. option_map (λ i. i.no) (slice_get xs place) ≡ Some n)
  pub none : IfNone o ((i : Instrument) → In i xs → i.no ≡ n → ⊥)

pub searched : (xs : List Instrument) (n : ℕ) (r : Result ℕ ℕ) → AreInOrder xs → IsSearchInRange r (length xs) → IsBinarySearchResult (λ (i : Instrument). nat_cmp i.no n) xs r → IsPlace xs n (result_ok r)
searched [] n (Ok place) a l s = absurd (omega (arith, l))
searched (x ∷ xs) n (Ok place) a l s = record {
  within = l;
  some = ap (option_map (λ (i : Instrument). i.no)) (at_get (x ∷ xs) place x l) ∙ ap (λ m. Some m) (ranked _ n _ (sym (s x)));
  none = tt;
}
searched xs n (Err place) a l s = record {
  within = tt;
  some = tt;
  none = λ i h e.
      let p = place_in xs i h in
      let parted = s (rises xs n a) in
      let no = ap (λ (u : Instrument). u.no) (p.2 i) in
      let below : p.0 < place → ⊥ = λ lt. let o : (get_or xs p.0 i).no < n = ranked _ n _ (sym (parted.0 p.0 i (omega arith) lt)) in omega (arith, o, no, e) in
      let above : place ≤ p.0 → ⊥ = λ le. let o : n < (get_or xs p.0 i).no = ranked _ n _ (sym (parted.1 p.0 i le p.1)) in omega (arith, o, no, e) in
      ⊎_elim below above (cases_lt p.0 place);
}

-- ---- what is found

away_found : (xs : List Instrument) (n : ℕ) → ((i : Instrument) → In i xs → i.no ≡ n → ⊥) → find (λ i. i.no == n) xs ≡ None
away_found [] n away = refl
away_found (x ∷ xs) n away = cond-false (x.no == n) _ _ (ne_eqb _ _ (away x (inl refl))) ∙ away_found xs n (λ i h. away i (inr h))

-- one that stands after another has another number
behind : (m n : ℕ) (xs : List Instrument) (k : ℕ) → ((j : Instrument) → In j xs → m < j.no) → option_map (λ (i : Instrument). i.no) (slice_get xs k) ≡ Some n → m ≡ n → ⊥
behind m n [] k b e q = absurd cc
behind m n (x ∷ xs) zero b e q = let z : x.no ≡ n = cc in let l = b x (inl refl) in absurd (omega (arith, l, z, q))
behind m n (x ∷ xs) (suc k) b e q = behind m n xs k (λ j h. b j (inr h)) e q

get_found : (xs : List Instrument) (n place : ℕ) → AreInOrder xs → option_map (λ (i : Instrument). i.no) (slice_get xs place) ≡ Some n → slice_get xs place ≡ find (λ i. i.no == n) xs
get_found [] n place a e = absurd cc
get_found (x ∷ xs) n zero a e = let z : x.no ≡ n = cc in sym (cond-true (x.no == n) _ _ (eq-eqb _ _ z))
get_found (x ∷ xs) n (suc place) a e = get_found xs n place a.1 e ∙ sym (cond-false (x.no == n) _ _ (ne_eqb _ _ (behind x.no n xs place a.0 e)))

pub place_found : (xs : List Instrument) (n place : ℕ) (x : Instrument) → AreInOrder xs → place < length xs → x ≡ get_or xs place x → option_map (λ (i : Instrument). i.no) (slice_get xs place) ≡ Some n → Some x ≡ find (λ i. i.no == n) xs
place_found xs n place x a l e q = ap (λ u. Some u) e ∙ (sym (at_get xs place x l) ∙ get_found xs n place a q)

pub none_found : (xs : List Instrument) (n : ℕ) → ((i : Instrument) → In i xs → i.no ≡ n → ⊥) → None ≡ find (λ (i : Instrument). i.no == n) xs
none_found xs n away = sym (away_found xs n away)

-- ---- what changes its state

-- the instrument of a number has another state
abbrev changed : ℕ → (State → State) → Instrument → Instrument
changed n f i = record i { state = cond (i.no == n) (f i.state) i.state }

away_changed : (x : Instrument) (n : ℕ) (f : State → State) → (x.no ≡ n → ⊥) → x ≡ changed n f x
away_changed x n f away = ap (λ v. record x { state = v }) (sym (cond-false (x.no == n) (f x.state) x.state (ne_eqb _ _ away)))

pub none_changed : (xs : List Instrument) (n : ℕ) (f : State → State) → ((i : Instrument) → In i xs → i.no ≡ n → ⊥) → xs ≡ map (changed n f) xs
none_changed [] n f away = refl
none_changed (x ∷ xs) n f away = cc (away_changed x n f (away x (inl refl)), none_changed xs n f (λ i h. away i (inr h)))

pub place_changed : (xs : List Instrument) (n place : ℕ) (f : State → State) (x y : Instrument) (s : State) → AreInOrder xs → place < length xs → option_map (λ (i : Instrument). i.no) (slice_get xs place) ≡ Some n
    → y ≡ get_or xs place y → s ≡ f y.state → slice_set xs place (record (get_or xs place x) { state = s }) ≡ map (changed n f) xs
place_changed [] n place f x y s a l e at is = absurd (omega arith)
place_changed (z ∷ zs) n zero f x y s a l e at is =
    let q : z.no ≡ n = cc in
    let state = is ∙ (ap (λ (u : Instrument). f u.state) at ∙ sym (cond-true (z.no == n) (f z.state) z.state (eq-eqb _ _ q))) in
    let first : record z { state = s } ≡ changed n f z = ap (λ v. record z { state = v }) state in
    cc (first, none_changed zs n f (λ i h p. let b = a.0 i h in absurd (omega (arith, b, p, q))))
place_changed (z ∷ zs) n (suc place) f x y s a l e at is = cc (away_changed z n f (behind z.no n zs place a.0 e), place_changed zs n place f x y s a.1 (omega arith) e at is)

-- ---- one that was dropped is left out

kept_away : (n : ℕ) (i : Instrument) → (i.no ≡ n → ⊥) → is_kept n i ≡ true
kept_away n i away = ap (λ b. not (b && is_leaving i.state)) (ne_eqb i.no n away)

pub none_dropped : (xs : List Instrument) (n : ℕ) → ((i : Instrument) → In i xs → i.no ≡ n → ⊥) → xs ≡ filter (is_kept n) xs
none_dropped [] n away = refl
none_dropped (x ∷ xs) n away = ap (λ ys. x ∷ ys) (none_dropped xs n (λ i h. away i (inr h))) ∙ sym (cond-true (is_kept n x) _ _ (kept_away n x (away x (inl refl))))

-- those after the instrument of a number have other numbers
behind_stay : (x : Instrument) (xs : List Instrument) (n : ℕ) → ((j : Instrument) → In j xs → x.no < j.no) → x.no ≡ n → xs ≡ filter (is_kept n) xs
behind_stay x xs n b q = none_dropped xs n (λ i h p. let l = b i h in absurd (omega (arith, l, p, q)))

kept_here : (n : ℕ) (x : Instrument) (b : Bool) → x.no ≡ n → is_leaving x.state ≡ b → is_kept n x ≡ not b
kept_here n x b q e = ap (λ c. not (c && is_leaving x.state)) (eq-eqb x.no n q) ∙ ap not e

pub place_dropped : (xs : List Instrument) (n place : ℕ) (x : Instrument) → AreInOrder xs → place < length xs → x ≡ get_or xs place x → option_map (λ (i : Instrument). i.no) (slice_get xs place) ≡ Some n → is_leaving x.state ≡ true
    → take place xs ++ drop (place + 1) xs ≡ filter (is_kept n) xs
place_dropped [] n place x a l e q d = absurd (omega arith)
place_dropped (z ∷ zs) n zero x a l e q d =
    let p : z.no ≡ n = cc in
    behind_stay z zs n a.0 p ∙ sym (cond-false (is_kept n z) _ _ (kept_here n z true p (ap (λ (u : Instrument). is_leaving u.state) (sym e) ∙ d)))
place_dropped (z ∷ zs) n (suc place) x a l e q d =
    let next : suc place + 1 ≡ suc (place + 1) = omega arith in
    ap (λ k. z ∷ take place zs ++ drop k (z ∷ zs)) next
    ∙ ap (λ ys. z ∷ ys) (place_dropped zs n place x a.1 (omega arith) e q d)
    ∙ sym (cond-true (is_kept n z) _ _ (kept_away n z (behind z.no n zs place a.0 q)))

pub place_stays : (xs : List Instrument) (n place : ℕ) (x : Instrument) → AreInOrder xs → place < length xs → x ≡ get_or xs place x → option_map (λ (i : Instrument). i.no) (slice_get xs place) ≡ Some n → is_leaving x.state ≡ false
    → xs ≡ filter (is_kept n) xs
place_stays [] n place x a l e q d = absurd (omega arith)
place_stays (z ∷ zs) n zero x a l e q d =
    let p : z.no ≡ n = cc in
    ap (λ ys. z ∷ ys) (behind_stay z zs n a.0 p) ∙ sym (cond-true (is_kept n z) _ _ (kept_here n z false p (ap (λ (u : Instrument). is_leaving u.state) (sym e) ∙ d)))
place_stays (z ∷ zs) n (suc place) x a l e q d =
    ap (λ ys. z ∷ ys) (place_stays zs n place x a.1 (omega arith) e q d) ∙ sym (cond-true (is_kept n z) _ _ (kept_away n z (behind z.no n zs place a.0 q)))

-- ---- the order stays

pub order_filter : (p : Instrument → Bool) (xs : List Instrument) → AreInOrder xs → AreInOrder (filter p xs)
order_filter p [] a = tt
order_filter p (x ∷ xs) a = by (p x) (order_filter p xs a.1)
  where
    by : (b : Bool) → AreInOrder (filter p xs) → AreInOrder (cond b (x ∷ filter p xs) (filter p xs))
    by true r = (λ j h. a.0 j (in_filter p xs j h).0, r)
    by false r = r

pub order_map : (f : Instrument → Instrument) (xs : List Instrument) → ((i : Instrument) → (f i).no ≡ i.no) → AreInOrder xs → AreInOrder (map f xs)
order_map f [] same a = tt
order_map f (x ∷ xs) same a = (
  λ j h.
      let o = in_map f xs j h in
      let l = a.0 o.0 o.1 in let e = ap (λ (u : Instrument). u.no) o.2 in let p = same x in let q = same o.0 in
      omega (arith, l, e, p, q),
  order_map f xs same a.1,
)

pub order_added : (xs : List Instrument) (x : Instrument) → AreInOrder xs → AreNumberedBelow x.no xs → AreInOrder (xs ++ x ∷ [])
order_added [] x a b = (λ j h. absurd h, tt)
order_added (y ∷ ys) x a b =
    (λ j h. ⊎_elim (λ i. a.0 j i) (λ e. subst (λ (u : Instrument). y.no < u.no) (sym e) (b y (inl refl))) (in_snoc ys x j h), order_added ys x a.1 (λ i h. b i (inr h)))

-- ---- all stay below

pub below_filter : (n : ℕ) (p : Instrument → Bool) (xs : List Instrument) → AreNumberedBelow n xs → AreNumberedBelow n (filter p xs)
below_filter n p xs b i h = b i (in_filter p xs i h).0

pub below_states : (n m : ℕ) (s : State) (xs : List Instrument) → AreNumberedBelow n xs → AreNumberedBelow n (map (with_state m s) xs)
below_states n m s xs b i h = let o = in_map (with_state m s) xs i h in subst (λ (u : Instrument). u.no < n) (sym o.2) (b o.0 o.1)

pub below_added : (n : ℕ) (xs : List Instrument) (x : Instrument) → AreNumberedBelow n xs → x.no ≡ n → AreNumberedBelow (n + 1) (xs ++ x ∷ [])
below_added n xs x b e i h = ⊎_elim (λ k. let l = b i k in omega (arith, l)) (λ k. let q = ap (λ (u : Instrument). u.no) k in omega (arith, q, e)) (in_snoc xs x i h)
