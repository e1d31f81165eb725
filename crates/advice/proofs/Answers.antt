-- That advised thresholds keep the results of the test.
use Rattle.std.proofs.Common.{◌≡◌, ℕ, zero, suc, ◌*◌, ◌/◌, ◌<◌, ◌≤◌, ◌&&◌, cond, min, Bool, true, false, Some, List, [], ◌∷◌, length, get_or, map, filter, refl, sym, ap, ◌∙◌, subst, bytes_eq, arith}
use Rattle.std.specs.List.{fold, reduce, All}
use Rattle.std.proofs.Math.Nat.{le-div_iff_mul-le, mul-le-mul_right}
use Rattle.std.proofs.lemmas.List.Elements.{All-head, All-tail, All-weaker}
use Rattle.std.proofs.lemmas.Slice.Eq.{bytes_eq-Decides}
use Rattle.w3_search.specs.Testing.{Holds, holds}
use Rattle.advice.specs.Advice.{most_threshold, rate, is_true_of, threshold_of}
use Rattle.advice.specs.Laws.{IsAnswerAt, AnswersStay}
use Rattle.advice.specs.declared.verdict.Verdict.{Verdict}

-- ---- the test

holds_tells : (value ticks n : ℕ) → holds value ticks n ≡ true → Holds value ticks n
unfolding holds
holds_tells value ticks n h = grind arith

tells_holds : (value ticks n : ℕ) → Holds value ticks n → holds value ticks n ≡ true
unfolding holds
tells_holds value ticks n h = grind (arith, h.some_ticks, h.enough)

-- what a threshold refuses a greater one refuses too
refused_above : (value ticks g n : ℕ) → g ≤ n → holds value ticks g ≡ false → (b : Bool) → holds value ticks n ≡ b → b ≡ false
refused_above value ticks g n h refused false is = refl
refused_above value ticks g n h refused true is =
    let now = holds_tells value ticks n is in
    let less : g * ticks ≤ n * ticks = mul-le-mul_right ticks h in
    let was = tells_holds value ticks g (record { some_ticks = now.some_ticks; enough = omega (arith, less, now.enough) }) in
    cc

-- ---- rates

-- where the test is true at a threshold, the rate isn't below it
rate_above : (v : Verdict) (g : ℕ) → g ≤ most_threshold → Holds v.value v.ticks g → g ≤ rate v
rate_above v g small h =
    let most : g ≤ v.value * 1000 / v.ticks = (le-div_iff_mul-le h.some_ticks).1 h.enough in
    omega (arith, most, small)

-- and at a threshold that isn't above the rate the test is true
true_below : (v : Verdict) (n : ℕ) → n ≤ rate v → 0 < v.ticks → Holds v.value v.ticks n
true_below v n h some =
    let most : n ≤ v.value * 1000 / v.ticks = omega arith in
    record { some_ticks = some; enough = (le-div_iff_mul-le some).0 most }

-- ---- the least rate of a name

module _ (name : List ℕ) where
  abbrev pub least : ℕ → List Verdict → ℕ
  least a vs = fold min a (map rate (filter (is_true_of name) vs))

  pub least_below : (a : ℕ) (ns : List ℕ) → fold min a ns ≤ a
  least_below a [] = omega arith
  least_below a (n ∷ ns) = let more = least_below (min a n) ns in omega (arith, more)

  capped : (n : ℕ) (ns : List ℕ) → n ≤ most_threshold → fold min n ns ≡ fold min (min most_threshold n) ns
  capped n ns h = ap (λ (m : ℕ). fold min m ns) (omega arith)

  -- the threshold is the least of the rates and of the greatest threshold
  pub is_least : (vs : List Verdict) (n : ℕ) → threshold_of vs name ≡ Some n → n ≡ least most_threshold vs
  is_least [] n e = cc
  is_least (v ∷ vs) n e = by (is_true_of name v) (is_least vs n) e
    where
      by : (b : Bool) → (threshold_of vs name ≡ Some n → n ≡ least most_threshold vs) → reduce min (map rate (cond b (v ∷ filter (is_true_of name) vs) (filter (is_true_of name) vs))) ≡ Some n → n ≡ fold min most_threshold (map rate (cond b (v ∷ filter (is_true_of name) vs) (filter (is_true_of name) vs)))
      by false more k = more k
      by true more k =
          let same : fold min (rate v) (map rate (filter (is_true_of name) vs)) ≡ n = cc in
          sym same ∙ capped (rate v) (map rate (filter (is_true_of name) vs)) (omega arith)

  -- it isn't above the rate of a true verdict on the name
  least_at : (vs : List Verdict) (a k : ℕ) (d : Verdict) → k < length vs → is_true_of name (get_or vs k d) ≡ true → least a vs ≤ rate (get_or vs k d)
  least_at [] a k d h true_one = absurd (omega arith)
  least_at (v ∷ vs) a zero d h true_one =
      rw true_one (let more = least_below (min a (rate v)) (map rate (filter (is_true_of name) vs)) in omega (arith, more))
  least_at (v ∷ vs) a (suc k) d h true_one = by (is_true_of name v) (λ m. least_at vs m k d (omega arith) true_one)
    where
      by : (b : Bool) → ((m : ℕ) → least m vs ≤ rate (get_or vs k d)) → fold min a (map rate (cond b (v ∷ filter (is_true_of name) vs) (filter (is_true_of name) vs))) ≤ rate (get_or vs k d)
      by true more = more (min a (rate v))
      by false more = more a

  -- and not below what no such rate is below
  least_above : (g : ℕ) (vs : List Verdict) (a : ℕ) → g ≤ a → All (λ v. is_true_of name v ≡ true → g ≤ rate v) vs → g ≤ least a vs
  least_above g [] a h each = h
  least_above g (v ∷ vs) a h each = by (is_true_of name v) refl (λ m k. least_above g vs m k (All-tail (λ u. is_true_of name u ≡ true → g ≤ rate u) v vs each))
    where
      by : (b : Bool) → is_true_of name v ≡ b → ((m : ℕ) → g ≤ m → g ≤ least m vs) → g ≤ fold min a (map rate (cond b (v ∷ filter (is_true_of name) vs) (filter (is_true_of name) vs)))
      by true e more = let own : g ≤ rate v = All-head (λ u. is_true_of name u ≡ true → g ≤ rate u) v vs each e in more (min a (rate v)) (omega (arith, own))
      by false e more = more a h

-- ---- the law

-- a true verdict at a given threshold has a rate that isn't below it
given_below : (given : List ℕ → ℕ) (name : List ℕ) → ((n : List ℕ) → given n ≤ most_threshold) → (v : Verdict) → IsAnswerAt (given v.hypothesis) v → is_true_of name v ≡ true → given name ≤ rate v
given_below given name small v answer true_one = by v.holds (bytes_eq name v.hypothesis) refl refl true_one
  where
    by : (b c : Bool) → v.holds ≡ b → bytes_eq name v.hypothesis ≡ c → (b && c) ≡ true → given name ≤ rate v
    by true true p q e =
        let same : name ≡ v.hypothesis = (bytes_eq-Decides name v.hypothesis).0 q in
        subst (λ (n : List ℕ). given n ≤ rate v) (sym same) (rate_above v (given v.hypothesis) (small v.hypothesis) (holds_tells v.value v.ticks (given v.hypothesis) (sym answer ∙ p)))
    by true false p q e = cc
    by false c p q e = cc

stays : (vs : List Verdict) (given : List ℕ → ℕ) → ((name : List ℕ) → given name ≤ most_threshold) → All (λ v. IsAnswerAt (given v.hypothesis) v) vs → (n k : ℕ) (d : Verdict) → k < length vs → threshold_of vs (get_or vs k d).hypothesis ≡ Some n → (b : Bool) → (get_or vs k d).holds ≡ b → b ≡ holds (get_or vs k d).value (get_or vs k d).ticks n
stays vs given small answers n k d h e true holding =
    let v = get_or vs k d in
    let was = holds_tells v.value v.ticks (given v.hypothesis) (sym (answers k d h) ∙ holding) in
    let of : is_true_of v.hypothesis v ≡ true = rw holding ((bytes_eq-Decides v.hypothesis v.hypothesis).1 refl) in
    let below : least v.hypothesis most_threshold vs ≤ rate v = least_at v.hypothesis vs most_threshold k d h of in
    sym (tells_holds v.value v.ticks n (true_below v n (rw (is_least v.hypothesis vs n e) below) was.some_ticks))
stays vs given small answers n k d h e false refused =
    let v = get_or vs k d in
    let above : given v.hypothesis ≤ least v.hypothesis most_threshold vs =
    least_above v.hypothesis (given v.hypothesis) vs most_threshold (small v.hypothesis)
    (All-weaker (λ u. IsAnswerAt (given u.hypothesis) u) (λ u. is_true_of v.hypothesis u ≡ true → given v.hypothesis ≤ rate u) (given_below given v.hypothesis small) vs answers) in
    sym (refused_above v.value v.ticks (given v.hypothesis) n (rw (is_least v.hypothesis vs n e) above) (sym (answers k d h) ∙ refused) (holds v.value v.ticks n) refl)

pub answers_stay : AnswersStay
answers_stay vs given small answers n k d h e = stays vs given small answers n k d h e (get_or vs k d).holds refl
