-- What is read of the nodes under test is what the definitions measure: their values, and the ticks of their harts.
use Rattle.std.proofs.Common.{◌≡◌, ℕ, zero, suc, ◌+◌, ◌-◌, ◌<◌, ◌≤◌, List, [], ◌∷◌, ◌++◌, Option, Some, None, refl, sym, ap, ap₂, ◌∙◌, arith, length, map, drop, take, filter, inl, inr, ⊎_elim, take-append-drop}
use Rattle.std.specs.Prelude.{Bool, true, false, cond, slice_index, ◌==◌, ◌||◌}
use Rattle.std.specs.List.{list_any, range_with_len}
use Rattle.std.proofs.lemmas.Bool.{cases_eq, cases_lt, eq-eqb, eqb-true, ne_eqb, true≢false}
use Rattle.std.proofs.lemmas.List.{get_or_past, take_rest}
use Rattle.std.proofs.lemmas.List.FromFn.{get_or-map-range_with_len, length-map-range_with_len}
use Rattle.pn_types.specs.declared.focus.Focus.{Focus}
use Rattle.pn_types.specs.declared.limits.TheConstants.{MAX_BUDGET}
use Rattle.machine.specs.Events.{IsQuiet}
use Rattle.instrumented.specs.Instrumented.{Instrumented}
use Rattle.resource_tree.specs.Foci as foci
use Rattle.w3_search.specs.declared.node.NodeSample.{NodeSample}
use Rattle.session_spec.specs.declared.data.MetricFocusPair.{MetricFocusPair}
use Rattle.session_spec.specs.Inputs.{Inputs, harts_of_focus}
use Rattle.session_spec.specs.Due.{is_armed}
use Rattle.session_spec.specs.Verdicts.{node_sample, node_samples, node_samples_by, ticks_in}
use Rattle.session_spec.specs.Ties.{AreShown, IsShown, IsTied}
use Rattle.session_spec.specs.Readings.{ticks_between, ticks_of}
use Rattle.session_spec.specs.Reads.{AreFromLast, node_read, node_read_by, nodes_read, ticks_by}
use Rattle.session_spec.proofs.Samples.{sample_is}
use Rattle.session_spec.proofs.Ticking.{no_ticks, ticks_append, ticks_tied}

-- ---- the ticks of several harts

abbrev is_among : List ℕ → ℕ → Bool
is_among harts g = list_any (λ x. x == g) harts

none_among : (xs : List ℕ) → length (filter (is_among []) xs) ≡ 0
none_among [] = refl
none_among (g ∷ xs) = none_among xs

-- one more, or not, by two tests that don't both pass
either_one : (a b c : Bool) → a ≡ b → (b ≡ true → c ≡ false) → cond (a || c) 1 0 ≡ cond b 1 0 + cond c 1 0
either_one true true true e n = absurd (true≢false (n refl))
either_one true true false e n = refl
either_one true false c e n = absurd (true≢false e)
either_one false true c e n = absurd (true≢false (sym e))
either_one false false true e n = refl
either_one false false false e n = refl

length_if : (b : Bool) (g : ℕ) (xs : List ℕ) → length (cond b (g ∷ xs) xs) ≡ cond b 1 0 + length xs
length_if true g xs = omega arith
length_if false g xs = omega arith

same_eq : (a b : ℕ) → (a == b) ≡ (b == a)
same_eq a b = ⊎_elim (λ (e : a ≡ b). eq-eqb a b e ∙ sym (eq-eqb b a (sym e))) (λ (n : a ≡ b → ⊥). ne_eqb a b n ∙ sym (ne_eqb b a (λ e. n (sym e)))) (cases_eq a b)

-- a hart that isn't among the others
with_one : (h : ℕ) (harts : List ℕ) → is_among harts h ≡ false → (xs : List ℕ) → length (filter (is_among (h ∷ harts)) xs) ≡ ticks_by xs h + length (filter (is_among harts) xs)
with_one h harts n [] = refl
with_one h harts n (g ∷ xs) =
    let rest = with_one h harts n xs in
    let all = length_if (is_among (h ∷ harts) g) g (filter (is_among (h ∷ harts)) xs) in
    let one = length_if (g == h) g (filter (λ x. x == h) xs) in
    let others = length_if (is_among harts g) g (filter (is_among harts) xs) in
    let first = either_one (h == g) (g == h) (is_among harts g) (same_eq h g) (λ e. ap (is_among harts) (eqb-true g h e) ∙ n) in
    omega arith

-- the numbers of a range differ
not_before : (a n g : ℕ) → g < a → is_among (range_with_len a n) g ≡ false
not_before a zero g l = refl
not_before a (suc n) g l = ap₂ (λ (x y : Bool). x || y) (ne_eqb a g (λ e. omega arith)) (not_before (a + 1) n g (omega arith))

among_range : (marks now xs : List ℕ) → ((h : ℕ) → slice_index now h - slice_index marks h ≡ ticks_by xs h) → (a n : ℕ)
    → ticks_between (range_with_len a n) marks now ≡ length (filter (is_among (range_with_len a n)) xs)
among_range marks now xs e a zero = sym (none_among xs)
among_range marks now xs e a (suc n) =
    let here = e a in
    let rest = among_range marks now xs e (a + 1) n in
    let all = with_one a (range_with_len (a + 1) n) (not_before (a + 1) n a (omega arith)) xs in
    omega arith

-- ---- as they are read

index_is : (f : ℕ → ℕ) (harts : ℕ) → ((h : ℕ) → harts ≤ h → f h ≡ 0) → (h : ℕ) → slice_index (map f (range_with_len 0 harts)) h ≡ f h
index_is f harts none h = ⊎_elim
    (λ (l : h < harts). get_or-map-range_with_len f 0 harts h h 0 l (omega arith))
    (λ (l : harts ≤ h). get_or_past (map f (range_with_len 0 harts)) h 0 (let n = length-map-range_with_len f 0 harts in omega arith) ∙ sym (none h l))
    (cases_lt h harts)

-- which focus it is
focus_ticks : (i : Inputs) (focus : Focus) (marks now xs : List ℕ) → ((h : ℕ) → slice_index now h - slice_index marks h ≡ ticks_by xs h)
    → ticks_between (harts_of_focus i focus) marks now ≡ length (filter (is_among (harts_of_focus i focus)) xs)
focus_ticks i focus marks now xs e = among_range marks now xs e (foci.harts_of_node i.tree.harts focus.hart).0 (foci.harts_of_node i.tree.harts focus.hart).1

module _ (i : Inputs) (m : Instrumented) (own : List ℕ) (all : List MetricFocusPair) (every : List ℕ) (t : IsTied i m own all every) (last : ℕ) where
  abbrev marks : List ℕ
  marks = map (ticks_by (take last own)) (range_with_len 0 i.settings.harts)

  -- the ticks of a hart since the last sample
  ticks_since : (h : ℕ) → slice_index (ticks_of m) h - slice_index marks h ≡ ticks_by (drop last own) h
  ticks_since h =
      let parts : (k : ℕ) → ticks_by own k ≡ ticks_by (take last own) k + ticks_by (drop last own) k =
      λ k. ap (λ (l : List ℕ). ticks_by l k) (sym (take-append-drop last own)) ∙ ticks_append (take last own) (drop last own) k in
      let now = ap (λ (l : List ℕ). slice_index l h) (ticks_tied i m own all every t) ∙ index_is (ticks_by own) i.settings.harts (no_ticks i m own all every t) h in
      let before = index_is (ticks_by (take last own)) i.settings.harts (λ k l. let none = no_ticks i m own all every t k l in let both = parts k in omega arith) h in
      let both = parts h in
      omega arith

  ticks_are : (s : MetricFocusPair) → s.from ≡ last → ticks_between (harts_of_focus i s.focus) marks (ticks_of m) ≡ ticks_in own (harts_of_focus i s.focus) s.from (length own)
  ticks_are s e =
      focus_ticks i s.focus marks (ticks_of m) (drop last own) ticks_since
      ∙ (ap (λ (l : List ℕ). length (filter (is_among (harts_of_focus i s.focus)) l)) (sym (take_rest own last)) ∙ ap (λ b. ticks_in own (harts_of_focus i s.focus) b (length own)) (sym e))

  module _ (quiet : IsQuiet m.core) (low : i.settings.budget ≤ MAX_BUDGET) where
    one_node : (s : MetricFocusPair) (read : ℕ) → IsShown i t.acts s read → (is_armed m.placer s ≡ true → s.from ≡ last) → (o : Option ℕ)
        → node_read_by o i m (length own) marks s read ≡ node_samples_by o i m.placer own (length own) s
    one_node s read k f None = refl
    one_node s read k f (Some n) = by (is_armed m.placer s) refl
      where
        by : (b : Bool) → is_armed m.placer s ≡ b
            → cond {A = List NodeSample} b (node_read i m (length own) marks n s read ∷ []) [] ≡ cond {A = List NodeSample} b (node_sample i own (length own) n s ∷ []) []
        by true e = ap₂ (λ (value ticks : ℕ). record { node = n; from = s.from; value = value; ticks = ticks } ∷ []) (sample_is i m own all every t quiet low s read k e) (ticks_are s (f e))
        by false e = refl

    pub nodes_are : (ss : List MetricFocusPair) (lasts : List ℕ) → AreShown i t.acts ss lasts → AreFromLast m.placer last ss
        → nodes_read i m (length own) marks ss lasts ≡ node_samples i m.placer own (length own) ss
    nodes_are [] [] k f = refl
    nodes_are [] (read ∷ lasts) k f = absurd k
    nodes_are (s ∷ ss) [] k f = absurd k
    nodes_are (s ∷ ss) (read ∷ lasts) k f = ap₂ (λ (x xs : List NodeSample). x ++ xs) (one_node s read k.0 (f s (inl refl)) s.node) (nodes_are ss lasts k.1 (λ u h. f u (inr h)))
