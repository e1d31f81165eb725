-- A hypothesis that is its own ancestor, by places and by names.
use Rattle.std.proofs.Common.{◌≡◌, ℕ, zero, suc, ◌+◌, ◌≤◌, ◌||◌, ◌&&◌, ◌⊎◌, inl, inr, ◌==◌, cond, Bool, true, false, Option, Some, None, List, [], ◌∷◌, ◌++◌, length, map, position, bytes_eq, slice_get, eq-eqb, eqb-true, refl, sym, ap, ◌∙◌, subst, arith, length-append}
use Rattle.std.specs.List.{list_any, position_from}
use Rattle.std.specs.Option.{option_and_then}
use Rattle.std.proofs.lemmas.Bool.{or_parts}
use Rattle.std.proofs.lemmas.Slice.Eq.{bytes_eq-Decides}
use Rattle.std.proofs.lemmas.Iterator.Adapters.{position_from-zero}
use Rattle.mdl_ast.specs.declared.items.Item.{Item}
use Rattle.mdl_ast.specs.declared.items.Item.TheVariants.{Include, Sync, Metric, Constraint, Hypothesis, Search, Phase, Wish}
use Rattle.mdl_ast.specs.declared.items.Hypothesis.{Hypothesis as TheHypothesis}
use Rattle.mdl_check.specs.Placed.{Entry}
use Rattle.mdl_check.specs.Names.{hypothesis_place}
use Rattle.mdl_check.specs.Rules.{parent_place, parents_of, parent_at, leads_to, is_cyclic}
use Rattle.directives.proofs.Stripped.{or_right, tally, none_counted, lift, bare, named, has_parent, is_pair, Leads, hyps_of, is_at, place_is, any_hyps}
use Rattle.directives.proofs.Faultless.{Each, parent_is}

pub same_name : (a b : List ℕ) → bytes_eq a b ≡ true → a ≡ b
same_name a b h = (bytes_eq-Decides a b).0 h

pub name_itself : (a : List ℕ) → bytes_eq a a ≡ true
name_itself a = (bytes_eq-Decides a a).1 refl

pub and_both : (a b : Bool) → (a && b) ≡ true → (a ≡ true) × (b ≡ true)
and_both true b h = (refl, h)
and_both false b h = absurd cc

-- ---- an item that passes

pub lifted : (q : TheHypothesis → Bool) (item : Item) → lift q item ≡ true → (h : TheHypothesis) × (item ≡ Hypothesis h) × (q (bare h) ≡ true)
lifted q (Include i) e = absurd cc
lifted q (Sync s) e = absurd cc
lifted q (Metric m) e = absurd cc
lifted q (Constraint c) e = absurd cc
lifted q (Hypothesis h) e = (h, refl, e)
lifted q (Search s) e = absurd cc
lifted q (Phase p) e = absurd cc
lifted q (Wish w) e = absurd cc

-- ---- places

first_from : (t : Entry → Bool) (i k : ℕ) (es : List Entry) → position_from t i es ≡ Some k → (j : ℕ) × (e : Entry) × (k ≡ i + j) × (slice_get es j ≡ Some e) × (t e ≡ true)
first_from t i k [] h = absurd cc
first_from t i k (e ∷ es) h = by (t e) refl h (λ g. first_from t (i + 1) k es g)
  where
    by : (b : Bool) → t e ≡ b → cond b (Some i) (position_from t (i + 1) es) ≡ Some k →
        (position_from t (i + 1) es ≡ Some k → (j : ℕ) × (x : Entry) × (k ≡ i + 1 + j) × (slice_get es j ≡ Some x) × (t x ≡ true)) →
        (j : ℕ) × (x : Entry) × (k ≡ i + j) × (slice_get (e ∷ es) j ≡ Some x) × (t x ≡ true)
    by true p g f = let same : i ≡ k = cc in (0, e, omega arith, refl, p)
    by false p g f = let r = f g in (suc r.0, r.1, omega (arith, r.2), r.3, r.4)

-- what stands at the place of the first that passes
pub first_at : (t : Entry → Bool) (k : ℕ) (es : List Entry) → position t es ≡ Some k → (e : Entry) × (slice_get es k ≡ Some e) × (t e ≡ true)
first_at t k es h =
    let r = first_from t 0 k es (sym (position_from-zero t es) ∙ h) in
    let same : r.0 ≡ k = omega (arith, r.2) in
    (r.1, subst (λ (n : ℕ). slice_get es n ≡ Some r.1) same r.3, r.4)

place_from : (t : Entry → Bool) (i : ℕ) (es : List Entry) → list_any t es ≡ true → (k : ℕ) × (position_from t i es ≡ Some k)
place_from t i [] h = absurd cc
place_from t i (e ∷ es) h = by (t e) h (λ g. place_from t (i + 1) es g)
  where
    by : (b : Bool) → (b || list_any t es) ≡ true → (list_any t es ≡ true → (k : ℕ) × (position_from t (i + 1) es ≡ Some k)) → (k : ℕ) × (cond b (Some i) (position_from t (i + 1) es) ≡ Some k)
    by true g f = (i, refl)
    by false g f = f g

pub some_place : (t : Entry → Bool) (es : List Entry) → list_any t es ≡ true → (k : ℕ) × (position t es ≡ Some k)
some_place t es h = let r = place_from t 0 es h in (r.0, position_from-zero t es ∙ r.1)

nobody : (t q : Entry → Bool) → ((e : Entry) → q e ≡ true → t e ≡ true) → (es : List Entry) → list_any t es ≡ false → list_any q es ≡ false
nobody t q h [] n = refl
nobody t q h (x ∷ xs) n = let m = or_parts (t x) (list_any t xs) n in by (q x) refl m.0 (nobody t q h xs m.1)
  where
    by : (b : Bool) → q x ≡ b → t x ≡ false → list_any q xs ≡ false → (b || list_any q xs) ≡ false
    by true u v w = let y = h x u in absurd cc
    by false u v w = w

-- where one passes a test, the first that does passes each test that only those pass
only_from : (t q : Entry → Bool) (i k : ℕ) (es : List Entry) → ((e : Entry) → q e ≡ true → t e ≡ true) → tally t es ≤ 1 → list_any q es ≡ true → position_from t i es ≡ Some k →
    (e : Entry) × (j : ℕ) × (k ≡ i + j) × (slice_get es j ≡ Some e) × (q e ≡ true)
only_from t q i k [] h c a p = absurd cc
only_from t q i k (e ∷ es) h c a p = by (t e) (q e) refl refl c a p (λ f g m. only_from t q (i + 1) k es h f g m)
  where
    by : (b d : Bool) → t e ≡ b → q e ≡ d → cond b 1 0 + tally t es ≤ 1 → (d || list_any q es) ≡ true → cond b (Some i) (position_from t (i + 1) es) ≡ Some k →
        (tally t es ≤ 1 → list_any q es ≡ true → position_from t (i + 1) es ≡ Some k → (x : Entry) × (j : ℕ) × (k ≡ i + 1 + j) × (slice_get es j ≡ Some x) × (q x ≡ true)) →
        (x : Entry) × (j : ℕ) × (k ≡ i + j) × (slice_get (e ∷ es) j ≡ Some x) × (q x ≡ true)
    by true true s r c a p f = let same : i ≡ k = cc in (e, 0, omega arith, refl, r)
    by true false s r c a p f = let none = none_counted t es (omega arith) in let g = sym (nobody t q h es none) ∙ a in absurd cc
    by false true s r c a p f = let y = h e r in absurd cc
    by false false s r c a p f = let z = f (omega arith) a p in (z.0, suc z.1, omega (arith, z.2), z.3, z.4)

only_at : (t q : Entry → Bool) (k : ℕ) (es : List Entry) → ((e : Entry) → q e ≡ true → t e ≡ true) → tally t es ≤ 1 → list_any q es ≡ true → position t es ≡ Some k → (e : Entry) × (slice_get es k ≡ Some e) × (q e ≡ true)
only_at t q k es h c a p =
    let r = only_from t q 0 k es h c a (sym (position_from-zero t es) ∙ p) in
    let same : r.1 ≡ k = omega (arith, r.2) in
    (r.0, subst (λ (n : ℕ). slice_get es n ≡ Some r.0) same r.3, r.4)

pair_named : (b p : List ℕ) (item : Item) → lift (is_pair b p) item ≡ true → lift (named b) item ≡ true
pair_named b p (Include i) e = e
pair_named b p (Sync s) e = e
pair_named b p (Metric m) e = e
pair_named b p (Constraint c) e = e
pair_named b p (Hypothesis h) e = (and_both (bytes_eq b h.name) (has_parent p h.parent) e).0
pair_named b p (Search s) e = e
pair_named b p (Phase f) e = e
pair_named b p (Wish w) e = e

pub parent_of_pair : (p : List ℕ) (parent : Option (List ℕ)) → has_parent p parent ≡ true → parent ≡ Some p
parent_of_pair p None h = absurd cc
parent_of_pair p (Some own) h = ap Some (sym (same_name p own h))

any_named : (b p : List ℕ) (es : List Entry) → list_any (is_pair b p) (hyps_of es) ≡ true → list_any (is_at b) es ≡ true
any_named b p es h = by (list_any (is_at b) es) refl
  where
    by : (c : Bool) → list_any (is_at b) es ≡ c → list_any (is_at b) es ≡ true
    by true e = e
    by false e = let none = nobody (is_at b) (λ e. lift (is_pair b p) e.item) (λ e q. pair_named b p e.item q) es e in let g = sym none ∙ sym (any_hyps (is_pair b p) es) ∙ h in absurd cc

-- the place of the parent, for a pair of names
parent_place_of : (all : List Entry) (b p : List ℕ) (k : ℕ) → tally (is_at b) all ≤ 1 → list_any (is_pair b p) (hyps_of all) ≡ true → hypothesis_place all b ≡ Some k →
    parent_at (parents_of all) k ≡ hypothesis_place all p
parent_place_of all b p k c a h =
    let r = only_at (is_at b) (λ e. lift (is_pair b p) e.item) k all (λ e q. pair_named b p e.item q) c (sym (any_hyps (is_pair b p) all) ∙ a) (sym (place_is all b) ∙ h) in
    let g = lifted (is_pair b p) r.0.item r.2 in
    let parent : g.0.parent ≡ Some p = parent_of_pair p g.0.parent (and_both (bytes_eq b g.0.name) (has_parent p g.0.parent) g.2).1 in
    parent_is all k r.0 r.1 ∙ ap (parent_place all) g.1 ∙ ap (option_and_then (hypothesis_place all)) parent

eq_itself : (n : ℕ) → (n == n) ≡ true
eq_itself n = eq-eqb n n refl

abbrev way_of : List Entry → ℕ → ℕ → Option ℕ → Bool
way_of all n i o = leads_to (parents_of all) (suc n) i o

-- names that lead back are places that do
pub forth : (all : List Entry) (n : ℕ) (a b : List ℕ) (i k : ℕ) → ((name : List ℕ) → tally (is_at name) all ≤ 1) → hypothesis_place all a ≡ Some i → hypothesis_place all b ≡ Some k → Leads (hyps_of all) n a b →
    leads_to (parents_of all) n i (parent_at (parents_of all) k) ≡ true
forth all zero a b i k once p q h = absurd h
forth all (suc n) a b i k once p q h =
    let next = parent_place_of all b h.0 k (once b) h.1 q in
    ap (leads_to (parents_of all) (suc n) i) next ∙ by h.2 (λ r s l. forth all n a h.0 i r once p s l)
  where
    later : (m : ℕ) (l : Leads (hyps_of all) m a h.0) → ((r : ℕ) → hypothesis_place all h.0 ≡ Some r → leads_to (parents_of all) n i (parent_at (parents_of all) r) ≡ true) → way_of all n i (hypothesis_place all h.0) ≡ true
    later zero l f = absurd l
    later (suc m) l f =
        let there = some_place (is_at h.0) all (any_named h.0 l.0 all l.1) in
        let place : hypothesis_place all h.0 ≡ Some there.0 = place_is all h.0 ∙ there.1 in
        ap (way_of all n i) place ∙ or_right (there.0 == i) (leads_to (parents_of all) n i (parent_at (parents_of all) there.0)) (f there.0 place)

    by : (h.0 ≡ a) ⊎ Leads (hyps_of all) n a h.0 → ((r : ℕ) → hypothesis_place all h.0 ≡ Some r → Leads (hyps_of all) n a h.0 → leads_to (parents_of all) n i (parent_at (parents_of all) r) ≡ true) →
        way_of all n i (hypothesis_place all h.0) ≡ true
    by (inl e) f = ap (λ (x : List ℕ). way_of all n i (hypothesis_place all x)) e ∙ ap (way_of all n i) p ∙ ap (λ (c : Bool). c || leads_to (parents_of all) n i (parent_at (parents_of all) i)) (eq_itself i)
    by (inr l) f = later n l (λ r s. f r s l)

-- ---- places that lead back are names that do

pub passes_at : (q : TheHypothesis → Bool) (es : List Entry) (k : ℕ) (e : Entry) → slice_get es k ≡ Some e → lift q e.item ≡ true → list_any q (hyps_of es) ≡ true
passes_at q es k e h p = any_hyps q es ∙ go es k h
  where
    go : (es : List Entry) (k : ℕ) → slice_get es k ≡ Some e → list_any (λ e. lift q e.item) es ≡ true
    go [] k h = absurd cc
    go (x ∷ xs) zero h = let same : x ≡ e = cc in ap (λ (y : Entry). lift q y.item || list_any (λ e. lift q e.item) xs) same ∙ ap (λ (c : Bool). c || list_any (λ e. lift q e.item) xs) p
    go (x ∷ xs) (suc k) h = or_right (lift q x.item) (list_any (λ e. lift q e.item) xs) (go xs k h)

abbrev held : Entry → Option Entry
held e = Some e

name_at : (all : List Entry) (i : ℕ) (e f : Entry) (g h : TheHypothesis) → slice_get all i ≡ Some e → slice_get all i ≡ Some f → e.item ≡ Hypothesis g → f.item ≡ Hypothesis h → g.name ≡ h.name
name_at all i e f g h p q r s =
    let found : held e ≡ held f = sym p ∙ q in
    let same : e ≡ f = cc in
    let item : e.item ≡ f.item = ap (λ (x : Entry). x.item) same in
    let both : Hypothesis g ≡ Hypothesis h = sym r ∙ item ∙ s in
    let inside : g ≡ h = cc in
    ap (λ (x : TheHypothesis). x.name) inside

pub back : (all : List Entry) (n i k : ℕ) (e f : Entry) (g h : TheHypothesis) → slice_get all i ≡ Some e → e.item ≡ Hypothesis g → slice_get all k ≡ Some f → f.item ≡ Hypothesis h →
    leads_to (parents_of all) n i (parent_at (parents_of all) k) ≡ true → Leads (hyps_of all) n g.name h.name
back all zero i k e f g h p r q s t = absurd cc
back all (suc n) i k e f g h p r q s t =
    let next : parent_at (parents_of all) k ≡ option_and_then (hypothesis_place all) h.parent = parent_is all k f q ∙ ap (parent_place all) s in
    by h.parent refl (sym (ap (way_of all n i) next) ∙ t) (λ m x y b c d. back all n i m e x g y p r b c d)
  where
    one : (parent : List ℕ) → h.parent ≡ Some parent → list_any (is_pair h.name parent) (hyps_of all) ≡ true
    one parent o =
        passes_at (is_pair h.name parent) all k f q
        (ap (lift (is_pair h.name parent)) s ∙ ap (λ (c : Bool). c && has_parent parent h.parent) (name_itself h.name) ∙ ap (has_parent parent) o ∙ name_itself parent)

    step : (parent : List ℕ) (m : ℕ) → h.parent ≡ Some parent → hypothesis_place all parent ≡ Some m → ((m == i) || leads_to (parents_of all) n i (parent_at (parents_of all) m)) ≡ true →
        ((m : ℕ) (x : Entry) (y : TheHypothesis) → slice_get all m ≡ Some x → x.item ≡ Hypothesis y → leads_to (parents_of all) n i (parent_at (parents_of all) m) ≡ true → Leads (hyps_of all) n g.name y.name) →
        Leads (hyps_of all) (suc n) g.name h.name
    step parent m o place w more =
        let there = first_at (is_at parent) m all (sym (place_is all parent) ∙ place) in
        let found = lifted (named parent) there.0.item there.2 in
        let name : found.0.name ≡ parent = sym (same_name parent found.0.name found.2) in
        (parent, one parent o, split (m == i) refl w there.0 found.0 there.1 found.1 name)
      where
        split : (c : Bool) → (m == i) ≡ c → (c || leads_to (parents_of all) n i (parent_at (parents_of all) m)) ≡ true → (x : Entry) (y : TheHypothesis) → slice_get all m ≡ Some x → x.item ≡ Hypothesis y → y.name ≡ parent →
            (parent ≡ g.name) ⊎ Leads (hyps_of all) n g.name parent
        split true c w x y b d name =
            let same : m ≡ i = eqb-true m i c in
            inl (sym name ∙ name_at all i x e y g (subst (λ (j : ℕ). slice_get all j ≡ Some x) same b) p d r)
        split false c w x y b d name = inr (subst (Leads (hyps_of all) n g.name) name (more m x y b d w))

    by : (parent : Option (List ℕ)) → h.parent ≡ parent → way_of all n i (option_and_then (hypothesis_place all) parent) ≡ true →
        ((m : ℕ) (x : Entry) (y : TheHypothesis) → slice_get all m ≡ Some x → x.item ≡ Hypothesis y → leads_to (parents_of all) n i (parent_at (parents_of all) m) ≡ true → Leads (hyps_of all) n g.name y.name) →
        Leads (hyps_of all) (suc n) g.name h.name
    by None o w more = absurd cc
    by (Some parent) o w more = at (hypothesis_place all parent) refl w
      where
        at : (place : Option ℕ) → hypothesis_place all parent ≡ place → way_of all n i place ≡ true → Leads (hyps_of all) (suc n) g.name h.name
        at None z w = absurd cc
        at (Some m) z w = step parent m o z w more

-- ---- no hypothesis is its own ancestor

pub parents_length : (all es : List Entry) → length (map (λ e. parent_place all e.item) es) ≡ length es
parents_length all [] = refl
parents_length all (e ∷ es) = ap suc (parents_length all es)

each_rooted : (all before es : List Entry) (k : ℕ) (e : Entry) → Each all before es → slice_get es k ≡ Some e → is_cyclic (parents_of all) (length before + k) ≡ false
each_rooted all before [] k e f h = absurd cc
each_rooted all before (x ∷ es) zero e f h = ap (is_cyclic (parents_of all)) (omega arith) ∙ f.0.rooted
each_rooted all before (x ∷ es) (suc k) e f h =
    let behind : length before + suc k ≡ length (before ++ (x ∷ [])) + k = omega (arith, length-append before (x ∷ [])) in
    ap (is_cyclic (parents_of all)) behind ∙ each_rooted all (before ++ (x ∷ [])) es k e f.1 h

pub no_way_back : (all : List Entry) → Each all [] all → ((name : List ℕ) → tally (is_at name) all ≤ 1) → (a : List ℕ) → Leads (hyps_of all) (length all) a a → ⊥
no_way_back all f once a l = go (length all) refl l
  where
    go : (n : ℕ) → n ≡ length all → Leads (hyps_of all) n a a → ⊥
    go zero e l = l
    go (suc n) e l =
        let there = some_place (is_at a) all (any_named a l.0 all l.1) in
        let place : hypothesis_place all a ≡ Some there.0 = place_is all a ∙ there.1 in
        let item = first_at (is_at a) there.0 all there.1 in
        let free = each_rooted all [] all there.0 item.0 f item.1 in
        let cyclic = forth all (suc n) a a there.0 there.0 once place place l in
        let steps : length (parents_of all) ≡ suc n = parents_length all all ∙ sym e in
        let same : is_cyclic (parents_of all) there.0 ≡ true = ap (λ (m : ℕ). leads_to (parents_of all) m there.0 (parent_at (parents_of all) there.0)) steps ∙ cyclic in
        let zero_first : 0 + there.0 ≡ there.0 = omega arith in
        let clash = sym same ∙ sym (ap (is_cyclic (parents_of all)) zero_first) ∙ free in
        absurd cc
