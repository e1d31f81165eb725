-- Two lists of nodes side by side, and what samples do to nodes.
use Rattle.std.proofs.Common.{◌≡◌, ℕ, zero, suc, ◌+◌, ◌^◌, Bool, true, false, cond, Option, Some, List, [], ◌∷◌, length, map, refl, sym, ap, subst, ◌∙◌, arith, inl, inr, ◌⊎◌, filter}
use Rattle.std.specs.Prelude.{slice_get, nat_eq, nat_lt, not}
use Rattle.std.specs.Option.{option_map_or}
use Rattle.std.proofs.lemmas.Bool.{and_parts, cond_both}
use Rattle.mdl_ast.specs.declared.items.Hypothesis.{Hypothesis}
use Rattle.w3_search.specs.Testing.{holds}
use Rattle.w3_search.specs.Refining.{threshold_of}
use Rattle.w3_search.specs.declared.node.Node.{Node}
use Rattle.w3_search.specs.declared.node.NodeSample.{NodeSample}
use Rattle.w3_search.specs.declared.node.NodeState.{NodeState}
use Rattle.w3_search.specs.declared.node.NodeState.TheVariants.{Waiting, Active, Confirmed, Rejected, Barred, Unfinished}
use Rattle.w3_search.specs.declared.place.NodePlace.{NodePlace}
use Rattle.w3_search.specs.History.{AreHere, In, Lineage, lineage_of}
use Rattle.w3_search.specs.Nodes.{active_of, with_node_changed, is_active, is_active_at, is_open, is_waiting, node_numbers_from, place, place_of, sampled, waiting_of}
use Rattle.w3_search.specs.Steps.{ended_tests, with_verdict, may_take, with_sample, with_samples}
use Rattle.w3_search.proofs.Changes.{ruled_waiting}

abbrev pub Pairs : (Node → Node → Type 0) → List Node → List Node → Type 0
Pairs R [] [] = Unit {0}
Pairs R [] (m ∷ ms) = ⊥
Pairs R (n ∷ ns) [] = ⊥
Pairs R (n ∷ ns) (m ∷ ms) = R n m × Pairs R ns ms

module _ (R : Node → Node → Type 0) where
  pub pairs_map : (f : Node → Node) → ((n : Node) → R n (f n)) → (ns : List Node) → Pairs R ns (map f ns)
  pairs_map f one [] = tt
  pairs_map f one (n ∷ ns) = (one n, pairs_map f one ns)

  pub pairs_same : ((n : Node) → R n n) → (ns : List Node) → Pairs R ns ns
  pairs_same same [] = tt
  pairs_same same (n ∷ ns) = (same n, pairs_same same ns)

  pub pairs_changed : ((n : Node) → R n n) → (f : Node → Node) (ns : List Node) (i : ℕ) → ((n : Node) → slice_get ns i ≡ Some n → R n (f n)) → Pairs R ns (with_node_changed f i ns)
  pairs_changed same f [] i one = tt
  pairs_changed same f (n ∷ ns) zero one = (one n refl, pairs_same same ns)
  pairs_changed same f (n ∷ ns) (suc i) one = (same n, pairs_changed same f ns i one)

  pub pairs_through : ((l m n : Node) → R l m → R m n → R l n) → (ls ms ns : List Node) → Pairs R ls ms → Pairs R ms ns → Pairs R ls ns
  pairs_through through [] [] [] a b = tt
  pairs_through through [] [] (n ∷ ns) a b = absurd b
  pairs_through through [] (m ∷ ms) ns a b = absurd a
  pairs_through through (l ∷ ls) [] ns a b = absurd a
  pairs_through through (l ∷ ls) (m ∷ ms) [] a b = absurd b
  pairs_through through (l ∷ ls) (m ∷ ms) (n ∷ ns) a b = (through l m n a.0 b.0, pairs_through through ls ms ns a.1 b.1)

  pub pairs_length : (ns ms : List Node) → Pairs R ns ms → length ms ≡ length ns
  pairs_length [] [] p = refl
  pairs_length [] (m ∷ ms) p = absurd p
  pairs_length (n ∷ ns) [] p = absurd p
  pairs_length (n ∷ ns) (m ∷ ms) p = ap suc (pairs_length ns ms p.1)

  pub pairs_back : (ns ms : List Node) (i : ℕ) (m : Node) → Pairs R ns ms → slice_get ms i ≡ Some m → (n : Node) × (slice_get ns i ≡ Some n) × R n m
  pairs_back [] [] i m p e = cc
  pairs_back [] (y ∷ ms) i m p e = absurd p
  pairs_back (x ∷ ns) [] i m p e = absurd p
  pairs_back (x ∷ ns) (y ∷ ms) zero m p e = let s : y ≡ m = cc in (x, refl, subst (R x) s p.0)
  pairs_back (x ∷ ns) (y ∷ ms) (suc i) m p e = pairs_back ns ms i m p.1 e

  pub pairs_forth : (ns ms : List Node) (i : ℕ) (n : Node) → Pairs R ns ms → slice_get ns i ≡ Some n → (m : Node) × (slice_get ms i ≡ Some m) × R n m
  pairs_forth [] [] i n p e = cc
  pairs_forth [] (y ∷ ms) i n p e = absurd p
  pairs_forth (x ∷ ns) [] i n p e = absurd p
  pairs_forth (x ∷ ns) (y ∷ ms) zero n p e = let s : x ≡ n = cc in (y, refl, subst (λ (z : Node). R z y) s p.0)
  pairs_forth (x ∷ ns) (y ∷ ms) (suc i) n p e = pairs_forth ns ms i n p.1 e

-- ---- a node in another state

is_now : (s : NodeState) → is_active s ≡ true → s ≡ Active
is_now Active e = refl
is_now _ e = cc

-- a node stands where it stood, stays confirmed, and is confirmed anew only where C
pub record OneAged (C : Node → Type 0) (n m : Node) : Type 0 where
  pub same : lineage_of m ≡ lineage_of n
  pub stays : n.state ≡ Confirmed → m.state ≡ Confirmed
  pub fresh : m.state ≡ Confirmed → (n.state ≡ Confirmed) ⊎ C n

-- it is under test
pub record IsActive (n : Node) : Type 0 where
  pub active : n.state ≡ Active

-- what samples do to a node: it is confirmed anew, or goes on under test, only where it was under test
pub record OneSampled (n m : Node) : Type 0 where
  pub aged : OneAged IsActive n m
  pub lives : m.state ≡ Active → n.state ≡ Active
  pub waits : is_waiting m.state ≡ is_waiting n.state

sampled_same : (n : Node) → OneSampled n n
sampled_same n = record { aged = record { same = refl; stays = λ s. s; fresh = λ s. inl s }; lives = λ a. a; waits = refl }

sampled_through : (l m n : Node) → OneSampled l m → OneSampled m n → OneSampled l n
sampled_through l m n a b = record {
  aged = record {
    same = b.aged.same ∙ a.aged.same;
    stays = λ c. b.aged.stays (a.aged.stays c);
    fresh = λ c. elim (b.aged.fresh c) [ inl d ↦ a.aged.fresh d | inr d ↦ inr (record { active = a.lives d.active }) ];
  };
  lives = λ c. a.lives (b.lives c);
  waits = b.waits ∙ a.waits;
}

-- a node under test takes a sample
taken : (hs : List Hypothesis) (window t : ℕ) (s : NodeSample) (n : Node) → n.state ≡ Active → OneSampled n (with_verdict hs window (sampled t s n))
taken hs window t s n active = record {
  aged = record {
    same = refl;
    stays = λ c. absurd (let k : Active ≡ Confirmed = sym active ∙ c in cc);
    fresh = λ c. inr (record { active = active });
  };
  lives = λ c. active;
  waits = ruled_waiting (nat_eq (n.seen + 1) window) (holds (sampled t s n).value (sampled t s n).ticks (threshold_of hs n.hypothesis)) n.state active ∙ sym (ap is_waiting active);
}

one_sample : (hs : List Hypothesis) (window t : ℕ) (s : NodeSample) (ns : List Node) → Pairs OneSampled ns (with_sample hs window t s ns)
one_sample hs window t s ns =
    pairs_changed OneSampled sampled_same (λ n. cond (may_take s n) (with_verdict hs window (sampled t s n)) n) ns s.node (λ n e.
    cond_both (may_take s n) (with_verdict hs window (sampled t s n)) n (OneSampled n)
    (λ takes. taken hs window t s n (is_now n.state (and_parts (is_active n.state) (nat_lt (n.ticks + s.ticks) (2 ^ 64)) takes).0))
    (λ _. sampled_same n))

pub all_sampled : (hs : List Hypothesis) (window t : ℕ) (ss : List NodeSample) (ns : List Node) → Pairs OneSampled ns (with_samples hs window t ss ns)
all_sampled hs window t [] ns = pairs_same OneSampled sampled_same ns
all_sampled hs window t (s ∷ ss) ns =
    let one = with_sample hs window t s ns in
    pairs_through OneSampled sampled_through ns one (with_samples hs window t ss one) (one_sample hs window t s ns) (all_sampled hs window t ss one)

-- samples leave places, and those that wait
pub place_at : Lineage → NodePlace
place_at s = place s.phase s.hypothesis s.focus

pub sampled_places : (ns ms : List Node) → Pairs OneSampled ns ms → map place_of ms ≡ map place_of ns
unfolding place_at
sampled_places [] [] p = refl
sampled_places [] (m ∷ ms) p = absurd p
sampled_places (n ∷ ns) [] p = absurd p
sampled_places (n ∷ ns) (m ∷ ms) p =
    ap (λ (s : Lineage). place_at s ∷ map place_of ms) p.0.aged.same ∙ ap (λ (ps : List NodePlace). place_of n ∷ ps) (sampled_places ns ms p.1)

waits_from : (k : ℕ) (ns ms : List Node) → Pairs OneSampled ns ms → node_numbers_from (λ n. is_waiting n.state) k ms ≡ node_numbers_from (λ n. is_waiting n.state) k ns
waits_from k [] [] p = refl
waits_from k [] (m ∷ ms) p = absurd p
waits_from k (n ∷ ns) [] p = absurd p
waits_from k (n ∷ ns) (m ∷ ms) p =
    ap (λ (b : Bool). cond b (k ∷ node_numbers_from (λ n. is_waiting n.state) (k + 1) ms) (node_numbers_from (λ n. is_waiting n.state) (k + 1) ms)) p.0.waits
    ∙ ap (λ (l : List ℕ). cond (is_waiting n.state) (k ∷ l) l) (waits_from (k + 1) ns ms p.1)

pub sampled_waits : (ns ms : List Node) → Pairs OneSampled ns ms → waiting_of ms ≡ waiting_of ns
sampled_waits ns ms p = waits_from 0 ns ms p

open_was : (s t : NodeState) → (t ≡ Active → s ≡ Active) → is_waiting t ≡ is_waiting s → is_open t ≡ true → is_open s ≡ true
open_was s Active lives waits o = ap is_open (lives refl)
open_was Waiting Waiting lives waits o = refl
open_was Active Waiting lives waits o = refl
open_was Confirmed Waiting lives waits o = cc
open_was Rejected Waiting lives waits o = cc
open_was (Barred c) Waiting lives waits o = cc
open_was (Unfinished m) Waiting lives waits o = cc
open_was s Confirmed lives waits o = cc
open_was s Rejected lives waits o = cc
open_was s (Barred c) lives waits o = cc
open_was s (Unfinished m) lives waits o = cc

-- and phases
pub sampled_here : (q : ℕ) (ns ms : List Node) → Pairs OneSampled ns ms → AreHere q ns → AreHere q ms
sampled_here q [] [] p here = tt
sampled_here q [] (m ∷ ms) p here = absurd p
sampled_here q (n ∷ ns) [] p here = absurd p
sampled_here q (n ∷ ns) (m ∷ ms) p here = (
  (λ o. ap (λ (s : Lineage). s.phase) p.0.aged.same ∙ here.0 (open_was n.state m.state p.0.lives p.0.waits o)),
  sampled_here q ns ms p.1 here.1,
)

-- ---- those that are under test no more

pub active_is : (s : NodeState) → s ≡ Active → is_active s ≡ true
active_is s e = ap is_active e

filtered_from : (q : ℕ → Bool) (k : ℕ) (ns ms : List Node) → Pairs OneSampled ns ms → ((j : ℕ) (m : Node) → slice_get ms j ≡ Some m → q (k + j) ≡ is_active m.state)
    → filter q (node_numbers_from (λ n. is_active n.state) k ns) ≡ node_numbers_from (λ n. is_active n.state) k ms
filtered_from q k [] [] p h = refl
filtered_from q k [] (m ∷ ms) p h = absurd p
filtered_from q k (n ∷ ns) [] p h = absurd p
filtered_from q k (n ∷ ns) (m ∷ ms) p h =
    let z : k ≡ k + 0 = omega arith in
    by (is_active n.state) (is_active m.state) (λ e. active_is n.state (p.0.lives (is_now m.state e))) (ap q z ∙ h 0 m refl)
    (filtered_from q (k + 1) ns ms p.1 (λ j x e. let y : (k + 1) + j ≡ k + suc j = omega arith in ap q y ∙ h (suc j) x e))
  where
    before : List ℕ
    before = node_numbers_from (λ n. is_active n.state) (k + 1) ns

    by : (a b : Bool) → (b ≡ true → a ≡ true) → q k ≡ b → filter q (node_numbers_from (λ n. is_active n.state) (k + 1) ns) ≡ node_numbers_from (λ n. is_active n.state) (k + 1) ms
        → filter q (cond a (k ∷ node_numbers_from (λ n. is_active n.state) (k + 1) ns) (node_numbers_from (λ n. is_active n.state) (k + 1) ns)) ≡ cond b (k ∷ node_numbers_from (λ n. is_active n.state) (k + 1) ms) (node_numbers_from (λ n. is_active n.state) (k + 1) ms)
    by true true l here rest =
        ap (λ (c : Bool). cond c (k ∷ filter q (node_numbers_from (λ n. is_active n.state) (k + 1) ns)) (filter q (node_numbers_from (λ n. is_active n.state) (k + 1) ns))) here
        ∙ ap (λ (l : List ℕ). k ∷ l) rest
    by true false l here rest =
        ap (λ (c : Bool). cond c (k ∷ filter q (node_numbers_from (λ n. is_active n.state) (k + 1) ns)) (filter q (node_numbers_from (λ n. is_active n.state) (k + 1) ns))) here
        ∙ rest
    by false true l here rest = let e : false ≡ true = l refl in cc
    by false false l here rest = rest

found_active : (ms : List Node) (j : ℕ) (m : Node) → slice_get ms j ≡ Some m → is_active_at ms (0 + j) ≡ is_active m.state
found_active ms j m e =
    let z : 0 + j ≡ j = omega arith in
    ap (is_active_at ms) z ∙ ap (λ (o : Option Node). option_map_or (λ n. is_active n.state) o false) e

pub still_active : (ns ms : List Node) → Pairs OneSampled ns ms → filter (is_active_at ms) (active_of ns) ≡ active_of ms
still_active ns ms p = filtered_from (is_active_at ms) 0 ns ms p (found_active ms)

-- a list in two parts
pub parted : (q : ℕ → Bool) (xs : List ℕ) → length (filter (λ i. not (q i)) xs) + length (filter q xs) ≡ length xs
parted q [] = refl
parted q (x ∷ xs) = by (q x) (parted q xs)
  where
    by : (b : Bool) → length (filter (λ i. not (q i)) xs) + length (filter q xs) ≡ length xs
        → length (cond (not b) (x ∷ filter (λ i. not (q i)) xs) (filter (λ i. not (q i)) xs)) + length (cond b (x ∷ filter q xs) (filter q xs)) ≡ suc (length xs)
    by true h = omega arith
    by false h = omega arith

-- ---- who is listed

in_filter : (q : ℕ → Bool) (i : ℕ) (xs : List ℕ) → In i xs → q i ≡ true → In i (filter q xs)
in_filter q i [] h e = h
in_filter q i (x ∷ xs) (inl same) e =
    let here : q x ≡ true = ap q (sym same) ∙ e in
    subst (λ (b : Bool). In i (cond b (x ∷ filter q xs) (filter q xs))) (sym here) (inl same)
in_filter q i (x ∷ xs) (inr h) e = by (q x) (in_filter q i xs h e)
  where
    by : (b : Bool) → In i (filter q xs) → In i (cond b (x ∷ filter q xs) (filter q xs))
    by true g = inr g
    by false g = g

out_filter : (q : ℕ → Bool) (i : ℕ) (xs : List ℕ) → In i (filter q xs) → In i xs
out_filter q i [] h = h
out_filter q i (x ∷ xs) h = by (q x) h (λ g. out_filter q i xs g)
  where
    by : (b : Bool) → In i (cond b (x ∷ filter q xs) (filter q xs)) → (In i (filter q xs) → In i xs) → In i (x ∷ xs)
    by true (inl same) rest = inl same
    by true (inr g) rest = inr (rest g)
    by false g rest = inr (rest g)

in_numbers : (p : Node → Bool) (k : ℕ) (ns : List Node) (j : ℕ) (n : Node) → slice_get ns j ≡ Some n → p n ≡ true → In (k + j) (node_numbers_from p k ns)
in_numbers p k [] j n e h = cc
in_numbers p k (x ∷ ns) zero n e h =
    let s : x ≡ n = cc in
    let z : k + 0 ≡ k = omega arith in
    subst (λ (b : Bool). In (k + 0) (cond b (k ∷ node_numbers_from p (k + 1) ns) (node_numbers_from p (k + 1) ns))) (sym (ap p s ∙ h)) (inl z)
in_numbers p k (x ∷ ns) (suc j) n e h = by (p x) (subst (λ (i : ℕ). In i (node_numbers_from p (k + 1) ns)) z (in_numbers p (k + 1) ns j n e h))
  where
    z : (k + 1) + j ≡ k + suc j
    z = omega arith

    by : (b : Bool) → In (k + suc j) (node_numbers_from p (k + 1) ns) → In (k + suc j) (cond b (k ∷ node_numbers_from p (k + 1) ns) (node_numbers_from p (k + 1) ns))
    by true g = inr g
    by false g = g

pub record Numbered (p : Node → Bool) (k i : ℕ) (ns : List Node) : Type 0 where
  pub place : ℕ
  pub node : Node
  pub is : i ≡ k + place
  pub stands : slice_get ns place ≡ Some node
  pub passes : p node ≡ true

numbered : (p : Node → Bool) (k i : ℕ) (ns : List Node) → In i (node_numbers_from p k ns) → Numbered p k i ns
numbered p k i [] h = absurd h
numbered p k i (n ∷ ns) h = by (p n) refl h (λ g. numbered p (k + 1) i ns g)
  where
    further : Numbered p (k + 1) i ns → Numbered p k i (n ∷ ns)
    further r = let is = r.is in record { place = suc r.place; node = r.node; is = omega arith; stands = r.stands; passes = r.passes }

    by : (b : Bool) → p n ≡ b → In i (cond b (k ∷ node_numbers_from p (k + 1) ns) (node_numbers_from p (k + 1) ns)) → (In i (node_numbers_from p (k + 1) ns) → Numbered p (k + 1) i ns) → Numbered p k i (n ∷ ns)
    by true e (inl same) rest = record { place = 0; node = n; is = omega arith; stands = refl; passes = e }
    by true e (inr g) rest = further (rest g)
    by false e g rest = further (rest g)

-- a node that was under test and is confirmed is among those that ended
pub ended_in : (ns ms : List Node) (i : ℕ) (n m : Node) → slice_get ns i ≡ Some n → slice_get ms i ≡ Some m → n.state ≡ Active → m.state ≡ Confirmed → In i (ended_tests ns ms)
ended_in ns ms i n m e f a c =
    let z : 0 + i ≡ i = omega arith in
    let listed : In i (active_of ns) = subst (λ (j : ℕ). In j (active_of ns)) z (in_numbers (λ n. is_active n.state) 0 ns i n e (active_is n.state a)) in
    in_filter (λ j. not (is_active_at ms j)) i (active_of ns) listed
    (ap not (sym (ap (is_active_at ms) z) ∙ found_active ms i m f ∙ ap is_active c))

-- and those that ended were under test
pub ended_was : (ns ms : List Node) (i : ℕ) (n : Node) → In i (ended_tests ns ms) → slice_get ns i ≡ Some n → is_active n.state ≡ true
ended_was ns ms i n h e =
    let r = numbered (λ n. is_active n.state) 0 i ns (out_filter (λ j. not (is_active_at ms j)) i (active_of ns) h) in
    let is = r.is in
    let z : i ≡ r.place = omega arith in
    let same : n ≡ r.node = (let k : Some n ≡ Some r.node = sym e ∙ ap (slice_get ns) z ∙ r.stands in cc) in
    ap (λ (x : Node). is_active x.state) same ∙ r.passes
