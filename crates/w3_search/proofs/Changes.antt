-- What a change of one node, or of all, does to lists of nodes.
use Rattle.std.proofs.Common.{◌≡◌, ◌≢◌, ◌^◌, ℕ, zero, suc, ◌+◌, ◌<◌, ◌≤◌, Bool, true, false, cond, Option, Some, None, List, [], ◌∷◌, ◌++◌, length, drop, map, get_or, set, refl, sym, ap, subst, ◌∙◌, arith, inl, inr}
use Rattle.std.specs.Prelude.{nat_eq, nat_lt, nat_le, ◌||◌, not, IsSomeAnd, slice_get}
use Rattle.std.specs.List.{list_any}
use Rattle.std.proofs.lemmas.Bool.{false≢true, cond-true, cond-false, cases_lt, cond_both, and_parts, eqb-false, ltb-true, not-true}
use Rattle.std.proofs.lemmas.List.{drop-drop, drop_all}
use Rattle.pn_types.specs.declared.focus.Focus.{Focus}
use Rattle.mdl_ast.specs.declared.items.Hypothesis.{Hypothesis}
use Rattle.mdl_ast.specs.declared.items.PhaseDecl.{PhaseDecl}
use Rattle.resource_tree.specs.Foci as foci
use Rattle.resource_tree.specs.Resources.{Resources}
use Rattle.w3_search.specs.Testing.{holds}
use Rattle.w3_search.specs.Refining.{children, threshold_of}
use Rattle.w3_search.specs.declared.node.Node.{Node}
use Rattle.w3_search.specs.declared.node.NodeSample.{NodeSample}
use Rattle.w3_search.specs.declared.node.NodeState.{NodeState}
use Rattle.w3_search.specs.declared.node.NodeState.TheVariants.{Waiting, Active, Confirmed, Rejected, Barred, Unfinished}
use Rattle.w3_search.specs.declared.place.NodePlace.{NodePlace}
use Rattle.w3_search.specs.Nodes.{with_node_changed, is_active, is_confirmed, is_free, is_open, is_same_place, is_waiting, new_node, place, place_of, sampled, has_place, with_node, most_nodes}
use Rattle.w3_search.specs.History.{AllOpen, AreFew}
use Rattle.w3_search.specs.Steps.{SearchData, with_next_phase, is_due, with_verdict, may_take, with_children, with_family_of, with_phases, with_roots, with_sample}

-- ---- look-ups

-- what is there is a node
pub there : {P : Node → Type 0} (o : Option Node) → IsSomeAnd o P → (n : Node) × (o ≡ Some n) × P n
there (Some n) h = (n, refl, h)
there None h = absurd h

pub got : (ns : List Node) (i : ℕ) (n d : Node) → slice_get ns i ≡ Some n → (get_or ns i d ≡ n) × (i < length ns)
got [] i n d e = cc
got (x ∷ ns) zero n d e = (cc, omega arith)
got (x ∷ ns) (suc i) n d e = let r = got ns i n d e in (r.0, omega (arith, r.1))

-- the places of the index are those of the nodes
pub any_places : (p : NodePlace) (ns : List Node) → list_any (is_same_place p) (map place_of ns) ≡ has_place p ns
any_places p [] = refl
any_places p (n ∷ ns) = ap (λ (b : Bool). is_same_place p (place_of n) || b) (any_places p ns)

-- a place that is free: there is room, and it isn't taken
pub free_parts : (p : NodePlace) (ns : List Node) → is_free p ns ≡ true → (length ns < most_nodes) × (has_place p ns ≡ false)
free_parts p ns e =
    let both = and_parts (nat_lt (length ns) most_nodes) (not (has_place p ns)) e in
    (ltb-true (length ns) most_nodes both.0, not-true (has_place p ns) both.1)

-- ---- changes keep places

pub changed_set : (f : Node → Node) (ns : List Node) (i : ℕ) (d : Node) → set ns i (f (get_or ns i d)) ≡ with_node_changed f i ns
changed_set f [] i d = refl
changed_set f (n ∷ ns) zero d = refl
changed_set f (n ∷ ns) (suc i) d = ap (λ (l : List Node). n ∷ l) (changed_set f ns i d)

-- no node has that number
pub changed_past : (f : Node → Node) (ns : List Node) (i : ℕ) → length ns ≤ i → with_node_changed f i ns ≡ ns
changed_past f [] i past = refl
changed_past f (n ∷ ns) zero past = (let no : ⊥ = omega (arith, past) in absurd no)
changed_past f (n ∷ ns) (suc i) past = ap (λ (l : List Node). n ∷ l) (changed_past f ns i (omega (arith, past)))

pub length_changed : (f : Node → Node) (ns : List Node) (i : ℕ) → length (with_node_changed f i ns) ≡ length ns
length_changed f [] i = refl
length_changed f (n ∷ ns) zero = refl
length_changed f (n ∷ ns) (suc i) = ap suc (length_changed f ns i)

pub places_changed : (f : Node → Node) → ((n : Node) → place_of (f n) ≡ place_of n) → (ns : List Node) (i : ℕ) → map place_of (with_node_changed f i ns) ≡ map place_of ns
places_changed f h [] i = refl
places_changed f h (n ∷ ns) zero = ap (λ (p : NodePlace). p ∷ map place_of ns) (h n)
places_changed f h (n ∷ ns) (suc i) = ap (λ (ps : List NodePlace). place_of n ∷ ps) (places_changed f h ns i)

pub places_map : (f : Node → Node) → ((n : Node) → place_of (f n) ≡ place_of n) → (ns : List Node) → map place_of (map f ns) ≡ map place_of ns
places_map f h [] = refl
places_map f h (n ∷ ns) =
    ap (λ (p : NodePlace). p ∷ map place_of (map f ns)) (h n) ∙ ap (λ (ps : List NodePlace). place_of n ∷ ps) (places_map f h ns)

-- ---- what holds of all open nodes

module _ (P : Node → Type 0) where
  pub open_at : (ns : List Node) (i : ℕ) (n : Node) → AllOpen P ns → slice_get ns i ≡ Some n → is_open n.state ≡ true → P n
  open_at [] i n all e o = cc
  open_at (x ∷ ns) zero n all e o =
      let s : x ≡ n = cc in
      subst P s (all.0 (ap (λ (y : Node). is_open y.state) s ∙ o))
  open_at (x ∷ ns) (suc i) n all e o = open_at ns i n all.1 e o

  pub open_got : (ns : List Node) (i : ℕ) (d : Node) → AllOpen P ns → i < length ns → is_open (get_or ns i d).state ≡ true → P (get_or ns i d)
  open_got [] i d all l o = (let no : ⊥ = omega (arith, l) in absurd no)
  open_got (n ∷ ns) zero d all l o = all.0 o
  open_got (n ∷ ns) (suc i) d all l o = open_got ns i d all.1 (omega (arith, l)) o

  pub open_changed : (f : Node → Node) (ns : List Node) (i : ℕ) (n : Node) → AllOpen P ns → slice_get ns i ≡ Some n → (is_open (f n).state ≡ true → P (f n)) → AllOpen P (with_node_changed f i ns)
  open_changed f [] i n all e h = all
  open_changed f (x ∷ ns) zero n all e h =
      let s : n ≡ x = cc in
      (subst (λ (y : Node). is_open (f y).state ≡ true → P (f y)) s h, all.1)
  open_changed f (x ∷ ns) (suc i) n all e h = (all.0, open_changed f ns i n all.1 e h)

  -- a change that keeps it
  pub open_kept : (f : Node → Node) → ((n : Node) → (is_open n.state ≡ true → P n) → is_open (f n).state ≡ true → P (f n))
      → (ns : List Node) (i : ℕ) → AllOpen P ns → AllOpen P (with_node_changed f i ns)
  open_kept f keeps [] i all = all
  open_kept f keeps (n ∷ ns) zero all = (keeps n all.0, all.1)
  open_kept f keeps (n ∷ ns) (suc i) all = (all.0, open_kept f keeps ns i all.1)

  pub open_push : (ns : List Node) (n : Node) → AllOpen P ns → (is_open n.state ≡ true → P n) → AllOpen P (ns ++ n ∷ [])
  open_push [] n all h = (h, tt)
  open_push (m ∷ ns) n all h = (all.0, open_push ns n all.1 h)

  pub open_node : (q : ℕ) (parent : Option ℕ) (h : ℕ) (focus : Focus) (ns : List Node) → P (new_node q parent h focus) → AllOpen P ns → AllOpen P (with_node q parent h focus ns)
  open_node q parent h focus ns new all =
      cond_both (is_free (place q h focus) ns) (ns ++ new_node q parent h focus ∷ []) ns (AllOpen P)
      (λ _. open_push ns (new_node q parent h focus) all (λ _. new)) (λ _. all)

-- ---- a verdict

-- a node that was under test, with its verdict where b
abbrev pub ruled : Bool → Bool → NodeState → NodeState
ruled b h s = cond b (cond h Confirmed Rejected) s

pub ruled_waiting : (b h : Bool) (s : NodeState) → s ≡ Active → is_waiting (ruled b h s) ≡ false
ruled_waiting true true s e = refl
ruled_waiting true false s e = refl
ruled_waiting false h s e = ap is_waiting e

pub ruled_open : (b h : Bool) (s : NodeState) → is_open (ruled b h s) ≡ true → b ≡ false
ruled_open true true s e = cc
ruled_open true false s e = cc
ruled_open false h s e = refl

pub active_open : (s : NodeState) → is_active s ≡ true → is_open s ≡ true
active_open Active e = refl
active_open Waiting e = refl
active_open Confirmed e = cc
active_open Rejected e = cc
active_open (Barred c) e = cc
active_open (Unfinished m) e = cc

-- a node that is open after a sample has fewer than the window asks for
pub few_sampled : (hs : List Hypothesis) (window t : ℕ) (s : NodeSample) (ns : List Node) → AreFew window ns → AreFew window (with_sample hs window t s ns)
few_sampled hs window t s ns few =
    open_kept (λ (n : Node). n.seen < window) (λ n. cond (may_take s n) (with_verdict hs window (sampled t s n)) n) (λ n before.
    let now = with_verdict hs window (sampled t s n) in
    cond_both (may_take s n) now n (λ (m : Node). is_open m.state ≡ true → m.seen < window)
    (λ takes o.
    let less : n.seen < window = before (active_open n.state (and_parts (is_active n.state) (nat_lt (n.ticks + s.ticks) (2 ^ 64)) takes).0) in
    let other : n.seen + 1 ≢ window = eqb-false (n.seen + 1) window (ruled_open (nat_eq (n.seen + 1) window) (holds now.value now.ticks (threshold_of hs n.hypothesis)) n.state o) in
    omega arith)
    (λ _. before)) ns s.node few

-- ---- what each new node keeps, all of them keep

module _ (P : List Node → Type 0) where
  pub all_children : (q i : ℕ) (ks : List (ℕ × Focus)) (ns : List Node) → ((parent : Option ℕ) (h : ℕ) (focus : Focus) (ns : List Node) → P ns → P (with_node q parent h focus ns)) → P ns → P (with_children q i ks ns)
  all_children q i [] ns keep p = p
  all_children q i (k ∷ ks) ns keep p = all_children q i ks (with_node q (Some i) k.0 k.1 ns) keep (keep (Some i) k.0 k.1 ns p)

  pub all_roots : (q : ℕ) (hs : List ℕ) (ns : List Node) → ((parent : Option ℕ) (h : ℕ) (focus : Focus) (ns : List Node) → P ns → P (with_node q parent h focus ns)) → P ns → P (with_roots q hs ns)
  all_roots q [] ns keep p = p
  all_roots q (h ∷ hs) ns keep p = all_roots q hs (with_node q None h foci.root ns) keep (keep None h foci.root ns p)

  -- the families of nodes of one phase
  pub all_family_of : (q : ℕ) (hs : List Hypothesis) (tree : Resources) (i : ℕ) (o : Option Node) (ns : List Node) → ((parent : Option ℕ) (h : ℕ) (focus : Focus) (ns : List Node) → P ns → P (with_node q parent h focus ns))
      → ((n : Node) → o ≡ Some n → n.phase ≡ q) → P ns → P (with_family_of hs tree i o ns)
  all_family_of q hs tree i None ns keep here p = p
  all_family_of q hs tree i (Some n) ns keep here p =
      cond_both (is_confirmed n.state) (with_children n.phase i (children hs tree n.hypothesis n.focus) ns) ns P
      (λ _. subst (λ (r : ℕ). P (with_children r i (children hs tree n.hypothesis n.focus) ns)) (sym (here n refl)) (all_children q i (children hs tree n.hypothesis n.focus) ns keep p)) (λ _. p)

-- ---- phases

-- a phase that is due begins
pub begins : (t : ℕ) (ps : List PhaseDecl) (v : SearchData) → is_due t ps ≡ true → with_phases t ps v ≡ with_phases t (drop 1 ps) (with_next_phase v)
begins t [] v e = cc
begins t (p ∷ ps) v e = cond-true (nat_le p.at t) (with_phases t ps (with_next_phase v)) v e

pub one_more : (k : ℕ) (ps : List PhaseDecl) → drop 1 (drop k ps) ≡ drop (k + 1) ps
one_more k ps = drop-drop 1 k ps

pub ends : (t : ℕ) (ps : List PhaseDecl) (v : SearchData) → is_due t ps ≡ false → with_phases t ps v ≡ v
ends t [] v e = refl
ends t (p ∷ ps) v e = cond-false (nat_le p.at t) (with_phases t ps (with_next_phase v)) v e

pub due_within : (t k : ℕ) (ps : List PhaseDecl) → is_due t (drop k ps) ≡ true → k < length ps
due_within t k ps e =
    elim (cases_lt k (length ps)) [ inl lt ↦ lt | inr ge ↦ absurd (false≢true (ap (is_due t) (sym (drop_all k ps ge)) ∙ e)) ]

-- what is left of a list
pub drop_get : {X : Type 0} (xs : List X) (i : ℕ) (x : X) → slice_get xs i ≡ Some x → drop i xs ≡ x ∷ drop (i + 1) xs
drop_get [] i x e = cc
drop_get (y ∷ xs) zero x e = let s : y ≡ x = cc in ap (λ z. z ∷ xs) s
drop_get (y ∷ xs) (suc i) x e =
    let j : suc (i + 1) ≡ suc i + 1 = omega arith in
    drop_get xs i x e ∙ ap (λ n. x ∷ drop n (y ∷ xs)) j

pub in_range : {X : Type 0} (xs : List X) (i : ℕ) → i < length xs → slice_get xs i ≡ None → ⊥
in_range [] i lt e = omega arith
in_range (y ∷ xs) zero lt e = cc
in_range (y ∷ xs) (suc i) lt e = in_range xs i (omega arith) e
