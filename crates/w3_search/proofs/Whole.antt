-- Each step of a search keeps its history.
use Rattle.std.proofs.Common.{◌≡◌, ℕ, ◌+◌, ◌≤◌, Bool, true, false, cond, Some, List, [], ◌∷◌, map, drop, refl, sym, ap, ◌∙◌, arith, inl, inr}
use Rattle.std.specs.Prelude.{slice_get, nat_le, nat_eq, ◌&&◌}
use Rattle.std.proofs.lemmas.Bool.{cases_lt, cond_both, true≢false}
use Rattle.mdl_ast.specs.declared.items.PhaseDecl.{PhaseDecl}
use Rattle.w3_search.specs.Refining.{roots}
use Rattle.w3_search.specs.declared.node.Node.{Node}
use Rattle.w3_search.specs.declared.node.NodeSample.{NodeSample}
use Rattle.w3_search.specs.declared.node.NodeState.{NodeState}
use Rattle.w3_search.specs.declared.node.NodeState.TheVariants.{Waiting, Confirmed, Unfinished}
use Rattle.w3_search.specs.Nodes.{with_node_changed, node_at_end, in_state, is_confirmed, is_open, unfinished}
use Rattle.w3_search.specs.Steps.{Rules, SearchData, Waits, with_next_phase, ended_tests, new_search, search_step, with_all_families, with_all_samples, with_end, with_phases, with_samples, with_state}
use Rattle.w3_search.specs.History.{IsHistory}
use Rattle.w3_search.proofs.Changes.{there}
use Rattle.w3_search.proofs.Pairs.{IsActive, OneAged, OneSampled, Pairs, all_sampled, ended_in, pairs_changed, pairs_map}
use Rattle.w3_search.proofs.Aging.{Going, aged, going, whole}
use Rattle.w3_search.proofs.Growing.{families_going, roots_going}

-- ---- samples

only_aged : (ns ms : List Node) → Pairs OneSampled ns ms → Pairs (OneAged IsActive) ns ms
only_aged [] [] p = tt
only_aged [] (m ∷ ms) p = absurd p
only_aged (n ∷ ns) [] p = absurd p
only_aged (n ∷ ns) (m ∷ ms) p = (p.0.aged, only_aged ns ms p.1)

samples_going : (t : ℕ) (ss : List NodeSample) (v : SearchData) → IsHistory v
    → Going v.rules v.present (with_all_samples t ss v).nodes (with_all_samples t ss v).drops []
samples_going t ss v h =
    let ms = with_samples v.rules.hypotheses v.rules.decl.window t ss v.nodes in
    aged IsActive v.rules v.present v.nodes ms [] (ended_tests v.nodes ms) [] (going v h)
    (only_aged v.nodes ms (all_sampled v.rules.hypotheses v.rules.decl.window t ss v.nodes))
    (λ i n m e f c s. ended_in v.nodes ms i n m e f c.active s) (λ i x. absurd x)

-- ---- nodes that end

ended_stays : (b : Bool) (s : NodeState) (m : ℕ) → s ≡ Confirmed → cond (b && is_open s) (Unfinished m) s ≡ Confirmed
ended_stays true s m e = ap (λ (x : NodeState). cond (is_open x) (Unfinished m) x) e
ended_stays false s m e = e

ended_fresh : (b : Bool) (s : NodeState) (m : ℕ) → cond b (Unfinished m) s ≡ Confirmed → s ≡ Confirmed
ended_fresh true s m e = cc
ended_fresh false s m e = e

-- no node is confirmed anew
nobody : Node → Type 0
nobody n = ⊥

steady : (r : Rules) (present : ℕ) (ns ms : List Node) (left : List ℕ) → Going r present ns [] left → Pairs (OneAged nobody) ns ms → Going r present ms [] left
unfolding nobody
steady r present ns ms left g a = aged nobody r present ns ms [] [] left g a (λ i n m e f c s. absurd c) (λ i x. x)

end_going : (q : ℕ) (r : Rules) (present : ℕ) (ns : List Node) (left : List ℕ) → Going r present ns [] left → Going r present (map (unfinished q) ns) [] left
end_going q r present ns left g =
    steady r present ns (map (unfinished q) ns) left g
    (pairs_map (OneAged nobody) (unfinished q) (λ n. record {
      same = refl;
      stays = ended_stays (nat_eq n.phase q) n.state n.seen;
      fresh = λ c. inl (ended_fresh (nat_eq n.phase q && is_open n.state) n.state n.seen c);
    }) ns)

-- ---- phases

begun_keeps : (v : SearchData) → IsHistory v → IsHistory (with_next_phase v)
begun_keeps v h =
    let ns = map (unfinished v.present) v.nodes in
    let g = end_going v.present v.rules v.present v.nodes [] (going v h) in
    let later : Going v.rules (v.present + 1) ns [] (roots v.rules.hypotheses) = record {
      begun = λ i n e. let l : n.phase ≤ v.present = g.begun i n e in omega arith;
      origin = g.origin;
      apart = g.apart;
      roots = λ l q k b i. elim (cases_lt v.present q) [
        | inl above ↦ inl (omega arith, i)
        | inr old ↦ elim (g.roots l q k old i) [ inl x ↦ absurd x.1 | inr y ↦ inr y ]
      ];
      families = g.families;
    } in
    whole (with_next_phase v) (roots_going v.rules (v.present + 1) (roots v.rules.hypotheses) ns later (λ k i. i))

phases_keep : (t : ℕ) (ps : List PhaseDecl) (v : SearchData) → IsHistory v → IsHistory (with_phases t ps v)
phases_keep t [] v h = h
phases_keep t (p ∷ ps) v h = cond_both (nat_le p.at t) (with_phases t ps (with_next_phase v)) v IsHistory (λ _. phases_keep t ps (with_next_phase v) (begun_keeps v h)) (λ _. h)

-- ---- the steps

-- samples, children and phases keep the history
pub step_keeps : (t : ℕ) (samples : List NodeSample) (v : SearchData) → IsHistory v → IsHistory (search_step t samples v)
unfolding search_step
step_keeps t samples v h =
    let v1 = with_all_samples t samples v in
    let v2 = with_all_families v1 in
    let h2 : IsHistory v2 = whole v2 (families_going v1.rules v1.present v1.drops v1.nodes [] (samples_going t samples v h)) in
    phases_keep t (drop v2.present v2.rules.phases) v2 h2

pub state_keeps : (i : ℕ) (state : NodeState) (v : SearchData) → IsHistory v → Waits i v.nodes → is_confirmed state ≡ false → IsHistory (with_state i state v)
state_keeps i state v h waits other =
    let r = there (slice_get v.nodes i) waits in
    whole (with_state i state v) (steady v.rules v.present v.nodes (with_node_changed (in_state state) i v.nodes) [] (going v h)
    (pairs_changed (OneAged nobody) (λ n. record { same = refl; stays = λ s. s; fresh = λ s. inl s }) (in_state state) v.nodes i (λ n e.
    let same : n ≡ r.0 = (let k : Some n ≡ Some r.0 = sym e ∙ r.1 in cc) in
    let waiting : n.state ≡ Waiting = ap (λ (x : Node). x.state) same ∙ r.2 in
    record {
      same = refl;
      stays = λ c. absurd (let k : Waiting ≡ Confirmed = sym waiting ∙ c in cc);
      fresh = λ c. absurd (true≢false (sym (ap is_confirmed c) ∙ other));
    })))

pub end_keeps : (v : SearchData) → IsHistory v → IsHistory (with_end v)
end_keeps v h =
    whole (with_end v) (steady v.rules v.present v.nodes (map node_at_end v.nodes) [] (going v h)
    (pairs_map (OneAged nobody) node_at_end (λ n. record {
      same = refl;
      stays = ended_stays true n.state n.seen;
      fresh = λ c. inl (ended_fresh (is_open n.state) n.state n.seen c);
    }) v.nodes))

pub new_keeps : (r : Rules) → IsHistory (new_search r)
new_keeps r =
    let empty : Going r 0 [] [] (roots r.hypotheses) = record {
      begun = λ i n e. cc;
      origin = λ i n e. cc;
      apart = λ i j m n e f same. cc;
      roots = λ l q k b i. inl (omega arith, i);
      families = λ l i n e s. cc;
    } in
    whole (new_search r) (roots_going r 0 (roots r.hypotheses) [] empty (λ k i. i))
