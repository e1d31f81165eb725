-- Nodes are taken one after another.
use Rattle.std.proofs.Common.{◌≡◌, ℕ, zero, suc, ◌+◌, ◌<◌, ◌≤◌, ◌^◌, List, [], ◌∷◌, Some, refl, sym, ap, ◌∙◌, subst, length, inl, inr}
use Rattle.std.specs.Prelude.{true, false, cond, drop, map, slice_get, ◌⊎◌}
use Rattle.std.specs.List.{AllByRecursion}
use Rattle.pn_types.specs.declared.plan.Plan.{Plan}
use Rattle.rv_mem.specs.Start.{program_of}
use Rattle.mdl_check.specs.declared.checked.CheckedWish.{CheckedWish}
use Rattle.machine.specs.Cores.{In}
use Rattle.instrument.specs.Needs.{need_of}
use Rattle.w3_search.specs.declared.node.Node.{Node}
use Rattle.w3_search.specs.declared.node.NodeState.{NodeState}
use Rattle.w3_search.specs.Nodes.{with_node_changed, in_state}
use Rattle.w3_search.specs.Steps.{SearchData}
use Rattle.session_spec.specs.Inputs.{Inputs}
use Rattle.session_spec.specs.Searches.{metric_of}
use Rattle.session_spec.specs.States.{SessionState}
use Rattle.session_spec.specs.Tests.{is_full, with_node, with_nodes}
use Rattle.session.specs.declared.candidate.Candidate.{Candidate}
use Rattle.session.specs.NodeCandidates.{AreNodeCandidates, HasCost, IsNodeCandidate, IsOneChanged, force_in, candidate_number, numbers_in}
use Rattle.session.specs.Outcomes.{IsAdmissionStep}
use Rattle.session.specs.Tables.{AreReady, StateTable, kept_of}
use Rattle.session.proofs.Forces.{more_costs}
use Rattle.session.proofs.Readiness.{drop_all, drop_step, ready_behind, ready_in}
use Rattle.session.proofs.Steps.{AreSteps, next_step}

-- ---- nodes stay where they are

abbrev pub IsAs : NodeState → Node → Node → Type 0
IsAs state x y = (y ≡ x) ⊎ (y ≡ in_state state x)

pub get_changed : (state : NodeState) (n m : ℕ) (ns : List Node) (x : Node) → slice_get ns m ≡ Some x → (y : Node) × (slice_get (with_node_changed (in_state state) n ns) m ≡ Some y) × IsAs state x y
get_changed state n m [] x e = absurd cc
get_changed state zero zero (z ∷ ns) x e = (in_state state z, refl, inr (let same : z ≡ x = cc in ap (in_state state) same))
get_changed state zero (suc m) (z ∷ ns) x e = (x, e, inl refl)
get_changed state (suc n) zero (z ∷ ns) x e = (x, e, inl refl)
get_changed state (suc n) (suc m) (z ∷ ns) x e = get_changed state n m ns x e

one_stays : (i : Inputs) (state : NodeState) (n : ℕ) (ns : List Node) (plan : Plan) (c : Candidate) → IsNodeCandidate i ns plan c → IsNodeCandidate i (with_node_changed (in_state state) n ns) plan c
unfolding metric_of
one_stays i state n ns plan c k = by (get_changed state n k.number ns k.node k.stands)
  where
    by : (y : Node) × (slice_get (with_node_changed (in_state state) n ns) k.number ≡ Some y) × IsAs state k.node y → IsNodeCandidate i (with_node_changed (in_state state) n ns) plan c
    by (y, e, inl same) = record { number = k.number; node = k.node; stands = e ∙ ap (λ (z : Node). Some z) same; pair = k.pair; candidate = k.candidate }
    by (y, e, inr same) = record { number = k.number; node = in_state state k.node; stands = e ∙ ap (λ (z : Node). Some z) same; pair = k.pair; candidate = k.candidate }

all_stay : (i : Inputs) (state : NodeState) (n : ℕ) (ns : List Node) (plans : List Plan) (cs : List Candidate) → AreNodeCandidates i ns plans cs → AreNodeCandidates i (with_node_changed (in_state state) n ns) plans cs
all_stay i state n ns [] [] a = tt
all_stay i state n ns [] (c ∷ cs) a = absurd a
all_stay i state n ns (p ∷ plans) [] a = absurd a
all_stay i state n ns (p ∷ plans) (c ∷ cs) a = (one_stays i state n ns p c a.0, all_stay i state n ns plans cs a.1)

node_candidates_stay : (i : Inputs) (n : ℕ) (old new : SearchData) (plans : List Plan) (cs : List Candidate) → IsOneChanged n old new → AreNodeCandidates i old.nodes plans cs → AreNodeCandidates i new.nodes plans cs
node_candidates_stay i n old new plans cs (inl e) a = subst (λ (v : SearchData). AreNodeCandidates i v.nodes plans cs) (sym e) a
node_candidates_stay i n old new plans cs (inr (state, e)) a = subst (λ (v : SearchData). AreNodeCandidates i v.nodes plans cs) (sym e) (all_stay i state n old.nodes plans cs a)

-- ---- one after another

full_ends : (i : Inputs) (ns : List ℕ) (k : SessionState) → is_full k.machine.placer ≡ true → with_nodes i ns k ≡ k
full_ends i [] k e = refl
full_ends i (n ∷ ns) k e = ap (λ b. cond b k (with_nodes i ns (with_node i n k))) e

-- the node of the first of these candidates is next, where the costs in force are these
pub record Taking (i : Inputs) (plans : List Plan) (all : List Candidate) (old : StateTable) (place : ℕ) (t : StateTable) (cs : List Candidate) (force : ℕ) : Type 0 where
  pub kept : (ws : List CheckedWish) → with_nodes i (numbers_in cs) (kept_of ws t) ≡ with_nodes i (numbers_in all) (kept_of ws old)
  pub steps : AreSteps i old t place
  pub some : length plans ≤ old.room
  pub most : length old.pairs + length plans < 2 ^ 31
  pub program : old.machine.state.core.program ≡ program_of i.image
  pub each : AreNodeCandidates i t.search.nodes (drop place plans) cs
  pub ready : AreReady (map need_of (drop place plans)) t.machine.ready
  pub costs : AllByRecursion (HasCost i) t.pairs
  pub counted : force ≡ force_in t.machine.state.placer t.pairs

module _ (i : Inputs) (plans : List Plan) (first : List Candidate) (old : StateTable) (place : ℕ) (t : StateTable) (all cs : List Candidate) (force : ℕ) (plan : Plan) (c : Candidate)
    (k : Taking i plans first old place t all force) (is_plan : slice_get plans place ≡ Some plan) (is_c : all ≡ c ∷ cs) where
  heads : AreNodeCandidates i t.search.nodes (plan ∷ drop (place + 1) plans) (c ∷ cs)
  heads =
      subst (AreNodeCandidates i t.search.nodes (plan ∷ drop (place + 1) plans)) is_c
      (subst (λ ps. AreNodeCandidates i t.search.nodes ps all) (drop_step plans place plan is_plan) k.each)

  needed : AreReady (need_of plan ∷ map need_of (drop (place + 1) plans)) t.machine.ready
  needed = subst (λ (ps : List Plan). AreReady (map need_of ps) t.machine.ready) (drop_step plans place plan is_plan) k.ready

  pub node_ready : In (need_of plan) t.machine.ready
  node_ready = ready_in (need_of plan) (map need_of (drop (place + 1) plans)) t.machine.ready needed

  pub next_taking : (new : StateTable) (now : ℕ) → is_full t.machine.state.placer ≡ false → ((ws : List CheckedWish) → kept_of ws new ≡ with_node i (candidate_number c) (kept_of ws t)) → IsAdmissionStep i plan t new
      → IsOneChanged (candidate_number c) t.search new.search → now ≡ force_in new.machine.state.placer new.pairs → Taking i plans first old (place + 1) new cs now
  next_taking new now more_allowed kept step search is = record {
    kept = λ ws.
        ap (with_nodes i (numbers_in cs)) (kept ws)
        ∙ (sym (ap (λ b. cond b (kept_of ws t) (with_nodes i (numbers_in cs) (with_node i (candidate_number c) (kept_of ws t)))) more_allowed)
        ∙ (ap (λ (xs : List Candidate). with_nodes i (numbers_in xs) (kept_of ws t)) (sym is_c) ∙ k.kept ws));
    steps = next_step i plan old t new place k.steps step;
    some = k.some;
    most = k.most;
    program = k.program;
    each = node_candidates_stay i (candidate_number c) t.search new.search (drop (place + 1) plans) cs search heads.1;
    ready = ready_behind plan (map need_of (drop (place + 1) plans)) t.machine.ready new.machine.ready needed step.ready;
    costs = more_costs i t.pairs new.pairs k.costs step.pairs;
    counted = is;
  }

-- ---- the end

-- no node is left
no_node_candidate : (i : Inputs) (ns : List Node) (cs : List Candidate) → AreNodeCandidates i ns [] cs → cs ≡ []
no_node_candidate i ns [] a = refl
no_node_candidate i ns (c ∷ cs) a = absurd a

module _ (i : Inputs) (plans : List Plan) (first : List Candidate) (old : StateTable) (place : ℕ) (t : StateTable) (cs : List Candidate) (force : ℕ) (k : Taking i plans first old place t cs force) where
  pub taken_none : cs ≡ [] → (ws : List CheckedWish) → kept_of ws t ≡ with_nodes i (numbers_in first) (kept_of ws old)
  taken_none none ws = sym (ap (λ (xs : List Candidate). with_nodes i (numbers_in xs) (kept_of ws t)) none) ∙ k.kept ws

  pub taken_all : length plans ≤ place → (ws : List CheckedWish) → kept_of ws t ≡ with_nodes i (numbers_in first) (kept_of ws old)
  taken_all l = taken_none (no_node_candidate i t.search.nodes cs (subst (λ ps. AreNodeCandidates i t.search.nodes ps cs) (drop_all plans place l) k.each))

  pub taken_full : is_full t.machine.state.placer ≡ true → (ws : List CheckedWish) → kept_of ws t ≡ with_nodes i (numbers_in first) (kept_of ws old)
  taken_full full ws = sym (full_ends i (numbers_in cs) (kept_of ws t) full) ∙ k.kept ws
