-- A node of which it was known that it must wait, must so at its turn.
use Rattle.std.proofs.Common.{◌≡◌, ℕ, ◌+◌, ◌<◌, ◌≤◌, List, [], ◌∷◌, ◌++◌, Option, Some, None, Ok, Err, refl, sym, ap, ap₂, ◌∙◌, subst, arith, inl, inr}
use Rattle.std.specs.Prelude.{Bool, true, false, cond, Result, is_some, nat_le, nat_lt, not, slice_get, ◌&&◌}
use Rattle.std.specs.List.{list_all}
use Rattle.std.proofs.lemmas.Bool.{and_parts, lt-ltb, ltb-true}
use Rattle.pn_types.specs.declared.pick.PickCause.{PickCause}
use Rattle.pn_types.specs.declared.pick.PickCause.TheVariants.{AlreadyShown}
use Rattle.pn_types.specs.declared.plan.Plan.{Plan}
use Rattle.prim_code.specs.Counts.{predicted}
use Rattle.mdl_check.specs.declared.checked.CheckedWish.{CheckedWish}
use Rattle.mdl_plan.specs.declared.fault.PlanFault.{PlanFault}
use Rattle.instrument.specs.Placements.{Placements, admission, or_same, state_of}
use Rattle.instrument.specs.Scenes.{Admits}
use Rattle.instrument.specs.declared.number.Refused.{Refused}
use Rattle.instrument.specs.declared.number.State.{State}
use Rattle.instrument.proofs.Numbers.{admits}
use Rattle.instrumented.specs.Instrumented.{Instrumented, after_act}
use Rattle.w3_search.specs.declared.node.Node.{Node}
use Rattle.w3_search.specs.declared.node.NodeState.{NodeState}
use Rattle.w3_search.specs.declared.node.NodeState.TheVariants.{Active, Barred}
use Rattle.w3_search.specs.Nodes.{with_node_changed, in_state}
use Rattle.session_spec.specs.declared.data.MetricFocusPair.{MetricFocusPair}
use Rattle.session_spec.specs.Inputs.{Inputs, cause_of_plan, cause_of_refusal, planned}
use Rattle.session_spec.specs.Searches.{metric_of, rules_of}
use Rattle.session_spec.specs.States.{SessionState}
use Rattle.session_spec.specs.Admission.{with_admitted, shown_next, shown_now, with_answer, with_plan, with_refused, with_show, with_wish}
use Rattle.session_spec.specs.Opening.{with_all}
use Rattle.session_spec.specs.Tests.{in_force, is_full, is_gone, must_wait, tested, tests_next, with_node, with_nodes, words_of}
use Rattle.session_spec.specs.Rosters.{AreBelow}
use Rattle.session_spec.proofs.Acting.{admitted_placer}
use Rattle.session_spec.proofs.AdmittingSteps.{KeepsNode, node_kept}
use Rattle.session_spec.proofs.Likes.{below_more, below_push}
use Rattle.session.specs.NodeCandidates.{AreWithout, MustWait}
use Rattle.session.proofs.Forces.{lower_stay}
use Rattle.session.proofs.Looks.{wish_shows}
use Rattle.session.proofs.Takings.{IsAs, get_changed}
use Rattle.session.proofs.Waiting.{must_stay}

-- ---- the costs in force

-- they are at least these
pub record HasForce (i : Inputs) (force : ℕ) (k : SessionState) : Type 0 where
  pub below : AreBelow k.machine.placer.count k.shown
  pub least : force ≤ in_force i k.machine.placer k.shown

in_same : (i : Inputs) (p q : Placements) (ss : List MetricFocusPair) → ((n : ℕ) → n < p.count → state_of q n ≡ state_of p n) → AreBelow p.count ss → in_force i q ss ≡ in_force i p ss
in_same i p q [] s b = refl
in_same i p q (x ∷ ss) s b =
    ap₂ (λ (t : State) (n : ℕ). cond (is_some x.node && not (is_gone t)) (words_of i x) 0 + n) (s x.instrument.n b.0) (in_same i p q ss s b.1)

in_push : (i : Inputs) (p : Placements) (ss : List MetricFocusPair) (x : MetricFocusPair) → in_force i p ss ≤ in_force i p (ss ++ x ∷ [])
in_push i p [] x = omega arith
in_push i p (y ∷ ss) x = omega (arith, in_push i p ss x)

-- with an instrument more
more_force : (i : Inputs) (force : ℕ) (k j : SessionState) (plan : Plan) (cost : Option ℕ) (placer : Placements) (x : MetricFocusPair) → admission k.machine.placer plan cost ≡ Ok placer → x.instrument.n ≡ k.machine.placer.count
    → j.machine ≡ after_act (Admits plan cost) k.machine → j.shown ≡ k.shown ++ x ∷ [] → HasForce i force k → HasForce i force j
more_force i force k j plan cost placer x e number machine shown h =
    let p = k.machine.placer in
    let q : j.machine.placer ≡ placer = ap (λ (m : Instrumented). m.placer) machine ∙ (admitted_placer plan cost k.machine ∙ ap (or_same p) e) in
    let count : placer.count ≡ p.count + 1 = ((admits p plan cost placer e).0).count in
    let below = below_push placer.count k.shown x (below_more p.count placer.count k.shown (omega (arith, count)) h.below) (omega (arith, count, number)) in
    let least : force ≤ in_force i placer (k.shown ++ x ∷ []) = omega (arith, h.least, in_same i p placer k.shown (lower_stay p plan cost placer e) h.below, in_push i placer k.shown x) in
    record {
      below = subst (λ (r : Placements). AreBelow r.count j.shown) (sym q) (subst (AreBelow placer.count) (sym shown) below);
      least = subst (λ (r : Placements). force ≤ in_force i r j.shown) (sym q) (subst (λ ss. force ≤ in_force i placer ss) (sym shown) least);
    }

-- ---- wishes that drop no pair

module _ (i : Inputs) (force : ℕ) where
  refused_force : (o : Option PickCause) (w : CheckedWish) (k : SessionState) → HasForce i force k → HasForce i force (with_refused o w k)
  refused_force None w k h = h
  refused_force (Some cause) w k h = record { below = h.below; least = h.least }

  answer_force : (plan : Plan) (w : CheckedWish) (k : SessionState) (r : Result Placements Refused) → admission k.machine.placer plan None ≡ r → HasForce i force k → HasForce i force (with_answer r w plan k)
  answer_force plan w k (Err refused) e h = refused_force (cause_of_refusal refused) w k h
  answer_force plan w k (Ok placer) e h = more_force i force k (record (with_admitted plan k) { shown = k.shown ++ shown_next w k ∷ [] }) plan None placer (shown_next w k) e refl refl refl h

  plan_force : (r : Result Plan PlanFault) (w : CheckedWish) (k : SessionState) → HasForce i force k → HasForce i force (with_plan r w k)
  plan_force (Err fault) w k h = refused_force (Some (cause_of_plan fault)) w k h
  plan_force (Ok plan) w k h = answer_force plan w k (admission k.machine.placer plan None) refl h

  show_force : (o : Option MetricFocusPair) (w : CheckedWish) (k : SessionState) → HasForce i force k → HasForce i force (with_show o i w k)
  show_force (Some s) w k h = refused_force (Some AlreadyShown) w k h
  show_force None w k h = plan_force (planned i w.metric w.focus) w k h

  all_force : (ws : List CheckedWish) (k : SessionState) → list_all (λ (w : CheckedWish). w.show) ws ≡ true → HasForce i force k → HasForce i force (with_all i ws k)
  all_force [] k e h = h
  all_force (w ∷ ws) k e h =
      let parts = and_parts w.show (list_all (λ (x : CheckedWish). x.show) ws) e in
      all_force ws (with_wish i w k) parts.1 (subst (HasForce i force) (sym (wish_shows i w k (shown_now k w) parts.0 refl)) (show_force (shown_now k w) w k h))

-- where one drops a pair nothing is known
pub least_force : (i : Inputs) (ws : List CheckedWish) (k : SessionState) (force : ℕ) → force ≡ cond (list_all (λ (w : CheckedWish). w.show) ws) (in_force i k.machine.placer k.shown) 0
    → AreBelow k.machine.placer.count k.shown → AreBelow (with_all i ws k).machine.placer.count (with_all i ws k).shown → HasForce i force (with_all i ws k)
least_force i ws k force e before behind = by (list_all (λ (w : CheckedWish). w.show) ws) refl e
  where
    by : (b : Bool) → list_all (λ (w : CheckedWish). w.show) ws ≡ b → force ≡ cond b (in_force i k.machine.placer k.shown) 0 → HasForce i force (with_all i ws k)
    by true a f = all_force i force ws k a (record { below = before; least = omega (arith, f) })
    by false a f = record { below = behind; least = omega (arith, f) }

-- ---- nodes that are taken

-- the hypothesis and the focus of each node stay
abbrev IsOf : Node → Node → Type 0
IsOf x y = (y.hypothesis ≡ x.hypothesis) × (y.focus ≡ x.focus)

abbrev AreOf : List Node → List Node → Type 0
AreOf xs ys = (n : ℕ) (x : Node) → slice_get xs n ≡ Some x → (y : Node) × (slice_get ys n ≡ Some y) × IsOf x y

is_of : (state : NodeState) (x y : Node) → IsAs state x y → IsOf x y
is_of state x y (inl e) = (ap (λ (z : Node). z.hypothesis) e, ap (λ (z : Node). z.focus) e)
is_of state x y (inr e) = (ap (λ (z : Node). z.hypothesis) e, ap (λ (z : Node). z.focus) e)

pub record IsBehind (i : Inputs) (force : ℕ) (ns : List Node) (k : SessionState) : Type 0 where
  pub force_is : HasForce i force k
  pub nodes : AreOf ns k.search.nodes

pub behind_first : (i : Inputs) (force : ℕ) (ns : List Node) (k : SessionState) → HasForce i force k → k.search.nodes ≡ ns → IsBehind i force ns k
behind_first i force ns k h e = record { force_is = h; nodes = λ n x f. (x, ap (λ (xs : List Node). slice_get xs n) e ∙ f, (refl, refl)) }

nodes_changed : (state : NodeState) (n : ℕ) (xs ys : List Node) → AreOf xs ys → AreOf xs (with_node_changed (in_state state) n ys)
nodes_changed state n xs ys a m x e =
    let y = a m x e in
    let z = get_changed state n m ys y.0 y.1 in
    let o = is_of state y.0 z.0 z.2 in
    (z.0, z.1, (o.0 ∙ y.2.0, o.1 ∙ y.2.1))

keeps_behind : (i : Inputs) (force : ℕ) (ns : List Node) → KeepsNode i (IsBehind i force ns)
keeps_behind i force ns = record {
  barred = λ k n node cause stands waits by b. record {
    force_is = record { below = (b.force_is).below; least = (b.force_is).least };
    nodes = nodes_changed (Barred cause) n ns k.search.nodes b.nodes;
  };
  tested = λ k n node plan placer stands waits is room e b. record {
    force_is = more_force i force k (tested i n node plan k) plan (Some (rules_of i).decl.cost) placer (tests_next i n node k) e refl refl refl b.force_is;
    nodes = nodes_changed Active n ns k.search.nodes b.nodes;
  };
}

-- ---- nodes that are left out

-- more are in force
waits_still : (limit words a b : ℕ) → a ≤ b → must_wait limit words a ≡ true → must_wait limit words b ≡ true
waits_still limit words a b l e =
    let parts = and_parts (nat_le words limit) (nat_lt limit (a + words)) e in
    let more : limit < b + words = omega (arith, l, ltb-true limit (a + words) parts.1) in
    ap₂ (λ x y. x && y) parts.0 (lt-ltb limit (b + words) more)

left_stays : (i : Inputs) (force n : ℕ) (ns : List Node) (k : SessionState) → MustWait i ns force n → IsBehind i force ns k → with_node i n k ≡ k
unfolding metric_of
left_stays i force n ns k m b =
    let y = b.nodes n m.node m.stands in
    let is : planned i (metric_of i y.0) (y.0).focus ≡ Ok m.plan =
    subst (λ f. planned i (metric_of i y.0) f ≡ Ok m.plan) (sym y.2.1) (subst (λ x. planned i x (m.node).focus ≡ Ok m.plan) (ap (λ (h : ℕ). metric_of i (record (y.0) { hypothesis = h })) (sym y.2.0)) m.planned) in
    must_stay i n k y.0 y.1 m.plan is (waits_still (rules_of i).decl.cost (predicted m.plan) force (in_force i k.machine.placer k.shown) (b.force_is).least m.waits)

-- it makes no difference that they are
pub left_out : (i : Inputs) (force : ℕ) (all : List Node) (ns ms : List ℕ) (k : SessionState) → AreWithout i all force ns ms → IsBehind i force all k → with_nodes i ns k ≡ with_nodes i ms k
left_out i force all [] [] k a b = refl
left_out i force all [] (m ∷ ms) k a b = absurd a
left_out i force all (n ∷ ns) [] k a b =
    let stays = left_stays i force n all k a.0 b in
    by (is_full k.machine.placer) (ap (with_nodes i ns) stays ∙ left_out i force all ns [] k a.1 b)
  where
    by : (full : Bool) → with_nodes i ns (with_node i n k) ≡ k → cond full k (with_nodes i ns (with_node i n k)) ≡ k
    by true e = refl
    by false e = e
left_out i force all (n ∷ ns) (m ∷ ms) k (inl a) b =
    let next = left_out i force all ns ms (with_node i n k) a.1 (node_kept i (IsBehind i force all) (keeps_behind i force all) n k b) in
    ap (λ x. cond (is_full k.machine.placer) k x) (next ∙ ap (λ x. with_nodes i ms (with_node i x k)) a.0)
left_out i force all (n ∷ ns) (m ∷ ms) k (inr a) b =
    let stays = left_stays i force n all k a.0 b in
    by (is_full k.machine.placer) refl (ap (with_nodes i ns) stays ∙ left_out i force all ns (m ∷ ms) k a.1 b)
  where
    by : (full : Bool) → is_full k.machine.placer ≡ full → with_nodes i ns (with_node i n k) ≡ cond (is_full k.machine.placer) k (with_nodes i ms (with_node i m k)) → cond full k (with_nodes i ns (with_node i n k)) ≡ cond full k (with_nodes i ms (with_node i m k))
    by true q e = refl
    by false q e = e ∙ ap (λ x. cond x k (with_nodes i ms (with_node i m k))) q
