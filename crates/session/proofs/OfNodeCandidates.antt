-- What nodes need is made, one after another.
use Rattle.std.proofs.Common.{◌≡◌, ℕ, zero, suc, ◌+◌, ◌<◌, ◌≤◌, ◌^◌, List, [], ◌∷◌, ◌++◌, Some, refl, sym, ap, ◌∙◌, subst, arith, length, inl, inr, ⊎_elim, append_assoc}
use Rattle.std.specs.Prelude.{None, cond, drop, map, nat_lt, slice_get, take, true, false, Bool, ◌⊎◌}
use Rattle.std.proofs.lemmas.List.{length-map, map-append}
use Rattle.pn_types.specs.declared.plan.Plan.{Plan}
use Rattle.prim_code.specs.Counts.{predicted}
use Rattle.machine.specs.Cores.{In}
use Rattle.instrument.specs.Needs.{Need, need_of}
use Rattle.w3_search.specs.declared.node.Node.{Node}
use Rattle.w3_search.specs.History.{IsHistory}
use Rattle.w3_search.specs.Nodes.{waiting_of}
use Rattle.w3_search.specs.Steps.{SearchData}
use Rattle.session_spec.specs.Inputs.{Inputs}
use Rattle.session_spec.specs.Searches.{rules_by, rules_of}
use Rattle.session_spec.specs.States.{SessionState}
use Rattle.session_spec.specs.Tests.{taken_at_once, with_nodes, with_tests}
use Rattle.session_spec.proofs.Queues.{taken_below}
use Rattle.session_spec.proofs.Within.{harts_within, within}
use Rattle.resource_tree.specs.Foci.{IsBelow, harts_of_node}
use Rattle.session.specs.declared.candidate.Candidate.{Candidate}
use Rattle.session.specs.NodeCandidates.{AreNodeCandidates, AreWithout, IsNodeCandidate, IsNodeWithHarts, MustWait, candidate_number, number_or_none, numbers_in, queue_of}
use Rattle.session.specs.Given.{AreGiven}
use Rattle.session.specs.Tables.{AreReady}

-- ---- the queue

-- one of a list, which is found
there : {A : Type 0} (xs : List A) (n : ℕ) → n < length xs → (x : A) × (slice_get xs n ≡ Some x)
there [] n l = absurd (omega arith)
there (x ∷ xs) zero l = (x, refl)
there (x ∷ xs) (suc n) l = there xs n (omega arith)

in_queue : (i : Inputs) (observed : ℕ) (v : SearchData) (n : ℕ) → In n (queue_of i observed v) → In n (take taken_at_once (waiting_of v.nodes))
in_queue i observed v n h = by (nat_lt (rules_of i).decl.observed observed) h
  where
    by : (b : Bool) → In n (cond {A = List ℕ} b [] (take taken_at_once (waiting_of v.nodes))) → In n (take taken_at_once (waiting_of v.nodes))
    by true k = absurd k
    by false k = k

-- a node of the queue stands, and its focus names a hart that there is
pub queued : (i : Inputs) (observed : ℕ) (v : SearchData) → AreGiven i → IsHistory v → v.rules ≡ rules_of i → (n : ℕ) → In n (queue_of i observed v) → IsNodeWithHarts i v.nodes n
queued i observed v g h rules n q =
    let x = there v.nodes n (taken_below taken_at_once v.nodes n (in_queue i observed v n q)) in
    let tree : v.rules.tree.harts ≡ i.tree.harts = ap (λ r. r.tree.harts) rules ∙ tree_is i.checked.search in
    let low : IsBelow i.tree.harts (x.0).focus.hart = subst (λ m. IsBelow m (x.0).focus.hart) tree (within v h n x.0 x.1) in
    let fits = harts_within i.tree.harts (x.0).focus.hart low in
    let same = g.harts in
    (x.0, x.1, subst (λ m. (harts_of_node i.tree.harts (x.0).focus.hart).0 + (harts_of_node i.tree.harts (x.0).focus.hart).1 ≤ m) same fits)
  where
    tree_is : (o : _) → (rules_by o i).tree.harts ≡ i.tree.harts
    tree_is None = refl
    tree_is (Some decl) = refl

-- ---- one after another

snoc : (i : Inputs) (ns : List Node) (ps : List Plan) (cs : List Candidate) (p : Plan) (c : Candidate) → AreNodeCandidates i ns ps cs → IsNodeCandidate i ns p c → AreNodeCandidates i ns (ps ++ p ∷ []) (cs ++ c ∷ [])
snoc i ns [] [] p c a k = (k, tt)
snoc i ns [] (x ∷ cs) p c a k = absurd a
snoc i ns (q ∷ ps) [] p c a k = absurd a
snoc i ns (q ∷ ps) (x ∷ cs) p c a k = (a.0, snoc i ns ps cs p c a.1 k)

-- a node more is taken, or left out
one_taken : (i : Inputs) (all : List Node) (force : ℕ) (ns ms : List ℕ) (n : ℕ) → AreWithout i all force ns ms → AreWithout i all force (ns ++ n ∷ []) (ms ++ n ∷ [])
one_taken i all force [] [] n a = inl (refl, tt)
one_taken i all force [] (m ∷ ms) n a = absurd a
one_taken i all force (x ∷ ns) [] n a = inr (a.0, one_taken i all force ns [] n a.1)
one_taken i all force (x ∷ ns) (m ∷ ms) n (inl a) = inl (a.0, one_taken i all force ns ms n a.1)
one_taken i all force (x ∷ ns) (m ∷ ms) n (inr a) = inr (a.0, one_taken i all force ns (m ∷ ms) n a.1)

one_left : (i : Inputs) (all : List Node) (force : ℕ) (ns ms : List ℕ) (n : ℕ) → MustWait i all force n → AreWithout i all force ns ms → AreWithout i all force (ns ++ n ∷ []) ms
one_left i all force [] [] n w a = (w, tt)
one_left i all force [] (m ∷ ms) n w a = absurd a
one_left i all force (x ∷ ns) [] n w a = (a.0, one_left i all force ns [] n w a.1)
one_left i all force (x ∷ ns) (m ∷ ms) n w (inl a) = inl (a.0, one_left i all force ns ms n w a.1)
one_left i all force (x ∷ ns) (m ∷ ms) n w (inr a) = inr (a.0, one_left i all force ns (m ∷ ms) n w a.1)

take_step : (ws : List ℕ) (k w : ℕ) → slice_get ws k ≡ Some w → take (k + 1) ws ≡ take k ws ++ w ∷ []
take_step [] k w e = absurd cc
take_step (v ∷ ws) zero w e = let same : v ≡ w = cc in ap (λ x. x ∷ []) same
take_step (v ∷ ws) (suc k) w e =
    let next : suc k + 1 ≡ suc (k + 1) = omega arith in
    ap (λ n. take n (v ∷ ws)) next ∙ ap (λ l. v ∷ l) (take_step ws k w e)

-- a number of the queue were looked at, and the plans of those that are taken were appended to the others
pub record OfNodeCandidates (i : Inputs) (ns : List Node) (force : ℕ) (queue : List ℕ) (old now : List Plan) (k : ℕ) (cs : List Candidate) : Type 0 where
  pub more : List Plan
  pub is : now ≡ old ++ more
  pub each : AreNodeCandidates i ns more cs
  pub without : AreWithout i ns force (take k queue) (numbers_in cs)

module _ (i : Inputs) (ns : List Node) (force : ℕ) (queue : List ℕ) (old : List Plan) where
  module _ (now : List Plan) (k n : ℕ) (cs : List Candidate) (s : OfNodeCandidates i ns force queue old now k cs) (at : slice_get queue k ≡ Some n) where
    pub next_taken : (new : List Plan) (ds : List Candidate) (p : Plan) (c : Candidate) → IsNodeCandidate i ns p c → c.node ≡ Some n → new ≡ now ++ p ∷ [] → ds ≡ cs ++ c ∷ [] → OfNodeCandidates i ns force queue old new (k + 1) ds
    next_taken new ds p c one number e d =
        let numbers : numbers_in ds ≡ numbers_in cs ++ n ∷ [] = ap numbers_in d ∙ (map-append candidate_number cs (c ∷ []) ∙ ap (λ x. numbers_in cs ++ number_or_none x ∷ []) number) in
        record {
          more = s.more ++ p ∷ [];
          is = e ∙ (ap (λ l. l ++ p ∷ []) s.is ∙ append_assoc old s.more (p ∷ []));
          each = subst (AreNodeCandidates i ns (s.more ++ p ∷ [])) (sym d) (snoc i ns s.more cs p c s.each one);
          without = subst (λ q. AreWithout i ns force q (numbers_in ds)) (sym (take_step queue k n at))
              (subst (AreWithout i ns force (take k queue ++ n ∷ [])) (sym numbers) (one_taken i ns force (take k queue) (numbers_in cs) n s.without));
        }

    pub next_left : MustWait i ns force n → OfNodeCandidates i ns force queue old now (k + 1) cs
    next_left w = record {
      more = s.more;
      is = s.is;
      each = s.each;
      without = subst (λ q. AreWithout i ns force q (numbers_in cs)) (sym (take_step queue k n at)) (one_left i ns force (take k queue) (numbers_in cs) n w s.without);
    }

-- ---- all of them

pub node_candidates_short : (i : Inputs) (ns : List Node) (ps : List Plan) (cs : List Candidate) → AreNodeCandidates i ns ps cs → (p : Plan) → In p ps → predicted p < 2 ^ 32
node_candidates_short i ns [] cs a p h = absurd h
node_candidates_short i ns (q ∷ ps) [] a p h = absurd a
node_candidates_short i ns (q ∷ ps) (c ∷ cs) a p (inl e) = subst (λ x. predicted x < 2 ^ 32) (sym e) ((a.0).candidate).words
node_candidates_short i ns (q ∷ ps) (c ∷ cs) a p (inr h) = node_candidates_short i ns ps cs a.1 p h

-- there are no more than in the queue
node_candidates_many : (i : Inputs) (ns : List Node) (ps : List Plan) (cs : List Candidate) → AreNodeCandidates i ns ps cs → length ps ≡ length cs
node_candidates_many i ns [] [] a = refl
node_candidates_many i ns [] (c ∷ cs) a = absurd a
node_candidates_many i ns (p ∷ ps) [] a = absurd a
node_candidates_many i ns (p ∷ ps) (c ∷ cs) a = ap suc (node_candidates_many i ns ps cs a.1)

without_less : (i : Inputs) (all : List Node) (force : ℕ) (ns ms : List ℕ) → AreWithout i all force ns ms → length ms ≤ length ns
without_less i all force [] [] a = omega arith
without_less i all force [] (m ∷ ms) a = absurd a
without_less i all force (n ∷ ns) [] a = omega arith
without_less i all force (n ∷ ns) (m ∷ ms) (inl a) = omega (arith, without_less i all force ns ms a.1)
without_less i all force (n ∷ ns) (m ∷ ms) (inr a) = omega (arith, without_less i all force ns (m ∷ ms) a.1)

take_low : (n : ℕ) (xs : List ℕ) → length (take n xs) ≤ n
take_low zero xs = omega arith
take_low (suc n) [] = omega arith
take_low (suc n) (x ∷ xs) = let l = take_low n xs in omega arith

queue_few : (i : Inputs) (observed : ℕ) (v : SearchData) → length (queue_of i observed v) ≤ taken_at_once
queue_few i observed v = by (nat_lt (rules_of i).decl.observed observed)
  where
    by : (b : Bool) → length (cond {A = List ℕ} b [] (take taken_at_once (waiting_of v.nodes))) ≤ taken_at_once
    by true = omega arith
    by false = take_low taken_at_once (waiting_of v.nodes)

pub node_candidates_few : (i : Inputs) (force observed : ℕ) (v : SearchData) (ps : List Plan) (cs : List Candidate) → AreNodeCandidates i v.nodes ps cs → AreWithout i v.nodes force (queue_of i observed v) (numbers_in cs) → length ps ≤ taken_at_once
node_candidates_few i force observed v ps cs a w =
    omega (arith, node_candidates_many i v.nodes ps cs a, length-map cs candidate_number, without_less i v.nodes force (queue_of i observed v) (numbers_in cs) w, queue_few i observed v)

-- what the search takes is its queue
pub tests_are : (i : Inputs) (k : SessionState) → with_tests i k ≡ with_nodes i (queue_of i k.observed k.search) k
unfolding with_tests
tests_are i k = by (nat_lt (rules_of i).decl.observed k.observed)
  where
    by : (b : Bool) → cond b k (with_nodes i (take taken_at_once (waiting_of k.search.nodes)) k) ≡ with_nodes i (cond {A = List ℕ} b [] (take taken_at_once (waiting_of k.search.nodes))) k
    by true = refl
    by false = refl

-- ---- plans in two parts

pub in_part : (n : ℕ) (ps : List Plan) (p : Plan) → In p ps → In p (take n ps) ⊎ In p (drop n ps)
in_part zero ps p h = inr h
in_part (suc n) [] p h = absurd h
in_part (suc n) (q ∷ ps) p (inl e) = inl (inl e)
in_part (suc n) (q ∷ ps) p (inr h) = ⊎_elim (λ k. inl (inr k)) (λ k. inr k) (in_part n ps p h)

take_drop : (n : ℕ) (ps : List Plan) → take n ps ++ drop n ps ≡ ps
take_drop zero ps = refl
take_drop (suc n) [] = refl
take_drop (suc n) (p ∷ ps) = ap (λ l. p ∷ l) (take_drop n ps)

pub needs_parted : (n : ℕ) (ps : List Plan) → map need_of ps ≡ map need_of (take n ps) ++ map need_of (drop n ps)
needs_parted n ps = ap (map need_of) (sym (take_drop n ps)) ∙ map-append need_of (take n ps) (drop n ps)

-- the first of those that are ready
pub first_ready : (ns ms ready : List Need) → AreReady (ns ++ ms) ready → AreReady ns ready
first_ready [] ms ready r = tt
first_ready (n ∷ ns) ms [] r = absurd r
first_ready (n ∷ ns) ms (x ∷ ready) (inl r) = inl (r.0, first_ready ns ms ready r.1)
first_ready (n ∷ ns) ms (x ∷ ready) (inr r) = inr (first_ready (n ∷ ns) ms ready r)
