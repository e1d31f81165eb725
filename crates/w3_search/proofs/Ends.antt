-- The end of the nodes that wait or are under test.
use Rattle.std.proofs.Common.{◌≡◌, ℕ, suc, ◌+◌, Bool, true, false, cond, List, [], ◌∷◌, length, map, refl, sym, ap, ◌∙◌, arith, eq-eqb}
use Rattle.std.specs.Prelude.{nat_eq, ◌&&◌}
use Rattle.std.proofs.lemmas.Bool.{true≢false}
use Rattle.w3_search.specs.declared.node.Node.{Node}
use Rattle.w3_search.specs.declared.node.NodeState.{NodeState}
use Rattle.w3_search.specs.declared.node.NodeState.TheVariants.{Waiting, Active, Confirmed, Rejected, Barred, Unfinished}
use Rattle.w3_search.specs.Index.{changed_each}
use Rattle.w3_search.specs.History.{AllOpen, AreHere}
use Rattle.w3_search.specs.Nodes.{active_of, with_node_changed, node_at_end, is_active, is_open, is_waiting, node_numbers_from, unfinished, waiting_of}
use Rattle.w3_search.specs.Steps.{active_in}
use Rattle.w3_search.proofs.Changes.{active_open, length_changed}
use Rattle.w3_search.proofs.Numbering.{numbers_map}

module _ (p : Node → Bool) (f : Node → Node) where
  -- after one more node
  each_behind : (k : ℕ) (ns xs : List Node) (x : Node) → changed_each f (node_numbers_from p (k + 1) ns) (x ∷ xs) ≡ x ∷ changed_each f (node_numbers_from p k ns) xs
  each_behind k [] xs x = refl
  each_behind k (n ∷ ns) xs x = by (p n) (each_behind (k + 1) ns (with_node_changed f k xs) x) (each_behind (k + 1) ns xs x)
    where
      e : k + 1 ≡ suc k
      e = omega arith

      by : (b : Bool) → changed_each f (node_numbers_from p ((k + 1) + 1) ns) (x ∷ with_node_changed f k xs) ≡ x ∷ changed_each f (node_numbers_from p (k + 1) ns) (with_node_changed f k xs)
          → changed_each f (node_numbers_from p ((k + 1) + 1) ns) (x ∷ xs) ≡ x ∷ changed_each f (node_numbers_from p (k + 1) ns) xs
          → changed_each f (cond b ((k + 1) ∷ node_numbers_from p ((k + 1) + 1) ns) (node_numbers_from p ((k + 1) + 1) ns)) (x ∷ xs) ≡ x ∷ changed_each f (cond b (k ∷ node_numbers_from p (k + 1) ns) (node_numbers_from p (k + 1) ns)) xs
      by true h g = ap (λ (j : ℕ). changed_each f (node_numbers_from p ((k + 1) + 1) ns) (with_node_changed f j (x ∷ xs))) e ∙ h
      by false h g = g

  -- those that pass are changed
  pub each_is : (ns : List Node) → changed_each f (node_numbers_from p 0 ns) ns ≡ map (λ n. cond (p n) (f n) n) ns
  each_is [] = refl
  each_is (n ∷ ns) = by (p n) (each_is ns)
    where
      rest : (x : Node) → changed_each f (node_numbers_from p 0 ns) ns ≡ map (λ n. cond (p n) (f n) n) ns → changed_each f (node_numbers_from p 1 ns) (x ∷ ns) ≡ x ∷ map (λ n. cond (p n) (f n) n) ns
      rest x h = each_behind 0 ns ns x ∙ ap (λ (l : List Node). x ∷ l) h

      by : (b : Bool) → changed_each f (node_numbers_from p 0 ns) ns ≡ map (λ n. cond (p n) (f n) n) ns → changed_each f (cond b (0 ∷ node_numbers_from p 1 ns) (node_numbers_from p 1 ns)) (n ∷ ns) ≡ cond b (f n) n ∷ map (λ n. cond (p n) (f n) n) ns
      by true h = rest (f n) h
      by false h = rest n h

-- ---- those that wait end, and then those under test

wait_ends : Node → Node
wait_ends n = cond (is_waiting n.state) (node_at_end n) n

test_ends : Node → Node
test_ends n = cond (is_active n.state) (node_at_end n) n

still_active : (n : Node) → is_active (wait_ends n).state ≡ is_active n.state
unfolding wait_ends
still_active n = by n.state
  where
    by : (s : NodeState) → is_active (wait_ends (record n { state = s })).state ≡ is_active s
    by Waiting = refl
    by Active = refl
    by Confirmed = refl
    by Rejected = refl
    by (Barred c) = refl
    by (Unfinished m) = refl

both_end : (n : Node) → test_ends (wait_ends n) ≡ node_at_end n
unfolding wait_ends test_ends
both_end n = by n.state
  where
    by : (s : NodeState) → test_ends (wait_ends (record n { state = s })) ≡ node_at_end (record n { state = s })
    by Waiting = refl
    by Active = refl
    by Confirmed = refl
    by Rejected = refl
    by (Barred c) = refl
    by (Unfinished m) = refl

all_end : (ns : List Node) → map test_ends (map wait_ends ns) ≡ map node_at_end ns
all_end [] = refl
all_end (n ∷ ns) = ap (λ (m : Node). m ∷ map test_ends (map wait_ends ns)) (both_end n) ∙ ap (λ (l : List Node). node_at_end n ∷ l) (all_end ns)

pub ends_by_lists : (ns : List Node) → changed_each node_at_end (active_of ns) (changed_each node_at_end (waiting_of ns) ns) ≡ map node_at_end ns
unfolding wait_ends test_ends
ends_by_lists ns =
    ap (changed_each node_at_end (active_of ns)) (each_is (λ n. is_waiting n.state) node_at_end ns)
    ∙ ap (λ (is : List ℕ). changed_each node_at_end is (map wait_ends ns)) (sym (numbers_map (λ n. is_active n.state) wait_ends still_active 0 ns))
    ∙ each_is (λ n. is_active n.state) node_at_end (map wait_ends ns)
    ∙ all_end ns

pub length_each : (f : Node → Node) (is : List ℕ) (ns : List Node) → length (changed_each f is ns) ≡ length ns
length_each f [] ns = refl
length_each f (i ∷ is) ns = length_each f is (with_node_changed f i ns) ∙ length_changed f ns i

-- ---- no node is open afterwards

pub shut : (s : NodeState) (m : ℕ) → is_open (cond (is_open s) (Unfinished m) s) ≡ false
shut Waiting m = refl
shut Active m = refl
shut Confirmed m = refl
shut Rejected m = refl
shut (Barred c) m = refl
shut (Unfinished k) m = refl

closed_waiting : (s : NodeState) → is_open s ≡ false → is_waiting s ≡ false
closed_waiting Waiting e = cc
closed_waiting Active e = refl
closed_waiting Confirmed e = refl
closed_waiting Rejected e = refl
closed_waiting (Barred c) e = refl
closed_waiting (Unfinished m) e = refl

closed_active : (s : NodeState) → is_open s ≡ false → is_active s ≡ false
closed_active Waiting e = refl
closed_active Active e = cc
closed_active Confirmed e = refl
closed_active Rejected e = refl
closed_active (Barred c) e = refl
closed_active (Unfinished m) e = refl

pub none_waits : (n : Node) → is_waiting (node_at_end n).state ≡ false
none_waits n = closed_waiting _ (shut n.state n.seen)

pub none_active : (n : Node) → is_active (node_at_end n).state ≡ false
none_active n = closed_active _ (shut n.state n.seen)

pub all_closed : (P : Node → Type 0) (ns : List Node) → AllOpen P (map node_at_end ns)
all_closed P [] = tt
all_closed P (n ∷ ns) = ((λ o. absurd (true≢false (sym o ∙ shut n.state n.seen))), all_closed P ns)

-- ---- where all open nodes are of the phase, the phase's are all

and_same : (c b : Bool) → (b ≡ true → c ≡ true) → (c && b) ≡ b
and_same true b h = refl
and_same false true h = h refl
and_same false false h = refl

here_ends : (q : ℕ) (n : Node) → (is_open n.state ≡ true → n.phase ≡ q) → unfinished q n ≡ node_at_end n
here_ends q n here =
    ap (λ (b : Bool). record n { state = cond b (Unfinished n.seen) n.state }) (and_same (nat_eq n.phase q) (is_open n.state) (λ o. eq-eqb n.phase q (here o)))

pub phase_ends : (q : ℕ) (ns : List Node) → AreHere q ns → map (unfinished q) ns ≡ map node_at_end ns
phase_ends q [] here = refl
phase_ends q (n ∷ ns) here = ap (λ (m : Node). m ∷ map (unfinished q) ns) (here_ends q n here.0) ∙ ap (λ (l : List Node). node_at_end n ∷ l) (phase_ends q ns here.1)

active_from : (q k : ℕ) (ns : List Node) → AreHere q ns → node_numbers_from (λ n. nat_eq n.phase q && is_active n.state) k ns ≡ node_numbers_from (λ n. is_active n.state) k ns
active_from q k [] here = refl
active_from q k (n ∷ ns) here =
    ap (λ (b : Bool). cond b (k ∷ node_numbers_from (λ n. nat_eq n.phase q && is_active n.state) (k + 1) ns) (node_numbers_from (λ n. nat_eq n.phase q && is_active n.state) (k + 1) ns))
    (and_same (nat_eq n.phase q) (is_active n.state) (λ a. eq-eqb n.phase q (here.0 (active_open n.state a))))
    ∙ ap (λ (l : List ℕ). cond (is_active n.state) (k ∷ l) l) (active_from q (k + 1) ns here.1)

pub active_here : (q : ℕ) (ns : List Node) → AreHere q ns → active_in q ns ≡ active_of ns
active_here q ns here = active_from q 0 ns here
