use Rattle.std.proofs.Common.{◌≡◌, ℕ, List, Some, sym, ap, ◌∙◌, subst}
use Rattle.std.specs.Prelude.{IfNone, slice_get, slice_index_or}
use Rattle.std.proofs.lemmas.Option.{slice_get-get_or}
use Rattle.instrument.proofs.Going.{get_in}
use Rattle.machine.specs.Cores.{In}
use Rattle.w3_search.specs.declared.node.Node.{Node}
use Rattle.session.specs.NodeCandidates.{IsNodeCandidate, IsNodeWithHarts, MustWait, queue_of}
use Rattle.session.specs.Tables.{StateTable}
use Rattle.session.proofs.OfNodeCandidates.{next_left, next_taken, queued}
use Rattle.session.proofs.stored.StoredState.prepare_nodes.Goals as goal

pub prepare_node-requires-clause-node : goal.prepare_node-requires-clause-node
prepare_node-requires-clause-node c =
    let i = c.args.inputs.now in
    let v = c.self.inside.search in
    let queue = c.queue-number-items.result.now in
    let k = c.loop-number.number-index in
    let n = slice_index_or queue k 0 in
    let at : In n queue = get_in queue k n (slice_get-get_or queue k 0 c.loop-number-test.true) in
    let rules = ap (λ (t : StateTable). t.search.rules) c.self.view_is ∙ c.requires.rules in
    subst (λ (ns : List Node). IsNodeWithHarts i ns n) (sym c.nodes-nodes.ensures.nodes)
    (queued i c.self.inside.observed v c.requires.given c.nodes-nodes.ensures.history rules n (subst (In n) c.queue-number-items.ensures at))

pub loop-number-preserved-in_default : goal.loop-number-preserved-in_default
loop-number-preserved-in_default c =
    let i = c.args.inputs.now in
    let t = c.args.self.now in
    let force = c.args.force in
    let queue = c.queue-number-items.result.now in
    let k = c.loop-number.number-index in
    let n = slice_index_or queue k 0 in
    let due = queue_of i t.observed t.search in
    let is_due = c.queue-number-items.ensures ∙ ap (λ (x : StateTable). queue_of i x.observed x.search) c.self.view_is in
    let nodes = c.nodes-nodes.ensures.nodes ∙ ap (λ (x : StateTable). x.search.nodes) c.self.view_is in
    let at : slice_get due k ≡ Some n = subst (λ (q : List ℕ). slice_get q k ≡ Some n) is_due (slice_get-get_or queue k 0 c.loop-number-test.true) in
    let waits : MustWait i t.search.nodes force n =
    subst (λ (ns : List Node). MustWait i ns force n) nodes (subst (λ o. IfNone o (MustWait i c.nodes-nodes.result.now force n)) c.in_default.is c.in_ok-made.ensures.none) in
    record { of_node_candidates = next_left i t.search.nodes force due c.args.plans.now.items c.loop-number.plans.items k n c.loop-number.candidates.items c.loop-number.invariant.of_node_candidates at waits; known = c.in_ok-made.ensures.known }

pub loop-number-preserved : goal.loop-number-preserved
loop-number-preserved c =
    let i = c.args.inputs.now in
    let t = c.args.self.now in
    let force = c.args.force in
    let queue = c.queue-number-items.result.now in
    let k = c.loop-number.number-index in
    let n = slice_index_or queue k 0 in
    let due = queue_of i t.observed t.search in
    let is_due = c.queue-number-items.ensures ∙ ap (λ (x : StateTable). queue_of i x.observed x.search) c.self.view_is in
    let nodes = c.nodes-nodes.ensures.nodes ∙ ap (λ (x : StateTable). x.search.nodes) c.self.view_is in
    let at : slice_get due k ≡ Some n = subst (λ (q : List ℕ). slice_get q k ≡ Some n) is_due (slice_get-get_or queue k 0 c.loop-number-test.true) in
    let p = c.in-Some.plan in
    let d = c.in-Some.candidate in
    let one : IsNodeCandidate i t.search.nodes p d = subst (λ (ns : List Node). IsNodeCandidate i ns p d) nodes (rw c.in-Some.is at c.in_ok-made.ensures.node_candidate) in
    let number : d.node ≡ Some n = rw c.in-Some.is at c.in_ok-made.ensures.number in
    record {
      of_node_candidates = next_taken i t.search.nodes force due c.args.plans.now.items c.loop-number.plans.items k n c.loop-number.candidates.items c.loop-number.invariant.of_node_candidates at c.push.new.self.items
          c.push_back.new.self.items p d one number c.in_ok-push.ensures.items c.in_ok-push_back.ensures.items;
      known = c.in_ok-made.ensures.known;
    }
