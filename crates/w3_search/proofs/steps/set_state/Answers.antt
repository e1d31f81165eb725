use Rattle.w3_search.specs.Nodes.{in_state}
use Rattle.w3_search.proofs.Changes.{changed_set}
use Rattle.w3_search.proofs.steps.set_state.Goals as goal

pub returns : goal.returns
returns c = changed_set (in_state c.args.state) c.args.nodes.now c.args.number c.index-nodes-number.result
