use Rattle.std.proofs.Common.{sym, ◌∙◌}
use Rattle.resource_tree.specs.Foci.{focus_of}
use Rattle.resource_tree.proofs.Parts.{next, all_remain}
use Rattle.resource_tree.proofs.tree.Tree.named.Goals as goal

pub loop-number-init : goal.loop-number-init
loop-number-init c ps h e = all_remain c.args.self.now c.args.text.now ps h e

pub returns-in_default : goal.returns-in_default
returns-in_default c ps h e =
    let n = next c.args.self.now c.loop-number.number c.loop-number.focus c.loop-number.rest.now (focus_of c.args.self.now ps) (c.loop-number.invariant ps h e) in
    let w = c.with_part.ensures n.part n.good (c.split_comma.ensures.part n.part n.behind n.good n.spelled) in
    n.none (sym w ∙ c.in_default.is)

pub returns-in_default-behind : goal.returns-in_default-behind
returns-in_default-behind c ps h e =
    let n = next c.args.self.now c.loop-number.number c.loop-number.focus c.loop-number.rest.now (focus_of c.args.self.now ps) (c.loop-number.invariant ps h e) in
    let w = c.with_part.ensures n.part n.good (c.split_comma.ensures.part n.part n.behind n.good n.spelled) in
    let r = c.split_comma.ensures.rest n.part n.behind n.good n.spelled in
    n.last c.in-Some.next (sym w ∙ c.in-Some.is) (rw c.in_default-behind.is at r)

pub loop-number-preserved : goal.loop-number-preserved
loop-number-preserved c ps h e =
    let n = next c.args.self.now c.loop-number.number c.loop-number.focus c.loop-number.rest.now (focus_of c.args.self.now ps) (c.loop-number.invariant ps h e) in
    let w = c.with_part.ensures n.part n.good (c.split_comma.ensures.part n.part n.behind n.good n.spelled) in
    let r = c.split_comma.ensures.rest n.part n.behind n.good n.spelled in
    let b = rw c.in-Some-behind.is at r in
    n.more c.in-Some.next c.in-Some-behind.behind.now (sym w ∙ c.in-Some.is) b.0 b.1
