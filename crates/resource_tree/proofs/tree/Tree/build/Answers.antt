use Rattle.std.proofs.Common.{◌≡◌, ◌<◌, sym, subst, length, List, ℕ}
use Rattle.std.specs.List.{AllByRecursion}
use Rattle.resource_tree.specs.Names.{IsNamed}
use Rattle.resource_tree.specs.Resources.{CodeNodes, ObjectNode, HasMembersBelow, HasFewMembers, code_of, objects_of}
use Rattle.resource_tree.proofs.InTree.{code_few, code_members}
use Rattle.resource_tree.proofs.Listed.{objects_low}
use Rattle.resource_tree.proofs.Named.{tree_named}
use Rattle.resource_tree.proofs.tree.Tree.build.Goals as goal

pub invariant_of-result : goal.invariant_of-result
invariant_of-result c = record {
  harts = c.requires.harts;
  members = subst (λ (code : CodeNodes). HasMembersBelow (length code.procs) code.modules) (sym c.in_ok-of.ensures) (code_members c.args.procs.now);
  few = subst (λ (code : CodeNodes). HasFewMembers (length code.procs) code.modules) (sym c.in_ok-of.ensures) (code_few c.args.procs.now);
}

same : (code built : CodeNodes) (objects listed : List ObjectNode) (harts : ℕ) → code ≡ built → objects ≡ listed → IsNamed (record { code = built; objects = listed; harts = harts }) → IsNamed (record { code = code; objects = objects; harts = harts })
same code built objects listed harts e f n =
    subst (λ (os : List ObjectNode). IsNamed (record { code = code; objects = os; harts = harts })) (sym f)
    (subst (λ (x : CodeNodes). IsNamed (record { code = x; objects = listed; harts = harts })) (sym e) n)

pub returns-clause-named : goal.returns-clause-named
returns-clause-named c named =
    same c.in_ok-of.field-0 (code_of c.args.procs.now) c.in_ok-of-2.field-0 (objects_of c.args.prefixes.now c.args.objects.now) c.args.harts c.in_ok-of.ensures c.in_ok-of-2.ensures
    (tree_named c.args.procs.now c.args.objects.now c.args.harts c.args.prefixes.now named)

pub returns-clause-low : goal.returns-clause-low
returns-clause-low c n low =
    subst (λ (os : List ObjectNode). AllByRecursion (λ o. o.at < n) os) (sym c.in_ok-of-2.ensures) (objects_low n c.args.prefixes.now c.args.objects.now low)
