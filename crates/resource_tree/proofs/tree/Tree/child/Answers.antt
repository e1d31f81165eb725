use Rattle.std.proofs.Common.{ℕ, length, slice_get, sym, subst, ap, ◌∙◌}
use Rattle.resource_tree.specs.Foci.{IsFocusOf, flat_children}
use Rattle.resource_tree.specs.Resources.{Resources}
use Rattle.resource_tree.proofs.InTree.{code_child_in, flat_child_in}
use Rattle.resource_tree.proofs.tree.Tree.child.Goals as goal
use Rattle.resource_tree.proofs.tree.Tree.child.Goals.{in-Code+in_ok-child-in-Code, in-Machine+in_ok-child-in-Machine, in-SyncObject+in_ok-child-in-SyncObject}

pub returns-clause-in_tree : goal.returns-clause-in_tree
returns-clause-in_tree c f =
    let t : Resources = record { code = c.self.inside.code; objects = c.self.inside.objects; harts = c.self.inside.harts } in
    let i : IsFocusOf t c.args.focus.now = subst (λ (x : Resources). IsFocusOf x c.args.focus.now) (sym c.self.view_is) f in
    let in_tree : IsFocusOf t c.match-axis.child = elim c.match-axis.branch [
      | in-Code+in_ok-child-in-Code w ↦
          subst (IsFocusOf t) (sym w.child-is) (record {
            code = code_child_in t.code c.args.focus.now.code c.args.number w.in_ok-child-in-Code.field-0 c.self.invariant.members (sym w.code_child.ensures ∙ w.in_ok-child-in-Code.was);
            hart = i.hart;
            object = i.object;
          })
      | in-Machine+in_ok-child-in-Machine w ↦
          subst (IsFocusOf t) (sym w.child-is) (record {
            code = i.code;
            hart = flat_child_in t.harts c.args.focus.now.hart c.args.number w.in_ok-child-in-Machine.field-0 (sym w.hart_child.ensures ∙ w.in_ok-child-in-Machine.was);
            object = i.object;
          })
      | in-SyncObject+in_ok-child-in-SyncObject w ↦
          let e = ap (λ (n : ℕ). slice_get (flat_children n c.args.focus.now.object) c.args.number) w.len.ensures in
          subst (IsFocusOf t) (sym w.child-is) (record {
            code = i.code;
            hart = i.hart;
            object = flat_child_in (length t.objects) c.args.focus.now.object c.args.number w.in_ok-child-in-SyncObject.field-0 (sym e ∙ sym w.object_child.ensures ∙ w.in_ok-child-in-SyncObject.was);
          })
    ] in
    subst (λ (x : Resources). IsFocusOf x c.match-axis.child) c.self.view_is in_tree
