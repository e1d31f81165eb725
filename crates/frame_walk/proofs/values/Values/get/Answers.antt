use Rattle.std.proofs.Common.{◌≡◌, ◌+◌, ◌^◌, ◌<◌, length, get_or, rules, ap, ◌∙◌, sym, subst, arith}
use Rattle.std.specs.Prelude.{slice_index}
use Rattle.frame_walk.specs.Changes.{Acting, last_of}
use Rattle.frame_walk.proofs.Changing.{value_here, value_past, last_small}
use Rattle.frame_walk.proofs.values.Values.get.Goals as goal

pub returns-then-variable-self-clause-is : goal.returns-then-variable-self-clause-is
returns-then-variable-self-clause-is c =
    let r = c.index-self-variable.result in
    let vars = c.self.inside.vars.now in
    c.last_of.ensures ∙ (ap (last_of c.args.variable (get_or vars c.args.variable r).initially) c.as_slice.ensures
    ∙ (value_here c.self.inside.changes vars c.args.variable r c.if-variable-self.true
    ∙ ap (λ (a : Acting). slice_index a.values c.args.variable) c.self.view_is))

pub returns-then-variable-self-clause-small : goal.returns-then-variable-self-clause-small
returns-then-variable-self-clause-small c =
    let cs = c.self.inside.changes in
    let x = (get_or c.self.inside.vars.now c.args.variable c.index-self-variable.result).initially in
    let low : x < 2 ^ 32 = search rules in
    let e : c.last_of.result ≡ last_of c.args.variable x cs = c.last_of.ensures ∙ ap (last_of c.args.variable x) c.as_slice.ensures in
    let n : length cs ≡ c.args.self.now.acts = ap (λ (a : Acting). a.acts) c.self.view_is in
    subst (λ m. c.last_of.result < 2 ^ 32 + m) n
    (subst (λ z. z < 2 ^ 32 + length cs) (sym e) (last_small (length cs) c.args.variable x cs (omega arith) c.self.invariant))

pub returns-else-variable-self-clause-is : goal.returns-else-variable-self-clause-is
returns-else-variable-self-clause-is c =
    value_past c.self.inside.changes c.self.inside.vars.now c.args.variable (search rules) ∙ ap (λ (a : Acting). slice_index a.values c.args.variable) c.self.view_is
