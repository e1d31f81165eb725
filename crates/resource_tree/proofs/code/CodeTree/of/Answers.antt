use Rattle.std.proofs.Common.{ℕ, List, map, subst, sym, ap, ◌∙◌}
use Rattle.std.proofs.lemmas.List.{take_all}
use Rattle.resource_tree.specs.Columns.{AreColumns, code_at}
use Rattle.resource_tree.specs.Foci.{path_of}
use Rattle.resource_tree.specs.Resources.{proc_of}
use Rattle.resource_tree.proofs.Columns.{code_is, columns_of}
use Rattle.resource_tree.proofs.code.CodeTree.of.Goals as goal

pub invariant_of-result : goal.invariant_of-result
invariant_of-result c =
    let all = take_all c.loop-proc.proc-index c.args.procs.now c.loop-proc-test.false in
    let modules = c.loop-proc.invariant.modules ∙ ap (map (λ p. p.«module»)) all in
    let paths = c.loop-proc.invariant.paths ∙ ap (map (λ p. path_of (proc_of p))) all in
    subst (λ (l : List (List ℕ)). AreColumns l c.loop-proc.paths) (sym modules)
    (subst (AreColumns (map (λ p. p.«module») c.args.procs.now)) (sym paths) (columns_of c.args.procs.now c.requires))

pub returns : goal.returns
returns c =
    let all = take_all c.loop-proc.proc-index c.args.procs.now c.loop-proc-test.false in
    let modules = c.loop-proc.invariant.modules ∙ ap (map (λ p. p.«module»)) all in
    let paths = c.loop-proc.invariant.paths ∙ ap (map (λ p. path_of (proc_of p))) all in
    ap (λ (l : List (List ℕ)). code_at l c.loop-proc.paths) modules
    ∙ ap (code_at (map (λ p. p.«module») c.args.procs.now)) paths
    ∙ code_is c.args.procs.now
