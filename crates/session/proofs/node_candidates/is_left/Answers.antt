use Rattle.std.proofs.Common.{◌≡◌, Ok, true, sym, ap, ◌∙◌, subst, arith}
use Rattle.prim_code.specs.Counts.{predicted}
use Rattle.mdl_ast.specs.declared.items.SearchDecl.{SearchDecl}
use Rattle.session_spec.specs.Inputs.{planned}
use Rattle.session_spec.specs.Searches.{rules_of}
use Rattle.session_spec.specs.Tests.{must_wait}
use Rattle.session.proofs.node_candidates.is_left.Goals as goal

pub must_wait-requires : goal.must_wait-requires
must_wait-requires c = let k = c.in-Some.ensures c.args.inputs.now c.requires.known in omega (arith, k.low, c.requires.force)

pub returns-in-Some : goal.returns-in-Some
returns-in-Some c nodes stands metric waits =
    let i = c.args.inputs.now in
    let k = c.in-Some.ensures i c.requires.known in
    let limit : c.from.result ≡ (rules_of i).decl.cost = c.from.ensures ∙ ap (λ (d : SearchDecl). d.cost) c.search_decl.ensures in
    let known : must_wait c.from.result c.in-Some.words c.args.force ≡ true = sym c.must_wait.ensures ∙ waits in
    record {
      node = c.args.node.now;
      stands = stands;
      plan = k.plan;
      planned = subst (λ m. planned i m c.args.node.now.focus ≡ Ok k.plan) metric k.planned;
      waits = subst (λ n. must_wait n (predicted k.plan) c.args.force ≡ true) limit (subst (λ n. must_wait c.from.result n c.args.force ≡ true) (sym k.is) known);
    }
