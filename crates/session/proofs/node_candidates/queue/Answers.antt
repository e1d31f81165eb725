use Rattle.std.proofs.Common.{◌≡◌, ℕ, List, [], sym, ap, ◌∙◌, arith}
use Rattle.std.specs.Prelude.{cond, false, nat_lt, take}
use Rattle.std.proofs.lemmas.Bool.{le-ltb}
use Rattle.mdl_ast.specs.declared.items.SearchDecl.{SearchDecl}
use Rattle.w3_search.specs.Nodes.{waiting_of}
use Rattle.session_spec.specs.Searches.{rules_of}
use Rattle.session.proofs.Counting.{take_all, take_many}
use Rattle.session.proofs.node_candidates.queue.Goals as goal

pub returns-then-waiting-le-TAKEN_AT_ONCE : goal.returns-then-waiting-le-TAKEN_AT_ONCE
returns-then-waiting-le-TAKEN_AT_ONCE c =
    let limit : c.from.result ≡ (rules_of c.args.inputs.now).decl.observed = c.from.ensures ∙ ap (λ (d : SearchDecl). d.observed) c.search_decl.ensures in
    let low : nat_lt (rules_of c.args.inputs.now).decl.observed c.args.observed ≡ false =
    ap (λ (n : ℕ). nat_lt n c.args.observed) (sym limit) ∙ le-ltb c.from.result c.args.observed c.if-from-observed.false in
    let waiting = c.waiting-waiting.ensures.waiting in
    sym (take_all c.waiting-waiting.result.now 64 c.if-waiting-le-TAKEN_AT_ONCE.true)
    ∙ (ap (take 64) waiting ∙ sym (ap (λ b. cond {A = List ℕ} b [] (take 64 (waiting_of c.args.search.now.nodes))) low))

pub slice_bounds-result-end-2 : goal.slice_bounds-result-end-2
slice_bounds-result-end-2 c = take_many 64 c.waiting-waiting.result.now (let l = c.if-waiting-le-TAKEN_AT_ONCE.false in omega arith)
