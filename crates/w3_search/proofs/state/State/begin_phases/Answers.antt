use Rattle.std.proofs.Common.{◌≡◌, ◌∙◌, true, List, drop, sym, ap}
use Rattle.mdl_ast.specs.declared.items.PhaseDecl.{PhaseDecl}
use Rattle.w3_search.specs.Steps.{SearchData, with_next_phase, is_due, with_phases}
use Rattle.w3_search.proofs.Changes.{begins, one_more}
use Rattle.w3_search.proofs.state.State.begin_phases.Goals as goal

pub loop-self-preserved : goal.loop-self-preserved
loop-self-preserved c =
    let v = c.loop-self.self in
    let t = c.args.t in
    let due : is_due t (drop v.present v.rules.phases) ≡ true = sym c.is_due.ensures ∙ c.loop-self-test.true in
    record {
      state = ap (λ (w : SearchData). with_phases t (drop w.present w.rules.phases) w) c.begin_phase.ensures.state
          ∙ ap (λ (ps : List PhaseDecl). with_phases t ps (with_next_phase v)) (sym (one_more v.present v.rules.phases))
          ∙ sym (begins t (drop v.present v.rules.phases) v due)
          ∙ c.loop-self.invariant.state;
      room = c.begin_phase.ensures.room;
    }
