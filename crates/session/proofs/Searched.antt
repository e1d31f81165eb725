-- What the search of a session tells.
use Rattle.std.proofs.Common.{◌≡◌, ◌<◌, ◌≤◌, ◌^◌, Option, Some, None, sym, ap, subst, arith}
use Rattle.std.specs.Prelude.{Bool, List, true, false}
use Rattle.pn_types.specs.declared.quantum.Quantum.{Quantum}
use Rattle.mdl_ast.specs.declared.items.SearchDecl.{SearchDecl}
use Rattle.mdl_check.specs.declared.checked.CheckedWish.{CheckedWish}
use Rattle.session_spec.specs.Costs.{AreWithin, IsWithinLimit}
use Rattle.session_spec.specs.Laws.{AreBarred}
use Rattle.session_spec.proofs.Barring.{bars_told}
use Rattle.session_spec.proofs.Moments.{costs_stay}
use Rattle.session_spec.proofs.Nodes.{verdicts_told}
use Rattle.session_spec.specs.Inputs.{Inputs}
use Rattle.session_spec.specs.Searches.{rules_by, rules_of}
use Rattle.session_spec.specs.States.{SessionState, State}
use Rattle.session_spec.specs.Told.{AreEnded, AreJudged}
use Rattle.session.specs.Given.{HasWindow}
use Rattle.session.specs.Kept.{IsTableAfter}
use Rattle.session.specs.Sessions.{state_at}
use Rattle.session.specs.Tables.{StateTable}
use Rattle.session.proofs.Ends.{at_the_end, before_it, of_both}

some_window : (i : Inputs) (o : Option SearchDecl) → HasWindow o → 1 ≤ (rules_by o i).decl.window
some_window i None w = omega arith
some_window i (Some decl) w = w

module _ (i : Inputs) (quanta : List Quantum) (over : Bool) (later : List CheckedWish) (t : StateTable) (k : IsTableAfter i quanta over later t) where
  window : 1 ≤ (rules_of i).decl.window
  window = some_window i i.checked.search k.given.window

  wide : 1 ≤ i.settings.width
  wide = k.given.settings.width.0

  early : (state_at i quanta over).kept.time < 2 ^ 64
  early =
      let time = ap (λ (x : SessionState). x.time) k.state.kept in
      let most = k.time in
      let few = k.allowed.few in
      omega arith

  pub all_ended : over ≡ true → AreEnded i quanta (state_at i quanta over)
  all_ended e =
      let is = at_the_end i quanta over e in
      subst (AreEnded i quanta) (sym is) (verdicts_told.closes i quanta wide window (subst (λ (x : State). x.kept.time < 2 ^ 64) is early))

  pub all_judged : over ≡ false → AreJudged i (state_at i quanta over)
  all_judged e =
      let is = before_it i quanta over e in
      subst (AreJudged i) (sym is) (verdicts_told.works i quanta wide window (subst (λ (x : State). x.kept.time < 2 ^ 64) is early))

module _ (i : Inputs) (quanta : List Quantum) (over : Bool) where
  pub all_barred : AreBarred i quanta (state_at i quanta over)
  all_barred = of_both i quanta over (AreBarred i quanta) (bars_told.closes i quanta) (bars_told.works i quanta)

  pub all_within : IsWithinLimit i (state_at i quanta over).kept
  all_within = of_both i quanta over (λ (x : State). IsWithinLimit i x.kept) (costs_stay.closes i quanta) (costs_stay.works i quanta)

  pub all_moments : over ≡ false → AreWithin i (state_at i quanta over)
  all_moments e = subst (AreWithin i) (sym (before_it i quanta over e)) (costs_stay.moments i quanta)
