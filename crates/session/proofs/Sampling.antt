-- What a sample needs lasts while turns are taken.
use Rattle.std.proofs.Common.{◌≡◌, ℕ, ◌+◌, ◌<◌, ◌≤◌, ◌^◌, List, [], ◌∷◌, length, refl, sym, ap, ◌∙◌, subst, arith}
use Rattle.std.specs.List.{AllByRecursion}
use Rattle.pn_types.specs.declared.limits.TheConstants.{MAX_HARTS}
use Rattle.tramp_spec.specs.Harts.{Hart}
use Rattle.machine.specs.Cores.{Core}
use Rattle.machine.specs.Events.{Event}
use Rattle.machine.specs.Quanta.{ticks_in}
use Rattle.machine.specs.Replays.{owns, replay}
use Rattle.machine.proofs.Quanta.{time_goes_on}
use Rattle.instrument.specs.Scenes.{Happens, Hands}
use Rattle.instrumented.specs.Instrumented.{Instrumented, after_act, after_turns}
use Rattle.instrumented.proofs.Acts.{done_is}
use Rattle.session_pairs.specs.SampledPairs.{HasHarts}
use Rattle.session_pairs.proofs.Live.{live_repeated, live_taken}
use Rattle.session.specs.Tables.{CanSample, StateTable, table_handed, table_taken}

core_taken : (es : List Event) (m : Instrumented) → (after_turns es m).core ≡ replay es m.core
core_taken [] m = refl
core_taken (e ∷ es) m = core_taken es (after_act (Happens e) m) ∙ ap (λ (d : Instrumented). replay es d.core) (done_is (Happens e) m)

-- the ticks of turns are time
pub ticks_taken : (es : List Event) (m : Instrumented) → ticks_in (after_turns es m).core.harts ≡ ticks_in m.core.harts + length (owns es m.core)
ticks_taken es m = ap (λ (c : Core). ticks_in c.harts) (core_taken es m) ∙ time_goes_on es m.core

module _ (t new : StateTable) (c : CanSample t) where
  pub can_taken : (es : List Event) → new ≡ table_taken es t → length new.machine.state.core.harts ≡ length t.machine.state.core.harts → CanSample new
  can_taken es is many =
      let same : length (table_taken es t).machine.state.core.harts ≡ length t.machine.state.core.harts = ap (λ (x : StateTable). length x.machine.state.core.harts) (sym is) ∙ many in
      let more = ticks_taken es t.machine.state in
      let ticks = c.ticks in
      subst CanSample (sym is) (record {
        places = c.places ∙ sym same;
        marks = c.marks ∙ sym same;
        harts = subst (λ n. AllByRecursion (HasHarts n) t.pairs) (sym same) c.harts;
        few = c.few;
        number = c.number;
        samples = c.samples;
        most = subst (λ n. n ≤ MAX_HARTS) (sym same) c.most;
        ticks = omega arith;
        live = live_taken t.machine.state t.pairs t.live c.live es;
      })

  pub can_handed : new ≡ table_handed t → new.machine.state.core.harts ≡ t.machine.state.core.harts → CanSample new
  can_handed is harts =
      let all = ap (λ (x : StateTable). x.machine.state.core.harts) (sym is) ∙ harts in
      let same : length (table_handed t).machine.state.core.harts ≡ length t.machine.state.core.harts = ap length all in
      let sum : ticks_in (table_handed t).machine.state.core.harts ≡ ticks_in t.machine.state.core.harts = ap ticks_in all in
      let ticks = c.ticks in
      subst CanSample (sym is) (record {
        places = c.places ∙ sym same;
        marks = c.marks ∙ sym same;
        harts = subst (λ n. AllByRecursion (HasHarts n) t.pairs) (sym same) c.harts;
        few = c.few;
        number = c.number;
        samples = c.samples;
        most = subst (λ n. n ≤ MAX_HARTS) (sym same) c.most;
        ticks = omega arith;
        live = live_repeated t.machine.state t.pairs t.live c.live 8 Hands tt;
      })

-- no hart has more ticks than all together
pub small_harts : (hs : List Hart) (time : ℕ) → ticks_in hs ≤ time → time < 2 ^ 58 → AllByRecursion (λ (x : Hart). x.ticks < 2 ^ 58) hs
small_harts [] time l most = tt
small_harts (h ∷ hs) time l most = (omega arith, small_harts hs time (omega arith) most)
