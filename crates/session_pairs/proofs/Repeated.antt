-- An act that is done some times more.
use Rattle.std.proofs.Common.{◌≡◌, ℕ, zero, suc, ◌+◌, ◌-◌, ◌<◌, Option, None, List, [], ◌∷◌, length, refl, sym, ap, ap₂, ◌∙◌, arith}
use Rattle.instrument.specs.Needs.{Need}
use Rattle.instrument.specs.Placements.{first_of}
use Rattle.instrument.specs.Scenes.{Act, Hands, hands}
use Rattle.instrument.specs.declared.entry.Entry.{Entry}
use Rattle.instrumented.specs.Data.{InstrumentedData}
use Rattle.instrumented.specs.Instrumented.{Instrumented, after_act, in_scene, repeated, scene_of}

pub once_more : (a : Act) (count counter : ℕ) (d new : InstrumentedData) → counter < count → new ≡ record d { state = after_act a d.state } → repeated (count - (counter + 1)) a new.state ≡ repeated (count - counter) a d.state
once_more a count counter d new l e =
    let one : count - counter ≡ suc (count - (counter + 1)) = omega arith in
    ap (λ (x : InstrumentedData). repeated (count - (counter + 1)) a x.state) e ∙ sym (ap (λ n. repeated n a d.state) one)

-- an act that changes nothing may as well be done any number of times
unchanged : (a : Act) (n : ℕ) (m : Instrumented) → after_act a m ≡ m → repeated n a m ≡ m
unchanged a zero m e = refl
unchanged a (suc n) m e = ap (repeated n a) e ∙ unchanged a n m e

abbrev with_ready : Instrumented → List Need → InstrumentedData
with_ready state ready = record { state = state; ready = ready }

-- it was done some of a number of times, and now changed nothing
pub none_more : (a : Act) (count left : ℕ) (first d new : InstrumentedData) → new ≡ record d { state = after_act a d.state } → new ≡ d → repeated left a d.state ≡ repeated count a first.state → d.ready ≡ first.ready
    → new ≡ record first { state = repeated count a first.state }
none_more a count left first d new e same coming ready =
    let still : after_act a d.state ≡ d.state = ap (λ (x : InstrumentedData). x.state) (sym e ∙ same) in
    same ∙ ap₂ with_ready (sym (unchanged a left d.state still) ∙ coming) ready

-- ---- an empty agenda

no_first : (l : List Entry) → length l ≡ 0 → first_of l ≡ None
no_first [] e = refl
no_first (x ∷ l) e = absurd (omega arith)

hands_none : (m : Instrumented) → length m.placer.book.agenda ≡ 0 → after_act Hands m ≡ m
unfolding after_act
hands_none m e = ap (λ (o : Option Entry). in_scene (hands o (scene_of m)).scene) (no_first m.placer.book.agenda e)

-- nothing is handed out of it
pub hands_nothing : (count : ℕ) (d : InstrumentedData) → length d.state.placer.book.agenda ≡ 0 → d ≡ record d { state = repeated count Hands d.state }
hands_nothing count d e = ap (λ (s : Instrumented). with_ready s d.ready) (sym (unchanged Hands count d.state (hands_none d.state e)))
