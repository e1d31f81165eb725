-- The turns of a hart along words that stand where it comes.
use Rattle.std.proofs.Common.{◌≡◌, ℕ, zero, suc, ◌+◌, List, [], ◌∷◌, ◌++◌, Some, refl, sym, ap, ◌∙◌, subst}
use Rattle.std.specs.FinMap.{get}
use Rattle.std.specs.Prelude.{Bool, true, false, ◌&&◌, ◌==◌, if◌then◌else◌, length, replicate, slice_get, slice_set}
use Rattle.rv_word.specs.Plain.{Words}
use Rattle.tramp_spec.specs.Codes.{Code, fetched_at, is_tool_word, is_text_word}
use Rattle.tramp_spec.specs.Harts.{Hart, Solo, step_of, is_tick}
use Rattle.tramp_spec.specs.declared.mark.MarkedWord.{MarkedWord}
use Rattle.machine.specs.Cores.{Core, Row}
use Rattle.machine.specs.Effects.{owned}
use Rattle.machine.specs.Events.{Event, Turn}
use Rattle.test_examples.specs.FirstTurns.{turns}
use Rattle.machine.specs.Leaving.{is_out_now}
use Rattle.machine.specs.Places.{program_pc}
use Rattle.machine.specs.Replays.{replay, Legal, owns}
use Rattle.machine.specs.States.{leaving}
use Rattle.machine.specs.Turns.{turn, turn_by, ticks_by, put_back, may_turn}
use Rattle.std.proofs.lemmas.Bool.{eqb-true}
use Rattle.machine.proofs.Lists.{AreWordsAt}
use Rattle.machine.proofs.Replaying.{replay-append, owns-append, legal-append}

-- words with their addresses
abbrev pub Trace : Type 0
Trace = List (ℕ × MarkedWord)

abbrev pub placed : ℕ → List MarkedWord → Trace → Trace
placed at [] t = t
placed at (w ∷ ws) t = (at, w) ∷ placed (at + 4) ws t

abbrev pub AllStand : Code → Trace → Type 0
AllStand code [] = Unit {0}
AllStand code (w ∷ ws) = (get code w.0 ≡ Some w.1) × AllStand code ws

pub stand_placed : (code : Code) (at : ℕ) (ws : List MarkedWord) (t : Trace) → AreWordsAt code at ws → AllStand code t → AllStand code (placed at ws t)
stand_placed code at [] t s r = r
stand_placed code at (w ∷ ws) t s r = (s.0, stand_placed code (at + 4) ws t s.1 r)

-- a hart by its number, and all harts of a machine with it
pub record Seat : Type 0 where
  pub number : ℕ
  pub among : Hart → List Hart
  pub found : (x : Hart) → slice_get (among x) number ≡ Some x
  pub set : (x y : Hart) → slice_set (among x) number y ≡ among y

abbrev pub seated : Seat → Words → ℕ → Code → List Row → Solo → Core
seated seat program budget code rows s = record { program = program; budget = budget; harts = seat.among s.hart; prog = s.prog; code = code; rows = rows }

-- a machine of one hart
abbrev alone : Seat
alone = record { number = 0; among = λ x. x ∷ []; found = λ x. refl; set = λ x y. refl }

abbrev pub one : Words → ℕ → Code → List Row → Solo → Core
one program budget code rows s = seated alone program budget code rows s

-- the hart can take a turn, and fetches the word at an address
abbrev pub fits_now : Words → ℕ → ℕ → Hart → Bool
fits_now program budget at x = may_turn (Some x) budget && ((x.pc == at) && (if x.inside then is_tool_word program at else is_text_word program at))

module _ (number : ℕ) (program : Words) (budget : ℕ) (homes : Hart → ℕ) where
  abbrev pub stepped : MarkedWord → Solo → Solo
  stepped w s = step_of (Some w) number (homes s.hart) s

  -- after the words
  abbrev pub traced : Trace → Solo → Solo
  traced [] s = s
  traced (w ∷ ws) s = traced ws (stepped w.1 s)

  -- the hart comes by each of them
  abbrev pub fits : Trace → Solo → Bool
  fits [] s = true
  fits (w ∷ ws) s = fits_now program budget w.0 s.hart && fits ws (stepped w.1 s)

  -- it is inside from the first to the last, and then no more
  abbrev pub leaves : Trace → Solo → Bool
  leaves [] s = is_out_now (Some s.hart)
  leaves (w ∷ ws) s = if is_out_now (Some s.hart) then false else leaves ws (stepped w.1 s)

abbrev tick_on : ℕ → MarkedWord → List ℕ
tick_on number w = if is_tick (Some w) then number ∷ [] else []

abbrev pub ticks_on : ℕ → Trace → List ℕ
ticks_on number [] = []
ticks_on number (w ∷ ws) = tick_on number w.1 ++ ticks_on number ws

-- this many turns and some to spare
abbrev pub more : Trace → ℕ → ℕ
more [] spare = spare
more (w ∷ ws) spare = suc (more ws spare)

-- turns that may be taken, where they lead and their ticks
pub record Run (es : List Event) (c d : Core) (ticks : List ℕ) : Type 0 where
  pub legal : Legal es c
  pub state : replay es c ≡ d
  pub owned_by : owns es c ≡ ticks

pub and_then : {es fs : List Event} {c d e : Core} {ticks more : List ℕ} → Run es c d ticks → Run fs d e more → Run (es ++ fs) c e (ticks ++ more)
and_then {es = es} {fs = fs} {c = c} {d = d} {e = e} {ticks = ticks} r s = record {
  legal = legal-append es fs c r.legal (subst (Legal fs) (sym r.state) s.legal);
  state = replay-append es fs c ∙ (ap (replay fs) r.state ∙ s.state);
  owned_by = owns-append es fs c ∙ (ap (λ z. z ++ owns fs (replay es c)) r.owned_by ∙ ap (λ z. ticks ++ z) (ap (owns fs) r.state ∙ s.owned_by));
}

both : (a b : Bool) → (a && b) ≡ true → (a ≡ true) × (b ≡ true)
both true b e = (refl, e)
both false b e = absurd cc

fetches : (program : Words) (code : Code) (at : ℕ) (inside : Bool) (w : MarkedWord) → (if inside then is_tool_word program at else is_text_word program at) ≡ true → get code at ≡ Some w → fetched_at program code at inside ≡ Some w
fetches program code at true w t e = rw t (rw e refl)
fetches program code at false w t e = rw t e

module _ (seat : Seat) (program : Words) (budget : ℕ) (code : Code) (rows : List Row) where
  abbrev homes : Hart → ℕ
  homes = program_pc code rows

  abbrev h : ℕ
  h = seat.number

  abbrev at : Solo → Core
  at s = seated seat program budget code rows s

  abbrev next : ℕ × MarkedWord → Solo → Solo
  next w s = stepped h program budget homes w.1 s

  fetched_so : (w : ℕ × MarkedWord) (x : Hart) → fits_now program budget w.0 x ≡ true → get code w.0 ≡ Some w.1 → fetched_at program code x.pc x.inside ≡ Some w.1
  fetched_so w x f e =
      let p = both _ _ (both _ _ f).1 in
      let at : x.pc ≡ w.0 = eqb-true x.pc w.0 p.0 in
      subst (λ a. fetched_at program code a x.inside ≡ Some w.1) (sym at) (fetches program code w.0 x.inside w.1 p.1 e)

  turn_so : (w : ℕ × MarkedWord) (s : Solo) → fits_now program budget w.0 s.hart ≡ true → get code w.0 ≡ Some w.1 → turn (at s) h ≡ at (next w s)
  turn_so w s f e =
      ap (λ o. turn_by o (at s) h) (seat.found s.hart)
      ∙ (ap (λ o. put_back (at s) h (step_of o h (homes s.hart) s)) (fetched_so w s.hart f e) ∙ ap (λ xs. record (at (next w s)) { harts = xs }) (seat.set s.hart (next w s).hart))

  owned_so : (w : ℕ × MarkedWord) (s : Solo) → fits_now program budget w.0 s.hart ≡ true → get code w.0 ≡ Some w.1 → owned (at s) (Turn h) ≡ tick_on h w.1
  owned_so w s f e =
      ap (λ o. if ticks_by o (at s) then h ∷ [] else []) (seat.found s.hart) ∙ ap (λ o. if is_tick o then h ∷ [] else []) (fetched_so w s.hart f e)

  -- The hart takes a turn by each word.
  pub follows_seated : (ws : Trace) (s : Solo) → fits h program budget homes ws s ≡ true → AllStand code ws
      → Run (replicate (length ws) (Turn h)) (at s) (at (traced h program budget homes ws s)) (ticks_on h ws)
  follows_seated [] s f e = record { legal = tt; state = refl; owned_by = refl }
  follows_seated (w ∷ ws) s f e =
      let b = both _ _ f in
      let t = turn_so w s b.0 e.0 in
      let more = replicate (length ws) (Turn h) in
      let r = follows_seated ws (next w s) b.1 e.1 in
      record {
        legal = (ap (λ o. may_turn o budget) (seat.found s.hart) ∙ (both _ _ b.0).0, subst (Legal more) (sym t) r.legal);
        state = ap (replay more) t ∙ r.state;
        owned_by = ap (λ z. z ++ owns more (turn (at s) h)) (owned_so w s b.0 e.0) ∙ ap (λ z. tick_on h w.1 ++ z) (ap (owns more) t ∙ r.owned_by);
      }

module _ (program : Words) (budget : ℕ) (code : Code) (rows : List Row) where
  abbrev homes_alone : Hart → ℕ
  homes_alone = program_pc code rows

  -- The same of a machine's one hart.
  pub follows : (ws : Trace) (s : Solo) → fits 0 program budget homes_alone ws s ≡ true → AllStand code ws
      → Run (turns (length ws)) (one program budget code rows s) (one program budget code rows (traced 0 program budget homes_alone ws s)) (ticks_on 0 ws)
  follows ws s f e = follows_seated alone program budget code rows ws s f e

  -- Where it is no more inside after them, these are the turns in which it leaves.
  pub leaving_so : (ws : Trace) (s : Solo) (spare : ℕ) → fits 0 program budget homes_alone ws s ≡ true → AllStand code ws → leaves 0 program budget homes_alone ws s ≡ true
      → leaving (more ws spare) 0 (one program budget code rows s) ≡ turns (length ws)
  leaving_so [] s zero f e l = refl
  leaving_so [] s (suc spare) f e l = ap (λ o. if o then [] else Turn 0 ∷ leaving spare 0 (turn (one program budget code rows s) 0)) l
  leaving_so (w ∷ ws) s spare f e l =
      let b = both _ _ f in
      let p = not_out _ _ l in
      let t = turn_so alone program budget code rows w s b.0 e.0 in
      ap (λ o. if o then [] else Turn 0 ∷ leaving (more ws spare) 0 (turn (one program budget code rows s) 0)) p.0
      ∙ ap (λ z. Turn 0 ∷ z) (ap (leaving (more ws spare) 0) t ∙ leaving_so ws (stepped 0 program budget homes_alone w.1 s) spare b.1 e.1 p.1)
    where
      not_out : (a b : Bool) → (if a then false else b) ≡ true → (a ≡ false) × (b ≡ true)
      not_out true b e = absurd cc
      not_out false b e = (refl, e)
