-- What a person sees of a call.
use Rattle.std.proofs.Common.{◌≡◌, ◌≢◌, inl, inr, ℕ, List, Option, Result, Ok, Err, sym, ap, subst, ◌∙◌, arith}
use Rattle.command_words.specs.Requests.{request_of}
use Rattle.commands.specs.FileReadings.{reads}
use Rattle.commands.specs.declared.texts.Texts.{Texts}
use Rattle.outside.specs.Outside.{Holding}
use Rattle.refusals.specs.Faults.{fault_line, fault_status}
use Rattle.refusals.specs.declared.fault.Fault.{Fault}
use Rattle.refusals.specs.declared.fault.Fault.TheVariants.{Usage, FileFault, BadProgram, BadConf, BadPick, BadLog, TooManyBlocks, BadDirectives, BadReport, BadNewReport, NoProcedure, NoLines, BadLines}
use Rattle.headline.specs.Answers.{status_of, texts_of}
use Rattle.headline.specs.Delivery.{Gained, IsTorn}
use Rattle.headline.specs.Headline.{Tells}
use Rattle.headline.specs.Program.{OwedIsHonest}
use Rattle.headline.specs.Serving.{IsOwed, IsReply, IsUntold, OneOwed}
use Rattle.headline.specs.declared.replying.Reply.{Reply}
use Rattle.headline.proofs.Complete.{AreSinks, IsAnswered, is_call, torn_rises}
use Rattle.pd_run.specs.Screens.{IsAnswerCut, IsAnswerShown, AreSpared, HaveFailed, IsShownCall, Seen, Sinks, sink_seen}

-- ---- statuses

-- a fault's status is no other meaning's
record IsOfFault (status : ℕ) : Type 0 where
  some : status ≢ 0
  whole : status ≢ 7
  told : status ≢ 8

fault_is : (fault : Fault) → IsOfFault (fault_status fault)
fault_is Usage = record { some = λ e. omega arith; whole = λ e. omega arith; told = λ e. omega arith }
fault_is (FileFault name) = record { some = λ e. omega arith; whole = λ e. omega arith; told = λ e. omega arith }
fault_is (BadProgram fault) = record { some = λ e. omega arith; whole = λ e. omega arith; told = λ e. omega arith }
fault_is (BadConf fault) = record { some = λ e. omega arith; whole = λ e. omega arith; told = λ e. omega arith }
fault_is (BadPick metric focus cause) = record { some = λ e. omega arith; whole = λ e. omega arith; told = λ e. omega arith }
fault_is (BadLog place cause) = record { some = λ e. omega arith; whole = λ e. omega arith; told = λ e. omega arith }
fault_is (TooManyBlocks count) = record { some = λ e. omega arith; whole = λ e. omega arith; told = λ e. omega arith }
fault_is (BadDirectives fault) = record { some = λ e. omega arith; whole = λ e. omega arith; told = λ e. omega arith }
fault_is (BadReport place) = record { some = λ e. omega arith; whole = λ e. omega arith; told = λ e. omega arith }
fault_is (BadNewReport place) = record { some = λ e. omega arith; whole = λ e. omega arith; told = λ e. omega arith }
fault_is (NoProcedure name) = record { some = λ e. omega arith; whole = λ e. omega arith; told = λ e. omega arith }
fault_is NoLines = record { some = λ e. omega arith; whole = λ e. omega arith; told = λ e. omega arith }
fault_is (BadLines place) = record { some = λ e. omega arith; whole = λ e. omega arith; told = λ e. omega arith }

-- ---- sinks

module _ {K : Type 0} (has : K → Option (List ℕ)) (faults : K → ℕ) (old new : K) where
  pub gained_seen : (bytes : List ℕ) → Gained has faults old new bytes → Gained (λ (s : Seen). s.has) (λ (s : Seen). s.faults) (sink_seen has faults old) (sink_seen has faults new) bytes
  gained_seen bytes g = record { gained = g.gained; calm = g.calm }

  pub torn_seen : (bytes : List ℕ) → IsTorn has faults old new bytes → IsTorn (λ (s : Seen). s.has) (λ (s : Seen). s.faults) (sink_seen has faults old) (sink_seen has faults new) bytes
  torn_seen bytes t = record { count = t.count; less = t.less; gained = t.gained; cause = t.cause }

  pub same_seen : new ≡ old → sink_seen has faults new ≡ sink_seen has faults old
  same_seen e = ap (λ (k : K). sink_seen has faults k) e

module _ (before after : Sinks) where
  cut_fails : (answer : Result Texts Fault) → IsAnswerCut before after answer → AreSpared before after → ⊥
  cut_fails (Ok texts) (inl t, quiet) spared = torn_rises (λ (s : Seen). s.has) (λ (s : Seen). s.faults) before.log after.log texts.log t.1 spared.1
  cut_fails (Ok texts) (inr t, quiet) spared = torn_rises (λ (s : Seen). s.has) (λ (s : Seen). s.faults) before.out after.out texts.out t.1 spared.0
  cut_fails (Err fault) (t, out, log) spared = torn_rises (λ (s : Seen). s.has) (λ (s : Seen). s.faults) before.err after.err (fault_line fault) t spared.2

  none_failed : after.out.faults ≡ before.out.faults → after.log.faults ≡ before.log.faults → after.err.faults ≡ before.err.faults → HaveFailed before after → ⊥
  none_failed out log err (inl rises) = rises out
  none_failed out log err (inr (inl rises)) = rises log
  none_failed out log err (inr (inr rises)) = rises err

  shown_calm : (answer : Result Texts Fault) → IsAnswerShown before after answer → HaveFailed before after → ⊥
  shown_calm (Ok texts) ((out, log), quiet) = none_failed out.calm log.calm (ap (λ (s : Seen). s.faults) quiet)
  shown_calm (Err fault) (err, out, log) = none_failed (ap (λ (s : Seen). s.faults) out) (ap (λ (s : Seen). s.faults) log) err.calm

  untouched_calm : after ≡ before → HaveFailed before after → ⊥
  untouched_calm e = none_failed (ap (λ (s : Sinks). s.out.faults) e) (ap (λ (s : Sinks). s.log.faults) e) (ap (λ (s : Sinks). s.err.faults) e)

-- ---- the call

module _ {F : Type 0} (holds : F → List ℕ → Holding) (faults : F → List ℕ → ℕ) (old new : F) (words : List (List ℕ)) (before after : Sinks) (given : Texts) (status : ℕ)
    (one : OneOwed holds faults) where
  abbrev Gave : Result Texts Fault → Type 0
  Gave answer = IsAnswerShown before after answer × (given ≡ texts_of answer)

  abbrev Answered : Type 0
  Answered = IsAnswered holds faults old new words Gave (IsAnswerCut before after) (after ≡ before) (AreSpared before after) (HaveFailed before after) status

  sinks : AreSinks Gave (IsAnswerCut before after) (after ≡ before) (AreSpared before after) (HaveFailed before after)
  sinks = record {
    torn = cut_fails before after;
    given = λ answer gave. shown_calm before after answer gave.0;
    alone = untouched_calm before after;
  }

  -- a reply was shown
  module _ (reply : Reply) (answer : Result Texts Fault) (owed : IsOwed holds faults old new words answer) (is : IsReply answer reply) (same : given ≡ reply.texts)
      (shown : status ≢ 7 → (status ≡ status_of answer) × IsAnswerShown before after answer) (cut : status ≡ 7 → IsAnswerCut before after answer) where
    gave : status ≢ 7 → Gave answer
    gave other = ((shown other).1, same ∙ is.texts)

    not_eight : (x : Result Texts Fault) → status_of x ≢ 8
    not_eight (Ok texts) e = omega arith
    not_eight (Err fault) e = (fault_is fault).told e

    answered : Answered
    answered = record {
      answered = λ other sound. (answer, owed, (shown other).0, gave other);
      torn = λ seven. (answer, owed, cut seven);
      memory = λ eight. absurd (not_eight answer (sym (shown (λ seven. omega (arith, eight, seven))).0 ∙ eight));
    }

    told : OwedIsHonest holds faults → status ≡ 0 → IsAnswerShown before after (Ok given) × Tells (request_of words) (reads (holds old) (faults old) (faults new)) given
    told honest zero =
        let s = shown (λ seven. omega (arith, zero, seven)) in
        by answer owed s.0 s.1 (same ∙ is.texts)
      where
        by : (x : Result Texts Fault) → IsOwed holds faults old new words x → status ≡ status_of x → IsAnswerShown before after x → given ≡ texts_of x
            → IsAnswerShown before after (Ok given) × Tells (request_of words) (reads (holds old) (faults old) (faults new)) given
        by (Ok texts) o e a same =
            subst (λ (t : Texts). IsAnswerShown before after (Ok t) × Tells (request_of words) (reads (holds old) (faults old) (faults new)) t) (sym same) (a, honest old new words texts o)
        by (Err fault) o e a same = absurd ((fault_is fault).some (sym e ∙ zero))

    pub reply_shown : OwedIsHonest holds faults → IsShownCall holds faults old new words before after given status
    reply_shown honest = record {
      served = is_call holds faults old new words Gave (IsAnswerCut before after) (after ≡ before) (AreSpared before after) (HaveFailed before after) status sinks answered one;
      told = told honest;
    }

  -- memory ran out
  pub none_shown : IsUntold holds faults old new words → after ≡ before → status ≡ 8 → IsShownCall holds faults old new words before after given status
  none_shown untold same eight =
      let a : Answered = record {
        answered = λ other sound. absurd (sound eight);
        torn = λ seven. absurd (let no : status ≡ 7 = seven in omega (arith, eight, no));
        memory = λ e. (same, untold);
      } in
      record {
        served = is_call holds faults old new words Gave (IsAnswerCut before after) (after ≡ before) (AreSpared before after) (HaveFailed before after) status sinks a one;
        told = λ zero. absurd (let no : status ≡ 0 = zero in omega (arith, eight, no));
      }
