-- Words of the program that a hart runs one after another.
use Rattle.std.proofs.Common.{◌≡◌, ℕ, zero, suc, ◌+◌, ◌<◌, ◌≤◌, arith, inr, List, Option, Some, None, refl, sym, ap, ◌∙◌, subst, ◌*◌, ◌^◌, length, get_or}
use Rattle.std.specs.Prelude.{false, IsTrue}
use Rattle.std.proofs.lemmas.Grind.{common_steps}
use Rattle.rv_word.specs.Exec.{Prog, Outcome, Stops, Goes, done_of_outcome, exec_decoded, exec_of}
use Rattle.rv_word.specs.Table.{decode_of}
use Rattle.rv_word.specs.Values.{wrap}
use Rattle.rv_word.specs.declared.instr.Instr.{Instr}
use Rattle.rv_word.specs.declared.outcome.Cause.{Cause}
use Rattle.rv_exec.specs.Flat.{instr_of, CanRunFlat}
use Rattle.rv_exec.proofs.Flats.{goes_as}
use Rattle.rv_exec.specs.declared.flat.Flat.{Flat}
use Rattle.tramp_spec.specs.Codes.{fetched_at}
use Rattle.tramp_spec.specs.Harts.{Hart, Solo, own_step, marked_step, step_of}
use Rattle.tramp_spec.specs.declared.mark.Mark.{Mark}
use Rattle.tramp_spec.specs.declared.mark.Mark.TheVariants.{Own, Enter, Tool, Leave}
use Rattle.tramp_spec.specs.declared.mark.MarkedWord.{MarkedWord}
use Rattle.code_store.specs.Operations.{IsFlatAt, IsFlatBy}
use Rattle.code_store.specs.Stores.{StoredCode}
use Rattle.code_store.specs.Views.{at_place}
use Rattle.code_store.proofs.Flats.{at_there}
use Rattle.machine.specs.Alone.{alone_of, may_alone, turned_alone, TurnsLead}
use Rattle.machine.specs.declared.turning.Progress.{Progress}
use Rattle.machine.proofs.Alone.{alone_may}
use Rattle.machine.specs.Stretches.{Left, left_as, ran, HasOwn, AreRun}

-- where a hart is
abbrev pub left : ℕ → Option Cause → List ℕ → Prog → Left
left pc stop regs p = record { pc = pc; stop = stop; regs = regs; prog = p }

-- ---- a word of the list of flats

-- what the word does in the program, where its instruction lets the hart go on
does_so : (h : ℕ) (i : Option Instr) (at : ℕ) (regs : List ℕ) (p : Prog) (pc : ℕ) (new_regs : List ℕ) (new_p : Prog) → exec_decoded i at h regs p ≡ Goes pc new_regs new_p → left pc None new_regs new_p ≡ ran h i at regs p
does_so h i at regs p pc new_regs new_p e = sym (ap (λ o. left_as (done_of_outcome o regs) at) e)

no_word_goes : (h : ℕ) (i : Option Instr) (at : ℕ) (regs : List ℕ) (p : Prog) (pc : ℕ) (new_regs : List ℕ) (new_p : Prog) → i ≡ None → exec_decoded i at h regs p ≡ Goes pc new_regs new_p → ⊥
no_word_goes h None at regs p pc new_regs new_p none e = cc
no_word_goes h (Some i) at regs p pc new_regs new_p none e = cc

own_by : (m : Mark) (j : Option Instr) (flat : Flat) (h at : ℕ) (regs : List ℕ) (p : Prog) (pc : ℕ) (new_regs : List ℕ) (new_p : Prog) → IsFlatBy m j flat → exec_decoded (instr_of flat) at h regs p ≡ Goes pc new_regs new_p → (m ≡ Own) × (left pc None new_regs new_p ≡ ran h j at regs p)
own_by Own j flat h at regs p pc new_regs new_p is e = (refl, does_so h j at regs p pc new_regs new_p (goes_as flat j at h regs p pc new_regs new_p is e))
own_by Enter j flat h at regs p pc new_regs new_p is e = absurd (no_word_goes h (instr_of flat) at regs p pc new_regs new_p is.0 e)
own_by Tool j flat h at regs p pc new_regs new_p is e = absurd (no_word_goes h (instr_of flat) at regs p pc new_regs new_p is.0 e)
own_by Leave j flat h at regs p pc new_regs new_p is e = absurd (no_word_goes h (instr_of flat) at regs p pc new_regs new_p is.0 e)

-- a word after which the hart goes on by the list is one of the program
pub own_word : (w : Option MarkedWord) (flat : Flat) (h at : ℕ) (regs : List ℕ) (p : Prog) (pc : ℕ) (new_regs : List ℕ) (new_p : Prog) → IsFlatAt w (Some flat) → exec_decoded (instr_of flat) at h regs p ≡ Goes pc new_regs new_p
    → HasOwn w (λ j. left pc None new_regs new_p ≡ ran h j at regs p)
own_word None flat h at regs p pc new_regs new_p is e = absurd is
own_word (Some w) flat h at regs p pc new_regs new_p is e = own_by w.mark (decode_of w.word) flat h at regs p pc new_regs new_p is e

fits_by : (m : Mark) (j : Option Instr) (flat : Flat) → IsFlatBy m j flat → CanRunFlat flat
fits_by Own j flat is = is.can_run
fits_by Enter j flat is = is.1
fits_by Tool j flat is = is.1
fits_by Leave j flat is = is.1

-- its numbers fit
pub fits : (w : Option MarkedWord) (flat : Flat) → IsFlatAt w (Some flat) → CanRunFlat flat
fits None flat is = absurd is
fits (Some w) flat is = fits_by w.mark (decode_of w.word) flat is

-- what is fetched at a place of the list
pub flat_there : (s : StoredCode) (first : ℕ) (flats : List Flat) (at place : ℕ) (d : Flat) → ((q : ℕ) → IsFlatAt (fetched_at s.program s.code q false) (at_place first flats q)) → first + 4 * length flats < 2 ^ 64 → place < length flats → at ≡ wrap (first + 4 * place)
    → IsFlatAt (fetched_at s.program s.code at false) (Some (get_or flats place d))
flat_there s first flats at place d all ends below here =
    let e : at ≡ first + 4 * place = omega (arith, here) in
    subst (λ o. IsFlatAt (fetched_at s.program s.code at false) o) (sym (at_there first flats at place d below e)) (all at)

-- ---- one word after another

-- one word more
pub run_more : (s : StoredCode) (h n : ℕ) (x y z : Left) → AreRun s h n x y → y.stop ≡ None → HasOwn (fetched_at s.program s.code y.pc false) (λ j. z ≡ ran h j y.pc y.regs y.prog) → AreRun s h (n + 1) x z
run_more s h zero x y z r none own = subst (λ v. AreRun s h 1 v z) r (none, own)
run_more s h (suc n) x y z r none own =
    let count : suc (n + 1) ≡ suc n + 1 = omega arith in
    subst (λ k. AreRun s h k x z) count (r.0, on (fetched_at s.program s.code x.pc false) (λ j o. run_more s h n (ran h j x.pc x.regs x.prog) y z o none own) r.1)
  where
    on : (w : Option MarkedWord) → ((j : Option Instr) → AreRun s h n (ran h j x.pc x.regs x.prog) y → AreRun s h (n + 1) (ran h j x.pc x.regs x.prog) z) → HasOwn w (λ j. AreRun s h n (ran h j x.pc x.regs x.prog) y) → HasOwn w (λ j. AreRun s h (n + 1) (ran h j x.pc x.regs x.prog) z)
    on None more o = absurd o
    on (Some w) more o = (o.0, more (decode_of w.word) o.1)

-- ---- the same as turns of the hart

abbrev standing : ℕ → List ℕ → ℕ → List ℕ → Prog → Solo
standing pc regs ticks bank p = record { hart = record { pc = pc; regs = regs; ticks = ticks; stop = None; inside = false; bank = bank }; prog = p }

abbrev pub left_standing : ℕ → List ℕ → Left → Solo
left_standing ticks bank z = record { hart = record { pc = z.pc; regs = z.regs; ticks = ticks; stop = z.stop; inside = false; bank = bank }; prog = z.prog }

own_leaves : (o : Outcome) (word pc : ℕ) (regs : List ℕ) (ticks : ℕ) (bank : List ℕ) (p : Prog) → own_step (done_of_outcome o regs) word pc (standing pc regs ticks bank p).hart ≡ left_standing (ticks + 1) bank (left_as (done_of_outcome o regs) pc)
own_leaves (Stops cause q) word pc regs ticks bank p = refl
own_leaves (Goes at others q) word pc regs ticks bank p = refl

marked_leaves : (h : ℕ) (m : Mark) (word : ℕ) (i : Option Instr) (pc : ℕ) (regs : List ℕ) (ticks : ℕ) (bank : List ℕ) (p : Prog) → m ≡ Own → decode_of word ≡ i → marked_step m word h pc (standing pc regs ticks bank p) ≡ left_standing (ticks + 1) bank (ran h i pc regs p)
marked_leaves h Own word i pc regs ticks bank p e d = own_leaves (exec_of word pc h regs p) word pc regs ticks bank p ∙ ap (λ j. left_standing (ticks + 1) bank (ran h j pc regs p)) d
marked_leaves h Enter word i pc regs ticks bank p e d = absurd cc
marked_leaves h Tool word i pc regs ticks bank p e d = absurd cc
marked_leaves h Leave word i pc regs ticks bank p e d = absurd cc

step_leaves : (h : ℕ) (w : Option MarkedWord) (i : Option Instr) (pc : ℕ) (regs : List ℕ) (ticks : ℕ) (bank : List ℕ) (p : Prog) → HasOwn w (λ j. j ≡ i) → step_of w h pc (standing pc regs ticks bank p) ≡ left_standing (ticks + 1) bank (ran h i pc regs p)
step_leaves h None i pc regs ticks bank p o = absurd o
step_leaves h (Some w) i pc regs ticks bank p o = marked_leaves h w.mark w.word i pc regs ticks bank p o.0 o.1

module _ (s : StoredCode) (h budget : ℕ) (bank : List ℕ) (z : Left) where
  may : (x : Left) (ticks n : ℕ) → x.stop ≡ None → ticks + suc n ≤ budget → IsTrue (may_alone budget (left_standing ticks bank x))
  may x ticks n none l = let low : ticks < budget = omega arith in alone_may (record { pc = x.pc; ticks = ticks; inside = false }) (left_standing ticks bank x).hart x.prog budget none (inr low)

  -- a hart that isn't stopped stands as it is left
  stands : (x : Left) (ticks : ℕ) → x.stop ≡ None → left_standing ticks bank x ≡ standing x.pc x.regs ticks bank x.prog
  stands x ticks none = ap (λ o. left_standing ticks bank (left x.pc o x.regs x.prog)) none

  turned : (x : Left) (ticks : ℕ) (i : Option Instr) → x.stop ≡ None → HasOwn (fetched_at s.program s.code x.pc false) (λ j. j ≡ i) → turned_alone s h (left_standing ticks bank x) ≡ left_standing (ticks + 1) bank (ran h i x.pc x.regs x.prog)
  turned x ticks i none own = ap (turned_alone s h) (stands x ticks none) ∙ step_leaves h (fetched_at s.program s.code x.pc false) i x.pc x.regs ticks bank x.prog own

  -- words that are run are turns
  pub are_turns : (n ticks : ℕ) (x : Left) → AreRun s h n x z → ticks + n ≤ budget → TurnsLead s budget h n (left_standing ticks bank x) (left_standing (ticks + n) bank z)
  are_turns zero ticks x r l = let e : ticks + 0 ≡ ticks = omega arith in ap (λ k. left_standing k bank z) e ∙ ap (left_standing ticks bank) r
  are_turns (suc n) ticks x r l = (may x ticks n r.0 l, by (fetched_at s.program s.code x.pc false) refl (λ i o. are_turns n (ticks + 1) (ran h i x.pc x.regs x.prog) o (omega arith)) r.1)
    where
      by : (w : Option MarkedWord) → w ≡ fetched_at s.program s.code x.pc false → ((i : Option Instr) → AreRun s h n (ran h i x.pc x.regs x.prog) z → TurnsLead s budget h n (left_standing (ticks + 1) bank (ran h i x.pc x.regs x.prog)) (left_standing (ticks + 1 + n) bank z))
          → HasOwn w (λ j. AreRun s h n (ran h j x.pc x.regs x.prog) z) → TurnsLead s budget h n (turned_alone s h (left_standing ticks bank x)) (left_standing (ticks + suc n) bank z)
      by None e rest o = absurd o
      by (Some w) e rest o =
          let i = decode_of w.word in
          let own : HasOwn (fetched_at s.program s.code x.pc false) (λ j. j ≡ i) = subst (λ v. HasOwn v (λ j. j ≡ i)) e (o.0, refl) in
          let count : ticks + 1 + n ≡ ticks + suc n = omega arith in
          subst (λ k. TurnsLead s budget h n (turned_alone s h (left_standing ticks bank x)) (left_standing k bank z)) count
          (subst (λ v. TurnsLead s budget h n v (left_standing (ticks + 1 + n) bank z)) (sym (turned x ticks i r.0 own)) (rest i o.1))

-- a hart that can take a turn isn't stopped, and outside it has ticks left
pub outside_below : (a : Progress) (x : Hart) (p : Prog) (budget : ℕ) → IsTrue (may_alone budget (alone_of a x p))
    → (x.stop ≡ None) × (a.inside ≡ false → a.ticks < budget)
outside_below a x p budget m = by x.stop m
  where
    by : (stop : Option Cause) → IsTrue (may_alone budget (alone_of a (record x { stop = stop }) p))
        → (stop ≡ None) × (a.inside ≡ false → a.ticks < budget)
    by None may = (refl, λ out. grind (arith, common_steps))
    by (Some cause) may = absurd cc
