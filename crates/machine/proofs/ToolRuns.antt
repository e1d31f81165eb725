-- Words of the tool that a hart runs one after another.
use Rattle.std.proofs.Common.{◌≡◌, ℕ, ℤ, zero, suc, ◌+◌, ◌*◌, ◌<◌, ◌^◌, arith, List, length, get_or, Option, Some, None, Ok, refl, sym, ap, ◌∙◌, subst, IfSome}
use Rattle.std.specs.Prelude.{Bool, true, false}
use Rattle.std.proofs.lemmas.List.{get_or_default}
use Rattle.rv_word.specs.Exec.{Prog, Goes, done_of_outcome, exec_decoded}
use Rattle.rv_word.specs.Table.{decode_of}
use Rattle.rv_word.specs.Values.{wrap}
use Rattle.rv_word.specs.declared.instr.Instr.{Instr}
use Rattle.rv_exec.specs.Flat.{instr_of, CanRunFlat, IsFlatOf}
use Rattle.rv_exec.specs.declared.flat.Flat.{Flat}
use Rattle.rv_exec.specs.declared.flat.Flat.TheVariants as flats
use Rattle.rv_exec.proofs.Flats.{goes_as}
use Rattle.tramp_spec.specs.Banks.{bank_len}
use Rattle.tramp_spec.specs.Codes.{fetched_at}
use Rattle.tramp_spec.specs.Harts.{Solo, marked_step, other_hart, step_of}
use Rattle.tramp_spec.specs.Marks.{tool}
use Rattle.tramp_spec.specs.Steps.{Stood, step_decoded, step_on}
use Rattle.tramp_spec.specs.declared.mark.Mark.{Mark}
use Rattle.tramp_spec.specs.declared.mark.Mark.TheVariants.{Own, Enter, Tool, Leave}
use Rattle.tramp_spec.specs.declared.mark.MarkedWord.{MarkedWord}
use Rattle.code_store.specs.Operations.{IsToolFlatBy, RunsAlike, StepsBy, done_as, is_access}
use Rattle.code_store.specs.Stores.{StoredCode}
use Rattle.machine.specs.Alone.{turned_alone, TurnsLead}
use Rattle.machine.specs.Performing.{bench_from, home_in_store}
use Rattle.machine.specs.ToolRuns.{AreToolRun, HasTool, stood_at}

-- ---- a word whose flat accesses no memory

other_steps : (i : Option Instr) (f : Flat) → is_access f ≡ false → StepsBy i f → IsFlatOf i f × IfSome (instr_of f) (λ j. RunsAlike bank_len i)
other_steps i (flats.Ld rd rs1 imm) none s = absurd cc
other_steps i (flats.Sd rs1 rs2 imm) none s = absurd cc
other_steps i f none s = (s.1, s.2)

rest_can_run : CanRunFlat flats.Rest
rest_can_run = record { word = tt; result = tt }

other_fits_by : (m : Mark) (i : Option Instr) (f : Flat) → is_access f ≡ false → IsToolFlatBy m i f → CanRunFlat f
other_fits_by Tool i f none s = (other_steps i f none s).0.can_run
other_fits_by Own i f none s = subst CanRunFlat (sym s) rest_can_run
other_fits_by Enter i f none s = subst CanRunFlat (sym s) rest_can_run
other_fits_by Leave i f none s = subst CanRunFlat (sym s) rest_can_run

pub other_fits : (w : MarkedWord) (f : Flat) → is_access f ≡ false → IsToolFlatBy w.mark (decode_of w.word) f → CanRunFlat f
other_fits w f none s = other_fits_by w.mark (decode_of w.word) f none s

rest_stays : (f : Flat) (h at : ℕ) (regs : List ℕ) (p : Prog) (pc : ℕ) (new_regs : List ℕ) (new_p : Prog) → f ≡ flats.Rest → exec_decoded (instr_of f) at h regs p ≡ Goes pc new_regs new_p → ⊥
rest_stays f h at regs p pc new_regs new_p rest e =
    let no = sym (ap (λ g. exec_decoded (instr_of g) at h regs p) rest) ∙ e in cc

-- where the hart goes on after it
pub record OtherGoes (w : MarkedWord) (ticks at : ℕ) (regs bank : List ℕ) (p : Prog) (pc : ℕ) (new_regs : List ℕ) (new_p : Prog) : Type 0 where
  pub mark : w.mark ≡ Tool
  pub step : step_on bank_len w.word ticks at (bench_from regs bank) ≡ Ok (stood_at pc new_regs bank)
  pub prog : new_p ≡ p

alike_goes : (i k : Option Instr) (h ticks at : ℕ) (regs bank : List ℕ) (p : Prog) (pc : ℕ) (new_regs : List ℕ) (new_p : Prog) → IfSome k (λ j. RunsAlike bank_len i) → exec_decoded k at h regs p ≡ Goes pc new_regs new_p → exec_decoded i at h regs p ≡ Goes pc new_regs new_p
    → (step_decoded bank_len i ticks at (bench_from regs bank) ≡ Ok (stood_at pc new_regs bank)) × (new_p ≡ p)
alike_goes i None h ticks at regs bank p pc new_regs new_p a e d = absurd cc
alike_goes i (Some j) h ticks at regs bank p pc new_regs new_p a e d = (
  a.step h ticks at (bench_from regs bank) p ∙ ap (λ o. done_as (done_of_outcome o regs) bank) d,
  sym (ap (λ o. (done_of_outcome o regs).prog) d) ∙ a.prog h at regs p,
)

other_goes_by : (m : Mark) (word : ℕ) (f : Flat) (h ticks at : ℕ) (regs bank : List ℕ) (p : Prog) (pc : ℕ) (new_regs : List ℕ) (new_p : Prog) → is_access f ≡ false → IsToolFlatBy m (decode_of word) f → exec_decoded (instr_of f) at h regs p ≡ Goes pc new_regs new_p
    → OtherGoes (record { word = word; mark = m }) ticks at regs bank p pc new_regs new_p
other_goes_by Tool word f h ticks at regs bank p pc new_regs new_p none s e =
    let o = other_steps (decode_of word) f none s in
    let g = alike_goes (decode_of word) (instr_of f) h ticks at regs bank p pc new_regs new_p o.1 e (goes_as f (decode_of word) at h regs p pc new_regs new_p o.0 e) in
    record { mark = refl; step = g.0; prog = g.1 }
other_goes_by Own word f h ticks at regs bank p pc new_regs new_p none s e = absurd (rest_stays f h at regs p pc new_regs new_p s e)
other_goes_by Enter word f h ticks at regs bank p pc new_regs new_p none s e = absurd (rest_stays f h at regs p pc new_regs new_p s e)
other_goes_by Leave word f h ticks at regs bank p pc new_regs new_p none s e = absurd (rest_stays f h at regs p pc new_regs new_p s e)

pub other_goes : (w : MarkedWord) (f : Flat) (h ticks at : ℕ) (regs bank : List ℕ) (p : Prog) (pc : ℕ) (new_regs : List ℕ) (new_p : Prog) → is_access f ≡ false → IsToolFlatBy w.mark (decode_of w.word) f → exec_decoded (instr_of f) at h regs p ≡ Goes pc new_regs new_p
    → OtherGoes w ticks at regs bank p pc new_regs new_p
other_goes w f h ticks at regs bank p pc new_regs new_p none s e = other_goes_by w.mark w.word f h ticks at regs bank p pc new_regs new_p none s e

-- ---- an access to the bank

is_rest : (f : Flat) → f ≡ flats.Rest → is_access f ≡ false
is_rest f e = ap is_access e

accesses_by : (m : Mark) (i : Option Instr) (f : Flat) → is_access f ≡ true → IsToolFlatBy m i f → (m ≡ Tool) × StepsBy i f
accesses_by Tool i f a s = (refl, s)
accesses_by Own i f a s = let no = sym (is_rest f s) ∙ a in absurd cc
accesses_by Enter i f a s = let no = sym (is_rest f s) ∙ a in absurd cc
accesses_by Leave i f a s = let no = sym (is_rest f s) ∙ a in absurd cc

-- only a word of the tool has the flat of one
pub accesses : (w : MarkedWord) (f : Flat) → is_access f ≡ true → IsToolFlatBy w.mark (decode_of w.word) f → (w.mark ≡ Tool) × StepsBy (decode_of w.word) f
accesses w f a s = accesses_by w.mark (decode_of w.word) f a s

-- a flat that is none of the eleven accesses
pub no_access : (f : Flat) → ((a b : ℕ) (imm : ℤ) → f ≡ flats.Lb a b imm → ⊥) → ((a b : ℕ) (imm : ℤ) → f ≡ flats.Lh a b imm → ⊥) → ((a b : ℕ) (imm : ℤ) → f ≡ flats.Lw a b imm → ⊥)
    → ((a b : ℕ) (imm : ℤ) → f ≡ flats.Ld a b imm → ⊥) → ((a b : ℕ) (imm : ℤ) → f ≡ flats.Lbu a b imm → ⊥) → ((a b : ℕ) (imm : ℤ) → f ≡ flats.Lhu a b imm → ⊥) → ((a b : ℕ) (imm : ℤ) → f ≡ flats.Lwu a b imm → ⊥)
    → ((a b : ℕ) (imm : ℤ) → f ≡ flats.Sb a b imm → ⊥) → ((a b : ℕ) (imm : ℤ) → f ≡ flats.Sh a b imm → ⊥) → ((a b : ℕ) (imm : ℤ) → f ≡ flats.Sw a b imm → ⊥) → ((a b : ℕ) (imm : ℤ) → f ≡ flats.Sd a b imm → ⊥) → is_access f ≡ false
no_access (flats.Lb a b imm) lb lh lw ld lbu lhu lwu sb sh sw sd = absurd (lb a b imm refl)
no_access (flats.Lh a b imm) lb lh lw ld lbu lhu lwu sb sh sw sd = absurd (lh a b imm refl)
no_access (flats.Lw a b imm) lb lh lw ld lbu lhu lwu sb sh sw sd = absurd (lw a b imm refl)
no_access (flats.Ld a b imm) lb lh lw ld lbu lhu lwu sb sh sw sd = absurd (ld a b imm refl)
no_access (flats.Lbu a b imm) lb lh lw ld lbu lhu lwu sb sh sw sd = absurd (lbu a b imm refl)
no_access (flats.Lhu a b imm) lb lh lw ld lbu lhu lwu sb sh sw sd = absurd (lhu a b imm refl)
no_access (flats.Lwu a b imm) lb lh lw ld lbu lhu lwu sb sh sw sd = absurd (lwu a b imm refl)
no_access (flats.Sb a b imm) lb lh lw ld lbu lhu lwu sb sh sw sd = absurd (sb a b imm refl)
no_access (flats.Sh a b imm) lb lh lw ld lbu lhu lwu sb sh sw sd = absurd (sh a b imm refl)
no_access (flats.Sw a b imm) lb lh lw ld lbu lhu lwu sb sh sw sd = absurd (sw a b imm refl)
no_access (flats.Sd a b imm) lb lh lw ld lbu lhu lwu sb sh sw sd = absurd (sd a b imm refl)
no_access f lb lh lw ld lbu lhu lwu sb sh sw sd = refl

-- what holds either way
pub either_way : (b : Bool) (x y : Prog) → (b ≡ true → x ≡ y) → (b ≡ false → x ≡ y) → x ≡ y
either_way true x y on off = on refl
either_way false x y on off = off refl

-- ---- one word after another

-- what is fetched at a place of the list
pub slot_there : (s : StoredCode) (first : ℕ) (slots : List MarkedWord) (at place : ℕ) (w : MarkedWord) → ((q : ℕ) → q < length slots → fetched_at s.program s.code (first + 4 * q) true ≡ Some (get_or slots q (tool 0))) → first + 4 * length slots < 2 ^ 64 → place < length slots → at ≡ wrap (first + 4 * place) → w ≡ get_or slots place w
    → fetched_at s.program s.code at true ≡ Some w
slot_there s first slots at place w all ends below here is =
    let e : at ≡ first + 4 * place = omega (arith, here) in
    ap (λ a. fetched_at s.program s.code a true) e ∙ (all place below ∙ ap (λ v. Some v) (sym (is ∙ get_or_default slots place w (tool 0) below)))

pub has_tool : (o : Option MarkedWord) (w : MarkedWord) (claim : ℕ → Type 0) → o ≡ Some w → w.mark ≡ Tool → claim w.word → HasTool o claim
has_tool o w claim e m c = subst (λ v. HasTool v claim) (sym e) (m, c)

-- one word more
pub tool_more : (s : StoredCode) (ticks n : ℕ) (x y z : Stood) → AreToolRun s ticks n x y → HasTool (fetched_at s.program s.code y.pc true) (λ word. step_on bank_len word ticks y.pc y.bench ≡ Ok z) → AreToolRun s ticks (n + 1) x z
tool_more s ticks zero x y z r own = subst (λ v. AreToolRun s ticks 1 v z) r (last (fetched_at s.program s.code y.pc true) own)
  where
    last : (w : Option MarkedWord) → HasTool w (λ word. step_on bank_len word ticks y.pc y.bench ≡ Ok z) → HasTool w (λ word. (v : Stood) × (step_on bank_len word ticks y.pc y.bench ≡ Ok v) × (z ≡ v))
    last None o = absurd o
    last (Some w) o = (o.0, (z, o.1, refl))
tool_more s ticks (suc n) x y z r own =
    let count : suc (n + 1) ≡ suc n + 1 = omega arith in
    subst (λ k. AreToolRun s ticks k x z) count (on (fetched_at s.program s.code x.pc true) (λ v o. tool_more s ticks n v y z o own) r)
  where
    on : (w : Option MarkedWord) → ((v : Stood) → AreToolRun s ticks n v y → AreToolRun s ticks (n + 1) v z) → HasTool w (λ word. (v : Stood) × (step_on bank_len word ticks x.pc x.bench ≡ Ok v) × AreToolRun s ticks n v y) → HasTool w (λ word. (v : Stood) × (step_on bank_len word ticks x.pc x.bench ≡ Ok v) × AreToolRun s ticks (n + 1) v z)
    on None more o = absurd o
    on (Some w) more o = (o.0, (o.1.0, o.1.1, more o.1.0 o.1.2))

-- ---- the same as turns of the hart

abbrev pub standing_inside : ℕ → Stood → Prog → Solo
standing_inside ticks x p = record { hart = record { pc = x.pc; regs = x.bench.regs; ticks = ticks; stop = None; inside = true; bank = x.bench.bank }; prog = p }

stepped_by : (m : Mark) (word h home ticks : ℕ) (x y : Stood) (p : Prog) → m ≡ Tool → step_on bank_len word ticks x.pc x.bench ≡ Ok y → marked_step m word h home (standing_inside ticks x p) ≡ standing_inside ticks y p
stepped_by Tool word h home ticks x y p m e = ap (λ r. record { hart = other_hart r Tool word home (standing_inside ticks x p).hart; prog = p }) e
stepped_by Own word h home ticks x y p m e = absurd cc
stepped_by Enter word h home ticks x y p m e = absurd cc
stepped_by Leave word h home ticks x y p m e = absurd cc

pub are_tool_turns : (s : StoredCode) (h budget ticks : ℕ) (p : Prog) (z : Stood) (n : ℕ) (x : Stood) → AreToolRun s ticks n x z → TurnsLead s budget h n (standing_inside ticks x p) (standing_inside ticks z p)
are_tool_turns s h budget ticks p z zero x r = ap (λ v. standing_inside ticks v p) r
are_tool_turns s h budget ticks p z (suc n) x r = (refl, by (fetched_at s.program s.code x.pc true) refl (λ y o. are_tool_turns s h budget ticks p z n y o) r)
  where
    by : (w : Option MarkedWord) → w ≡ fetched_at s.program s.code x.pc true → ((y : Stood) → AreToolRun s ticks n y z → TurnsLead s budget h n (standing_inside ticks y p) (standing_inside ticks z p))
        → HasTool w (λ word. (y : Stood) × (step_on bank_len word ticks x.pc x.bench ≡ Ok y) × AreToolRun s ticks n y z) → TurnsLead s budget h n (turned_alone s h (standing_inside ticks x p)) (standing_inside ticks z p)
    by None e rest o = absurd o
    by (Some w) e rest o =
        let turned = ap (λ v. step_of v h (home_in_store s x.pc true) (standing_inside ticks x p)) (sym e) ∙ stepped_by w.mark w.word h (home_in_store s x.pc true) ticks x o.1.0 p o.0 o.1.1 in
        subst (λ v. TurnsLead s budget h n v (standing_inside ticks z p)) (sym turned) (rest o.1.0 o.1.2)
