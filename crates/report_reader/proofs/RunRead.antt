-- The lines on the run are read.
use Rattle.std.proofs.Common.{◌≡◌, ℕ, suc, ◌+◌, ◌<◌, ◌≤◌, ◌^◌, true, Some, List, [], ◌∷◌, ◌++◌, length, codes, refl, sym, ap, ◌∙◌, arith, append_assoc, append-nil, length-append}
use Rattle.std.specs.Fmt.{decimal}
use Rattle.std.specs.List.{All, list_all}
use Rattle.std.proofs.lemmas.Bool.{le-leb}
use Rattle.std.proofs.lemmas.List.Elements.{All-head, All-tail}
use Rattle.report.specs.Text.{hart_line, hart_lines, numbers_line, output_lines}
use Rattle.report.specs.declared.parts.HartPart.{HartPart}
use Rattle.advice.specs.Words.{number_at, words}
use Rattle.advice.proofs.Fits.{number_read, number_there, word_there}
use Rattle.advice.proofs.PlainLines.{decimal_line, hart}
use Rattle.advice.proofs.Spaced.{before, digits_above, is_word, line_before, one_word, words_before}
use Rattle.advice.proofs.Steps.{to_lf_line}
use Rattle.report_lines.specs.Laws.{HartIsRead}
use Rattle.report_lines.specs.Lines.{hart_of_line}
use Rattle.report_lines.specs.Readable.{Is32Bit, Is64Bit, IsHartPart}
use Rattle.report_lines.specs.Words.{short_at}
use Rattle.report_reader.specs.Drafts.{after, if_line}
use Rattle.report_reader.specs.declared.draft.Draft.{Draft}
use Rattle.report_reader.specs.declared.due.Due.TheVariants.{Title, Numbers, Harts, Output, Shown}
use Rattle.report_reader.specs.declared.whole_report.Report.{Report}
use Rattle.report_reader.proofs.ReadSteps.{Reads, if_right, line_rest, output_first, same, same_draft, short_there, take_line}

pub title_read : (d : Draft) (rest : List ℕ) (r : Report) → Reads (record d { due = Numbers }) rest r → Reads (record d { due = Title }) (codes "paradyn report 1\n" ++ rest) r
title_read d rest r more =
    take_line (record d { due = Title }) (record d { due = Numbers }) (codes "paradyn report 1") rest r (to_lf_line (codes "paradyn report 1") rest refl) refl more

-- ---- numbers

regroup : (harts ticks samples skipped rest : List ℕ) → (codes "harts " ++ harts ++ codes " ticks " ++ ticks ++ codes " samples " ++ samples ++ codes " skipped " ++ skipped ++ codes "\n") ++ rest ≡ before (codes "harts" ∷ harts ∷ codes "ticks" ∷ ticks ∷ codes "samples" ∷ samples ∷ codes "skipped" ∷ []) skipped ++ 10 ∷ rest
regroup harts ticks samples skipped rest = simp append_assoc

pub numbers_read : (d : Draft) (n ticks samples skipped : ℕ) (rest : List ℕ) (r : Report) → n ≤ 32 → Is64Bit ticks → Is64Bit samples → Is32Bit skipped → Reads (record d { due = Harts n; ticks = ticks; samples = samples; skipped = skipped }) rest r → Reads (record d { due = Numbers }) (numbers_line n ticks samples skipped ++ rest) r
numbers_read d n ticks samples skipped rest r few a b c more =
    let front = codes "harts" ∷ decimal n ∷ codes "ticks" ∷ decimal ticks ∷ codes "samples" ∷ decimal samples ∷ codes "skipped" ∷ [] in
    let all : list_all is_word front ≡ true = rw (digits_above 10 n, digits_above 10 ticks, digits_above 10 samples) refl in
    let line = before front (decimal skipped) in
    let is : words line ≡ front ++ decimal skipped ∷ [] = words_before front (decimal skipped) all ∙ ap (λ (l : List (List ℕ)). front ++ l) (one_word (decimal skipped) (digits_above 10 skipped)) in
    let small : n < 2 ^ 64 = omega arith in
    let first : number_at 1 line ≡ n = number_there 1 n (decimal n) line (word_there 1 line _ is) (number_read n small) in
    let second : number_at 3 line ≡ ticks = number_there 3 ticks (decimal ticks) line (word_there 3 line _ is) (number_read ticks a) in
    let third : number_at 5 line ≡ samples = number_there 5 samples (decimal samples) line (word_there 5 line _ is) (number_read samples b) in
    let fourth : short_at 7 line ≡ skipped = short_there 7 skipped line (word_there 7 line _ is) c in
    let next : ℕ → ℕ → ℕ → ℕ → Draft = λ m t s k. record d { due = Harts m; ticks = t; samples = s; skipped = k } in
    let text : line ++ 10 ∷ [] ≡ numbers_line n ticks samples skipped = sym (sym (append-nil (numbers_line n ticks samples skipped)) ∙ regroup (decimal n) (decimal ticks) (decimal samples) (decimal skipped) []) in
    let said : after (record d { due = Numbers }) line ≡ Some (next n ticks samples skipped) =
    rw (first, second, third, fourth, le-leb n 32 few) (if_right line (numbers_line n ticks samples skipped) (next n ticks samples skipped) text) in
    same (record d { due = Numbers }) _ (line ++ 10 ∷ rest) r (regroup (decimal n) (decimal ticks) (decimal samples) (decimal skipped) rest)
    (take_line (record d { due = Numbers }) (next n ticks samples skipped) line rest r (to_lf_line line rest (line_before front (decimal skipped) all (decimal_line skipped))) said more)

-- ---- harts

module _ (hart_is_read : HartIsRead) where
  one_hart : (d : Draft) (left : ℕ) (h : HartPart) (line : List ℕ) → IsHartPart h → line ++ 10 ∷ [] ≡ hart_line (length d.harts) h → after (record d { due = Harts (suc left) }) line ≡ Some (record d { due = Harts left; harts = d.harts ++ h ∷ [] })
  one_hart d left h line good is =
      let same : hart_of_line line ≡ h = hart_is_read (length d.harts) h line good is in
      ap (λ (p : HartPart). if_line line (hart_line (length d.harts) p) (record d { due = Harts left; harts = d.harts ++ p ∷ [] })) same
      ∙ if_right line (hart_line (length d.harts) h) (record d { due = Harts left; harts = d.harts ++ h ∷ [] }) is

  pub harts_read : (d : Draft) (hs : List HartPart) (rest : List ℕ) (r : Report) → All IsHartPart hs → Reads (record d { due = Harts 0; harts = d.harts ++ hs }) rest r → Reads (record d { due = Harts (length hs) }) (hart_lines (length d.harts) hs ++ rest) r
  harts_read d [] rest r good more =
      same_draft (record d { due = Harts 0 }) (record d { due = Harts 0; harts = d.harts ++ [] }) rest r (ap (λ (l : List HartPart). record d { due = Harts 0; harts = l }) (sym (append-nil d.harts))) more
  harts_read d (h ∷ hs) rest r good more =
      let l = hart (length d.harts) h in
      let line = codes "hart " ++ l.rest in
      let next = record d { harts = d.harts ++ h ∷ [] } in
      let number : length d.harts + 1 ≡ length (d.harts ++ h ∷ []) = omega (arith, length-append d.harts (h ∷ [])) in
      let behind = hart_lines (length d.harts + 1) hs ++ rest in
      let split = append_assoc (hart_line (length d.harts) h) (hart_lines (length d.harts + 1) hs) rest ∙ line_rest (hart_line (length d.harts) h) line behind l.is in
      let all = same_draft (record next { due = Harts 0; harts = next.harts ++ hs }) (record d { due = Harts 0; harts = d.harts ++ h ∷ hs }) rest r (ap (λ (x : List HartPart). record d { due = Harts 0; harts = x }) (append_assoc d.harts (h ∷ []) hs)) more in
      let later = same (record next { due = Harts (length hs) }) behind (hart_lines (length next.harts) hs ++ rest) r (ap (λ (n : ℕ). hart_lines n hs ++ rest) number) (harts_read next hs rest r (All-tail IsHartPart h hs good) all) in
      same (record d { due = Harts (suc (length hs)) }) _ (line ++ 10 ∷ behind) r split
      (take_line (record d { due = Harts (suc (length hs)) }) (record next { due = Harts (length hs) }) line behind r (to_lf_line line behind l.one)
      (one_hart d (length hs) h line (All-head IsHartPart h hs good) (sym l.is)) later)

-- ---- output

output_regroup : (n output rest : List ℕ) → (codes "output " ++ n ++ codes "\n" ++ output ++ codes "\n") ++ rest ≡ (codes "output " ++ n) ++ 10 ∷ (output ++ 10 ∷ rest)
output_regroup n output rest = simp append_assoc

length_regroup : (n : List ℕ) → (codes "output " ++ n) ++ 10 ∷ [] ≡ codes "output " ++ n ++ codes "\n"
length_regroup n = refl

pub output_read : (d : Draft) (output rest : List ℕ) (r : Report) → Is64Bit (length output) → Reads (record d { due = Shown; output = output }) rest r → Reads (record d { due = Harts 0 }) (output_lines output ++ rest) r
output_read d output rest r small more =
    let n = length output in
    let line = codes "output " ++ decimal n in
    let is : words line ≡ codes "output" ∷ decimal n ∷ [] = words_before (codes "output" ∷ []) (decimal n) refl ∙ ap (λ (l : List (List ℕ)). codes "output" ∷ l) (one_word (decimal n) (digits_above 10 n)) in
    let number : number_at 1 line ≡ n = number_there 1 n (decimal n) line (word_there 1 line _ is) (number_read n small) in
    let next : ℕ → Draft = λ m. record d { due = Output m } in
    let said : after (record d { due = Harts 0 }) line ≡ Some (next n) =
    ap (λ (m : ℕ). if_line line (codes "output " ++ decimal m ++ codes "\n") (next m)) number ∙ if_right line (codes "output " ++ decimal n ++ codes "\n") (next n) (length_regroup (decimal n)) in
    let behind = output ++ 10 ∷ rest in
    same (record d { due = Harts 0 }) _ (line ++ 10 ∷ behind) r (output_regroup (decimal n) output rest)
    (take_line (record d { due = Harts 0 }) (next n) line behind r (to_lf_line line behind (decimal_line n)) said
    (take_line (next n) (record d { due = Shown; output = output }) output rest r (output_first output rest) refl more))
