-- A printed line is read, whatever stands behind it.
use Rattle.std.proofs.Common.{◌≡◌, ℕ, ◌+◌, ◌<◌, ◌≤◌, ◌^◌, Option, Some, Ok, List, [], ◌∷◌, ◌++◌, length, slice_get, refl, ap, ◌∙◌, arith, append_assoc, length-append}
use Rattle.std.specs.Fmt.{decimal}
use Rattle.std.specs.Option.{unwrap_or}
use Rattle.std.proofs.lemmas.Bool.{le-leb}
use Rattle.std.proofs.lemmas.Fmt.{length-decimal-le}
use Rattle.std.proofs.lemmas.Slice.Eq.{bytes_eq-Decides}
use Rattle.std.proofs.Math.Seq.{drop-append-add, take-append_seam}
use Rattle.pn_text.specs.Numbers.{small_number}
use Rattle.pn_text.proofs.Decimals.{decimal_spells}
use Rattle.advice.specs.Lines.{to_lf_at}
use Rattle.advice.specs.Words.{word_at}
use Rattle.report_lines.specs.Words.{short_at}
use Rattle.report_reader.specs.Drafts.{after, if_line}
use Rattle.report_reader.specs.Reading.{first_due_line, report_from}
use Rattle.report_reader.specs.declared.draft.Draft.{Draft}
use Rattle.report_reader.specs.declared.whole_report.Report.{Report}
use Rattle.report_reader.proofs.TakeLines.{line_step}

-- wherever these bytes stand, they make the report of the draft
abbrev pub Reads : Draft → List ℕ → Report → Type 0
Reads d bytes r = (at : ℕ) → report_from d at 0 bytes ≡ Ok r

-- the same bytes are read alike
pub same : (d : Draft) (bytes others : List ℕ) (r : Report) → bytes ≡ others → Reads d others r → Reads d bytes r
same d bytes others r e reads at = ap (report_from d at 0) e ∙ reads at

-- and so are bytes behind the same draft
pub same_draft : (d e : Draft) (bytes : List ℕ) (r : Report) → d ≡ e → Reads e bytes r → Reads d bytes r
same_draft d e bytes r is reads at = ap (λ (x : Draft). report_from x at 0 bytes) is ∙ reads at

-- a line before a rest
pub line_rest : (text body rest : List ℕ) → text ≡ body ++ 10 ∷ [] → text ++ rest ≡ body ++ 10 ∷ rest
line_rest text body rest e = ap (λ (t : List ℕ). t ++ rest) e ∙ append_assoc body (10 ∷ []) rest

pub take_line : (d next : Draft) (line rest : List ℕ) (r : Report) → first_due_line d.due (line ++ 10 ∷ rest) ≡ Some line → after d line ≡ Some next → Reads next rest r → Reads d (line ++ 10 ∷ rest) r
take_line d next line rest r first said more at =
    let inside : length line < length (line ++ 10 ∷ rest) = omega (arith, length-append line (10 ∷ rest)) in
    line_step d next at (line ++ 10 ∷ rest) line inside first said
    ∙ ap (λ (bytes : List ℕ). report_from next (at + (length line + 1)) 0 bytes) (drop-append-add line (10 ∷ rest) 1)
    ∙ more (at + (length line + 1))

-- a line that is the text of what was read from it
pub if_right : (line text : List ℕ) (next : Draft) → line ++ 10 ∷ [] ≡ text → if_line line text next ≡ Some next
if_right line text next is = let b = (bytes_eq-Decides (line ++ 10 ∷ []) text).1 is in rw b refl

get_seam : (xs : List ℕ) (y : ℕ) (ys : List ℕ) → slice_get (xs ++ y ∷ ys) (length xs) ≡ Some y
get_seam [] y ys = refl
get_seam (x ∷ xs) y ys = get_seam xs y ys

-- an output is one line
pub output_first : (output rest : List ℕ) → to_lf_at (length output) (output ++ 10 ∷ rest) ≡ Some output
output_first output rest = rw (get_seam output 10 rest) (ap Some (take-append_seam output (10 ∷ rest)))

-- a number of 32 bits is read from its digits
small_read : (n : ℕ) → n < 2 ^ 32 → small_number (decimal n) 4294967295 ≡ Some n
small_read n h =
    let s = decimal_spells n (omega arith) in
    let few : length (decimal n) ≤ 10 = length-decimal-le 10 n (omega arith) (omega arith) (omega arith) in
    let most : n ≤ 4294967295 = omega arith in
    rw (le-leb 1 (length (decimal n)) s.some, le-leb (length (decimal n)) 10 few, s.value, le-leb n 4294967295 most) refl

pub short_there : (k n : ℕ) (line : List ℕ) → word_at k line ≡ decimal n → n < 2 ^ 32 → short_at k line ≡ n
short_there k n line is h =
    ap (λ (w : List ℕ). unwrap_or (small_number w 4294967295) 0) is ∙ ap (λ (o : Option ℕ). unwrap_or o 0) (small_read n h)
