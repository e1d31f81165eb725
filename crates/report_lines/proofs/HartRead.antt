-- The line of a hart is read.
use Rattle.std.proofs.Common.{◌≡◌, ℕ, true, List, [], ◌∷◌, ◌++◌, codes, refl, ap, ◌∙◌, arith}
use Rattle.std.specs.Fmt.{decimal}
use Rattle.std.specs.List.{list_all}
use Rattle.std.proofs.lemmas.List.{append_assoc}
use Rattle.pn_types.specs.Texts.{address, stop_text}
use Rattle.pn_types.specs.declared.stop.StopText.{StopText}
use Rattle.pn_types.specs.declared.stop.StopText.TheVariants.{Exit, Illegal, Break, Misaligned, Access, TextAccess, FetchOutside, Budget, Cut}
use Rattle.advice.specs.Words.{words}
use Rattle.advice.proofs.Fits.{number_read}
use Rattle.advice.proofs.Spaced.{before, digits_above, is_word}
use Rattle.report_lines.specs.Laws.{HartIsRead}
use Rattle.report_lines.specs.Lines.{hart_of_line}
use Rattle.report_lines.specs.Readable.{Is64Bit, IsStop}
use Rattle.report_lines.proofs.Bodies.{body_is, words_and_last, words_and_text}
use Rattle.report_lines.proofs.NumbersRead.{hexadecimal_read, small_read}

-- the words of how a hart ended
abbrev stop_words : StopText → List (List ℕ)
stop_words (Exit status) = codes "exit" ∷ decimal status ∷ []
stop_words Illegal = codes "illegal" ∷ []
stop_words Break = codes "break" ∷ []
stop_words Misaligned = codes "misaligned" ∷ []
stop_words (Access at) = codes "access" ∷ address at ∷ []
stop_words (TextAccess at) = codes "text-access" ∷ address at ∷ []
stop_words FetchOutside = codes "fetch-outside" ∷ []
stop_words Budget = codes "budget" ∷ []
stop_words Cut = codes "cut" ∷ []

abbrev tail_text : StopText → ℕ → List ℕ
tail_text stop pc = stop_text stop ++ (codes " at " ++ address pc)

abbrev tail_words : StopText → ℕ → List (List ℕ)
tail_words stop pc = stop_words stop ++ codes "at" ∷ address pc ∷ []

tail_is : (stop : StopText) (pc : ℕ) → words (tail_text stop pc) ≡ tail_words stop pc
tail_is (Exit status) pc = words_and_last (codes "exit" ∷ decimal status ∷ codes "at" ∷ []) (address pc) (rw (digits_above 10 status) refl) (digits_above 16 pc)
tail_is Illegal pc = words_and_last (codes "illegal" ∷ codes "at" ∷ []) (address pc) refl (digits_above 16 pc)
tail_is Break pc = words_and_last (codes "break" ∷ codes "at" ∷ []) (address pc) refl (digits_above 16 pc)
tail_is Misaligned pc = words_and_last (codes "misaligned" ∷ codes "at" ∷ []) (address pc) refl (digits_above 16 pc)
tail_is (Access at) pc = words_and_last (codes "access" ∷ address at ∷ codes "at" ∷ []) (address pc) (rw (digits_above 16 at) refl) (digits_above 16 pc)
tail_is (TextAccess at) pc = words_and_last (codes "text-access" ∷ address at ∷ codes "at" ∷ []) (address pc) (rw (digits_above 16 at) refl) (digits_above 16 pc)
tail_is FetchOutside pc = words_and_last (codes "fetch-outside" ∷ codes "at" ∷ []) (address pc) refl (digits_above 16 pc)
tail_is Budget pc = words_and_last (codes "budget" ∷ codes "at" ∷ []) (address pc) refl (digits_above 16 pc)
tail_is Cut pc = words_and_last (codes "cut" ∷ codes "at" ∷ []) (address pc) refl (digits_above 16 pc)

abbrev heads : ℕ → ℕ → List (List ℕ)
heads n ticks = codes "hart" ∷ decimal n ∷ codes "ticks" ∷ decimal ticks ∷ []

regroup : (n ticks stop pc : List ℕ) → codes "hart " ++ n ++ codes " ticks " ++ ticks ++ codes " " ++ stop ++ codes " at " ++ pc ++ codes "\n" ≡ before (codes "hart" ∷ n ∷ codes "ticks" ∷ ticks ∷ []) (stop ++ (codes " at " ++ pc)) ++ 10 ∷ []
regroup n ticks stop pc = simp append_assoc

module _ (line number : List ℕ) (ticks pc : ℕ) (h : Is64Bit ticks) (k : Is64Bit pc) where
  stop_read : (stop : StopText) → IsStop stop → words line ≡ codes "hart" ∷ number ∷ codes "ticks" ∷ decimal ticks ∷ tail_words stop pc → hart_of_line line ≡ record { ticks = ticks; stop = stop; pc = pc }
  stop_read (Exit status) s is = rw (is, number_read ticks h, small_read status 255 (omega arith) (omega arith), hexadecimal_read pc k) refl
  stop_read Illegal s is = rw (is, number_read ticks h, hexadecimal_read pc k) refl
  stop_read Break s is = rw (is, number_read ticks h, hexadecimal_read pc k) refl
  stop_read Misaligned s is = rw (is, number_read ticks h, hexadecimal_read pc k) refl
  stop_read (Access at) s is = rw (is, number_read ticks h, hexadecimal_read at s, hexadecimal_read pc k) refl
  stop_read (TextAccess at) s is = rw (is, number_read ticks h, hexadecimal_read at s, hexadecimal_read pc k) refl
  stop_read FetchOutside s is = rw (is, number_read ticks h, hexadecimal_read pc k) refl
  stop_read Budget s is = rw (is, number_read ticks h, hexadecimal_read pc k) refl
  stop_read Cut s is = rw (is, number_read ticks h, hexadecimal_read pc k) refl

pub hart_is_read : HartIsRead
hart_is_read n part line h is =
    let body = before (heads n part.ticks) (tail_text part.stop part.pc) in
    let same : line ≡ body = body_is line body _ is (regroup (decimal n) (decimal part.ticks) (stop_text part.stop) (address part.pc)) in
    let above : list_all is_word (heads n part.ticks) ≡ true = rw (digits_above 10 n, digits_above 10 part.ticks) refl in
    stop_read line (decimal n) part.ticks part.pc h.ticks h.pc part.stop h.stop
    (ap words same ∙ words_and_text (heads n part.ticks) (tail_text part.stop part.pc) (tail_words part.stop part.pc) above (tail_is part.stop part.pc))
