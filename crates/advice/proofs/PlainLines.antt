-- Texts that stand in one line, and the lines of a report that are read by their first word alone.
use Rattle.std.proofs.Common.{◌≡◌, ℕ, not, cond, Bool, true, false, Option, Some, None, List, [], ◌∷◌, ◌++◌, length, codes, refl, sym, ap, ◌∙◌, append_assoc}
use Rattle.std.specs.Fmt.{decimal}
use Rattle.fold_hist.specs.declared.bin.Bin.{Bin}
use Rattle.pn_text.specs.Lines.{is_lf}
use Rattle.pn_types.specs.Texts.{address, axis_text, cause_text, stop_text}
use Rattle.pn_types.specs.declared.focus.Axis.{Axis}
use Rattle.pn_types.specs.declared.focus.Axis.TheVariants as axis
use Rattle.pn_types.specs.declared.pick.PickCause.{PickCause}
use Rattle.pn_types.specs.declared.pick.PickCause.TheVariants.{NoConstraint, TooManySites, TooManyStmts, OverCost, TooMany, NoSlot, NoRoom, Unmovable, AlreadyShown, NotShown}
use Rattle.pn_types.specs.declared.stop.StopText.{StopText}
use Rattle.pn_types.specs.declared.stop.StopText.TheVariants.{Exit, Illegal, Break, Misaligned, Access, TextAccess, FetchOutside, Budget, Cut}
use Rattle.report.specs.declared.parts.HartPart.{HartPart}
use Rattle.report.specs.declared.parts.RefusedPart.{RefusedPart}
use Rattle.report.specs.declared.parts.ShownPart.{ShownPart}
use Rattle.report.specs.ShownTexts.{bin_line, from_text, histogram_line, pair_text, refused_line}
use Rattle.report.specs.Text.{hart_line}
use Rattle.advice.specs.Seams.{is_one_line, IsHistogramLine, IsRefusedLine}
use Rattle.advice.proofs.Spaced.{all_append, digits_above, word_line}

pub one_append : (a b : List ℕ) → is_one_line a ≡ true → is_one_line b ≡ true → is_one_line (a ++ b) ≡ true
one_append a b h k = all_append (λ byte. not (is_lf byte)) a b h k

pub decimal_line : (n : ℕ) → is_one_line (decimal n) ≡ true
decimal_line n = word_line (decimal n) (digits_above 10 n)

pub address_line : (n : ℕ) → is_one_line (address n) ≡ true
address_line n = word_line (address n) (digits_above 16 n)

axis_line : (a : Axis) → is_one_line (axis_text a) ≡ true
axis_line axis.Code = refl
axis_line axis.Machine = refl
axis_line axis.SyncObject = refl

pub cause_line : (c : PickCause) → is_one_line (cause_text c) ≡ true
cause_line (NoConstraint a) = axis_line a
cause_line (TooManySites n) = decimal_line n
cause_line (TooManyStmts at) = address_line at
cause_line (OverCost n) = decimal_line n
cause_line TooMany = refl
cause_line (NoSlot n) = decimal_line n
cause_line (NoRoom n) = one_append (decimal n) (codes " words") (decimal_line n) refl
cause_line (Unmovable at) = address_line at
cause_line AlreadyShown = refl
cause_line NotShown = refl

stop_line : (s : StopText) → is_one_line (stop_text s) ≡ true
stop_line (Exit status) = decimal_line status
stop_line Illegal = refl
stop_line Break = refl
stop_line Misaligned = refl
stop_line (Access at) = address_line at
stop_line (TextAccess at) = address_line at
stop_line FetchOutside = refl
stop_line Budget = refl
stop_line Cut = refl

-- ---- lines

-- a text is one line with its LF
pub record Line (text : List ℕ) : Type 0 where
  pub body : List ℕ
  pub is : text ≡ body ++ 10 ∷ []
  pub one : is_one_line body ≡ true

end : Line (codes "\n")
end = record { body = []; is = refl; one = refl }

-- a line with more before it
more : (a text : List ℕ) → is_one_line a ≡ true → Line text → Line (a ++ text)
more a text h l = record { body = a ++ l.body; is = ap (λ (t : List ℕ). a ++ t) l.is ∙ sym (append_assoc a l.body (10 ∷ [])); one = one_append a l.body h l.one }

pair_line : (name focus : List ℕ) → is_one_line name ≡ true → is_one_line focus ≡ true → is_one_line (pair_text name focus) ≡ true
pair_line name focus h k = one_append name (codes " " ++ focus) h k

from_line : (from : Option ℕ) → is_one_line (from_text from) ≡ true
from_line None = refl
from_line (Some n) = decimal_line n

-- a line that begins with a word
pub record Begun (word text : List ℕ) : Type 0 where
  pub rest : List ℕ
  pub is : text ≡ (word ++ rest) ++ 10 ∷ []
  pub one : is_one_line (word ++ rest) ≡ true

begun : (word text all : List ℕ) → all ≡ word ++ text → is_one_line word ≡ true → Line text → Begun word all
unfolding more
begun word text all e h l = let m = more word text h l in record { rest = l.body; is = e ∙ m.is; one = m.one }

-- a word with a number after it
numbered : (word : List ℕ) (n : ℕ) (text : List ℕ) → is_one_line word ≡ true → Line text → Line (word ++ (decimal n ++ text))
numbered word n text h l = more word (decimal n ++ text) h (more (decimal n) text (decimal_line n) l)

regroup : (n ticks stop pc : List ℕ) → codes "hart " ++ n ++ codes " ticks " ++ ticks ++ codes " " ++ stop ++ codes " at " ++ pc ++ codes "\n" ≡ codes "hart " ++ (n ++ (codes " ticks " ++ (ticks ++ (codes " " ++ (stop ++ (codes " at " ++ (pc ++ codes "\n")))))))
regroup n ticks stop pc = simp append_assoc

pub hart : (n : ℕ) (part : HartPart) → Begun (codes "hart ") (hart_line n part)
hart n part =
    begun (codes "hart ") _ (hart_line n part) (regroup (decimal n) (decimal part.ticks) (stop_text part.stop) (address part.pc)) refl
    (more (decimal n) _ (decimal_line n) (numbered (codes " ticks ") part.ticks _ refl (more (codes " ") _ refl
    (more (stop_text part.stop) _ (stop_line part.stop) (more (codes " at ") _ refl (more (address part.pc) _ (address_line part.pc) end))))))

wish : (show : Bool) → is_one_line (cond show (codes "show ") (codes "drop ")) ≡ true
wish true = refl
wish false = refl

pub refused : (r : RefusedPart) → IsRefusedLine r → Begun (codes "refused ") (refused_line r)
refused r h =
    begun (codes "refused ") _ (refused_line r) refl refl (more (cond r.show (codes "show ") (codes "drop ")) _ (wish r.show)
    (more (pair_text r.metric r.focus) _ (pair_line r.metric r.focus h.metric h.focus) (numbered (codes " at ") r.at _ refl
    (more (codes ": ") _ refl (more (cause_text r.cause) _ (cause_line r.cause) end)))))

pub histogram : (s : ShownPart) → IsHistogramLine s → Begun (codes "histogram ") (histogram_line s)
histogram s h =
    begun (codes "histogram ") _ (histogram_line s) refl refl (more (pair_text s.metric s.focus) _ (pair_line s.metric s.focus h.metric h.focus)
    (more (codes " units ") _ refl (more s.units _ h.units (more (codes " from ") _ refl (more (from_text s.from) _ (from_line s.from)
    (numbered (codes " bins ") (length s.bins) _ refl (numbered (codes " width ") s.width _ refl end)))))))

pub bin : (n : ℕ) (b : Bin) → Begun (codes "bin ") (bin_line n b)
bin n b =
    begun (codes "bin ") _ (bin_line n b) refl refl (more (decimal n) _ (decimal_line n) (numbered (codes " from ") b.from _ refl (numbered (codes " to ") b.to _ refl (numbered (codes " value ") b.sum _ refl end))))
