-- The words of a cause are read.
use Rattle.std.proofs.Common.{◌≡◌, ℕ, ◌+◌, List, [], ◌∷◌, codes, slice_get, refl}
use Rattle.std.specs.Fmt.{decimal}
use Rattle.std.specs.Option.{unwrap_or}
use Rattle.pn_types.specs.Texts.{address, axis_text, cause_text}
use Rattle.pn_types.specs.declared.focus.Axis.{Axis}
use Rattle.pn_types.specs.declared.focus.Axis.TheVariants as axis
use Rattle.pn_types.specs.declared.pick.PickCause.{PickCause}
use Rattle.pn_types.specs.declared.pick.PickCause.TheVariants.{NoConstraint, TooManySites, TooManyStmts, OverCost, TooMany, NoSlot, NoRoom, Unmovable, AlreadyShown, NotShown}
use Rattle.advice.specs.Words.{word_at, words}
use Rattle.advice.proofs.Fits.{number_read}
use Rattle.advice.proofs.Spaced.{digits_above}
use Rattle.report_lines.specs.Causes.{axis_word_at, cause_at}
use Rattle.report_lines.specs.Readable.{IsCause}
use Rattle.report_lines.proofs.Bodies.{words_and_last}
use Rattle.report_lines.proofs.NumbersRead.{hexadecimal_read, short_read}

abbrev pub cause_words : PickCause → List (List ℕ)
cause_words (NoConstraint a) = codes "no" ∷ codes "constraint" ∷ codes "for" ∷ axis_text a ∷ []
cause_words (TooManySites n) = codes "too" ∷ codes "many" ∷ codes "sites" ∷ decimal n ∷ []
cause_words (TooManyStmts at) = codes "too" ∷ codes "many" ∷ codes "statements" ∷ codes "at" ∷ address at ∷ []
cause_words (OverCost n) = codes "over" ∷ codes "cost" ∷ decimal n ∷ []
cause_words TooMany = codes "too" ∷ codes "many" ∷ codes "instruments" ∷ []
cause_words (NoSlot n) = codes "no" ∷ codes "slot" ∷ codes "for" ∷ decimal n ∷ []
cause_words (NoRoom n) = codes "no" ∷ codes "room" ∷ codes "for" ∷ decimal n ∷ codes "words" ∷ []
cause_words (Unmovable at) = codes "unmovable" ∷ codes "at" ∷ address at ∷ []
cause_words AlreadyShown = codes "already" ∷ codes "shown" ∷ []
cause_words NotShown = codes "not" ∷ codes "shown" ∷ []

constraint_words : (a : Axis) → words (cause_text (NoConstraint a)) ≡ cause_words (NoConstraint a)
constraint_words axis.Code = refl
constraint_words axis.Machine = refl
constraint_words axis.SyncObject = refl

pub words_of_cause : (c : PickCause) → words (cause_text c) ≡ cause_words c
words_of_cause (NoConstraint a) = constraint_words a
words_of_cause (TooManySites n) = words_and_last (codes "too" ∷ codes "many" ∷ codes "sites" ∷ []) (decimal n) refl (digits_above 10 n)
words_of_cause (TooManyStmts at) = words_and_last (codes "too" ∷ codes "many" ∷ codes "statements" ∷ codes "at" ∷ []) (address at) refl (digits_above 16 at)
words_of_cause (OverCost n) = words_and_last (codes "over" ∷ codes "cost" ∷ []) (decimal n) refl (digits_above 10 n)
words_of_cause TooMany = refl
words_of_cause (NoSlot n) = words_and_last (codes "no" ∷ codes "slot" ∷ codes "for" ∷ []) (decimal n) refl (digits_above 10 n)
words_of_cause (NoRoom n) = words_and_last (codes "no" ∷ codes "room" ∷ codes "for" ∷ decimal n ∷ []) (codes "words") (rw (digits_above 10 n) refl) refl
words_of_cause (Unmovable at) = words_and_last (codes "unmovable" ∷ codes "at" ∷ []) (address at) refl (digits_above 16 at)
words_of_cause AlreadyShown = refl
words_of_cause NotShown = refl

-- a word of these
abbrev pub word_in : ℕ → List (List ℕ) → List ℕ
word_in i ws = unwrap_or (slice_get ws i) []

-- these words stand in the line from a place on, as far as a cause is read there
pub record StandAt (place : ℕ) (line : List ℕ) (ws : List (List ℕ)) : Type 0 where
  pub first : word_at place line ≡ word_in 0 ws
  pub second : word_at (place + 1) line ≡ word_in 1 ws
  pub third : word_at (place + 2) line ≡ word_in 2 ws
  pub object : word_at (place + 1 + 2) line ≡ word_in 3 ws
  pub count : word_at (place + 2 + 1) line ≡ word_in 3 ws
  pub last : word_at (place + 2 + 2) line ≡ word_in 4 ws

axis_read : (a : Axis) (place : ℕ) (line : List ℕ) → word_at place line ≡ axis_text a → axis_word_at place line ≡ a
axis_read axis.Code place line is = rw is refl
axis_read axis.Machine place line is = rw is refl
axis_read axis.SyncObject place line is = rw is refl

pub cause_read : (c : PickCause) (place : ℕ) (line : List ℕ) → IsCause c → StandAt place line (cause_words c) → cause_at place line ≡ c
cause_read (NoConstraint a) place line h s = rw (s.first, s.second, axis_read a (place + 1 + 2) line s.object) refl
cause_read (TooManySites n) place line h s = rw (s.first, s.third, s.count, short_read n h) refl
cause_read (TooManyStmts at) place line h s = rw (s.first, s.third, s.last, hexadecimal_read at h) refl
cause_read (OverCost n) place line h s = rw (s.first, s.third, number_read n h) refl
cause_read TooMany place line h s = rw (s.first, s.third) refl
cause_read (NoSlot n) place line h s = rw (s.first, s.second, s.object, short_read n h) refl
cause_read (NoRoom n) place line h s = rw (s.first, s.second, s.object, short_read n h) refl
cause_read (Unmovable at) place line h s = rw (s.first, s.third, hexadecimal_read at h) refl
cause_read AlreadyShown place line h s = rw s.first refl
cause_read NotShown place line h s = rw s.first refl
