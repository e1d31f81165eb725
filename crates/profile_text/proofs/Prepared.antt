-- What a text that is prepared says.
use Rattle.std.proofs.Common.{◌≡◌, ℕ, zero, suc, ◌+◌, ◌*◌, ◌/◌, ◌%◌, ◌^◌, ◌<◌, ◌≤◌, List, [], ◌∷◌, ◌++◌, length, get_or, take, drop, refl, ap, sym, ◌∙◌, arith}
use Rattle.std.specs.Prelude.{sum, sum_by}
use Rattle.std.proofs.lemmas.List.Sums.{sum_by-append}
use Rattle.pn_types.proofs.ImageLemmas.{text_range}
use Rattle.pn_types.specs.Images.{IsImage, text_of}
use Rattle.pn_types.specs.declared.code.Proc.{Proc}
use Rattle.pn_types.specs.declared.image.Image.{Image}
use Rattle.pn_types.specs.declared.limits.TheConstants.{SEGMENTS_TO}
use Rattle.rv_mem.specs.Start.{program_of}
use Rattle.rv_word.specs.Memory.{in_range}
use Rattle.rv_word.specs.Names.{words_in}
use Rattle.code_points.specs.Procedures.{AreProcsOf}
use Rattle.word_counts.specs.declared.profile.Profile.{Profile}
use Rattle.word_flow.specs.Numbers.{sum_at}
use Rattle.profile_text.specs.Finding.{DoAscend}
use Rattle.profile_text.specs.ProfiledTexts.{IsProfiledText}
use Rattle.profile_text.specs.Totals.{Fits}
use Rattle.profile_text.specs.declared.numbered_word.NumberedWord.{NumberedWord}
use Rattle.profile_text.specs.declared.profiled_text.ProfiledText.{ProfiledText}
use Rattle.profile_text.proofs.Ranges.{address_there, length-with_numbers, number_there, range, sum-with_numbers, sum_at-with_numbers, take-nil, words_at}

length-words_in : (n : ℕ) (bytes : List ℕ) → length (words_in n bytes) ≡ n
length-words_in zero bytes = refl
length-words_in (suc n) bytes = ap suc (length-words_in n (drop 4 bytes))

pub get_or_any : (xs : List ℕ) (k d e : ℕ) → k < length xs → get_or xs k d ≡ get_or xs k e
get_or_any [] k d e l = absurd (omega arith)
get_or_any (x ∷ xs) zero d e l = refl
get_or_any (x ∷ xs) (suc k) d e l = get_or_any xs k d e (omega arith)

take-more : (i m : ℕ) (xs : List NumberedWord) → take (i + m) xs ≡ take i xs ++ take m (drop i xs)
take-more zero m xs =
    let e : zero + m ≡ m = omega arith in
    ap (λ j. take j xs) e
take-more (suc i) m [] =
    let e : suc i + m ≡ suc (i + m) = omega arith in
    ap (λ j. take j []) e ∙ take-nil m
take-more (suc i) m (x ∷ xs) =
    let e : suc i + m ≡ suc (i + m) = omega arith in
    ap (λ j. take j (x ∷ xs)) e ∙ ap (λ z. x ∷ z) (take-more i m xs)

-- the sum of the numbers of m words from place i on
sum_between : (i m : ℕ) (xs : List NumberedWord)
    → sum_by (λ x. x.number) (take (i + m) xs) ≡ sum_by (λ x. x.number) (take i xs) + sum_by (λ x. x.number) (take m (drop i xs))
sum_between i m xs =
    ap (sum_by (λ (x : NumberedWord). x.number)) (take-more i m xs) ∙ sum_by-append (λ (x : NumberedWord). x.number) (take i xs) (take m (drop i xs))

pub ascends : (image : Image) (procs : List Proc) → AreProcsOf image procs → DoAscend procs
ascends image procs h = record { ascend = h.ascend; some = λ k d l. (h.each k d l).some }

-- a text has as many words as fit
pub text_words : (image : Image) → IsImage image → 4 * length (program_of image).words ≡ image.text_len
text_words image is =
    let r = text_range image is in
    let n : length (program_of image).words ≡ length (text_of image) / 4 = length-words_in (length (text_of image) / 4) (text_of image) in
    let len = r.length in
    let start = is.start in
    let whole = is.whole in
    omega arith

pub total_small : (image : Image) (r : Profile) → Fits image r → sum r.numbers < 2 ^ 64
total_small image r h =
    let a = h.all in
    let b = h.small in
    omega arith

module _ (t : ProfiledText) (is : IsProfiledText t) where
  pub many : 4 * length t.words.items ≡ t.image.now.text_len
  many =
      let e = ap length is.words ∙ length-with_numbers t.image.now.text_at (program_of t.image.now).words t.profile.now.numbers is.fits.numbers in
      let m = text_words t.image.now is.image in
      omega arith

  pub low : t.image.now.text_at + t.image.now.text_len ≤ SEGMENTS_TO
  low = (text_range t.image.now is.image).high

  pub all : sum_by (λ x. x.number) t.words.items ≡ sum t.profile.now.numbers
  all =
      ap (sum_by (λ (x : NumberedWord). x.number)) is.words
      ∙ sum-with_numbers t.image.now.text_at (program_of t.image.now).words t.profile.now.numbers is.fits.numbers

  -- the words of a range
  pub range_is : (k m s l : ℕ) → s ≡ t.image.now.text_at + 4 * k → l ≡ 4 * m → words_at (in_range s l) t.words.items ≡ take m (drop k t.words.items)
  range_is k m s l e f =
      ap (words_at (in_range s l)) is.words
      ∙ range k m s l t.image.now.text_at (program_of t.image.now).words t.profile.now.numbers e f
      ∙ ap (λ z. take m (drop k z)) (sym is.words)

  pub number_is : (k : ℕ) (d : NumberedWord) → k < length t.words.items → (get_or t.words.items k d).number ≡ get_or t.profile.now.numbers k 0
  number_is k d l =
      ap (λ z. (get_or z k d).number) is.words
      ∙ number_there k t.image.now.text_at d (program_of t.image.now).words t.profile.now.numbers is.fits.numbers
      (let m = many in let n = text_words t.image.now is.image in omega arith)

  -- each word stands at an address of a word
  pub aligned : (k : ℕ) (d : NumberedWord) → k < length t.words.items → (get_or t.words.items k d).at % 4 ≡ 0
  aligned k d l =
      let m = many in
      let n = text_words t.image.now is.image in
      let start = is.image.start in
      let e = ap (λ z. (get_or z k d).at) is.words
      ∙ address_there k t.image.now.text_at d (program_of t.image.now).words t.profile.now.numbers is.fits.numbers (omega arith) in
      omega arith

  -- as many words as the text has
  pub as_many : length t.words.items ≡ length (program_of t.image.now).words
  as_many = let m = many in let n = text_words t.image.now is.image in omega arith

  -- the ticks of a range are what is between two sums
  pub ticks_are : (k m s l : ℕ) → s ≡ t.image.now.text_at + 4 * k → l ≡ 4 * m → k + m ≤ length t.words.items
      → get_or t.sums.items k 0 + sum_at (in_range s l) t.profile.now.numbers t.image.now.text_at ≡ get_or t.sums.items (k + m) 0
  ticks_are k m s l e f b =
      let ticks = sum_at-with_numbers (in_range s l) t.image.now.text_at (program_of t.image.now).words t.profile.now.numbers is.fits.numbers
      ∙ ap (λ z. sum_by (λ (x : NumberedWord). x.number) (words_at (in_range s l) z)) (sym is.words)
      ∙ ap (sum_by (λ (x : NumberedWord). x.number)) (range_is k m s l e f) in
      let first = is.sums.each k (omega arith) in
      let last = is.sums.each (k + m) b in
      let between = sum_between k m t.words.items in
      omega arith
