-- A word of the text by its place.
use Rattle.std.proofs.Common.{◌≡◌, ℕ, zero, suc, ◌+◌, ◌*◌, ◌-◌, ◌/◌, ◌%◌, ◌<◌, ◌≤◌, List, length, take, drop, Option, Some, None, refl, ap, sym, ◌∙◌, arith}
use Rattle.std.specs.Prelude.{slice_get}
use Rattle.std.proofs.lemmas.List.{drop-drop, take_rest}
use Rattle.rv_word.specs.Names.{word_at, words_in, words_of}
use Rattle.rv_word.specs.Plain.{program_word, words_from}
use Rattle.std.proofs.lemmas.Bool.Decides.{nat_tests}

get-words_in : (n k : ℕ) (bytes : List ℕ) → k < n → slice_get (words_in n bytes) k ≡ Some (word_at (drop (4 * k) bytes))
get-words_in zero k bytes l = absurd (omega arith)
get-words_in (suc n) zero bytes l = refl
get-words_in (suc n) (suc k) bytes l =
    let e : 4 + 4 * k ≡ 4 * suc k = omega arith in
    get-words_in n k (drop 4 bytes) (omega arith) ∙ ap (λ r. Some (word_at r)) (drop-drop (4 * k) 4 bytes ∙ ap (λ j. drop j bytes) e)

past-words_in : (n k : ℕ) (bytes : List ℕ) → n ≤ k → slice_get (words_in n bytes) k ≡ None
past-words_in zero k bytes l = refl
past-words_in (suc n) zero bytes l = absurd (omega arith)
past-words_in (suc n) (suc k) bytes l = past-words_in n k (drop 4 bytes) (omega arith)

-- the word at a place of the text, and none past its end
pub get-words_of : (bytes : List ℕ) (k : ℕ) → k < length bytes / 4 → slice_get (words_of bytes) k ≡ Some (word_at (drop (4 * k) bytes))
get-words_of bytes k l = get-words_in (length bytes / 4) k bytes l

pub past-words_of : (bytes : List ℕ) (k : ℕ) → length bytes / 4 ≤ k → slice_get (words_of bytes) k ≡ None
past-words_of bytes k l = past-words_in (length bytes / 4) k bytes l

aligned : (at pc : ℕ) (bytes : List ℕ) → at ≤ pc → (pc - at) % 4 ≡ 0 → program_word (words_from at bytes) pc ≡ slice_get (words_of bytes) ((pc - at) / 4)
aligned at pc bytes l e = grind (arith, nat_tests)

-- the word at an address of the text
pub word_there : (at pc w : ℕ) (bytes : List ℕ) → at ≤ pc → (pc - at) % 4 ≡ 0 → (pc - at) / 4 < length bytes / 4 → w ≡ word_at (take (length bytes - (pc - at)) (drop (pc - at) bytes)) → Some w ≡ program_word (words_from at bytes) pc
word_there at pc w bytes l e h is =
    let same : 4 * ((pc - at) / 4) ≡ pc - at = omega arith in
    ap Some (is ∙ ap word_at (take_rest bytes (pc - at) ∙ sym (ap (λ j. drop j bytes) same)))
    ∙ sym (aligned at pc bytes l e ∙ get-words_of bytes ((pc - at) / 4) h)

-- no word is past the text
pub no_word : (at pc : ℕ) (bytes : List ℕ) → at ≤ pc → (pc - at) % 4 ≡ 0 → length bytes / 4 ≤ (pc - at) / 4 → ◌≡◌ {A = Option ℕ} None (program_word (words_from at bytes) pc)
no_word at pc bytes l e h = sym (aligned at pc bytes l e ∙ past-words_of bytes ((pc - at) / 4) h)
