-- What a store begins with.
use Rattle.std.proofs.Common.{◌≡◌, ℕ, zero, suc, ◌+◌, ◌*◌, ◌/◌, ◌≤◌, List, [], ◌∷◌, ◌++◌, length, drop, refl, ap, sym, ◌∙◌, arith, append_assoc, Some}
use Rattle.pn_types.specs.declared.image.Image.{Image}
use Rattle.pn_types.specs.declared.limits.TheConstants.{SEGMENTS_TO}
use Rattle.pn_types.specs.Images.{IsImage, text_of}
use Rattle.pn_types.proofs.ImageLemmas.{text_range}
use Rattle.rv_word.specs.Names.{word_at, words_in, words_of}
use Rattle.std.specs.Prelude.{map}
use Rattle.std.specs.FinMap.{from_entries, empty}
use Rattle.std.proofs.lemmas.List.{append-nil}
use Rattle.tramp_spec.specs.Codes.{text_entries, text_code}
use Rattle.tramp_spec.specs.Marks.{own}
use Rattle.code_store.specs.Stores.{StoredCode}
use Rattle.code_store.specs.Views.{entries_from, code_of}
use Rattle.code_store.proofs.Entries.{read}

-- ---- the words of an image

-- one word more, before those that are to come
pub word_step : (n k w : ℕ) (done new text rest : List ℕ) → n ≡ suc k → w ≡ word_at text → rest ≡ drop 4 text → new ≡ done ++ w ∷ [] → new ++ words_in k rest ≡ done ++ words_in n text
word_step n k w done new text rest n-is e r h =
    ap (λ z. z ++ words_in k rest) h
    ∙ append_assoc done (w ∷ []) (words_in k rest)
    ∙ ap (λ z. done ++ z ∷ words_in k rest) e
    ∙ ap (λ z. done ++ word_at text ∷ words_in k z) r
    ∙ sym (ap (λ j. done ++ words_in j text) n-is)

length-words_in : (n : ℕ) (bytes : List ℕ) → length (words_in n bytes) ≡ n
length-words_in zero bytes = refl
length-words_in (suc n) bytes = ap suc (length-words_in n (drop 4 bytes))

-- the words of an image's text end where segments end at most
pub words_end : (image : Image) (words : List ℕ) → IsImage image → words ≡ words_of (text_of image) → image.text_at + 4 * length words ≤ SEGMENTS_TO
words_end image words is read =
    let same = ap length read in
    let r = text_range image is in
    let n : length (words_of (text_of image)) ≡ length (text_of image) / 4 = length-words_in (length (text_of image) / 4) (text_of image) in
    let high = r.high in
    let len = r.length in
    omega arith

-- ---- the first value

entries-own : (ws : List ℕ) (at : ℕ) → entries_from at (map (λ x. Some x) (map own ws)) ≡ text_entries at ws
entries-own [] at = refl
entries-own (w ∷ ws) at = ap (λ es. (at, own w) ∷ es) (entries-own ws (at + 4))

pub code-first : (ws : List ℕ) (at tools_at : ℕ) → code_of at (map own ws) tools_at [] [] ≡ text_code (record { at = at; words = ws })
code-first ws at tools_at = ap (λ es. from_entries es) (append-nil (entries_from at (map (λ x. Some x) (map own ws))) ∙ entries-own ws at)

-- a program's words, before anything is put
abbrev pub stored_first : ℕ → List ℕ → StoredCode
stored_first at words = record { program = record { at = at; words = words }; code = text_code (record { at = at; words = words }); owners = empty }
