-- The words of a program's text have 32 bits, where its file holds bytes.
use Rattle.std.proofs.Common.{◌≡◌, ℕ, zero, suc, ◌/◌, ◌^◌, ◌<◌, cond, Bool, true, false, Option, Some, None, Result, Ok, Err, List, [], ◌∷◌, ◌++◌, length, take, drop, map, refl, sym, ap, ◌∙◌, subst, arith}
use Rattle.std.specs.Prelude.{nat_lt, ◌==◌, slice_index, ◌-◌}
use Rattle.std.specs.List.{AllByRecursion, flat_map}
use Rattle.std.proofs.Math.Seq.{take-length}
use Rattle.std.proofs.lemmas.Grind.{common_steps}
use Rattle.elf_form.proofs.AcceptedImages.{meant}
use Rattle.outside.specs.Outside.{IsBytes}
use Rattle.elf_form.specs.Meaning.{fault_with, image_with, meaning_of, meaning_with, segments_of, tables_of}
use Rattle.elf_form.specs.Segments.{by_address, segment_of}
use Rattle.elf_form.specs.declared.load.Load.{Load}
use Rattle.pn_text.specs.Lines.{lines}
use Rattle.pn_types.specs.Images.{bytes_in, has_byte, text_of}
use Rattle.pn_types.specs.declared.image.Image.{Image}
use Rattle.pn_types.specs.declared.image.Segment.{Segment}
use Rattle.rv_asm.proofs.CleanCode.{IsClean, code_clean}
use Rattle.rv_asm.proofs.SoundDrafts.{IsSound, blank_sound, passed_sound}
use Rattle.rv_asm.specs.Assembly.{assembled, draft_closed, closed_by, data_bytes, image_of, segment, sized}
use Rattle.rv_asm.specs.FirstPass.{◌>>=◌, Draft, blank_draft, data_start, len_all, draft_after_lines, text_start}
use Rattle.rv_asm.specs.SecondPass.{code, word_bytes}
use Rattle.rv_asm.specs.declared.fault.AsmFault.{AsmFault}
use Rattle.rv_asm.specs.declared.fault.AsmFault.TheVariants.{DataTooLong, NoText, TextTooLong}
use Rattle.rv_word.specs.Names.{word_at, words_in, words_of}

-- ---- bytes

abbrev AreBytes : List ℕ → Type 0
AreBytes = AllByRecursion (λ x. x < 256)

byte_at : (xs : List ℕ) (i : ℕ) → AreBytes xs → slice_index xs i < 256
byte_at [] i h = omega arith
byte_at (x ∷ xs) zero h = h.0
byte_at (x ∷ xs) (suc i) h = byte_at xs i h.1

taken : (n : ℕ) (xs : List ℕ) → AreBytes xs → AreBytes (take n xs)
taken zero xs h = tt
taken (suc n) [] h = tt
taken (suc n) (x ∷ xs) h = (h.0, taken n xs h.1)

dropped : (n : ℕ) (xs : List ℕ) → AreBytes xs → AreBytes (drop n xs)
dropped zero xs h = h
dropped (suc n) [] h = tt
dropped (suc n) (x ∷ xs) h = dropped n xs h.1

appended : (xs ys : List ℕ) → AreBytes xs → AreBytes ys → AreBytes (xs ++ ys)
appended [] ys h g = g
appended (x ∷ xs) ys h g = (h.0, appended xs ys h.1 g)

all_bytes : (xs : List ℕ) → IsBytes xs → AreBytes xs
all_bytes [] h = tt
all_bytes (x ∷ xs) h = (h 0, all_bytes xs (λ i. h (suc i)))

-- ---- words

word_low : (xs : List ℕ) → AreBytes xs → word_at xs < 2 ^ 32
word_low xs h =
    let four = taken 4 xs h in
    let a = byte_at (take 4 xs) 0 four in
    let b = byte_at (take 4 xs) 1 four in
    let c = byte_at (take 4 xs) 2 four in
    let d = byte_at (take 4 xs) 3 four in
    omega arith

words_low : (n : ℕ) (xs : List ℕ) → AreBytes xs → AllByRecursion (λ w. w < 2 ^ 32) (words_in n xs)
words_low zero xs h = tt
words_low (suc n) xs h = (word_low xs h, words_low n (drop 4 xs) (dropped 4 xs h))

pub narrow : (xs : List ℕ) → AreBytes xs → AllByRecursion (λ w. w < 2 ^ 32) (words_of xs)
narrow xs h = words_low (length xs / 4) xs h

-- ---- ELF files

bytes_within : (ss : List Segment) (at len : ℕ) → AllByRecursion (λ s. AreBytes s.bytes) ss → AreBytes (bytes_in ss at len)
bytes_within [] at len h = tt
bytes_within (s ∷ ss) at len h = by (has_byte s at) (bytes_within ss at len h.1)
  where
    by : (b : Bool) → AreBytes (bytes_in ss at len) → AreBytes (cond b (take len (drop (at - s.at) s.bytes)) (bytes_in ss at len))
    by true rest = taken len (drop (at - s.at) s.bytes) (dropped (at - s.at) s.bytes h.0)
    by false rest = rest

of_loads : (b : List ℕ) (loads : List Load) → AreBytes b → AllByRecursion (λ s. AreBytes s.bytes) (map (segment_of b) loads)
of_loads b [] h = tt
of_loads b (l ∷ loads) h = (taken l.header.file_size (drop l.header.offset b) (dropped l.header.offset b h), of_loads b loads h)

pub elf_narrow : (b : List ℕ) (i : Image) → IsBytes b → meaning_of b ≡ Ok i → AllByRecursion (λ w. w < 2 ^ 32) (words_of (text_of i))
unfolding meaning_of meaning_with segments_of
elf_narrow b i bytes e =
    let t = tables_of b in
    let m = meant (fault_with b t) (image_with b t) i e in
    subst (λ (x : Image). AllByRecursion (λ w. w < 2 ^ 32) (words_of (text_of x))) m.1
    (narrow (text_of (image_with b t)) (bytes_within (image_with b t).segments (image_with b t).text_at (image_with b t).text_len (of_loads b (by_address t.loads) (all_bytes b bytes))))

-- ---- assembly texts; the first three are private lemmas of rv_asm

ok_is : {A : Type 0} (a x : A) → ◌≡◌ {A = Result A AsmFault} (Ok a) (Ok x) → a ≡ x
ok_is a x e = cc

ok_step : {A B : Type 0} (r : Result A AsmFault) (f : A → Result B AsmFault) (x : B) → (r >>= f) ≡ Ok x → (a : A) × ((r ≡ Ok a) × (f a ≡ Ok x))
ok_step (Ok a) f x e = (a, (refl, e))
ok_step (Err fault) f x e = absurd (cc)

passes_by : {A : Type 0} (b : Bool) (fault : AsmFault) (r : Result A AsmFault) (x : A) → cond b (Err fault) r ≡ Ok x → (b ≡ false) × (r ≡ Ok x)
passes_by true fault r x e = absurd (cc)
passes_by false fault r x e = (refl, e)

word_is_bytes : (w : ℕ) → AreBytes (word_bytes w)
unfolding word_bytes
word_is_bytes w = (omega arith, (omega arith, (omega arith, (omega arith, tt))))

all_words : (ws : List ℕ) → AreBytes (flat_map word_bytes ws)
all_words [] = tt
all_words (w ∷ ws) = appended (word_bytes w) (flat_map word_bytes ws) (word_is_bytes w) (all_words ws)

first_bytes : (text : List ℕ) (others : List Segment) → 0 < length text → bytes_in (segment text_start text ∷ others) text_start (length text) ≡ text
first_bytes text others some =
    let here : has_byte (segment text_start text) text_start ≡ true = grind (arith, common_steps) in
    ap (λ t. cond t (take (length text) (drop (text_start - text_start) text)) (bytes_in others text_start (length text))) here ∙ take-length text

record Sized (d : Draft) (text : List ℕ) (image : Image) : Type 0 where
  is : image_of d text ≡ image
  some : 0 < length text

sized_of : (d : Draft) (text : List ℕ) (image : Image) → sized d text ≡ Ok image → Sized d text image
unfolding sized
sized_of d text image e =
    let third : Result Image AsmFault = cond (nat_lt 16777216 (len_all d.data_part)) (Err (DataTooLong (len_all d.data_part))) (Ok (image_of d text)) in
    let second : Result Image AsmFault = cond (nat_lt 524288 (length text)) (Err (TextTooLong (length text))) third in
    let a = passes_by (length text == 0) NoText second image e in
    let b = passes_by (nat_lt 524288 (length text)) (TextTooLong (length text)) third image a.1 in
    let c = passes_by (nat_lt 16777216 (len_all d.data_part)) (DataTooLong (len_all d.data_part)) (Ok (image_of d text)) image b.1 in
    let some : 0 < length text = grind (arith, common_steps, a.0) in
    record { is = ok_is (image_of d text) image c.1; some = some }

text_is : (d : Draft) (text : List ℕ) → 0 < length text → text_of (image_of d text) ≡ text
unfolding image_of
text_is d text some = first_bytes text (cond (length (data_bytes d.data_part) == 0) [] (segment data_start (data_bytes d.data_part) ∷ [])) some

closed_is : (d whole : Draft) (o : Option ℕ) → closed_by d o ≡ Ok whole → d ≡ whole
closed_is d whole None e = ok_is d whole e
closed_is d whole (Some line) e = absurd (cc)

pub asm_narrow : (text : List ℕ) (image : Image) → assembled text ≡ Ok image → AllByRecursion (λ w. w < 2 ^ 32) (words_of (text_of image))
unfolding assembled
asm_narrow text image e =
    let first = ok_step (draft_after_lines 1 blank_draft (lines text)) _ image e in
    let whole = ok_step (draft_closed first.0) _ image first.1.1 in
    let bytes = ok_step (code whole.0.labels whole.0.text_part) _ image whole.1.1 in
    let found = sized_of whole.0 bytes.0 image bytes.1.1 in
    let same : first.0 ≡ whole.0 = closed_is first.0 whole.0 first.0.opened whole.1.0 in
    let sound = subst IsSound same (passed_sound 1 blank_draft first.0 (lines text) first.1.0 blank_sound) in
    let clean : IsClean bytes.0 = code_clean whole.0.labels whole.0.text_part bytes.0 sound.code bytes.1.0 in
    let low : AreBytes bytes.0 = subst AreBytes (sym clean.are) (all_words clean.words) in
    subst (λ (x : Image). AllByRecursion (λ w. w < 2 ^ 32) (words_of (text_of x))) found.is
    (narrow (text_of (image_of whole.0 bytes.0)) (subst AreBytes (sym (text_is whole.0 bytes.0 found.some)) low))
