-- An assembled image is an image, whose text doesn't name x31.
use Rattle.std.proofs.Common.{◌≡◌, ℕ, suc, ◌+◌, ◌-◌, ◌*◌, ◌^◌, ◌<◌, ◌≤◌, ◌==◌, cond, not, Bool, true, false, Option, Some, None, Result, Ok, Err, List, [], ◌∷◌, ◌++◌, length, take, drop, refl, ap, ◌∙◌, subst, arith}
use Rattle.std.specs.List.{All, AllByRecursion, sum_by}
use Rattle.std.proofs.lemmas.List.Elements.{All-from_recursion}
use Rattle.pn_types.specs.GoodNames.{is_good_name}
use Rattle.std.specs.Prelude.{nat_lt, nat_le, codes}
use Rattle.std.proofs.Math.Seq.{take-length}
use Rattle.std.proofs.lemmas.Bool.{ltb-false}
use Rattle.std.proofs.lemmas.List.{length-append}
use Rattle.std.proofs.lemmas.List.Sums.{sum_by-cons, sum_by-append}
use Rattle.std.proofs.lemmas.List.Filters.{length-filter_both, sum_by-filter_both}
use Rattle.std.proofs.lemmas.Grind.{common_steps}
use Rattle.rv_word.specs.Names.{scratch_in, words_of}
use Rattle.pn_types.specs.Images.{IsImage, IsSegment, AreApart, has_byte, are_inside, bytes_in, text_of}
use Rattle.pn_types.specs.declared.image.Image.{Image}
use Rattle.pn_types.specs.declared.image.Segment.{Segment}
use Rattle.pn_types.specs.declared.image.Symbol.{Symbol}
use Rattle.pn_text.specs.Lines.{lines}
use Rattle.rv_asm.specs.declared.fault.AsmFault.{AsmFault}
use Rattle.rv_asm.specs.declared.fault.AsmFault.TheVariants.{NoText, TextTooLong, DataTooLong}
use Rattle.rv_asm.specs.FirstPass.{Declaration, Draft, blank_draft, draft_after_lines, len_all, text_start, data_start}
use Rattle.rv_asm.specs.SecondPass.{code}
use Rattle.rv_asm.specs.Assembly.{assembled, draft_closed, closed_by, sized, image_of, segment, data_bytes, symbol_of, symbols_from, symbols_of, belonging, belongs, is_own, ends_after, name_room, names_room}
use Rattle.rv_asm.proofs.Lengths.{AreNamed, declaration_room, declarations_room, Passes, data_short, lines_len, passed_leads, lines_shorter, blank_tight, ok_step, ok_is, passes_by}
use Rattle.rv_asm.proofs.CleanCode.{IsClean, clean_none, clean_whole, code_clean}
use Rattle.rv_asm.proofs.FormNames.{IsClean as IsCleanName, all_append}
use Rattle.rv_asm.proofs.SoundDrafts.{IsSound, AreOfModules, passed_sound, blank_sound, entry_whole}

-- ---- names

symbol_room : (m : Declaration) (ends : List ℕ) → name_room (symbol_of m ends) ≡ declaration_room m
unfolding symbol_of
symbol_room m ends = refl

symbols_room : (ends : List ℕ) (ms : List Declaration) → sum_by name_room (symbols_from ends ms) ≡ sum_by declaration_room ms
symbols_room ends [] = refl
symbols_room ends (m ∷ ms) =
    let a = symbol_room m ends in
    let b = symbols_room (ends_after m.kind ends) ms in
    let c = sum_by-cons name_room (symbol_of m ends) (symbols_from (ends_after m.kind ends) ms) in
    let d = sum_by-cons declaration_room m ms in
    omega arith

draft_room : (d : Draft) → sum_by name_room (symbols_of d) ≡ declarations_room d
draft_room d =
    let symbols = symbols_from d.ends d.declarations in
    let a = sum_by-append name_room (belonging false symbols) (belonging true symbols) in
    let b = sum_by-filter_both (λ (s : Symbol). is_own s.module) (λ (s : Symbol). not (is_own s.module)) (λ s. refl) name_room symbols in
    let c = symbols_room d.ends d.declarations in
    omega arith

symbols_many : (ends : List ℕ) (ms : List Declaration) → length (symbols_from ends ms) ≡ length ms
symbols_many ends [] = refl
symbols_many ends (m ∷ ms) = ap suc (symbols_many (ends_after m.kind ends) ms)

draft_many : (d : Draft) → length (symbols_of d) ≡ length d.declarations
draft_many d =
    let symbols = symbols_from d.ends d.declarations in
    let a = length-append (belonging false symbols) (belonging true symbols) in
    let b = length-filter_both (λ (s : Symbol). is_own s.module) (λ (s : Symbol). not (is_own s.module)) (λ s. refl) symbols in
    let c = symbols_many d.ends d.declarations in
    omega arith

-- ---- modules

abbrev HasGoodModule : Symbol → Type 0
HasGoodModule s = is_good_name s.«module» ≡ true

either : (b : Bool) (xs ys : List Symbol) → AllByRecursion HasGoodModule xs → AllByRecursion HasGoodModule ys → AllByRecursion HasGoodModule (cond b xs ys)
either true xs ys p q = p
either false xs ys p q = q

belonging_good : (own : Bool) (ss : List Symbol) → AllByRecursion HasGoodModule ss → AllByRecursion HasGoodModule (belonging own ss)
belonging_good own [] all = tt
belonging_good own (s ∷ ss) all = let rest = belonging_good own ss all.1 in either (belongs own s.«module») (s ∷ belonging own ss) (belonging own ss) (all.0, rest) rest

symbol_good : (m : Declaration) (ends : List ℕ) → is_good_name m.«module» ≡ true → HasGoodModule (symbol_of m ends)
unfolding symbol_of
symbol_good m ends h = h

symbols_good : (ends : List ℕ) (ms : List Declaration) → AreOfModules ms → AllByRecursion HasGoodModule (symbols_from ends ms)
symbols_good ends [] all = tt
symbols_good ends (m ∷ ms) all = (symbol_good m ends all.0, symbols_good (ends_after m.kind ends) ms all.1)

modules_of : (d : Draft) → AreOfModules d.declarations → AllByRecursion HasGoodModule (symbols_of d)
modules_of d all =
    let good = symbols_good d.ends d.declarations all in
    let symbols = symbols_from d.ends d.declarations in
    all_append HasGoodModule (belonging false symbols) (belonging true symbols) (belonging_good false symbols good) (belonging_good true symbols good)

-- a symbol with such a module, whose name has no zero byte and whose numbers have 64 bits
pub record IsWhole (s : Symbol) : Type 0 where
  pub name : IsCleanName s.name
  pub source : HasGoodModule s
  pub at : s.at < 2 ^ 64
  pub size : s.size < 2 ^ 64

symbol_whole : (m : Declaration) (ends : List ℕ) → IsCleanName m.name → is_good_name m.«module» ≡ true → IsWhole (symbol_of m ends)
unfolding symbol_of
symbol_whole m ends name source = record { name = name; source = source; at = omega arith; size = omega arith }

symbols_whole : (ends : List ℕ) (ms : List Declaration) → AreNamed ms → AreOfModules ms → AllByRecursion IsWhole (symbols_from ends ms)
symbols_whole ends [] names modules = tt
symbols_whole ends (m ∷ ms) names modules = (symbol_whole m ends names.0 modules.0, symbols_whole (ends_after m.kind ends) ms names.1 modules.1)

-- symbols in the order of their declarations, of which those of the program come last
pub record ArePut (symbols : List Symbol) : Type 0 where
  pub declared : List Symbol
  pub whole : AllByRecursion IsWhole declared
  pub put : belonging false declared ++ belonging true declared ≡ symbols

-- ---- segments

record Segments (text : List ℕ) (ss : List Segment) : Type 0 where
  few : length ss ≤ 2
  mapped : AllByRecursion IsSegment ss
  apart : AreApart ss
  small : sum_by (λ (s : Segment). s.size) ss ≤ 17301504
  inside : are_inside ss text_start (length text) ≡ true
  bytes : bytes_in ss text_start (length text) ≡ text

first_inside : (text : List ℕ) (others : List Segment) → 0 < length text → are_inside (segment text_start text ∷ others) text_start (length text) ≡ true
first_inside text others some =
    let here : has_byte (segment text_start text) text_start ≡ true = grind (arith, common_steps) in
    let whole : nat_le (text_start + length text) (text_start + length text) ≡ true = grind (arith, common_steps) in
    ap (λ t. cond t (nat_le (text_start + length text) (text_start + length text)) (are_inside others text_start (length text))) here ∙ whole

first_bytes : (text : List ℕ) (others : List Segment) → 0 < length text → bytes_in (segment text_start text ∷ others) text_start (length text) ≡ text
first_bytes text others some =
    let here : has_byte (segment text_start text) text_start ≡ true = grind (arith, common_steps) in
    ap (λ t. cond t (take (length text) (drop (text_start - text_start) text)) (bytes_in others text_start (length text))) here ∙ take-length text

segments_by : (none : Bool) (text bytes : List ℕ) → (length bytes == 0) ≡ none → 0 < length text → length text ≤ 524288 → length bytes ≤ 16777216 → Segments text (segment text_start text ∷ cond none [] (segment data_start bytes ∷ []))
segments_by true text bytes empty some short small = record {
  few = omega arith;
  mapped = (record { positive = some; filled = omega arith; low = omega arith; high = omega arith }, tt);
  apart = (tt, tt);
  small = let a = sum_by-cons (λ (s : Segment). s.size) (segment text_start text) [] in omega arith;
  inside = first_inside text [] some;
  bytes = first_bytes text [] some;
}
segments_by false text bytes full some short small = record {
  few = omega arith;
  mapped = (
    record { positive = some; filled = omega arith; low = omega arith; high = omega arith },
    (record { positive = not_empty; filled = omega arith; low = omega arith; high = omega arith }, tt),
  );
  apart = ((omega arith, tt), (tt, tt));
  small =
      let a = sum_by-cons (λ (s : Segment). s.size) (segment text_start text) (segment data_start bytes ∷ []) in
      let b = sum_by-cons (λ (s : Segment). s.size) (segment data_start bytes) [] in
      omega arith;
  inside = first_inside text (segment data_start bytes ∷ []) some;
  bytes = first_bytes text (segment data_start bytes ∷ []) some;
}
  where
    not_empty : 0 < length bytes
    not_empty = grind (arith, common_steps)

-- ---- the image

record Sized (d : Draft) (text : List ℕ) (image : Image) : Type 0 where
  is : image_of d text ≡ image
  some : 0 < length text
  text_len : length text ≤ 524288
  data_len : len_all d.data_part ≤ 16777216

sized_of : (d : Draft) (text : List ℕ) (image : Image) → sized d text ≡ Ok image → Sized d text image
unfolding sized
sized_of d text image e =
    let third : Result Image AsmFault = cond (nat_lt 16777216 (len_all d.data_part)) (Err (DataTooLong (len_all d.data_part))) (Ok (image_of d text)) in
    let second : Result Image AsmFault = cond (nat_lt 524288 (length text)) (Err (TextTooLong (length text))) third in
    let a = passes_by (length text == 0) NoText second image e in
    let b = passes_by (nat_lt 524288 (length text)) (TextTooLong (length text)) third image a.1 in
    let c = passes_by (nat_lt 16777216 (len_all d.data_part)) (DataTooLong (len_all d.data_part)) (Ok (image_of d text)) image b.1 in
    let text_fits = ltb-false 524288 (length text) b.0 in
    let data_fits = ltb-false 16777216 (len_all d.data_part) c.0 in
    let some : 0 < length text = grind (arith, common_steps, a.0) in
    record { is = ok_is (image_of d text) image c.1; some = some; text_len = omega arith; data_len = omega arith }

closed_is : (d whole : Draft) (o : Option ℕ) → closed_by d o ≡ Ok whole → d ≡ whole
closed_is d whole None e = ok_is d whole e
closed_is d whole (Some line) e = absurd (cc)

-- what holds of the image of a text of `len` bytes
pub record IsAssembled (len : ℕ) (image : Image) : Type 0 where
  pub sound : len < 2 ^ 31 → IsImage image
  pub unscratched : scratch_in (words_of (text_of image)) image.text_at ≡ None
  pub names : names_room image.symbols ≤ 127 * (len + 1)
  pub modules : All HasGoodModule image.symbols
  pub symbols : ArePut image.symbols

image_is : (len : ℕ) (d : Draft) (text : List ℕ) → IsSound d → IsClean text → 0 < length text → length text ≤ 524288 → length (data_bytes d.data_part) ≤ 16777216 → length d.declarations ≤ len + 1 → declarations_room d ≤ 127 * (len + 1) → AreNamed d.declarations → IsAssembled len (image_of d text)
unfolding image_of
image_is len d text sound clean some short small few room named =
    let ss = segments_by (length (data_bytes d.data_part) == 0) text (data_bytes d.data_part) refl some short small in
    let count = draft_many d in
    let same = draft_room d in
    let two = ss.few in
    let sizes = ss.small in
    let words = clean_whole text clean in
    record {
      sound = λ below. record {
        few = omega arith;
        mapped = ss.mapped;
        apart = ss.apart;
        small = omega arith;
        positive = some;
        short = short;
        start = refl;
        whole = omega arith;
        inside = ss.inside;
        entry = entry_whole d (codes "_start") sound;
        symbols = omega arith;
      };
      unscratched = ap (λ b. scratch_in (words_of b) text_start) ss.bytes ∙ clean_none text text_start clean;
      names = omega arith;
      modules = All-from_recursion HasGoodModule (symbols_of d) (modules_of d sound.declarations);
      symbols = record { declared = symbols_from d.ends d.declarations; whole = symbols_whole d.ends d.declarations named sound.declarations; put = refl };
    }

-- What a text stands for is an image, whose text doesn't name x31.
pub assembled_is : (text : List ℕ) (image : Image) → assembled text ≡ Ok image → IsAssembled (length text) image
unfolding assembled
assembled_is text image e =
    let first = ok_step (draft_after_lines 1 blank_draft (lines text)) _ image e in
    let whole = ok_step (draft_closed first.0) _ image first.1.1 in
    let bytes = ok_step (code whole.0.labels whole.0.text_part) _ image whole.1.1 in
    let found = sized_of whole.0 bytes.0 image bytes.1.1 in
    let same : first.0 ≡ whole.0 = closed_is first.0 whole.0 first.0.opened whole.1.0 in
    let passes = subst (λ (d : Draft). Passes (lines_len (lines text)) blank_draft d) same (passed_leads 1 blank_draft first.0 (lines text) first.1.0 blank_tight) in
    let sound = subst IsSound same (passed_sound 1 blank_draft first.0 (lines text) first.1.0 blank_sound) in
    let clean = code_clean whole.0.labels whole.0.text_part bytes.0 sound.code bytes.1.0 in
    let room = passes.room in
    let count = passes.count in
    let inside = data_short whole.0.data_part in
    let data_fits = found.data_len in
    let len = lines_shorter text in
    subst (IsAssembled (length text)) found.is
    (image_is (length text) whole.0 bytes.0 sound clean found.some found.text_len (omega arith) (omega arith) (omega arith) passes.tight.named)
