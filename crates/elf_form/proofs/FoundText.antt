-- The text of a file without a fault lies in the bytes of one segment.
use Rattle.std.proofs.Common.{◌≡◌, ℕ, zero, suc, ◌+◌, ◌-◌, ◌%◌, ◌<◌, ◌≤◌, Bool, true, false, not, Option, Some, None, List, [], ◌∷◌, length, drop, take, map, refl, sym, ap, ◌∙◌, subst, arith, inl, inr, length-take, length-drop, min}
use Rattle.std.specs.Prelude.{fold, filter, find, nat_lt, nat_le, ◌==◌, ◌||◌, if◌then◌else◌, option_map, is_none, IfSome, sum_by}
use Rattle.std.specs.List.{AllByRecursion, list_any}
use Rattle.std.proofs.lemmas.List.{drop-drop, take-take}
use Rattle.std.proofs.lemmas.List.Sums.{sum_by-cons}
use Rattle.std.proofs.lemmas.Bool.{ltb-false}
use Rattle.std.proofs.lemmas.Grind.{common_steps}
use Rattle.rv_word.specs.Names.{words_of, scratch_in}
use Rattle.elf_form.specs.Fields.{part}
use Rattle.elf_form.specs.Faults.{fault_where, reaches_past}
use Rattle.elf_form.specs.Segments.{is_around, end_of, segment_of, total_size}
use Rattle.elf_form.specs.Texts.{is_text, intrudes, widened, text_range, segment_around, range_bytes, text_bytes, is_two_texts, is_entry, range_fault}
use Rattle.elf_form.specs.declared.load.Load.{Load}
use Rattle.elf_form.specs.declared.section.SectionHeader.{SectionHeader}
use Rattle.elf_form.specs.declared.section.TextRange.{TextRange}
use Rattle.elf_form.specs.declared.fault.ElfFault.TheVariants.{TwoTexts, TextUnaligned, TextTooLong, UsesScratch, BadEntry}
use Rattle.elf_form.proofs.FaultLemmas.{no_fault, fails}
use Rattle.elf_form.proofs.SortedLoads.{IsSound, Ascend, IsIn, at-in}
use Rattle.pn_types.specs.Images.{IsSegment, AreApart, has_byte, are_inside, bytes_in}

-- ---- the range isn't empty

widened_positive : (o : Option TextRange) (s : SectionHeader) → IfSome o (λ r. r.at < r.end) → is_text s ≡ true → IfSome (widened o s) (λ r. r.at < r.end)
widened_positive None s h text = let positive : 0 < s.size = grind (arith, common_steps) in omega arith
widened_positive (Some r) s h text = let positive : 0 < s.size = grind (arith, common_steps) in omega (arith, h)

fold_positive : (o : Option TextRange) (ss : List SectionHeader) → IfSome o (λ r. r.at < r.end) → IfSome (fold widened o (filter is_text ss)) (λ r. r.at < r.end)
fold_positive o [] h = h
fold_positive o (s ∷ ss) h = by (is_text s) refl (fold_positive o ss h) (λ (k : IfSome (widened o s) (λ r. r.at < r.end)). fold_positive (widened o s) ss k)
  where
    by : (b : Bool) → is_text s ≡ b → IfSome (fold widened o (filter is_text ss)) (λ r. r.at < r.end) → (IfSome (widened o s) (λ r. r.at < r.end) → IfSome (fold widened (widened o s) (filter is_text ss)) (λ r. r.at < r.end)) → IfSome (fold widened o (if is_text s then s ∷ filter is_text ss else filter is_text ss)) (λ r. r.at < r.end)
    by true is skip more = rw is (more (widened_positive o s h is))
    by false is skip more = rw is skip

pub range_positive : (ss : List SectionHeader) (r : TextRange) → text_range ss ≡ Some r → r.at < r.end
range_positive ss r e = subst (λ o. IfSome o (λ r. r.at < r.end)) e (fold_positive None ss tt)

-- ---- the segment around it

found : (r : TextRange) (ls : List Load) → is_none (find (λ l. is_around l r) ls) ≡ false → (l : Load) × (find (λ l. is_around l r) ls ≡ Some l) × (is_around l r ≡ true) × IsIn l ls
found r [] h = absurd (cc)
found r (l ∷ ls) h = by (is_around l r) refl (λ (k : is_none (find (λ l. is_around l r) ls) ≡ false). found r ls k)
  where
    by : (b : Bool) → is_around l r ≡ b → (is_none (find (λ l. is_around l r) ls) ≡ false → (m : Load) × (find (λ l. is_around l r) ls ≡ Some m) × (is_around m r ≡ true) × IsIn m ls) → (m : Load) × ((if is_around l r then Some l else find (λ l. is_around l r) ls) ≡ Some m) × (is_around m r ≡ true) × IsIn m (l ∷ ls)
    by true is later = (l, ap (λ t. if t then Some l else find (λ l. is_around l r) ls) is, is, inl refl)
    by false is later =
        let e : find (λ l. is_around l r) (l ∷ ls) ≡ find (λ l. is_around l r) ls = ap (λ t. if t then Some l else find (λ l. is_around l r) ls) is in
        let a = later (ap is_none (sym e) ∙ h) in
        (a.0, e ∙ a.1, a.2, inr a.3)

-- the file part of a sound segment is whole
part_len : (b : List ℕ) (l : Load) → IsSound (length b) l → length (part b l.header.offset l.header.file_size) ≡ l.header.file_size
part_len b l h =
    let e : length (part b l.header.offset l.header.file_size) ≡ min l.header.file_size (length b - l.header.offset) = length-take l.header.file_size (drop l.header.offset b) ∙ ap (λ n. min l.header.file_size n) (length-drop l.header.offset b) in
    let w : reaches_past l.header.offset l.header.file_size (length b) ≡ false = h.within in
    grind (arith, common_steps, e)

part_of_part : (b : List ℕ) (off fs d len : ℕ) → d + len ≤ fs → take len (drop d (take fs (drop off b))) ≡ take len (drop (off + d) b)
part_of_part b off fs d len le = cut d fs (drop off b) le ∙ ap (λ x. take len x) (drop-drop d off b)
  where
    cut : (d fs : ℕ) (xs : List ℕ) → d + len ≤ fs → take len (drop d (take fs xs)) ≡ take len (drop d xs)
    cut zero fs xs le = take-take len fs xs (omega arith)
    cut (suc d) zero xs le = absurd (omega arith)
    cut (suc d) (suc fs) [] le = refl
    cut (suc d) (suc fs) (x ∷ xs) le = cut d fs xs (omega arith)

module _ (b : List ℕ) (r : TextRange) (positive : r.at < r.end) where
  len : ℕ
  len = r.end - r.at

  around_has : (l : Load) → IsSound (length b) l → is_around l r ≡ true → has_byte (segment_of b l) r.at ≡ true
  around_has l h around = let e = part_len b l h in grind (arith, common_steps)

  around_inside : (l : Load) → IsSound (length b) l → is_around l r ≡ true → nat_le (r.at + (r.end - r.at)) (l.header.address + length (part b l.header.offset l.header.file_size)) ≡ true
  around_inside l h around = let e = part_len b l h in grind (arith, common_steps)

  around_bytes : (l : Load) → IsSound (length b) l → is_around l r ≡ true → take (r.end - r.at) (drop (r.at - l.header.address) (part b l.header.offset l.header.file_size)) ≡ range_bytes b r (Some l)
  around_bytes l h around =
      let low : l.header.address ≤ r.at = grind (arith, common_steps) in
      let high : r.end ≤ l.header.address + l.header.file_size = grind (arith, common_steps) in
      part_of_part b l.header.offset l.header.file_size (r.at - l.header.address) (r.end - r.at) (omega (arith, low, high, positive))

  -- a segment before the one around the text has none of it
  before_has_not : (m l : Load) → IsSound (length b) m → end_of m ≤ l.header.address → is_around l r ≡ true → has_byte (segment_of b m) r.at ≡ false
  before_has_not m l h le around =
      let e = part_len b m h in
      let low : l.header.address ≤ r.at = grind (arith, common_steps) in
      let filled = h.filled in
      grind (arith, common_steps)

  pub inside_again : (l : Load) (ms : List Load) → Ascend ms → AllByRecursion (IsSound (length b)) ms → IsIn l ms → is_around l r ≡ true → (are_inside (map (segment_of b) ms) r.at (r.end - r.at) ≡ true) × (bytes_in (map (segment_of b) ms) r.at (r.end - r.at) ≡ range_bytes b r (Some l))
  inside_again l [] asc all is around = absurd is
  inside_again l (m ∷ ms) asc all (inl e) around =
      let here : is_around m r ≡ true = ap (λ x. is_around x r) e ∙ around in
      let has = around_has m all.0 here in
      let n = r.end - r.at in (
        ap (λ t. if t then nat_le (r.at + n) (m.header.address + length (part b m.header.offset m.header.file_size)) else are_inside (map (segment_of b) ms) r.at n) has ∙ around_inside m all.0 here,
        ap (λ t. if t then take n (drop (r.at - m.header.address) (part b m.header.offset m.header.file_size)) else bytes_in (map (segment_of b) ms) r.at n) has ∙ around_bytes m all.0 here ∙ ap (λ x. range_bytes b r (Some x)) e,
      )
  inside_again l (m ∷ ms) asc all (inr is) around =
      let has = before_has_not m l all.0 (at-in (λ x. end_of m ≤ x.header.address) ms l asc.0 is) around in
      let later = inside_again l ms asc.1 all.1 is around in
      let n = r.end - r.at in (
        ap (λ t. if t then nat_le (r.at + n) (m.header.address + length (part b m.header.offset m.header.file_size)) else are_inside (map (segment_of b) ms) r.at n) has ∙ later.0,
        ap (λ t. if t then take n (drop (r.at - m.header.address) (part b m.header.offset m.header.file_size)) else bytes_in (map (segment_of b) ms) r.at n) has ∙ later.1,
      )

-- ---- the segments of the image

pub are_mapped : (b : List ℕ) (len : ℕ) (ms : List Load) → AllByRecursion (IsSound len) ms → AllByRecursion IsSegment (map (segment_of b) ms)
are_mapped b len [] all = tt
are_mapped b len (m ∷ ms) all =
    (record { positive = all.0.positive; filled = omega (arith, length-take m.header.file_size (drop m.header.offset b), all.0.filled); low = all.0.low; high = all.0.high }, are_mapped b len ms all.1)

apart_one : (b : List ℕ) (l : Load) (ms : List Load) → AllByRecursion (λ m. end_of l ≤ m.header.address) ms → AllByRecursion (λ t. l.header.address + l.header.memory_size ≤ t.at) (map (segment_of b) ms)
apart_one b l [] all = tt
apart_one b l (m ∷ ms) all = (all.0, apart_one b l ms all.1)

pub apart_segments : (b : List ℕ) (ms : List Load) → Ascend ms → AreApart (map (segment_of b) ms)
apart_segments b [] asc = tt
apart_segments b (m ∷ ms) asc = (apart_one b m ms asc.0, apart_segments b ms asc.1)

pub sizes : (b : List ℕ) (ms : List Load) → sum_by (λ s. s.size) (map (segment_of b) ms) ≡ total_size ms
sizes b [] = refl
sizes b (m ∷ ms) = sum_by-cons (λ s. s.size) (segment_of b m) (map (segment_of b) ms) ∙ ap (λ n. m.header.memory_size + n) (sizes b ms) ∙ sym (sum_by-cons (λ l. l.header.memory_size) m ms)

-- ---- what the checks say

pub record Text (b : List ℕ) (loads : List Load) (entry : ℕ) (r : TextRange) : Type 0 where
  pub load : Load
  pub around : is_around load r ≡ true
  pub among : IsIn load loads
  pub start : r.at % 4 ≡ 0
  pub end : r.end % 4 ≡ 0
  pub short : r.end - r.at ≤ 524288
  pub unscratched : scratch_in (words_of (range_bytes b r (Some load))) r.at ≡ None
  pub enters : is_entry entry r ≡ true

not_false : (t : Bool) → not t ≡ false → t ≡ true
not_false true h = refl
not_false false h = absurd (cc)

or_false : (s t : Bool) → (s || t) ≡ false → s ≡ false
or_false true t h = h
or_false false t h = refl

none_mapped : (o : Option ℕ) → option_map UsesScratch o ≡ None → o ≡ None
none_mapped None h = refl
none_mapped (Some a) h = absurd (cc)

pub text_found : (b : List ℕ) (loads : List Load) (sections : List SectionHeader) (entry : ℕ) (r : TextRange) → range_fault b loads sections entry (Some r) ≡ None → Text b loads entry r
unfolding is_two_texts segment_around
text_found b loads sections entry r h =
    let a = no_fault (fault_where (is_two_texts loads sections r) (TwoTexts r.at)) _ h in
    let s = no_fault (fault_where (not (r.at % 4 == 0)) (TextUnaligned r.at)) _ a.1 in
    let e = no_fault (fault_where (not (r.end % 4 == 0)) (TextUnaligned r.end)) _ s.1 in
    let l = no_fault (fault_where (nat_lt 524288 (r.end - r.at)) (TextTooLong (r.end - r.at))) _ e.1 in
    let u = no_fault (option_map UsesScratch (scratch_in (words_of (text_bytes b loads r)) r.at)) _ l.1 in
    let n = no_fault (fault_where (not (is_entry entry r)) (BadEntry entry)) _ u.1 in
    let f = found r loads (or_false (is_none (find (λ l. is_around l r) loads)) (list_any (intrudes r) sections) (fails _ _ a.0)) in
    let start : (r.at % 4 == 0) ≡ true = not_false _ (fails _ _ s.0) in
    let end' : (r.end % 4 == 0) ≡ true = not_false _ (fails _ _ e.0) in
    record {
      load = f.0;
      around = f.2;
      among = f.3;
      start = grind (arith, common_steps);
      end = grind (arith, common_steps);
      short = ltb-false 524288 (r.end - r.at) (fails _ _ l.0);
      unscratched = ap (λ o. scratch_in (words_of (range_bytes b r o)) r.at) (sym f.1) ∙ none_mapped _ u.0;
      enters = not_false _ (fails _ _ n.0);
    }
