-- The list of blocks, row by row.
use Rattle.std.proofs.Common.{◌≡◌, ℕ, zero, suc, ◌+◌, ◌≤◌, List, [], ◌∷◌, length, get_or, drop, add-one, Option, Some, None, refl, sym, ap, ◌∙◌}
use Rattle.std.specs.Prelude.{Bool, true, false, cond, filter, find, map, unwrap_or}
use Rattle.std.specs.FinMap.{get}
use Rattle.std.specs.Option.{is_some, option_map}
use Rattle.std.proofs.lemmas.Option.{none-some}
use Rattle.std.proofs.lemmas.List.{drop_all}
use Rattle.rv_word.specs.Names.{jump_of}
use Rattle.rv_word.specs.Plain.{Words}
use Rattle.rv_word.specs.Table.{decode_of}
use Rattle.tramp_spec.specs.Blocks.{target_or}
use Rattle.tramp_spec.specs.Codes.{Code, fetched_at, is_tool_word}
use Rattle.tramp_spec.specs.Marks.{tool}
use Rattle.tramp_spec.specs.declared.mark.MarkedWord.{MarkedWord}
use Rattle.bucket_chains.specs.Left.{present_entries}
use Rattle.machine.specs.States.{words_in}
use Rattle.machine.specs.Events.{target_at}
use Rattle.machine.specs.Views.{row_of}
use Rattle.machine.specs.declared.block_row.BlockRow.{BlockRow}

-- ---- what is found among images

found_at : {A B : Type 0} (f : A → B) (b : Bool) (x : A) (o : Option A) (r : Option B) → option_map f o ≡ r → option_map f (cond b (Some x) o) ≡ cond b (Some (f x)) r
found_at f true x o r e = refl
found_at f false x o r e = e

pub find_map : {A B : Type 0} (f : A → B) (q : B → Bool) (xs : List A) → option_map f (find (λ x. q (f x)) xs) ≡ find q (map f xs)
find_map f q [] = refl
find_map f q (x ∷ xs) = found_at f (q (f x)) x (find (λ y. q (f y)) xs) (find q (map f xs)) (find_map f q xs)

-- ---- places

-- what is left stays where empty places are left out
pub left_all : {A : Type 0} (es : List (Option A)) → present_entries (filter is_some es) ≡ present_entries es
left_all [] = refl
left_all (None ∷ es) = left_all es
left_all (Some x ∷ es) = ap (λ l. x ∷ l) (left_all es)

-- ---- words

abbrev words_from : ℕ → List (Option BlockRow) → ℕ
words_from i es = words_in (map row_of (present_entries (drop i es)))

some_words : (es : List (Option BlockRow)) (i : ℕ) (x : BlockRow) → get_or es i None ≡ Some x → words_from i es ≡ x.len + words_from (suc i) es
some_words [] i x h = absurd (none-some x h)
some_words (e ∷ es) zero x h = ap (λ o. words_in (map row_of (present_entries (o ∷ es)))) h
some_words (e ∷ es) (suc i) x h = some_words es i x h

no_words : (es : List (Option BlockRow)) (i : ℕ) → get_or es i None ≡ None → words_from i es ≡ words_from (suc i) es
no_words [] zero h = refl
no_words [] (suc i) h = refl
no_words (e ∷ es) zero h = ap (λ o. words_in (map row_of (present_entries (o ∷ es)))) h
no_words (e ∷ es) (suc i) h = no_words es i h

-- those of a block, and of what stands after it
pub words_at : (es : List (Option BlockRow)) (i : ℕ) (x : BlockRow) → get_or es i None ≡ Some x → words_in (map row_of (present_entries (drop i es))) ≡ x.len + words_in (map row_of (present_entries (drop (i + 1) es)))
words_at es i x h = some_words es i x h ∙ ap (λ k. x.len + words_from k es) (sym (add-one i))

-- of no block
pub words_past : (es : List (Option BlockRow)) (i : ℕ) → get_or es i None ≡ None → words_in (map row_of (present_entries (drop i es))) ≡ words_in (map row_of (present_entries (drop (i + 1) es)))
words_past es i h = no_words es i h ∙ ap (λ k. words_from k es) (sym (add-one i))

pub words_out : (es : List (Option BlockRow)) (i : ℕ) → length es ≤ i → words_in (map row_of (present_entries (drop i es))) ≡ 0
words_out es i le = ap (λ l. words_in (map row_of (present_entries l))) (drop_all i es le)

-- ---- links

-- the word 0 is no jump
blank_leads : (a : ℕ) → jump_of (decode_of 0) a ≡ None
unfolding decode_of
blank_leads a = refl

same_target : (o : Option ℕ) → unwrap_or o 0 ≡ target_or o 0
same_target None = refl
same_target (Some t) = refl

-- where the word that is fetched leads
pub fetched_leads : (program : Words) (code : Code) (a : ℕ) (w : MarkedWord) → is_tool_word program a ≡ true → Some w ≡ fetched_at program code a true → unwrap_or (jump_of (decode_of w.word) a) 0 ≡ target_at (get code a) a
fetched_leads program code a w t e = by (get code a) (e ∙ ap (λ b. cond b (Some (unwrap_or (get code a) (tool 0))) None) t)
  where
    by : (o : Option MarkedWord) → Some w ≡ Some (unwrap_or o (tool 0)) → unwrap_or (jump_of (decode_of w.word) a) 0 ≡ target_at o a
    by None h = let s : w ≡ tool 0 = cc in ap (λ (z : MarkedWord). unwrap_or (jump_of (decode_of z.word) a) 0) s ∙ ap (λ z. unwrap_or z 0) (blank_leads a)
    by (Some v) h = let s : w ≡ v = cc in ap (λ (z : MarkedWord). unwrap_or (jump_of (decode_of z.word) a) 0) s ∙ same_target (jump_of (decode_of v.word) a)
