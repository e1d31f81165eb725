-- The arrays of the tool text, filled up where nothing was put.
use Rattle.std.proofs.Common.{◌≡◌, ℕ, zero, suc, ◌+◌, ◌-◌, max, List, [], ◌∷◌, ◌++◌, length, replicate, Option, Some, None, refl, sym, ap, subst, ◌∙◌, arith}
use Rattle.std.specs.Prelude.{map}
use Rattle.std.specs.FinMap.{from_entries}
use Rattle.std.proofs.lemmas.List.{length-append, length-replicate}
use Rattle.tramp_spec.specs.Marks.{tool}
use Rattle.tramp_spec.specs.declared.mark.MarkedWord.{MarkedWord}
use Rattle.code_store.specs.declared.word_use.WordUse.{WordUse}
use Rattle.code_store.specs.declared.word_use.WordUse.TheVariants.{Unwritten}
use Rattle.code_store.specs.Views.{point_of, if_put, entries_from, put_among, AreBlank, code_of, owners_of}

-- where nothing stands there are no entries
no_entries : {A : Type 0} (k at : ℕ) → entries_from {A = A} at (replicate k None) ≡ []
no_entries zero at = refl
no_entries (suc k) at = no_entries k (at + 4)

entries-filled : {A : Type 0} (xs : List (Option A)) (k at : ℕ) → entries_from at (xs ++ replicate k None) ≡ entries_from at xs
entries-filled [] k at = no_entries k at
entries-filled (None ∷ xs) k at = entries-filled xs k (at + 4)
entries-filled (Some x ∷ xs) k at = ap (λ es. (at, x) ∷ es) (entries-filled xs k (at + 4))

none_put : (k : ℕ) (w : MarkedWord) → put_among (replicate k w) (replicate k Unwritten) ≡ replicate k None
none_put zero w = refl
none_put (suc k) w = ap (λ xs. None ∷ xs) (none_put k w)

put_among-filled : (ws : List MarkedWord) (us : List WordUse) (k : ℕ) (w : MarkedWord) → length us ≡ length ws → put_among (ws ++ replicate k w) (us ++ replicate k Unwritten) ≡ put_among ws us ++ replicate k None
put_among-filled [] [] k w n = none_put k w
put_among-filled [] (u ∷ us) k w n = absurd (omega (arith, n))
put_among-filled (v ∷ ws) [] k w n = absurd (omega (arith, n))
put_among-filled (v ∷ ws) (u ∷ us) k w n = ap (λ xs. if_put u v ∷ xs) (put_among-filled ws us k w (omega (arith, n)))

none_owned : (k : ℕ) → map point_of (replicate k Unwritten) ≡ replicate k None
none_owned zero = refl
none_owned (suc k) = ap (λ xs. None ∷ xs) (none_owned k)

points-filled : (us : List WordUse) (k : ℕ) → map point_of (us ++ replicate k Unwritten) ≡ map point_of us ++ replicate k None
points-filled [] k = none_owned k
points-filled (u ∷ us) k = ap (λ xs. point_of u ∷ xs) (points-filled us k)

all_blank : (k : ℕ) → AreBlank (replicate k (tool 0)) (replicate k Unwritten)
all_blank zero = tt
all_blank (suc k) = ((λ _. refl), all_blank k)

blank-filled : (ws : List MarkedWord) (us : List WordUse) (k : ℕ) → length us ≡ length ws → AreBlank ws us → AreBlank (ws ++ replicate k (tool 0)) (us ++ replicate k Unwritten)
blank-filled [] [] k n b = all_blank k
blank-filled [] (u ∷ us) k n b = absurd (omega (arith, n))
blank-filled (w ∷ ws) [] k n b = absurd (omega (arith, n))
blank-filled (w ∷ ws) (u ∷ us) k n b = (b.0, blank-filled ws us k (omega (arith, n)) b.1)

-- filled up to n words the arrays stand for the same maps
pub record AreFilled (tools : List MarkedWord) (uses : List WordUse) (n : ℕ) (ts : List MarkedWord) (us : List WordUse) : Type 0 where
  pub code : (text_at : ℕ) (text : List MarkedWord) (tools_at : ℕ) → code_of text_at text tools_at ts us ≡ code_of text_at text tools_at tools uses
  pub owners : (tools_at : ℕ) → owners_of tools_at us ≡ owners_of tools_at uses
  pub used : length us ≡ length ts
  pub blank : AreBlank ts us
  pub long : length ts ≡ max n (length tools)

filled_by : (tools : List MarkedWord) (uses : List WordUse) (n k : ℕ) → k ≡ n - length tools → length uses ≡ length tools → AreBlank tools uses → AreFilled tools uses n (tools ++ replicate k (tool 0)) (uses ++ replicate k Unwritten)
filled_by tools uses n k more same blank =
    record {
      code = λ text_at text tools_at. ap (λ es. from_entries (entries_from text_at (map (λ x. Some x) text) ++ es))
          (ap (entries_from tools_at) (put_among-filled tools uses k (tool 0) same) ∙ entries-filled (put_among tools uses) k tools_at);
      owners = λ tools_at. ap (λ es. from_entries es) (ap (entries_from tools_at) (points-filled uses k) ∙ entries-filled (map point_of uses) k tools_at);
      used = omega (arith, same, length-append uses (replicate k Unwritten), length-append tools (replicate k (tool 0)), length-replicate {A = WordUse} k Unwritten, length-replicate {A = MarkedWord} k (tool 0));
      blank = blank-filled tools uses k same blank;
      long = omega (arith, more, length-append tools (replicate k (tool 0)), length-replicate {A = MarkedWord} k (tool 0));
    }

pub filled : (tools : List MarkedWord) (uses : List WordUse) (n : ℕ) (w : MarkedWord) (ts : List MarkedWord) (us : List WordUse) → length uses ≡ length tools → AreBlank tools uses → w ≡ tool 0
    → ts ≡ tools ++ replicate (n - length tools) w → us ≡ uses ++ replicate (n - length uses) Unwritten → AreFilled tools uses n ts us
filled tools uses n w ts us same blank is e f =
    subst (λ xs. AreFilled tools uses n xs us) (sym (e ∙ ap (λ v. tools ++ replicate (n - length tools) v) is))
    (subst (λ ys. AreFilled tools uses n (tools ++ replicate (n - length tools) (tool 0)) ys) (sym (f ∙ ap (λ m. uses ++ replicate (n - m) Unwritten) same))
    (filled_by tools uses n (n - length tools) refl same blank))
