-- Where there is no next state, no focus text goes on.
use Rattle.std.proofs.Common.{◌≡◌, ℕ, suc, ◌+◌, ◌<◌, Bool, true, false, List, [], ◌∷◌, ◌++◌, length, take, drop, get_or, Option, Some, None, sym, ap, ◌∙◌, subst, arith, add-one}
use Rattle.std.proofs.lemmas.List.{take_more, take_all, take-append-drop}
use Rattle.resource_tree.specs.FocusTexts.{every_axis, IsFocusText, IsFaultAt, GoesOn}
use Rattle.resource_tree.specs.FormStates.{form_after, after_all, is_whole}
use Rattle.resource_tree.specs.declared.form.FormState.{FormState}
use Rattle.resource_tree.specs.declared.form.Stage.TheVariants.{Start}
use Rattle.resource_tree.proofs.FormStates.{state, after_none, after_append, Whole, parts_whole}
use Rattle.resource_tree.proofs.Reached.{reached}
use Rattle.resource_tree.proofs.ReachedEnds.{ended, goes_on}

-- after a focus text is a state in which it can end
whole_text : (text : List ℕ) → IsFocusText text → Whole (after_all (state every_axis Start) text)
whole_text text f = subst (λ (v : List ℕ). Whole (after_all (state every_axis Start) v)) (sym f.spelled) (parts_whole f.parts f.are_parts)

none_whole : (s : Option FormState) → s ≡ None → Whole s → ⊥
none_whole s h w = let e = w.is in cc

-- where there is no state there is no focus text
stopped : (text rest : List ℕ) → after_all (state every_axis Start) text ≡ None → IsFocusText (text ++ rest) → ⊥
stopped text rest h f =
    none_whole (after_all (state every_axis Start) (text ++ rest))
    (after_append (state every_axis Start) text rest ∙ ap (λ (s : Option FormState). after_all s rest) h ∙ after_none rest)
    (whole_text (text ++ rest) f)

-- the state after one more byte of a text
pub one_more : (text : List ℕ) (n b : ℕ) (s : FormState) → n < length text → b ≡ get_or text n 0 → after_all (state every_axis Start) (take n text) ≡ Some s
    → after_all (state every_axis Start) (take (n + 1) text) ≡ form_after s b
one_more text n b s lt e h =
    ap (after_all (state every_axis Start)) (take_more text n 0 lt)
    ∙ after_append (state every_axis Start) (take n text) (get_or text n 0 ∷ [])
    ∙ ap (λ (t : Option FormState). after_all t (get_or text n 0 ∷ [])) h
    ∙ ap (form_after s) (sym e)

pub stops_at : (text : List ℕ) (n b : ℕ) (s : FormState) → n < length text → b ≡ get_or text n 0 → after_all (state every_axis Start) (take n text) ≡ Some s → form_after s b ≡ None → IsFaultAt text n
stops_at text n b s lt e h stop =
    let f : after_all (state every_axis Start) (take (n + 1) text) ≡ None = one_more text n b s lt e h ∙ stop in
    record {
      within = omega arith;
      before = goes_on s.left s.stage (take n text) (reached (take n text) s h);
      here = λ _ more. stopped (take (suc n) text) more.0 (rw (← add-one n) f) more.1;
      early = λ focus. stopped (take (n + 1) text) (drop (n + 1) text) f (subst IsFocusText (sym (take-append-drop (n + 1) text)) focus);
    }

unlike : (b : Bool) → b ≡ true → b ≡ false → ⊥
unlike b h g = cc

whole_of : (text : List ℕ) (s : FormState) → after_all (state every_axis Start) text ≡ Some s → is_whole s.stage ≡ false → IsFocusText text → ⊥
whole_of text s h part focus =
    let w = whole_text text focus in
    let e : w.state ≡ s = some_same w.state s (sym w.is ∙ h) in
    unlike (is_whole s.stage) (subst (λ (t : FormState). is_whole t.stage ≡ true) e w.whole) part
  where
    some_same : (a b : FormState) → Some a ≡ Some b → a ≡ b
    some_same a b g = cc

pub ends_early : (text : List ℕ) (s : FormState) → after_all (state every_axis Start) text ≡ Some s → is_whole s.stage ≡ false → IsFaultAt text (length text)
ends_early text s h part =
    let all : take (length text) text ≡ text = take_all (length text) text (omega arith) in
    record {
      within = omega arith;
      before = subst GoesOn (sym all) (goes_on s.left s.stage text (reached text s h));
      here = λ lt more. absurd (omega (arith, lt));
      early = whole_of text s h part;
    }

pub is_focus : (text : List ℕ) (s : FormState) → after_all (state every_axis Start) text ≡ Some s → is_whole s.stage ≡ true → IsFocusText text
is_focus text s h whole = ended s.left s.stage text (reached text s h) whole
