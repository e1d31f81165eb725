-- The program's words in the text.
use Rattle.std.proofs.Common.{◌≡◌, ℕ, zero, suc, ◌+◌, ◌-◌, ◌*◌, ◌/◌, ◌%◌, ◌<◌, ◌≤◌, List, [], ◌∷◌, length, Some, None, refl, ◌∙◌, arith, ⊎_elim, inl, inr}
use Rattle.std.specs.Prelude.{Bool, true, false, cond, slice_get, ◌⊎◌, ◌&&◌, ◌==◌, nat_le}
use Rattle.std.proofs.lemmas.Bool.{cases_lt, cond-true, and_from, and_parts, lt-ltb, leb-true, eqb-true}
use Rattle.std.proofs.lemmas.Grind.{common_steps}
use Rattle.rv_word.specs.Plain.{Words, program_word}
use Rattle.tramp_spec.specs.Codes.{tool_at, is_text_word}

-- a word of the program stands in the text
pub record InText (t : Words) (a w : ℕ) : Type 0 where
  pub i : ℕ
  pub at : a ≡ t.at + 4 * i
  pub low : i < length t.words
  pub is : slice_get t.words i ≡ Some w

low_of : (ws : List ℕ) (i w : ℕ) → slice_get ws i ≡ Some w → i < length ws
low_of [] i w e = absurd cc
low_of (v ∷ ws) zero w e = omega arith
low_of (v ∷ ws) (suc i) w e = let l = low_of ws i w e in omega arith

word_in : (t : Words) (a w : ℕ) (b : Bool) → (nat_le t.at a && ((a - t.at) % 4 == 0)) ≡ b → cond b (slice_get t.words ((a - t.at) / 4)) None ≡ Some w → InText t a w
word_in t a w true e h =
    let p = and_parts (nat_le t.at a) ((a - t.at) % 4 == 0) e in
    let lo : t.at ≤ a = leb-true t.at a p.0 in
    let al : (a - t.at) % 4 ≡ 0 = eqb-true ((a - t.at) % 4) 0 p.1 in
    record { i = (a - t.at) / 4; at = omega arith; low = low_of t.words ((a - t.at) / 4) w h; is = h }
word_in t a w false e h = absurd cc

pub in_text : (t : Words) (a w : ℕ) → program_word t a ≡ Some w → InText t a w
in_text t a w h = word_in t a w (nat_le t.at a && ((a - t.at) % 4 == 0)) refl h

-- the text lies below the tool text
pub text_low : (t : Words) (a w : ℕ) → program_word t a ≡ Some w → a + 4 ≤ tool_at t
text_low t a w h = let q = in_text t a w h in let at = q.at in let low = q.low in omega arith

past_end : (ws : List ℕ) (i : ℕ) → length ws ≤ i → slice_get ws i ≡ None
past_end [] i l = refl
past_end (w ∷ ws) zero l = absurd (omega arith)
past_end (w ∷ ws) (suc i) l = past_end ws i (omega arith)

some_within : (ws : List ℕ) (i : ℕ) → i < length ws → (w : ℕ) × (slice_get ws i ≡ Some w)
some_within [] i l = absurd (omega arith)
some_within (w ∷ ws) zero l = (w, refl)
some_within (w ∷ ws) (suc i) l = some_within ws i (omega arith)

-- an address is that of a word of the text, and has a word of the program, or neither
pub text_cases : (t : Words) (a : ℕ) → ((w : ℕ) × (program_word t a ≡ Some w) × (is_text_word t a ≡ true)) ⊎ ((program_word t a ≡ None) × (is_text_word t a ≡ false))
text_cases t a = by (nat_le t.at a) ((a - t.at) % 4 == 0) refl refl
  where
    by : (b d : Bool) → nat_le t.at a ≡ b → ((a - t.at) % 4 == 0) ≡ d → ((w : ℕ) × (program_word t a ≡ Some w) × (is_text_word t a ≡ true)) ⊎ ((program_word t a ≡ None) × (is_text_word t a ≡ false))
    by false d e f = inr (grind (arith, common_steps), grind (arith, common_steps))
    by true false e f = inr (grind (arith, common_steps), grind (arith, common_steps))
    by true true e f = ⊎_elim
        (λ (l : (a - t.at) / 4 < length t.words).
        let q = some_within t.words ((a - t.at) / 4) l in
        let al : (a - t.at) % 4 ≡ 0 = eqb-true ((a - t.at) % 4) 0 f in
        let d : a - t.at < 4 * length t.words = omega arith in
        inl (q.0, cond-true (nat_le t.at a && ((a - t.at) % 4 == 0)) _ _ (and_from _ _ e f) ∙ q.1, and_from _ _ (and_from _ _ e (lt-ltb _ _ d)) f))
        (λ (l : length t.words ≤ (a - t.at) / 4).
        let d : 4 * length t.words ≤ a - t.at = omega arith in
        inr (cond-true (nat_le t.at a && ((a - t.at) % 4 == 0)) _ _ (and_from _ _ e f) ∙ past_end t.words ((a - t.at) / 4) l, grind (arith, common_steps)))
        (cases_lt ((a - t.at) / 4) (length t.words))
