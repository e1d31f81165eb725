-- What the code of a walk does, step by step.
use Rattle.std.proofs.Common.{◌≡◌, ℕ, zero, suc, ◌+◌, ◌-◌, ◌<◌, List, [], ◌∷◌, length, drop, get_or, Some, None, refl, sym, ap, ◌∙◌, arith}
use Rattle.std.specs.Prelude.{Bool, true, false, if◌then◌else◌, nat_lt}
use Rattle.std.proofs.lemmas.Bool.{cond-true, cond-false}
use Rattle.std.proofs.lemmas.List.{at_drop_more}
use Rattle.rv_word.specs.Memory.{Memory}
use Rattle.pn_types.specs.declared.plan.Stmt.{Stmt}
use Rattle.tramp_spec.specs.Values.{values_behind, values_after}
use Rattle.frame_walk.specs.declared.frame.Frame.{Frame}
use Rattle.frame_walk.specs.Frames.{call_before, frame_at, is_text, calls_of, calls}

-- ---- statements

abbrev pub Passing : List Stmt → ℕ → List ℕ → List ℕ → Type 0
Passing ss i first values = values_after ss [] first ≡ values_after (drop i ss) [] values

pub passes : (ss : List Stmt) (i : ℕ) (s : Stmt) (first values next : List ℕ) → i < length ss → s ≡ get_or ss i s
    → Passing ss i first values → next ≡ values_behind s [] values → Passing ss (i + 1) first next
passes ss i s first values next l e k n =
    k ∙ (at_drop_more (λ z. values_after z [] values) ss i s l ∙ (ap (λ z. values_after (drop (i + 1) ss) [] (values_behind z [] values)) (sym e) ∙ ap (values_after (drop (i + 1) ss) []) (sym n)))

-- ---- frames

calls_more : (n : ℕ) (m : Memory) (fp : ℕ) → 0 < n → calls n m fp ≡ calls_of (frame_at m fp) m fp (calls (n - 1) m)
unfolding calls
calls_more zero m fp l = absurd (omega arith)
calls_more (suc n) m fp l = let e : n ≡ suc n - 1 = omega arith in ap (λ z. calls_of (frame_at m fp) m fp (calls z m)) e

pub calls_zero : (n : ℕ) (m : Memory) (fp : ℕ) → n ≡ 0 → calls n m fp ≡ []
unfolding calls
calls_zero n m fp e = ap (λ z. calls z m fp) e

pub calls_none : (n : ℕ) (m : Memory) (fp : ℕ) → 0 < n → frame_at m fp ≡ None → calls n m fp ≡ []
calls_none n m fp l e = calls_more n m fp l ∙ ap (λ o. calls_of o m fp (calls (n - 1) m)) e

pub calls_out : (n : ℕ) (m : Memory) (fp : ℕ) (f : Frame) → 0 < n → frame_at m fp ≡ Some f → is_text m (call_before f.return_address) ≡ false → calls n m fp ≡ []
calls_out n m fp f l e t = calls_more n m fp l ∙ (ap (λ o. calls_of o m fp (calls (n - 1) m)) e ∙ cond-false (is_text m (call_before f.return_address)) _ [] t)

pub calls_on : (n k : ℕ) (m : Memory) (fp : ℕ) (f : Frame) → 0 < n → frame_at m fp ≡ Some f → is_text m (call_before f.return_address) ≡ true
    → k ≡ (if nat_lt fp f.next then n - 1 else 0) → calls n m fp ≡ call_before f.return_address ∷ calls k m f.next
calls_on n k m fp f l e t q =
    calls_more n m fp l ∙ (ap (λ o. calls_of o m fp (calls (n - 1) m)) e ∙ (cond-true (is_text m (call_before f.return_address)) _ [] t
    ∙ ap (λ z. call_before f.return_address ∷ z) (by (nat_lt fp f.next) ∙ ap (λ z. calls z m f.next) (sym q))))
  where
    by : (b : Bool) → (if b then calls (n - 1) m f.next else []) ≡ calls (if b then n - 1 else 0) m f.next
    by true = refl
    by false = sym (calls_zero 0 m f.next refl)
