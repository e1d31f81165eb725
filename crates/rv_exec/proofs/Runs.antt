-- Runs that go on.
use Rattle.std.proofs.Common.{◌≡◌, ℕ, List, [], ◌∷◌, ◌++◌, length, Option, Some, None, refl, ◌∙◌, arith}
use Rattle.std.specs.Prelude.{slice_get}
use Rattle.std.proofs.lemmas.Grind.{common_steps}
use Rattle.rv_word.specs.Plain.{Words, PlainHart, Plain, plain, turn_of}
use Rattle.rv_exec.specs.Run.{run_from, LegalFrom}

pub run_from-append : (t : Words) (xs ys : List ℕ) (s : Plain) → run_from t (xs ++ ys) s ≡ run_from t ys (run_from t xs s)
run_from-append t [] ys s = refl
run_from-append t (x ∷ xs) ys s = run_from-append t xs ys (plain t x s)

pub LegalFrom-append : (t : Words) (budget : ℕ) (xs ys : List ℕ) (s : Plain) → LegalFrom t budget xs s → LegalFrom t budget ys (run_from t xs s) → LegalFrom t budget (xs ++ ys) s
LegalFrom-append t budget [] ys s a b = b
LegalFrom-append t budget (x ∷ xs) ys s a b = (a.0, LegalFrom-append t budget xs ys (plain t x s) a.1 b)

-- a turn leaves the number of the harts
length-turn_of : (o : Option PlainHart) (t : Words) (h : ℕ) (s : Plain) → length (turn_of o t h s).harts ≡ length s.harts
length-turn_of None t h s = refl
length-turn_of (Some x) t h s = grind (arith, common_steps)

pub length-plain : (t : Words) (h : ℕ) (s : Plain) → length (plain t h s).harts ≡ length s.harts
length-plain t h s = length-turn_of (slice_get s.harts h) t h s

pub length-run_from : (t : Words) (turns : List ℕ) (s : Plain) → length (run_from t turns s).harts ≡ length s.harts
length-run_from t [] s = refl
length-run_from t (h ∷ hs) s = length-run_from t hs (plain t h s) ∙ length-plain t h s
