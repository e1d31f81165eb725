-- Values over a run.
use Rattle.std.proofs.Common.{◌≡◌, ℕ, zero, suc, ◌≤◌, List, [], ◌∷◌, ◌++◌, take, drop, refl, sym, ap, ◌∙◌, arith}
use Rattle.std.specs.Prelude.{if◌then◌else◌, ◌==◌, slice_get}
use Rattle.pn_types.specs.declared.plan.Plan.{Plan}
use Rattle.rv_word.specs.Plain.{Words, Plain, plain}
use Rattle.rv_exec.specs.Run.{run_from}
use Rattle.rv_exec.proofs.Runs.{run_from-append}
use Rattle.machine.specs.Measures.{Level, passed_by, level, opening_level, LevelsGoOn}

pub level-append : (t : Words) (plan : Plan) (h : ℕ) (a b : List ℕ) (s : Plain) (v : Level) → level t plan h (a ++ b) s v ≡ level t plan h b (run_from t a s) (level t plan h a s v)
level-append t plan h [] b s v = refl
level-append t plan h (g ∷ a) b s v = level-append t plan h a b (plain t g s) (if g == h then passed_by (slice_get s.harts h) plan v else v)

-- the turns from a to c are those to b and those from there
pub split_drop : (a b c : ℕ) (xs : List ℕ) → a ≤ b → b ≤ c → drop a (take c xs) ≡ drop a (take b xs) ++ drop b (take c xs)
split_drop zero zero c xs h k = refl
split_drop zero (suc b) zero xs h k = absurd (omega arith)
split_drop zero (suc b) (suc c) [] h k = refl
split_drop zero (suc b) (suc c) (x ∷ xs) h k = ap (λ l. x ∷ l) (split_drop zero b c xs (omega arith) (omega arith))
split_drop (suc a) zero c xs h k = absurd (omega arith)
split_drop (suc a) (suc b) zero xs h k = absurd (omega arith)
split_drop (suc a) (suc b) (suc c) [] h k = refl
split_drop (suc a) (suc b) (suc c) (x ∷ xs) h k = split_drop a b c xs (omega arith) (omega arith)

take_split : (a b : ℕ) (xs : List ℕ) → a ≤ b → take b xs ≡ take a xs ++ drop a (take b xs)
take_split a b xs h = split_drop zero a b xs (omega arith) h

pub levels_go_on : LevelsGoOn
levels_go_on t plan h a b c turns s p q =
    let s0 = run_from t (take a turns) s in
    let v0 = opening_level plan s0 h in
    ap (λ z. level t plan h z s0 v0) (split_drop a b c turns p q)
    ∙ (level-append t plan h (drop a (take b turns)) (drop b (take c turns)) s0 v0
    ∙ ap (λ z. level t plan h (drop b (take c turns)) z (level t plan h (drop a (take b turns)) s0 v0))
    (sym (run_from-append t (take a turns) (drop a (take b turns)) s) ∙ ap (λ z. run_from t z s) (sym (take_split a b turns p))))
