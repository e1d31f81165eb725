-- Statements in which nothing is misused fit their variable.
use Rattle.std.proofs.Common.{◌≡◌, ℕ, not, Bool, true, false, Option, None, List, [], ◌∷◌, refl, arith}
use Rattle.std.specs.List.{list_any, AllByRecursion}
use Rattle.std.proofs.lemmas.Bool.{or_parts, ltb-false}
use Rattle.mdl_ast.specs.Small.{IsSmallAction, IsSmall, AreSmall}
use Rattle.mdl_ast.specs.declared.action.Action.{Action}
use Rattle.mdl_ast.specs.declared.action.Action.TheVariants.{Up, Down, Put, Start, Stop}
use Rattle.mdl_ast.specs.declared.action.Condition.{Condition}
use Rattle.mdl_ast.specs.declared.action.LeftName.{LeftName}
use Rattle.mdl_ast.specs.declared.action.LeftName.TheVariants.{Variable, Argument}
use Rattle.mdl_ast.specs.declared.action.Statement.{Statement}
use Rattle.mdl_ast.specs.declared.block.Block.{Block}
use Rattle.mdl_check.specs.Rules.{misuse}
use Rattle.mdl_check.specs.Statements.{is_own, action_has, left_has, right_has, condition_has, statement_has, have}
use Rattle.mdl_check.specs.Sound.{LeftFits, ActFits, Fits, OfEach}
use Rattle.mdl_check.specs.declared.uses.Use.{Use}
use Rattle.mdl_check.specs.declared.uses.Use.TheVariants as uses

pub none_of : {X : Type 0} (p : X → Bool) (xs : List X) → list_any p xs ≡ false → AllByRecursion (λ x. p x ≡ false) xs
none_of p [] h = tt
none_of p (x ∷ xs) h = let a = or_parts (p x) (list_any p xs) h in (a.0, none_of p xs a.1)

pub all_map : {X : Type 0} (P Q : X → Type 0) → ((x : X) → P x → Q x) → (xs : List X) → AllByRecursion P xs → AllByRecursion Q xs
all_map P Q f [] h = tt
all_map P Q f (x ∷ xs) h = (f x h.0, all_map P Q f xs h.1)

pub all_zip : {X : Type 0} (P Q R : X → Type 0) → ((x : X) → P x → Q x → R x) → (xs : List X) → AllByRecursion P xs → AllByRecursion Q xs → AllByRecursion R xs
all_zip P Q R f [] h g = tt
all_zip P Q R f (x ∷ xs) h g = (f x h.0 g.0, all_zip P Q R f xs h.1 g.1)

-- ---- a statement

owned : (b : Bool) → not b ≡ false → b ≡ true
owned true h = refl
owned false h = cc

never : (b : Bool) → not b ≡ false → b ≡ false → ⊥
never b h g = let t = owned b h in cc

fits_act : (timer : Bool) (own : Option (List ℕ)) (a : Action) → action_has uses.OtherName own a ≡ false → action_has (misuse timer) own a ≡ false → IsSmallAction a → ActFits timer a
fits_act true own (Up v) other kind small = absurd (never (is_own own v) other kind)
fits_act true own (Down v) other kind small = absurd (never (is_own own v) other kind)
fits_act true own (Put v n) other kind small = absurd (never (is_own own v) other kind)
fits_act true own (Start v) other kind small = refl
fits_act true own (Stop v) other kind small = refl
fits_act false own (Up v) other kind small = refl
fits_act false own (Down v) other kind small = refl
fits_act false own (Put v n) other kind small = (refl, small)
fits_act false own (Start v) other kind small = absurd (never (is_own own v) other kind)
fits_act false own (Stop v) other kind small = absurd (never (is_own own v) other kind)

fits_left : (timer : Bool) (own : Option (List ℕ)) (left : LeftName) → left_has uses.OtherName own left ≡ false → left_has (misuse timer) own left ≡ false → left_has uses.HighArgument None left ≡ false → LeftFits timer left
fits_left true own (Variable v) other kind high = absurd (never (is_own own v) other kind)
fits_left false own (Variable v) other kind high = refl
fits_left timer own (Argument n) other kind high = omega (arith, ltb-false 7 n high)

left_part : (u : Use) (own : Option (List ℕ)) (c : Condition) → condition_has u own c ≡ false → left_has u own c.left ≡ false
left_part u own c h = (or_parts (left_has u own c.left) (right_has u c.right) h).0

lefts : (u : Use) (own : Option (List ℕ)) (s : Statement) → statement_has u own s ≡ false → AllByRecursion (λ c. left_has u own c.left ≡ false) s.conds
lefts u own s h =
    all_map (λ c. condition_has u own c ≡ false) (λ c. left_has u own c.left ≡ false) (left_part u own) s.conds
    (none_of (condition_has u own) s.conds (or_parts (action_has u own s.act) (list_any (condition_has u own) s.conds) h).1)

act_part : (u : Use) (own : Option (List ℕ)) (s : Statement) → statement_has u own s ≡ false → action_has u own s.act ≡ false
act_part u own s h = (or_parts (action_has u own s.act) (list_any (condition_has u own) s.conds) h).0

abbrev Owns : Bool → Option (List ℕ) → Condition → Type 0
Owns timer own c = (left_has uses.OtherName own c.left ≡ false) × (left_has (misuse timer) own c.left ≡ false)

fits : (timer : Bool) (own : Option (List ℕ)) (s : Statement) → statement_has uses.OtherName own s ≡ false → statement_has (misuse timer) own s ≡ false → statement_has uses.HighArgument None s ≡ false → IsSmall s → Fits timer s
fits timer own s other kind high small = record {
  few = small.few;
  lefts = all_zip (Owns timer own) (λ c. left_has uses.HighArgument None c.left ≡ false) (λ c. LeftFits timer c.left)
      (λ c a h. fits_left timer own c.left a.0 a.1 h) s.conds
      (all_zip (λ c. left_has uses.OtherName own c.left ≡ false) (λ c. left_has (misuse timer) own c.left ≡ false) (Owns timer own) (λ c a b. (a, b)) s.conds
      (lefts uses.OtherName own s other) (lefts (misuse timer) own s kind))
      (lefts uses.HighArgument None s high);
  rights = small.rights;
  act = fits_act timer own s.act (act_part uses.OtherName own s other) (act_part (misuse timer) own s kind) small.act;
}

-- ---- blocks

each_without : (u : Use) (own : Option (List ℕ)) (blocks : List Block) → have u own blocks ≡ false → OfEach (λ s. statement_has u own s ≡ false) blocks
each_without u own blocks h =
    all_map (λ b. list_any (λ i. list_any (statement_has u own) i.stmts) b.insertions ≡ false) (λ b. AllByRecursion (λ i. AllByRecursion (λ s. statement_has u own s ≡ false) i.stmts) b.insertions)
    (λ b g. all_map (λ i. list_any (statement_has u own) i.stmts ≡ false) (λ i. AllByRecursion (λ s. statement_has u own s ≡ false) i.stmts)
    (λ i k. none_of (statement_has u own) i.stmts k) b.insertions (none_of (λ i. list_any (statement_has u own) i.stmts) b.insertions g)) blocks
    (none_of (λ b. list_any (λ i. list_any (statement_has u own) i.stmts) b.insertions) blocks h)

each_zip : (P Q R : Statement → Type 0) → ((s : Statement) → P s → Q s → R s) → (blocks : List Block) → OfEach P blocks → OfEach Q blocks → OfEach R blocks
each_zip P Q R f blocks h g =
    all_zip (λ b. AllByRecursion (λ i. AllByRecursion P i.stmts) b.insertions) (λ b. AllByRecursion (λ i. AllByRecursion Q i.stmts) b.insertions) (λ b. AllByRecursion (λ i. AllByRecursion R i.stmts) b.insertions)
    (λ b x y. all_zip (λ i. AllByRecursion P i.stmts) (λ i. AllByRecursion Q i.stmts) (λ i. AllByRecursion R i.stmts) (λ i v w. all_zip P Q R f i.stmts v w) b.insertions x y) blocks h g

pub each_fits : (timer : Bool) (own : Option (List ℕ)) (blocks : List Block) → have uses.OtherName own blocks ≡ false → have (misuse timer) own blocks ≡ false → have uses.HighArgument None blocks ≡ false → AreSmall blocks → OfEach (Fits timer) blocks
each_fits timer own blocks other kind high small =
    let a = each_without uses.OtherName own blocks other in
    let b = each_without (misuse timer) own blocks kind in
    let c = each_without uses.HighArgument None blocks high in
    let P : Statement → Type 0 = λ s. (statement_has uses.OtherName own s ≡ false) × (statement_has (misuse timer) own s ≡ false) in
    let Q : Statement → Type 0 = λ s. (statement_has uses.HighArgument None s ≡ false) × IsSmall s in
    each_zip P Q (Fits timer) (λ s p q. fits timer own s p.0 p.1 q.0 q.1) blocks
    (each_zip (λ s. statement_has uses.OtherName own s ≡ false) (λ s. statement_has (misuse timer) own s ≡ false) P (λ s p q. (p, q)) blocks a b)
    (each_zip (λ s. statement_has uses.HighArgument None s ≡ false) IsSmall Q (λ s p q. (p, q)) blocks c small)
