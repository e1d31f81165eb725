-- Opens that are compared: the same are equal.
use Rattle.std.proofs.Common.{◌≡◌, ℕ, zero, suc, List, [], ◌∷◌, refl, sym, ap, ◌∙◌}
use Rattle.std.specs.Bool.{Decides}
use Rattle.std.specs.Prelude.{◌==◌, slice_index}
use Rattle.std.specs.Cmp.Lexicographic.{pointwise_decides, bytes_decides}
use Rattle.std.specs.Str.{bytes_eq}
use Rattle.std.proofs.lemmas.Bool.Decides.{Decides-and, Decides-eqb, Decides-like}
use Rattle.pn_types.specs.declared.compare.Cmp.{Cmp}
use Rattle.pn_types.specs.declared.compare.Cmp.TheVariants.{Eq, Ne, Lt, Le, Gt, Ge}
use Rattle.pn_types.specs.declared.plan.Act.{Act}
use Rattle.pn_types.specs.declared.plan.Act.TheVariants.{Up, Down, Put, Start, Stop}
use Rattle.pn_types.specs.declared.plan.Cond.{Cond}
use Rattle.pn_types.specs.declared.plan.Left.{Left}
use Rattle.pn_types.specs.declared.plan.Left.TheVariants.{Counter, Argument}
use Rattle.pn_types.specs.declared.plan.Open.{Open}
use Rattle.pn_types.specs.declared.plan.Stmt.{Stmt}
use Rattle.instrument.specs.Opens.{act_numbers, cmp_number, left_numbers, is_act, is_cond, is_stmt, is_open}

-- ---- numbers are read again

abbrev act_with : ℕ → ℕ → List ℕ → Act
act_with zero v ns = Up v
act_with (suc zero) v ns = Down v
act_with (suc (suc zero)) v ns = Put v (slice_index ns 0)
act_with (suc (suc (suc zero))) v ns = Start v
act_with (suc (suc (suc (suc k)))) v ns = Stop v

abbrev act_of : List ℕ → Act
act_of [] = Up 0
act_of (k ∷ []) = Up 0
act_of (k ∷ v ∷ ns) = act_with k v ns

act_again : (a : Act) → act_of (act_numbers a) ≡ a
act_again (Up v) = refl
act_again (Down v) = refl
act_again (Put v n) = refl
act_again (Start v) = refl
act_again (Stop v) = refl

abbrev cmp_of : ℕ → Cmp
cmp_of zero = Eq
cmp_of (suc zero) = Ne
cmp_of (suc (suc zero)) = Lt
cmp_of (suc (suc (suc zero))) = Le
cmp_of (suc (suc (suc (suc zero)))) = Gt
cmp_of (suc (suc (suc (suc (suc k))))) = Ge

cmp_again : (c : Cmp) → cmp_of (cmp_number c) ≡ c
cmp_again Eq = refl
cmp_again Ne = refl
cmp_again Lt = refl
cmp_again Le = refl
cmp_again Gt = refl
cmp_again Ge = refl

abbrev left_with : ℕ → ℕ → Left
left_with zero v = Counter v
left_with (suc k) v = Argument v

abbrev left_of : List ℕ → Left
left_of [] = Counter 0
left_of (k ∷ []) = Counter 0
left_of (k ∷ v ∷ ns) = left_with k v

left_again : (l : Left) → left_of (left_numbers l) ≡ l
left_again (Counter v) = refl
left_again (Argument a) = refl

-- ---- the same

act_decides : (a b : Act) → Decides (is_act a b) (a ≡ b)
act_decides a b = Decides-like (is_act a b) (λ e. sym (act_again a) ∙ (ap act_of e ∙ act_again b)) (ap act_numbers) (bytes_decides (act_numbers a) (act_numbers b))

cmp_decides : (a b : Cmp) → Decides (cmp_number a == cmp_number b) (a ≡ b)
cmp_decides a b = Decides-like (cmp_number a == cmp_number b) (λ e. sym (cmp_again a) ∙ (ap cmp_of e ∙ cmp_again b)) (ap cmp_number) (Decides-eqb (cmp_number a) (cmp_number b))

left_decides : (a b : Left) → Decides (bytes_eq (left_numbers a) (left_numbers b)) (a ≡ b)
left_decides a b = Decides-like (bytes_eq (left_numbers a) (left_numbers b)) (λ e. sym (left_again a) ∙ (ap left_of e ∙ left_again b)) (ap left_numbers) (bytes_decides (left_numbers a) (left_numbers b))

cond_decides : (c d : Cond) → Decides (is_cond c d) (c ≡ d)
cond_decides c d =
    Decides-like (is_cond c d) (λ (p : (c.left ≡ d.left) × ((c.cmp ≡ d.cmp) × (c.right ≡ d.right))). λ i. record { left = p.0 i; cmp = p.1.0 i; right = p.1.1 i })
    (λ e. (ap (λ (x : Cond). x.left) e, (ap (λ (x : Cond). x.cmp) e, ap (λ (x : Cond). x.right) e)))
    (Decides-and _ _ (left_decides c.left d.left) (Decides-and _ _ (cmp_decides c.cmp d.cmp) (Decides-eqb c.right d.right)))

stmt_decides : (s t : Stmt) → Decides (is_stmt s t) (s ≡ t)
stmt_decides s t =
    Decides-like (is_stmt s t) (λ p. λ i. record { conds = p.0 i; act = p.1 i }) (λ e. (ap (λ (x : Stmt). x.conds) e, ap (λ (x : Stmt). x.act) e))
    (Decides-and _ _ (pointwise_decides cond_decides s.conds t.conds) (act_decides s.act t.act))

pub open_decides : (o p : Open) → Decides (is_open o p) (o ≡ p)
open_decides o p =
    Decides-like (is_open o p) (λ (q : (o.start ≡ p.start) × ((o.len ≡ p.len) × (o.stmts ≡ p.stmts))). λ i. record { start = q.0 i; len = q.1.0 i; stmts = q.1.1 i })
    (λ e. (ap (λ (x : Open). x.start) e, (ap (λ (x : Open). x.len) e, ap (λ (x : Open). x.stmts) e)))
    (Decides-and _ _ (Decides-eqb o.start p.start) (Decides-and _ _ (Decides-eqb o.len p.len) (pointwise_decides stmt_decides o.stmts p.stmts)))
