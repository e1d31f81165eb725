-- All places of a plan's variables, and lists of statements.
use Rattle.std.proofs.Common.{◌≡◌, ℕ, zero, suc, ◌+◌, ◌^◌, ◌<◌, ◌≤◌, Bool, true, false, List, [], ◌∷◌, length, Some, refl, sym, ap, ◌∙◌, subst, arith, inl, inr, ⊎_elim}
use Rattle.std.specs.Prelude.{slice_get, slice_index, slice_set, ◌⊎◌, ◌&&◌, if◌then◌else◌}
use Rattle.std.specs.List.{AllByRecursion}
use Rattle.std.proofs.lemmas.Bool.{cases_eq}
use Rattle.std.proofs.lemmas.List.{get_or-set_same, get_or-set_other, length-set}
use Rattle.std.proofs.lemmas.Option.{slice_get_within}
use Rattle.pn_types.specs.declared.plan.Act.{Act}
use Rattle.pn_types.specs.declared.plan.Act.TheVariants.{Up, Down, Put, Start, Stop}
use Rattle.pn_types.specs.declared.plan.Cond.{Cond}
use Rattle.pn_types.specs.declared.plan.Left.{Left}
use Rattle.pn_types.specs.declared.plan.Left.TheVariants.{Counter, Argument}
use Rattle.pn_types.specs.declared.plan.Stmt.{Stmt}
use Rattle.pn_types.specs.declared.plan.Var.{Var}
use Rattle.rv_word.specs.Values.{wrap}
use Rattle.tramp_spec.specs.Banks.{bank_len}
use Rattle.tramp_spec.specs.Routes.{Effect}
use Rattle.tramp_spec.specs.Slots.{VariableSlot, width, places, ArePlaces, running}
use Rattle.tramp_spec.specs.Statements.{slot_of}
use Rattle.tramp_spec.specs.Values.{meets, left_value, all_hold, values_after_act, values_behind, values_after}
use Rattle.prim_code.specs.Fitting.{Names, IsLeftOf, IsActOf, IsCondOf, IsStmtOf, AreStmtsOf}
use Rattle.prim_code.specs.Named.{changed_variable}
use Rattle.prim_code.proofs.Effects.{bank_on, act_bank, left_in, met, under_bank, stmts_bank}
use Rattle.prim_code.proofs.Fits.{FitsPlace, Suits, value_on, if_both, act_leaves, act_length, own}

-- all places stand for their values, and the timers read so much, by their numbers
abbrev pub Fits : List VariableSlot → ℕ → List ℕ → (ℕ → ℕ) → ℕ → List ℕ → Type 0
Fits ps n values readings ticks k = (i : ℕ) (p : VariableSlot) → slice_get ps i ≡ Some p → FitsPlace p.timer p.slot n (slice_index values i) (readings i) ticks k

-- the place of a variable
abbrev pub place : ℕ → Bool → VariableSlot
place s timer = record { slot = s; timer = timer }

pub place_is : (slots : List ℕ) (vars : List Var) (v : ℕ) (timer : Bool) → length slots ≡ length vars → Names vars timer v → slice_get (places slots vars) v ≡ Some (place (slot_of slots v) timer)
place_is [] [] v timer e h = absurd cc
place_is [] (x ∷ vars) v timer e h = absurd (omega arith)
place_is (s ∷ slots) [] v timer e h = absurd (omega arith)
place_is (s ∷ slots) (x ∷ vars) zero timer e h = let t : x.timer ≡ timer = cc h in ap (λ b. Some (place s b)) t
place_is (s ∷ slots) (x ∷ vars) (suc v) timer e h = place_is slots vars v timer (omega arith) h

pub length_places : (slots : List ℕ) (vars : List Var) → length slots ≡ length vars → length (places slots vars) ≡ length vars
length_places [] [] e = refl
length_places [] (x ∷ vars) e = absurd (omega arith)
length_places (s ∷ slots) [] e = absurd (omega arith)
length_places (s ∷ slots) (x ∷ vars) e = ap suc (length_places slots vars (omega arith))

-- the place of the variable that an act changes
record PlaceOf (slots : List ℕ) (vars : List Var) (a : Act) : Type 0 where
  timer : Bool
  suits : Suits a timer
  is : slice_get (places slots vars) (changed_variable a) ≡ Some (place (slot_of slots (changed_variable a)) timer)

place_of : (slots : List ℕ) (vars : List Var) (a : Act) → length slots ≡ length vars → IsActOf vars a → PlaceOf slots vars a
place_of slots vars (Up v) e h = record { timer = false; suits = refl; is = place_is slots vars v false e h }
place_of slots vars (Down v) e h = record { timer = false; suits = refl; is = place_is slots vars v false e h }
place_of slots vars (Put v n) e h = record { timer = false; suits = (refl, h.1); is = place_is slots vars v false e h.0 }
place_of slots vars (Start v) e h = record { timer = true; suits = refl; is = place_is slots vars v true e h }
place_of slots vars (Stop v) e h = record { timer = true; suits = refl; is = place_is slots vars v true e h }

acted_is : (a : Act) (values : List ℕ) → values_after_act a values ≡ slice_set values (changed_variable a) (value_on a (slice_index values (changed_variable a)))
acted_is (Up v) values = refl
acted_is (Down v) values = refl
acted_is (Put v n) values = refl
acted_is (Start v) values = refl
acted_is (Stop v) values = refl

-- one more start to spare than is asked
less : (timer : Bool) (s n v r ticks : ℕ) (k : List ℕ) → FitsPlace timer s (suc n) v r ticks k → FitsPlace timer s n v r ticks k
less false s n v r ticks k f = f
less true s n v r ticks k f = let b = f.1 in (f.0, omega arith, f.2)

carried : (timer : Bool) (s n v r ticks : ℕ) (k m : List ℕ) → ((q : ℕ) → s ≤ q → q < s + (if timer then 2 else 1) → slice_index m q ≡ slice_index k q) → FitsPlace timer s n v r ticks k → FitsPlace timer s n v r ticks m
carried false s n v r ticks k m h f = (h s (omega arith) (omega arith) ∙ f.0, f.1)
carried true s n v r ticks k m h f = (h (s + 1) (omega arith) (omega arith) ∙ f.0, f.1, ap (λ a. wrap (a + running v ticks)) (h s (omega arith) (omega arith)) ∙ f.2)

nested : {A : Type 0} (b c : Bool) (x y : A) → (if b then (if c then x else y) else y) ≡ (if b && c then x else y)
nested true c x y = refl
nested false c x y = refl

module _ (slots : List ℕ) (vars : List Var) (same : length slots ≡ length vars) (readings : ℕ → ℕ) (ticks : ℕ) (arguments : List ℕ) where
  -- a condition on a slot is that on the value
  left_is : (l : Left) (n : ℕ) (values k : List ℕ) → IsLeftOf vars l → Fits (places slots vars) n values readings ticks k → left_in slots l arguments k ≡ left_value l arguments values
  left_is (Counter v) n values k u h = ap (λ m. Some m) (h v (place (slot_of slots v) false) (place_is slots vars v false same u)).0
  left_is (Argument a) n values k u h = refl

  under_is : (cs : List Cond) (f : Effect) (n : ℕ) (values k : List ℕ) → AllByRecursion (IsCondOf vars) cs → Fits (places slots vars) n values readings ticks k
      → under_bank slots cs f ticks arguments k ≡ (if all_hold cs arguments values then f ticks arguments k else k)
  under_is [] f n values k u h = refl
  under_is (c ∷ cs) f n values k u h =
      let e = left_is c.left n values k (u.0).0 h in
      ap (λ o. if meets c.cmp c.right o then under_bank slots cs f ticks arguments k else k) e
      ∙ (ap (λ m. if meets c.cmp c.right (left_value c.left arguments values) then m else k) (under_is cs f n values k u.1 h)
      ∙ nested (meets c.cmp c.right (left_value c.left arguments values)) (all_hold cs arguments values) (f ticks arguments k) k)

  -- an act on one of the places
  act_fits : (a : Act) (timer : Bool) (n : ℕ) (values k : List ℕ) → ArePlaces (places slots vars) → slice_get (places slots vars) (changed_variable a) ≡ Some (place (slot_of slots (changed_variable a)) timer) → Suits a timer
      → length values ≡ length (places slots vars) → length k ≡ bank_len → ticks < 2 ^ 64 → Fits (places slots vars) (suc n) values readings ticks k
      → Fits (places slots vars) n (slice_set values (changed_variable a) (value_on a (slice_index values (changed_variable a)))) readings ticks (act_bank slots a ticks arguments k)
  act_fits a timer n values k pl e u lv lk lt h i q g =
      let v = changed_variable a in
      let s = slot_of slots v in
      let p = place s timer in
      let new = value_on a (slice_index values v) in
      let m = bank_on a s ticks arguments k in
      ⊎_elim
      (λ (z : i ≡ v).
      let l = slice_get_within (places slots vars) v p e in
      let eq : Some q ≡ Some p = sym g ∙ (ap (slice_get (places slots vars)) z ∙ e) in
      let there : p ≡ q = cc in
      let value : slice_index (slice_set values v new) i ≡ new = ap (slice_index (slice_set values v new)) z ∙ get_or-set_same values v new 0 (omega arith) in
      subst (λ (o : VariableSlot). FitsPlace o.timer o.slot n (slice_index (slice_set values v new) i) (readings i) ticks m) there
      (subst (λ b. FitsPlace timer s n b (readings i) ticks m) (sym value)
      (subst (λ b. FitsPlace timer s n new (readings b) ticks m) (sym z) (own a timer s n (slice_index values v) (readings v) ticks arguments k u lk (pl.within v p e).1 lt (h v p e)))))
      (λ (z : i ≡ v → ⊥).
      let value : slice_index (slice_set values v new) i ≡ slice_index values i = get_or-set_other values v i new 0 z in
      let b = pl.apart i v q p g e z in
      subst (λ c. FitsPlace q.timer q.slot n c (readings i) ticks m) (sym value)
      (carried q.timer q.slot n (slice_index values i) (readings i) ticks k m
      (λ j lo up. act_leaves a timer s ticks j arguments k u (⊎_elim (λ (l : q.slot + width q ≤ s). inl (omega arith)) (λ (l : s + width p ≤ q.slot). inr (omega arith)) b))
      (less q.timer q.slot n (slice_index values i) (readings i) ticks k (h i q g))))
      (cases_eq i v)

  both : (b : Bool) (n : ℕ) (v w k m : List ℕ) → Fits (places slots vars) n v readings ticks k → Fits (places slots vars) n w readings ticks m
      → Fits (places slots vars) n (if b then v else w) readings ticks (if b then k else m)
  both true n v w k m f g = f
  both false n v w k m f g = g

  stmt_fits : (s : Stmt) (n : ℕ) (values k : List ℕ) → ArePlaces (places slots vars) → IsStmtOf vars s → length values ≡ length (places slots vars) → length k ≡ bank_len → ticks < 2 ^ 64
      → Fits (places slots vars) (suc n) values readings ticks k → Fits (places slots vars) n (values_behind s arguments values) readings ticks (under_bank slots s.conds (act_bank slots s.act) ticks arguments k)
  stmt_fits s n values k pl u lv lk lt h =
      let p = place_of slots vars s.act same u.act in
      subst (Fits (places slots vars) n (values_behind s arguments values) readings ticks) (sym (under_is s.conds (act_bank slots s.act) (suc n) values k u.conds h))
      (both (all_hold s.conds arguments values) n (values_after_act s.act values) values (act_bank slots s.act ticks arguments k) k
      (subst (λ w. Fits (places slots vars) n w readings ticks (act_bank slots s.act ticks arguments k)) (sym (acted_is s.act values)) (act_fits s.act p.timer n values k pl p.is p.suits lv lk lt h))
      (λ i q g. less q.timer q.slot n (slice_index values i) (readings i) ticks k (h i q g)))

under_keeps : (P : List ℕ → Type 0) (slots : List ℕ) (cs : List Cond) (f : Effect) (ticks : ℕ) (arguments k : List ℕ) → P k → P (f ticks arguments k) → P (under_bank slots cs f ticks arguments k)
under_keeps P slots [] f ticks arguments k a b = b
under_keeps P slots (c ∷ cs) f ticks arguments k a b = if_both P (met slots c arguments k) (under_bank slots cs f ticks arguments k) k (λ z. under_keeps P slots cs f ticks arguments k a b) (λ z. a)

length_behind : (s : Stmt) (arguments values : List ℕ) → length (values_behind s arguments values) ≡ length values
length_behind s arguments values =
    if_both (λ m. length m ≡ length values) (all_hold s.conds arguments values) (values_after_act s.act values) values
    (λ z. ap length (acted_is s.act values) ∙ length-set values (changed_variable s.act) _) (λ z. refl)

pub fits : (slots : List ℕ) (vars : List Var) (stmts : List Stmt) (values : List ℕ) (readings : ℕ → ℕ) (n ticks : ℕ) (arguments k : List ℕ)
    → length slots ≡ length vars → ArePlaces (places slots vars) → AreStmtsOf vars stmts → length values ≡ length (places slots vars) → length k ≡ bank_len → ticks < 2 ^ 64
    → Fits (places slots vars) (length stmts + n) values readings ticks k → Fits (places slots vars) n (values_after stmts arguments values) readings ticks (stmts_bank slots stmts ticks arguments k)
fits slots vars [] values readings n ticks arguments k same pl u lv lk lt h = let e : 0 + n ≡ n = omega arith in subst (λ m. Fits (places slots vars) m values readings ticks k) e h
fits slots vars (s ∷ ss) values readings n ticks arguments k same pl u lv lk lt h =
    let e : suc (length ss) + n ≡ suc (length ss + n) = omega arith in
    fits slots vars ss (values_behind s arguments values) readings n ticks arguments (under_bank slots s.conds (act_bank slots s.act) ticks arguments k) same pl u.1
    (length_behind s arguments values ∙ lv)
    (under_keeps (λ m. length m ≡ bank_len) slots s.conds (act_bank slots s.act) ticks arguments k lk (act_length s.act (slot_of slots (changed_variable s.act)) ticks arguments k ∙ lk)) lt
    (stmt_fits slots vars same readings ticks arguments s (length ss + n) values k pl u.0 lv lk lt (subst (λ m. Fits (places slots vars) m values readings ticks k) e h))

-- doublewords that are in no place
abbrev pub IsBeside : List VariableSlot → ℕ → Type 0
IsBeside ps q = (i : ℕ) (p : VariableSlot) → slice_get ps i ≡ Some p → (q < p.slot) ⊎ (p.slot + width p ≤ q)

pub leaves_others : (slots : List ℕ) (vars : List Var) (stmts : List Stmt) (ticks q : ℕ) (arguments k : List ℕ)
    → length slots ≡ length vars → AreStmtsOf vars stmts → IsBeside (places slots vars) q → slice_index (stmts_bank slots stmts ticks arguments k) q ≡ slice_index k q
leaves_others slots vars [] ticks q arguments k same u h = refl
leaves_others slots vars (s ∷ ss) ticks q arguments k same u h =
    let p = place_of slots vars s.act same (u.0).act in
    let m = under_bank slots s.conds (act_bank slots s.act) ticks arguments k in
    leaves_others slots vars ss ticks q arguments m same u.1 h
    ∙ under_keeps (λ m. slice_index m q ≡ slice_index k q) slots s.conds (act_bank slots s.act) ticks arguments k refl
    (act_leaves s.act p.timer (slot_of slots (changed_variable s.act)) ticks q arguments k p.suits (h (changed_variable s.act) (place (slot_of slots (changed_variable s.act)) p.timer) p.is))
