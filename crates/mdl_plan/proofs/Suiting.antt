-- The active constraints of a checked configuration suit the metric.
use Rattle.std.proofs.Common.{◌≡◌, ℕ, cond, Bool, true, false, Option, Some, None, Result, Ok, Err, List, [], ◌∷◌, bytes_eq, is_some, codes, refl, sym, ap, ◌∙◌, subst}
use Rattle.std.specs.List.{AllByRecursion}
use Rattle.std.specs.Option.{option_or}
use Rattle.pn_types.specs.declared.focus.Axis.{Axis}
use Rattle.pn_types.specs.declared.focus.Axis.TheVariants.{Code, SyncObject}
use Rattle.pn_types.specs.declared.focus.Focus.{Focus}
use Rattle.mdl_ast.specs.declared.metric.Metric.{Metric}
use Rattle.mdl_ast.specs.declared.metric.Constraint.{Constraint}
use Rattle.mdl_check.specs.Names.{constraint_named}
use Rattle.mdl_check.specs.Sound.{Fits, OfEach, IsSoundConstraint, IsSoundMetric, TakesFitting}
use Rattle.mdl_plan.specs.Active.{Active, active_of, both, constraint_for, in_hierarchy, is_below, wanted}
use Rattle.mdl_plan.specs.Pieces.{replacing, replacement, counting, base_blocks}
use Rattle.mdl_plan.specs.declared.fault.PlanFault.{PlanFault}

-- the constraint's statements fit what they act on
pub record Suits (m : Metric) (c : Constraint) : Type 0 where
  pub counts : c.replace ≡ false → OfEach (Fits false) c.blocks
  pub replaces : c.replace ≡ true → OfEach (Fits m.timer) c.blocks

module _ (cs : List Constraint) (m : Metric) where
  named_sound : (xs : List Constraint) (name : List ℕ) (c : Constraint) → AllByRecursion IsSoundConstraint xs → constraint_named xs name ≡ Some c → IsSoundConstraint c
  named_sound [] name c h e = cc
  named_sound (x ∷ xs) name c h e = by (bytes_eq name x.name) (named_sound xs name c h.1) e
    where
      by : (b : Bool) → (constraint_named xs name ≡ Some c → IsSoundConstraint c) → cond b (Some x) (constraint_named xs name) ≡ Some c → IsSoundConstraint c
      by true later g = let same : x ≡ c = cc in subst IsSoundConstraint same h.0
      by false later g = later g

  abbrev Taken : List ℕ → Type 0
  Taken name = (c : Constraint) → constraint_named cs name ≡ Some c → c.replace ≡ true → OfEach (Fits m.timer) c.blocks

  in_named : (path : List ℕ) (o : Option Constraint) (c : Constraint) → in_hierarchy path o ≡ Some c → o ≡ Some c
  in_named path None c e = cc
  in_named path (Some x) c e = by (bytes_eq path x.path) e
    where
      by : (b : Bool) → cond b (Some x) None ≡ Some c → Some x ≡ Some c
      by true g = g
      by false g = cc

  for_suits : (path : List ℕ) (names : List (List ℕ)) (c : Constraint) → AllByRecursion IsSoundConstraint cs → AllByRecursion Taken names → constraint_for cs path names ≡ Some c → Suits m c
  for_suits path [] c sound taken e = cc
  for_suits path (name ∷ names) c sound taken e = by (in_hierarchy path (constraint_named cs name)) refl (for_suits path names c sound taken.1) e
    where
      by : (o : Option Constraint) → in_hierarchy path (constraint_named cs name) ≡ o → (constraint_for cs path names ≡ Some c → Suits m c) → option_or o (constraint_for cs path names) ≡ Some c → Suits m c
      by None p later g = later g
      by (Some x) p later g =
          let same : x ≡ c = cc in
          let named : constraint_named cs name ≡ Some c = in_named path (constraint_named cs name) c (p ∙ ap (λ (y : Constraint). Some y) same) in
          record { counts = named_sound cs name c sound named; replaces = taken.0 c named }

-- an active constraint suits the metric
abbrev MaySuit : Metric → Option Constraint → Type 0
MaySuit m o = (c : Constraint) → o ≡ Some c → Suits m c

wanted_suits : (m : Metric) (axis : Axis) (below : Bool) (o r : Option Constraint) → MaySuit m o → wanted axis below o ≡ Ok r → MaySuit m r
wanted_suits m axis false o r h e c g = let none : None ≡ r = cc in absurd cc
wanted_suits m axis true None r h e c g = absurd cc
wanted_suits m axis true (Some x) r h e c g = let some : Some x ≡ r = cc in h c (some ∙ g)

pub record ActiveSuits (m : Metric) (a : Active) : Type 0 where
  pub code : MaySuit m a.code
  pub object : MaySuit m a.object

both_suit : (m : Metric) (x y : Result (Option Constraint) PlanFault) (a : Active) → ((r : Option Constraint) → x ≡ Ok r → MaySuit m r) → ((r : Option Constraint) → y ≡ Ok r → MaySuit m r) → both x y ≡ Ok a → ActiveSuits m a
both_suit m (Err f) y a h g e = absurd cc
both_suit m (Ok code) (Err f) a h g e = absurd cc
both_suit m (Ok code) (Ok object) a h g e =
    let one : Active = record { code = code; object = object } in
    let same : one ≡ a = cc in
    subst (ActiveSuits m) same (record { code = h code refl; object = g object refl })

pub active_suits : (cs : List Constraint) (m : Metric) (f : Focus) (a : Active) → AllByRecursion IsSoundConstraint cs → TakesFitting cs m → active_of cs m f ≡ Ok a → ActiveSuits m a
active_suits cs m f a sound taken e =
    let code = constraint_for cs (codes "/Code") m.constraints in
    let object = constraint_for cs (codes "/SyncObject") m.constraints in
    both_suit m (wanted Code (is_below f.code) code) (wanted SyncObject (is_some f.object) object) a
    (λ r g. wanted_suits m Code (is_below f.code) code r (λ c k. for_suits cs m (codes "/Code") m.constraints c sound taken k) g)
    (λ r g. wanted_suits m SyncObject (is_some f.object) object r (λ c k. for_suits cs m (codes "/SyncObject") m.constraints c sound taken k) g) e

pub counting_fits : (m : Metric) (o : Option Constraint) → MaySuit m o → AllByRecursion (λ c. OfEach (Fits false) c.blocks) (counting o)
counting_fits m None h = tt
counting_fits m (Some c) h = by c.replace refl
  where
    by : (b : Bool) → c.replace ≡ b → AllByRecursion (λ x. OfEach (Fits false) x.blocks) (cond b [] (c ∷ []))
    by true p = tt
    by false p = ((h c refl).counts p, tt)

replacing_fits : (m : Metric) (o : Option Constraint) (c : Constraint) → MaySuit m o → replacing o ≡ Some c → OfEach (Fits m.timer) c.blocks
replacing_fits m None c h e = cc
replacing_fits m (Some x) c h e = by x.replace refl e
  where
    by : (b : Bool) → x.replace ≡ b → cond b (Some x) None ≡ Some c → OfEach (Fits m.timer) c.blocks
    by true p g = let same : x ≡ c = cc in (h c (ap (λ (y : Constraint). Some y) same)).replaces (ap (λ (y : Constraint). y.replace) (sym same) ∙ p)
    by false p g = cc

pub base_fits : (m : Metric) (a : Active) → ActiveSuits m a → IsSoundMetric m → OfEach (Fits m.timer) (base_blocks m (replacement a))
base_fits m a h own = by (replacing a.object) (replacing a.code) refl refl
  where
    by : (o p : Option Constraint) → replacing a.object ≡ o → replacing a.code ≡ p → OfEach (Fits m.timer) (base_blocks m (option_or o p))
    by (Some c) p e g = replacing_fits m a.object c h.object e
    by None (Some c) e g = replacing_fits m a.code c h.code g
    by None None e g = own
