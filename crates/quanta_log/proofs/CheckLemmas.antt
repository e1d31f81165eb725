-- Checks that give no fault, and the ranges that they then prove.
use Rattle.std.proofs.Common.{◌≡◌, ℕ, ◌≤◌, Bool, true, false, List, [], ◌∷◌, Option, Some, None, refl}
use Rattle.std.specs.Prelude.{◌&&◌, nat_le, nat_lt, not, map}
use Rattle.std.specs.List.{AllByRecursion}
use Rattle.std.proofs.lemmas.Bool.{leb-true, le-leb, ltb-false, le-ltb}
use Rattle.quanta_log.specs.declared.fault.LogFault.{LogFault}
use Rattle.quanta_log.specs.Fields.{Field, number}
use Rattle.quanta_log.specs.Meaning.{fault_where, first_fault, field_fault}

-- ---- no check gives a fault

abbrev pub IsNone : Option LogFault → Type 0
IsNone x = x ≡ None

pub each_none : (xs : List (Option LogFault)) → first_fault xs ≡ None → AllByRecursion IsNone xs
each_none [] e = tt
each_none (None ∷ xs) e = (refl, each_none xs e)
each_none (Some f ∷ xs) e = absurd cc

pub none_at_all : (xs : List (Option LogFault)) → AllByRecursion IsNone xs → first_fault xs ≡ None
none_at_all [] all = refl
none_at_all (None ∷ xs) all = none_at_all xs all.1
none_at_all (Some f ∷ xs) all = absurd (let e = all.0 in cc)

-- ---- tests

pub not_where : (b : Bool) (f : LogFault) → fault_where b f ≡ None → b ≡ false
not_where true f e = absurd cc
not_where false f e = refl

pub where_not : (b : Bool) (f : LogFault) → b ≡ false → fault_where b f ≡ None
where_not true f e = absurd cc
where_not false f e = refl

pub not_less : (m n : ℕ) (f : LogFault) → n ≤ m → fault_where (nat_lt m n) f ≡ None
not_less m n f h = where_not (nat_lt m n) f (le-ltb m n h)

pub at_least : (m n : ℕ) (f : LogFault) → fault_where (nat_lt m n) f ≡ None → n ≤ m
at_least m n f e = ltb-false m n (not_where (nat_lt m n) f e)

both : (a b : Bool) → not (a && b) ≡ false → (a ≡ true) × (b ≡ true)
both true true e = (refl, refl)
both true false e = absurd cc
both false b e = absurd cc

neither : (a b : Bool) → a ≡ true → b ≡ true → not (a && b) ≡ false
neither true true d e = refl
neither true false d e = absurd cc
neither false b d e = absurd cc

-- ---- fields

-- the number of a field lies in its range
abbrev pub Lies : List ℕ → Field → Type 0
Lies b f = (f.least ≤ number f.size b f.place) × (number f.size b f.place ≤ f.most)

lies : (b : List ℕ) (f : Field) → field_fault b f ≡ None → Lies b f
lies b f e =
    let n = number f.size b f.place in
    let two = both (nat_le f.least n) (nat_le n f.most) (not_where _ _ e) in
    (leb-true f.least n two.0, leb-true n f.most two.1)

no_fault : (b : List ℕ) (f : Field) → Lies b f → field_fault b f ≡ None
no_fault b f h =
    let n = number f.size b f.place in
    where_not _ _ (neither (nat_le f.least n) (nat_le n f.most) (le-leb f.least n h.0) (le-leb n f.most h.1))

pub all_lie : (b : List ℕ) (fs : List Field) → first_fault (map (field_fault b) fs) ≡ None → AllByRecursion (Lies b) fs
all_lie b [] e = tt
all_lie b (f ∷ fs) e =
    let each = each_none (field_fault b f ∷ map (field_fault b) fs) e in
    (lies b f each.0, all_lie b fs (none_at_all (map (field_fault b) fs) each.1))

pub no_faults : (b : List ℕ) (fs : List Field) → AllByRecursion (Lies b) fs → first_fault (map (field_fault b) fs) ≡ None
no_faults b [] all = refl
no_faults b (f ∷ fs) all =
    none_at_all (field_fault b f ∷ map (field_fault b) fs) (no_fault b f all.0, each_none (map (field_fault b) fs) (no_faults b fs all.1))
