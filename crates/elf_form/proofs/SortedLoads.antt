-- Segments without a fault ascend, once they are sorted, and share no address.
use Rattle.std.proofs.Common.{◌≡◌, ℕ, suc, ◌+◌, ◌<◌, ◌≤◌, Bool, true, false, Option, Some, None, List, [], ◌∷◌, length, refl, ap, subst, arith, ◌⊎◌, inl, inr, ⊎_elim, min, max}
use Rattle.std.specs.Prelude.{fold, nat_lt, nat_le, ◌||◌, if◌then◌else◌}
use Rattle.std.specs.List.{AllByRecursion}
use Rattle.std.proofs.lemmas.List.Sums.{sum_by-cons}
use Rattle.std.proofs.lemmas.Bool.{cases_lt, ltb-true, ltb-false}
use Rattle.std.proofs.lemmas.Grind.{common_steps}
use Rattle.elf_form.specs.Faults.{fault_where, first_fault, reaches_past}
use Rattle.elf_form.specs.Segments.{loads_from, load_fault, load_faults, shared, shared_with, lowest_shared, lower, end_of, with_load, by_address, is_load, total_size}
use Rattle.elf_form.specs.declared.load.Load.{Load}
use Rattle.elf_form.specs.declared.segment.ProgramHeader.{ProgramHeader}
use Rattle.elf_form.specs.declared.fault.ElfFault.TheVariants.{Short, BadSegment, LowSegment, HighSegment}
use Rattle.elf_form.proofs.FaultLemmas.{no_fault, fails}

-- a segment that has memory between 0x10000 and 0x60000000, in which its file part has room, and lies in the file
pub record IsSound (len : ℕ) (l : Load) : Type 0 where
  pub positive : 0 < l.header.memory_size
  pub filled : l.header.file_size ≤ l.header.memory_size
  pub within : reaches_past l.header.offset l.header.file_size len ≡ false
  pub low : 0x10000 ≤ l.header.address
  pub high : end_of l ≤ 0x60000000

sound : (len place : ℕ) (l : Load) → 0 < l.header.memory_size → load_fault len place l ≡ None → IsSound len l × (place < 16)
sound len place l positive h =
    let a = no_fault (fault_where (nat_lt l.header.memory_size l.header.file_size || nat_le 16 place) (BadSegment l.index)) _ h in
    let b = no_fault (fault_where (reaches_past l.header.offset l.header.file_size len) (Short len)) _ a.1 in
    let c = no_fault (fault_where (nat_lt l.header.address 0x10000) (LowSegment l.header.address)) _ b.1 in
    let d = no_fault (fault_where (nat_lt 0x60000000 (end_of l)) (HighSegment l.header.address)) _ c.1 in
    let bad : (nat_lt l.header.memory_size l.header.file_size || nat_le 16 place) ≡ false = fails _ _ a.0 in
    let low : nat_lt l.header.address 0x10000 ≡ false = fails _ _ c.0 in
    let high : nat_lt 0x60000000 (end_of l) ≡ false = fails _ _ d.0 in
    (record { positive = positive; filled = grind (arith, common_steps); within = fails _ _ b.0; low = ltb-false l.header.address 0x10000 low; high = ltb-false 0x60000000 (end_of l) high }, grind (arith, common_steps))

abbrev pub HasMemory : Load → Type 0
HasMemory l = 0 < l.header.memory_size

pub have_memory : (index : ℕ) (ps : List ProgramHeader) → AllByRecursion HasMemory (loads_from index ps)
have_memory index [] = tt
have_memory index (p ∷ ps) = by (is_load p) refl (have_memory (index + 1) ps)
  where
    by : (b : Bool) → is_load p ≡ b → AllByRecursion HasMemory (loads_from (index + 1) ps) → AllByRecursion HasMemory (if is_load p then record { index = index; header = p } ∷ loads_from (index + 1) ps else loads_from (index + 1) ps)
    by true is rest = let positive : 0 < p.memory_size = grind (arith, common_steps) in rw is (positive, rest)
    by false is rest = rw is rest

pub are_sound : (len place : ℕ) (ls : List Load) → AllByRecursion HasMemory ls → first_fault (load_faults len place ls) ≡ None → AllByRecursion (IsSound len) ls
are_sound len place [] memory h = tt
are_sound len place (l ∷ ls) memory h =
    let a = no_fault (load_fault len place l) (load_faults len (place + 1) ls) h in
    ((sound len place l memory.0 a.0).0, are_sound len (place + 1) ls memory.1 a.1)

pub are_few : (len place : ℕ) (ls : List Load) → place ≤ 16 → AllByRecursion HasMemory ls → first_fault (load_faults len place ls) ≡ None → place + length ls ≤ 16
are_few len place [] le memory h = omega arith
are_few len place (l ∷ ls) le memory h =
    let a = no_fault (load_fault len place l) (load_faults len (place + 1) ls) h in
    let few = are_few len (place + 1) ls (omega (arith, (sound len place l memory.0 a.0).1)) memory.1 a.1 in
    omega (arith, few)

-- ---- no address in two segments

abbrev Apart : Load → Load → Type 0
Apart l m = (end_of l ≤ m.header.address) ⊎ (end_of m ≤ l.header.address)

abbrev AreApart : List Load → Type 0
AreApart [] = Unit {0}
AreApart (l ∷ ls) = AllByRecursion (Apart l) ls × AreApart ls

lower_none : (a b : Option ℕ) → lower a b ≡ None → (a ≡ None) × (b ≡ None)
lower_none None b h = (refl, h)
lower_none (Some a) None h = absurd (cc)
lower_none (Some a) (Some b) h = absurd (cc)

apart : (l m : Load) → HasMemory l → HasMemory m → shared l m ≡ None → Apart l m
apart l m p q h = by (nat_lt (max l.header.address m.header.address) (min (end_of l) (end_of m))) refl
  where
    by : (b : Bool) → nat_lt (max l.header.address m.header.address) (min (end_of l) (end_of m)) ≡ b → Apart l m
    by true is = let e : shared l m ≡ Some (max l.header.address m.header.address) = ap (λ t. if t then Some (max l.header.address m.header.address) else None) is in absurd (cc)
    by false is =
        let le : min (end_of l) (end_of m) ≤ max l.header.address m.header.address = ltb-false _ _ is in
        ⊎_elim (λ (lt : l.header.address < m.header.address). inl (omega (arith, le))) (λ (ge : m.header.address ≤ l.header.address). inr (omega (arith, le))) (cases_lt l.header.address m.header.address)

apart_with : (l : Load) (ms : List Load) → HasMemory l → AllByRecursion HasMemory ms → shared_with l ms ≡ None → AllByRecursion (Apart l) ms
apart_with l [] p q h = tt
apart_with l (m ∷ ms) p q h = let a = lower_none (shared l m) (shared_with l ms) h in (apart l m p q.0 a.0, apart_with l ms p q.1 a.1)

pub are_apart : (ls : List Load) → AllByRecursion HasMemory ls → lowest_shared ls ≡ None → AreApart ls
are_apart [] p h = tt
are_apart (l ∷ ls) p h = let a = lower_none (shared_with l ls) (lowest_shared ls) h in (apart_with l ls p.0 p.1 a.0, are_apart ls p.1 a.1)

-- ---- sorted

abbrev pub Ascend : List Load → Type 0
Ascend [] = Unit {0}
Ascend (l ∷ ls) = AllByRecursion (λ m. end_of l ≤ m.header.address) ls × Ascend ls

module _ (P : Load → Type 0) where
  either : (b : Bool) (xs ys : List Load) → AllByRecursion P xs → AllByRecursion P ys → AllByRecursion P (if b then xs else ys)
  either true xs ys p q = p
  either false xs ys p q = q

  all-with : (ms : List Load) (l : Load) → AllByRecursion P ms → P l → AllByRecursion P (with_load ms l)
  all-with [] l p q = (q, tt)
  all-with (m ∷ ms) l p q = either (nat_lt l.header.address m.header.address) (l ∷ m ∷ ms) (m ∷ with_load ms l) (q, p) (p.0, all-with ms l p.1 q)

  pub all-fold : (sorted loads : List Load) → AllByRecursion P sorted → AllByRecursion P loads → AllByRecursion P (fold with_load sorted loads)
  all-fold sorted [] p q = p
  all-fold sorted (l ∷ ls) p q = all-fold (with_load sorted l) ls (all-with sorted l p q.0) q.1

-- what ends at or before a segment ends at or before those after it
further : (l m : Load) (xs : List Load) → end_of l ≤ m.header.address → AllByRecursion (λ x. end_of m ≤ x.header.address) xs → AllByRecursion (λ x. end_of l ≤ x.header.address) xs
further l m [] le all = tt
further l m (x ∷ xs) le all = (omega (arith, all.0), further l m xs le all.1)

ascend-with : (ms : List Load) (l : Load) → Ascend ms → HasMemory l → AllByRecursion (Apart l) ms → Ascend (with_load ms l)
ascend-with [] l asc p all = (tt, tt)
ascend-with (m ∷ ms) l asc p all = by (nat_lt l.header.address m.header.address) refl (ascend-with ms l asc.1 p all.1)
  where
    before : Apart l m → l.header.address < m.header.address → end_of l ≤ m.header.address
    before (inl le) lt = le
    before (inr le) lt = omega arith

    behind' : Apart l m → m.header.address ≤ l.header.address → end_of m ≤ l.header.address
    behind' (inl le) ge = omega (arith, p)
    behind' (inr le) ge = le

    by : (b : Bool) → nat_lt l.header.address m.header.address ≡ b → Ascend (with_load ms l) → Ascend (if nat_lt l.header.address m.header.address then l ∷ m ∷ ms else m ∷ with_load ms l)
    by true is rest =
        let le = before all.0 (ltb-true l.header.address m.header.address is) in
        rw is ((le, further l m ms le asc.0), asc)
    by false is rest =
        let le = behind' all.0 (ltb-false l.header.address m.header.address is) in
        rw is (all-with (λ x. end_of m ≤ x.header.address) ms l asc.0 le, rest)

-- each of the sorted ones is apart from each of the others
abbrev AreApartFrom : List Load → List Load → Type 0
AreApartFrom ms [] = Unit {0}
AreApartFrom ms (l ∷ ls) = AllByRecursion (Apart l) ms × AreApartFrom ms ls

swapped : (l m : Load) → Apart l m → Apart m l
swapped l m (inl le) = inr le
swapped l m (inr le) = inl le

more_apart : (ms : List Load) (l : Load) (ls : List Load) → AreApartFrom ms ls → AllByRecursion (Apart l) ls → AreApartFrom (with_load ms l) ls
more_apart ms l [] h all = tt
more_apart ms l (x ∷ xs) h all = (all-with (Apart x) ms l h.0 (swapped l x all.0), more_apart ms l xs h.1 all.1)

ascend-fold : (ms ls : List Load) → Ascend ms → AllByRecursion HasMemory ls → AreApart ls → AreApartFrom ms ls → Ascend (fold with_load ms ls)
ascend-fold ms [] asc memory apart from = asc
ascend-fold ms (l ∷ ls) asc memory apart from =
    ascend-fold (with_load ms l) ls (ascend-with ms l asc memory.0 from.0) memory.1 apart.1 (more_apart ms l ls from.1 apart.0)

apart_from_none : (ls : List Load) → AreApartFrom [] ls
apart_from_none [] = tt
apart_from_none (l ∷ ls) = (tt, apart_from_none ls)

pub ascending : (ls : List Load) → AllByRecursion HasMemory ls → AreApart ls → Ascend (by_address ls)
ascending ls memory apart = ascend-fold [] ls tt memory apart (apart_from_none ls)

-- ---- as many, with as much memory

length-with : (ms : List Load) (l : Load) → length (with_load ms l) ≡ suc (length ms)
length-with [] l = refl
length-with (m ∷ ms) l = by (nat_lt l.header.address m.header.address) (length-with ms l)
  where
    by : (b : Bool) → length (with_load ms l) ≡ suc (length ms) → length (if b then l ∷ m ∷ ms else m ∷ with_load ms l) ≡ suc (suc (length ms))
    by true e = refl
    by false e = ap suc e

pub length-fold : (ms ls : List Load) → length (fold with_load ms ls) ≡ length ms + length ls
length-fold ms [] = omega arith
length-fold ms (l ∷ ls) = omega (arith, length-fold (with_load ms l) ls, length-with ms l)

total-with : (ms : List Load) (l : Load) → total_size (with_load ms l) ≡ l.header.memory_size + total_size ms
total-with [] l = omega (arith, sum_by-cons (λ x. x.header.memory_size) l [])
total-with (m ∷ ms) l = by (nat_lt l.header.address m.header.address) (total-with ms l)
  where
    by : (b : Bool) → total_size (with_load ms l) ≡ l.header.memory_size + total_size ms → total_size (if b then l ∷ m ∷ ms else m ∷ with_load ms l) ≡ l.header.memory_size + total_size (m ∷ ms)
    by true e = sum_by-cons (λ x. x.header.memory_size) l (m ∷ ms)
    by false e = omega (arith, e, sum_by-cons (λ x. x.header.memory_size) m (with_load ms l), sum_by-cons (λ x. x.header.memory_size) m ms)

pub total-fold : (ms ls : List Load) → total_size (fold with_load ms ls) ≡ total_size ms + total_size ls
total-fold ms [] = omega arith
total-fold ms (l ∷ ls) = omega (arith, total-fold (with_load ms l) ls, total-with ms l, sum_by-cons (λ x. x.header.memory_size) l ls)

-- ---- one of them

abbrev pub IsIn : Load → List Load → Type 0
IsIn l [] = ⊥
IsIn l (m ∷ ms) = (m ≡ l) ⊎ IsIn l ms

in-own : (ms : List Load) (l : Load) → IsIn l (with_load ms l)
in-own [] l = inl refl
in-own (m ∷ ms) l = by (nat_lt l.header.address m.header.address) (in-own ms l)
  where
    by : (b : Bool) → IsIn l (with_load ms l) → IsIn l (if b then l ∷ m ∷ ms else m ∷ with_load ms l)
    by true h = inl refl
    by false h = inr h

in-with : (ms : List Load) (l x : Load) → IsIn x ms → IsIn x (with_load ms l)
in-with [] l x h = absurd h
in-with (m ∷ ms) l x h = by (nat_lt l.header.address m.header.address) h (λ (k : IsIn x ms). in-with ms l x k)
  where
    by : (b : Bool) → IsIn x (m ∷ ms) → (IsIn x ms → IsIn x (with_load ms l)) → IsIn x (if b then l ∷ m ∷ ms else m ∷ with_load ms l)
    by true h later = inr h
    by false (inl e) later = inl e
    by false (inr k) later = inr (later k)

pub in-fold : (ms ls : List Load) (x : Load) → (IsIn x ms ⊎ IsIn x ls) → IsIn x (fold with_load ms ls)
in-fold ms [] x (inl h) = h
in-fold ms [] x (inr h) = absurd h
in-fold ms (l ∷ ls) x (inl h) = in-fold (with_load ms l) ls x (inl (in-with ms l x h))
in-fold ms (l ∷ ls) x (inr (inl e)) = in-fold (with_load ms l) ls x (inl (subst (λ y. IsIn y (with_load ms l)) e (in-own ms l)))
in-fold ms (l ∷ ls) x (inr (inr h)) = in-fold (with_load ms l) ls x (inr h)

pub at-in : (P : Load → Type 0) (ms : List Load) (x : Load) → AllByRecursion P ms → IsIn x ms → P x
at-in P [] x all h = absurd h
at-in P (m ∷ ms) x all (inl e) = subst P e all.0
at-in P (m ∷ ms) x all (inr h) = at-in P ms x all.1 h
