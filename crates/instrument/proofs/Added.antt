-- An instrument with the lowest slots is put after the others; and slots are looked for.
use Rattle.std.proofs.Common.{◌≡◌, ℕ, zero, suc, ◌+◌, ◌<◌, ◌≤◌, ◌^◌, ◌-◌, List, [], ◌∷◌, ◌++◌, Option, Some, None, refl, sym, ap, ◌∙◌, subst, arith, ⊎_elim, inl, inr, cond, length}
use Rattle.std.specs.Prelude.{Bool, true, false, not, nat_lt, nat_le, ◌&&◌, ◌||◌, IfNone, IfSome}
use Rattle.std.specs.List.{list_any, flat_map, sum_by}
use Rattle.std.proofs.lemmas.Bool.{ltb-true, leb-true, and_parts, false_from_ne_true}
use Rattle.std.proofs.lemmas.List.Folds.{list_any-append}
use Rattle.std.proofs.lemmas.List.Sums.{sum_by-cons}
use Rattle.pn_types.specs.declared.plan.Plan.{Plan}
use Rattle.pn_types.specs.declared.plan.Site.{Site}
use Rattle.pn_types.specs.declared.plan.Var.{Var}
use Rattle.prim_code.specs.Counts.{word_count, site_words, predicted}
use Rattle.tool_space.specs.Rooms.{Rooms, is_within, IsRoom, IsLowestRoom, IsTaken, after_take, after_give}
use Rattle.tramp_spec.specs.Banks.{bank_len, first_slot}
use Rattle.tramp_spec.specs.Slots.{VariableSlot, places_of}
use Rattle.machine.specs.Cores.{In}
use Rattle.instrument.specs.Admission.{slots_of_var, slot_count, slots_from}
use Rattle.instrument.specs.Fits.{slots_for}
use Rattle.instrument.specs.Spaces.{Span, covers, AreDistant, owed, IsSpaceOf, slots_of, first_or, IsRow, AreSlotsOf}
use Rattle.instrument.specs.declared.instrument.Instrument.{Instrument}
use Rattle.instrument.specs.declared.number.State.TheVariants.{Placing}
use Rattle.instrument.proofs.Fitted.{slots_given, no_slots, slots_for_none}
use Rattle.instrument.proofs.Folds.{in_append, append_nil}
use Rattle.instrument.proofs.Holdings.{space_take, space_give, distant_append, owed_append, middle, taken}

-- ---- a thing that takes no units is put after the others

none_within : (at len unit : ℕ) → len ≡ 0 → is_within at len unit ≡ true → ⊥
none_within at len unit e w =
    let p = and_parts (nat_le at unit) (nat_lt unit (at + len)) w in
    let lo = leb-true at unit p.0 in let hi = ltb-true unit (at + len) p.1 in omega (arith, e)

or_none : (b : Bool) → b ≡ (b || (false || false))
or_none true = refl
or_none false = refl

space_none : {A : Type 0} (s : A → Span) (from units : ℕ) (space : Rooms) (xs : List A) → IsSpaceOf s from units space xs → (x : A) → (s x).len ≡ 0 → from ≤ (s x).at → (s x).at ≤ from + units → IsSpaceOf s from units space (xs ++ x ∷ [])
space_none {A} s from units space xs k x none low high = record {
  low = k.low;
  high = k.high;
  tied = λ unit. k.tied unit
      ∙ ap (λ v. is_within from units unit && not v)
      (or_none (list_any (covers s unit) xs)
      ∙ (ap (λ v. list_any (covers s unit) xs || (v || false)) (sym (false_from_ne_true (covers s unit x) (λ w. none_within (s x).at (s x).len unit none w)))
      ∙ sym (list_any-append (covers s unit) xs (x ∷ []))));
  apart = distant_append s xs (x ∷ []) k.apart (λ y h. absurd h, tt) (λ u v i j. ⊎_elim (λ e. subst (λ (w : A). AreDistant (s u) (s w)) (sym e) (λ unit a b. none_within (s x).at (s x).len unit none b)) (λ n. absurd n) j);
  gives = let n = owed_append s xs (x ∷ []) in let o : owed s (x ∷ []) ≡ 0 = ap (λ m. cond (nat_lt 0 m) 1 0 + 0) none in omega (arith, n, o, k.gives);
  within = λ u h. ⊎_elim (λ i. k.within u i) (λ j. ⊎_elim (λ e. subst (λ (w : A). (from ≤ (s w).at) × ((s w).at + (s w).len ≤ from + units)) (sym e) (low, omega (arith, none, high))) (λ n. absurd n) j) (in_append xs (x ∷ []) u h);
}

-- ---- an instrument is put after the others

-- the first of the lowest slots of a number beside those of instruments
abbrev pub found_in : List Instrument → ℕ → Option ℕ
found_in instruments count = slots_for (flat_map (λ i. places_of i.placed) instruments) count

rows_more : (is : List Instrument) (i : Instrument) → ((j : Instrument) → In j is → IsRow j) → IsRow i → (j : Instrument) → In j (is ++ i ∷ []) → IsRow j
rows_more is i f r j h = ⊎_elim (λ a. f j a) (λ b. ⊎_elim (λ e. subst IsRow (sym e) r) (λ n. absurd n) b) (in_append is (i ∷ []) j h)

-- its slots are taken
pub slots_added : (space after : Rooms) (is : List Instrument) (i : Instrument) (o : Option ℕ) (len : ℕ) → AreSlotsOf space is → IsRow i → len ≡ slot_count i.placed.vars → 0 < len → slots_for (flat_map (λ j. places_of j.placed) is) (slot_count i.placed.vars) ≡ Some (slots_of i).at
    → IfNone o ((at : ℕ) → IsRoom space at len → ⊥) → IfSome o (λ at. IsLowestRoom space at len) → IfSome o (λ at. (space.from ≤ at) × (at + len ≤ space.end)) → IfSome o (λ at. after ≡ after_take space at len) → AreSlotsOf after (is ++ i ∷ [])
slots_added space after is i None len k row n some free none lowest inside took =
    let e = sym (no_slots space is k len none) ∙ (ap (slots_for (flat_map (λ (j : Instrument). places_of j.placed) is)) n ∙ free) in absurd cc
slots_added space after is i (Some at) len k row n some free none lowest inside took =
    let q = sym (slots_given space is k at len lowest inside some) ∙ (ap (slots_for (flat_map (λ (j : Instrument). places_of j.placed) is)) n ∙ free) in
    let e : at ≡ (slots_of i).at = cc in
    let w = inside in let lo = w.0 in let hi = w.1 in
    record {
      taken = subst (λ (z : Rooms). IsSpaceOf slots_of first_slot (bank_len - first_slot) z (is ++ i ∷ [])) (sym (took ∙ (ap (λ m. after_take space m len) e ∙ ap (after_take space (slots_of i).at) n)))
          (space_take slots_of first_slot (bank_len - first_slot) space is k.taken i (omega (arith, n, some)) (subst (λ m. IsRoom space m (slot_count i.placed.vars)) e (subst (IsRoom space at) n lowest.free)) (omega (arith, e)) (omega (arith, e, n)));
      rows = rows_more is i k.rows row;
    }

-- it has none
pub none_added : (space : Rooms) (is : List Instrument) (i : Instrument) → AreSlotsOf space is → IsRow i → slot_count i.placed.vars ≡ 0 → slots_for (flat_map (λ j. places_of j.placed) is) (slot_count i.placed.vars) ≡ Some (slots_of i).at → AreSlotsOf space (is ++ i ∷ [])
none_added space is i k row none free =
    let q = sym (slots_for_none (flat_map (λ (j : Instrument). places_of j.placed) is)) ∙ (sym (ap (slots_for (flat_map (λ (j : Instrument). places_of j.placed) is)) none) ∙ free) in
    let e : first_slot ≡ (slots_of i).at = cc in
    record {
      taken = space_none slots_of first_slot (bank_len - first_slot) space is k.taken i none (omega (arith, e)) (omega (arith, e));
      rows = rows_more is i k.rows row;
    }

-- ---- slots that are found are given back

abbrev counter : Var
counter = record { name = []; timer = false; initially = 0 }

abbrev counters : ℕ → List Var
counters zero = []
counters (suc n) = counter ∷ counters n

count_counters : (n : ℕ) → slot_count (counters n) ≡ n
count_counters zero = refl
count_counters (suc n) = let r = count_counters n in let e = sum_by-cons slots_of_var counter (counters n) in omega (arith, r, e)

abbrev user : ℕ → ℕ → Instrument
user at len = record { no = 0; placed = record { vars = counters len; slots = at ∷ []; sites = []; opens = [] }; state = Placing }

used : (space : Rooms) (is : List Instrument) (at len : ℕ) → AreSlotsOf space is → 0 < len → IsLowestRoom space at len → (space.from ≤ at) × (at + len ≤ space.end) → IsSpaceOf slots_of first_slot (bank_len - first_slot) (after_take space at len) (is ++ user at len ∷ [])
used space is at len k some r w =
    let n = count_counters len in let lo = w.0 in let hi = w.1 in
    subst (λ m. IsSpaceOf slots_of first_slot (bank_len - first_slot) (after_take space at m) (is ++ user at len ∷ [])) n
    (space_take slots_of first_slot (bank_len - first_slot) space is k.taken (user at len) (omega (arith, n)) (subst (λ m. IsRoom space at m) (sym n) r.free) lo (omega (arith, n)))

pub found_taken : (space : Rooms) (is : List Instrument) (at len : ℕ) → AreSlotsOf space is → 0 < len → IsLowestRoom space at len → (space.from ≤ at) × (at + len ≤ space.end) → IsTaken (after_take space at len) at len
found_taken space is at len k some r w =
    subst (λ m. IsTaken (after_take space at len) at m) (count_counters len) (taken slots_of first_slot (bank_len - first_slot) (after_take space at len) (is ++ user at len ∷ []) (used space is at len k some r w) (user at len) (middle is [] (user at len)))

pub found_given : (space : Rooms) (is : List Instrument) (at len : ℕ) → AreSlotsOf space is → 0 < len → IsLowestRoom space at len → (space.from ≤ at) × (at + len ≤ space.end) → AreSlotsOf (after_give (after_take space at len) at len) is
found_given space is at len k some r w =
    let n = count_counters len in
    record {
      taken = subst (λ (ys : List Instrument). IsSpaceOf slots_of first_slot (bank_len - first_slot) (after_give (after_take space at len) at len) ys) (append_nil is)
          (subst (λ m. IsSpaceOf slots_of first_slot (bank_len - first_slot) (after_give (after_take space at len) at m) (is ++ [])) n
          (space_give slots_of first_slot (bank_len - first_slot) (after_take space at len) is [] (user at len) (used space is at len k some r w) (omega (arith, n))));
      rows = k.rows;
    }

pub found_low : (space : Rooms) (is : List Instrument) (at len : ℕ) → AreSlotsOf space is → at + len ≤ space.end → at + len < 2 ^ 32
unfolding bank_len
found_low space is at len k hi = omega (arith, k.taken.high)

-- ---- a plan's variables and sites

pub row_from : (first : ℕ) (vars : List Var) → slots_from first vars ≡ slots_from (first_or first_slot (slots_from first vars)) vars
row_from first [] = refl
row_from first (v ∷ vars) = refl

pub first_from : (held : List VariableSlot) (first : ℕ) (vars : List Var) → slots_for held (slot_count vars) ≡ Some first → slots_for held (slot_count vars) ≡ Some (first_or first_slot (slots_from first vars))
first_from held first [] e = slots_for_none held
first_from held first (v ∷ vars) e = e

pub slots_len : (first : ℕ) (vars : List Var) → length (slots_from first vars) ≡ length vars
slots_len first [] = refl
slots_len first (v ∷ vars) = let r = slots_len (first + slots_of_var v) vars in omega (arith, r)

site_below : (sites : List Site) (s : Site) → In s sites → word_count s.stmts + 1 ≤ sum_by site_words sites
site_below (x ∷ xs) s (inl e) = let n = sum_by-cons site_words x xs in let q = ap (λ (z : Site). word_count z.stmts) e in omega (arith, n, q)
site_below (x ∷ xs) s (inr i) = let n = sum_by-cons site_words x xs in let r = site_below xs s i in omega (arith, n, r)
site_below [] s i = absurd i

pub site_short : (plan : Plan) → predicted plan < 2 ^ 32 → (s : Site) → In s plan.sites → word_count s.stmts + 1 < 2 ^ 32
site_short plan few s i = let b = site_below plan.sites s i in omega (arith, b, few)
