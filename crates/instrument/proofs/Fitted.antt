-- The lowest room of the definitions is the one that a space of rooms, or of slots, gives.
use Rattle.std.proofs.Common.{◌≡◌, ℕ, zero, suc, ◌+◌, ◌-◌, ◌*◌, ◌/◌, ◌%◌, ◌<◌, ◌≤◌, List, [], ◌∷◌, ◌++◌, length, cond, Some, None, refl, sym, ap, ◌∙◌, arith, ⊎_elim, inl, inr}
use Rattle.std.specs.Prelude.{Bool, true, false, not, nat_le, nat_lt, ◌&&◌, ◌||◌, find}
use Rattle.std.specs.List.{list_any, range_with_len, flat_map}
use Rattle.std.specs.Option.{option_map}
use Rattle.std.proofs.lemmas.Bool.{true≢false, cases_lt, and_parts, and_from, le-leb, lt-ltb, ltb-true, leb-true, false_from_ne_true}
use Rattle.std.proofs.lemmas.Grind.{flat_map-append}
use Rattle.std.proofs.lemmas.List.Folds.{list_any-append}
use Rattle.std.proofs.lemmas.List.Sums.{sum_by-cons}
use Rattle.pn_types.specs.declared.limits.TheConstants.{TOOL_TEXT_LEN}
use Rattle.pn_types.specs.declared.plan.Var.{Var}
use Rattle.rv_word.specs.Memory.{in_range}
use Rattle.rv_word.specs.Plain.{Words}
use Rattle.tool_space.specs.Rooms.{Rooms, is_within, IsRoom, IsLowestRoom}
use Rattle.tramp_spec.specs.Banks.{bank_len, first_slot}
use Rattle.tramp_spec.specs.Codes.{tool_at}
use Rattle.tramp_spec.specs.Slots.{VariableSlot, places, places_of}
use Rattle.machine.specs.Cores.{In}
use Rattle.instrument.specs.Admission.{slots_of_var, slot_count, slots_from}
use Rattle.instrument.specs.Fits.{are_free, lowest, is_word_free, room_for, is_slot_of, is_slot_free, slots_for}
use Rattle.instrument.specs.Spaces.{covers, is_left, words_of_room, IsWhole, AreRoomsOf, slots_of, first_or, IsRow, AreSlotsOf}
use Rattle.instrument.specs.declared.instrument.Instrument.{Instrument}
use Rattle.instrument.specs.declared.room.Room.{Room}
use Rattle.instrument.proofs.Folds.{append_nil}
use Rattle.instrument.proofs.Fitting.{range_of, in_range_from}
use Rattle.instrument.proofs.Spacing.{Tied, lowest_room, no_lowest}

same_test : (a b : Bool) → (a ≡ true → b ≡ true) → (b ≡ true → a ≡ true) → a ≡ b
same_test true b f g = sym (f refl)
same_test false true f g = absurd (true≢false (sym (g refl)))
same_test false false f g = refl

-- ---- words

-- an address is in a range of whole words where its word is
range_words : (at len unit : ℕ) → at % 4 ≡ 0 → in_range at (4 * len) (4 * unit) ≡ is_within (at / 4) len unit
range_words at len unit e = same_test (in_range at (4 * len) (4 * unit)) (is_within (at / 4) len unit)
    (λ c. let r = range_of at (4 * len) (4 * unit) c in let lo = r.0 in let hi = r.1 in
    let a : at / 4 ≤ unit = omega (arith, e) in let b : unit < at / 4 + len = omega (arith, e) in and_from _ _ (le-leb _ _ a) (lt-ltb _ _ b))
    (λ w. let p = and_parts (nat_le (at / 4) unit) (nat_lt unit (at / 4 + len)) w in
    let lo = leb-true (at / 4) unit p.0 in let hi = ltb-true unit (at / 4 + len) p.1 in
    in_range_from at (4 * len) (4 * unit) (omega (arith, e)) (omega (arith, e)))

pub tool_whole : (t : Words) → tool_at t % 4 ≡ 0
tool_whole t = whole (t.at + 4 * length t.words + 4095)
  where
    whole : (n : ℕ) → n / 4096 * 4096 % 4 ≡ 0
    whole n = omega arith

rooms_cover : (rooms : List Room) → ((x : Room) → In x rooms → IsWhole x) → (unit : ℕ) → list_any (λ x. in_range x.at (4 * x.len) (4 * unit)) rooms ≡ list_any (covers words_of_room unit) rooms
rooms_cover [] f unit = refl
rooms_cover (x ∷ xs) f unit =
    ap (λ v. v || list_any (λ y. in_range y.at (4 * y.len) (4 * unit)) xs) (range_words x.at x.len unit (f x (inl refl)).1)
    ∙ ap (λ v. covers words_of_room unit x || v) (rooms_cover xs (λ y h. f y (inr h)) unit)

pub rooms_tied : (t : Words) (space : Rooms) (rooms : List Room) → AreRoomsOf t space rooms → Tied space (is_word_free t rooms)
rooms_tied t space rooms k unit =
    k.taken.tied unit
    ∙ (ap (λ v. v && not (list_any (covers words_of_room unit) rooms)) (sym (range_words (tool_at t) (TOOL_TEXT_LEN / 4) unit (tool_whole t)))
    ∙ ap (λ v. in_range (tool_at t) TOOL_TEXT_LEN (4 * unit) && not v) (sym (rooms_cover rooms k.whole unit)))

pub room_given : (t : Words) (space : Rooms) (rooms : List Room) → AreRoomsOf t space rooms → (at len : ℕ) → 0 < len → IsLowestRoom space at len → (space.from ≤ at) × (at + len ≤ space.end) → room_for t rooms len ≡ Some (4 * at)
room_given t space rooms k at len some r w =
    let lo = w.0 in let hi = w.1 in
    ap (λ o. option_map (λ unit. 4 * unit) o) (lowest_room space (is_word_free t rooms) (rooms_tied t space rooms k) (tool_at t / 4) (TOOL_TEXT_LEN / 4) at len (omega (arith, k.taken.low)) (omega (arith, k.taken.high)) r)

pub no_room : (t : Words) (space : Rooms) (rooms : List Room) → AreRoomsOf t space rooms → (len : ℕ) → ((at : ℕ) → IsRoom space at len → ⊥) → room_for t rooms len ≡ None
no_room t space rooms k len r = ap (λ o. option_map (λ unit. 4 * unit) o) (no_lowest space (is_word_free t rooms) (rooms_tied t space rooms k) (tool_at t / 4) (TOOL_TEXT_LEN / 4) len r)

-- ---- slots

-- the places of variables whose slots follow each other
row_covers : (slot : ℕ) (vars : List Var) (unit : ℕ) → list_any (λ p. is_slot_of p unit) (places (slots_from slot vars) vars) ≡ is_within slot (slot_count vars) unit
row_covers slot [] unit = sym (false_from_ne_true (is_within slot 0 unit) (λ w. let p = and_parts (nat_le slot unit) (nat_lt unit (slot + 0)) w in let lo = leb-true slot unit p.0 in let hi = ltb-true unit (slot + 0) p.1 in omega arith))
row_covers slot (v ∷ vars) unit =
    ap (λ b. is_within slot (slots_of_var v) unit || b) (row_covers (slot + slots_of_var v) vars unit) ∙ joined (slots_of_var v) (slot_count vars) (slot_count (v ∷ vars)) (sum_by-cons slots_of_var v vars)
  where
    joined : (m n k : ℕ) → k ≡ m + n → (is_within slot m unit || is_within (slot + m) n unit) ≡ is_within slot k unit
    joined m n k e = same_test (is_within slot m unit || is_within (slot + m) n unit) (is_within slot k unit) there back
      where
        within : (at len : ℕ) → is_within at len unit ≡ true → (at ≤ unit) × (unit < at + len)
        within at len w = let p = and_parts (nat_le at unit) (nat_lt unit (at + len)) w in (leb-true at unit p.0, ltb-true unit (at + len) p.1)

        from : (at len : ℕ) → at ≤ unit → unit < at + len → is_within at len unit ≡ true
        from at len lo hi = and_from _ _ (le-leb _ _ lo) (lt-ltb _ _ hi)

        there : (is_within slot m unit || is_within (slot + m) n unit) ≡ true → is_within slot k unit ≡ true
        there w = by (is_within slot m unit) refl
          where
            by : (b : Bool) → is_within slot m unit ≡ b → is_within slot k unit ≡ true
            by true q = let r = within slot m q in let lo = r.0 in let hi = r.1 in from slot k (omega arith) (omega (arith, e))
            by false q = let r = within (slot + m) n (sym (ap (λ v. v || is_within (slot + m) n unit) q) ∙ w) in let lo = r.0 in let hi = r.1 in from slot k (omega arith) (omega (arith, e))

        back : is_within slot k unit ≡ true → (is_within slot m unit || is_within (slot + m) n unit) ≡ true
        back w = by (is_within slot m unit) refl
          where
            by : (b : Bool) → is_within slot m unit ≡ b → (is_within slot m unit || is_within (slot + m) n unit) ≡ true
            by true q = ap (λ v. v || is_within (slot + m) n unit) q
            by false q =
                ap (λ v. v || is_within (slot + m) n unit) q
                ∙ (let r = within slot k w in let lo = r.0 in let hi = r.1 in
                ⊎_elim (λ (l : unit < slot + m). absurd (true≢false (sym (from slot m lo l) ∙ q))) (λ (l : slot + m ≤ unit). from (slot + m) n l (omega (arith, e))) (cases_lt unit (slot + m)))

instruments_cover : (instruments : List Instrument) → ((i : Instrument) → In i instruments → IsRow i) → (unit : ℕ) → list_any (λ p. is_slot_of p unit) (flat_map (λ i. places_of i.placed) instruments) ≡ list_any (covers slots_of unit) instruments
instruments_cover [] f unit = refl
instruments_cover (i ∷ is) f unit =
    ap (list_any (λ p. is_slot_of p unit)) (flat_map-append (λ (j : Instrument). places_of j.placed) (i ∷ []) is)
    ∙ (list_any-append (λ p. is_slot_of p unit) (places_of i.placed ++ []) (flat_map (λ j. places_of j.placed) is)
    ∙ (ap (λ v. v || list_any (λ p. is_slot_of p unit) (flat_map (λ j. places_of j.placed) is)) one
    ∙ ap (λ v. covers slots_of unit i || v) (instruments_cover is (λ j h. f j (inr h)) unit)))
  where
    one : list_any (λ p. is_slot_of p unit) (places_of i.placed ++ []) ≡ covers slots_of unit i
    one = ap (list_any (λ p. is_slot_of p unit)) (append_nil (places_of i.placed))
        ∙ (ap (λ s. list_any (λ p. is_slot_of p unit) (places s i.placed.vars)) (f i (inl refl))
        ∙ row_covers (first_or first_slot i.placed.slots) i.placed.vars unit)

-- from the first slot on
slots_free : (space : Rooms) (instruments : List Instrument) → AreSlotsOf space instruments → (unit : ℕ) → first_slot ≤ unit → is_slot_free (flat_map (λ i. places_of i.placed) instruments) unit ≡ is_left slots_of first_slot (bank_len - first_slot) instruments unit
unfolding bank_len
slots_free space instruments k unit lo =
    ap (λ v. nat_lt unit bank_len && not v) (instruments_cover instruments k.rows unit)
    ∙ ap (λ v. v && not (list_any (covers slots_of unit) instruments)) (same_test (nat_lt unit bank_len) (is_within first_slot (bank_len - first_slot) unit)
    (λ w. let hi = ltb-true unit bank_len w in and_from _ _ (le-leb _ _ lo) (lt-ltb _ _ (omega arith)))
    (λ w. let p = and_parts (nat_le first_slot unit) (nat_lt unit (first_slot + (bank_len - first_slot))) w in let hi = ltb-true unit (first_slot + (bank_len - first_slot)) p.1 in lt-ltb _ _ (omega arith)))

free_same : (f g : ℕ → Bool) (from : ℕ) → ((u : ℕ) → from ≤ u → f u ≡ g u) → (len unit : ℕ) → from ≤ unit → are_free f len unit ≡ are_free g len unit
free_same f g from e zero unit lo = refl
free_same f g from e (suc len) unit lo = ap (λ v. v && are_free f len (unit + 1)) (e unit lo) ∙ ap (λ v. g unit && v) (free_same f g from e len (unit + 1) (omega arith))

lowest_same : (f g : ℕ → Bool) (from : ℕ) → ((u : ℕ) → from ≤ u → f u ≡ g u) → (units len : ℕ) → lowest f from units len ≡ lowest g from units len
unfolding lowest
lowest_same f g from e units len = finds from units (omega arith)
  where
    finds : (at n : ℕ) → from ≤ at → find (are_free f len) (range_with_len at n) ≡ find (are_free g len) (range_with_len at n)
    finds at zero lo = refl
    finds at (suc n) lo = ap (λ v. cond v (Some at) (find (are_free f len) (range_with_len (at + 1) n))) (free_same f g from e len at lo) ∙ ap (λ v. cond (are_free g len at) (Some at) v) (finds (at + 1) n (omega arith))

pub slots_given : (space : Rooms) (instruments : List Instrument) → AreSlotsOf space instruments → (at len : ℕ) → IsLowestRoom space at len → (space.from ≤ at) × (at + len ≤ space.end) → 0 < len → slots_for (flat_map (λ i. places_of i.placed) instruments) len ≡ Some at
unfolding bank_len
slots_given space instruments k at len r w some =
    let lo = w.0 in let hi = w.1 in
    lowest_same _ _ first_slot (slots_free space instruments k) bank_len len
    ∙ lowest_room space (is_left slots_of first_slot (bank_len - first_slot) instruments) k.taken.tied first_slot bank_len at len (omega (arith, k.taken.low)) (omega (arith, k.taken.high)) r

pub no_slots : (space : Rooms) (instruments : List Instrument) → AreSlotsOf space instruments → (len : ℕ) → ((at : ℕ) → IsRoom space at len → ⊥) → slots_for (flat_map (λ i. places_of i.placed) instruments) len ≡ None
no_slots space instruments k len r = lowest_same _ _ first_slot (slots_free space instruments k) bank_len len ∙ no_lowest space (is_left slots_of first_slot (bank_len - first_slot) instruments) k.taken.tied first_slot bank_len len r

-- no slots are asked for
pub slots_for_none : (taken : List VariableSlot) → slots_for taken 0 ≡ Some first_slot
unfolding bank_len lowest
slots_for_none taken = refl
