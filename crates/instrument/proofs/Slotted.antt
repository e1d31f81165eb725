-- The slots of instruments in a space: what is given back where some are gone.
use Rattle.std.proofs.Common.{◌≡◌, ℕ, ◌+◌, ◌^◌, ◌<◌, ◌-◌, List, [], ◌∷◌, ◌++◌, ap, map, sym, subst, arith, cond, drop, get_or, length, take}
use Rattle.std.specs.Prelude.{nat_lt}
use Rattle.tool_space.specs.Rooms.{Rooms, IsTaken, new_space, after_give}
use Rattle.tramp_spec.specs.Banks.{bank_len, first_slot}
use Rattle.machine.specs.Cores.{In}
use Rattle.machine.proofs.Lists.{in_map}
use Rattle.pn_types.specs.declared.placed.Placed.{Placed}
use Rattle.pn_types.specs.declared.limits.TheConstants.{BANK_LEN, FIRST_SLOT}
use Rattle.instrument.specs.Admission.{slot_count, slots_from}
use Rattle.instrument.specs.Armable.{AreArmable}
use Rattle.instrument.specs.Listed.{AreInOrder}
use Rattle.instrument.specs.Spaces.{first_or, slots_of, slots_of_placed, IsRow, AreSlotsOf, IsRoster}
use Rattle.instrument.specs.declared.instrument.Instrument.{Instrument}
use Rattle.instrument.proofs.Holdings.{space_new, space_map, space_out, may_give, middle, parted, taken, without}

pub few_slots : (space : Rooms) (xs : List Instrument) (i : Instrument) → AreSlotsOf space xs → In i xs → slot_count i.placed.vars < 2 ^ 32
unfolding bank_len
few_slots space xs i k h = let w = (k.taken.within i h).1 in omega arith

-- the slots of one may be given back
pub may_go : (space : Rooms) (xs : List Instrument) (i : ℕ) (x : Instrument) → i < length xs → x ≡ get_or xs i x → AreSlotsOf space xs
    → (slot_count x.placed.vars < 2 ^ 32) × (0 < (slots_of x).len → 0 < space.gives) × (0 < (slots_of x).len → IsTaken space (slots_of x).at (slots_of x).len)
may_go space xs i x l e k =
    let p = parted xs i x l e in
    let h = subst (λ (ys : List Instrument). In x ys) (sym p) (middle (take i xs) (drop (i + 1) xs) x) in
    let b = subst (λ (ys : List Instrument). AreSlotsOf space ys) p k in
    (few_slots space xs x k h, λ some. may_give slots_of _ _ space (take i xs) (drop (i + 1) xs) x b.taken some, λ some. taken slots_of _ _ space xs k.taken x h)

-- and it is left out
pub slots_out : (space : Rooms) (xs ys : List Instrument) (x : Instrument) → AreSlotsOf space (xs ++ x ∷ ys) → AreSlotsOf (cond (nat_lt 0 (slots_of x).len) (after_give space (slots_of x).at (slots_of x).len) space) (xs ++ ys)
slots_out space xs ys x k = record {
  taken = space_out slots_of first_slot _ space xs ys x k.taken;
  rows = λ u h. k.rows u (without xs ys x u h);
}

-- ---- the roster

pub roster_new : (space : Rooms) (instruments : List Instrument) (len capacity : ℕ) → space ≡ new_space FIRST_SLOT (BANK_LEN - FIRST_SLOT) → instruments ≡ [] → len ≡ 0 → IsRoster space instruments len capacity 0
unfolding bank_len
roster_new space instruments len capacity e f g = record {
  slots = subst (λ (z : Rooms). AreSlotsOf z instruments) (sym e) (subst (λ (is : List Instrument). AreSlotsOf (new_space FIRST_SLOT (BANK_LEN - FIRST_SLOT)) is) (sym f) (record {
    taken = space_new slots_of first_slot (bank_len - first_slot);
    rows = λ i h. absurd h;
  }));
  order = subst AreInOrder (sym f) tt;
  armable = subst AreArmable (sym f) (λ i h. absurd h);
  memory = omega (arith, g);
}

-- a state is no matter
pub slots_map : (space : Rooms) (f : Instrument → Instrument) (xs : List Instrument) → ((i : Instrument) → (f i).placed ≡ i.placed) → AreSlotsOf space xs → AreSlotsOf space (map f xs)
slots_map space f xs same k = record {
  taken = space_map slots_of f (λ i. ap slots_of_placed (same i)) first_slot (bank_len - first_slot) space xs k.taken;
  rows = λ i h.
      let o = in_map f xs i h in
      subst IsRow (sym o.2) (subst (λ (p : Placed). p.slots ≡ slots_from (first_or first_slot p.slots) p.vars) (sym (same o.0)) (k.rows o.0 o.1));
}
