-- The lowest place is free: rooms and slots that are taken are apart from those that stand.
use Rattle.std.proofs.Common.{◌≡◌, ℕ, zero, suc, ◌+◌, ◌-◌, ◌*◌, ◌/◌, ◌%◌, ◌<◌, ◌≤◌, List, Option, Some, None, refl, sym, ◌∙◌, subst, arith, ⊎_elim, inl, inr}
use Rattle.std.specs.Prelude.{Bool, true, not, nat_le, nat_lt, ◌⊎◌}
use Rattle.std.specs.List.{list_any, range_with_len}
use Rattle.std.specs.Option.{option_map}
use Rattle.std.proofs.lemmas.Bool.{true≢false, cases_lt, and_parts, and_from, not_from_true, le-leb, lt-ltb, leb-true, ltb-true}
use Rattle.pn_types.specs.declared.limits.TheConstants.{TOOL_TEXT_LEN}
use Rattle.rv_word.specs.Memory.{in_range}
use Rattle.rv_word.specs.Plain.{Words}
use Rattle.tramp_spec.specs.Banks.{bank_len, first_slot}
use Rattle.tramp_spec.specs.Codes.{tool_at}
use Rattle.tramp_spec.specs.Slots.{VariableSlot, width}
use Rattle.machine.specs.Cores.{In}
use Rattle.machine.specs.Events.{Apart}
use Rattle.machine.proofs.Lists.{find_gives}
use Rattle.instrument.specs.Fits.{are_free, lowest, is_word_free, room_for, is_slot_of, is_slot_free, slots_for}
use Rattle.instrument.specs.declared.room.Room.{Room}
use Rattle.instrument.proofs.Going.{any_in}
use Rattle.instrument.proofs.Neats.{Neat}

range_from : (from n x : ℕ) → In x (range_with_len from n) → from ≤ x
range_from from zero x h = absurd h
range_from from (suc n) x (inl e) = omega arith
range_from from (suc n) x (inr h) = let l = range_from (from + 1) n x h in omega arith

lowest_gives : (free : ℕ → Bool) (from units len unit : ℕ) → lowest free from units len ≡ Some unit → (from ≤ unit) × (are_free free len unit ≡ true)
unfolding lowest
lowest_gives free from units len unit e =
    let g = find_gives (are_free free len) (range_with_len from units) unit e in (range_from from units unit g.0, g.1)

free_at : (free : ℕ → Bool) (len unit n : ℕ) → are_free free len unit ≡ true → unit ≤ n → n < unit + len → free n ≡ true
free_at free zero unit n e lo hi = absurd (omega arith)
free_at free (suc len) unit n e lo hi =
    let p = and_parts (free unit) (are_free free len (unit + 1)) e in
    ⊎_elim (λ (l : unit < n). free_at free len (unit + 1) n p.1 (omega arith) (omega arith))
    (λ (l : n ≤ unit). let z : unit ≡ n = omega arith in subst (λ k. free k ≡ true) z p.0) (cases_lt unit n)

none_in : {A : Type 0} (p : A → Bool) (xs : List A) (x : A) → not (list_any p xs) ≡ true → In x xs → p x ≡ true → ⊥
none_in p xs x e h t = true≢false (sym e ∙ not_from_true _ (any_in p xs x h t))

pub in_range_from : (at len a : ℕ) → at ≤ a → a < at + len → in_range at len a ≡ true
in_range_from at len a lo hi = let d : a - at < len = omega arith in and_from _ _ (le-leb _ _ lo) (lt-ltb _ _ d)

pub range_of : (at len a : ℕ) → in_range at len a ≡ true → (at ≤ a) × (a < at + len)
range_of at len a e =
    let p = and_parts (nat_le at a) (nat_lt (a - at) len) e in
    let lo : at ≤ a = leb-true at a p.0 in
    let d : a - at < len = ltb-true (a - at) len p.1 in (lo, omega arith)

-- ---- rooms

pub record FreeRoom (t : Words) (rooms : List Room) (at len : ℕ) : Type 0 where
  pub aligned : at % 4 ≡ 0
  pub low : tool_at t ≤ at
  pub high : at + 4 * len ≤ tool_at t + TOOL_TEXT_LEN
  pub apart : (x : Room) → In x rooms → Apart x.at x.len at len

room_at : (t : Words) (rooms : List Room) (len unit : ℕ) → 0 < len → Neat rooms → lowest (is_word_free t rooms) (tool_at t / 4) (TOOL_TEXT_LEN / 4) len ≡ Some unit → FreeRoom t rooms (4 * unit) len
room_at t rooms len unit some neat e =
    let g = (lowest_gives (is_word_free t rooms) (tool_at t / 4) (TOOL_TEXT_LEN / 4) len unit e).1 in
    let at : (n : ℕ) → unit ≤ n → n < unit + len → (tool_at t ≤ 4 * n) × (4 * n < tool_at t + TOOL_TEXT_LEN) × (not (list_any (λ x. in_range x.at (4 * x.len) (4 * n)) rooms) ≡ true) =
    λ n lo hi.
    let f = and_parts (in_range (tool_at t) TOOL_TEXT_LEN (4 * n)) (not (list_any (λ x. in_range x.at (4 * x.len) (4 * n)) rooms)) (free_at (is_word_free t rooms) len unit n g lo hi) in
    let r = range_of (tool_at t) TOOL_TEXT_LEN (4 * n) f.0 in (r.0, r.1, f.1) in
    let first = at unit (omega arith) (omega arith) in
    let last = (at (unit + (len - 1)) (omega arith) (omega arith)).1 in
    record {
      aligned = omega arith;
      low = first.0;
      high = omega arith;
      apart = λ x h.
          let z = neat.sized x h in
          let pos = z.0 in
          let al = z.1 in
          ⊎_elim (λ (l : x.at + 4 * x.len ≤ 4 * unit). inl l)
          (λ (l : 4 * unit < x.at + 4 * x.len). ⊎_elim (λ (m : 4 * unit + 4 * len ≤ x.at). inr m)
          (λ (m : x.at < 4 * unit + 4 * len). absurd (⊎_elim
          (λ (k : x.at ≤ 4 * unit). none_in (λ (y : Room). in_range y.at (4 * y.len) (4 * unit)) rooms x first.2 h (in_range_from x.at (4 * x.len) (4 * unit) k l))
          (λ (k : 4 * unit < x.at).
          let q : 4 * (x.at / 4) ≡ x.at = omega arith in
          none_in (λ (y : Room). in_range y.at (4 * y.len) (4 * (x.at / 4))) rooms x (at (x.at / 4) (omega arith) (omega arith)).2 h
          (in_range_from x.at (4 * x.len) (4 * (x.at / 4)) (omega arith) (omega arith)))
          (le_or x.at (4 * unit))))
          (le_or (4 * unit + 4 * len) x.at))
          (le_or (x.at + 4 * x.len) (4 * unit));
    }
  where
    le_or : (a b : ℕ) → (a ≤ b) ⊎ (b < a)
    le_or a b = ⊎_elim (λ l. inr l) (λ l. inl l) (cases_lt b a)

pub free_room : (t : Words) (rooms : List Room) (len at : ℕ) → 0 < len → Neat rooms → room_for t rooms len ≡ Some at → FreeRoom t rooms at len
free_room t rooms len at some neat e = by (lowest (is_word_free t rooms) (tool_at t / 4) (TOOL_TEXT_LEN / 4) len) refl e
  where
    by : (o : Option ℕ) → lowest (is_word_free t rooms) (tool_at t / 4) (TOOL_TEXT_LEN / 4) len ≡ o → option_map (λ unit. 4 * unit) o ≡ Some at → FreeRoom t rooms at len
    by None q i = absurd cc
    by (Some unit) q i = let z : 4 * unit ≡ at = cc in subst (λ a. FreeRoom t rooms a len) z (room_at t rooms len unit some neat q)

-- ---- slots

pub record FreeSlots (taken : List VariableSlot) (slot len : ℕ) : Type 0 where
  pub low : first_slot ≤ slot
  pub high : (n : ℕ) → slot ≤ n → n < slot + len → n < bank_len
  pub free : (n : ℕ) → slot ≤ n → n < slot + len → (p : VariableSlot) → In p taken → p.slot ≤ n → n < p.slot + width p → ⊥

pub free_slots : (taken : List VariableSlot) (len slot : ℕ) → slots_for taken len ≡ Some slot → FreeSlots taken slot len
free_slots taken len slot e =
    let g = lowest_gives (is_slot_free taken) first_slot bank_len len slot e in
    let at : (n : ℕ) → slot ≤ n → n < slot + len → (nat_lt n bank_len ≡ true) × (not (list_any (λ p. is_slot_of p n) taken) ≡ true) =
    λ n lo hi. and_parts (nat_lt n bank_len) (not (list_any (λ p. is_slot_of p n) taken)) (free_at (is_slot_free taken) len slot n g.1 lo hi) in
    record {
      low = g.0;
      high = λ n lo hi. ltb-true n bank_len (at n lo hi).0;
      free = λ n lo hi p h a b. none_in (λ (q : VariableSlot). is_slot_of q n) taken p (at n lo hi).1 h (and_from _ _ (le-leb _ _ a) (lt-ltb _ _ b));
    }
