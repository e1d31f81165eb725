-- Arm keeps what is kept: it changes banks, and no hart is inside.
use Rattle.std.proofs.Common.{◌≡◌, ℕ, zero, suc, ◌+◌, ◌-◌, ◌%◌, ◌^◌, List, [], ◌∷◌, length, Some, refl, sym, ◌∙◌, subst, ⊎_elim, inl}
use Rattle.std.specs.Prelude.{if◌then◌else◌, ◌==◌, map, Bool, true, false, slice_get, slice_set, ◌⊎◌}
use Rattle.std.proofs.lemmas.Bool.{true≢false}
use Rattle.std.proofs.lemmas.List.{length-map}
use Rattle.pn_types.specs.declared.placed.Placed.{Placed}
use Rattle.rv_word.specs.Plain.{Words, PlainHart, Plain}
use Rattle.tramp_spec.specs.Banks.{bank_len}
use Rattle.tramp_spec.specs.Harts.{Hart}
use Rattle.tramp_spec.specs.Slots.{VariableSlot, set_place, set_places, places_of}
use Rattle.frame_walk.specs.Openings.{opening}
use Rattle.frame_walk.specs.Walks.{walk_now}
use Rattle.machine.specs.Cores.{Core}
use Rattle.machine.specs.Effects.{armed_hart}
use Rattle.machine.specs.Events.{IsQuiet}
use Rattle.machine.proofs.Lists.{length_slice_set}
use Rattle.machine.proofs.Invariant.{Piece, Outside, InBase, InMini, Dynamic, Inv}

pub length_place : (timer : Bool) (s v ticks : ℕ) (bank : List ℕ) → length (set_place timer s v ticks bank) ≡ length bank
length_place false s v ticks bank = length_slice_set bank s v
length_place true s v ticks bank = length_slice_set (slice_set bank (s + 1) v) s (if v == 0 then 0 else (2 ^ 64 - ticks) % 2 ^ 64) ∙ length_slice_set bank (s + 1) v

pub length_places : (ps : List VariableSlot) (values : List ℕ) (ticks : ℕ) (bank : List ℕ) → length (set_places ps values ticks bank) ≡ length bank
length_places [] values ticks bank = refl
length_places (p ∷ ps) [] ticks bank = refl
length_places (p ∷ ps) (v ∷ values) ticks bank = length_places ps values ticks (set_place p.timer p.slot v ticks bank) ∙ length_place p.timer p.slot v ticks bank

pub get_map : {A B : Type 0} (f : A → B) (xs : List A) (h : ℕ) (y : B) → slice_get (map f xs) h ≡ Some y → (x : A) × (slice_get xs h ≡ Some x) × (y ≡ f x)
get_map f [] h y e = absurd cc
get_map f (x ∷ xs) zero y e = let i : f x ≡ y = cc in (x, refl, sym i)
get_map f (x ∷ xs) (suc h) y e = get_map f xs h y e

pub arms_hart : (t : Words) (budget : ℕ) (ps : List Piece) (bank : List ℕ) (x : Hart) (y : PlainHart) → x.inside ≡ false → length bank ≡ bank_len → Dynamic t budget ps x y → Dynamic t budget ps (record x { bank = bank }) y
arms_hart t budget ps bank x y quiet len d =
    record {
      ticks = d.ticks;
      stop = d.stop;
      first = d.first;
      second = d.second;
      bank = len;
      down = d.down;
      hart = λ e. ⊎_elim (λ (o : Outside x y). inl (record { outside = o.outside; pc = o.pc; agree = o.agree }))
          (λ (r : InBase t budget ps x y ⊎ InMini budget ps x y). absurd (⊎_elim (λ (k : InBase t budget ps x y). true≢false (sym k.inside ∙ quiet)) (λ (k : InMini budget ps x y). true≢false (sym k.inside ∙ quiet)) r)) (d.hart e);
    }

unfoldable pub arms : (c : Core) (s : Plain) (i : Placed) → IsQuiet c → Inv c s → Inv (record c { harts = map (armed_hart c i) c.harts }) s
arms c s i quiet v =
    record {
      ground = v.ground;
      ps = v.ps;
      clock = v.clock;
      some = v.some;
      static = v.static;
      prog = v.prog;
      many = length-map c.harts (armed_hart c i) ∙ v.many;
      harts = λ h x y ex ey.
          let q = get_map (armed_hart c i) c.harts h x ex in
          let d = v.harts h q.0 y q.1 ey in
          subst (λ (z : Hart). Dynamic c.program c.budget v.ps z y) (sym q.2)
          (arms_hart c.program c.budget v.ps (set_places (places_of i) (opening i.opens (walk_now c.prog q.0) i.vars) (q.0).ticks (q.0).bank) q.0 y (quiet h q.0 q.1) (length_places (places_of i) (opening i.opens (walk_now c.prog q.0) i.vars) (q.0).ticks (q.0).bank ∙ d.bank) d);
    }
