-- Harts come to words in the middle of blocks from the word before, or by an indirect jump.
use Rattle.std.proofs.Common.{◌≡◌, ℕ, zero, suc, ◌+◌, ◌*◌, ◌^◌, ◌<◌, List, [], ◌∷◌, length, Option, Some, None, refl, ap, sym, ◌∙◌, arith, Bool, true, false, ⊎_elim}
use Rattle.std.specs.Prelude.{◌==◌, ◌&&◌, not, is_some, slice_get, count_by}
use Rattle.std.specs.List.{list_any}
use Rattle.std.specs.Option.{option_and_then, option_map_or}
use Rattle.std.proofs.lemmas.Bool.{and_from, and_parts, eqb-true, eq-eqb, not-true, or_left, or_parts, or_right}
use Rattle.std.proofs.lemmas.List.Sums.{sum_by-cons}
use Rattle.pn_types.specs.declared.code.Proc.{Proc}
use Rattle.pn_types.specs.declared.image.Image.{Image}
use Rattle.rv_word.specs.Exec.{next}
use Rattle.rv_word.specs.Names.{ends_block, jump_of}
use Rattle.rv_word.specs.Table.{decode_of}
use Rattle.rv_word.specs.Plain.{Words, PlainHart, program_word}
use Rattle.rv_mem.specs.Start.{program_of}
use Rattle.rv_exec.specs.Start.{start_hart, harts_from}
use Rattle.block_count.specs.Heads.{begins, is_opened, opens}
use Rattle.word_flow.specs.Transfers.{falls_through_to, is_indirect_jump, is_transfer_to, harts_starting_at}
use Rattle.word_flow.proofs.Steps.{IsTurn}
use Rattle.word_flow.proofs.Flows.{one_if}
use Rattle.word_flow.proofs.Splits.{has_place}
use Rattle.word_counts.specs.IndirectJumps.{is_jump_into_block}

word_opens : (ws : List ℕ) (b a i w : ℕ) → slice_get ws i ≡ Some w → opens w (b + 4 * i) a ≡ true → is_opened ws b a ≡ true
word_opens [] b a i w e o = absurd cc
word_opens (v ∷ vs) b a zero w e o =
    let z : b + 4 * 0 ≡ b = omega arith in
    let s : v ≡ w = cc in
    or_left _ _ (ap (λ u. opens u b a) s ∙ (ap (λ c. opens w c a) (sym z) ∙ o))
word_opens (v ∷ vs) b a (suc i) w e o =
    let z : b + 4 * suc i ≡ b + 4 + 4 * i = omega arith in
    or_right (opens v b a) _ (word_opens vs (b + 4) a i w e (ap (λ c. opens w c a) (sym z) ∙ o))

module _ (image : Image) (procs : List Proc) (low : image.text_at + 4 * length (program_of image).words < 2 ^ 64) where
  abbrev t : Words
  t = program_of image

  -- ---- where blocks begin

  opens_begins : (pc w a : ℕ) → program_word t pc ≡ Some w → opens w pc a ≡ true → begins image procs a ≡ true
  opens_begins pc w a is o =
      let p = has_place t pc w is in
      let opened = word_opens t.words image.text_at a p.i w p.is (ap (λ c. opens w c a) (sym p.at) ∙ o) in
      or_right (image.entry == a) _ (or_right (list_any (λ q. q.start == a) procs) _ opened)

  end_opens : (pc w a : ℕ) → ends_block (decode_of w) ≡ true → pc + 4 ≡ a → opens w pc a ≡ true
  end_opens pc w a ends e = or_right _ _ (and_from _ _ (eq-eqb (pc + 4) a e) ends)

  target_opens : (pc w a : ℕ) → jump_of (decode_of w) pc ≡ Some a → opens w pc a ≡ true
  target_opens pc w a e = or_left _ _ (ap (λ o. option_map_or (λ target. target == a) o false) e ∙ eq-eqb a a refl)

  next_is : (pc w : ℕ) → program_word t pc ≡ Some w → next pc ≡ pc + 4
  next_is pc w is =
      let p = has_place t pc w is in
      let f = p.few in
      let e : pc ≡ image.text_at + 4 * p.i = p.at in
      omega arith

  -- ---- a transfer to a word at which no block begins is an indirect jump

  module _ (a v : ℕ) (stands : program_word t a ≡ Some v) (inner : begins image procs a ≡ false) (x y : PlainHart) (turn : IsTurn t x y)
      (transfer : is_transfer_to t a x y ≡ true) where
    abbrev parts : ((not (is_some y.stop) && (y.pc == a)) ≡ true) × (not (falls_through_to t a x) ≡ true)
    parts = and_parts (not (is_some y.stop) && (y.pc == a)) (not (falls_through_to t a x)) transfer

    goes : is_some y.stop ≡ false
    goes = not-true (is_some y.stop) (and_parts (not (is_some y.stop)) (y.pc == a) parts.0).0

    there : y.pc ≡ a
    there = eqb-true y.pc a (and_parts (not (is_some y.stop)) (y.pc == a) parts.0).1

    falls_not : falls_through_to t a x ≡ false
    falls_not = not-true (falls_through_to t a x) parts.1

    -- it is one where the hart was at this word
    abbrev JumpsInside : Option ℕ → Type 0
    JumpsInside o =
        (not (is_some y.stop) && is_indirect_jump (option_and_then decode_of o)
        && is_some (program_word t y.pc) && not (begins image procs y.pc))
        ≡ true

    jumps : (w : ℕ) → is_indirect_jump (decode_of w) ≡ true → JumpsInside (Some w)
    jumps w e =
        and_from _ _
        (and_from _ _ (and_from _ _ (ap not goes) e) (ap (λ c. is_some (program_word t c)) there ∙ ap is_some stands))
        (ap (λ c. not (begins image procs c)) there ∙ ap not inner)

    never : {A : Type 0} → begins image procs a ≡ true → A
    never e = let contrary : true ≡ false = sym e ∙ inner in absurd cc

    not_indirect : (w : ℕ) → program_word t x.pc ≡ Some w → is_indirect_jump (decode_of w) ≡ false
        → (r : Bool) → ends_block (decode_of w) ≡ r → JumpsInside (Some w)
    not_indirect w is direct false straight =
        let n : x.pc + 4 ≡ a = sym (next_is x.pc w is) ∙ (sym (turn.goes w is straight goes) ∙ there) in
        let falls : falls_through_to t a x ≡ true
        = and_from _ _
        (ap (λ o. option_map_or (λ w. not (ends_block (decode_of w))) o false) is ∙ ap not straight) (eq-eqb (x.pc + 4) a n) in
        let contrary : true ≡ false = sym falls ∙ falls_not in
        absurd cc
    not_indirect w is direct true ends =
        ⊎_elim
        (λ (e : jump_of (decode_of w) x.pc ≡ Some y.pc). never (opens_begins x.pc w a is (target_opens x.pc w a (e ∙ ap Some there))))
        (λ (e : y.pc ≡ next x.pc). never (opens_begins x.pc w a is (end_opens x.pc w a ends (sym (next_is x.pc w is) ∙ (sym e ∙ there)))))
        (turn.jumps w is direct ends goes)

    by_kind : (w : ℕ) → program_word t x.pc ≡ Some w → (q : Bool) → is_indirect_jump (decode_of w) ≡ q → JumpsInside (Some w)
    by_kind w is true e = jumps w e
    by_kind w is false e = not_indirect w is e (ends_block (decode_of w)) refl

    by_word : (o : Option ℕ) → program_word t x.pc ≡ o → JumpsInside o
    by_word None e = let contrary : true ≡ false = sym (turn.halts e) ∙ goes in absurd cc
    by_word (Some w) e = by_kind w e (is_indirect_jump (decode_of w)) refl

  pub jump_into_block : (a v : ℕ) → program_word t a ≡ Some v → begins image procs a ≡ false
      → (x y : PlainHart) → x.stop ≡ None → IsTurn t x y → is_transfer_to t a x y ≡ true → is_jump_into_block image procs x y ≡ true
  jump_into_block a v stands inner x y free turn transfer = by_word a v stands inner x y turn transfer (program_word t x.pc) refl

  -- no hart starts in the middle of a block
  pub none_starts : (n a : ℕ) → begins image procs a ≡ false → harts_starting_at image n a ≡ 0
  none_starts n a inner = from n 0
    where
      from : (more h : ℕ) → count_by (λ x. x.pc == a) (harts_from more h image n) ≡ 0
      from zero h = refl
      from (suc more) h =
          let c = sum_by-cons (λ x. one_if (x.pc == a)) (start_hart image n h) (harts_from more (h + 1) image n) in
          let e : one_if (image.entry == a) ≡ 0 = ap one_if (or_parts (image.entry == a) _ inner).0 in
          let r = from more (h + 1) in
          omega arith
