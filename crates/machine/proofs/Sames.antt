-- From what is kept: the patched machine is the program's.
use Rattle.std.proofs.Common.{◌≡◌, ◌≢◌, ℕ, zero, suc, ◌+◌, ◌*◌, ◌<◌, ◌≤◌, List, [], ◌∷◌, ◌++◌, length, Option, Some, None, refl, sym, ap, ◌∙◌, subst, arith, ⊎_elim, inl, inr}
use Rattle.std.specs.Prelude.{Bool, true, false, slice_get, ◌⊎◌, ◌&&◌, ◌==◌}
use Rattle.std.specs.FinMap.{get}
use Rattle.std.proofs.lemmas.Bool.{cases_eq, cases_lt, cond-true, cond-false, and_left, and_right, and_from, eq-eqb, ne_eqb}
use Rattle.std.proofs.lemmas.Grind.{common_steps}
use Rattle.std.proofs.lemmas.Option.{slice_get_within}
use Rattle.rv_word.specs.Names.{jump_of}
use Rattle.rv_word.specs.Registers.{reg}
use Rattle.rv_word.specs.Table.{decode_of}
use Rattle.rv_word.specs.Words.{word_of}
use Rattle.rv_word.specs.Plain.{Words, PlainHart, Plain, program_word}
use Rattle.rv_word.specs.declared.outcome.Cause.{Cause}
use Rattle.rv_word.specs.declared.instr.Instr.TheVariants.{Load, Store}
use Rattle.rv_word.specs.declared.instr.LoadOp.TheVariants.{Ld}
use Rattle.rv_word.specs.declared.instr.StoreOp.TheVariants.{Sd}
use Rattle.tramp_spec.specs.Codes.{Code}
use Rattle.tramp_spec.specs.Blocks.{tail_of, moved_at, home_by, is_saved, rebuilding}
use Rattle.tramp_spec.specs.Bodies.{Safe}
use Rattle.tramp_spec.specs.Harts.{Hart, bench_of}
use Rattle.tramp_spec.specs.Marks.{own, tool, leave}
use Rattle.tramp_spec.specs.MovedWords.{own_place, rebuilt}
use Rattle.tramp_spec.specs.declared.mark.MarkedWord.{MarkedWord}
use Rattle.machine.specs.Cores.{In, Row, Core}
use Rattle.machine.specs.Places.{block_at, word_no, program_pc, saved_in, has_saved, rebuilding_by, rebuilding_in, rebuilding_of, program_register}
use Rattle.machine.specs.Same.{SameProgram}
use Rattle.machine.proofs.Lists.{stands_at, get_append, get_before}
use Rattle.machine.proofs.Invariant.{Piece, IsBase, base_with, BaseShape, MiniShape, Static, Saved, Outside, AtSave, AtSaved, AtMoved, AtLeave, InBase, InMini, Dynamic, Inv}
use Rattle.machine.proofs.Homes as homes
use Rattle.machine.proofs.Homes.{block_is, home_word, home_leave, same_moved}

module _ (t : Words) (budget : ℕ) (code : Code) (rows : List Row) (ps : List Piece) (clock : ℕ) (st : Static t code rows ps clock) (x : Hart) (y : PlainHart) where
  -- what is seen of a hart in a block at its word number n
  record Seen : Type 0 where
    pc : program_pc code rows x ≡ y.pc
    regs : (r : ℕ) → 0 < r → r < 31 → rebuilding_of t rows x ≢ Some r → program_register rows x r ≡ reg y.regs r

  base_shape : (b : Piece) → In b ps → IsBase b → BaseShape t code b.row b.next
  base_shape = homes.base_shape t code rows ps clock st

  outside : Outside x y → Seen
  outside o =
      let none : has_saved rows x ≡ false = and_left x.inside (saved_in (block_at rows x.pc) x.pc) o.outside in
      record {
        pc = cond-false x.inside _ _ o.outside ∙ o.pc;
        regs = λ r p l n. cond-false (has_saved rows x && (r == 5)) _ _ (and_left (has_saved rows x) (r == 5) none) ∙ o.agree r l;
      }

  -- whether x5 is saved, and what is being rebuilt, by the number of the word
  module _ (p : Piece) (n : ℕ) (hp : In p ps) (i : x.inside ≡ true) (pc : x.pc ≡ p.row.at + 4 * n) (l : n < p.row.len) where
    block : block_at rows x.pc ≡ Some p.row
    block = block_is t code rows ps clock st p x.pc hp (omega arith) (omega arith)

    number : word_no p.row x.pc ≡ n
    number = omega arith

    saved_is : has_saved rows x ≡ is_saved p.row.base n
    saved_is = ap (λ b. b && saved_in (block_at rows x.pc) x.pc) i ∙ (ap (λ o. saved_in o x.pc) block ∙ ap (is_saved p.row.base) number)

    rebuilding_is : (word : ℕ) → program_word t p.row.point ≡ Some word → rebuilding_of t rows x ≡ rebuilding p.row.base word n
    rebuilding_is word e =
        cond-true x.inside _ _ i ∙ (ap (λ o. rebuilding_in o t x.pc) block ∙ (ap (λ o. rebuilding_by o p.row x.pc) e ∙ ap (rebuilding p.row.base word) number))

    home_is : (w : MarkedWord) → get code x.pc ≡ Some w → program_pc code rows x ≡ home_by w x.pc p.row.point
    home_is w e = cond-true x.inside _ _ i ∙ home_word t code rows ps clock st p x.pc w hp (omega arith) (omega arith) e

    unsaved : is_saved p.row.base n ≡ false → (r : ℕ) → program_register rows x r ≡ reg x.regs r
    unsaved e r = cond-false (has_saved rows x && (r == 5)) _ _ (and_left (has_saved rows x) (r == 5) (saved_is ∙ e))

    saved : is_saved p.row.base n ≡ true → Saved x y → (r : ℕ) → r < 31 → program_register rows x r ≡ reg y.regs r
    saved e s r u = ⊎_elim
        (λ (q : r ≡ 5). cond-true (has_saved rows x && (r == 5)) _ _ (and_from _ _ (saved_is ∙ e) (eq-eqb r 5 q)) ∙ (s.saved ∙ ap (reg y.regs) (sym q)))
        (λ (q : r ≡ 5 → ⊥). cond-false (has_saved rows x && (r == 5)) _ _ (and_right (has_saved rows x) (r == 5) (ne_eqb r 5 q)) ∙ s.agree r u q)
        (cases_eq r 5)

  at_base : (b : Piece) (hb : In b ps) (bs : IsBase b) (n : ℕ) (w : MarkedWord) → x.pc ≡ b.row.at + 4 * n → slice_get (base_with (base_shape b hb bs).jump (base_shape b hb bs).moved) n ≡ Some w → get code x.pc ≡ Some w
  at_base b hb bs n w pc e = let s = base_shape b hb bs in ap (get code) pc ∙ stands_at code b.row.at (base_with s.jump s.moved) n w s.stands e

  in_base : InBase t budget ps x y → Seen
  in_base k = ⊎_elim at_save (λ r. ⊎_elim (λ (z : AtSaved budget k.b ((k.b).row.at + 4) x y). at_saved 1 (tool s.jump) ((k.b).row.at + 4) z (omega arith) refl (omega arith) refl refl)
      (λ r. ⊎_elim (λ (z : AtSaved budget k.b (tail_of (k.b).row.at) x y). at_saved 2 (tool (word_of (Load Ld 5 0 8))) (tail_of (k.b).row.at) z (omega arith) refl (omega arith) refl refl)
      (λ r. ⊎_elim at_moved at_leave r) r) r) k.place
    where
      s : BaseShape t code (k.b).row (k.b).next
      s = base_shape k.b k.is_in k.base

      base_is : (n : ℕ) (q : Bool) → is_saved true n ≡ q → is_saved (k.b).row.base n ≡ q
      base_is n q e = ap (λ z. is_saved z n) (k.base).base ∙ e

      at_save : AtSave budget k.b x y → Seen
      at_save z =
          let len = s.len in
          let pc : x.pc ≡ (k.b).row.at + 4 * 0 = (let e = z.pc in omega arith) in
          record {
            pc = home_is k.b 0 k.is_in k.inside pc (omega arith) (tool (word_of (Store Sd 0 5 8))) (at_base k.b k.is_in k.base 0 (tool (word_of (Store Sd 0 5 8))) pc refl) ∙ sym z.home;
            regs = λ r p l n. unsaved k.b 0 k.is_in k.inside pc (omega arith) (base_is 0 false refl) r ∙ z.agree r l;
          }

      at_saved : (n : ℕ) (w : MarkedWord) (place : ℕ) → AtSaved budget k.b place x y → n < 3 → is_saved true n ≡ true → place ≡ (k.b).row.at + 4 * n → slice_get (base_with (base_shape k.b k.is_in k.base).jump (base_shape k.b k.is_in k.base).moved) n ≡ Some w → home_by w x.pc (k.b).row.point ≡ (k.b).row.point → Seen
      at_saved n w place z l e at g h =
          let len = s.len in
          let pc : x.pc ≡ (k.b).row.at + 4 * n = z.pc ∙ at in
          record {
            pc = home_is k.b n k.is_in k.inside pc (omega arith) w (at_base k.b k.is_in k.base n w pc g) ∙ (h ∙ sym z.home);
            regs = λ r p u m. saved k.b n k.is_in k.inside pc (omega arith) (base_is n true e) z.saved r u;
          }

      -- a moved word of number j
      number_of : (j : ℕ) → x.pc ≡ moved_at (k.b).row.at + 4 * j → x.pc ≡ (k.b).row.at + 4 * suc (suc (suc j))
      number_of j e = omega arith

      not_saved : (j : ℕ) → is_saved (k.b).row.base (suc (suc (suc j))) ≡ false
      not_saved j = base_is (suc (suc (suc j))) false (grind (arith, common_steps))

      at_moved : AtMoved t budget k.b x y → Seen
      at_moved z =
          let m = z.m in
          let tk = (m.moves).tick in
          let within = slice_get_within m.moved (own_place m.word) (own tk.0) tk.1 in
          let same = same_moved t code k.b m s in
          let len = s.len in
          let low = z.low in
          let n : length m.moved ≡ length s.moved = ap length same in
          let pc = number_of z.j z.pc in
          let l : suc (suc (suc z.j)) < (k.b).row.len = omega arith in
          let at_own : (w : MarkedWord) → slice_get m.moved z.j ≡ Some w → get code x.pc ≡ Some w =
          λ w e. at_base k.b k.is_in k.base (suc (suc (suc z.j))) w pc (subst (λ ws. slice_get ws z.j ≡ Some w) same e) in
          record {
            pc = ⊎_elim
                (λ (q : z.j < own_place m.word). let si = (m.moves).silent z.j q in home_is k.b (suc (suc (suc z.j))) k.is_in k.inside pc l (tool si.0) (at_own (tool si.0) si.1) ∙ sym z.home)
                (λ (q : own_place m.word ≤ z.j).
                let e : own_place m.word ≡ z.j = omega arith in
                home_is k.b (suc (suc (suc z.j))) k.is_in k.inside pc l (own tk.0) (at_own (own tk.0) (ap (slice_get m.moved) (sym e) ∙ tk.1)) ∙ sym z.home)
                (cases_lt z.j (own_place m.word));
            regs = λ r p u nr.
                let is_rebuilding : rebuilding_of t rows x ≡ rebuilt m.word z.j = rebuilding_is k.b (suc (suc (suc z.j))) k.is_in k.inside pc l m.word m.here ∙ (ap (λ q. rebuilding q m.word (suc (suc (suc z.j)))) (k.base).base ∙ grind (arith, common_steps)) in
                let away : rebuilt m.word z.j ≢ Some r = λ e. nr (is_rebuilding ∙ e) in
                unsaved k.b (suc (suc (suc z.j))) k.is_in k.inside pc l (not_saved z.j) r
                ∙ (ap (λ rs. reg rs r) z.is ∙ ((m.moves).like z.j r z.regs low p u away ∙ z.agree r u));
          }

      at_leave : AtLeave t k.b x y → Seen
      at_leave z =
          let m = z.m in
          let same = same_moved t code k.b m s in
          let len = s.len in
          let low = z.low in
          let n : length m.moved ≡ length s.moved = ap length same in
          let pc = number_of z.j z.pc in
          let l : suc (suc (suc z.j)) < (k.b).row.len = omega arith in
          let here : get code x.pc ≡ Some (leave z.left) = at_base k.b k.is_in k.base (suc (suc (suc z.j))) (leave z.left) pc (subst (λ ws. slice_get ws z.j ≡ Some (leave z.left)) same z.stands) in
          record {
            pc = cond-true x.inside _ _ k.inside ∙ home_leave t code rows ps clock st k.b x.pc z.left y.pc k.is_in (omega arith) (omega arith) here (ap (jump_of (decode_of z.left)) z.pc ∙ z.home);
            regs = λ r p u nr. unsaved k.b (suc (suc (suc z.j))) k.is_in k.inside pc l (not_saved z.j) r ∙ z.agree r u;
          }

  in_mini : InMini budget ps x y → Seen
  in_mini k = by k.f k.safe
    where
      s : MiniShape code (k.m).row (k.m).body (k.m).next
      s = homes.mini_shape t code rows ps clock st k.m k.is_in k.linked

      at_word : (v : ℕ) → k.i < (k.m).row.len → slice_get ((k.m).body ++ tool s.jump ∷ []) k.i ≡ Some (tool v) → Seen
      at_word v l e =
          let here : get code x.pc ≡ Some (tool v) = ap (get code) k.pc ∙ stands_at code (k.m).row.at ((k.m).body ++ tool s.jump ∷ []) k.i (tool v) s.stands e in
          record {
            pc = home_is k.m k.i k.is_in k.inside k.pc l (tool v) here ∙ sym k.home;
            regs = λ r p u n. saved k.m k.i k.is_in k.inside k.pc l (ap (λ q. is_saved q k.i) (k.linked).mini) k.saved r u;
          }

      ends : k.i ≡ length (k.m).body → Seen
      ends e = let len = s.len in at_word s.jump (omega arith) (ap (slice_get ((k.m).body ++ tool s.jump ∷ [])) e ∙ get_append (k.m).body (tool s.jump))

      by : (f : ℕ) → Safe f (k.m).body (k.m).row.at k.i (bench_of x) x.ticks → Seen
      by zero e = ends e
      by (suc f) (inl e) = ends e
      by (suc f) (inr r) =
          let len = s.len in
          let l = slice_get_within (k.m).body k.i (tool (r.2).word) (r.2).here in
          at_word (r.2).word (omega arith) (get_before (k.m).body (tool s.jump ∷ []) k.i (tool (r.2).word) (r.2).here)

  sees : Dynamic t budget ps x y → x.stop ≡ None → Seen
  sees d e = ⊎_elim outside (λ (r : InBase t budget ps x y ⊎ InMini budget ps x y). ⊎_elim in_base in_mini r) (d.hart e)

  pc_of : (o : Option Cause) → x.stop ≡ o → Dynamic t budget ps x y → program_pc code rows x ≡ y.pc
  pc_of None e d = (sees d e).pc
  pc_of (Some cause) e d = let k = d.down cause e in cond-false x.inside _ _ k.0 ∙ k.1

pub sames : (c : Core) (s : Plain) → Inv c s → SameProgram c s
sames c s v = record {
  prog = v.prog;
  many = v.many;
  harts = λ h x y ex ey.
      let d = v.harts h x y ex ey in
      record {
        ticks = d.ticks;
        stop = d.stop;
        pc = pc_of c.program c.budget c.code c.rows v.ps v.clock v.static x y x.stop refl d;
        regs = λ e r p l n. (sees c.program c.budget c.code c.rows v.ps v.clock v.static x y d e).regs r p l n;
      };
}
