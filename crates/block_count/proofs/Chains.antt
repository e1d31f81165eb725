-- The counters of a program's blocks can be placed one after another.
use Rattle.std.proofs.Common.{◌≡◌, ℕ, ◌+◌, ◌*◌, ◌%◌, ◌≤◌, List, [], ◌∷◌, length, Option, Some, None, refl, sym, ap, ◌∙◌, subst, arith}
use Rattle.std.specs.Prelude.{Bool, true, false, cond, ◌==◌, ◌&&◌}
use Rattle.std.specs.Option.{option_and_then, option_map}
use Rattle.pn_types.specs.declared.code.Proc.{Proc}
use Rattle.pn_types.specs.declared.image.Image.{Image}
use Rattle.rv_word.specs.Plain.{Words, program_word}
use Rattle.rv_word.specs.Table.{decode_of}
use Rattle.rv_word.specs.declared.instr.Instr.{Instr}
use Rattle.rv_word.specs.declared.instr.Instr.TheVariants.{Lui, Auipc, Jal, Jalr, Branch, Load, Store, OpImm, ShiftImm, Addiw, ShiftImm32, Op, Op32, Fence, Ecall, Ebreak, Lr, Sc, Amo}
use Rattle.rv_mem.specs.Start.{program_of}
use Rattle.tramp_spec.specs.Banks.{bank_len, first_slot}
use Rattle.tramp_spec.specs.Blocks.{moved_at}
use Rattle.tramp_spec.specs.Codes.{tool_at}
use Rattle.tramp_spec.specs.MovedWords.{moved_decoded, moved_of, if_movable}
use Rattle.tramp_spec.specs.declared.mark.MarkedWord.{MarkedWord}
use Rattle.block_count.specs.declared.block_head.BlockHead.{BlockHead}
use Rattle.block_count.specs.Counters.{Counter, counter_at, end_of}
use Rattle.block_count.specs.Heads.{begins, heads_in, heads_of, is_instr, words_behind}
use Rattle.block_count.specs.CountedBlocks.{counter_for, counters_in, counted_from}
use Rattle.block_count.proofs.Going.{Chain}

-- ---- no word becomes more than four

some_few : (ws moved : List MarkedWord) → length ws ≤ 4 → Some ws ≡ Some moved → length moved ≤ 4
some_few ws moved l e = let z : ws ≡ moved = cc in subst (λ m. length m ≤ 4) z l

movable_few : (b : Bool) (ws moved : List MarkedWord) → length ws ≤ 4 → if_movable b ws ≡ Some moved → length moved ≤ 4
movable_few true ws moved l e = some_few ws moved l e
movable_few false ws moved l e = absurd cc

either_few : (b : Bool) (x y : Option (List MarkedWord)) (moved : List MarkedWord) → cond b x y ≡ Some moved → (x ≡ Some moved → length moved ≤ 4) → (y ≡ Some moved → length moved ≤ 4) → length moved ≤ 4
either_few true x y moved e f g = f e
either_few false x y moved e f g = g e

decoded_few : (o : Option Instr) (word p to : ℕ) (moved : List MarkedWord) → moved_decoded o word p to ≡ Some moved → length moved ≤ 4
decoded_few (Some (Jal rd offset)) word p to moved e = either_few (rd == 0) _ _ moved e (λ i. movable_few _ _ moved (omega arith) i) (λ i. movable_few _ _ moved (omega arith) i)
decoded_few (Some (Jalr rd rs1 offset)) word p to moved e = either_few (rd == 0) _ _ moved e (λ i. some_few _ moved (omega arith) i) (λ i. some_few _ moved (omega arith) i)
decoded_few (Some (Branch op rs1 rs2 offset)) word p to moved e = movable_few _ _ moved (omega arith) e
decoded_few (Some (Auipc rd imm)) word p to moved e = movable_few _ _ moved (omega arith) e
decoded_few (Some (Lui rd imm)) word p to moved e = some_few _ moved (omega arith) e
decoded_few (Some (Load op rd rs1 offset)) word p to moved e = some_few _ moved (omega arith) e
decoded_few (Some (Store op rs1 rs2 offset)) word p to moved e = some_few _ moved (omega arith) e
decoded_few (Some (OpImm op rd rs1 imm)) word p to moved e = some_few _ moved (omega arith) e
decoded_few (Some (ShiftImm op rd rs1 by)) word p to moved e = some_few _ moved (omega arith) e
decoded_few (Some (Addiw rd rs1 imm)) word p to moved e = some_few _ moved (omega arith) e
decoded_few (Some (ShiftImm32 op rd rs1 by)) word p to moved e = some_few _ moved (omega arith) e
decoded_few (Some (Op op rd rs1 rs2)) word p to moved e = some_few _ moved (omega arith) e
decoded_few (Some (Op32 op rd rs1 rs2)) word p to moved e = some_few _ moved (omega arith) e
decoded_few (Some (Fence rd rs1 high)) word p to moved e = some_few _ moved (omega arith) e
decoded_few (Some Ecall) word p to moved e = some_few _ moved (omega arith) e
decoded_few (Some Ebreak) word p to moved e = some_few _ moved (omega arith) e
decoded_few (Some (Lr width rd rs1 order)) word p to moved e = some_few _ moved (omega arith) e
decoded_few (Some (Sc width rd rs1 rs2 order)) word p to moved e = some_few _ moved (omega arith) e
decoded_few (Some (Amo op width rd rs1 rs2 order)) word p to moved e = some_few _ moved (omega arith) e
decoded_few None word p to moved e = some_few _ moved (omega arith) e

moved_few : (word p to : ℕ) (moved : List MarkedWord) → moved_of word p to ≡ Some moved → length moved ≤ 4
unfolding moved_of
moved_few word p to moved e = decoded_few (decode_of word) word p to moved e

-- ---- blocks ascend

abbrev pub Ascend : ℕ → List BlockHead → Type 0
Ascend p [] = Unit {0}
Ascend p (h ∷ heads) = (p ≤ h.at) × Ascend (h.at + 1) heads

pub ascend_from : (p q : ℕ) (heads : List BlockHead) → q ≤ p → Ascend p heads → Ascend q heads
ascend_from p q [] l a = tt
ascend_from p q (h ∷ heads) l a = let b = a.0 in (omega arith, a.1)

heads_ascend : (begin : ℕ → Bool) (ws : List ℕ) (a : ℕ) → Ascend a (heads_in begin ws a)
heads_ascend begin [] a = tt
heads_ascend begin (w ∷ ws) a = by (is_instr w && begin a) (heads_ascend begin ws (a + 4))
  where
    by : (b : Bool) → Ascend (a + 4) (heads_in begin ws (a + 4)) → Ascend a (cond b (record { at = a; words = 1 + words_behind begin ws (a + 4) } ∷ heads_in begin ws (a + 4)) (heads_in begin ws (a + 4)))
    by true rest = (omega arith, ascend_from (a + 4) (a + 1) (heads_in begin ws (a + 4)) (omega arith) rest)
    by false rest = ascend_from (a + 4) a (heads_in begin ws (a + 4)) (omega arith) rest

-- ---- counters follow each other

-- what a counter is made of
pub record IsFor (t : Words) (slot at point : ℕ) (k : Counter) : Type 0 where
  pub is : k ≡ counter_at point slot at k.moved
  pub word : ℕ
  pub here : program_word t point ≡ Some word
  pub moved : moved_of word point (moved_at at) ≡ Some k.moved

made_by : (t : Words) (slot at point : ℕ) (o : Option ℕ) (k : Counter) → program_word t point ≡ o → option_map (counter_at point slot at) (option_and_then (λ word. moved_of word point (moved_at at)) o) ≡ Some k → IsFor t slot at point k
made_by t slot at point None k w e = absurd cc
made_by t slot at point (Some word) k w e = by (moved_of word point (moved_at at)) refl e
  where
    by : (m : Option (List MarkedWord)) → moved_of word point (moved_at at) ≡ m → option_map (counter_at point slot at) m ≡ Some k → IsFor t slot at point k
    by None i f = absurd cc
    by (Some moved) i f =
        let s : counter_at point slot at moved ≡ k = cc in
        let m : moved ≡ k.moved = ap (λ (c : Counter). c.moved) s in
        record { is = sym s ∙ ap (counter_at point slot at) m; word = word; here = w; moved = i ∙ ap Some m }

pub is_for : (t : Words) (slot at point : ℕ) (k : Counter) → counter_for t slot at point ≡ Some k → IsFor t slot at point k
is_for t slot at point k e = made_by t slot at point (program_word t point) k refl e

-- a list of counters goes on from an earlier point
chain_from : (p q at : ℕ) (t : Words) (ks : List Counter) → q ≤ p → Chain p at t ks → Chain q at t ks
chain_from p q at t [] l h = tt
chain_from p q at t (k ∷ ks) l h = let f = h.0 in let here = f.here in (record { here = omega arith; there = f.there; aligned = f.aligned; low = f.low; high = f.high; word = f.word; is = f.is; moved = f.moved; least = f.least; most = f.most }, h.1)

module _ (t : Words) where
  -- where the counters so far end, and how many slots and words are left
  pub record Room (slot at many : ℕ) : Type 0 where
    pub aligned : at % 4 ≡ 0
    pub low : tool_at t ≤ at
    pub least : first_slot ≤ slot
    pub slots : slot + many ≤ bank_len
    pub words : at + 48 * many ≤ tool_at t + 393216

  pub chain : (heads : List BlockHead) (p slot at : ℕ) → Ascend p heads → Room slot at (length (counters_in (counted_from t slot at heads))) → Chain p at t (counters_in (counted_from t slot at heads))
  chain [] p slot at a r = tt
  chain (h ∷ heads) p slot at a r = by (λ p s b. chain heads p s b) (counter_for t slot at h.at) refl r
    where
      by : ((p slot at : ℕ) → Ascend p heads → Room slot at (length (counters_in (counted_from t slot at heads))) → Chain p at t (counters_in (counted_from t slot at heads)))
          → (o : Option Counter) → counter_for t slot at h.at ≡ o → Room slot at (length (counters_in (elim o [
            | None ↦ record { head = h; counter = None } ∷ counted_from t slot at heads
            | Some c ↦ record { head = h; counter = Some c } ∷ counted_from t (slot + 1) (end_of c) heads
          ]))) → Chain p at t (counters_in (elim o [
            | None ↦ record { head = h; counter = None } ∷ counted_from t slot at heads
            | Some c ↦ record { head = h; counter = Some c } ∷ counted_from t (slot + 1) (end_of c) heads
          ]))
      by goes None e q = let l = a.0 in chain_from (h.at + 1) p at t (counters_in (counted_from t slot at heads)) (omega arith) (goes (h.at + 1) slot at a.1 q)
      by goes (Some k) e q =
          let m = is_for t slot at h.at k e in
          let point = ap (λ (c : Counter). c.point) m.is in
          let there = ap (λ (c : Counter). c.at) m.is in
          let on = ap (λ (c : Counter). c.slot) m.is in
          let few = moved_few m.word h.at (moved_at at) k.moved m.moved in
          let here = a.0 in
          let aligned = q.aligned in
          let low = q.low in
          let least = q.least in
          let slots = q.slots in
          let words = q.words in
          let rest : Room (slot + 1) (end_of k) (length (counters_in (counted_from t (slot + 1) (end_of k) heads))) = record { aligned = omega arith; low = omega arith; least = omega arith; slots = omega arith; words = omega arith } in (
            record {
              here = omega arith;
              there = there;
              aligned = omega arith;
              low = omega arith;
              high = omega arith;
              word = m.word;
              is = subst (λ n. program_word t n ≡ Some m.word) (sym point) m.here;
              moved = subst (λ n. moved_of m.word k.point (moved_at n) ≡ Some k.moved) (sym there) (subst (λ n. moved_of m.word n (moved_at at) ≡ Some k.moved) (sym point) m.moved);
              least = omega arith;
              most = omega arith;
            },
            subst (λ n. Chain (n + 1) (end_of k) t (counters_in (counted_from t (slot + 1) (end_of k) heads))) (sym point) (goes (h.at + 1) (slot + 1) (end_of k) a.1 rest),
          )

pub heads_in_order : (image : Image) (procs : List Proc) → Ascend image.text_at (heads_of image procs)
heads_in_order image procs = heads_ascend (begins image procs) (program_of image).words image.text_at
