-- One word of the tool's code after another: what is in x5, in x31 and in the bank is known at each.
use Rattle.std.proofs.Common.{◌≡◌, ℕ, ◌+◌, ◌-◌, ◌*◌, ◌/◌, ◌%◌, ◌^◌, ◌<◌, ◌≤◌, true, false, List, length, Some, Ok, Err, refl, ap, ◌∙◌, arith, inl, inr, ⊎_elim}
use Rattle.std.specs.Prelude.{slice_get, slice_index, slice_set, ◌⊎◌, ◌==◌}
use Rattle.std.proofs.lemmas.Bool.{cond-true, cond-false, eq-eqb, ne_eqb}
use Rattle.std.proofs.lemmas.Grind.{common_steps}
use Rattle.std.proofs.lemmas.Option.{slice_get_within}
use Rattle.std.proofs.lemmas.List.{get_or-set_other, length-set}
use Rattle.rv_word.specs.Exec.{action, asked, next}
use Rattle.rv_word.specs.Registers.{reg}
use Rattle.rv_word.specs.Table.{decode_of}
use Rattle.rv_word.specs.Values.{wrap, low_word}
use Rattle.rv_word.specs.Words.{word_of, IsExtended}
use Rattle.rv_word.specs.declared.action.Action.TheVariants.{BranchTo, ReadMemory, WriteMemory}
use Rattle.rv_word.specs.declared.instr.Instr.{Instr}
use Rattle.rv_word.specs.declared.instr.Instr.TheVariants.{Lui, Load, Store, OpImm, Op, Addiw}
use Rattle.rv_word.specs.declared.instr.LoadOp.TheVariants.{Ld}
use Rattle.rv_word.specs.declared.instr.StoreOp.TheVariants.{Sd}
use Rattle.rv_word.specs.declared.instr.ImmOp.TheVariants.{Addi}
use Rattle.rv_word.specs.declared.instr.RegOp.TheVariants.{Add, Sub}
use Rattle.rv_word.specs.declared.outcome.Cause.TheVariants.{Misaligned}
use Rattle.tramp_spec.specs.Banks.{bank_len, bank_at, is_in_bank}
use Rattle.tramp_spec.specs.Bodies.{Keeps, Stands}
use Rattle.tramp_spec.specs.Jumps.{upper, lower}
use Rattle.tramp_spec.specs.Marks.{tool}
use Rattle.tramp_spec.specs.Routes.{Route}
use Rattle.tramp_spec.specs.Statements.{high_part, low_part}
use Rattle.tramp_spec.specs.Steps.{Bench, Stood, stand, perform_on, step_decoded, step_on, with_value, with_doubleword}
use Rattle.tramp_spec.specs.declared.mark.MarkedWord.{MarkedWord}
use Rattle.tramp_spec.proofs.Encodings.{lui_reads, addiw_reads, addi_reads, ld_reads, sd_reads}
use Rattle.tramp_spec.proofs.NumberWords.{upper_fits, upper_even, lower_fits, parts}
use Rattle.tramp_spec.proofs.Registers.{length_with, read_back, read_other, read_but, zero_reg}
use Rattle.tramp_spec.proofs.Routes.{none, leap, and_on, keeps, keeps_all}
use Rattle.prim_code.proofs.WordsRead.{add_reads, sub_reads, high_fits, high_even, low_fits, at_slot}

-- a slot's number
pub bank_size : bank_len ≡ 4096
unfolding bank_len
bank_size = refl

abbrev IsScratch : ℕ → Type 0
IsScratch rd = (rd ≡ 5) ⊎ (rd ≡ 31)

keeps_value : (x : Bench) (rd v : ℕ) → IsScratch rd → Keeps x (with_value x rd v)
keeps_value x rd v s =
    record {
      regs = λ r n m. read_but x.regs rd r v (λ e. ⊎_elim (λ a. n (e ∙ a)) (λ a. m (e ∙ a)) s);
      saved = refl;
      size = length_with x.regs rd v;
      room = refl;
    }

abbrev with_slot : Bench → ℕ → ℕ → Bench
with_slot x s v = record { regs = x.regs; bank = slice_set x.bank s v }

keeps_slot : (x : Bench) (s v : ℕ) → 2 ≤ s → Keeps x (with_slot x s v)
keeps_slot x s v h = record { regs = λ r n m. refl; saved = get_or-set_other x.bank s 1 v 0 (λ e. omega arith); size = refl; room = length-set x.bank s v }

in_bank : (s : ℕ) → s < bank_len → is_in_bank bank_len (8 * s) ≡ true
in_bank s h = grind arith

load_is : (s rd a ticks pc : ℕ) (x : Bench) → a ≡ 8 * s → s < bank_len → perform_on bank_len (ReadMemory Ld rd a) ticks pc x ≡ Ok (stand (next pc) (with_value x rd (bank_at ticks x.bank s)))
unfolding perform_on
load_is s rd a ticks pc x e h =
    let d : a / 8 ≡ s = omega arith in
    cond-true (is_in_bank bank_len a) _ _ (ap (is_in_bank bank_len) e ∙ in_bank s h) ∙ ap (λ n. Ok (stand (next pc) (with_value x rd (bank_at ticks x.bank n)))) d

store_is : (s a v ticks pc : ℕ) (x : Bench) → a ≡ 8 * s → s < bank_len → perform_on bank_len (WriteMemory 8 a v) ticks pc x ≡ Ok (stand (next pc) (with_doubleword x s v))
unfolding perform_on
store_is s a v ticks pc x e h =
    let d : a / 8 ≡ s = omega arith in
    cond-true (is_in_bank bank_len a) _ _ (ap (is_in_bank bank_len) e ∙ in_bank s h) ∙ ap (λ n. Ok (stand (next pc) (with_doubleword x n v))) d

turn_is : (target ticks pc : ℕ) (x : Bench) → target % 4 ≡ 0 → perform_on bank_len (BranchTo true target) ticks pc x ≡ Ok (stand target x)
unfolding perform_on
turn_is target ticks pc x e = cond-true (target % 4 == 0) (Ok (stand target x)) (Err Misaligned) (eq-eqb (target % 4) 0 e)

pass_is : (target ticks pc : ℕ) (x : Bench) → perform_on bank_len (BranchTo false target) ticks pc x ≡ Ok (stand (next pc) x)
unfolding perform_on
pass_is target ticks pc x = refl

module _ (body : List MarkedWord) (at ticks : ℕ) (x0 : Bench) (st : Stands body at x0) where
  -- word i is reached, with this in x5, in x31 and in the bank
  pub record Reach (i five up : ℕ) (bank : List ℕ) : Type 0 where
    pub x : Bench
    pub way : Route body at ticks 0 i x0 x
    pub five_is : reg x.regs 5 ≡ five
    pub up_is : reg x.regs 31 ≡ up
    pub bank_is : x.bank ≡ bank

  pub begins : Reach 0 (reg x0.regs 5) (reg x0.regs 31) x0.bank
  begins = record { x = x0; way = none body at ticks 0 x0; five_is = refl; up_is = refl; bank_is = refl }

  size : (i a b : ℕ) (k : List ℕ) (r : Reach i a b k) → length (r.x).regs ≡ 32
  size i a b k r = (keeps body at ticks 0 i x0 r.x r.way).size ∙ st.file

  -- the instruction w stands at word i
  pub record Here (i : ℕ) (w : Instr) : Type 0 where
    pub word : slice_get body i ≡ Some (tool (word_of w))
    pub reads : decode_of (word_of w) ≡ Some w

  after_pc : (i : ℕ) (w : Instr) → Here i w → next (at + 4 * i) ≡ at + 4 * (i + 1)
  after_pc i w e = let l = slice_get_within body i (tool (word_of w)) e.word in let f = st.fits in omega arith

  steps : (i : ℕ) (w : Instr) (x : Bench) (s : Stood) → Here i w → perform_on bank_len (asked w (at + 4 * i) x.regs) ticks (at + 4 * i) x ≡ Ok s → step_on bank_len (word_of w) ticks (at + 4 * i) x ≡ Ok s
  steps i w x s e h = ap (λ o. step_decoded bank_len o ticks (at + 4 * i) x) e.reads ∙ h

  -- a step to the next word
  one_more : (i a b : ℕ) (k : List ℕ) (r : Reach i a b k) (w : Instr) (y : Bench) (c d : ℕ) (m : List ℕ)
      → Here i w → perform_on bank_len (asked w (at + 4 * i) (r.x).regs) ticks (at + 4 * i) r.x ≡ Ok (stand (next (at + 4 * i)) y) → Keeps r.x y
      → reg y.regs 5 ≡ c → reg y.regs 31 ≡ d → y.bank ≡ m → Reach (i + 1) c d m
  one_more i a b k r w y c d m e s h five up bank =
      let l = slice_get_within body i (tool (word_of w)) e.word in
      record {
        x = y;
        way = and_on body at ticks 0 i (i + 1) x0 r.x y r.way (leap body at ticks i (i + 1) r.x y
            (record { word = word_of w; here = e.word; on = omega arith; within = omega arith; step = steps i w r.x _ e s ∙ ap (λ p. Ok (stand p y)) (after_pc i w e); keeps = h }));
        five_is = five;
        up_is = up;
        bank_is = bank;
      }

  -- a value into x5 or x31
  in_five : (i a b : ℕ) (k : List ℕ) (r : Reach i a b k) (w : Instr) (v c : ℕ)
      → Here i w → perform_on bank_len (asked w (at + 4 * i) (r.x).regs) ticks (at + 4 * i) r.x ≡ Ok (stand (next (at + 4 * i)) (with_value r.x 5 v)) → v ≡ c → Reach (i + 1) c b k
  in_five i a b k r w v c e s q =
      let n = size i a b k r in
      one_more i a b k r w (with_value r.x 5 v) c b k e s (keeps_value r.x 5 v (inl refl))
      (read_back (r.x).regs 5 v refl (simp n refl) ∙ q) (read_other (r.x).regs 5 31 v refl ∙ r.up_is) r.bank_is

  in_up : (i a b : ℕ) (k : List ℕ) (r : Reach i a b k) (w : Instr) (v c : ℕ)
      → Here i w → perform_on bank_len (asked w (at + 4 * i) (r.x).regs) ticks (at + 4 * i) r.x ≡ Ok (stand (next (at + 4 * i)) (with_value r.x 31 v)) → v ≡ c → Reach (i + 1) a c k
  in_up i a b k r w v c e s q =
      let n = size i a b k r in
      one_more i a b k r w (with_value r.x 31 v) a c k e s (keeps_value r.x 31 v (inr refl))
      (read_other (r.x).regs 31 5 v refl ∙ r.five_is) (read_back (r.x).regs 31 v refl (simp n refl) ∙ q) r.bank_is

  -- the words of a slot's address, and of a number
  pub high_up : (i a b s : ℕ) (k : List ℕ) → Reach i a b k → slice_get body i ≡ Some (tool (word_of (Lui 31 (high_part s)))) → s < bank_len → Reach (i + 1) a (high_part s) k
  unfolding action perform_on
  high_up i a b s k r e l =
      let n = bank_size in
      in_up i a b k r (Lui 31 (high_part s)) (high_part s) (high_part s) (record { word = e; reads = lui_reads 31 (high_part s) (omega arith) (high_fits s (omega arith)) (high_even s) }) refl refl

  pub upper_up : (i a b n : ℕ) (k : List ℕ) → Reach i a b k → slice_get body i ≡ Some (tool (word_of (Lui 31 (upper n)))) → Reach (i + 1) a (upper n) k
  unfolding action perform_on
  upper_up i a b n k r e = in_up i a b k r (Lui 31 (upper n)) (upper n) (upper n) (record { word = e; reads = lui_reads 31 (upper n) (omega arith) (upper_fits n) (upper_even n) }) refl refl

  pub upper_five : (i a b n : ℕ) (k : List ℕ) → Reach i a b k → slice_get body i ≡ Some (tool (word_of (Lui 5 (upper n)))) → Reach (i + 1) (upper n) b k
  unfolding action perform_on
  upper_five i a b n k r e = in_five i a b k r (Lui 5 (upper n)) (upper n) (upper n) (record { word = e; reads = lui_reads 5 (upper n) (omega arith) (upper_fits n) (upper_even n) }) refl refl

  made : (n : ℕ) → n < 2 ^ 31 → low_word (upper n + lower n) ≡ n
  made n h = parts n (grind (arith, common_steps))

  pub lower_up : (i a n : ℕ) (k : List ℕ) → Reach i a (upper n) k → slice_get body i ≡ Some (tool (word_of (Addiw 31 31 (lower n)))) → n < 2 ^ 31 → Reach (i + 1) a n k
  unfolding action perform_on
  lower_up i a n k r e l =
      in_up i a (upper n) k r (Addiw 31 31 (lower n)) (low_word (reg (r.x).regs 31 + lower n)) n (record { word = e; reads = addiw_reads 31 31 (lower n) (omega arith) (omega arith) (lower_fits n) }) refl
      (ap (λ u. low_word (u + lower n)) r.up_is ∙ made n l)

  pub lower_five : (i b n : ℕ) (k : List ℕ) → Reach i (upper n) b k → slice_get body i ≡ Some (tool (word_of (Addiw 5 5 (lower n)))) → n < 2 ^ 31 → Reach (i + 1) n b k
  unfolding action perform_on
  lower_five i b n k r e l =
      in_five i (upper n) b k r (Addiw 5 5 (lower n)) (low_word (reg (r.x).regs 5 + lower n)) n (record { word = e; reads = addiw_reads 5 5 (lower n) (omega arith) (omega arith) (lower_fits n) }) refl
      (ap (λ u. low_word (u + lower n)) r.five_is ∙ made n l)

  pub add_five : (i a b n : ℕ) (k : List ℕ) → Reach i a b k → slice_get body i ≡ Some (tool (word_of (OpImm Addi 5 5 n))) → IsExtended 12 n → Reach (i + 1) (wrap (a + n)) b k
  unfolding action perform_on
  add_five i a b n k r e f =
      in_five i a b k r (OpImm Addi 5 5 n) (wrap (reg (r.x).regs 5 + n)) (wrap (a + n)) (record { word = e; reads = addi_reads 5 5 n (omega arith) (omega arith) f }) refl (ap (λ u. wrap (u + n)) r.five_is)

  pub plus_five : (i a b : ℕ) (k : List ℕ) → Reach i a b k → slice_get body i ≡ Some (tool (word_of (Op Add 5 31 5))) → Reach (i + 1) (wrap (b + a)) b k
  unfolding action perform_on
  plus_five i a b k r e =
      in_five i a b k r (Op Add 5 31 5) (wrap (reg (r.x).regs 31 + reg (r.x).regs 5)) (wrap (b + a)) (record { word = e; reads = add_reads }) refl
      (ap (λ u. wrap (u + reg (r.x).regs 5)) r.up_is ∙ ap (λ u. wrap (b + u)) r.five_is)

  pub minus_five : (i a b : ℕ) (k : List ℕ) → Reach i a b k → slice_get body i ≡ Some (tool (word_of (Op Sub 5 31 5))) → Reach (i + 1) (wrap (b + (2 ^ 64 - a))) b k
  unfolding action perform_on
  minus_five i a b k r e =
      in_five i a b k r (Op Sub 5 31 5) (wrap (reg (r.x).regs 31 + (2 ^ 64 - reg (r.x).regs 5))) (wrap (b + (2 ^ 64 - a))) (record { word = e; reads = sub_reads }) refl
      (ap (λ u. wrap (u + (2 ^ 64 - reg (r.x).regs 5))) r.up_is ∙ ap (λ u. wrap (b + (2 ^ 64 - u))) r.five_is)

  -- a slot
  address : (s : ℕ) → s < bank_len → wrap (high_part s + low_part s) ≡ 8 * s
  address s l = let n = bank_size in at_slot s (omega arith)

  slot_read : (s : ℕ) (m k : List ℕ) → 2 ≤ s → m ≡ k → bank_at ticks m s ≡ slice_index k s
  slot_read s m k h e = cond-false (s == 0) ticks (slice_index m s) (ne_eqb s 0 (λ z. omega arith)) ∙ ap (λ l. slice_index l s) e

  pub load_five : (i a s : ℕ) (k : List ℕ) → Reach i a (high_part s) k → slice_get body i ≡ Some (tool (word_of (Load Ld 5 31 (low_part s)))) → 2 ≤ s → s < bank_len → Reach (i + 1) (slice_index k s) (high_part s) k
  unfolding action
  load_five i a s k r e h l =
      in_five i a (high_part s) k r (Load Ld 5 31 (low_part s)) (bank_at ticks (r.x).bank s) (slice_index k s) (record { word = e; reads = ld_reads 5 31 (low_part s) (omega arith) (omega arith) (low_fits s) })
      (load_is s 5 (wrap (reg (r.x).regs 31 + low_part s)) ticks (at + 4 * i) r.x (ap (λ u. wrap (u + low_part s)) r.up_is ∙ address s l) l) (slot_read s (r.x).bank k h r.bank_is)

  pub load_up : (i a s : ℕ) (k : List ℕ) → Reach i a (high_part s) k → slice_get body i ≡ Some (tool (word_of (Load Ld 31 31 (low_part s)))) → 2 ≤ s → s < bank_len → Reach (i + 1) a (slice_index k s) k
  unfolding action
  load_up i a s k r e h l =
      in_up i a (high_part s) k r (Load Ld 31 31 (low_part s)) (bank_at ticks (r.x).bank s) (slice_index k s) (record { word = e; reads = ld_reads 31 31 (low_part s) (omega arith) (omega arith) (low_fits s) })
      (load_is s 31 (wrap (reg (r.x).regs 31 + low_part s)) ticks (at + 4 * i) r.x (ap (λ u. wrap (u + low_part s)) r.up_is ∙ address s l) l) (slot_read s (r.x).bank k h r.bank_is)

  pub ticks_five : (i a b : ℕ) (k : List ℕ) → Reach i a b k → slice_get body i ≡ Some (tool (word_of (Load Ld 5 0 0))) → Reach (i + 1) ticks b k
  unfolding action
  ticks_five i a b k r e =
      let n = bank_size in
      in_five i a b k r (Load Ld 5 0 0) ticks ticks (record { word = e; reads = ld_reads 5 0 0 (omega arith) (omega arith) (omega arith) })
      (load_is 0 5 (wrap (reg (r.x).regs 0 + 0)) ticks (at + 4 * i) r.x (ap (λ u. wrap (u + 0)) (zero_reg (r.x).regs)) (omega arith)) refl

  pub store_five : (i a s : ℕ) (k : List ℕ) → Reach i a (high_part s) k → slice_get body i ≡ Some (tool (word_of (Store Sd 31 5 (low_part s)))) → 2 ≤ s → s < bank_len → Reach (i + 1) a (high_part s) (slice_set k s a)
  unfolding action
  store_five i a s k r e h l =
      let v = reg (r.x).regs 5 in
      one_more i a (high_part s) k r (Store Sd 31 5 (low_part s)) (with_slot r.x s v) a (high_part s) (slice_set k s a)
      (record { word = e; reads = sd_reads 31 5 (low_part s) (omega arith) (omega arith) (low_fits s) })
      (store_is s (wrap (reg (r.x).regs 31 + low_part s)) v ticks (at + 4 * i) r.x (ap (λ u. wrap (u + low_part s)) r.up_is ∙ address s l) l
      ∙ ap (λ m. Ok (stand (next (at + 4 * i)) (record { regs = (r.x).regs; bank = m }))) (cond-false (s == 0) (r.x).bank (slice_set (r.x).bank s v) (ne_eqb s 0 (λ z. omega arith))))
      (keeps_slot r.x s v h) r.five_is r.up_is (ap (λ m. slice_set m s v) r.bank_is ∙ ap (slice_set k s) r.five_is)

  -- a branch that is taken, and one that isn't
  pub taken : (i j a b t target : ℕ) (k : List ℕ) (r : Reach i a b k) (w : Instr)
      → Here i w → asked w (at + 4 * i) (r.x).regs ≡ BranchTo true target → target ≡ wrap (at + 4 * i + t) → t ≡ 4 * (j - i) → i < j → j ≤ length body → Reach j a b k
  taken i j a b t target k r w e q z d l m =
      let al = st.aligned in
      let f = st.fits in
      let to : target ≡ at + 4 * j = omega arith in
      record {
        x = r.x;
        way = and_on body at ticks 0 i j x0 r.x r.x r.way (leap body at ticks i j r.x r.x
            (record {
              word = word_of w;
              here = e.word;
              on = l;
              within = m;
              step = steps i w r.x _ e (ap (λ o. perform_on bank_len o ticks (at + 4 * i) r.x) q ∙ turn_is target ticks (at + 4 * i) r.x (omega arith)) ∙ ap (λ p. Ok (stand p r.x)) to;
              keeps = keeps_all r.x;
            }));
        five_is = r.five_is;
        up_is = r.up_is;
        bank_is = r.bank_is;
      }

  pub passed : (i a b target : ℕ) (k : List ℕ) (r : Reach i a b k) (w : Instr) → Here i w → asked w (at + 4 * i) (r.x).regs ≡ BranchTo false target → Reach (i + 1) a b k
  passed i a b target k r w e q =
      one_more i a b k r w r.x a b k e (ap (λ o. perform_on bank_len o ticks (at + 4 * i) r.x) q ∙ pass_is target ticks (at + 4 * i) r.x) (keeps_all r.x) r.five_is r.up_is r.bank_is
