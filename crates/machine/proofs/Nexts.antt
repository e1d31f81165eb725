-- What a turn makes of a hart, by where it stands.
use Rattle.std.proofs.Common.{◌≡◌, ℕ, ◌+◌, ◌*◌, ◌%◌, ◌<◌, ◌≤◌, List, [], ◌∷◌, length, Option, Some, None, Ok, refl, sym, ap, ◌∙◌, subst, arith, ⊎_elim, inl, inr}
use Rattle.std.specs.Prelude.{Bool, true, false, slice_get, ◌⊎◌, nat_lt}
use Rattle.std.proofs.lemmas.Bool.{cases_eq, cond-true}
use Rattle.std.proofs.lemmas.Grind.{common_steps}
use Rattle.std.proofs.lemmas.Option.{slice_get_within}
use Rattle.rv_word.specs.Names.{jump_of}
use Rattle.rv_word.specs.Registers.{reg, with_reg}
use Rattle.rv_word.specs.Table.{decode_of}
use Rattle.rv_word.specs.Words.{word_of}
use Rattle.rv_word.specs.Exec.{Prog, Outcome, Stops, Goes, done_of_outcome, exec_of, next}
use Rattle.rv_word.specs.Plain.{Words, PlainHart, program_word, after_done, hart_after}
use Rattle.rv_word.specs.Plain as plain
use Rattle.rv_word.specs.declared.outcome.Next.TheVariants.{Go}
use Rattle.rv_word.specs.declared.instr.Instr.TheVariants.{Load, Store}
use Rattle.rv_word.specs.declared.instr.LoadOp.TheVariants.{Ld}
use Rattle.rv_word.specs.declared.instr.StoreOp.TheVariants.{Sd}
use Rattle.tramp_spec.specs.Codes.{Code}
use Rattle.tramp_spec.specs.Banks.{bank_len, saved_x5, set_bank}
use Rattle.tramp_spec.specs.Blocks.{tail_of, moved_at}
use Rattle.tramp_spec.specs.Bodies.{Safe, Leap, Keeps}
use Rattle.tramp_spec.specs.Harts.{own_hart, Hart, bench_of, ticked, own_step, other_hart, step_of, is_tick}
use Rattle.tramp_spec.specs.Marks.{own, enter, tool, leave, is_jump}
use Rattle.tramp_spec.specs.MovedWords.{own_place}
use Rattle.tramp_spec.specs.Moves.{Agree, Alike, SameStep, bench}
use Rattle.tramp_spec.specs.Steps.{Bench, stand, step_on, with_value, with_doubleword}
use Rattle.tramp_spec.specs.declared.mark.Mark.TheVariants.{Enter, Tool, Leave}
use Rattle.tramp_spec.specs.declared.mark.MarkedWord.{MarkedWord}
use Rattle.tramp_spec.proofs.Hops.{Hops, hop_steps, save_steps, restore_steps, saved_back}
use Rattle.tramp_spec.proofs.Registers.{length_with, read_back, read_but}
use Rattle.machine.specs.Cores.{In, Row, Written}
use Rattle.machine.specs.Places.{home_of, program_pc}
use Rattle.machine.specs.Turns.{fetched}
use Rattle.machine.proofs.Lists.{get_append, get_before, same_some}
use Rattle.machine.proofs.Invariant.{Ground, Piece, IsBase, Linked, HasFamily, Door, Static, Saved, Outside, AtSave, AtSaved, MovedWord, AtMoved, AtLeave, InMini, Dynamic}
use Rattle.machine.proofs.Lefts.{left}
use Rattle.machine.proofs.Fetching.{harmless_of, body_fits, moved_word, fetch_moved, fetch_base, pc_low, fetch_mini}
use Rattle.machine.proofs.Homes.{one_block, base_shape, mini_shape, home_word}

module _ (t : Words) (g : Ground t) (budget : ℕ) (code : Code) (rows : List Row) (ps : List Piece) (clock : ℕ) (st : Static t code rows ps clock) (h : ℕ) (x : Hart) (y : PlainHart) (p : Prog) (d : Dynamic t budget ps x y) (on : x.stop ≡ None) where
  -- ---- words that are no ticks

  -- the turn is no tick, and makes this of the hart
  abbrev pub Brings : Hart → Type 0
  Brings z = (o : Option MarkedWord) × (fetched t code x ≡ o) × (is_tick o ≡ false) × (step_of o h (program_pc code rows x) (record { hart = x; prog = p }) ≡ record { hart = z; prog = p })

  tool_brings : (w to : ℕ) (b : Bench) → fetched t code x ≡ Some (tool w) → step_on bank_len w x.ticks x.pc (bench_of x) ≡ Ok (stand to b) → Brings (record x { pc = to; regs = b.regs; bank = b.bank })
  tool_brings w to b f e = (Some (tool w), f, refl, ap (λ r. record { hart = other_hart r Tool w (program_pc code rows x) x; prog = p }) e)

  leave_brings : (w to : ℕ) (b : Bench) → fetched t code x ≡ Some (leave w) → step_on 0 w x.ticks x.pc (bench_of x) ≡ Ok (stand to b) → Brings (record x { pc = to; regs = b.regs; bank = b.bank; inside = false })
  leave_brings w to b f e = (Some (leave w), f, refl, ap (λ r. record { hart = other_hart r Leave w (program_pc code rows x) x; prog = p }) e)

  enter_brings : (w to : ℕ) (b : Bench) → fetched t code x ≡ Some (enter w) → step_on 0 w x.ticks x.pc (bench_of x) ≡ Ok (stand to b) → Brings (record x { pc = to; regs = b.regs; bank = b.bank; inside = true })
  enter_brings w to b f e = (Some (enter w), f, refl, ap (λ r. record { hart = other_hart r Enter w (program_pc code rows x) x; prog = p }) e)

  -- through the jump at a point to its base block
  pub entering : (b : Piece) → In b ps → b.row.point ≡ x.pc → (door : Door code b) → Outside x y → x.ticks < budget → fetched t code x ≡ Some (enter door.jump)
      → Brings (record x { pc = b.row.at; inside = true }) × AtSave budget b (record x { pc = b.row.at; inside = true }) y
  entering b hb e door o l f =
      let hop : Hops x.pc b.row.at door.jump = subst (λ a. Hops a b.row.at door.jump) e door.hops in (
        enter_brings door.jump b.row.at (bench_of x) f (hop_steps 0 door.jump x.ticks x.pc b.row.at (bench_of x) hop (st.places b hb).aligned),
        record { pc = refl; home = sym o.pc ∙ sym e; before = l; agree = o.agree },
      )

  -- ---- where a jump leads to

  -- a base block's tail
  pub to_tail : (b : Piece) (q w : ℕ) → In b ps → y.pc ≡ b.row.point → x.ticks < budget → Saved x y → Hops x.pc q w → fetched t code x ≡ Some (tool w) → q ≡ tail_of b.row.at
      → Brings (record x { pc = q }) × AtSaved budget b (tail_of b.row.at) (record x { pc = q }) y
  to_tail b q w hb e l sv hop f is =
      let al = (st.places b hb).aligned in
      let a : q % 4 ≡ 0 = omega arith in (
        tool_brings w q (bench_of x) f (hop_steps bank_len w x.ticks x.pc q (bench_of x) hop a),
        record { pc = is; home = e; before = l; saved = record { agree = sv.agree; saved = sv.saved } },
      )

  -- the first word of a mini block
  pub to_mini : (m : Piece) (q w : ℕ) → In m ps → Hops x.pc q w → fetched t code x ≡ Some (tool w) → m.row.at ≡ q → Brings (record x { pc = q })
  to_mini m q w hm hop f is =
      let al = (st.places m hm).aligned in
      let a : q % 4 ≡ 0 = omega arith in
      tool_brings w q (bench_of x) f (hop_steps bank_len w x.ticks x.pc q (bench_of x) hop a)

  pub at_first : (m : Piece) (q : ℕ) → m.row.at ≡ q → q ≡ m.row.at + 4 * 0
  at_first m q e = omega arith

  pub safe_first : (m : Piece) → In m ps → Linked m → Safe (length m.body) m.body m.row.at 0 (bench_of x) x.ticks
  safe_first m hm k = (harmless_of t g budget code rows ps clock st h x y p d on m hm k).safe m.row.at x.ticks (bench_of x) (record { aligned = (st.places m hm).aligned; fits = body_fits t g budget code rows ps clock st h x y p d on m hm k; file = d.first; bank = d.bank })

  abbrev pub in_first : (b m : Piece) (q : ℕ) → (b.row.status ≡ Written → ⊥) → x.inside ≡ true → y.pc ≡ b.row.point → x.ticks < budget → Saved x y → In m ps → Linked m → HasFamily ps m b → m.row.at ≡ q → InMini budget ps (record x { pc = q }) y
  in_first b m q was i e l sv hm k fm is = record {
    m = m;
    b = b;
    is_in = hm;
    linked = k;
    family = fm;
    was = was;
    inside = i;
    home = e ∙ fm.point;
    before = l;
    saved = record { agree = sv.agree; saved = sv.saved };
    i = 0;
    f = length m.body;
    pc = at_first m q is;
    safe = safe_first m hm k;
  }

  -- the base block of a mini block's family
  pub family_is : (b m : Piece) (fam : ℕ) → In b ps → b.row.at ≡ fam → In m ps → Linked m → m.family ≡ fam → HasFamily ps m b
  family_is b m fam hb at hm k e =
      let fm = st.families m hm k in
      let same : fm.0 ≡ b = one_block t code rows ps clock st fm.0 b (fm.1).is_in hb ((fm.1).at ∙ (e ∙ sym at)) in
      subst (λ z. HasFamily ps m z) same fm.1

  -- ---- in a base block

  -- x5 is saved
  pub saving : (b : Piece) → In b ps → IsBase b → x.inside ≡ true → AtSave budget b x y
      → Brings (record x { pc = next x.pc; bank = set_bank x.bank 1 (reg x.regs 5) }) × AtSaved budget b (b.row.at + 4) (record x { pc = next x.pc; bank = set_bank x.bank 1 (reg x.regs 5) }) y
  saving b hb bs i k =
      let s = base_shape t code rows ps clock st b hb bs in
      let len = s.len in
      let pc : x.pc ≡ b.row.at + 4 * 0 = (let e = k.pc in omega arith) in
      let low = pc_low t g budget code rows ps clock st h x y p d on b 0 hb pc (omega arith) in
      let nx : next x.pc ≡ b.row.at + 4 = (let e = k.pc in omega arith) in (
        tool_brings (word_of (Store Sd 0 5 8)) (next x.pc) (with_doubleword (bench_of x) 1 (reg x.regs 5)) (fetch_base t g budget code rows ps clock st h x y p d on b hb bs 0 (tool (word_of (Store Sd 0 5 8))) i pc (omega arith) refl) (save_steps x.ticks x.pc (bench_of x)),
        record { pc = nx; home = k.home; before = k.before; saved = record { agree = λ r l n. k.agree r l; saved = saved_back x.bank (reg x.regs 5) d.bank ∙ k.agree 5 (omega arith) } },
      )

  -- the jump of a base block's head is fetched
  pub heading : (b : Piece) → In b ps → IsBase b → x.inside ≡ true → x.pc ≡ b.row.at + 4 → (w : ℕ) × (fetched t code x ≡ Some (tool w)) × Hops x.pc b.next w
  heading b hb bs i e =
      let s = base_shape t code rows ps clock st b hb bs in
      let pc : x.pc ≡ b.row.at + 4 * 1 = omega arith in
      (s.jump, fetch_base t g budget code rows ps clock st h x y p d on b hb bs 1 (tool s.jump) i pc (omega arith) refl, subst (λ a. Hops a b.next s.jump) (sym e) s.hops)

  -- x5 is restored
  pub restoring : (b : Piece) → In b ps → IsBase b → x.inside ≡ true → AtSaved budget b (tail_of b.row.at) x y
      → Brings (record x { pc = next x.pc; regs = with_reg x.regs 5 (saved_x5 x.bank) }) × AtMoved t budget b (record x { pc = next x.pc; regs = with_reg x.regs 5 (saved_x5 x.bank) }) y
  restoring b hb bs i k =
      let s = base_shape t code rows ps clock st b hb bs in
      let len = s.len in
      let pc : x.pc ≡ b.row.at + 4 * 2 = (let e = k.pc in omega arith) in
      let low = pc_low t g budget code rows ps clock st h x y p d on b 2 hb pc (omega arith) in
      let v = saved_x5 x.bank in
      let m = moved_word t g budget code rows ps clock st h x y p d on b hb bs in
      let nx : next x.pc ≡ moved_at b.row.at + 4 * 0 = (let e = k.pc in omega arith) in
      let size : length (with_reg x.regs 5 v) ≡ 32 = length_with x.regs 5 v ∙ d.first in
      let room : nat_lt 5 (length x.regs) ≡ true = ap (nat_lt 5) d.first in
      let sv = k.saved in
      let agree : Agree (with_reg x.regs 5 v) y.regs = λ r l. ⊎_elim
      (λ (e : r ≡ 5). ap (reg (with_reg x.regs 5 v)) e ∙ (read_back x.regs 5 v refl room ∙ (sv.saved ∙ ap (reg y.regs) (sym e))))
      (λ (e : r ≡ 5 → ⊥). read_but x.regs 5 r v e ∙ sv.agree r l e) (cases_eq r 5) in (
        tool_brings (word_of (Load Ld 5 0 8)) (next x.pc) (with_value (bench_of x) 5 v) (fetch_base t g budget code rows ps clock st h x y p d on b hb bs 2 (tool (word_of (Load Ld 5 0 8))) i pc (omega arith) refl) (restore_steps x.ticks x.pc (bench_of x)),
        record {
          m = m;
          j = 0;
          low = omega arith;
          pc = nx;
          home = k.home;
          before = k.before;
          regs = with_reg x.regs 5 v;
          size = size;
          agree = agree;
          is = sym ((m.moves).start (with_reg x.regs 5 v));
        },
      )

  -- a moved word before the tick
  pub moving : (b : Piece) → In b ps → IsBase b → x.inside ≡ true → (k : AtMoved t budget b x y) → k.j < own_place (k.m).word
      → (z : Hart) × Brings z × (z.stop ≡ x.stop) × (z.ticks ≡ x.ticks) × (length z.regs ≡ 32) × (z.bank ≡ x.bank) × (z.inside ≡ x.inside) × (q : AtMoved t budget b z y) × (k.j < q.j) × (k.j < length (k.m).moved)
  moving b hb bs i k l =
      let m = k.m in
      let to = moved_at b.row.at in
      let s = (m.moves).silent k.j l in
      let step : step_on bank_len s.0 x.ticks x.pc (bench_of x) ≡ Ok (stand (to + 4 * (k.j + 1)) (bench ((m.moves).before (k.j + 1) k.regs) x.bank)) =
      subst (λ pc. step_on bank_len s.0 x.ticks pc (bench_of x) ≡ Ok (stand (to + 4 * (k.j + 1)) (bench ((m.moves).before (k.j + 1) k.regs) x.bank))) (sym k.pc)
      (subst (λ rs. step_on bank_len s.0 x.ticks (to + 4 * k.j) (bench rs x.bank) ≡ Ok (stand (to + 4 * (k.j + 1)) (bench ((m.moves).before (k.j + 1) k.regs) x.bank))) (sym k.is) (s.2 k.regs x.bank x.ticks k.size)) in
      let up : k.j + 1 ≤ own_place m.word = omega arith in
      let tk = (m.moves).tick in
      let inside = slice_get_within m.moved (own_place m.word) (own tk.0) tk.1 in (
        record x { pc = to + 4 * (k.j + 1); regs = (m.moves).before (k.j + 1) k.regs },
        tool_brings s.0 (to + 4 * (k.j + 1)) (bench ((m.moves).before (k.j + 1) k.regs) x.bank) (fetch_moved t g budget code rows ps clock st h x y p d on b hb bs m k.j (tool s.0) i k.pc s.1).0 step,
        refl,
        refl,
        (m.moves).size (k.j + 1) k.regs up ∙ k.size,
        refl,
        refl,
        record { m = m; j = k.j + 1; low = up; pc = refl; home = k.home; before = k.before; regs = k.regs; size = k.size; agree = k.agree; is = refl },
        omega arith,
        omega arith,
      )

  -- after a tick that doesn't jump, at a word that leaves
  abbrev pub exit : (b : Piece) (m : MovedWord t b) (w : ℕ) (pc qc : ℕ) (a e : List ℕ) → Alike a e → (j left : ℕ) → own_place m.word < j → j < length m.moved → pc ≡ moved_at b.row.at + 4 * j → slice_get m.moved j ≡ Some (leave left) → jump_of (decode_of left) (moved_at b.row.at + 4 * j) ≡ Some qc
      → AtLeave t b (ticked (own_hart (Go pc) a w (program_pc code rows x) x)) (plain.hart_after (Go qc) e y)
  exit b m w pc qc a e s j left above low at stands home = record { m = m; j = j; above = above; low = low; pc = at; left = left; stands = stands; home = home; agree = s.agree }

  -- after a tick the hart is outside, or there
  pub tick_place : (b : Piece) → x.inside ≡ true → (m : MovedWord t b) (w : ℕ) (jumped : Bool) (o u : Outcome) → is_jump w ≡ jumped → SameStep jumped (own_place m.word) (moved_at b.row.at) m.moved o u
      → ((own_step (done_of_outcome o x.regs) w (program_pc code rows x) x).hart.inside ≡ false)
      ⊎ (((own_step (done_of_outcome o x.regs) w (program_pc code rows x) x).hart.inside ≡ true) × AtLeave t b (own_step (done_of_outcome o x.regs) w (program_pc code rows x) x).hart (after_done (done_of_outcome u y.regs) y).hart)
  tick_place b i m w jumped (Stops c q) u tj s = inl refl
  tick_place b i m w jumped (Goes pc a q) (Stops c r) tj s = absurd s
  tick_place b i m w jumped (Goes pc a q) (Goes qc e r) tj s = ⊎_elim
      (λ (k : (jumped ≡ true) × (pc ≡ qc)). let out : is_jump w ≡ true = tj ∙ k.0 in inl (grind (arith, common_steps, i, out)))
      (λ (k : (jumped ≡ false) × (j : ℕ) × (left : ℕ) × (own_place m.word < j) × (j < length m.moved) × (pc ≡ moved_at b.row.at + 4 * j) × (slice_get m.moved j ≡ Some (leave left)) × (jump_of (decode_of left) (moved_at b.row.at + 4 * j) ≡ Some qc)).
      let out : is_jump w ≡ false = tj ∙ k.0 in inr (grind (arith, common_steps, i, out), exit b m w pc qc a e s.1 k.1 k.2 k.3 k.4 k.5 k.6 k.7))
      s.2

  -- the word of the tick, and the program's, lead to the same
  pub ticking : (b : Piece) → In b ps → IsBase b → x.inside ≡ true → (k : AtMoved t budget b x y) → k.j ≡ own_place (k.m).word
      → (w : ℕ) × (fetched t code x ≡ Some (own w)) × (program_pc code rows x ≡ y.pc) × (is_jump w ≡ is_jump (k.m).word) × (program_word t y.pc ≡ Some (k.m).word)
      × SameStep (is_jump (k.m).word) (own_place (k.m).word) (moved_at b.row.at) (k.m).moved (exec_of w x.pc h x.regs p) (exec_of (k.m).word y.pc h y.regs p)
  ticking b hb bs i k e =
      let m = k.m in
      let to = moved_at b.row.at in
      let tk = (m.moves).tick in
      let w = tk.0 in
      let pc : x.pc ≡ to + 4 * own_place m.word = k.pc ∙ ap (λ j. to + 4 * j) e in
      let is : x.regs ≡ (m.moves).before (own_place m.word) k.regs = k.is ∙ ap (λ j. (m.moves).before j k.regs) e in
      let f = fetch_moved t g budget code rows ps clock st h x y p d on b hb bs m (own_place m.word) (own w) i pc tk.1 in
      let at = (let z = k.pc in let lo : b.row.at ≤ x.pc = omega arith in lo) in
      let home : program_pc code rows x ≡ y.pc = cond-true x.inside (home_of code rows x.pc) x.pc i ∙ (home_word t code rows ps clock st b x.pc (own w) hb at f.2 f.1 ∙ sym k.home) in
      let same0 = tk.3 k.regs y.regs h p (record { agree = k.agree; first = k.size; second = d.second }) in (
        w,
        f.0,
        home,
        tk.2,
        ap (program_word t) k.home ∙ m.here,
        subst (λ a. SameStep (is_jump m.word) (own_place m.word) to m.moved (exec_of w a h x.regs p) (exec_of m.word y.pc h y.regs p)) (sym pc)
            (subst (λ rs. SameStep (is_jump m.word) (own_place m.word) to m.moved (exec_of w (to + 4 * own_place m.word) h rs p) (exec_of m.word y.pc h y.regs p)) (sym is)
            (subst (λ a. SameStep (is_jump m.word) (own_place m.word) to m.moved (exec_of w (to + 4 * own_place m.word) h ((m.moves).before (own_place m.word) k.regs) p) (exec_of m.word a h y.regs p)) (sym k.home) same0)),
      )

  -- back to the program
  pub leaving : (b : Piece) → In b ps → IsBase b → x.inside ≡ true → AtLeave t b x y → Brings (record x { pc = y.pc; inside = false })
  leaving b hb bs i k =
      let m = k.m in
      let to = moved_at b.row.at in
      let l = (m.moves).leaves k.j k.above k.low in
      let same : leave l.0 ≡ leave k.left = same_some (slice_get m.moved k.j) (leave l.0) (leave k.left) l.2 k.stands in
      let word : l.0 ≡ k.left = ap (λ (w : MarkedWord). w.word) same in
      let home : l.1 ≡ y.pc = same_some (jump_of (decode_of k.left) (to + 4 * k.j)) l.1 y.pc (subst (λ w. jump_of (decode_of w) (to + 4 * k.j) ≡ Some l.1) word l.3) k.home in
      let step0 = l.4 (bench_of x) x.ticks in
      let step : step_on 0 k.left x.ticks x.pc (bench_of x) ≡ Ok (stand y.pc (bench_of x)) =
      subst (λ a. step_on 0 k.left x.ticks a (bench_of x) ≡ Ok (stand y.pc (bench_of x))) (sym k.pc)
      (subst (λ w. step_on 0 w x.ticks (to + 4 * k.j) (bench_of x) ≡ Ok (stand y.pc (bench_of x))) word
      (subst (λ a. step_on 0 l.0 x.ticks (to + 4 * k.j) (bench_of x) ≡ Ok (stand a (bench_of x))) home step0)) in
      leave_brings k.left y.pc (bench_of x) (fetch_moved t g budget code rows ps clock st h x y p d on b hb bs m k.j (leave k.left) i k.pc k.stands).0 step

  -- ---- in a mini block

  -- after the body it is the jump
  pub ending : (k : InMini budget ps x y) → k.i ≡ length (k.m).body → (w : ℕ) × (fetched t code x ≡ Some (tool w)) × Hops x.pc (k.m).next w
  ending k e =
      let s = mini_shape t code rows ps clock st k.m k.is_in k.linked in
      let len = s.len in
      let pc : x.pc ≡ (k.m).row.at + 4 * length (k.m).body = k.pc ∙ ap (λ n. (k.m).row.at + 4 * n) e in
      (s.jump, fetch_mini t g budget code rows ps clock st h x y p d on k (length (k.m).body) (tool s.jump) (sym e) (omega arith) (get_append (k.m).body (tool s.jump)), subst (λ a. Hops a (k.m).next s.jump) (sym pc) s.hops)

  -- in the body the hart goes on to another word of it
  pub leaping : (k : InMini budget ps x y) (j : ℕ) (z : Bench) → Leap (k.m).body (k.m).row.at x.ticks k.i (bench_of x) j z → Brings (record x { pc = (k.m).row.at + 4 * j; regs = z.regs; bank = z.bank })
  leaping k j z l =
      let s = mini_shape t code rows ps clock st k.m k.is_in k.linked in
      let len = s.len in
      let in_body = slice_get_within (k.m).body k.i (tool l.word) l.here in
      let step : step_on bank_len l.word x.ticks x.pc (bench_of x) ≡ Ok (stand ((k.m).row.at + 4 * j) z) =
      subst (λ a. step_on bank_len l.word x.ticks a (bench_of x) ≡ Ok (stand ((k.m).row.at + 4 * j) z)) (sym k.pc) l.step in
      tool_brings l.word ((k.m).row.at + 4 * j) z (fetch_mini t g budget code rows ps clock st h x y p d on k k.i (tool l.word) refl (omega arith) (get_before (k.m).body (tool s.jump ∷ []) k.i (tool l.word) l.here)) step

  pub saved_on : (k : InMini budget ps x y) (z : Bench) → Keeps (bench_of x) z → Saved (record x { regs = z.regs; bank = z.bank }) y
  saved_on k z ke = let sv = k.saved in record { agree = λ r u n. ke.regs r n (λ e. omega arith) ∙ sv.agree r u n; saved = ke.saved ∙ sv.saved }

  abbrev pub leapt : (k : InMini budget ps x y) (f j : ℕ) (z : Bench) → Leap (k.m).body (k.m).row.at x.ticks k.i (bench_of x) j z → Safe f (k.m).body (k.m).row.at j z x.ticks
      → InMini budget ps (record x { pc = (k.m).row.at + 4 * j; regs = z.regs; bank = z.bank }) y
  leapt k f j z l s = record {
    m = k.m;
    b = k.b;
    is_in = k.is_in;
    linked = k.linked;
    family = k.family;
    was = k.was;
    inside = k.inside;
    home = k.home;
    before = k.before;
    saved = record { agree = (saved_on k z l.keeps).agree; saved = (saved_on k z l.keeps).saved };
    i = j;
    f = f;
    pc = refl;
    safe = s;
  }
