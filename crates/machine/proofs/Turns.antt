-- A turn of a hart keeps what is kept of it.
use Rattle.std.proofs.Common.{◌≡◌, ℕ, zero, suc, ◌+◌, ◌-◌, ◌*◌, ◌<◌, List, length, Option, Some, None, refl, sym, ap, ◌∙◌, subst, arith, ⊎_elim, inl, inr}
use Rattle.std.specs.Prelude.{Bool, true, false, not, is_none, IsTrue, ◌⊎◌, ◌&&◌}
use Rattle.std.specs.FinMap.{get}
use Rattle.std.proofs.lemmas.Bool.{true≢false, cases_lt, cond-false, and_from, lt-ltb}
use Rattle.std.proofs.lemmas.Grind.{common_steps}
use Rattle.rv_word.specs.Names.{has_scratch}
use Rattle.rv_word.specs.Registers.{reg, with_reg}
use Rattle.rv_word.specs.Exec.{Prog, Outcome, Stops, Goes, done_of_outcome, exec_of, next}
use Rattle.rv_word.specs.Plain.{Words, PlainHart, program_word, may_go, after_done, hart_after}
use Rattle.rv_word.specs.Plain as plain
use Rattle.rv_word.specs.declared.outcome.Cause.{Cause}
use Rattle.rv_word.specs.declared.outcome.Next.TheVariants.{Go}
use Rattle.rv_word.specs.declared.outcome.Cause.TheVariants.{FetchOutside}
use Rattle.tramp_spec.specs.Codes.{Code, is_text_word}
use Rattle.tramp_spec.specs.Banks.{bank_len, saved_x5, set_bank}
use Rattle.tramp_spec.specs.Blocks.{tail_of, moved_at}
use Rattle.tramp_spec.specs.Bodies.{Safe, Leap}
use Rattle.tramp_spec.specs.Harts.{own_hart, Hart, Solo, bench_of, stopped, ticked, own_step, step_of, is_tick}
use Rattle.tramp_spec.specs.Marks.{own, enter, tool, is_jump}
use Rattle.tramp_spec.specs.MovedWords.{own_place}
use Rattle.tramp_spec.specs.Moves.{Agree, Alike, LeadsHome, SameStep}
use Rattle.tramp_spec.specs.Steps.{Bench}
use Rattle.tramp_spec.specs.declared.mark.MarkedWord.{MarkedWord}
use Rattle.tramp_spec.proofs.Frame.{Same, execs}
use Rattle.tramp_spec.proofs.Hops.{Hops, length_set_bank}
use Rattle.tramp_spec.proofs.Registers.{length_with}
use Rattle.machine.specs.Cores.{In, Row, Written, Live, is_live, is_current}
use Rattle.machine.specs.Places.{home_of, program_pc}
use Rattle.machine.specs.Turns.{fetched}
use Rattle.machine.proofs.Invariant.{Ground, Piece, IsBase, Linked, MiniShape, Leads, Door, Static, Saved, Outside, AtSave, AtSaved, MovedWord, AtMoved, AtLeave, BasePlace, InMini, HartOk, Dynamic}
use Rattle.machine.proofs.Texts.{in_text, text_cases}
use Rattle.machine.proofs.Lefts.{ahead, left_at, left, Below, Soon, ahead_of}
use Rattle.machine.proofs.Homes.{base_shape, mini_shape, base_len}
use Rattle.machine.proofs.Fetching.{fetch_text, fetch_none}
use Rattle.machine.proofs.Nexts.{Brings, entering, to_tail, to_mini, in_first, family_is, saving, heading, restoring, moving, exit, ticking, leaving, ending, leaping, leapt}

-- ---- what a turn owes

-- with what was fetched: a tick is a turn of the program, and the rest leaves the program's hart
abbrev pub OwesBy : Bool → Words → ℕ → List Piece → ℕ → Option ℕ → ℕ → Solo → PlainHart → Prog → Type 0
OwesBy true t budget ps clock bound h z y p =
    IsTrue (may_go (Some y) budget) × Soon t budget ps clock bound z.hart (plain.turn_alone t h (record { hart = y; prog = p })).hart
    × (z.prog ≡ (plain.turn_alone t h (record { hart = y; prog = p })).prog)
OwesBy false t budget ps clock bound h z y p = Soon t budget ps clock bound z.hart y × (z.prog ≡ p)

is_none_of : (o : Option Cause) → o ≡ None → is_none o ≡ true
is_none_of None e = refl
is_none_of (Some c) e = absurd cc

module _ (t : Words) (g : Ground t) (budget : ℕ) (code : Code) (rows : List Row) (ps : List Piece) (clock : ℕ) (st : Static t code rows ps clock) (h : ℕ) (x : Hart) (y : PlainHart) (p : Prog) (d : Dynamic t budget ps x y) (on : x.stop ≡ None) where
  abbrev Owes : Option ℕ → Option MarkedWord → Type 0
  Owes bound o = OwesBy (is_tick o) t budget ps clock bound h (step_of o h (program_pc code rows x) (record { hart = x; prog = p })) y p

  owes : (bound : Option ℕ) (o : Option MarkedWord) → fetched t code x ≡ o → Owes bound o → Owes bound (fetched t code x)
  owes bound o e k = subst (Owes bound) (sym e) k

  plain_on : y.stop ≡ None
  plain_on = sym d.stop ∙ on

  can_go : x.ticks < budget → IsTrue (may_go (Some y) budget)
  can_go l = and_from _ _ (is_none_of y.stop plain_on) (lt-ltb _ _ (subst (λ n. n < budget) d.ticks l))

  -- the machine's hart after a word that stops it
  downs : (bound : Option ℕ) (c : Cause) (home : ℕ) (z : PlainHart) → home ≡ y.pc → z ≡ record { pc = y.pc; regs = y.regs; ticks = y.ticks + 1; stop = Some c } → Soon t budget ps clock bound (ticked (stopped x home c)) z
  downs bound c home z e is =
      subst (Soon t budget ps clock bound (ticked (stopped x home c))) (sym is) (
        record {
          ticks = ap (λ n. n + 1) d.ticks;
          stop = refl;
          first = d.first;
          second = d.second;
          bank = d.bank;
          down = λ k q. (refl, e);
          hart = λ q. absurd cc;
        },
        λ q. absurd cc,
      )

  -- ---- outside

  own_outcome : (w : ℕ) (a b : Outcome) → x.inside ≡ false → x.pc ≡ y.pc → Same a b
      → Soon t budget ps clock None (own_step (done_of_outcome a x.regs) w (program_pc code rows x) x).hart (after_done (done_of_outcome b y.regs) y).hart × ((own_step (done_of_outcome a x.regs) w (program_pc code rows x) x).prog ≡ (after_done (done_of_outcome b y.regs) y).prog)
  own_outcome w (Stops c q) (Stops e r) i pc s =
      (downs None c (program_pc code rows x) _ (cond-false x.inside (home_of code rows x.pc) x.pc i ∙ pc) (ap (λ k. record { pc = y.pc; regs = y.regs; ticks = y.ticks + 1; stop = Some k }) (sym s.0)), s.1)
  own_outcome w (Stops c q) (Goes pc b r) i e s = absurd s
  own_outcome w (Goes pc a q) (Stops c r) i e s = absurd s
  own_outcome w (Goes pc a q) (Goes qc b r) i e s = (
    (
      record {
        ticks = ap (λ n. n + 1) d.ticks;
        stop = d.stop;
        first = (s.1).first;
        second = (s.1).second;
        bank = d.bank;
        down = λ k z. absurd cc;
        hart = λ z. inl (record { outside = ap (λ b. b && not (is_jump w)) i; pc = s.0; agree = (s.1).agree });
      },
      λ z. tt,
    ),
    s.2,
  )

  own_outside : (w : ℕ) → has_scratch w ≡ false → x.inside ≡ false → x.pc ≡ y.pc → Agree x.regs y.regs → x.ticks < budget → program_word t y.pc ≡ Some w → Owes None (Some (own w))
  own_outside w n i e a l f =
      let same : Same (exec_of w x.pc h x.regs p) (exec_of w y.pc h y.regs p) =
      subst (λ q. Same (exec_of w x.pc h x.regs p) (exec_of w q h y.regs p)) e (execs w x.pc h x.regs y.regs p n (record { agree = a; first = d.first; second = d.second })) in
      let both = own_outcome w (exec_of w x.pc h x.regs p) (exec_of w y.pc h y.regs p) i e same in
      let to : (o : Option ℕ) → Type 0 = λ o.
      Soon t budget ps clock None (own_step (done_of_outcome (exec_of w x.pc h x.regs p) x.regs) w (program_pc code rows x) x).hart (after_done (done_of_outcome (plain.fetched o h y p) y.regs) y).hart
      × ((own_step (done_of_outcome (exec_of w x.pc h x.regs p) x.regs) w (program_pc code rows x) x).prog ≡ (after_done (done_of_outcome (plain.fetched o h y p) y.regs) y).prog) in
      let k : to (program_word t y.pc) = subst to (sym f) both in (can_go l, k.0, k.1)

  none_outside : x.inside ≡ false → x.pc ≡ y.pc → x.ticks < budget → program_word t y.pc ≡ None → Owes None None
  none_outside i e l f =
      let to : (o : Option ℕ) → Type 0 = λ o.
      Soon t budget ps clock None (ticked (stopped x (program_pc code rows x) FetchOutside)) (after_done (done_of_outcome (plain.fetched o h y p) y.regs) y).hart
      × (p ≡ (after_done (done_of_outcome (plain.fetched o h y p) y.regs) y).prog) in
      let k : to (program_word t y.pc) = subst to (sym f) (downs None FetchOutside (program_pc code rows x) _ (cond-false x.inside (home_of code rows x.pc) x.pc i ∙ e) refl, refl) in (can_go l, k.0, k.1)

  -- ---- words that are no ticks

  brought : (bound : Option ℕ) (z : Hart) → Brings t g budget code rows ps clock st h x y p d on z → Soon t budget ps clock bound z y → Owes bound (fetched t code x)
  brought bound z b k =
      owes bound b.0 b.1
      (subst (λ c. OwesBy c t budget ps clock bound h (step_of b.0 h (program_pc code rows x) (record { hart = x; prog = p })) y p) (sym b.2)
      (subst (λ (s : Solo). OwesBy false t budget ps clock bound h s y p) (sym b.3) (k, refl)))

  enters : (b : Piece) → In b ps → IsBase b → b.row.point ≡ x.pc → b.row.status ≡ Live → (door : Door code b) → Outside x y → x.ticks < budget → fetched t code x ≡ Some (enter door.jump) → Owes None (fetched t code x)
  enters b hb bs e live door o l f =
      let k = entering t g budget code rows ps clock st h x y p d on b hb e door o l f in
      brought None (record x { pc = b.row.at; inside = true }) k.0 (
        record {
          ticks = d.ticks;
          stop = d.stop;
          first = d.first;
          second = d.second;
          bank = d.bank;
          down = λ k z. absurd cc;
          hart = λ z. inr (inl (record { b = b; is_in = hb; base = bs; was = λ w. absurd cc; inside = refl; place = inl k.1 }));
        },
        λ z. tt,
      )

  -- ---- inside

  -- on to what a jump leads to
  hop_on : (most : ℕ) (b : Piece) (fam n q : ℕ) (live : Bool) (w : ℕ) → In b ps → IsBase b → (b.row.status ≡ Written → ⊥) → b.row.at ≡ fam → x.inside ≡ true → y.pc ≡ b.row.point → x.ticks < budget → Saved x y → Hops x.pc q w → fetched t code x ≡ Some (tool w) → Leads ps fam n q live
      → b.row.len - 2 + ahead ps fam n < most → Owes (Some most) (fetched t code x)
  hop_on most b fam n q live w hb bs was at i e l sv hop f le room = ⊎_elim tail mini le.to
    where
      base : Brings t g budget code rows ps clock st h x y p d on (record x { pc = q }) → (k : HartOk t budget ps (record x { pc = q }) y) → Below ps clock (Some most) k → Owes (Some most) (fetched t code x)
      base br k u = brought (Some most) (record x { pc = q }) br (record { ticks = d.ticks; stop = d.stop; first = d.first; second = d.second; bank = d.bank; down = λ k z. absurd cc; hart = λ z. k }, λ z. u)

      tail : (le.lo ≡ 0) × (q ≡ tail_of fam) → Owes (Some most) (fetched t code x)
      tail r =
          let k = to_tail t g budget code rows ps clock st h x y p d on b q w hb e l sv hop f (r.1 ∙ ap tail_of (sym at)) in
          base k.0 (inr (inl (record { b = b; is_in = hb; base = bs; was = was; inside = i; place = inr (inr (inl k.1)) }))) (omega arith)

      mini : (m : Piece) × In m ps × Linked m × (m.family ≡ fam) × (m.age ≡ le.lo) × (m.row.at ≡ q) × (live ≡ true → m.row.status ≡ Live) → Owes (Some most) (fetched t code x)
      mini r =
          base (to_mini t g budget code rows ps clock st h x y p d on r.0 q w r.1 hop f r.5) (inr (inr (in_first t g budget code rows ps clock st h x y p d on b r.0 q was i e l sv r.1 r.2 (family_is t g budget code rows ps clock st h x y p d on b r.0 fam hb at r.1 r.2 r.3) r.5)))
          (let g = ahead_of ps fam n r.0 r.1 r.2 r.3 (let e4 = r.4 in let lo = le.below in omega arith) in let fe : (r.0).family ≡ fam = r.3 in let here = ap (λ f. ahead ps f (r.0).age) fe in omega arith)

  -- ---- in a base block

  in_base : (b : Piece) → In b ps → IsBase b → (b.row.status ≡ Written → ⊥) → (z : Hart) → z.stop ≡ None → z.ticks ≡ x.ticks → length z.regs ≡ 32 → length z.bank ≡ bank_len → z.inside ≡ true → (k : BasePlace t budget b z y) → (most : ℕ) → left_at ps clock b k < most → Soon t budget ps clock (Some most) z y
  in_base b hb bs was z on' et lr lb i k most u = (
    record {
      ticks = et ∙ d.ticks;
      stop = on' ∙ sym plain_on;
      first = lr;
      second = d.second;
      bank = lb;
      down = λ c q. absurd cc;
      hart = λ q. inr (inl (record { b = b; is_in = hb; base = bs; was = was; inside = i; place = k }));
    },
    λ q. u,
  )

  at_save : (b : Piece) → In b ps → IsBase b → (b.row.status ≡ Written → ⊥) → x.inside ≡ true → AtSave budget b x y → Owes (Some (b.row.len + ahead ps b.row.at clock)) (fetched t code x)
  at_save b hb bs was i k =
      let q = saving t g budget code rows ps clock st h x y p d on b hb bs i k in
      let len = (base_shape t code rows ps clock st b hb bs).len in
      brought (Some (b.row.len + ahead ps b.row.at clock)) (record x { pc = next x.pc; bank = set_bank x.bank 1 (reg x.regs 5) }) q.0
      (in_base b hb bs was (record x { pc = next x.pc; bank = set_bank x.bank 1 (reg x.regs 5) }) on refl d.first (length_set_bank x.bank 1 (reg x.regs 5) ∙ d.bank) i
      (inr (inl q.1)) (b.row.len + ahead ps b.row.at clock) (omega arith))

  at_head : (b : Piece) → In b ps → IsBase b → (b.row.status ≡ Written → ⊥) → x.inside ≡ true → AtSaved budget b (b.row.at + 4) x y → Owes (Some (b.row.len - 1 + ahead ps b.row.at clock)) (fetched t code x)
  at_head b hb bs was i k =
      let len = (base_shape t code rows ps clock st b hb bs).len in
      let q = heading t g budget code rows ps clock st h x y p d on b hb bs i k.pc in
      hop_on (b.row.len - 1 + ahead ps b.row.at clock) b b.row.at clock b.next (is_current b.row.status) q.0 hb bs was refl i k.home k.before k.saved q.2 q.1 (st.heads b hb bs) (omega arith)

  at_tail : (b : Piece) → In b ps → IsBase b → (b.row.status ≡ Written → ⊥) → x.inside ≡ true → AtSaved budget b (tail_of b.row.at) x y → Owes (Some (b.row.len - 2)) (fetched t code x)
  at_tail b hb bs was i k =
      let q = restoring t g budget code rows ps clock st h x y p d on b hb bs i k in
      let len = (base_shape t code rows ps clock st b hb bs).len in
      brought (Some (b.row.len - 2)) (record x { pc = next x.pc; regs = with_reg x.regs 5 (saved_x5 x.bank) }) q.0
      (in_base b hb bs was (record x { pc = next x.pc; regs = with_reg x.regs 5 (saved_x5 x.bank) }) on refl (length_with x.regs 5 (saved_x5 x.bank) ∙ d.first) d.bank i
      (inr (inr (inr (inl q.1)))) (b.row.len - 2) (omega arith))

  at_silent : (b : Piece) → In b ps → IsBase b → (b.row.status ≡ Written → ⊥) → x.inside ≡ true → (k : AtMoved t budget b x y) → k.j < own_place (k.m).word → Owes (Some (b.row.len - 3 - k.j)) (fetched t code x)
  at_silent b hb bs was i k l =
      let q = moving t g budget code rows ps clock st h x y p d on b hb bs i k l in
      let size : b.row.len ≡ 3 + length (k.m).moved = base_len t code b k.m (base_shape t code rows ps clock st b hb bs) in
      brought (Some (b.row.len - 3 - k.j)) q.0 q.1
      (in_base b hb bs was q.0 (q.2 ∙ on) q.3 q.4 (ap length q.5 ∙ d.bank) (q.6 ∙ i) (inr (inr (inr (inl q.7)))) (b.row.len - 3 - k.j) (let up = q.8 in let lo = q.9 in omega arith))

  -- the tick: to where it leads
  tick_leads : (b : Piece) → In b ps → IsBase b → (b.row.status ≡ Written → ⊥) → x.inside ≡ true → (m : MovedWord t b) (w : ℕ) (jumped : Bool) (pc qc : ℕ) (a e : List ℕ) → Alike a e → is_jump w ≡ jumped
      → LeadsHome jumped (own_place m.word) (moved_at b.row.at) m.moved pc qc
      → Soon t budget ps clock (Some (b.row.len - 3 - own_place m.word)) (ticked (own_hart (Go pc) a w (program_pc code rows x) x)) (plain.hart_after (Go qc) e y)
  tick_leads b hb bs was i m w jumped pc qc a e s tj (inl k) =
      let out : is_jump w ≡ true = tj ∙ k.0 in (
        record {
          ticks = ap (λ n. n + 1) d.ticks;
          stop = d.stop;
          first = s.first;
          second = s.second;
          bank = d.bank;
          down = λ k z. absurd cc;
          hart = λ z. inl (record { outside = grind (arith, common_steps, i, out); pc = k.1; agree = s.agree });
        },
        λ z. tt,
      )
  tick_leads b hb bs was i m w jumped pc qc a e s tj (inr k) =
      let out : is_jump w ≡ false = tj ∙ k.0 in
      let above = k.3 in
      let low = k.4 in
      let size : b.row.len ≡ 3 + length m.moved = base_len t code b m (base_shape t code rows ps clock st b hb bs) in (
        record {
          ticks = ap (λ n. n + 1) d.ticks;
          stop = d.stop;
          first = s.first;
          second = s.second;
          bank = d.bank;
          down = λ k z. absurd cc;
          hart = λ z. inr (inl (record {
            b = b;
            is_in = hb;
            base = bs;
            was = was;
            inside = grind (arith, common_steps, i, out);
            place = inr (inr (inr (inr (exit t g budget code rows ps clock st h x y p d on b m w pc qc a e s k.1 k.2 k.3 k.4 k.5 k.6 k.7))));
          }));
        },
        λ z. omega arith,
      )

  tick_outcome : (b : Piece) → In b ps → IsBase b → (b.row.status ≡ Written → ⊥) → x.inside ≡ true → (m : MovedWord t b) (w : ℕ) (jumped : Bool) (o u : Outcome) → program_pc code rows x ≡ y.pc → is_jump w ≡ jumped → SameStep jumped (own_place m.word) (moved_at b.row.at) m.moved o u
      → Soon t budget ps clock (Some (b.row.len - 3 - own_place m.word)) (own_step (done_of_outcome o x.regs) w (program_pc code rows x) x).hart (after_done (done_of_outcome u y.regs) y).hart × ((own_step (done_of_outcome o x.regs) w (program_pc code rows x) x).prog ≡ (after_done (done_of_outcome u y.regs) y).prog)
  tick_outcome b hb bs was i m w jumped (Stops c q) (Stops e r) home tj s = (downs (Some (b.row.len - 3 - own_place m.word)) c (program_pc code rows x) _ home (ap (λ k. record { pc = y.pc; regs = y.regs; ticks = y.ticks + 1; stop = Some k }) (sym s.0)), s.1)
  tick_outcome b hb bs was i m w jumped (Stops c q) (Goes pc a r) home tj s = absurd s
  tick_outcome b hb bs was i m w jumped (Goes pc a q) (Stops c r) home tj s = absurd s
  tick_outcome b hb bs was i m w jumped (Goes pc a q) (Goes qc e r) home tj s = (tick_leads b hb bs was i m w jumped pc qc a e s.1 tj s.2, s.0)

  at_tick : (b : Piece) → In b ps → IsBase b → (b.row.status ≡ Written → ⊥) → x.inside ≡ true → (k : AtMoved t budget b x y) → k.j ≡ own_place (k.m).word → Owes (Some (b.row.len - 3 - k.j)) (fetched t code x)
  at_tick b hb bs was i k e =
      let m = k.m in
      let s = ticking t g budget code rows ps clock st h x y p d on b hb bs i k e in
      let w = s.0 in
      let both0 = tick_outcome b hb bs was i m w (is_jump m.word) (exec_of w x.pc h x.regs p) (exec_of m.word y.pc h y.regs p) s.2 s.3 s.5 in
      let both = subst (λ j. Soon t budget ps clock (Some (b.row.len - 3 - j)) (own_step (done_of_outcome (exec_of w x.pc h x.regs p) x.regs) w (program_pc code rows x) x).hart (after_done (done_of_outcome (exec_of m.word y.pc h y.regs p) y.regs) y).hart × ((own_step (done_of_outcome (exec_of w x.pc h x.regs p) x.regs) w (program_pc code rows x) x).prog ≡ (after_done (done_of_outcome (exec_of m.word y.pc h y.regs p) y.regs) y).prog)) (sym e) both0 in
      let to' : (o : Option ℕ) → Type 0 = λ o.
      Soon t budget ps clock (Some (b.row.len - 3 - k.j)) (own_step (done_of_outcome (exec_of w x.pc h x.regs p) x.regs) w (program_pc code rows x) x).hart (after_done (done_of_outcome (plain.fetched o h y p) y.regs) y).hart
      × ((own_step (done_of_outcome (exec_of w x.pc h x.regs p) x.regs) w (program_pc code rows x) x).prog ≡ (after_done (done_of_outcome (plain.fetched o h y p) y.regs) y).prog) in
      let r : to' (program_word t y.pc) = subst to' (sym s.4) both in
      owes (Some (b.row.len - 3 - k.j)) (Some (own w)) s.1 (can_go k.before, r.0, r.1)

  at_leave : (b : Piece) → In b ps → IsBase b → x.inside ≡ true → (k : AtLeave t b x y) → Owes (Some (b.row.len - 3 - k.j)) (fetched t code x)
  at_leave b hb bs i k =
      brought (Some (b.row.len - 3 - k.j)) (record x { pc = y.pc; inside = false }) (leaving t g budget code rows ps clock st h x y p d on b hb bs i k) (
        record {
          ticks = d.ticks;
          stop = d.stop;
          first = d.first;
          second = d.second;
          bank = d.bank;
          down = λ c z. absurd cc;
          hart = λ z. inl (record { outside = refl; pc = refl; agree = k.agree });
        },
        λ z. tt,
      )

  at_moved : (b : Piece) → In b ps → IsBase b → (b.row.status ≡ Written → ⊥) → x.inside ≡ true → (k : AtMoved t budget b x y) → Owes (Some (b.row.len - 3 - k.j)) (fetched t code x)
  at_moved b hb bs was i k = ⊎_elim (λ l. at_silent b hb bs was i k l) (λ l. at_tick b hb bs was i k (let q = k.low in omega arith)) (cases_lt k.j (own_place (k.m).word))

  at_place : (b : Piece) → In b ps → IsBase b → (b.row.status ≡ Written → ⊥) → x.inside ≡ true → (k : BasePlace t budget b x y) → Owes (Some (left_at ps clock b k)) (fetched t code x)
  at_place b hb bs was i (inl k) = at_save b hb bs was i k
  at_place b hb bs was i (inr (inl k)) = at_head b hb bs was i k
  at_place b hb bs was i (inr (inr (inl k))) = at_tail b hb bs was i k
  at_place b hb bs was i (inr (inr (inr (inl k)))) = at_moved b hb bs was i k
  at_place b hb bs was i (inr (inr (inr (inr k)))) = at_leave b hb bs i k

  -- ---- in a mini block

  inside_mini : (k : InMini budget ps x y) → Owes (Some (left {t = t} ps clock (inr (inr k)))) (fetched t code x)
  inside_mini k = by k.f k.safe
    where
      shape : MiniShape code (k.m).row (k.m).body (k.m).next
      shape = mini_shape t code rows ps clock st k.m k.is_in k.linked

      most : ℕ
      most = (k.m).row.len - k.i + ahead ps (k.m).family (k.m).age + ((k.b).row.len - 2)

      ends : k.i ≡ length (k.m).body → Owes (Some most) (fetched t code x)
      ends e =
          let len = shape.len in
          let q = ending t g budget code rows ps clock st h x y p d on k e in
          hop_on most k.b (k.m).family (k.m).age (k.m).next (is_live (k.m).row.status) q.0 (k.family).is_in (k.family).base k.was (k.family).at k.inside (k.home ∙ sym (k.family).point) k.before k.saved q.2 q.1 (st.chains k.m k.is_in k.linked) (omega arith)

      leaps : (f j : ℕ) (z : Bench) → Leap (k.m).body (k.m).row.at x.ticks k.i (bench_of x) j z → Safe f (k.m).body (k.m).row.at j z x.ticks → Owes (Some most) (fetched t code x)
      leaps f j z l s =
          let len = shape.len in
          let ke = l.keeps in
          brought (Some most) (record x { pc = (k.m).row.at + 4 * j; regs = z.regs; bank = z.bank }) (leaping t g budget code rows ps clock st h x y p d on k j z l) (
            record {
              ticks = d.ticks;
              stop = d.stop;
              first = ke.size ∙ d.first;
              second = d.second;
              bank = ke.room ∙ d.bank;
              down = λ c q. absurd cc;
              hart = λ q. inr (inr (leapt t g budget code rows ps clock st h x y p d on k f j z l s));
            },
            λ z. let on = l.on in let within = l.within in omega arith,
          )

      by : (f : ℕ) → Safe f (k.m).body (k.m).row.at k.i (bench_of x) x.ticks → Owes (Some most) (fetched t code x)
      by zero e = ends e
      by (suc f) (inl e) = ends e
      by (suc f) (inr r) = leaps f r.0 r.1 r.2 r.3

  -- ---- together

  outside : Outside x y → x.ticks < budget → Owes None (fetched t code x)
  outside o l = ⊎_elim near far (text_cases t x.pc)
    where
      near : (w : ℕ) × (program_word t x.pc ≡ Some w) × (is_text_word t x.pc ≡ true) → Owes None (fetched t code x)
      near r =
          let q = in_text t x.pc r.0 r.1 in
          ⊎_elim
          (λ (e : get code x.pc ≡ Some (own r.0)).
          owes None (Some (own r.0)) (fetch_text t g budget code rows ps clock st h x y p d on (Some (own r.0)) o.outside r.2 e)
          (own_outside r.0 (g.plain q.i r.0 q.is) o.outside o.pc o.agree l (ap (program_word t) (sym o.pc) ∙ r.1)))
          (λ (e : (b : Piece) × In b ps × IsBase b × (b.row.point ≡ x.pc) × (b.row.status ≡ Live) × Door code b).
          enters e.0 e.1 e.2 e.3 e.4 e.5 o l (fetch_text t g budget code rows ps clock st h x y p d on (Some (enter (e.5).jump)) o.outside r.2 (ap (get code) (sym e.3) ∙ (e.5).stands)))
          (st.words x.pc r.0 r.1)

      far : (program_word t x.pc ≡ None) × (is_text_word t x.pc ≡ false) → Owes None (fetched t code x)
      far r = owes None None (fetch_none t g budget code rows ps clock st h x y p d on o.outside r.1) (none_outside o.outside o.pc l (ap (program_word t) (sym o.pc) ∙ r.0))

  -- where the hart is inside, fewer turns are left after the turn
  abbrev most_of : HartOk t budget ps x y → Option ℕ
  most_of (inl o) = None
  most_of (inr k) = Some (left {t = t} ps clock (inr k))

  pub turn_at : (x.inside ≡ true) ⊎ (x.ticks < budget) → (k : HartOk t budget ps x y) → Owes (most_of k) (fetched t code x)
  turn_at r (inl o) = outside o (⊎_elim (λ e. absurd (true≢false (sym e ∙ o.outside))) (λ l. l) r)
  turn_at r (inr (inl k)) = at_place k.b k.is_in k.base k.was k.inside k.place
  turn_at r (inr (inr k)) = inside_mini k

  pub turn_keeps : (x.inside ≡ true) ⊎ (x.ticks < budget) → Owes (most_of (d.hart on)) (fetched t code x)
  turn_keeps r = turn_at r (d.hart on)
