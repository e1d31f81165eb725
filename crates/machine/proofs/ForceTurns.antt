-- What a hart's bank tells of an instrument in force, at a turn of the hart.
use Rattle.std.proofs.Common.{◌≡◌, ℕ, zero, suc, ◌+◌, ◌-◌, ◌*◌, ◌^◌, ◌<◌, ◌≤◌, List, length, Option, Some, None, refl, sym, ap, ◌∙◌, subst, arith, ⊎_elim, inl, inr}
use Rattle.std.specs.Prelude.{Bool, true, false, not, slice_set, slice_index, ◌⊎◌, ◌&&◌}
use Rattle.std.specs.FinMap.{get}
use Rattle.std.proofs.lemmas.Bool.{true≢false, cases_lt}
use Rattle.std.proofs.lemmas.Grind.{common_steps}
use Rattle.pn_types.specs.declared.placed.Placed.{Placed}
use Rattle.pn_types.specs.declared.placed.PlacedSite.{PlacedSite}
use Rattle.pn_types.specs.declared.plan.Plan.{Plan}
use Rattle.rv_word.specs.Registers.{reg}
use Rattle.rv_word.specs.Exec.{Prog, done_of_outcome, exec_of, next}
use Rattle.rv_word.specs.Plain.{Words, PlainHart, program_word, after_done}
use Rattle.rv_word.specs.Plain as plain
use Rattle.rv_word.specs.declared.outcome.Next.{Next}
use Rattle.rv_word.specs.declared.outcome.Next.TheVariants.{Go, Stop}
use Rattle.tramp_spec.specs.Banks.{set_bank}
use Rattle.tramp_spec.specs.Blocks.{tail_of}
use Rattle.tramp_spec.specs.Bodies.{Safe, Stands, Leap, finish}
use Rattle.tramp_spec.specs.Codes.{Code, is_text_word}
use Rattle.tramp_spec.specs.Harts.{Hart, Solo, bench_of, own_hart, own_step, step_of, marked_step, is_tick}
use Rattle.tramp_spec.specs.Marks.{own, enter, tool, is_own, is_jump}
use Rattle.tramp_spec.specs.MovedWords.{own_place}
use Rattle.tramp_spec.specs.Slots.{places_of}
use Rattle.tramp_spec.specs.Steps.{Bench}
use Rattle.tramp_spec.specs.declared.mark.Mark.{Mark}
use Rattle.tramp_spec.specs.declared.mark.Mark.TheVariants.{Own, Enter, Tool, Leave}
use Rattle.tramp_spec.specs.declared.mark.MarkedWord.{MarkedWord}
use Rattle.tramp_spec.proofs.Hops.{Hops}
use Rattle.prim_code.specs.Standing.{SameSlots}
use Rattle.machine.specs.Cores.{In, Row, Written, Live, is_current, is_live}
use Rattle.machine.specs.Measures.{Level, site_at, level_after}
use Rattle.machine.specs.Places.{program_pc}
use Rattle.machine.specs.Turns.{fetched}
use Rattle.machine.proofs.Force.{acted, finish_end, finish_leap, end_of, Ready, Way, Ahead, BaseTells, Reads}
use Rattle.machine.proofs.Homes.{base_shape}
use Rattle.machine.proofs.Invariant.{Ground, Piece, IsBase, Linked, Leads, Static, Saved, Outside, AtSave, AtSaved, AtMoved, AtLeave, BasePlace, InMini, HartOk, Dynamic, Door}
use Rattle.machine.proofs.Texts.{text_cases}
use Rattle.machine.proofs.Told.{Stand, Stood, starts, same_told, ticks_on}
use Rattle.machine.proofs.Fetching.{body_fits, fetch_text, fetch_none}
use Rattle.machine.proofs.Nexts as nexts
use Rattle.machine.proofs.Nexts.{Brings}
use Rattle.machine.proofs.Ways.{rests, onto_mini, onto_tail}

-- ---- a tick leaves the bank

own_keeps : (n : Next) (regs : List ℕ) (w home : ℕ) (x : Hart) → ((own_hart n regs w home x).bank ≡ x.bank) × ((own_hart n regs w home x).ticks ≡ x.ticks)
own_keeps (Go pc) regs w home x = (refl, refl)
own_keeps (Stop cause) regs w home x = (refl, refl)

marked_keeps : (m : Mark) (w h home : ℕ) (s : Solo) → is_own m ≡ true → ((marked_step m w h home s).hart.bank ≡ s.hart.bank) × ((marked_step m w h home s).hart.ticks ≡ s.hart.ticks + 1)
marked_keeps Own w h home s e =
    let d = done_of_outcome (exec_of w s.hart.pc h s.hart.regs s.prog) s.hart.regs in
    let k = own_keeps d.next d.regs w home s.hart in (k.0, ap (λ n. n + 1) k.1)
marked_keeps Enter w h home s e = absurd (true≢false (sym e))
marked_keeps Tool w h home s e = absurd (true≢false (sym e))
marked_keeps Leave w h home s e = absurd (true≢false (sym e))

tick_keeps : (o : Option MarkedWord) (h home : ℕ) (s : Solo) → is_tick o ≡ true → ((step_of o h home s).hart.bank ≡ s.hart.bank) × ((step_of o h home s).hart.ticks ≡ s.hart.ticks + 1)
tick_keeps None h home s e = (refl, refl)
tick_keeps (Some w) h home s e = marked_keeps w.mark w.word h home s e

-- and a hart outside stays there
own_outside : (n : Next) (regs : List ℕ) (w home : ℕ) (x : Hart) → x.inside ≡ false → (own_hart n regs w home x).inside ≡ false
own_outside (Go pc) regs w home x e = ap (λ b. b && not (is_jump w)) e
own_outside (Stop cause) regs w home x e = refl

-- what a turn owes
abbrev pub OwesBy : Placed → Plan → (families ages : ℕ → ℕ) → Words → ℕ → List Piece → ℕ → PlainHart → Prog → Level → Bool → Solo → Type 0
OwesBy i plan families ages t budget ps h y p v true z = Reads i plan families ages t budget ps z.hart (plain.turn_alone t h (record { hart = y; prog = p })).hart (level_after plan y v)
OwesBy i plan families ages t budget ps h y p v false z = Reads i plan families ages t budget ps z.hart y v

module _ (i : Placed) (plan : Plan) (families ages : ℕ → ℕ) (t : Words) (g : Ground t) (budget : ℕ) (cap : budget < 2 ^ 64) (code : Code) (rows : List Row) (ps : List Piece) (clock : ℕ) (st : Static t code rows ps clock) (rd : Ready i plan families ages ps)
    (h : ℕ) (x : Hart) (y : PlainHart) (p : Prog) (d : Dynamic t budget ps x y) (on : x.stop ≡ None) (v : Level) where
  abbrev pub Owes : Option MarkedWord → Type 0
  Owes o = OwesBy i plan families ages t budget ps h y p v (is_tick o) (step_of o h (program_pc code rows x) (record { hart = x; prog = p }))

  owes : (o : Option MarkedWord) → fetched t code x ≡ o → Owes o → Owes (fetched t code x)
  owes o e k = subst Owes (sym e) k

  brought : (z : Hart) → Brings t g budget code rows ps clock st h x y p d on z → Reads i plan families ages t budget ps z y v → Owes (fetched t code x)
  brought z b k =
      owes b.0 b.1
      (subst (λ c. OwesBy i plan families ages t budget ps h y p v c (step_of b.0 h (program_pc code rows x) (record { hart = x; prog = p }))) (sym b.2) (subst (λ (s : Solo). OwesBy i plan families ages t budget ps h y p v false s) (sym b.3) k))

  -- after a tick a hart is outside, or it leaves
  abbrev Behind : Hart → PlainHart → Type 0
  Behind z u = (z.inside ≡ false) ⊎ ((b : Piece) × In b ps × IsBase b × (b.row.status ≡ Written → ⊥) × (z.inside ≡ true) × AtLeave t b z u)

  reads_behind : (z : Hart) (u : PlainHart) → Behind z u → Stand i budget (level_after plan y v) z.bank z.ticks → Reads i plan families ages t budget ps z u (level_after plan y v)
  reads_behind z u (inl e) k = inl (e, k)
  reads_behind z u (inr r) k = inr (inl (record { k = record { b = r.0; is_in = r.1; base = r.2; was = r.3; inside = r.4; place = inr (inr (inr (inr r.5))) }; told = k }))

  ticks : (o : Option MarkedWord) → fetched t code x ≡ o → is_tick o ≡ true → Stood i budget (acted plan y v) x.bank x.ticks
      → Behind (step_of o h (program_pc code rows x) (record { hart = x; prog = p })).hart (plain.turn_alone t h (record { hart = y; prog = p })).hart → Owes (fetched t code x)
  ticks o e tick k b =
      let z = (step_of o h (program_pc code rows x) (record { hart = x; prog = p })).hart in
      let s = tick_keeps o h (program_pc code rows x) (record { hart = x; prog = p }) tick in
      let on : Stand i budget (level_after plan y v) x.bank (x.ticks + 1) = ticks_on i budget (acted plan y v) x.bank x.ticks k in
      let stand : Stand i budget (level_after plan y v) z.bank z.ticks = subst (λ n. Stand i budget (level_after plan y v) n z.ticks) (sym s.0) (subst (Stand i budget (level_after plan y v) x.bank) (sym s.1) on) in
      owes o e (subst (λ c. OwesBy i plan families ages t budget ps h y p v c (step_of o h (program_pc code rows x) (record { hart = x; prog = p }))) (sym tick) (reads_behind z _ b stand))

  -- ---- outside

  -- where the program's word stands no site is
  own_word : (w : ℕ) → get code y.pc ≡ Some (own w) → site_at plan y.pc ≡ None
  own_word w e = ⊎_elim (λ n. n)
      (λ (r : (s : PlacedSite) × In s i.sites × (s.at ≡ y.pc)).
      let m = rd.mines r.0 r.1 in
      let door = st.doors m.b (m.base).is_in (m.base).base m.entered in
      let point : (m.b).row.point ≡ y.pc = (m.base).point ∙ (m.point ∙ r.2) in
      absurd (true≢false (sym (ap is_tick e) ∙ (sym (ap (λ q. is_tick (get code q)) point) ∙ ap is_tick door.stands))))
      ((rd.fits).sites y.pc)

  -- nor outside the text
  no_word : program_word t y.pc ≡ None → site_at plan y.pc ≡ None
  no_word e = ⊎_elim (λ n. n)
      (λ (r : (s : PlacedSite) × In s i.sites × (s.at ≡ y.pc)).
      let m = rd.mines r.0 r.1 in
      let point : (m.b).row.point ≡ y.pc = (m.base).point ∙ (m.point ∙ r.2) in
      let here = (base_shape t code rows ps clock st m.b (m.base).is_in (m.base).base).here in
      let z = sym e ∙ (sym (ap (program_word t) point) ∙ here) in absurd cc)
      ((rd.fits).sites y.pc)

  rest : site_at plan y.pc ≡ None → Stand i budget v x.bank x.ticks → Stood i budget (acted plan y v) x.bank x.ticks
  rest e k = rests i plan families ages t code rows ps clock st rd budget cap x y v e x.bank x.ticks k

  outside : Outside x y → x.ticks < budget → Stand i budget v x.bank x.ticks → Owes (fetched t code x)
  outside o l k = ⊎_elim near far (text_cases t x.pc)
    where
      near : (w : ℕ) × (program_word t x.pc ≡ Some w) × (is_text_word t x.pc ≡ true) → Owes (fetched t code x)
      near r = ⊎_elim
          (λ (e : get code x.pc ≡ Some (own r.0)).
          let n = done_of_outcome (exec_of r.0 x.pc h x.regs p) x.regs in
          ticks (Some (own r.0)) (fetch_text t g budget code rows ps clock st h x y p d on (Some (own r.0)) o.outside r.2 e) refl
          (rest (own_word r.0 (ap (get code) (sym o.pc) ∙ e)) k) (inl (own_outside n.next n.regs r.0 (program_pc code rows x) x o.outside)))
          (λ (e : (b : Piece) × In b ps × IsBase b × (b.row.point ≡ x.pc) × (b.row.status ≡ Live) × Door code b).
          let b = e.0 in
          let f = fetch_text t g budget code rows ps clock st h x y p d on (Some (enter (e.5).jump)) o.outside r.2 (ap (get code) (sym e.3) ∙ (e.5).stands) in
          let q = nexts.entering t g budget code rows ps clock st h x y p d on b e.1 e.3 e.5 o l f in
          brought (record x { pc = b.row.at; inside = true }) q.0
          (inr (inl (record {
            k = record { b = b; is_in = e.1; base = e.2; was = λ w. let u = e.4 in absurd cc; inside = refl; place = inl q.1 };
            told = record {
              stand = k;
              family_is = λ s hs es.
                  let m = rd.mines s hs in
                  let same : m.b ≡ b = st.single m.b b (m.base).is_in e.1 (m.base).base e.2 ((m.base).point ∙ (m.point ∙ (es ∙ (sym o.pc ∙ sym e.3)))) (ap is_current m.entered) (ap is_current e.4) in
                  sym m.family ∙ (sym (m.base).at ∙ ap (λ (u : Piece). u.row.at) same);
            };
          }))))
          (st.words x.pc r.0 r.1)

      far : (program_word t x.pc ≡ None) × (is_text_word t x.pc ≡ false) → Owes (fetched t code x)
      far r = ticks None (fetch_none t g budget code rows ps clock st h x y p d on o.outside r.1) refl (rest (no_word (ap (program_word t) (sym o.pc) ∙ r.0)) k) (inl refl)

  -- ---- a jump of the tool

  stands_first : (m : Piece) → In m ps → Linked m → Stands m.body m.row.at (bench_of x)
  stands_first m hm k = record { aligned = (st.places m hm).aligned; fits = body_fits t g budget code rows ps clock st h x y p d on m hm k; file = d.first; bank = d.bank }

  hop : (b : Piece) (n q : ℕ) (live : Bool) (w : ℕ) → In b ps → IsBase b → (b.row.status ≡ Written → ⊥) → x.inside ≡ true → y.pc ≡ b.row.point → x.ticks < budget → Saved x y → Hops x.pc q w → fetched t code x ≡ Some (tool w) → Leads ps b.row.at n q live
      → Way i plan families ages budget y v b.row.at n x.bank x.ticks → Owes (fetched t code x)
  hop b n q live w hb bs was ins e l sv hops f le way = ⊎_elim tail mini le.to
    where
      tail : (le.lo ≡ 0) × (q ≡ tail_of b.row.at) → Owes (fetched t code x)
      tail r =
          let k = nexts.to_tail t g budget code rows ps clock st h x y p d on b q w hb e l sv hops f r.1 in
          brought (record x { pc = q }) k.0
          (inr (inl (record { k = record { b = b; is_in = hb; base = bs; was = was; inside = ins; place = inr (inr (inl k.1)) }; told = onto_tail i plan families ages t code rows ps clock st rd budget cap x y v b.row.at n q live le r.0 way })))

      mini : (m : Piece) × In m ps × Linked m × (m.family ≡ b.row.at) × (m.age ≡ le.lo) × (m.row.at ≡ q) × (live ≡ true → m.row.status ≡ Live) → Owes (fetched t code x)
      mini r =
          let m = r.0 in
          let fm = nexts.family_is t g budget code rows ps clock st h x y p d on b m b.row.at hb refl r.1 r.2 r.3 in
          brought (record x { pc = q }) (nexts.to_mini t g budget code rows ps clock st h x y p d on m q w r.1 hops f r.5)
          (inr (inr (record {
            k = nexts.in_first t g budget code rows ps clock st h x y p d on b m q was ins e l sv r.1 r.2 fm r.5;
            way = onto_mini i plan families ages t code rows ps clock st rd budget cap x y v b.row.at n q live le m r.1 r.2 r.3 r.4 (sym fm.point ∙ sym e) (stands_first m r.1 r.2) l sv way;
          })))

  -- ---- in a base block

  -- before its blocks none has acted
  way_ahead : (b : Piece) → Ahead i plan families ages budget y v b.row.at x.bank x.ticks → Way i plan families ages budget y v b.row.at clock x.bank x.ticks
  way_ahead b k = record {
    none = λ e. k.stand;
    some = λ s hs e.
        let m = rd.mines s hs in
        let top = (st.ages m.x m.is_in m.linked).1 in
        let age = m.age in
        (k.family_is s hs e, λ l. k.stand, λ l. absurd (omega arith));
  }

  -- x5 is saved beside the slots
  saved_beside : (bank : List ℕ) (n : ℕ) → SameSlots (places_of i) bank (set_bank bank 1 n)
  saved_beside bank n q s =
      let w = ((rd.fits).places).within s.0 s.1 s.2 in
      let low = w.0 in
      let at = s.3 in
      beside bank q n (omega arith)
    where
      beside : (bank : List ℕ) (q n : ℕ) → 2 ≤ q → slice_index (slice_set bank 1 n) q ≡ slice_index bank q
      beside bank q n l = grind (arith, common_steps)

  save : (b : Piece) → In b ps → IsBase b → (b.row.status ≡ Written → ⊥) → x.inside ≡ true → AtSave budget b x y → Ahead i plan families ages budget y v b.row.at x.bank x.ticks → Owes (fetched t code x)
  save b hb bs was ins k a =
      let q = nexts.saving t g budget code rows ps clock st h x y p d on b hb bs ins k in
      brought (record x { pc = next x.pc; bank = set_bank x.bank 1 (reg x.regs 5) }) q.0
      (inr (inl (record {
        k = record { b = b; is_in = hb; base = bs; was = was; inside = ins; place = inr (inl q.1) };
        told = record {
          stand = same_told (places_of i) (length i.vars) (starts (budget - x.ticks)) v x.bank (set_bank x.bank 1 (reg x.regs 5)) x.ticks (saved_beside x.bank (reg x.regs 5)) a.stand;
          family_is = a.family_is;
        };
      })))

  head : (b : Piece) → In b ps → IsBase b → (b.row.status ≡ Written → ⊥) → x.inside ≡ true → AtSaved budget b (b.row.at + 4) x y → Ahead i plan families ages budget y v b.row.at x.bank x.ticks → Owes (fetched t code x)
  head b hb bs was ins k a =
      let q = nexts.heading t g budget code rows ps clock st h x y p d on b hb bs ins k.pc in
      hop b clock b.next (is_current b.row.status) q.0 hb bs was ins k.home k.before k.saved q.2 q.1 (st.heads b hb bs) (way_ahead b a)

  tail : (b : Piece) → In b ps → IsBase b → (b.row.status ≡ Written → ⊥) → x.inside ≡ true → AtSaved budget b (tail_of b.row.at) x y → Stood i budget (acted plan y v) x.bank x.ticks → Owes (fetched t code x)
  tail b hb bs was ins k a =
      let q = nexts.restoring t g budget code rows ps clock st h x y p d on b hb bs ins k in
      brought _ q.0 (inr (inl (record { k = record { b = b; is_in = hb; base = bs; was = was; inside = ins; place = inr (inr (inr (inl q.1))) }; told = a })))

  silent : (b : Piece) → In b ps → IsBase b → (b.row.status ≡ Written → ⊥) → x.inside ≡ true → (k : AtMoved t budget b x y) → k.j < own_place (k.m).word → Stood i budget (acted plan y v) x.bank x.ticks → Owes (fetched t code x)
  silent b hb bs was ins k l a =
      let q = nexts.moving t g budget code rows ps clock st h x y p d on b hb bs ins k l in
      brought q.0 q.1
      (inr (inl (record {
        k = record { b = b; is_in = hb; base = bs; was = was; inside = q.6 ∙ ins; place = inr (inr (inr (inl q.7))) };
        told = subst (λ n. Stood i budget (acted plan y v) n (q.0).ticks) (sym q.5) (subst (Stood i budget (acted plan y v) x.bank) (sym q.3) a);
      })))

  tick : (b : Piece) → In b ps → IsBase b → (b.row.status ≡ Written → ⊥) → x.inside ≡ true → (k : AtMoved t budget b x y) → k.j ≡ own_place (k.m).word → Stood i budget (acted plan y v) x.bank x.ticks → Owes (fetched t code x)
  tick b hb bs was ins k e a =
      let s = nexts.ticking t g budget code rows ps clock st h x y p d on b hb bs ins k e in
      let w = s.0 in
      let by = nexts.tick_place t g budget code rows ps clock st h x y p d on b ins k.m w (is_jump (k.m).word) (exec_of w x.pc h x.regs p) (exec_of (k.m).word y.pc h y.regs p) s.3 s.5 in
      ticks (Some (own w)) s.1 refl a
      (subst (λ o. Behind (own_step (done_of_outcome (exec_of w x.pc h x.regs p) x.regs) w (program_pc code rows x) x).hart (after_done (done_of_outcome (plain.fetched o h y p) y.regs) y).hart) (sym s.4)
      (⊎_elim (λ z. inl z) (λ z. inr (b, hb, bs, was, z.0, z.1)) by))

  leave : (b : Piece) → In b ps → IsBase b → x.inside ≡ true → AtLeave t b x y → Stand i budget v x.bank x.ticks → Owes (fetched t code x)
  leave b hb bs ins k a = brought (record x { pc = y.pc; inside = false }) (nexts.leaving t g budget code rows ps clock st h x y p d on b hb bs ins k) (inl (refl, a))

  in_place : (b : Piece) → In b ps → IsBase b → (b.row.status ≡ Written → ⊥) → x.inside ≡ true → (k : BasePlace t budget b x y) → BaseTells i plan families ages v k → Owes (fetched t code x)
  in_place b hb bs was ins (inl k) a = save b hb bs was ins k a
  in_place b hb bs was ins (inr (inl k)) a = head b hb bs was ins k a
  in_place b hb bs was ins (inr (inr (inl k))) a = tail b hb bs was ins k a
  in_place b hb bs was ins (inr (inr (inr (inl k)))) a = ⊎_elim (λ l. silent b hb bs was ins k l a) (λ l. tick b hb bs was ins k (let q = k.low in omega arith) a) (cases_lt k.j (own_place (k.m).word))
  in_place b hb bs was ins (inr (inr (inr (inr k)))) a = leave b hb bs ins k a

  -- ---- in a mini block

  in_mini : (k : InMini budget ps x y) → Way i plan families ages budget y v (k.m).family (k.m).age (end_of k) x.ticks → Owes (fetched t code x)
  in_mini k way = by k.f refl k.safe
    where
      ends : k.i ≡ length (k.m).body → Owes (fetched t code x)
      ends e =
          let q = nexts.ending t g budget code rows ps clock st h x y p d on k e in
          let fm = k.family in
          let bank : end_of k ≡ x.bank = finish_end k.f (k.m).body (k.m).row.at k.i (bench_of x) x.ticks e in
          let le : Leads ps (k.b).row.at (k.m).age (k.m).next (is_live (k.m).row.status) = subst (λ a. Leads ps a (k.m).age (k.m).next (is_live (k.m).row.status)) (sym fm.at) (st.chains k.m k.is_in k.linked) in
          hop k.b (k.m).age (k.m).next (is_live (k.m).row.status) q.0 fm.is_in fm.base k.was k.inside (k.home ∙ sym fm.point) k.before k.saved q.2 q.1 le
          (subst (λ a. Way i plan families ages budget y v a (k.m).age x.bank x.ticks) (sym fm.at) (subst (λ n. Way i plan families ages budget y v (k.m).family (k.m).age n x.ticks) bank way))

      leaps : (f j : ℕ) (z : Bench) → k.f ≡ suc f → (l : Leap (k.m).body (k.m).row.at x.ticks k.i (bench_of x) j z) → Safe f (k.m).body (k.m).row.at j z x.ticks → Owes (fetched t code x)
      leaps f j z ef l s =
          let bank = ap (λ n. finish n (k.m).body (k.m).row.at k.i (bench_of x) x.ticks) ef ∙ finish_leap f (k.m).body (k.m).row.at k.i j (bench_of x) z x.ticks l in
          brought (record x { pc = (k.m).row.at + 4 * j; regs = z.regs; bank = z.bank }) (nexts.leaping t g budget code rows ps clock st h x y p d on k j z l)
          (inr (inr (record {
            k = nexts.leapt t g budget code rows ps clock st h x y p d on k f j z l s;
            way = subst (λ n. Way i plan families ages budget y v (k.m).family (k.m).age n x.ticks) bank way;
          })))

      by : (f : ℕ) → k.f ≡ f → Safe f (k.m).body (k.m).row.at k.i (bench_of x) x.ticks → Owes (fetched t code x)
      by zero ef e = ends e
      by (suc f) ef (inl e) = ends e
      by (suc f) ef (inr r) = leaps f r.0 r.1 ef r.2 r.3

  -- ---- together

  pub turn_reads : (x.inside ≡ true) ⊎ (x.ticks < budget) → Reads i plan families ages t budget ps x y v → Owes (fetched t code x)
  turn_reads r (inl o) = by (d.hart on)
    where
      by : HartOk t budget ps x y → Owes (fetched t code x)
      by (inl k) = outside k (⊎_elim (λ e. absurd (true≢false (sym e ∙ o.0))) (λ l. l) r) o.1
      by (inr (inl k)) = absurd (true≢false (sym k.inside ∙ o.0))
      by (inr (inr k)) = absurd (true≢false (sym k.inside ∙ o.0))
  turn_reads r (inr (inl b)) = in_place (b.k).b (b.k).is_in (b.k).base (b.k).was (b.k).inside (b.k).place b.told
  turn_reads r (inr (inr m)) = in_mini m.k m.way
