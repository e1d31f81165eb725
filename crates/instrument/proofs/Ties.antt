-- What an entry of the agenda does in the machine, where what it needs stands: blocks that are written, and mini blocks.
use Rattle.std.proofs.Common.{◌≡◌, ℕ, ◌+◌, ◌*◌, ◌%◌, ◌<◌, ◌≤◌, List, [], ◌∷◌, ◌++◌, length, Some, refl, sym, ap, ◌∙◌, subst, arith, ⊎_elim, inl, inr}
use Rattle.std.specs.Prelude.{map, filter, true, false, not, ◌⊎◌, ◌&&◌, ◌==◌}
use Rattle.std.specs.FinMap.{get, insert}
use Rattle.std.proofs.lemmas.Bool.{true≢false, cases_eq, cond-true, cond-false, eq-eqb, ne_eqb, and_from, not_from_false, not_from_true, and_right, false_from_ne_true}
use Rattle.pn_types.specs.declared.limits.TheConstants.{TOOL_TEXT_LEN}
use Rattle.rv_word.specs.Plain.{program_word}
use Rattle.tramp_spec.specs.Blocks.{mini_words}
use Rattle.tramp_spec.specs.Codes.{Code, tool_at, put_words}
use Rattle.tramp_spec.specs.Jumps.{jump_word}
use Rattle.tramp_spec.specs.Marks.{enter, tool}
use Rattle.tramp_spec.specs.declared.block.Block.{Block}
use Rattle.tramp_spec.specs.declared.mark.MarkedWord.{MarkedWord}
use Rattle.machine.specs.Cores.{In, Row, Status, Written, Live, Retired, Core, is_current}
use Rattle.machine.specs.Effects.{with_status, at_set, lead_to, mini_linked, mini_unlinked, row_of, after_event}
use Rattle.machine.specs.Events as events
use Rattle.machine.specs.Events.{May, HasShape, Apart, current_base, row_at, link_at, next_of}
use Rattle.machine.specs.Instruments.{body_of_block}
use Rattle.machine.specs.Reached.{IsReached}
use Rattle.machine.proofs.Effects.{at_hit, at_miss}
use Rattle.machine.proofs.KeptRows.{linkings_to, kept_there, word_of_point, is_led_to}
use Rattle.machine.proofs.Lists.{in_map, in_snoc, snoc_new, in_filter, find_gives, find_finds, get_other, put_words_other}
use Rattle.machine.proofs.Texts.{text_low}
use Rattle.instrument.specs.Books.{is_unlinked, unlinked_at}
use Rattle.instrument.specs.Handing.{head_of, leading, event_of}
use Rattle.instrument.specs.declared.entry.Entry.{Entry}
use Rattle.instrument.specs.declared.entry.Entry.TheVariants.{WriteBase, WriteMini, LinkMini, UnlinkMini}
use Rattle.instrument.specs.declared.room.Hold.TheVariants.{Unlinked}
use Rattle.instrument.specs.declared.room.Room.{Room}
use Rattle.instrument.proofs.Stages.{a_row, block_row, is_now, Fresh, Idle, Ready, stage, puts, pending, next, Ok, GoodBase, GoodMini, AllApart, is_other_mini, rooms_done}
use Rattle.instrument.proofs.Folds.{append_assoc, filter_append, now_map, now_less, find_first}
use Rattle.instrument.proofs.Claims.{Of, Claimed, Sized, claims_map, claimed_map, claimed_same}
use Rattle.instrument.proofs.Rows.{leading_len, same_row, row_place, link_place, into_now, base_of, pending_at, head_low, reach, next_new}

-- a mini block that was written for the present head and isn't linked yet
pub record Waits (code : Code) (rows : List Row) (p m : ℕ) : Type 0 where
  pub b : Row
  pub r : Row
  pub current : current_base rows p ≡ Some b
  pub is_in : In r rows
  pub mini : r.base ≡ false
  pub point : r.point ≡ p
  pub at : r.at ≡ m
  pub written : r.status ≡ Written
  pub next : next_of code r ≡ next_of code b

abbrev pub FreshOk : Code → List Row → Fresh → Type 0
FreshOk code rows Idle = Unit {0}
FreshOk code rows (Ready p m) = Waits code rows p m

-- at the point of a live base block stands the jump to it
abbrev pub Doors : Code → List Row → Type 0
Doors code rows = (r : Row) → In r rows → r.base ≡ true → r.status ≡ Live → get code r.point ≡ Some (enter (jump_word r.point r.at))

pub record Tied (code : Code) (rows : List Row) (fr : Fresh) : Type 0 where
  pub doors : Doors code rows
  pub fresh : FreshOk code rows fr

-- what doing an entry leads to
pub record Leads_to (c d : Core) (fr : Fresh) (e : Entry) : Type 0 where
  pub tied : Tied d.code d.rows (next (stage (filter is_now c.rows) fr) e).fresh
  pub now : filter is_now d.rows ≡ (next (stage (filter is_now c.rows) fr) e).rows
  pub claims : (rooms : List Room) (es : List Entry) → Sized es → AllApart (c.rows ++ (puts e ++ pending es)) → Claimed rooms (c.rows ++ (puts e ++ pending es))
      → AllApart (d.rows ++ pending es) × Claimed (rooms_done e rooms) (d.rows ++ pending es)

pub retired_of : (s : Status) → is_current s ≡ false → s ≡ Retired
retired_of Written e = absurd (true≢false e)
retired_of Live e = absurd (true≢false e)
retired_of Retired e = refl

pub idle_ok : (code : Code) (rows : List Row) (fr : Fresh) → fr ≡ Idle → FreshOk code rows fr
idle_ok code rows fr e = subst (FreshOk code rows) (sym e) tt

module _ (c : Core) (v : IsReached c) (fr : Fresh) (t : Tied c.code c.rows fr) where
  -- the point of a base block lies below the tool text
  pub point_low : (r : Row) → In r c.rows → r.base ≡ true → (w : ℕ) × (program_word c.program r.point ≡ Some w) × (r.point + 4 ≤ tool_at c.program)
  point_low r h b = let w = word_of_point (linkings_to c v) c (kept_there c v) r h b in (w.0, w.1, text_low c.program r.point w.0 w.1)

  -- the words of the text where a block's word was written
  pub text_kept : (b : Row) → In b c.rows → (k : MarkedWord) (o : Row) → In o c.rows → o.base ≡ true → get (insert c.code (link_at b) k) o.point ≡ get c.code o.point
  text_kept b hb k o ho ob =
      let a = (point_low o ho ob).2 in let l = (row_place c v b hb).0 in let z = (link_place c v b hb).0 in
      get_other c.code (link_at b) o.point k (λ e. omega arith)

  -- ---- a block is written

  module _ (at : ℕ) (ks : List MarkedWord) (new : Row) (written : new.status ≡ Written) (in_tool : tool_at c.program ≤ at) where
    put_doors : Doors (put_words at ks c.code) (c.rows ++ new ∷ [])
    put_doors r h b l = ⊎_elim
        (λ (i : In r c.rows). let z = (point_low r i b).2 in put_words_other at ks c.code r.point (inl (omega arith)) ∙ t.doors r i b l)
        (λ (i : r ≡ new). let w : Written ≡ Live = sym (ap (λ (u : Row). u.status) i ∙ written) ∙ l in absurd cc)
        (in_snoc c.rows new r h)

    put_now : filter is_now (c.rows ++ new ∷ []) ≡ filter is_now c.rows ++ new ∷ []
    put_now = filter_append is_now c.rows (new ∷ []) ∙ ap (λ l. filter is_now c.rows ++ l) (cond-true (is_now new) (new ∷ []) [] (ap is_current written))

    put_claims : (rooms : List Room) (es : List Entry) → AllApart (c.rows ++ (new ∷ pending es)) → Claimed rooms (c.rows ++ (new ∷ pending es))
        → AllApart ((c.rows ++ new ∷ []) ++ pending es) × Claimed rooms ((c.rows ++ new ∷ []) ++ pending es)
    put_claims rooms es a k =
        (subst AllApart (sym (append_assoc c.rows (new ∷ []) (pending es))) a, subst (Claimed rooms) (sym (append_assoc c.rows (new ∷ []) (pending es))) k)

  abbrev pub AwayFrom : Entry → Type 0
  AwayFrom e = (o r : Row) → In o c.rows → In r (puts e) → Apart o.at o.len r.at r.len

  pub put_base : (b : Block) → GoodBase c.program b → Ok (stage (filter is_now c.rows) fr) (WriteBase b) → AwayFrom (WriteBase b)
      → May c (event_of c (WriteBase b)) × Leads_to c (after_event c (event_of c (WriteBase b))) fr (WriteBase b)
  put_base b g k away =
      let row_is : row_of b ≡ block_row b true = ap (λ z. a_row b.point b.at (length b.words) z Written) g.base in
      let w = put_claims b.at b.words (block_row b true) refl g.place.low in (
        record {
          shape = subst (HasShape c b) (sym g.base) (g.shape, λ r h z e. retired_of r.status (false_from_ne_true _ (λ (n : is_current r.status ≡ true). k.1 r (into_now c v r h n) z e)));
          low = g.place.low;
          high = g.place.high;
          apart = λ r h. away r (block_row b true) h (inl refl);
        },
        subst (λ (u : Row). Leads_to c (record c { code = put_words b.at b.words c.code; rows = c.rows ++ u ∷ [] }) fr (WriteBase b)) (sym row_is)
            (record {
              tied = record { doors = put_doors b.at b.words (block_row b true) refl g.place.low; fresh = idle_ok _ _ fr k.0 };
              now = put_now b.at b.words (block_row b true) refl g.place.low;
              claims = λ rooms es z. w rooms es;
            }),
      )

  -- a mini block is written for the head
  module _ (b : Block) (g : GoodMini c.program b) (k : Ok (stage (filter is_now c.rows) fr) (WriteMini b)) (away : AwayFrom (WriteMini b)) where
    abbrev to : ℕ
    to = head_of c.code (current_base c.rows b.point)

    bb : (current_base c.rows b.point ≡ Some (k.1)) × In (k.1) c.rows × ((k.1).base ≡ true) × ((k.1).point ≡ b.point) × (is_current (k.1).status ≡ true)
    bb = base_of c v b.point k.1 k.2

    to_is : head_of c.code (current_base c.rows b.point) ≡ next_of c.code k.1
    to_is = ap (head_of c.code) bb.0

    low : (head_of c.code (current_base c.rows b.point) % 4 ≡ 0) × (tool_at c.program ≤ head_of c.code (current_base c.rows b.point)) × (head_of c.code (current_base c.rows b.point) ≤ tool_at c.program + 393216)
    low = subst (λ n. (n % 4 ≡ 0) × (tool_at c.program ≤ n) × (n ≤ tool_at c.program + 393216)) (sym to_is) (head_low c v b.point k.1 bb.0)

    abbrev ws : List MarkedWord
    ws = mini_words b.at (body_of_block b) (head_of c.code (current_base c.rows b.point))

    len_is : length (mini_words b.at (body_of_block b) (head_of c.code (current_base c.rows b.point))) ≡ length b.words
    len_is = leading_len b (head_of c.code (current_base c.rows b.point)) g.some

    abbrev new : Row
    new = a_row b.point b.at (length (mini_words b.at (body_of_block b) (head_of c.code (current_base c.rows b.point)))) false Written

    same_new : a_row b.point b.at (length (mini_words b.at (body_of_block b) (head_of c.code (current_base c.rows b.point)))) false Written ≡ block_row b false
    same_new = ap (λ n. a_row b.point b.at n false Written) len_is

    apart_new : (o : Row) → In o c.rows → Apart o.at o.len b.at (length (mini_words b.at (body_of_block b) (head_of c.code (current_base c.rows b.point))))
    apart_new o h = subst (λ n. Apart o.at o.len b.at n) (sym len_is) (away o (block_row b false) h (inl refl))

    next_old : next_of (put_words b.at ws c.code) k.1 ≡ next_of c.code k.1
    next_old =
        let z = link_place c v k.1 bb.1 in
        let lo = z.0 in let hi = z.1 in
        let o : (link_at k.1 < b.at) ⊎ (b.at + 4 * length ws ≤ link_at k.1) = ⊎_elim (λ l. inl (omega arith)) (λ l. inr (omega arith)) (apart_new k.1 bb.1) in
        ap (λ q. events.target_at q (link_at k.1)) (put_words_other b.at ws c.code (link_at k.1) o)

    next_is_to : next_of (put_words b.at ws c.code) new ≡ to
    next_is_to = next_new c v b g (head_of c.code (current_base c.rows b.point)) low.0 low.1 low.2

    pub put_mini : May c (event_of c (WriteMini b)) × Leads_to c (after_event c (event_of c (WriteMini b))) fr (WriteMini b)
    put_mini =
        let row_is : row_of (leading b (head_of c.code (current_base c.rows b.point))) ≡ new = ap (λ z. a_row b.point b.at (length ws) z Written) g.mini in
        let l = len_is in
        let hi = g.place.high in (
          record {
            shape = subst (HasShape c (leading b (head_of c.code (current_base c.rows b.point)))) (sym g.mini)
                (to, record { aligned = g.aligned; body = body_of_block b; harmless = g.harmless; reached = reach c v b g (head_of c.code (current_base c.rows b.point)) low.0 low.1 low.2; is = refl });
            low = g.place.low;
            high = subst (λ n. b.at + 4 * n ≤ tool_at c.program + TOOL_TEXT_LEN) (sym len_is) g.place.high;
            apart = apart_new;
          },
          subst (λ (u : Row). Leads_to c (record c { code = put_words b.at ws c.code; rows = c.rows ++ u ∷ [] }) fr (WriteMini b)) (sym row_is)
              (record {
                tied = record {
                  doors = put_doors b.at ws new refl g.place.low;
                  fresh = record {
                    b = k.1;
                    r = new;
                    current = find_first (λ r. r.base && ((r.point == b.point) && is_current r.status)) c.rows _ k.1 bb.0;
                    is_in = snoc_new c.rows _;
                    mini = refl;
                    point = refl;
                    at = refl;
                    written = refl;
                    next = next_is_to ∙ (to_is ∙ sym next_old);
                  };
                };
                now = put_now b.at ws new refl g.place.low ∙ ap (λ (u : Row). filter is_now c.rows ++ u ∷ []) same_new;
                claims = λ rooms es z a h. put_claims b.at ws new refl g.place.low rooms es
                    (subst (λ (u : Row). AllApart (c.rows ++ (u ∷ pending es))) (sym same_new) a)
                    (subst (λ (u : Row). Claimed rooms (c.rows ++ (u ∷ pending es))) (sym same_new) h);
              }),
        )

  -- ---- a mini block is linked

  pub join_mini : (p m : ℕ) → (w : Waits c.code c.rows p m) → fr ≡ Ready p m
      → May c (events.LinkMini p m) × Leads_to c (mini_linked (Some w.b) m c) fr (LinkMini p m)
  join_mini p m w e = (
    record {
      base = w.b;
      current = w.current;
      mini = record { row = w.r; listed = w.is_in; mini = w.mini; point = w.point; at = w.at; is = w.written };
      next = w.next;
    },
    record {
      tied = record {
        doors = λ r h b l.
            let o = in_map (with_status (at_set m Live)) c.rows r h in
            let ob : (o.0).base ≡ true = sym (ap (λ (u : Row). u.base) o.2) ∙ b in
            let n : (o.0).at ≡ m → ⊥ = λ i. true≢false (sym ob ∙ (ap (λ (u : Row). u.base) (same_row c v o.0 w.r o.1 w.is_in (i ∙ sym w.at)) ∙ w.mini)) in
            let q = t.doors o.0 o.1 ob (sym (at_miss m Live o.0 n) ∙ (sym (ap (λ (u : Row). u.status) o.2) ∙ l)) in
            subst (λ (u : Row). get (lead_to w.b m c.code) u.point ≡ Some (enter (jump_word u.point u.at))) (sym o.2) (text_kept w.b hb (tool (jump_word (link_at w.b) m)) o.0 o.1 ob ∙ q);
        fresh = tt;
      };
      now = now_map (at_set m Live) c.rows same;
      claims = λ rooms es z a k. (claims_map (at_set m Live) c.rows (pending es) a, claimed_same c.rows (at_set m Live) rooms es k same);
    },
  )
    where
      hb : In w.b c.rows
      hb = (find_gives (λ r. r.base && ((r.point == p) && is_current r.status)) c.rows w.b w.current).0

      same : (x : Row) → In x c.rows → is_current (at_set m Live x) ≡ is_current x.status
      same x h = ⊎_elim (λ i. ap is_current (at_hit m Live x i) ∙ sym (ap (λ (u : Row). is_current u.status) (same_row c v x w.r h w.is_in (i ∙ sym w.at)) ∙ ap is_current w.written)) (λ i. ap is_current (at_miss m Live x i)) (cases_eq x.at m)

  -- ---- a mini block is unlinked

  module _ (p m : ℕ) (r : Row) (now : In r (filter is_now c.rows)) (mini : r.base ≡ false) (rp : r.point ≡ p) (ra : r.at ≡ m) (live : r.status ≡ Live) (idle : fr ≡ Idle) where
    hr : In r c.rows
    hr = (in_filter is_now c.rows r now).0

    pub found : (h : Row) × (z : Row) × (events.before c m ≡ Some h) × (row_at c.rows m ≡ Some z) × In h c.rows
    found =
        let h = is_led_to (linkings_to c v) c (kept_there c v) r hr mini live in
        let z = find_finds (λ (u : Row). u.at == m) c.rows r hr (eq-eqb _ _ ra) in
        (h.0, z.0, ap (events.before c) (sym ra) ∙ h.1, z.1, h.2)

    same_at : (x : Row) → In x c.rows → x.at ≡ m → x ≡ r
    same_at x h e = same_row c v x r h hr (e ∙ sym ra)

    un_a : (x : Row) → In x c.rows → is_current x.status ≡ false → is_current (at_set m Retired x) ≡ false
    un_a x h e = ⊎_elim (λ i. ap is_current (at_hit m Retired x i)) (λ i. ap is_current (at_miss m Retired x i) ∙ e) (cases_eq x.at m)

    un_b : (x : Row) → In x c.rows → is_current x.status ≡ true → is_other_mini m x ≡ true → at_set m Retired x ≡ x.status
    un_b x h e q = ⊎_elim
        (λ i. absurd (true≢false (sym q ∙ not_from_true _ (and_from _ _ (not_from_false _ (ap (λ (u : Row). u.base) (same_at x h i) ∙ mini)) (eq-eqb _ _ i)))))
        (λ i. at_miss m Retired x i) (cases_eq x.at m)

    un_c : (x : Row) → In x c.rows → is_current x.status ≡ true → is_other_mini m x ≡ false → is_current (at_set m Retired x) ≡ false
    un_c x h e q = ⊎_elim (λ i. ap is_current (at_hit m Retired x i))
        (λ (i : x.at ≡ m → ⊥). absurd (true≢false (sym (not_from_false _ (and_right (not x.base) (x.at == m) (ne_eqb _ _ i))) ∙ q)))
        (cases_eq x.at m)

    part_doors : (b : Row) → In b c.rows → (k : MarkedWord) → Doors (insert c.code (link_at b) k) (map (with_status (at_set m Retired)) c.rows)
    part_doors b hb k x h xb l =
        let o = in_map (with_status (at_set m Retired)) c.rows x h in
        let ob : (o.0).base ≡ true = sym (ap (λ (u : Row). u.base) o.2) ∙ xb in
        let l' : at_set m Retired o.0 ≡ Live = sym (ap (λ (u : Row). u.status) o.2) ∙ l in
        let n : (o.0).at ≡ m → ⊥ = λ i. let z : Retired ≡ Live = sym (at_hit m Retired o.0 i) ∙ l' in absurd cc in
        let q = t.doors o.0 o.1 ob (sym (at_miss m Retired o.0 n) ∙ l') in
        subst (λ (u : Row). get (insert c.code (link_at b) k) u.point ≡ Some (enter (jump_word u.point u.at))) (sym o.2) (text_kept b hb k o.0 o.1 ob ∙ q)

    part_gone : (x : Room) (o : Row) → In o c.rows → Of x o → is_unlinked (unlinked_at m x) ≡ not (is_current (at_set m Retired o))
    part_gone x o h f = ⊎_elim
        (λ (i : o.at ≡ m). ap is_unlinked (cond-true (x.at == m) Unlinked x.hold (eq-eqb _ _ (f.at ∙ i))) ∙ sym (ap (λ w. not (is_current w)) (at_hit m Retired o i)))
        (λ (i : o.at ≡ m → ⊥). ap is_unlinked (cond-false (x.at == m) Unlinked x.hold (ne_eqb _ _ (λ j. i (sym f.at ∙ j)))) ∙ (f.unlinked ∙ sym (ap (λ w. not (is_current w)) (at_miss m Retired o i))))
        (cases_eq o.at m)

    pub part_mini : May c (events.UnlinkMini p m) × Leads_to c (mini_unlinked (Some (found.0)) (Some (found.1)) m c) fr (UnlinkMini p m)
    part_mini = (
      record { row = r; listed = hr; mini = mini; point = rp; at = ra; is = live },
      record {
        tied = record { doors = part_doors found.0 found.4 (tool (jump_word (link_at found.0) (next_of c.code found.1))); fresh = idle_ok _ _ fr idle };
        now = now_less (at_set m Retired) (is_other_mini m) c.rows un_a un_b un_c;
        claims = λ rooms es z a k. (
          claims_map (at_set m Retired) c.rows (pending es) a,
          claimed_map c.rows (at_set m Retired) (unlinked_at m) rooms es k part_gone
              (λ x o h f. ap is_unlinked (cond-false (x.at == m) Unlinked x.hold (ne_eqb _ _ (λ j. pending_at c v es z a r o hr h (sym f.at ∙ (j ∙ sym ra))))) ∙ f.unlinked),
        );
      },
    )
