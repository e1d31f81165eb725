-- What an entry of the agenda does in the machine, where what it needs stands: points, and all entries.
use Rattle.std.proofs.Common.{◌≡◌, ℕ, ◌++◌, Some, refl, sym, ap, ◌∙◌, subst, ⊎_elim}
use Rattle.std.specs.Prelude.{map, filter, true, false, not, ◌&&◌, ◌==◌}
use Rattle.std.specs.FinMap.{get, insert}
use Rattle.std.proofs.lemmas.Bool.{true≢false, cases_Bool, cases_eq, cond-true, cond-false, eq-eqb, ne_eqb, eqb-true, and_parts, and_from, and_left, and_right, not_from_false, not_from_true}
use Rattle.rv_word.specs.Plain.{program_word}
use Rattle.tramp_spec.specs.Jumps.{jump_word}
use Rattle.tramp_spec.specs.Marks.{own, enter}
use Rattle.machine.specs.Cores.{In, Row, Written, Live, Retired, Core, is_current}
use Rattle.machine.specs.Effects.{with_status, at_set, retired_at, is_kept, point_linked, point_unlinked, mini_linked, mini_unlinked, after_event}
use Rattle.machine.specs.Events as events
use Rattle.machine.specs.Events.{May, current_base, row_at, is_linked}
use Rattle.machine.specs.Kept.{IsOpen}
use Rattle.machine.specs.Reached.{IsReached}
use Rattle.machine.proofs.Effects.{at_hit, at_miss}
use Rattle.machine.proofs.KeptRows.{kept_there}
use Rattle.machine.proofs.Lists.{in_map, in_filter, filter_in, get_same, get_other}
use Rattle.instrument.specs.Books.{is_unlinked, unlinked_at, stays}
use Rattle.instrument.specs.Handing.{event_of}
use Rattle.instrument.specs.declared.entry.Entry.{Entry}
use Rattle.instrument.specs.declared.entry.Entry.TheVariants.{WriteBase, WriteMini, LinkMini, LinkPoint, UnlinkMini, UnlinkPoint, Free}
use Rattle.instrument.specs.declared.room.Hold.TheVariants.{Unlinked}
use Rattle.instrument.specs.declared.room.Room.{Room}
use Rattle.instrument.proofs.Stages.{is_now, Fresh, Idle, Ready, stage, pending, Ok, Good, is_other_base}
use Rattle.instrument.proofs.Folds.{in_append, append_left, append_right, filter_filter, find_filter, now_map, now_less}
use Rattle.instrument.proofs.Claims.{Of, claims_map, claims_filter, claimed_map, claimed_same}
use Rattle.instrument.proofs.Rows.{same_row, into_now, base_of, one_base, pending_at}
use Rattle.instrument.proofs.Ties.{Waits, FreshOk, Doors, Tied, Leads_to, idle_ok, AwayFrom, point_low, put_base, put_mini, join_mini, found, part_mini}

module _ (c : Core) (v : IsReached c) (fr : Fresh) (t : Tied c.code c.rows fr) where
  -- ---- a point is linked

  module _ (p : ℕ) (b : Row) (eb : current_base (filter is_now c.rows) p ≡ Some b) (wr : b.status ≡ Written) (idle : fr ≡ Idle) where
    jb : (current_base c.rows p ≡ Some b) × In b c.rows × (b.base ≡ true) × (b.point ≡ p) × (is_current b.status ≡ true)
    jb = base_of c v p b eb

    jw : (w : ℕ) × (program_word c.program p ≡ Some w) × (get c.code p ≡ Some (own w))
    jw =
        let q = point_low c v fr t b jb.1 jb.2 in
        let e : program_word c.program p ≡ Some q.0 = ap (program_word c.program) (sym jb.3) ∙ q.1 in (
          q.0,
          e,
          ⊎_elim (λ o. o) (λ (o : (d : Row) × In d c.rows × (d.base ≡ true) × (d.point ≡ p) × (d.status ≡ Live) × IsOpen c.code d).
              let same : o.0 ≡ b = one_base c v o.0 b o.1 jb.1 o.2 jb.2 (o.3 ∙ sym jb.3) (ap is_current o.4) jb.4 in
              let z : Live ≡ Written = sym o.4 ∙ (ap (λ (u : Row). u.status) same ∙ wr) in absurd cc)
              ((kept_there c v).text p q.0 e),
        )

    jsame : (x : Row) → In x c.rows → is_current (at_set b.at Live x) ≡ is_current x.status
    jsame x h = ⊎_elim (λ i. ap is_current (at_hit b.at Live x i) ∙ sym (ap (λ (u : Row). is_current u.status) (same_row c v x b h jb.1 i) ∙ jb.4)) (λ i. ap is_current (at_miss b.at Live x i)) (cases_eq x.at b.at)

    jdoors : Doors (insert c.code p (enter (jump_word p b.at))) (map (with_status (at_set b.at Live)) c.rows)
    jdoors r h rb l =
        let o = in_map (with_status (at_set b.at Live)) c.rows r h in
        let ob : (o.0).base ≡ true = sym (ap (λ (u : Row). u.base) o.2) ∙ rb in
        subst (λ (u : Row). get (insert c.code p (enter (jump_word p b.at))) u.point ≡ Some (enter (jump_word u.point u.at))) (sym o.2)
        (⊎_elim
        (λ (i : (o.0).at ≡ b.at).
        let same = same_row c v o.0 b o.1 jb.1 i in
        subst (λ (u : Row). get (insert c.code p (enter (jump_word p b.at))) u.point ≡ Some (enter (jump_word u.point u.at))) (sym same)
        (subst (λ q. get (insert c.code p (enter (jump_word p b.at))) q ≡ Some (enter (jump_word q b.at))) (sym jb.3) (get_same c.code p (enter (jump_word p b.at)))))
        (λ (n : (o.0).at ≡ b.at → ⊥).
        let live : (o.0).status ≡ Live = sym (at_miss b.at Live o.0 n) ∙ (sym (ap (λ (u : Row). u.status) o.2) ∙ l) in
        let away : (o.0).point ≡ p → ⊥ = λ i. n (ap (λ (u : Row). u.at) (one_base c v o.0 b o.1 jb.1 ob jb.2 (i ∙ sym jb.3) (ap is_current live) jb.4)) in
        get_other c.code p (o.0).point (enter (jump_word p b.at)) away ∙ t.doors o.0 o.1 ob live)
        (cases_eq (o.0).at b.at))

    pub join_point : May c (events.LinkPoint p) × Leads_to c (point_linked (Some b) p c) fr (LinkPoint p b.at)
    join_point = (
      record { base = b; current = jb.0; word = jw.0; program = jw.1; stands = jw.2 },
      record {
        tied = record { doors = jdoors; fresh = idle_ok _ _ fr idle };
        now = now_map (at_set b.at Live) c.rows jsame;
        claims = λ rooms es z a k. (claims_map (at_set b.at Live) c.rows (pending es) a, claimed_same c.rows (at_set b.at Live) rooms es k jsame);
      },
    )

  -- ---- a point is unlinked

  module _ (p : ℕ) (b : Row) (eb : current_base (filter is_now c.rows) p ≡ Some b) (live : b.status ≡ Live) (alone : (r : Row) → In r (filter is_now c.rows) → r.base ≡ false → r.point ≡ p → ⊥) (idle : fr ≡ Idle) where
    qb : (current_base c.rows p ≡ Some b) × In b c.rows × (b.base ≡ true) × (b.point ≡ p) × (is_current b.status ≡ true)
    qb = base_of c v p b eb

    hit : (x : Row) → x.point ≡ p → is_linked x ≡ true → retired_at p x ≡ Retired
    hit x e l = cond-true ((x.point == p) && is_linked x) Retired x.status (and_from _ _ (eq-eqb _ _ e) l)

    away : (x : Row) → (x.point ≡ p → ⊥) → retired_at p x ≡ x.status
    away x e = cond-false ((x.point == p) && is_linked x) Retired x.status (and_left _ _ (ne_eqb _ _ e))

    base_linked : (x : Row) → x.base ≡ true → is_linked x ≡ is_current x.status
    base_linked x e = cond-true x.base _ _ e

    q_a : (x : Row) → In x c.rows → is_current x.status ≡ false → is_current (retired_at p x) ≡ false
    q_a x h e = ⊎_elim
        (λ k. ap is_current (cond-true ((x.point == p) && is_linked x) Retired x.status k))
        (λ k. ap is_current (cond-false ((x.point == p) && is_linked x) Retired x.status k) ∙ e)
        (cases_Bool ((x.point == p) && is_linked x))

    q_b : (x : Row) → In x c.rows → is_current x.status ≡ true → is_other_base p x ≡ true → retired_at p x ≡ x.status
    q_b x h e q = ⊎_elim
        (λ (i : x.point ≡ p). ⊎_elim
        (λ (k : x.base ≡ true). absurd (true≢false (sym q ∙ not_from_true _ (and_from _ _ k (eq-eqb _ _ i)))))
        (λ (k : x.base ≡ false). absurd (alone x (into_now c v x h e) k i)) (cases_Bool x.base))
        (λ i. away x i) (cases_eq x.point p)

    q_c : (x : Row) → In x c.rows → is_current x.status ≡ true → is_other_base p x ≡ false → is_current (retired_at p x) ≡ false
    q_c x h e q = ⊎_elim
        (λ (z : x.base && (x.point == p) ≡ true). let a = and_parts x.base (x.point == p) z in ap is_current (hit x (eqb-true x.point p a.1) (base_linked x a.0 ∙ e)))
        (λ (z : x.base && (x.point == p) ≡ false). absurd (true≢false (sym (not_from_false _ z) ∙ q)))
        (cases_Bool (x.base && (x.point == p)))

    pub qw : (w : ℕ) × (program_word c.program p ≡ Some w)
    qw = let q = point_low c v fr t b qb.1 qb.2 in (q.0, ap (program_word c.program) (sym qb.3) ∙ q.1)

    q_doors : (w : ℕ) → Doors (insert c.code p (own w)) (map (with_status (retired_at p)) c.rows)
    q_doors w x h xb l =
        let o = in_map (with_status (retired_at p)) c.rows x h in
        let l' : retired_at p o.0 ≡ Live = sym (ap (λ (u : Row). u.status) o.2) ∙ l in
        let ob : (o.0).base ≡ true = sym (ap (λ (u : Row). u.base) o.2) ∙ xb in
        subst (λ (u : Row). get (insert c.code p (own w)) u.point ≡ Some (enter (jump_word u.point u.at))) (sym o.2)
        (⊎_elim
        (λ (i : (o.0).point ≡ p). ⊎_elim
        (λ (k : is_current (o.0).status ≡ true). let z : Retired ≡ Live = sym (hit o.0 i (base_linked o.0 ob ∙ k)) ∙ l' in absurd cc)
        (λ (k : is_current (o.0).status ≡ false). absurd (true≢false (sym (ap is_current l') ∙ q_a o.0 o.1 k)))
        (cases_Bool (is_current (o.0).status)))
        (λ (i : (o.0).point ≡ p → ⊥). get_other c.code p (o.0).point (own w) i ∙ t.doors o.0 o.1 ob (sym (away o.0 i) ∙ l'))
        (cases_eq (o.0).point p))

    q_same : (o : Row) → In o c.rows → (o.at ≡ b.at → ⊥) → is_current (retired_at p o) ≡ is_current o.status
    q_same o h n = ⊎_elim
        (λ (k : is_current o.status ≡ true). ⊎_elim
        (λ (z : o.base && (o.point == p) ≡ true). let a = and_parts o.base (o.point == p) z in
        absurd (n (ap (λ (u : Row). u.at) (one_base c v o b h qb.1 a.0 qb.2 (eqb-true o.point p a.1 ∙ sym qb.3) k qb.4))))
        (λ (z : o.base && (o.point == p) ≡ false). ap is_current (q_b o h k (not_from_false _ z)))
        (cases_Bool (o.base && (o.point == p))))
        (λ (k : is_current o.status ≡ false). q_a o h k ∙ sym k) (cases_Bool (is_current o.status))

    q_gone : (x : Room) (o : Row) → In o c.rows → Of x o → is_unlinked (unlinked_at b.at x) ≡ not (is_current (retired_at p o))
    q_gone x o h f = ⊎_elim
        (λ (i : o.at ≡ b.at).
        let same = same_row c v o b h qb.1 i in
        let r : retired_at p o ≡ Retired = hit o (ap (λ (u : Row). u.point) same ∙ qb.3) (base_linked o (ap (λ (u : Row). u.base) same ∙ qb.2) ∙ (ap (λ (u : Row). is_current u.status) same ∙ qb.4)) in
        ap is_unlinked (cond-true (x.at == b.at) Unlinked x.hold (eq-eqb _ _ (f.at ∙ i))) ∙ sym (ap (λ w. not (is_current w)) r))
        (λ (i : o.at ≡ b.at → ⊥). ap is_unlinked (cond-false (x.at == b.at) Unlinked x.hold (ne_eqb _ _ (λ j. i (sym f.at ∙ j)))) ∙ (f.unlinked ∙ sym (ap not (q_same o h i))))
        (cases_eq o.at b.at)

    pub part_point : May c (events.UnlinkPoint p) × Leads_to c (point_unlinked (Some (qw.0)) p c) fr (UnlinkPoint p b.at)
    part_point = (
      record { jump = jump_word p b.at; stands = subst (λ q. get c.code q ≡ Some (enter (jump_word q b.at))) qb.3 (t.doors b qb.1 qb.2 live) },
      record {
        tied = record { doors = q_doors qw.0; fresh = idle_ok _ _ fr idle };
        now = now_less (retired_at p) (is_other_base p) c.rows q_a q_b q_c;
        claims = λ rooms es z a k. (
          claims_map (retired_at p) c.rows (pending es) a,
          claimed_map c.rows (retired_at p) (unlinked_at b.at) rooms es k q_gone
              (λ x o h f. ap is_unlinked (cond-false (x.at == b.at) Unlinked x.hold (ne_eqb _ _ (λ j. pending_at c v es z a b o qb.1 h (sym f.at ∙ j)))) ∙ f.unlinked),
        );
      },
    )

  -- ---- a point is freed

  kept_now : (p : ℕ) (x : Row) → is_current x.status ≡ true → is_kept p x ≡ true
  kept_now p x e = not_from_false _ (and_right (x.point == p) (not (is_current x.status)) (not_from_true _ e))

  waits_kept : (p q m : ℕ) → Waits c.code c.rows q m → Waits c.code (filter (is_kept p) c.rows) q m
  waits_kept p q m w = record {
    b = w.b;
    r = w.r;
    current = find_filter (λ r. r.base && ((r.point == q) && is_current r.status)) (is_kept p) c.rows
        (λ x t. kept_now p x (and_parts (x.point == q) (is_current x.status) (and_parts x.base ((x.point == q) && is_current x.status) t).1).1) w.b w.current;
    is_in = filter_in (is_kept p) c.rows w.r w.is_in (kept_now p w.r (ap is_current w.written));
    mini = w.mini;
    point = w.point;
    at = w.at;
    written = w.written;
    next = w.next;
  }

  fresh_kept : (p : ℕ) (f : Fresh) → FreshOk c.code c.rows f → FreshOk c.code (filter (is_kept p) c.rows) f
  fresh_kept p Idle o = tt
  fresh_kept p (Ready q m) o = waits_kept p q m o

  kept_room : (p : ℕ) (x : Room) (r : Row) → Of x r → is_kept p r ≡ true → stays p x ≡ true
  kept_room p x r f e = ap (λ w. not ((w == p) && is_unlinked x.hold)) f.point ∙ (ap (λ w. not ((r.point == p) && w)) f.unlinked ∙ e)

  pub released : (p : ℕ) → May c (events.Free p) → May c (events.Free p) × Leads_to c (after_event c (events.Free p)) fr (Free p)
  released p may = (
    may,
    record {
      tied = record { doors = λ r h b l. t.doors r (in_filter (is_kept p) c.rows r h).0 b l; fresh = fresh_kept p fr t.fresh };
      now = filter_filter is_now (is_kept p) c.rows (λ x e. kept_now p x e);
      claims = λ rooms es z a k. (
        claims_filter (is_kept p) c.rows (pending es) a,
        λ r h.
            let o : In r (c.rows ++ pending es) × (is_kept p r ≡ true) = ⊎_elim
            (λ i. let z = in_filter (is_kept p) c.rows r i in (append_left c.rows (pending es) r z.0, z.1))
            (λ i. (append_right c.rows (pending es) r i, kept_now p r (ap is_current (z r i).1)))
            (in_append (filter (is_kept p) c.rows) (pending es) r h) in
            let x = k r o.0 in
            (x.0, filter_in (stays p) rooms x.0 x.1 (kept_room p x.0 r x.2 o.1), x.2),
      );
    },
  )

  -- ---- all entries

  pub entry_done : (e : Entry) → Good c.program e → Ok (stage (filter is_now c.rows) fr) e → AwayFrom c v fr t e → ((p : ℕ) → e ≡ Free p → May c (events.Free p))
      → May c (event_of c e) × Leads_to c (after_event c (event_of c e)) fr e
  entry_done (WriteBase b) g k a f = put_base c v fr t b g k a
  entry_done (WriteMini b) g k a f = put_mini c v fr t b g k a
  entry_done (LinkMini p m) g k a f =
      let w : Waits c.code c.rows p m = subst (FreshOk c.code c.rows) k t.fresh in
      let r = join_mini c v fr t p m w k in
      (r.0, subst (λ o. Leads_to c (mini_linked o m c) fr (LinkMini p m)) (sym w.current) r.1)
  entry_done (LinkPoint p at) g k a f =
      let r = join_point p k.1 k.2 k.4 k.0 in (
        r.0,
        subst (λ n. Leads_to c (point_linked (current_base c.rows p) p c) fr (LinkPoint p n)) k.3
            (subst (λ o. Leads_to c (point_linked o p c) fr (LinkPoint p (k.1).at)) (sym (base_of c v p k.1 k.2).0) r.1),
      )
  entry_done (UnlinkMini p m) g k a f =
      let r = part_mini c v fr t p m k.1 k.2 k.3 k.4 k.5 k.6 k.0 in
      let u = found c v fr t p m k.1 k.2 k.3 k.4 k.5 k.6 k.0 in (
        r.0,
        subst (λ o. Leads_to c (mini_unlinked o (row_at c.rows m) m c) fr (UnlinkMini p m)) (sym u.2)
            (subst (λ o. Leads_to c (mini_unlinked (Some u.0) o m c) fr (UnlinkMini p m)) (sym u.3) r.1),
      )
  entry_done (UnlinkPoint p at) g k a f =
      let r = part_point p k.1 k.2 k.4 k.5 k.0 in
      let w = qw p k.1 k.2 k.4 k.5 k.0 in (
        r.0,
        subst (λ n. Leads_to c (point_unlinked (program_word c.program p) p c) fr (UnlinkPoint p n)) k.3
            (subst (λ o. Leads_to c (point_unlinked o p c) fr (UnlinkPoint p (k.1).at)) (sym w.1) r.1),
      )
  entry_done (Free p) g k a f = released p (f p refl)
