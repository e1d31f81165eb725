-- Where a site is linked and held, nothing of it is in the agenda.
use Rattle.std.proofs.Common.{◌≡◌, ℕ, List, [], ◌∷◌, ◌++◌, refl, sym, ap, ◌∙◌, subst, ⊎_elim, inl}
use Rattle.std.specs.Prelude.{map, filter, true, false, not, ◌&&◌, ◌==◌}
use Rattle.std.proofs.lemmas.Bool.{true≢false, eq-eqb, ne_eqb, eqb-true, and_parts, and_from, and_left, and_right, not_from_false, not_from_true}
use Rattle.rv_word.specs.Plain.{Words}
use Rattle.machine.specs.Cores.{In, Row, Written, Live, is_current}
use Rattle.machine.specs.Effects.{with_status, at_set}
use Rattle.machine.proofs.Lists.{in_map, find_gives, in_filter, filter_in}
use Rattle.instrument.specs.Books.{is_held}
use Rattle.instrument.specs.declared.entry.Entry.{Entry}
use Rattle.instrument.specs.declared.entry.Entry.TheVariants.{WriteBase, WriteMini, LinkMini, LinkPoint, UnlinkMini, UnlinkPoint, Free}
use Rattle.instrument.proofs.Stages.{block_row, is_now, Ready, Stage, stage, puts, pending, next, Ok, Sound, ending, is_other_mini, is_other_base, room_row}
use Rattle.instrument.proofs.Folds.{in_append, append_left, append_right}
use Rattle.instrument.proofs.Claims.{sized_of}
use Rattle.instrument.proofs.Rows.{same_row, one_base, pending_at}
use Rattle.instrument.proofs.Ties.{Waits, FreshOk}
use Rattle.instrument.proofs.Booked.{standing_in}
use Rattle.instrument.proofs.Steps.{State}
use Rattle.instrument.proofs.Keeping.{Kept, ending_from}
use Rattle.instrument.proofs.Force.{LinkedSite, HeldSite, live_stays, passed}

-- the entry is none of the placing or the dropping of the site
abbrev pub IsOff : ℕ → ℕ → Entry → Type 0
IsOff p m (WriteBase b) = b.point ≡ p → ⊥
IsOff p m (WriteMini b) = b.at ≡ m → ⊥
IsOff p m (LinkMini q k) = k ≡ m → ⊥
IsOff p m (LinkPoint q at) = q ≡ p → ⊥
IsOff p m (UnlinkMini q k) = k ≡ m → ⊥
IsOff p m (UnlinkPoint q at) = q ≡ p → ⊥
IsOff p m (Free q) = Unit {0}

abbrev pub AllOff : ℕ → ℕ → List Entry → Type 0
AllOff p m [] = Unit {0}
AllOff p m (e ∷ es) = IsOff p m e × AllOff p m es

pub record Firm (p m : ℕ) (k : Stage) : Type 0 where
  pub mini : (r : Row) × In r k.rows × (r.base ≡ false) × (r.point ≡ p) × (r.at ≡ m) × (r.status ≡ Live)
  pub base : (b : Row) × In b k.rows × (b.base ≡ true) × (b.point ≡ p) × (b.status ≡ Live)
  pub fresh : (q : ℕ) → k.fresh ≡ Ready q m → ⊥
  pub bases : (x : Row) → In x k.rows → x.base ≡ true → x.point ≡ p → x.status ≡ Live

bases_map : (p q : ℕ) (rows : List Row) → ((x : Row) → In x rows → x.base ≡ true → x.point ≡ p → x.status ≡ Live) → (x : Row) → In x (map (with_status (at_set q Live)) rows) → x.base ≡ true → x.point ≡ p → x.status ≡ Live
bases_map p q rows f x h b e =
    let o = in_map (with_status (at_set q Live)) rows x h in
    let l = f o.0 o.1 (sym (ap (λ (u : Row). u.base) o.2) ∙ b) (sym (ap (λ (u : Row). u.point) o.2) ∙ e) in
    ap (λ (u : Row). u.status) (o.2 ∙ live_stays q o.0 l) ∙ l

bases_put : (p : ℕ) (rows : List Row) (n : Row) → (n.base ≡ true → n.point ≡ p → ⊥) → ((x : Row) → In x rows → x.base ≡ true → x.point ≡ p → x.status ≡ Live) → (x : Row) → In x (rows ++ n ∷ []) → x.base ≡ true → x.point ≡ p → x.status ≡ Live
bases_put p rows n never f x h b e = ⊎_elim (λ i. f x i b e)
    (λ j. ⊎_elim (λ (i : x ≡ n). absurd (never (sym (ap (λ (u : Row). u.base) i) ∙ b) (sym (ap (λ (u : Row). u.point) i) ∙ e))) (λ i. absurd i) j)
    (in_append rows (n ∷ []) x h)

-- an entry that needs what it needs is none of the site's, and leaves it firm
firm_next : (p m : ℕ) (e : Entry) (es : List Entry) (k : Stage) → Firm p m k → Ok k e → ((x : Row) → In x (pending (e ∷ es)) → x.at ≡ m → ⊥)
    → ((r : Row) × In r (ending (next k e) es).rows × (r.base ≡ false) × (r.at ≡ m)) → IsOff p m e × Firm p m (next k e)
firm_next p m (WriteBase d) es k f o pend en =
    let b = f.base in
    let off : d.point ≡ p → ⊥ = λ i. o.1 b.0 b.1 b.2 (b.3 ∙ sym i) in (
      off,
      record {
        mini = (let r = f.mini in (r.0, append_left k.rows _ r.0 r.1, r.2, r.3, r.4, r.5));
        base = (b.0, append_left k.rows _ b.0 b.1, b.2, b.3, b.4);
        fresh = f.fresh;
        bases = bases_put p k.rows (block_row d true) (λ z i. off i) f.bases;
      },
    )
firm_next p m (WriteMini d) es k f o pend en =
    let b = f.base in
    let off : d.at ≡ m → ⊥ = λ i. pend (block_row d false) (inl refl) i in (
      off,
      record {
        mini = (let r = f.mini in (r.0, append_left k.rows _ r.0 r.1, r.2, r.3, r.4, r.5));
        base = (b.0, append_left k.rows _ b.0 b.1, b.2, b.3, b.4);
        fresh = λ z i. off cc;
        bases = bases_put p k.rows (block_row d false) (λ z i. true≢false (sym z)) f.bases;
      },
    )
firm_next p m (LinkMini q n) es k f o pend en =
    let b = f.base in let r = f.mini in (
      (λ i. f.fresh q (o ∙ ap (λ z. Ready q z) i)),
      record {
        mini = (r.0, passed (LinkMini q n) k r.0 r.1 r.5 tt, r.2, r.3, r.4, r.5);
        base = (b.0, passed (LinkMini q n) k b.0 b.1 b.4 tt, b.2, b.3, b.4);
        fresh = λ z i. absurd cc;
        bases = bases_map p n k.rows f.bases;
      },
    )
firm_next p m (LinkPoint q at) es k f o pend en =
    let b = f.base in let r = f.mini in
    let g = find_gives (λ x. x.base && ((x.point == q) && is_current x.status)) k.rows o.1 o.2 in
    let a = and_parts (o.1).base (((o.1).point == q) && is_current (o.1).status) g.1 in
    let off : q ≡ p → ⊥ = λ i.
    let l : (o.1).status ≡ Live = f.bases o.1 g.0 a.0 (eqb-true (o.1).point q (and_parts ((o.1).point == q) (is_current (o.1).status) a.1).0 ∙ i) in
    let z : Live ≡ Written = sym l ∙ o.4 in absurd cc in (
      off,
      record {
        mini = (r.0, passed (LinkPoint q at) k r.0 r.1 r.5 tt, r.2, r.3, r.4, r.5);
        base = (b.0, passed (LinkPoint q at) k b.0 b.1 b.4 tt, b.2, b.3, b.4);
        fresh = f.fresh;
        bases = bases_map p at k.rows f.bases;
      },
    )
firm_next p m (UnlinkMini q n) es k f o pend en =
    let b = f.base in let r = f.mini in
    let w = ending_from (next k (UnlinkMini q n)) es en.0 en.1 in
    let off : n ≡ m → ⊥ = λ i. ⊎_elim
    (λ (h : In w.o (filter (is_other_mini n) k.rows)). true≢false (sym (in_filter (is_other_mini n) k.rows w.o h).1 ∙ not_from_true _ (and_from _ _ (not_from_false _ (w.base ∙ en.2)) (eq-eqb _ _ (w.at ∙ (en.3 ∙ sym i))))))
    (λ (h : In w.o (pending es)). pend w.o h (w.at ∙ en.3)) w.is_in in (
      off,
      record {
        mini = (r.0, filter_in (is_other_mini n) k.rows r.0 r.1 (not_from_false _ (and_right (not (r.0).base) ((r.0).at == n) (ne_eqb _ _ (λ j. off (sym j ∙ r.4))))), r.2, r.3, r.4, r.5);
        base = (b.0, filter_in (is_other_mini n) k.rows b.0 b.1 (not_from_false _ (and_left (not (b.0).base) ((b.0).at == n) (not_from_true _ b.2))), b.2, b.3, b.4);
        fresh = f.fresh;
        bases = λ x h. f.bases x (in_filter (is_other_mini n) k.rows x h).0;
      },
    )
firm_next p m (UnlinkPoint q at) es k f o pend en =
    let b = f.base in let r = f.mini in
    let off : q ≡ p → ⊥ = λ i. o.5 r.0 r.1 r.2 (r.3 ∙ sym i) in (
      off,
      record {
        mini = (r.0, filter_in (is_other_base q) k.rows r.0 r.1 (not_from_false _ (and_left (r.0).base ((r.0).point == q) r.2)), r.2, r.3, r.4, r.5);
        base = (b.0, filter_in (is_other_base q) k.rows b.0 b.1 (not_from_false _ (and_right (b.0).base ((b.0).point == q) (ne_eqb _ _ (λ j. off (sym j ∙ b.3))))), b.2, b.3, b.4);
        fresh = f.fresh;
        bases = λ x h. f.bases x (in_filter (is_other_base q) k.rows x h).0;
      },
    )
firm_next p m (Free q) es k f o pend en = (tt, f)

all_off : (t : Words) (p m : ℕ) (es : List Entry) (k : Stage) → Firm p m k → Sound t k es → ((x : Row) → In x (pending es) → x.at ≡ m → ⊥)
    → ((r : Row) × In r (ending k es).rows × (r.base ≡ false) × (r.at ≡ m)) → AllOff p m es
all_off t p m [] k f s pend en = tt
all_off t p m (e ∷ es) k f s pend en =
    let n = firm_next p m e es k f s.1 pend en in
    (n.0, all_off t p m es (next k e) n.1 s.2 (λ x h. pend x (append_right (puts e) (pending es) x h)) en)

pub off_now : (p m : ℕ) (st : State) → Kept st → LinkedSite st.core p m → HeldSite st.book.rooms p m → AllOff p m st.book.agenda
off_now p m st k l h =
    let v = k.reached in
    let r = l.mini in
    let b = l.base in
    let same = same_row st.core v in
    all_off st.core.program p m st.book.agenda (stage (filter is_now st.core.rows) k.fr)
    (record {
      mini = (r.row, filter_in is_now st.core.rows r.row r.listed (ap is_current r.is), r.mini, r.point, r.at, r.is);
      base = (b.0, filter_in is_now st.core.rows b.0 b.1 (ap is_current b.4), b.2, b.3, b.4);
      fresh = λ q e.
          let w : Waits st.core.code st.core.rows q m = subst (FreshOk st.core.code st.core.rows) e (k.tied).fresh in
          let z : Written ≡ Live = sym w.written ∙ (ap (λ (u : Row). u.status) (same w.r r.row w.is_in r.listed (w.at ∙ sym r.at)) ∙ r.is) in absurd cc;
      bases = λ x hx xb xp.
          let o = in_filter is_now st.core.rows x hx in
          ap (λ (u : Row). u.status) (one_base st.core v x b.0 o.0 b.1 xb b.2 (xp ∙ sym b.3) o.1 (ap is_current b.4)) ∙ b.4;
    })
    (k.book).sound
    (λ x i e. pending_at st.core v st.book.agenda (sized_of st.core.program (stage (filter is_now st.core.rows) k.fr) st.book.agenda (k.book).sound) (k.book).apart r.row x r.listed i (e ∙ sym r.at))
    (room_row h.x, subst (λ u. In (room_row h.x) u) (sym (ap (λ (u : Stage). u.rows) (k.book).ends)) (standing_in st.book.rooms h.x h.is_in (ap is_held h.held)), h.mini, h.at)
