-- The body of a mini block stays, and is that of the block that was written.
use Rattle.std.proofs.Common.{◌≡◌, ℕ, zero, suc, ◌+◌, ◌-◌, ◌*◌, ◌<◌, ◌≤◌, List, [], ◌∷◌, ◌++◌, length, Some, refl, sym, ap, ◌∙◌, subst, arith, ⊎_elim, inl, inr}
use Rattle.std.specs.Prelude.{map, filter, take, true, false, unwrap_or, ◌⊎◌, ◌&&◌, ◌==◌}
use Rattle.std.specs.FinMap.{get, insert}
use Rattle.std.proofs.lemmas.Bool.{true≢false, cond-false}
use Rattle.std.proofs.lemmas.List.{take_at}
use Rattle.rv_word.specs.Plain.{program_word}
use Rattle.tramp_spec.specs.Blocks.{mini_words}
use Rattle.tramp_spec.specs.Codes.{Code, tool_at, put_words}
use Rattle.tramp_spec.specs.Jumps.{jump_word}
use Rattle.tramp_spec.specs.Marks.{own, enter, tool}
use Rattle.tramp_spec.specs.declared.block.Block.{Block}
use Rattle.tramp_spec.specs.declared.mark.MarkedWord.{MarkedWord}
use Rattle.machine.specs.Cores.{In, Row, Status, Live, Retired, Core, is_current}
use Rattle.machine.specs.Effects.{with_status, at_set, retired_at, is_kept, mini_linked, mini_unlinked, point_linked, point_unlinked, row_of, after_event}
use Rattle.machine.specs.Events.{Apart, current_base, row_at, link_at, next_of}
use Rattle.machine.specs.Instruments.{words_at, body_in, body_of_block}
use Rattle.machine.specs.Reached.{IsReached}
use Rattle.machine.proofs.Lists.{in_map, in_filter, in_snoc, get_other, put_words_other, put_words_stand, AreWordsAt}
use Rattle.instrument.specs.Handing.{head_of, leading, event_of}
use Rattle.instrument.specs.declared.entry.Entry.{Entry}
use Rattle.instrument.specs.declared.entry.Entry.TheVariants.{WriteBase, WriteMini, LinkMini, LinkPoint, UnlinkMini, UnlinkPoint, Free}
use Rattle.instrument.proofs.Stages.{GoodMini, block_row, is_now, Fresh, stage, Ok, Good}
use Rattle.instrument.proofs.Rows.{body_len, leading_len, rows_apart, row_place, link_place, base_of}
use Rattle.machine.proofs.Lists as lists
use Rattle.instrument.proofs.Ties as Ties
use Rattle.instrument.proofs.Ties.{Tied, AwayFrom, point_low, found}

-- ---- words

words_same : (n : ℕ) (code new : Code) (at : ℕ) → ((a : ℕ) → at ≤ a → a < at + 4 * n → get new a ≡ get code a) → words_at n new at ≡ words_at n code at
words_same zero code new at f = refl
words_same (suc n) code new at f =
    cc (ap (λ o. unwrap_or o (tool 0)) (f at (omega arith) (omega arith)), words_same n code new (at + 4) (λ a lo hi. f a (omega arith) (omega arith)))

words_stand : (ws : List MarkedWord) (n : ℕ) (code : Code) (at : ℕ) → AreWordsAt code at ws → n ≤ length ws → words_at n code at ≡ take n ws
words_stand ws zero code at h l = refl
words_stand [] (suc n) code at h l = absurd (omega arith)
words_stand (w ∷ ws) (suc n) code at h l = cc (ap (λ o. unwrap_or o (tool 0)) h.0, words_stand ws n code (at + 4) h.1 (omega arith))

body_other : (code : Code) (a : ℕ) (k : MarkedWord) (r : Row) → (a < r.at) ⊎ (r.at + 4 * (r.len - 1) ≤ a) → body_in (insert code a k) r ≡ body_in code r
body_other code a k r o = words_same (r.len - 1) code (insert code a k) r.at
    (λ q lo hi. get_other code a q k (λ e. ⊎_elim (λ l. omega arith) (λ l. omega arith) o))

body_put : (code : Code) (at : ℕ) (ws : List MarkedWord) (r : Row) → Apart r.at r.len at (length ws) → body_in (put_words at ws code) r ≡ body_in code r
body_put code at ws r o = words_same (r.len - 1) code (put_words at ws code) r.at
    (λ q lo hi. put_words_other at ws code q (⊎_elim (λ l. inl (omega arith)) (λ l. inr (omega arith)) o))

body_new : (code : Code) (p at : ℕ) (body : List MarkedWord) (next n : ℕ) → n ≡ length body → words_at n (put_words at (mini_words at body next) code) at ≡ body
body_new code p at body next n e =
    let ws = mini_words at body next in
    let l = words_stand (mini_words at body next) n (put_words at (mini_words at body next) code) at (put_words_stand at (mini_words at body next) code) in
    l (short n e) ∙ take_at body (tool (jump_word (at + 4 * length body) next) ∷ []) n (sym e)
  where
    short : (n : ℕ) → n ≡ length body → n ≤ length (mini_words at body next)
    short n e = let z = longer body (tool (jump_word (at + 4 * length body) next)) in omega (arith, e, z)
      where
        longer : (xs : List MarkedWord) (w : MarkedWord) → length (xs ++ w ∷ []) ≡ suc (length xs)
        longer [] w = refl
        longer (x ∷ xs) w = ap suc (longer xs w)

-- ---- events

-- of each mini block that stands after, it stood before, with this body
abbrev pub Stays : Core → Core → Type 0
Stays c d = (r : Row) → In r d.rows → r.base ≡ false → (o : Row) × In o c.rows × (o.base ≡ false) × (o.at ≡ r.at) × (body_in d.code r ≡ body_in c.code o)

module _ (c : Core) (v : IsReached c) (fr : Fresh) (t : Tied c.code c.rows fr) where
  -- a word that leads on isn't in the body of a mini block
  link_out : (b o : Row) → In b c.rows → In o c.rows → o.base ≡ false → (link_at b < o.at) ⊎ (o.at + 4 * (o.len - 1) ≤ link_at b)
  link_out b o hb ho m = ⊎_elim
      (λ (i : b ≡ o). let e : link_at b ≡ o.at + 4 * (o.len - 1) = ap link_at i ∙ cond-false o.base (o.at + 4) (o.at + 4 * (o.len - 1)) m in inr (omega arith))
      (λ (i : Apart b.at b.len o.at o.len).
      let z = link_place c v b hb in let lo = z.0 in let hi = z.1 in
      ⊎_elim (λ j. inl (omega arith)) (λ j. inr (omega arith)) i)
      (rows_apart c v b o hb ho)

  text_out : (p : ℕ) (o : Row) → p + 4 ≤ tool_at c.program → In o c.rows → (p < o.at) ⊎ (o.at + 4 * (o.len - 1) ≤ p)
  text_out p o l h = let a = (row_place c v o h).0 in inl (omega arith)

  stays_insert : (a : ℕ) (k : MarkedWord) (f : Row → Status) → ((o : Row) → In o c.rows → o.base ≡ false → (a < o.at) ⊎ (o.at + 4 * (o.len - 1) ≤ a))
      → Stays c (record c { code = insert c.code a k; rows = map (with_status f) c.rows })
  stays_insert a k f g r h m =
      let o = in_map (with_status f) c.rows r h in
      let om : (o.0).base ≡ false = sym (ap (λ (u : Row). u.base) o.2) ∙ m in
      (o.0, o.1, om, sym (ap (λ (u : Row). u.at) o.2), ap (body_in (insert c.code a k)) o.2 ∙ body_other c.code a k o.0 (g o.0 o.1 om))

  low_point : (p : ℕ) (b : Row) → current_base (filter is_now c.rows) p ≡ Some b → (w : ℕ) × (program_word c.program p ≡ Some w) × (p + 4 ≤ tool_at c.program)
  low_point p b e =
      let k = base_of c v p b e in
      subst (λ q. (w : ℕ) × (program_word c.program q ≡ Some w) × (q + 4 ≤ tool_at c.program)) k.3 (point_low c v fr t b k.1 k.2)

  stays_base : (b : Block) → Good c.program (WriteBase b) → AwayFrom c v fr t (WriteBase b) → Stays c (after_event c (event_of c (WriteBase b)))
  stays_base b g away r h m = ⊎_elim
      (λ (i : In r c.rows). (r, i, m, refl, body_put c.code b.at b.words r (away r (block_row b true) i (inl refl))))
      (λ (i : r ≡ row_of b). absurd (true≢false (sym g.base ∙ (sym (ap (λ (u : Row). u.base) i) ∙ m))))
      (in_snoc c.rows (row_of b) r h)

  -- where no mini block is written
  pub stays_entry : (e : Entry) → Good c.program e → Ok (stage (filter is_now c.rows) fr) e → AwayFrom c v fr t e → ((b : Block) → e ≡ WriteMini b → ⊥) → Stays c (after_event c (event_of c e))
  stays_entry (WriteBase b) g k a n = stays_base b g a
  stays_entry (WriteMini b) g k a n = absurd (n b refl)
  stays_entry (LinkMini p m) g k a n =
      let w = subst (λ f. Ties.FreshOk c.code c.rows f) k t.fresh in
      subst (λ o. Stays c (mini_linked o m c)) (sym w.current)
      (stays_insert (link_at w.b) (tool (jump_word (link_at w.b) m)) (at_set m Live) (λ o ho b. link_out w.b o (current_in p w.b w.current) ho b))
    where
      current_in : (p : ℕ) (b : Row) → current_base c.rows p ≡ Some b → In b c.rows
      current_in p b e = (lists.find_gives (λ r. r.base && ((r.point == p) && is_current r.status)) c.rows b e).0
  stays_entry (LinkPoint p at) g k a n =
      let z = base_of c v p k.1 k.2 in
      subst (λ o. Stays c (point_linked o p c)) (sym z.0)
      (stays_insert p (enter (jump_word p (k.1).at)) (at_set (k.1).at Live) (λ o ho b. text_out p o (low_point p k.1 k.2).2 ho))
  stays_entry (UnlinkMini p m) g k a n =
      let u = found c v fr t p m k.1 k.2 k.3 k.4 k.5 k.6 k.0 in
      subst (λ o. Stays c (mini_unlinked o (row_at c.rows m) m c)) (sym u.2)
      (subst (λ o. Stays c (mini_unlinked (Some u.0) o m c)) (sym u.3)
      (stays_insert (link_at u.0) (tool (jump_word (link_at u.0) (next_of c.code u.1))) (at_set m Retired) (λ o ho b. link_out u.0 o u.4 ho b)))
  stays_entry (UnlinkPoint p at) g k a n =
      let z = low_point p k.1 k.2 in
      subst (λ o. Stays c (point_unlinked o p c)) (sym z.1) (stays_insert p (own z.0) (retired_at p) (λ o ho b. text_out p o z.2 ho))
  stays_entry (Free p) g k a n = λ r h m. let z = in_filter (is_kept p) c.rows r h in (r, z.0, m, refl, refl)

  -- where one is written, it has its body
  pub stays_mini : (b : Block) → GoodMini c.program b → AwayFrom c v fr t (WriteMini b) → (r : Row) → In r (after_event c (event_of c (WriteMini b))).rows → r.base ≡ false
      → ((r.at ≡ b.at) × (body_in (after_event c (event_of c (WriteMini b))).code r ≡ body_of_block b)) ⊎ ((o : Row) × In o c.rows × (o.base ≡ false) × (o.at ≡ r.at) × (body_in (after_event c (event_of c (WriteMini b))).code r ≡ body_in c.code o))
  stays_mini b g away r h m =
      let to = head_of c.code (current_base c.rows b.point) in
      let l = leading_len b (head_of c.code (current_base c.rows b.point)) g.some in
      let n = body_len b g.some in
      ⊎_elim
      (λ (i : In r c.rows). inr (
        r,
        i,
        m,
        refl,
        body_put c.code b.at (mini_words b.at (body_of_block b) (head_of c.code (current_base c.rows b.point))) r
            (subst (λ k. Apart r.at r.len b.at k) (sym l) (away r (block_row b false) i (inl refl))),
      ))
      (λ (i : r ≡ row_of (leading b (head_of c.code (current_base c.rows b.point)))). inl (
        ap (λ (u : Row). u.at) i,
        ap (body_in (put_words b.at (mini_words b.at (body_of_block b) (head_of c.code (current_base c.rows b.point))) c.code)) i
            ∙ body_new c.code b.point b.at (body_of_block b) (head_of c.code (current_base c.rows b.point)) (length (mini_words b.at (body_of_block b) (head_of c.code (current_base c.rows b.point))) - 1) (omega (arith, l, n)),
      ))
      (in_snoc c.rows (row_of (leading b (head_of c.code (current_base c.rows b.point)))) r h)
