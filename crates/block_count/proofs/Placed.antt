-- The machine in which a counter was placed.
use Rattle.std.proofs.Common.{◌≡◌, ℕ, ◌+◌, ◌*◌, ◌%◌, ◌<◌, ◌≤◌, List, [], ◌∷◌, ◌++◌, length, Some, None, refl, sym, ap, ◌∙◌, arith, inl, inr}
use Rattle.std.specs.Prelude.{Bool, true, false, cond, find, map, ◌==◌, ◌&&◌}
use Rattle.std.specs.FinMap.{get, insert}
use Rattle.std.specs.Option.{option_or}
use Rattle.std.proofs.lemmas.Bool.{eq-eqb, ne_eqb}
use Rattle.std.proofs.lemmas.List.Folds.{find-append}
use Rattle.rv_word.specs.Plain.{Words, program_word}
use Rattle.tramp_spec.specs.Banks.{bank_len, first_slot}
use Rattle.tramp_spec.specs.Blocks.{moved_at}
use Rattle.tramp_spec.specs.Codes.{Code, put_words, tool_at}
use Rattle.tramp_spec.specs.Jumps.{jump_word}
use Rattle.tramp_spec.specs.Marks.{own, enter, tool}
use Rattle.tramp_spec.specs.MovedWords.{moved_of}
use Rattle.machine.specs.Cores.{In, Row, Status, Written, Live, Core, is_current}
use Rattle.machine.specs.Effects.{after_event, at_set, row_of, with_status, with_block, mini_linked, point_linked}
use Rattle.machine.specs.Events.{LinkMini, LinkPoint, current_base}
use Rattle.machine.specs.Replays.{replay}
use Rattle.block_count.specs.Counters.{Counter, base_of, end_of, mini_at, mini_of}
use Rattle.block_count.specs.Course.{placing}

-- ---- what a machine is before and after

abbrev pub base_row : Counter → Row
base_row k = record { point = k.point; at = k.at; len = length (base_of k).words; base = true; status = Live }

abbrev pub mini_row : Counter → Row
mini_row k = record { point = k.point; at = mini_at k; len = length (mini_of k).words; base = false; status = Live }

-- the blocks of a machine are live; their points lie before p, and they themselves before an address; the text from p on is as it was
pub record Ready (p at : ℕ) (c : Core) : Type 0 where
  pub live : (r : Row) → In r c.rows → r.status ≡ Live
  pub points : (r : Row) → In r c.rows → r.point < p
  pub ends : (r : Row) → In r c.rows → r.at + 4 * r.len ≤ at
  pub text : (q w : ℕ) → p ≤ q → program_word c.program q ≡ Some w → get c.code q ≡ Some (own w)

-- a counter can be the next: at a point from p on, and from that address of the tool text on
pub record Fits (p at : ℕ) (t : Words) (k : Counter) : Type 0 where
  pub here : p ≤ k.point
  pub there : k.at ≡ at
  pub aligned : k.at % 4 ≡ 0
  pub low : tool_at t ≤ k.at
  pub high : end_of k ≤ tool_at t + 393216
  pub word : ℕ
  pub is : program_word t k.point ≡ Some word
  pub moved : moved_of word k.point (moved_at k.at) ≡ Some k.moved
  pub least : first_slot ≤ k.slot
  pub most : k.slot < bank_len

-- ---- the blocks as they are written and linked

abbrev pub base_first : Counter → Row
base_first k = row_of (base_of k)

abbrev pub mini_first : Counter → Row
mini_first k = row_of (mini_of k)

abbrev pub code_written : Counter → Code → Code
code_written k code = put_words (mini_at k) (mini_of k).words (put_words k.at (base_of k).words code)

-- both are written
abbrev pub both : Counter → Core → Core
both k c = with_block (mini_of k) (with_block (base_of k) c)

abbrev pub code_chained : Counter → Code → Code
code_chained k code = insert (code_written k code) (k.at + 4) (tool (jump_word (k.at + 4) (mini_at k)))

-- the base leads to the mini block
abbrev pub chained : Counter → Core → Core
chained k c = record c { code = code_chained k c.code; rows = (c.rows ++ base_first k ∷ []) ++ mini_row k ∷ [] }

abbrev pub code_placed : Counter → Code → Code
code_placed k code = insert (code_chained k code) k.point (enter (jump_word k.point k.at))

-- the point leads to the base
abbrev pub placed : Counter → Core → Core
placed k c = record c { code = code_placed k c.code; rows = (c.rows ++ base_row k ∷ []) ++ mini_row k ∷ [] }

-- ---- lists of blocks

find_none : (q : Row → Bool) (rows : List Row) → ((r : Row) → In r rows → q r ≡ false) → find q rows ≡ None
find_none q [] none = refl
find_none q (r ∷ rows) none = ap (λ b. cond b (Some r) (find q rows)) (none r (inl refl)) ∙ find_none q rows (λ s h. none s (inr h))

abbrev is_base_at : ℕ → Row → Bool
is_base_at p r = r.base && ((r.point == p) && is_current r.status)

at_other_point : (p : ℕ) (r : Row) (b : Bool) → (r.point == p) ≡ false → (b && ((r.point == p) && is_current r.status)) ≡ false
at_other_point p r true e = ap (λ x. x && is_current r.status) e
at_other_point p r false e = refl

-- of live blocks none changes by being linked
link_live : (m : ℕ) (b : Bool) (r : Row) → r.status ≡ Live → with_status (λ s. cond b Live s.status) r ≡ r
link_live m true r e = ap (λ (s : Status). record r { status = s }) (sym e)
link_live m false r e = refl

link_rows : (m : ℕ) (rows : List Row) → ((r : Row) → In r rows → r.status ≡ Live) → map (with_status (at_set m Live)) rows ≡ rows
link_rows m [] live = refl
link_rows m (r ∷ rows) live =
    ap (λ x. x ∷ map (with_status (at_set m Live)) rows) (link_live m (r.at == m) r (live r (inl refl))) ∙ ap (λ xs. r ∷ xs) (link_rows m rows (λ s h. live s (inr h)))

map_two : (f : Row → Row) (rows : List Row) (x y : Row) → map f ((rows ++ x ∷ []) ++ y ∷ []) ≡ (map f rows ++ f x ∷ []) ++ f y ∷ []
map_two f [] x y = refl
map_two f (r ∷ rows) x y = ap (λ xs. f r ∷ xs) (map_two f rows x y)

module _ (p at : ℕ) (c : Core) (k : Counter) (r : Ready p at c) (f : Fits p at c.program k) where
  none_at : find (is_base_at k.point) c.rows ≡ None
  none_at = find_none (is_base_at k.point) c.rows (λ x h.
      let l = r.points x h in
      let m = f.here in
      at_other_point k.point x x.base (ne_eqb x.point k.point (λ e. omega arith)))

  -- the base block is the current one of its point, whatever the mini block's status is
  pub current : (s : Status) (m : Row) → is_current s ≡ true → current_base ((c.rows ++ (record (base_first k) { status = s }) ∷ []) ++ m ∷ []) k.point ≡ Some (record (base_first k) { status = s })
  current s m e =
      let q = is_base_at k.point in
      let b : Row = record (base_first k) { status = s } in
      let hit : q b ≡ true = ap (λ x. x && is_current s) (eq-eqb k.point k.point refl) ∙ e in
      find-append q (c.rows ++ b ∷ []) (m ∷ []) ∙ ap (λ o. option_or o (find q (m ∷ []))) (find-append q c.rows (b ∷ []) ∙ ap (λ o. option_or o (find q (b ∷ []))) none_at ∙ ap (λ x. cond x (Some b) None) hit)

  base_apart : (k.at == mini_at k) ≡ false
  base_apart = ne_eqb k.at (mini_at k) (λ e. omega arith)

  mini_apart : (mini_at k == k.at) ≡ false
  mini_apart = ne_eqb (mini_at k) k.at (λ e. omega arith)

  rows_chained : map (with_status (at_set (mini_at k) Live)) (both k c).rows ≡ (chained k c).rows
  rows_chained =
      map_two (with_status (at_set (mini_at k) Live)) c.rows (base_first k) (mini_first k)
      ∙ ap (λ xs. (xs ++ with_status (at_set (mini_at k) Live) (base_first k) ∷ []) ++ with_status (at_set (mini_at k) Live) (mini_first k) ∷ []) (link_rows (mini_at k) c.rows r.live)
      ∙ ap (λ b. (c.rows ++ record (base_first k) { status = cond b Live Written } ∷ []) ++ with_status (at_set (mini_at k) Live) (mini_first k) ∷ []) base_apart
      ∙ ap (λ b. (c.rows ++ base_first k ∷ []) ++ record (mini_first k) { status = cond b Live Written } ∷ []) (eq-eqb (mini_at k) (mini_at k) refl)

  pub chains : after_event (both k c) (LinkMini k.point (mini_at k)) ≡ chained k c
  chains =
      ap (λ o. mini_linked o (mini_at k) (both k c)) (current Written (mini_first k) refl)
      ∙ ap (λ rows. record (chained k c) { rows = rows }) rows_chained

  rows_placed : map (with_status (at_set k.at Live)) (chained k c).rows ≡ (placed k c).rows
  rows_placed =
      map_two (with_status (at_set k.at Live)) c.rows (base_first k) (mini_row k)
      ∙ ap (λ xs. (xs ++ with_status (at_set k.at Live) (base_first k) ∷ []) ++ with_status (at_set k.at Live) (mini_row k) ∷ []) (link_rows k.at c.rows r.live)
      ∙ ap (λ b. (c.rows ++ record (base_first k) { status = cond b Live Written } ∷ []) ++ with_status (at_set k.at Live) (mini_row k) ∷ []) (eq-eqb k.at k.at refl)
      ∙ ap (λ x. (c.rows ++ base_row k ∷ []) ++ x ∷ []) (link_live k.at (mini_at k == k.at) (mini_row k) refl)

  pub enters : after_event (chained k c) (LinkPoint k.point) ≡ placed k c
  enters =
      ap (λ o. point_linked o k.point (chained k c)) (current Written (mini_row k) refl)
      ∙ ap (λ rows. record (placed k c) { rows = rows }) rows_placed

  -- a counter was placed
  pub places : replay (placing k) c ≡ placed k c
  unfolding placing
  places = ap (λ d. after_event d (LinkPoint k.point)) chains ∙ enters
