-- The blocks and the text of a state that is reached, by what is kept of them.
use Rattle.std.proofs.Common.{◌≡◌, ℕ, ◌+◌, ◌-◌, ◌*◌, ◌%◌, ◌<◌, ◌≤◌, List, [], ◌∷◌, Some, refl, sym, ap, ◌∙◌, subst, arith, ⊎_elim, inl, inr}
use Rattle.std.specs.Prelude.{true, false, ◌⊎◌}
use Rattle.std.proofs.lemmas.Bool.{cases_Bool, cond-true, cond-false, and_from, eq-eqb}
use Rattle.rv_word.specs.Plain.{program_word}
use Rattle.tramp_spec.specs.Blocks.{tail_of}
use Rattle.tramp_spec.specs.Codes.{tool_at}
use Rattle.machine.specs.Cores.{In, Row, Written, Live, Core, is_live, start_core}
use Rattle.machine.specs.Events.{is_linked, is_before, before, link_at, next_of}
use Rattle.machine.specs.Kept.{WasLinked, Linkings, linkings, no_linkings, Way, IsInvariant}
use Rattle.machine.specs.Reached.{IsReached}
use Rattle.machine.proofs.Beginning.{ground}
use Rattle.machine.proofs.Effects.{program_stays}
use Rattle.machine.proofs.Keeping.{keeps}
use Rattle.machine.proofs.Lists.{find_gives, find_finds}

-- ---- states that are reached

abbrev pub linkings_to : (c : Core) → IsReached c → Linkings
linkings_to c r = linkings r.events (start_core r.image r.many c.budget) no_linkings

pub kept_there : (c : Core) (r : IsReached c) → IsInvariant (linkings_to c r) c
kept_there c r = subst (IsInvariant (linkings_to c r)) (sym r.is) (keeps r.image r.many c.budget r.events r.program r.legal)

-- the tool text begins at the heap's first address at the latest
pub tool_high : (c : Core) (r : IsReached c) → tool_at c.program ≤ 0x60000000
tool_high c r =
    let first = start_core r.image r.many c.budget in
    let same : c.program ≡ first.program = ap (λ (d : Core). d.program) r.is ∙ program_stays r.events first in
    let high = (ground r.image r.program).high in
    subst (λ t. tool_at t ≤ 0x60000000) (sym same) (let z : tool_at first.program ≤ 0x60000000 = omega arith in z)

-- ---- the rows

pub was_linked : (r : Row) → r.status ≡ Live → WasLinked r
was_linked r live e = let z : Live ≡ Written = sym live ∙ e in absurd cc

-- a live mini block leads on
pub live_leads : (r : Row) → r.base ≡ false → r.status ≡ Live → is_linked r ≡ true
live_leads r mini live = cond-false r.base _ _ mini ∙ ap is_live live

module _ (l : Linkings) (c : Core) (k : IsInvariant l c) where
  pub has_len : (r : Row) → In r c.rows → 0 < r.len
  has_len r h = ⊎_elim
      (λ (e : r.base ≡ true). let n = ((k.blocks r h).base e).len in omega arith)
      (λ (e : r.base ≡ false). let n = ((k.blocks r h).mini e).len in omega arith)
      (cases_Bool r.base)

  -- blocks that begin at one address are one
  pub row_there : (x y : Row) → In x c.rows → In y c.rows → x.at ≡ y.at → x ≡ y
  row_there x y hx hy e = ⊎_elim (λ i. i)
      (λ i. let a = has_len x hx in let b = has_len y hy in absurd (⊎_elim (λ lo. omega arith) (λ hi. omega arith) i))
      (k.apart x y hx hy)

  -- the word that leads on stands in the block
  pub link_inside : (r : Row) → In r c.rows → (r.at ≤ link_at r) × (link_at r + 4 ≤ r.at + 4 * r.len)
  link_inside r h = ⊎_elim
      (λ (e : r.base ≡ true). let n = ((k.blocks r h).base e).len in let at : link_at r ≡ r.at + 4 = cond-true r.base _ _ e in (omega arith, omega arith))
      (λ (e : r.base ≡ false). let n = ((k.blocks r h).mini e).len in let at : link_at r ≡ r.at + 4 * (r.len - 1) = cond-false r.base _ _ e in (omega arith, omega arith))
      (cases_Bool r.base)

  -- the program has a word at a base block's point
  pub word_of_point : (b : Row) → In b c.rows → b.base ≡ true → (w : ℕ) × (program_word c.program b.point ≡ Some w)
  word_of_point b h e = let s = (k.blocks b h).base e in (s.word, s.here)

  -- ---- ways

  -- a way begins where it ends, or at a block
  way_begins : (from to : ℕ) (rs : List Row) → Way c.code from rs to → ((r : Row) → In r rs → In r c.rows) → (from ≡ to) ⊎ ((r : Row) × In r c.rows × (r.at ≡ from))
  way_begins from to [] w f = inl w
  way_begins from to (r ∷ rs) w f = inr (r, f r (inl refl), w.0)

  -- the head of a base block leads to its tail or to a block of the tool text
  pub head_inside : (b : Row) → In b c.rows → b.base ≡ true → (next_of c.code b % 4 ≡ 0) × (tool_at c.program ≤ next_of c.code b) × (next_of c.code b ≤ tool_at c.program + 393216)
  head_inside b h e =
      let d = k.heads b h e in
      let s = k.blocks b h in
      let n = (s.base e).len in
      let al = s.aligned in
      let lo = s.low in
      let hi = s.high in
      ⊎_elim
      (λ (i : next_of c.code b ≡ tail_of b.at). (omega arith, omega arith, omega arith))
      (λ (i : (r : Row) × In r c.rows × (r.at ≡ next_of c.code b)).
      let q = k.blocks i.0 i.1 in
      let qa = q.aligned in
      let ql = q.low in
      let qh = q.high in
      let at = i.2 in (omega arith, omega arith, omega arith))
      (way_begins (next_of c.code b) (tail_of b.at) d.through d.way (λ r j. (d.under r j).0))

  abbrev LivesOn : List Row → Type 0
  LivesOn rs = (r : Row) → In r rs → In r c.rows × (r.base ≡ false) × (r.status ≡ Live)

  -- a block that leads on leads to each block of a way of live ones, or another of them does
  leads_along : (to : ℕ) (rs : List Row) (b : Row) → In b c.rows → is_linked b ≡ true → Way c.code (next_of c.code b) rs to → LivesOn rs
      → (r : Row) → In r rs → (h : Row) × In h c.rows × (is_linked h ≡ true) × (next_of c.code h ≡ r.at)
  leads_along to [] b h e w f r j = absurd j
  leads_along to (x ∷ xs) b h e w f r (inl j) = (b, h, e, sym w.0 ∙ ap (λ (u : Row). u.at) (sym j))
  leads_along to (x ∷ xs) b h e w f r (inr j) =
      let q = f x (inl refl) in
      leads_along to xs x q.0 (live_leads x q.1 q.2) w.1 (λ y i. f y (inr i)) r j

  -- a linked block leads to each live mini block
  pub is_led_to : (r : Row) → In r c.rows → r.base ≡ false → r.status ≡ Live → (h : Row) × (before c r.at ≡ Some h) × In h c.rows
  is_led_to r hr mini live =
      let was = was_linked r live in
      let f = k.families r hr mini was in
      let b = f.1 in
      let d = k.heads f.0 b.listed b.base in
      let on = b.current live in
      let n = (k.numbers r hr mini was).1 in
      let there = d.whole r hr (record { mini = mini; linked = was; under = b.under }) live (let z : l.number r.at < l.count + 1 = omega arith in z) in
      let g = leads_along (tail_of (f.0).at) d.through f.0 b.listed (cond-true (f.0).base _ _ b.base ∙ on) d.way (λ x i. let u = d.under x i in (u.0, (u.1).mini, d.alive on x i)) r there in
      let o = find_finds (is_before c.code r.at) c.rows g.0 g.1 (and_from _ _ g.2 (eq-eqb _ _ g.3)) in
      (o.0, o.1, (find_gives (is_before c.code r.at) c.rows o.0 o.1).0)
