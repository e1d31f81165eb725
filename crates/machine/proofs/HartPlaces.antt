-- Where the harts of a state stand to which some legal list of events leads.
use Rattle.std.proofs.Common.{◌≡◌, ℕ, ◌+◌, ◌*◌, ◌%◌, ◌<◌, ◌≤◌, List, [], ◌∷◌, Option, Some, None, refl, sym, ap, ◌∙◌, subst, arith, inl, inr}
use Rattle.std.specs.Prelude.{Bool, true, false, cond, IsTrue, slice_get, nat_lt, is_none}
use Rattle.std.specs.FinMap.{get}
use Rattle.std.specs.Option.{option_map}
use Rattle.std.proofs.lemmas.Bool.{true≢false, and_parts, ltb-true}
use Rattle.std.proofs.lemmas.Grind.{common_steps}
use Rattle.pn_types.specs.declared.limits.TheConstants.{TOOL_TEXT_LEN}
use Rattle.rv_word.specs.Plain.{Words, PlainHart, Plain, may_go}
use Rattle.rv_word.specs.declared.outcome.Cause.{Cause}
use Rattle.rv_exec.specs.Run.{LegalFrom}
use Rattle.code_store.specs.Owners.{Owners}
use Rattle.tramp_spec.specs.Codes.{Code, is_word_of, is_tool_word, tool_at}
use Rattle.tramp_spec.specs.Harts.{Hart}
use Rattle.machine.specs.Cores.{In, Row, Core}
use Rattle.machine.specs.Events.{Turn}
use Rattle.machine.specs.Places.{block_at, home_in, program_pc}
use Rattle.machine.specs.Performing.{home_from, home_in_store}
use Rattle.machine.specs.Reached.{IsReached, AreOwners, owner_by}
use Rattle.machine.specs.Turns.{is_runnable, ticks_next}
use Rattle.machine.proofs.Homes.{block_is, one_place, piece_of, row_in}
use Rattle.machine.proofs.Invariant.{Piece, BasePlace, Static, HartOk, Dynamic, Inv}
use Rattle.machine.proofs.Lists.{find_gives, find_finds}
use Rattle.machine.proofs.Reaching.{good}
use Rattle.machine.proofs.Standing.{in_base, in_mini}
use Rattle.machine.proofs.Steps.{step, within}

-- ---- a hart that is inside stands at a word of a block

-- a row of the list, of which this is the address of a word
pub record StandsAt (c : Core) (a : ℕ) : Type 0 where
  pub row : Row
  pub listed : In row c.rows
  pub low : row.at ≤ a
  pub high : a < row.at + 4 * row.len
  pub aligned : row.at % 4 ≡ 0
  pub word : a % 4 ≡ 0
  pub block : block_at c.rows a ≡ Some row
  pub in_tool : is_tool_word c.program a ≡ true
  pub owned : owner_by c.rows a ≡ Some row.point

tool_word : (tool len at n a : ℕ) → tool % 4 ≡ 0 → a % 4 ≡ 0 → tool ≤ at → at + 4 * n ≤ tool + len → at ≤ a → a < at + 4 * n → is_word_of tool len a ≡ true
tool_word tool len at n a tool4 a4 lo hi from to = grind (arith, common_steps)

tool_aligned : (t : Words) → tool_at t % 4 ≡ 0
tool_aligned t = grind arith

word_in : (at n a : ℕ) → at % 4 ≡ 0 → a % 4 ≡ 0 → at ≤ a → a < at + 4 * n → is_word_of at (4 * n) a ≡ true
word_in at n a at4 a4 lo hi = grind (arith, common_steps)

word_parts : (at n a : ℕ) → is_word_of at (4 * n) a ≡ true → (at ≤ a) × (a < at + 4 * n)
word_parts at n a e = (grind (arith, common_steps), grind (arith, common_steps))

module _ (t : Words) (code : Code) (rows : List Row) (ps : List Piece) (clock : ℕ) (st : Static t code rows ps clock) where
  owner_is : (p : Piece) (a : ℕ) → In p ps → p.row.at % 4 ≡ 0 → a % 4 ≡ 0 → p.row.at ≤ a → a < p.row.at + 4 * p.row.len → owner_by rows a ≡ Some p.row.point
  owner_is p a h at4 a4 lo hi =
      let f = find_finds (λ r. is_word_of r.at (4 * r.len) a) rows p.row (row_in t code rows ps clock st p h) (word_in p.row.at p.row.len a at4 a4 lo hi) in
      let g = find_gives (λ r. is_word_of r.at (4 * r.len) a) rows f.0 f.1 in
      let q = piece_of t code rows ps clock st f.0 g.0 in
      let k = word_parts f.0.at f.0.len a g.1 in
      let lo' : (q.0).row.at ≤ a = subst (λ (r : Row). r.at ≤ a) q.2 k.0 in
      let hi' : a < (q.0).row.at + 4 * (q.0).row.len = subst (λ (r : Row). a < r.at + 4 * r.len) q.2 k.1 in
      let same : q.0 ≡ p = one_place t code rows ps clock st q.0 p a q.1 h lo' hi' lo hi in
      ap (λ o. option_map (λ (r : Row). r.point) o) f.1 ∙ ap (λ (r : Row). Some r.point) (q.2 ∙ ap (λ (z : Piece). z.row) same)

base_word : (t : Words) (budget : ℕ) (b : Piece) (x : Hart) (y : PlainHart) → b.row.at % 4 ≡ 0 → BasePlace t budget b x y → x.pc % 4 ≡ 0
base_word t budget b x y a (inl k) = let e = k.pc in omega arith
base_word t budget b x y a (inr (inl k)) = let e = k.pc in omega arith
base_word t budget b x y a (inr (inr (inl k))) = let e = k.pc in omega arith
base_word t budget b x y a (inr (inr (inr (inl k)))) = let e = k.pc in omega arith
base_word t budget b x y a (inr (inr (inr (inr k)))) = let e = k.pc in omega arith

module _ (c : Core) (s : Plain) (v : Inv c s) where
  stands_in : (p : Piece) (a : ℕ) → In p v.ps → a % 4 ≡ 0 → p.row.at ≤ a → a < p.row.at + 4 * p.row.len → StandsAt c a
  stands_in p a h a4 lo hi =
      let place = v.static.places p h in
      record {
        row = p.row;
        listed = row_in c.program c.code c.rows v.ps v.clock v.static p h;
        low = lo;
        high = hi;
        aligned = place.aligned;
        word = a4;
        block = block_is c.program c.code c.rows v.ps v.clock v.static p a h lo hi;
        in_tool = tool_word (tool_at c.program) TOOL_TEXT_LEN p.row.at p.row.len a (tool_aligned c.program) a4 place.low place.high lo hi;
        owned = owner_is c.program c.code c.rows v.ps v.clock v.static p a h place.aligned a4 lo hi;
      }

  stands_by : (x : Hart) (y : PlainHart) → x.inside ≡ true → HartOk c.program c.budget v.ps x y → StandsAt c x.pc
  stands_by x y i (inl o) = absurd (true≢false (sym i ∙ o.outside))
  stands_by x y i (inr (inl k)) =
      let r = in_base c.program c.budget c.code c.rows v.ps v.clock v.static x y k in
      stands_in k.b x.pc k.is_in (base_word c.program c.budget k.b x y (v.static.places k.b k.is_in).aligned k.place) r.0 r.1
  stands_by x y i (inr (inr k)) =
      let r = in_mini c.program c.budget c.code c.rows v.ps v.clock v.static x y k in
      let a = (v.static.places k.m k.is_in).aligned in
      let e = k.pc in
      stands_in k.m x.pc k.is_in (omega arith) r.0 r.1

  stands_hart : (x : Hart) (y : PlainHart) → Dynamic c.program c.budget v.ps x y → x.inside ≡ true → (o : Option Cause) → x.stop ≡ o → StandsAt c x.pc
  stands_hart x y d i None e = stands_by x y i (d.hart e)
  stands_hart x y d i (Some cause) e = absurd (true≢false (sym i ∙ (d.down cause e).0))

pub stands : (c : Core) → IsReached c → (h : ℕ) (x : Hart) → slice_get c.harts h ≡ Some x → x.inside ≡ true → StandsAt c x.pc
stands c r h x e i =
    let g = good c r in
    let v = g.1 in
    let q = within c.harts (g.0).harts h x v.many e in
    stands_hart c g.0 v x q.0 (v.harts h x q.0 e q.1) i x.stop refl

-- ---- its home, by the owner of the word

pub home_is : (c : Core) (owners : Owners) → IsReached c → AreOwners owners c.rows → (h : ℕ) (x : Hart) → slice_get c.harts h ≡ Some x → home_in_store (record { program = c.program; code = c.code; owners = owners }) x.pc x.inside ≡ program_pc c.code c.rows x
home_is c owners r o h x e = by x.inside refl
  where
    by : (b : Bool) → x.inside ≡ b → cond b (home_from (get owners x.pc) (get c.code x.pc) x.pc) x.pc ≡ cond b (home_in (block_at c.rows x.pc) c.code x.pc) x.pc
    by false i = refl
    by true i =
        let k = stands c r h x e i in
        ap (λ p. home_from p (get c.code x.pc) x.pc) (o x.pc ∙ k.owned) ∙ sym (ap (λ b. home_in b c.code x.pc) k.block)

-- ---- a tick is below the budget

pub below_budget : (c : Core) → IsReached c → (h : ℕ) (x : Hart) → slice_get c.harts h ≡ Some x → IsTrue (is_runnable c h) → ticks_next c h ≡ true → x.ticks < c.budget
below_budget c r h x e may tick =
    let g = good c r in
    let s = g.0 in
    let v = g.1 in
    let q = within c.harts s.harts h x v.many e in
    let d = v.harts h x q.0 e q.1 in
    let legal : LegalFrom c.program c.budget (h ∷ []) s = subst (λ b. LegalFrom c.program c.budget (cond b (h ∷ []) []) s) tick (step c s (Turn h) v may).0 in
    let goes : IsTrue (may_go (Some q.0) c.budget) = subst (λ o. IsTrue (may_go o c.budget)) q.1 legal.0 in
    let below : q.0.ticks < c.budget = ltb-true q.0.ticks c.budget (and_parts (is_none q.0.stop) (nat_lt q.0.ticks c.budget) goes).1 in
    subst (λ n. n < c.budget) (sym d.ticks) below
