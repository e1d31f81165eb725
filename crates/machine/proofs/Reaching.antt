-- What holds of every state that is reached.
use Rattle.std.proofs.Common.{◌≡◌, ℕ, ◌+◌, ◌-◌, ◌*◌, ◌%◌, ◌<◌, ◌≤◌, [], ◌∷◌, ◌++◌, refl, sym, ap, ◌∙◌, subst, arith}
use Rattle.std.specs.Prelude.{true}
use Rattle.std.proofs.lemmas.Bool.{and_from, lt-ltb, le-leb, eq-eqb}
use Rattle.pn_types.specs.declared.limits.TheConstants.{TOOL_TEXT_LEN}
use Rattle.rv_mem.specs.Start.{program_of}
use Rattle.rv_exec.specs.Run.{run_from}
use Rattle.rv_exec.specs.Start.{start}
use Rattle.rv_word.specs.Plain.{Words, Plain}
use Rattle.tramp_spec.specs.Codes.{is_tool_word, tool_at}
use Rattle.machine.specs.Cores.{In, Row, Core, start_core}
use Rattle.machine.specs.Events.{Event, May, link_at}
use Rattle.machine.specs.Effects.{after_event}
use Rattle.machine.specs.Places.{holds}
use Rattle.machine.specs.Links.{HasLink, IsInText}
use Rattle.machine.specs.Reached.{IsReached}
use Rattle.machine.specs.Replays.{replay, Legal, owns}
use Rattle.machine.proofs.Beginning.{begins}
use Rattle.machine.proofs.Blocks.{link_in}
use Rattle.machine.proofs.Homes.{covered, one_block, one_place, piece_of}
use Rattle.machine.proofs.Invariant.{Piece, the_row, Inv}
use Rattle.machine.proofs.Replaying.{legal-append, replay-append}
use Rattle.machine.proofs.Steps.{all_events, fixed}

-- what may happen now leads to such a state
pub reaches_more : (c : Core) (e : Event) → IsReached c → May c e → IsReached (after_event c e)
reaches_more c e r m =
    let first = start_core r.image r.many in
    let more = r.events ++ e ∷ [] in
    let budget : (after_event c e).budget ≡ c.budget = (fixed c e).1 in
    record {
      image = r.image;
      many = r.many;
      events = more;
      program = r.program;
      legal = subst (λ b. Legal more (first b)) (sym budget) (legal-append r.events (e ∷ []) (first c.budget) r.legal (subst (λ d. May d e) r.is m, tt));
      is = subst (λ b. after_event c e ≡ replay more (first b)) (sym budget) (ap (λ d. after_event d e) r.is ∙ sym (replay-append r.events (e ∷ []) (first c.budget)));
    }

-- what is kept at every event
pub good : (c : Core) → IsReached c → (s : Plain) × Inv c s
good c r =
    let first = start_core r.image r.many c.budget in
    let a = all_events r.events (program_of r.image) c.budget first (start r.image r.many) refl refl (begins r.image r.many c.budget r.program) r.legal in
    (run_from (program_of r.image) (owns r.events first) (start r.image r.many), subst (λ d. Inv d (run_from (program_of r.image) (owns r.events first) (start r.image r.many))) (sym r.is) a.1)

-- ---- places

-- blocks that share an address are one
pub one_row : (c : Core) (s : Plain) (v : Inv c s) (x y : Row) (a : ℕ) → In x c.rows → In y c.rows → holds x a ≡ true → holds y a ≡ true → x ≡ y
one_row c s v x y a hx hy ex ey = by (piece_of c.program c.code c.rows v.ps v.clock v.static x hx) (piece_of c.program c.code c.rows v.ps v.clock v.static y hy) (covered x a ex) (covered y a ey)
  where
    by : (p : Piece) × In p v.ps × (x ≡ p.row) → (q : Piece) × In q v.ps × (y ≡ q.row) → (x.at ≤ a) × (a < x.at + 4 * x.len) → (y.at ≤ a) × (a < y.at + 4 * y.len) → x ≡ y
    by p q u w =
        let lo = subst (λ (r : Row). r.at ≤ a) p.2 u.0 in
        let hi = subst (λ (r : Row). a < r.at + 4 * r.len) p.2 u.1 in
        let lo' = subst (λ (r : Row). r.at ≤ a) q.2 w.0 in
        let hi' = subst (λ (r : Row). a < r.at + 4 * r.len) q.2 w.1 in
        p.2 ∙ (ap the_row (one_place c.program c.code c.rows v.ps v.clock v.static p.0 q.0 a p.1 q.1 lo hi lo' hi') ∙ sym q.2)

-- so are blocks that begin at one address
pub one_at : (c : Core) → IsReached c → (x y : Row) → In x c.rows → In y c.rows → x.at ≡ y.at → x ≡ y
one_at c k x y hx hy e =
    let v = (good c k).1 in
    let p = piece_of c.program c.code c.rows v.ps v.clock v.static x hx in
    let q = piece_of c.program c.code c.rows v.ps v.clock v.static y hy in
    p.2 ∙ (ap the_row (one_block c.program c.code c.rows v.ps v.clock v.static p.0 q.0 p.1 q.1 (sym (ap (λ (r : Row). r.at) p.2) ∙ (e ∙ ap (λ (r : Row). r.at) q.2))) ∙ sym q.2)

tool_word : (t : Words) (at len a n : ℕ) → at % 4 ≡ 0 → tool_at t ≤ at → at + 4 * len ≤ tool_at t + TOOL_TEXT_LEN → a ≡ at + 4 * n → a + 4 ≤ at + 4 * len → is_tool_word t a ≡ true
tool_word t at len a n al lo hi e l =
    let low : tool_at t ≤ a = omega arith in
    let far : a - tool_at t < TOOL_TEXT_LEN = omega arith in
    let even : (a - tool_at t) % 4 ≡ 0 = omega arith in
    and_from _ _ (and_from _ _ (le-leb (tool_at t) a low) (lt-ltb _ _ far)) (eq-eqb _ _ even)

-- the blocks stand in tool text
pub within : (c : Core) → IsReached c → (r : Row) → In r c.rows → IsInText c.program r
within c k r h =
    let v = (good c k).1 in
    let q = piece_of c.program c.code c.rows v.ps v.clock v.static r h in
    subst (IsInText c.program) (sym q.2) (let p = v.static.places q.0 q.1 in record { aligned = p.aligned; low = p.low; high = p.high })

pub links : (c : Core) → IsReached c → (r : Row) → In r c.rows → HasLink c.program r
links c k r h =
    let v = (good c k).1 in
    let q = piece_of c.program c.code c.rows v.ps v.clock v.static r h in
    let p = v.static.places q.0 q.1 in
    let x = (q.0).row in
    let i = link_in c.program c.code x (q.0).body (q.0).next (v.static.shapes q.0 q.1) in
    let top = v.ground.high in
    let hi = p.high in
    let end = i.1 in
    subst (HasLink c.program) (sym q.2) (record { small = omega arith; word = tool_word c.program x.at x.len (link_at x) i.2.0 p.aligned p.low p.high i.2.1 i.1 })
