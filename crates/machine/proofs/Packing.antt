-- The blocks that aren't freed share no word, so they have no more words than the tool text.
use Rattle.std.proofs.Common.{◌≡◌, ℕ, zero, suc, ◌+◌, ◌-◌, ◌*◌, ◌≤◌, List, [], ◌∷◌, ◌++◌, length, Option, Some, None, refl, sym, ap, ◌∙◌, subst, arith, ⊎_elim, inl, inr}
use Rattle.std.specs.Prelude.{Bool, true, false, cond, map, filter, nat_le}
use Rattle.std.proofs.lemmas.Grind.{common_steps}
use Rattle.std.proofs.lemmas.List.{length-map}
use Rattle.pn_types.specs.declared.limits.TheConstants.{TOOL_TEXT_LEN}
use Rattle.rv_word.specs.Plain.{program_word}
use Rattle.tramp_spec.specs.Codes.{tool_at}
use Rattle.tramp_spec.specs.Harts.{Hart}
use Rattle.machine.specs.Cores.{In, Row, Status, Core, start_core}
use Rattle.machine.specs.Effects.{after_event, with_status, row_of, mini_linked, mini_unlinked, point_linked, point_unlinked, is_kept}
use Rattle.machine.specs.Events.{Event, Turn, Write, LinkMini, UnlinkMini, LinkPoint, UnlinkPoint, Free, Arm, Sample, May, Apart, current_base, row_at, before}
use Rattle.machine.specs.Reached.{IsReached}
use Rattle.machine.specs.Replays.{replay, Legal}
use Rattle.machine.specs.States.{words_in}
use Rattle.machine.specs.Turns.{turn_by}
use Rattle.machine.proofs.Homes.{piece_of}
use Rattle.machine.proofs.Invariant.{Placed}
use Rattle.machine.proofs.Lists.{in_map, in_filter, in_snoc}
use Rattle.machine.proofs.Reaching.{good}

abbrev pub AllApart : List Row → Type 0
AllApart [] = Unit {0}
AllApart (r ∷ rs) = ((q : Row) → In q rs → Apart r.at r.len q.at q.len) × AllApart rs

-- ---- at every event

apart_map : (f : Row → Status) (rs : List Row) → AllApart rs → AllApart (map (with_status f) rs)
apart_map f [] a = tt
apart_map f (r ∷ rs) a =
    (λ q h. let k = in_map (with_status f) rs q h in subst (λ (z : Row). Apart r.at r.len z.at z.len) (sym k.2) (a.0 k.0 k.1), apart_map f rs a.1)

apart_filter : (p : Row → Bool) (rs : List Row) → AllApart rs → AllApart (filter p rs)
apart_filter p [] a = tt
apart_filter p (r ∷ rs) a = by (p r) (apart_filter p rs a.1)
  where
    by : (b : Bool) → AllApart (filter p rs) → AllApart (cond b (r ∷ filter p rs) (filter p rs))
    by true rest = (λ q h. a.0 q (in_filter p rs q h).0, rest)
    by false rest = rest

apart_snoc : (rs : List Row) (r : Row) → AllApart rs → ((q : Row) → In q rs → Apart q.at q.len r.at r.len) → AllApart (rs ++ r ∷ [])
apart_snoc [] r a h = (λ q k. absurd k, tt)
apart_snoc (x ∷ xs) r a h =
    (λ q k. ⊎_elim (λ old. a.0 q old) (λ new. subst (λ (z : Row). Apart x.at x.len z.at z.len) (sym new) (h x (inl refl))) (in_snoc xs r q k), apart_snoc xs r a.1 (λ q k. h q (inr k)))

apart_turn : (o : Option Hart) (c : Core) (h : ℕ) → AllApart c.rows → AllApart (turn_by o c h).rows
apart_turn None c h a = a
apart_turn (Some x) c h a = a

apart_link : (o : Option Row) (m : ℕ) (c : Core) → AllApart c.rows → AllApart (mini_linked o m c).rows
apart_link None m c a = a
apart_link (Some b) m c a = apart_map _ c.rows a

apart_unlink : (o u : Option Row) (m : ℕ) (c : Core) → AllApart c.rows → AllApart (mini_unlinked o u m c).rows
apart_unlink None u m c a = a
apart_unlink (Some q) None m c a = a
apart_unlink (Some q) (Some r) m c a = apart_map _ c.rows a

apart_enter : (o : Option Row) (p : ℕ) (c : Core) → AllApart c.rows → AllApart (point_linked o p c).rows
apart_enter None p c a = a
apart_enter (Some b) p c a = apart_map _ c.rows a

apart_own : (o : Option ℕ) (p : ℕ) (c : Core) → AllApart c.rows → AllApart (point_unlinked o p c).rows
apart_own None p c a = a
apart_own (Some w) p c a = apart_map _ c.rows a

apart_after : (c : Core) (e : Event) → May c e → AllApart c.rows → AllApart (after_event c e).rows
apart_after c (Turn h) m a = apart_turn _ c h a
apart_after c (Write b) m a = apart_snoc c.rows (row_of b) a m.apart
apart_after c (LinkMini p at) m a = apart_link (current_base c.rows p) at c a
apart_after c (UnlinkMini p at) m a = apart_unlink (before c at) (row_at c.rows at) at c a
apart_after c (LinkPoint p) m a = apart_enter (current_base c.rows p) p c a
apart_after c (UnlinkPoint p) m a = apart_own (program_word c.program p) p c a
apart_after c (Free p) m a = apart_filter (is_kept p) c.rows a
apart_after c (Arm i) m a = a
apart_after c (Sample i) m a = a

apart_replay : (es : List Event) (c : Core) → Legal es c → AllApart c.rows → AllApart (replay es c).rows
apart_replay [] c l a = a
apart_replay (e ∷ es) c l a = apart_replay es (after_event c e) l.1 (apart_after c e l.0 a)

pub all_apart : (c : Core) → IsReached c → AllApart c.rows
all_apart c r = subst (λ (d : Core). AllApart d.rows) (sym r.is) (apart_replay r.events (start_core r.image r.many c.budget) r.legal tt)

-- ---- apart in a room of n words

-- a row that is moved down where it stands after another, by that one's length
abbrev shift : Row → Row → Row
shift r q = record q { at = cond (nat_le (r.at + 4 * r.len) q.at) (q.at - 4 * r.len) q.at }

words_shift : (r : Row) (rs : List Row) → words_in (map (shift r) rs) ≡ words_in rs
words_shift r [] = refl
words_shift r (q ∷ rs) = ap (λ n. q.len + n) (words_shift r rs)

abbrev Within : ℕ → ℕ → ℕ → ℕ → Type 0
Within lo n at len = (lo ≤ at) × (at + 4 * len ≤ lo + 4 * n)

shift_apart : (a l x m y n : ℕ) → Apart a l x m → Apart a l y n → Apart x m y n → Apart (cond (nat_le (a + 4 * l) x) (x - 4 * l) x) m (cond (nat_le (a + 4 * l) y) (y - 4 * l) y) n
shift_apart a l x m y n one other both = grind (arith, common_steps)

shift_within : (lo n a l x m : ℕ) → Within lo n a l → Apart a l x m → Within lo n x m → Within lo (n - l) (cond (nat_le (a + 4 * l) x) (x - 4 * l) x) m
shift_within lo n a l x m r away q = grind (arith, common_steps)

all_shift : (r : Row) (rs : List Row) → ((q : Row) → In q rs → Apart r.at r.len q.at q.len) → AllApart rs → AllApart (map (shift r) rs)
all_shift r [] away a = tt
all_shift r (x ∷ xs) away a = (
  λ q h. let k = in_map (shift r) xs q h in
      subst (λ (z : Row). Apart (shift r x).at x.len z.at z.len) (sym k.2) (shift_apart r.at r.len x.at x.len k.0.at k.0.len (away x (inl refl)) (away k.0 (inr k.1)) (a.0 k.0 k.1)),
  all_shift r xs (λ q h. away q (inr h)) a.1,
)

packs : (k lo n : ℕ) (rs : List Row) → length rs ≡ k → AllApart rs → ((r : Row) → In r rs → Within lo n r.at r.len) → words_in rs ≤ n
packs zero lo n [] e a w = omega arith
packs zero lo n (r ∷ rs) e a w = absurd (omega arith)
packs (suc k) lo n [] e a w = absurd (omega arith)
packs (suc k) lo n (r ∷ rs) e a w =
    let here : Within lo n r.at r.len = w r (inl refl) in
    let l = here.0 in
    let u = here.1 in
    let size : length (map (shift r) rs) ≡ k = length-map rs (shift r) ∙ (let s : length rs ≡ k = omega arith in s) in
    let rest = packs k lo (n - r.len) (map (shift r) rs) size (all_shift r rs a.0 a.1) (λ q h. let m = in_map (shift r) rs q h in subst (λ (z : Row). Within lo (n - r.len) z.at z.len) (sym m.2) (shift_within lo n r.at r.len m.0.at m.0.len here (a.0 m.0 m.1) (w m.0 (inr m.1)))) in
    let same = words_shift r rs in
    omega arith

-- the words of all blocks
pub few_words : (c : Core) → IsReached c → 4 * words_in c.rows ≤ TOOL_TEXT_LEN
few_words c r =
    let v = (good c r).1 in
    let within : (q : Row) → In q c.rows → Within (tool_at c.program) 98304 q.at q.len = λ q h. let p = piece_of c.program c.code c.rows v.ps v.clock v.static q h in let place = subst (λ (z : Row). Placed c.program z) (sym p.2) (v.static.places p.0 p.1) in (place.low, place.high) in
    let n = packs (length c.rows) (tool_at c.program) 98304 c.rows refl (all_apart c r) within in
    omega arith
