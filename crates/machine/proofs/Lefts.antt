-- How many turns a hart inside has left at most, by where it stands: the words that lie before it.
use Rattle.std.proofs.Common.{◌≡◌, ℕ, ◌+◌, ◌-◌, ◌<◌, ◌≤◌, List, [], ◌∷◌, Option, Some, None, refl, ap, subst, arith, inl, inr}
use Rattle.std.proofs.lemmas.Grind.{common_steps}
use Rattle.std.specs.Prelude.{Bool, true, false, not, nat_lt, ◌&&◌, ◌==◌}
use Rattle.rv_word.specs.Plain.{Words, PlainHart}
use Rattle.tramp_spec.specs.Harts.{Hart}
use Rattle.machine.specs.Cores.{In, Status, Written, Live, Retired, is_written}
use Rattle.machine.proofs.Invariant.{Piece, Linked, BasePlace, HartOk, Dynamic}

-- a linked mini block of a base block, younger ones left out
abbrev pub is_ahead : ℕ → ℕ → Piece → Bool
is_ahead family n m = not m.row.base && (not (is_written m.row.status) && ((m.family == family) && nat_lt m.age n))

abbrev pub words_if : Bool → ℕ → ℕ
words_if true len = len
words_if false len = 0

-- the words of those
abbrev pub ahead : List Piece → ℕ → ℕ → ℕ
ahead [] family n = 0
ahead (m ∷ ps) family n = words_if (is_ahead family n m) m.row.len + ahead ps family n

abbrev pub left_at : {t : Words} {budget : ℕ} {x : Hart} {y : PlainHart} (ps : List Piece) (clock : ℕ) (b : Piece) → BasePlace t budget b x y → ℕ
left_at ps clock b (inl save) = b.row.len + ahead ps b.row.at clock
left_at ps clock b (inr (inl head)) = b.row.len - 1 + ahead ps b.row.at clock
left_at ps clock b (inr (inr (inl tail))) = b.row.len - 2
left_at ps clock b (inr (inr (inr (inl moved)))) = b.row.len - 3 - moved.j
left_at ps clock b (inr (inr (inr (inr leave)))) = b.row.len - 3 - leave.j

-- inside, and none outside
abbrev pub left : {t : Words} {budget : ℕ} {x : Hart} {y : PlainHart} (ps : List Piece) (clock : ℕ) → HartOk t budget ps x y → ℕ
left ps clock (inl o) = 0
left ps clock (inr (inl k)) = left_at ps clock k.b k.place
left ps clock (inr (inr k)) = (k.m).row.len - k.i + ahead ps (k.m).family (k.m).age + ((k.b).row.len - 2)

-- fewer than a bound, where there is one
abbrev pub Below : {t : Words} {budget : ℕ} {x : Hart} {y : PlainHart} (ps : List Piece) (clock : ℕ) → Option ℕ → HartOk t budget ps x y → Type 0
Below ps clock None k = Unit {0}
Below ps clock (Some n) (inl o) = Unit {0}
Below ps clock (Some n) (inr k) = left ps clock (inr k) < n

-- what is kept of a hart, with that bound
abbrev pub Soon : Words → ℕ → List Piece → ℕ → Option ℕ → Hart → PlainHart → Type 0
Soon t budget ps clock bound x y = (d : Dynamic t budget ps x y) × ((e : x.stop ≡ None) → Below ps clock bound (d.hart e))

-- ---- what lies ahead

at_one : (a n l : ℕ) (family : ℕ) (p : Piece) → a ≤ n → words_if (is_ahead family a p) l ≤ words_if (is_ahead family n p) l
at_one a n l family p h = grind (arith, common_steps)

none_ahead : (family : ℕ) (p : Piece) → is_ahead family p.age p ≡ false
none_ahead family p = grind (arith, common_steps)

some_ahead : (family n : ℕ) (p : Piece) → Linked p → p.family ≡ family → p.age < n → is_ahead family n p ≡ true
some_ahead family n p k e l = let b = k.mini in let w : is_written p.row.status ≡ false = unwritten p.row.status k.was in grind (arith, common_steps)
  where
    unwritten : (s : Status) → (s ≡ Written → ⊥) → is_written s ≡ false
    unwritten Written n = absurd (n refl)
    unwritten Live n = refl
    unwritten Retired n = refl

more_ahead : (ps : List Piece) (family a n : ℕ) → a ≤ n → ahead ps family a ≤ ahead ps family n
more_ahead [] family a n l = omega arith
more_ahead (p ∷ ps) family a n l = let h = at_one a n p.row.len family p l in let t = more_ahead ps family a n l in omega arith

-- a mini block that is reached is taken off
pub ahead_of : (ps : List Piece) (family n : ℕ) (m : Piece) → In m ps → Linked m → m.family ≡ family → m.age < n → m.row.len + ahead ps family m.age ≤ ahead ps family n
ahead_of [] family n m h k e l = absurd h
ahead_of (p ∷ ps) family n m (inl i) k e l =
    subst (λ q. m.row.len + ahead (q ∷ ps) family m.age ≤ ahead (q ∷ ps) family n) i
    (let off : words_if (is_ahead family m.age m) m.row.len ≡ 0 = ap (λ b. words_if b m.row.len) (none_ahead family m) in
    let on : words_if (is_ahead family n m) m.row.len ≡ m.row.len = ap (λ b. words_if b m.row.len) (some_ahead family n m k e l) in
    let t = more_ahead ps family m.age n (omega arith) in
    omega arith)
ahead_of (p ∷ ps) family n m (inr h) k e l =
    let t = ahead_of ps family n m h k e l in
    let o = at_one m.age n p.row.len family p (omega arith) in
    omega arith
