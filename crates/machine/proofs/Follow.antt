-- How the blocks after an event follow from those before it.
use Rattle.std.proofs.Common.{◌≡◌, ℕ, ◌+◌, ◌<◌, List, Some, refl, sym, subst, inl}
use Rattle.std.specs.Prelude.{map, ◌⊎◌}
use Rattle.std.specs.FinMap.{get}
use Rattle.rv_word.specs.Plain.{Plain, program_word}
use Rattle.tramp_spec.specs.Codes.{Code}
use Rattle.machine.specs.Cores.{In, Row, Status, Written, Core}
use Rattle.machine.specs.Effects.{with_status}
use Rattle.machine.specs.Kept.{Linkings}
use Rattle.machine.proofs.Lists.{in_map, map_in}
use Rattle.machine.proofs.Invariant.{Piece, Linked, Static, Inv}
use Rattle.machine.proofs.Blocks.{rework, dynamic_kept}

-- y is what became of x
pub record Image (f : Row → Status) (x y : Piece) : Type 0 where
  pub at : y.row.at ≡ x.row.at
  pub point : y.row.point ≡ x.row.point
  pub base : y.row.base ≡ x.row.base
  pub body : y.body ≡ x.body
  pub status : y.row.status ≡ f x.row
  pub was : (x.row.status ≡ Written → ⊥) → y.row.status ≡ Written → ⊥
  pub family : Linked x → y.family ≡ x.family
  pub age : Linked x → y.age ≡ x.age

pub record Follows (keep fresh : Piece → Type 0) (f : Row → Status) (ps qs : List Piece) : Type 0 where
  pub on : (x : Piece) → In x ps → keep x → (y : Piece) × In y qs × Image f x y
  pub back : (y : Piece) → In y qs → ((x : Piece) × In x ps × Image f x y) ⊎ (fresh y × (Linked y → ⊥))

-- the ages and families of linked mini blocks are told by the linkings so far, of which the clock is one ahead
abbrev pub Numbers : Linkings → List Piece → ℕ → Type 0
Numbers l ps clock = (clock ≡ l.count + 1) × ((x : Piece) → In x ps → Linked x → (x.age ≡ l.number x.row.at) × (x.family ≡ l.under x.row.at))

-- no linking more
abbrev pub NoMore : Linkings → Linkings
NoMore l = l

-- what is kept, how the blocks follow, that the harts and the words of the text stay but at some addresses, and what linkings there
-- are afterwards
pub record Kept (keep fresh : Piece → Type 0) (f : Row → Status) (but : ℕ → Type 0) (more : Linkings → Linkings) (clock : ℕ) (ps : List Piece) (c d : Core) (s : Plain) : Type 0 where
  pub inv : Inv d s
  pub numbers : (l : Linkings) → Numbers l ps clock → Numbers (more l) inv.ps inv.clock
  pub follows : Follows keep fresh f ps inv.ps
  pub words : (a w : ℕ) → program_word c.program a ≡ Some w → (but a → ⊥) → get d.code a ≡ get c.code a
  pub program : d.program ≡ c.program
  pub budget : d.budget ≡ c.budget
  pub harts : d.harts ≡ c.harts
  pub prog : d.prog ≡ c.prog

abbrev pub All : Piece → Type 0
All x = Unit {0}

abbrev pub NoPiece : Piece → Type 0
NoPiece x = ⊥

abbrev pub Nowhere : ℕ → Type 0
Nowhere a = ⊥

pub follows_rework : (ps : List Piece) (f : Row → Status) (n fam age : Piece → ℕ)
    → ((x : Piece) → In x ps → (x.row.status ≡ Written → ⊥) → f x.row ≡ Written → ⊥)
    → ((x : Piece) → In x ps → Linked x → fam x ≡ x.family) → ((x : Piece) → In x ps → Linked x → age x ≡ x.age)
    → Follows All NoPiece f ps (map (rework f n fam age) ps)
follows_rework ps f n fam age up fa ag =
    record {
      on = λ x h k. (rework f n fam age x, map_in (rework f n fam age) ps x h, image x h);
      back = λ y h. let r = in_map (rework f n fam age) ps y h in inl (r.0, r.1, subst (Image f r.0) (sym r.2) (image r.0 r.1));
    }
  where
    image : (x : Piece) → In x ps → Image f x (rework f n fam age x)
    image x h = record { at = refl; point = refl; base = refl; body = refl; status = refl; was = up x h; family = fa x h; age = ag x h }

-- where no family or age changes
pub still : (ps : List Piece) (f : Row → Status) (n : Piece → ℕ) (clock : ℕ) → ((x : Piece) → In x ps → Linked (rework f n (λ q. q.family) (λ q. q.age) x) → Linked x) → (l : Linkings) → Numbers l ps clock → Numbers l (map (rework f n (λ q. q.family) (λ q. q.age)) ps) clock
still ps f n clock back l k = (
  k.0,
  λ y h ly.
      let r = in_map (rework f n (λ q. q.family) (λ q. q.age)) ps y h in
      let o = k.1 r.0 r.1 (back r.0 r.1 (subst Linked r.2 ly)) in
      subst (λ (z : Piece). (z.age ≡ l.number z.row.at) × (z.family ≡ l.under z.row.at)) (sym r.2) o,
)

-- an event that changes words and statuses alone
pub reworked : (c : Core) (s : Plain) (v : Inv c s) (f : Row → Status) (n fam age : Piece → ℕ) (but : ℕ → Type 0) (more : Linkings → Linkings) (code : Code) (clock : ℕ) → 0 < clock
    → Static c.program code (map (with_status f) c.rows) (map (rework f n fam age) v.ps) clock
    → ((x : Piece) → In x v.ps → (x.row.status ≡ Written → ⊥) → f x.row ≡ Written → ⊥)
    → ((x : Piece) → In x v.ps → Linked x → fam x ≡ x.family) → ((x : Piece) → In x v.ps → Linked x → age x ≡ x.age)
    → ((a w : ℕ) → program_word c.program a ≡ Some w → (but a → ⊥) → get code a ≡ get c.code a)
    → ((l : Linkings) → Numbers l v.ps v.clock → Numbers (more l) (map (rework f n fam age) v.ps) clock)
    → Kept All NoPiece f but more v.clock v.ps c (record c { code = code; rows = map (with_status f) c.rows }) s
reworked c s v f n fam age but more code clock some st up fa ag words numbers =
    record {
      inv = record {
        ground = v.ground;
        ps = map (rework f n fam age) v.ps;
        clock = clock;
        some = some;
        static = st;
        prog = v.prog;
        many = v.many;
        harts = λ h x y ex ey. dynamic_kept v.ps f n fam age c.program c.budget x y up fa (v.harts h x y ex ey);
      };
      numbers = numbers;
      follows = follows_rework v.ps f n fam age up fa ag;
      words = words;
      program = refl;
      budget = refl;
      harts = refl;
      prog = refl;
    }
