-- What is kept of an instrument in force: its mini blocks, and what the banks of the harts tell.
use Rattle.std.proofs.Common.{◌≡◌, ℕ, zero, suc, ◌+◌, ◌-◌, ◌*◌, ◌/◌, ◌<◌, ◌≤◌, List, length, Some, None, refl, ap, ◌∙◌, arith, inl, inr}
use Rattle.std.specs.Prelude.{false, ◌⊎◌}
use Rattle.std.proofs.lemmas.Option.{slice_get_past}
use Rattle.pn_types.specs.declared.placed.Placed.{Placed}
use Rattle.pn_types.specs.declared.placed.PlacedSite.{PlacedSite}
use Rattle.pn_types.specs.declared.plan.Plan.{Plan}
use Rattle.pn_types.specs.declared.plan.Site.{Site}
use Rattle.rv_word.specs.Plain.{Words, PlainHart}
use Rattle.rv_word.specs.Registers.{arguments_of}
use Rattle.tramp_spec.specs.Banks.{bank_len}
use Rattle.tramp_spec.specs.Bodies.{Leap, finish, at_word, if_stood}
use Rattle.tramp_spec.specs.Harts.{Hart, bench_of}
use Rattle.tramp_spec.specs.Slots.{places_of, ArePlaces}
use Rattle.tramp_spec.specs.Statements.{body_of}
use Rattle.tramp_spec.specs.Steps.{Bench, step_on}
use Rattle.tramp_spec.specs.declared.mark.MarkedWord.{MarkedWord}
use Rattle.prim_code.specs.Fitting.{AreStmtsOf}
use Rattle.machine.specs.Cores.{In, Live}
use Rattle.machine.specs.Instruments.{IsMiniOf, Spares}
use Rattle.machine.specs.Measures.{Level, site_values, site_at}
use Rattle.machine.proofs.Invariant.{Piece, Linked, HasFamily, BasePlace, InBase, InMini}
use Rattle.machine.proofs.Told.{Stand, Stood}

-- ---- the end of a body

pub finish_end : (f : ℕ) (body : List MarkedWord) (at i : ℕ) (x : Bench) (ticks : ℕ) → i ≡ length body → finish f body at i x ticks ≡ x.bank
finish_end zero body at i x ticks e = refl
finish_end (suc f) body at i x ticks e =
    ap (λ o. at_word o x.bank (λ w. if_stood (step_on bank_len w ticks (at + 4 * i) x) x.bank (λ t. finish f body at ((t.pc - at) / 4) t.bench ticks))) (slice_get_past body i (omega arith))

pub finish_leap : (f : ℕ) (body : List MarkedWord) (at i j : ℕ) (x y : Bench) (ticks : ℕ) → Leap body at ticks i x j y → finish (suc f) body at i x ticks ≡ finish f body at j y ticks
finish_leap f body at i j x y ticks l =
    let e : (at + 4 * j - at) / 4 ≡ j = omega arith in
    ap (λ o. at_word o x.bank (λ w. if_stood (step_on bank_len w ticks (at + 4 * i) x) x.bank (λ t. finish f body at ((t.pc - at) / 4) t.bench ticks))) l.here
    ∙ (ap (λ o. if_stood o x.bank (λ t. finish f body at ((t.pc - at) / 4) t.bench ticks)) l.step ∙ ap (λ m. finish f body at m y ticks) e)

-- the bank at the end of the body in which a hart stands
abbrev pub end_of : {budget : ℕ} {ps : List Piece} {x : Hart} {y : PlainHart} → InMini budget ps x y → List ℕ
end_of {x = x} k = finish k.f (k.m).body (k.m).row.at k.i (bench_of x) x.ticks

-- ---- the instrument and its plan

-- after the statements of the program's pc
abbrev pub acted : Plan → PlainHart → Level → Level
acted plan y v = record { values = site_values (site_at plan y.pc) (arguments_of y.regs) v.values; runs = v.runs }

-- what holds of an instrument that carries a plan, whatever happens
pub record Fits (i : Placed) (plan : Plan) : Type 0 where
  pub many : length i.slots ≡ length i.vars
  pub places : ArePlaces (places_of i)
  pub few : (p : ℕ) (q : Site) → site_at plan p ≡ Some q → length q.stmts ≤ 32
  pub stmts : (p : ℕ) (q : Site) → site_at plan p ≡ Some q → AreStmtsOf i.vars q.stmts
  pub sites : (p : ℕ) → (site_at plan p ≡ None) ⊎ ((s : PlacedSite) × In s i.sites × (s.at ≡ p))
  pub one : (s r : PlacedSite) → In s i.sites → In r i.sites → s.at ≡ r.at → s ≡ r

-- The families and the ages of its mini blocks, by their addresses, stay what they were where it was armed.
module _ (i : Placed) (plan : Plan) (families ages : ℕ → ℕ) where
  -- its mini block of a site
  pub record Mine (ps : List Piece) (s : PlacedSite) : Type 0 where
    pub x : Piece
    pub is_in : In x ps
    pub at : x.row.at ≡ s.mini
    pub point : x.row.point ≡ s.at
    pub linked : Linked x
    pub live : x.row.status ≡ Live
    pub family : x.family ≡ families s.mini
    pub age : x.age ≡ ages s.mini
    pub site : Site
    pub found : site_at plan s.at ≡ Some site
    pub body : x.body ≡ body_of i.slots site.stmts
    pub b : Piece
    pub base : HasFamily ps x b
    pub entered : b.row.status ≡ Live

  -- and no other names a slot of it
  pub record Ready (ps : List Piece) : Type 0 where
    pub fits : Fits i plan
    pub mines : (s : PlacedSite) → In s i.sites → Mine ps s
    pub spares : (y : Piece) → In y ps → y.row.base ≡ false → IsMiniOf i y.row.at ⊎ Spares i y.body

  -- what a bank tells on the way from age n of a family: the statements have acted where the instrument's block isn't younger
  pub record Way (budget : ℕ) (y : PlainHart) (v : Level) (family n : ℕ) (bank : List ℕ) (ticks : ℕ) : Type 0 where
    pub none : site_at plan y.pc ≡ None → Stand i budget v bank ticks
    pub some : (s : PlacedSite) → In s i.sites → s.at ≡ y.pc → (families s.mini ≡ family) × (ages s.mini < n → Stand i budget v bank ticks) × (n ≤ ages s.mini → Stood i budget (acted plan y v) bank ticks)

  -- before the blocks of a base
  pub record Ahead (budget : ℕ) (y : PlainHart) (v : Level) (family : ℕ) (bank : List ℕ) (ticks : ℕ) : Type 0 where
    pub stand : Stand i budget v bank ticks
    pub family_is : (s : PlacedSite) → In s i.sites → s.at ≡ y.pc → families s.mini ≡ family

  abbrev pub BaseTells : {t : Words} {budget : ℕ} {b : Piece} {x : Hart} {y : PlainHart} → Level → BasePlace t budget b x y → Type 0
  BaseTells {budget = budget} {b = b} {x = x} {y = y} v (inl k) = Ahead budget y v b.row.at x.bank x.ticks
  BaseTells {budget = budget} {b = b} {x = x} {y = y} v (inr (inl k)) = Ahead budget y v b.row.at x.bank x.ticks
  BaseTells {budget = budget} {x = x} {y = y} v (inr (inr (inl k))) = Stood i budget (acted plan y v) x.bank x.ticks
  BaseTells {budget = budget} {x = x} {y = y} v (inr (inr (inr (inl k)))) = Stood i budget (acted plan y v) x.bank x.ticks
  BaseTells {budget = budget} {x = x} v (inr (inr (inr (inr k)))) = Stand i budget v x.bank x.ticks

  pub record BaseReads (t : Words) (budget : ℕ) (ps : List Piece) (x : Hart) (y : PlainHart) (v : Level) : Type 0 where
    pub k : InBase t budget ps x y
    pub told : BaseTells v k.place

  pub record MiniReads (budget : ℕ) (ps : List Piece) (x : Hart) (y : PlainHart) (v : Level) : Type 0 where
    pub k : InMini budget ps x y
    pub way : Way budget y v (k.m).family (k.m).age (end_of k) x.ticks

  -- what a hart's bank tells, where the program's hart is at this level
  abbrev pub Reads : Words → ℕ → List Piece → Hart → PlainHart → Level → Type 0
  Reads t budget ps x y v = ((x.inside ≡ false) × Stand i budget v x.bank x.ticks) ⊎ (BaseReads t budget ps x y v ⊎ MiniReads budget ps x y v)
