-- What variables open with where an instrument is armed.
use Rattle.std.proofs.Common.{◌≡◌, ℕ, ◌≤◌, List, [], ◌∷◌, Some, length, sym, ap, ◌∙◌, arith, ⊎_elim}
use Rattle.std.specs.Prelude.{false, slice_get, ◌⊎◌}
use Rattle.std.specs.List.{AllByRecursion}
use Rattle.std.proofs.lemmas.Bool.{true≢false}
use Rattle.pn_types.specs.declared.placed.Placed.{Placed}
use Rattle.pn_types.specs.declared.plan.Act.{Act}
use Rattle.pn_types.specs.declared.plan.Act.TheVariants.{Up, Down, Put, Start, Stop}
use Rattle.pn_types.specs.declared.plan.Open.{Open}
use Rattle.pn_types.specs.declared.plan.Plan.{Plan}
use Rattle.pn_types.specs.declared.plan.Stmt.{Stmt}
use Rattle.pn_types.specs.declared.plan.Var.{Var}
use Rattle.rv_word.specs.Exec.{Prog}
use Rattle.rv_word.specs.Plain.{Words, PlainHart, Plain}
use Rattle.tramp_spec.specs.Harts.{Hart}
use Rattle.tramp_spec.specs.Slots.{initials, places_of, set_places}
use Rattle.frame_walk.specs.Laws.{AreLow}
use Rattle.frame_walk.specs.Openings.{opening}
use Rattle.frame_walk.specs.Rooms.{IsNarrow, IsSmall}
use Rattle.frame_walk.specs.Walks.{start_at, start_of, walk, walk_from, walk_now}
use Rattle.frame_walk.proofs.Rooms.{opens_low}
use Rattle.frame_walk.proofs.Starts.{same_starts}
use Rattle.frame_walk.proofs.Waits.{cold_begins}
use Rattle.prim_code.specs.Fitting.{IsActOf, AreStmtsOf, IsMeasurable}
use Rattle.machine.specs.Cores.{Core}
use Rattle.machine.specs.Effects.{armed_hart}
use Rattle.machine.specs.Instruments.{Carries}
use Rattle.machine.proofs.Invariant.{Piece, Outside, InBase, InMini, Dynamic, Inv}

-- ---- small Opens

narrow_act : (vars : List Var) (a : Act) → IsActOf vars a → IsNarrow a
narrow_act vars (Up v) h = tt
narrow_act vars (Down v) h = tt
narrow_act vars (Put v n) h = let l = h.1 in omega arith
narrow_act vars (Start v) h = tt
narrow_act vars (Stop v) h = tt

narrow_all : (vars : List Var) (stmts : List Stmt) → AreStmtsOf vars stmts → AllByRecursion (λ (s : Stmt). IsNarrow s.act) stmts
narrow_all vars [] h = tt
narrow_all vars (s ∷ ss) h = (narrow_act vars s.act (h.0).act, narrow_all vars ss h.1)

small_all : (vars : List Var) (opens : List Open) → AllByRecursion (λ (o : Open). length o.stmts ≤ 32) opens → AllByRecursion (λ (o : Open). AreStmtsOf vars o.stmts) opens → AllByRecursion IsSmall opens
small_all vars [] f h = tt
small_all vars (o ∷ os) f h = (record { few = f.0; narrow = narrow_all vars o.stmts h.0 }, small_all vars os f.1 h.1)

-- the Opens of a plan that the tool's code measures are small
pub all_small : (plan : Plan) → IsMeasurable plan → AllByRecursion IsSmall plan.opens
all_small plan m = small_all plan.vars plan.opens m.opens_few m.opens_fitting

-- ---- opening values

-- they are far below the end of their range
pub opens_far_below : (plan : Plan) → IsMeasurable plan → (s : Plain) (h : ℕ) → AreLow plan.vars (opening plan.opens (walk s h) plan.vars)
opens_far_below plan m s h = opens_low plan.opens s.prog.mem (start_at (slice_get s.harts h)) plan.vars (all_small plan m) m.narrow

-- a hart that isn't inside starts the walk of the program's hart
pub same_start : (t : Words) (budget : ℕ) (ps : List Piece) (x : Hart) (y : PlainHart) → x.inside ≡ false → Dynamic t budget ps x y → start_of x.stop x.pc x.regs ≡ start_of y.stop y.pc y.regs
same_start t budget ps x y quiet d =
    same_starts x.stop y.stop x.pc y.pc x.regs y.regs d.stop
    (λ e. ⊎_elim
    (λ (o : Outside x y). (o.pc, o.agree 1 (omega arith), o.agree 8 (omega arith)))
    (λ (r : InBase t budget ps x y ⊎ InMini budget ps x y). absurd (⊎_elim (λ (k : InBase t budget ps x y). true≢false (sym k.inside ∙ quiet)) (λ (k : InMini budget ps x y). true≢false (sym k.inside ∙ quiet)) r))
    (d.hart e))

-- the variables open on the patched machine as they do on the program
pub same_opening : (c : Core) (s : Plain) → Inv c s → (i : Placed) (plan : Plan) → Carries c i plan → (h : ℕ) (x : Hart) (y : PlainHart) → slice_get c.harts h ≡ Some x → slice_get s.harts h ≡ Some y → x.inside ≡ false
    → opening i.opens (walk_now c.prog x) i.vars ≡ opening plan.opens (walk s h) plan.vars
same_opening c s v i plan k h x y ex ey quiet =
    ap (λ (os : List Open). opening os (walk_now c.prog x) i.vars) k.opens
    ∙ (ap (λ (vars : List Var). opening plan.opens (walk_now c.prog x) vars) k.vars
    ∙ ap (λ w. opening plan.opens w plan.vars)
    (ap (λ (p : Prog). walk_now p x) v.prog
    ∙ (ap (walk_from s.prog.mem) (same_start c.program c.budget v.ps x y quiet (v.harts h x y ex ey)) ∙ ap (λ o. walk_from s.prog.mem (start_at o)) (sym ey))))

-- without Opens the slots are set to what the variables are initially
pub armed_cold : (c : Core) (i : Placed) (x : Hart) → i.opens ≡ [] → armed_hart c i x ≡ record x { bank = set_places (places_of i) (initials i.vars) x.ticks x.bank }
armed_cold c i x e =
    ap (λ values. record x { bank = set_places (places_of i) values x.ticks x.bank }) (ap (λ (os : List Open). opening os (walk_now c.prog x) i.vars) e ∙ cold_begins (walk_now c.prog x) i.vars)
