-- The statements of a plan of a checked configuration are short, and fit its variables.
use Rattle.std.proofs.Common.{◌≡◌, ℕ, zero, suc, ◌+◌, ◌%◌, ◌^◌, ◌<◌, ◌≤◌, cond, nat_lt, Bool, true, false, Option, Some, None, List, [], ◌∷◌, ◌++◌, length, map, flat_map, get_or, slice_get, unwrap_or, refl, sym, ap, ◌∙◌, subst, arith}
use Rattle.std.specs.List.{filter, AllByRecursion}
use Rattle.std.specs.Option.{option_map}
use Rattle.std.proofs.lemmas.List.{length-append, length-map, append_assoc}
use Rattle.pn_types.specs.declared.code.Point.{Point}
use Rattle.pn_types.specs.declared.code.Proc.{Proc}
use Rattle.pn_types.specs.declared.focus.Focus.{Focus}
use Rattle.pn_types.specs.declared.plan.Open.{Open}
use Rattle.pn_types.specs.declared.plan.Site.{Site}
use Rattle.pn_types.specs.declared.plan.Stmt.{Stmt}
use Rattle.pn_types.specs.declared.plan.Var.{Var}
use Rattle.mdl_ast.specs.declared.action.Action.{Action}
use Rattle.mdl_ast.specs.declared.action.Action.TheVariants.{Up, Down, Put, Start, Stop}
use Rattle.mdl_ast.specs.declared.action.Condition.{Condition}
use Rattle.mdl_ast.specs.declared.action.LeftName.{LeftName}
use Rattle.mdl_ast.specs.declared.action.LeftName.TheVariants.{Variable, Argument}
use Rattle.mdl_ast.specs.declared.action.RightSide.{RightSide}
use Rattle.mdl_ast.specs.declared.action.RightSide.TheVariants.{Number, Value}
use Rattle.mdl_ast.specs.declared.action.Statement.{Statement}
use Rattle.mdl_ast.specs.Small.{IsSmallRight}
use Rattle.prim_code.specs.Fitting.{Names, IsLeftOf, IsActOf, IsCondOf, IsStmtOf}
use Rattle.mdl_ast.specs.declared.block.Block.{Block}
use Rattle.mdl_ast.specs.declared.block.EventKind.{EventKind}
use Rattle.mdl_ast.specs.declared.block.EventKind.TheVariants.{Entry}
use Rattle.mdl_ast.specs.declared.block.Insertion.{Insertion}
use Rattle.mdl_ast.specs.declared.block.Set.{Set}
use Rattle.mdl_ast.specs.declared.metric.Metric.{Metric}
use Rattle.mdl_ast.specs.declared.metric.Constraint.{Constraint}
use Rattle.mdl_check.specs.Sound.{ActFits, LeftFits, Fits, OfEach, IsSoundMetric}
use Rattle.resource_tree.specs.Foci.{Selection, address_of, part}
use Rattle.resource_tree.specs.Resources.{ObjectNode, Resources}
use Rattle.mdl_plan.specs.Active.{Active}
use Rattle.mdl_plan.specs.Choosing.{is_chosen, kinds_of}
use Rattle.mdl_plan.specs.Fitting.{HasLowObjects}
use Rattle.mdl_plan.specs.Pieces.{Piece, piece, pieces_of, replacement, counting, counters, base_blocks, counter_pieces, is_before, is_behind, in_order}
use Rattle.mdl_plan.specs.Plans.{PlanScope, base_var, counter_var, vars_of, stmts_for, site_at, has_stmts, sites_of, open_if, open_at, opens_of, terms_of, scene_of}
use Rattle.mdl_plan.specs.Statements.{Terms, guards, left_of, right_of, cond_of, act_of, stmt_of, stmts_of}
use Rattle.mdl_plan.proofs.Costs.{short_stmt}
use Rattle.mdl_plan.proofs.Limits.{few_counting}
use Rattle.mdl_plan.proofs.Suiting.{ActiveSuits, base_fits, counting_fits}

-- ---- lists

module _ {X : Type 0} (P : X → Type 0) where
  all_append : (a b : List X) → AllByRecursion P a → AllByRecursion P b → AllByRecursion P (a ++ b)
  all_append [] b h g = g
  all_append (x ∷ a) b h g = (h.0, all_append a b h.1 g)

  all_filter : (p : X → Bool) (xs : List X) → AllByRecursion P xs → AllByRecursion P (filter p xs)
  all_filter p [] h = tt
  all_filter p (x ∷ xs) h = go (p x) (all_filter p xs h.1)
    where
      go : (b : Bool) → AllByRecursion P (filter p xs) → AllByRecursion P (cond b (x ∷ filter p xs) (filter p xs))
      go true rest = (h.0, rest)
      go false rest = rest

  all_at : (xs : List X) (i : ℕ) (d : X) → i < length xs → AllByRecursion P xs → P (get_or xs i d)
  all_at [] i d lt h = absurd (omega arith)
  all_at (x ∷ xs) zero d lt h = h.0
  all_at (x ∷ xs) (suc i) d lt h = all_at xs i d (omega arith) h.1

all_mapped : {X Y : Type 0} (f : X → Y) (P : X → Type 0) (Q : Y → Type 0) → ((x : X) → P x → Q (f x)) → (xs : List X) → AllByRecursion P xs → AllByRecursion Q (map f xs)
all_mapped f P Q one [] h = tt
all_mapped f P Q one (x ∷ xs) h = (one x h.0, all_mapped f P Q one xs h.1)

all_flat : {X Y : Type 0} (f : X → List Y) (P : X → Type 0) (Q : Y → Type 0) → ((x : X) → P x → AllByRecursion Q (f x)) → (xs : List X) → AllByRecursion P xs → AllByRecursion Q (flat_map f xs)
all_flat f P Q one [] h = tt
all_flat f P Q one (x ∷ xs) h = all_append Q (f x) (flat_map f xs) (one x h.0) (all_flat f P Q one xs h.1)

all_any : {X : Type 0} (P : X → Type 0) → ((x : X) → P x) → (xs : List X) → AllByRecursion P xs
all_any P one [] = tt
all_any P one (x ∷ xs) = (one x, all_any P one xs)

-- ---- variables

at_front : (front : List Var) (x : Var) (rest : List Var) → slice_get (front ++ x ∷ rest) (length front) ≡ Some x
at_front [] x rest = refl
at_front (y ∷ front) x rest = at_front front x rest

counter_at : (vars front : List Var) (c : Constraint) (rest : List Var) (v : ℕ) → vars ≡ front ++ counter_var c ∷ rest → length front ≡ v → Names vars false v
counter_at vars front c rest v e len =
    ap (λ (l : List Var). option_map (λ x. x.timer) (slice_get l v)) e
    ∙ ap (λ (k : ℕ). option_map (λ x. x.timer) (slice_get (front ++ counter_var c ∷ rest) k)) (sym len)
    ∙ ap (option_map (λ (x : Var). x.timer)) (at_front front (counter_var c) rest)

behind : (vars front : List Var) (c : Constraint) (cs : List Constraint) → vars ≡ front ++ map counter_var (c ∷ cs) → vars ≡ (front ++ counter_var c ∷ []) ++ map counter_var cs
behind vars front c cs e = e ∙ sym (append_assoc front (counter_var c ∷ []) (map counter_var cs))

longer : (front : List Var) (c : Constraint) (v : ℕ) → length front ≡ v → length (front ++ counter_var c ∷ []) ≡ v + 1
longer front c v len = omega (arith, len, length-append front (counter_var c ∷ []))

-- ---- addresses

abbrev IfLow : Option ℕ → Type 0
IfLow None = Unit {0}
IfLow (Some n) = n < 2 ^ 31

low_at : (os : List ObjectNode) (k : ℕ) → AllByRecursion (λ o. o.at < 2 ^ 31) os → IfLow (option_map (λ o. o.at) (slice_get os k))
low_at [] k h = tt
low_at (o ∷ os) zero h = h.0
low_at (o ∷ os) (suc k) h = low_at os k h.1

low_address : (os : List ObjectNode) (object : Option ℕ) → AllByRecursion (λ o. o.at < 2 ^ 31) os → IfLow (address_of os object)
low_address os None h = tt
low_address os (Some k) h = low_at os k h

low_value : (o : Option ℕ) → IfLow o → unwrap_or o 0 % 2 ^ 32 < 2 ^ 31
low_value None h = omega arith
low_value (Some n) h = omega (arith, h)

-- ---- statements

module _ (vars : List Var) where
  guards_fit : (front : List Var) (v : ℕ) (cs : List Constraint) → vars ≡ front ++ map counter_var cs → length front ≡ v → AllByRecursion (IsCondOf vars) (guards v cs)
  guards_fit front v [] e len = tt
  guards_fit front v (c ∷ cs) e len =
      ((counter_at vars front c (map counter_var cs) v e len, omega arith), guards_fit (front ++ counter_var c ∷ []) (v + 1) cs (behind vars front c cs e) (longer front c v len))

  left_fits : (timer : Bool) (v : ℕ) (left : LeftName) → Names vars timer v → LeftFits timer left → IsLeftOf vars (left_of v left)
  left_fits timer v (Variable name) names e = subst (λ (b : Bool). Names vars b v) e names
  left_fits timer v (Argument n) names e = let same : n % 256 ≡ n = omega arith in subst (λ (k : ℕ). k < 8) (sym same) e

  right_fits : (value : ℕ) (right : RightSide) → value < 2 ^ 31 → IsSmallRight right → right_of value right < 2 ^ 31
  right_fits value (Number n) low h = omega (arith, h)
  right_fits value Value low h = low

  conds_fit : (timer : Bool) (v value : ℕ) (cs : List Condition) → Names vars timer v → value < 2 ^ 31 → AllByRecursion (λ c. LeftFits timer c.left) cs → AllByRecursion (λ c. IsSmallRight c.right) cs
      → AllByRecursion (IsCondOf vars) (map (cond_of v value) cs)
  conds_fit timer v value [] names low h g = tt
  conds_fit timer v value (c ∷ cs) names low h g = ((left_fits timer v c.left names h.0, right_fits value c.right low g.0), conds_fit timer v value cs names low h.1 g.1)

  act_fits : (timer : Bool) (v : ℕ) (a : Action) → Names vars timer v → ActFits timer a → IsActOf vars (act_of v a)
  act_fits timer v (Up name) names e = subst (λ (b : Bool). Names vars b v) e names
  act_fits timer v (Down name) names e = subst (λ (b : Bool). Names vars b v) e names
  act_fits timer v (Put name n) names e = (subst (λ (b : Bool). Names vars b v) e.0 names, omega (arith, e.1))
  act_fits timer v (Start name) names e = subst (λ (b : Bool). Names vars b v) e names
  act_fits timer v (Stop name) names e = subst (λ (b : Bool). Names vars b v) e names

module _ (t : Terms) (few : length t.guards ≤ 2) where
  few_conds : (timer : Bool) (p : Piece) (s : Statement) → Fits timer s → length (stmt_of t p s).conds ≤ 18
  few_conds timer p s h = go p.insertion.constrained
    where
      go : (b : Bool) → length (cond b t.guards [] ++ map (cond_of p.variable t.value) s.conds) ≤ 18
      go true = omega (arith, few, h.few, length-append t.guards (map (cond_of p.variable t.value) s.conds), length-map s.conds (cond_of p.variable t.value))
      go false = omega (arith, h.few, length-map s.conds (cond_of p.variable t.value))

  stmt_fits : (vars : List Var) → AllByRecursion (IsCondOf vars) t.guards → t.value < 2 ^ 31 → (timer : Bool) (p : Piece) (s : Statement) → Names vars timer p.variable → Fits timer s → IsStmtOf vars (stmt_of t p s)
  stmt_fits vars guarded low timer p s names h = record {
    short = short_stmt (stmt_of t p s) (few_conds timer p s h);
    conds = go p.insertion.constrained;
    act = act_fits vars timer p.variable s.act names h.act;
  }
    where
      own : AllByRecursion (IsCondOf vars) (map (cond_of p.variable t.value) s.conds)
      own = conds_fit vars timer p.variable t.value s.conds names low h.lefts h.rights

      go : (b : Bool) → AllByRecursion (IsCondOf vars) (cond b t.guards [] ++ map (cond_of p.variable t.value) s.conds)
      go true = all_append (IsCondOf vars) t.guards (map (cond_of p.variable t.value) s.conds) guarded own
      go false = own

-- ---- pieces

-- what holds of each statement that fits its variable holds of all statements of a plan
module _ (vars : List Var) (t : Terms) (P : Stmt → Type 0) (one : (timer : Bool) (p : Piece) (s : Statement) → Names vars timer p.variable → Fits timer s → P (stmt_of t p s)) where
  abbrev PieceFits : Piece → Type 0
  PieceFits p = AllByRecursion P (stmts_of t p)

  insertion_fits : (timer : Bool) (v : ℕ) (set : Set) (i : Insertion) → Names vars timer v → AllByRecursion (Fits timer) i.stmts → PieceFits (piece v set i)
  insertion_fits timer v set i names h = all_mapped (stmt_of t (piece v set i)) (Fits timer) P (λ s g. one timer (piece v set i) s names g) i.stmts h

  pieces_fit : (timer : Bool) (v : ℕ) (blocks : List Block) → Names vars timer v → OfEach (Fits timer) blocks → AllByRecursion PieceFits (pieces_of v blocks)
  pieces_fit timer v blocks names h =
      all_flat (λ b. map (piece v b.set) b.insertions) (λ b. AllByRecursion (λ i. AllByRecursion (Fits timer) i.stmts) b.insertions) PieceFits
      (λ b g. all_mapped (piece v b.set) (λ i. AllByRecursion (Fits timer) i.stmts) PieceFits (λ i k. insertion_fits timer v b.set i names k) b.insertions g) blocks h

  counters_fit : (front : List Var) (v : ℕ) (cs : List Constraint) → vars ≡ front ++ map counter_var cs → length front ≡ v → AllByRecursion (λ c. OfEach (Fits false) c.blocks) cs → AllByRecursion PieceFits (counter_pieces v cs)
  counters_fit front v [] e len h = tt
  counters_fit front v (c ∷ cs) e len h =
      all_append PieceFits (pieces_of v c.blocks) (counter_pieces (v + 1) cs)
      (pieces_fit false v c.blocks (counter_at vars front c (map counter_var cs) v e len) h.0)
      (counters_fit (front ++ counter_var c ∷ []) (v + 1) cs (behind vars front c cs e) (longer front c v len) h.1)

  order_fits : (counted base : List Piece) → AllByRecursion PieceFits counted → AllByRecursion PieceFits base → AllByRecursion PieceFits (in_order counted base)
  order_fits counted base h g =
      all_append PieceFits (filter is_before (counted ++ base)) (filter is_behind (base ++ counted))
      (all_filter PieceFits is_before (counted ++ base) (all_append PieceFits counted base h g))
      (all_filter PieceFits is_behind (base ++ counted) (all_append PieceFits base counted g h))

-- ---- sites and what is open

module _ (P : Stmt → Type 0) (s : PlanScope) (h : AllByRecursion (λ p. AllByRecursion P (stmts_of s.terms p)) s.pieces) where
  abbrev SiteFits : Site → Type 0
  SiteFits site = AllByRecursion P site.stmts

  for_fits : (q : ℕ) (o : Option Proc) (kind : EventKind) → AllByRecursion P (stmts_for s q o kind)
  for_fits q None kind = tt
  for_fits q (Some p) kind =
      all_flat (stmts_of s.terms) (λ x. AllByRecursion P (stmts_of s.terms x)) P (λ x g. g) (filter (is_chosen s.selected kind q p) s.pieces)
      (all_filter (λ x. AllByRecursion P (stmts_of s.terms x)) (is_chosen s.selected kind q p) s.pieces h)

  at_fits : (p : Point) → SiteFits (site_at s p)
  at_fits p =
      all_flat (stmts_for s p.proc_no (slice_get s.procs p.proc_no)) (λ k. Unit {0}) P (λ k u. for_fits p.proc_no (slice_get s.procs p.proc_no) k) (kinds_of p)
      (all_any (λ k. Unit {0}) (λ k. tt) (kinds_of p))

  sites_fit : (points : List Point) → AllByRecursion SiteFits (sites_of s points)
  sites_fit points = all_filter SiteFits has_stmts (map (site_at s) points) (all_mapped (site_at s) (λ p. Unit {0}) SiteFits (λ p u. at_fits p) points (all_any (λ p. Unit {0}) (λ p. tt) points))

  abbrev OpenFits : Open → Type 0
  OpenFits o = AllByRecursion P o.stmts

  if_fits : (stmts : List Stmt) (o : Option Proc) → AllByRecursion P stmts → AllByRecursion OpenFits (open_if stmts o)
  if_fits stmts None fit = tt
  if_fits stmts (Some p) fit = go (nat_lt 0 (length stmts))
    where
      go : (b : Bool) → AllByRecursion OpenFits (cond b (record { start = p.start; len = p.len; stmts = stmts } ∷ []) [])
      go true = (fit, tt)
      go false = tt

  open_fits : (p : Point) → AllByRecursion OpenFits (open_at s p)
  open_fits p = go p.entry
    where
      go : (b : Bool) → AllByRecursion OpenFits (cond b (open_if (stmts_for s p.proc_no (slice_get s.procs p.proc_no) Entry) (slice_get s.procs p.proc_no)) [])
      go true = if_fits (stmts_for s p.proc_no (slice_get s.procs p.proc_no) Entry) (slice_get s.procs p.proc_no) (for_fits p.proc_no (slice_get s.procs p.proc_no) Entry)
      go false = tt

  opens_fit : (points : List Point) → AllByRecursion OpenFits (opens_of s points)
  opens_fit points = all_flat (open_at s) (λ p. Unit {0}) OpenFits (λ p u. open_fits p) points (all_any (λ p. Unit {0}) (λ p. tt) points)

-- ---- the plan

few_guards : (v : ℕ) (cs : List Constraint) → length (guards v cs) ≡ length cs
few_guards v [] = refl
few_guards v (c ∷ cs) = ap suc (few_guards (v + 1) cs)

few_counters : (a : Active) → length (counters a) ≤ 2
few_counters a = omega (arith, few_counting a.code, few_counting a.object, length-append (counting a.code) (counting a.object))

few_terms : (s : Selection) (a : Active) → length (terms_of s a).guards ≤ 2
few_terms s a = omega (arith, few_guards 1 (counters a), few_counters a)

abbrev AllStmts : (Stmt → Type 0) → List Site → Type 0
AllStmts P sites = AllByRecursion (λ site. AllByRecursion P site.stmts) sites

module _ (t : Resources) (f : Focus) (procs : List Proc) (points : List Point) (m : Metric) (a : Active) (suits : ActiveSuits m a) (own : IsSoundMetric m) where
  abbrev scene : PlanScope
  scene = scene_of (part t f) procs m a

  abbrev HoldsOfEach : (Stmt → Type 0) → Type 0
  HoldsOfEach P = (timer : Bool) (p : Piece) (s : Statement) → Names (vars_of m a) timer p.variable → Fits timer s → P (stmt_of (terms_of (part t f) a) p s)

  scene_fits : (P : Stmt → Type 0) → HoldsOfEach P → AllByRecursion (λ p. AllByRecursion P (stmts_of scene.terms p)) scene.pieces
  scene_fits P one =
      let vars = vars_of m a in
      let terms = terms_of (part t f) a in
      let counts = all_append (λ c. OfEach (Fits false) c.blocks) (counting a.code) (counting a.object) (counting_fits m a.code suits.code) (counting_fits m a.object suits.object) in
      order_fits vars terms P one (counter_pieces 1 (counters a)) (pieces_of 0 (base_blocks m (replacement a)))
      (counters_fit vars terms P one (base_var m a ∷ []) 1 (counters a) refl refl counts)
      (pieces_fit vars terms P one m.timer 0 (base_blocks m (replacement a)) refl (base_fits m a suits own))

  pub scene_few : AllStmts (λ s. length s.conds ≤ 18) (sites_of scene points)
  scene_few =
      sites_fit (λ s. length s.conds ≤ 18) scene
      (scene_fits (λ s. length s.conds ≤ 18) (λ timer p s names h. few_conds (terms_of (part t f) a) (few_terms (part t f) a) timer p s h)) points

  fitting : HasLowObjects t → AllByRecursion (λ p. AllByRecursion (IsStmtOf (vars_of m a)) (stmts_of scene.terms p)) scene.pieces
  fitting low =
      scene_fits (IsStmtOf (vars_of m a))
      (stmt_fits (terms_of (part t f) a) (few_terms (part t f) a) (vars_of m a) (guards_fit (vars_of m a) (base_var m a ∷ []) 1 (counters a) refl refl) (low_value (address_of t.objects f.object) (low_address t.objects f.object low)))

  pub scene_stmts : HasLowObjects t → AllStmts (IsStmtOf (vars_of m a)) (sites_of scene points)
  scene_stmts low = sites_fit (IsStmtOf (vars_of m a)) scene (fitting low) points

  pub scene_opens : HasLowObjects t → AllByRecursion (λ o. AllByRecursion (IsStmtOf (vars_of m a)) o.stmts) (opens_of scene points)
  scene_opens low = opens_fit (IsStmtOf (vars_of m a)) scene (fitting low) points
