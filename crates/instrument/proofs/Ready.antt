-- The kits of plans: which is taken out, and the memory that is left for the others.
use Rattle.std.proofs.Common.{◌≡◌, ℕ, zero, suc, ◌+◌, ◌*◌, ◌<◌, ◌≤◌, List, [], ◌∷◌, Option, Some, None, refl, sym, ap, ◌∙◌, subst, arith, inl, inr, length, get_or, cond}
use Rattle.std.specs.Prelude.{Bool, true, false, ◌&&◌, ◌==◌, slice_get, IfNone, IfSome, IsSome}
use Rattle.std.specs.Bool.{beq}
use Rattle.std.specs.Cmp.Lexicographic.{pointwise, pointwise_decides, bytes_decides}
use Rattle.std.specs.Str.{bytes_eq}
use Rattle.std.proofs.lemmas.Bool.{true≢false, and_parts, and_from, eq-eqb, eqb-true}
use Rattle.std.proofs.lemmas.List.{length-map}
use Rattle.pn_types.specs.declared.plan.Plan.{Plan}
use Rattle.pn_types.specs.declared.plan.Var.{Var}
use Rattle.prim_code.specs.Counts.{site_words}
use Rattle.machine.specs.Cores.{In}
use Rattle.instrument.specs.Books.{Book}
use Rattle.instrument.specs.Freed.{AreHere}
use Rattle.instrument.specs.Listed.{AreNumberedBelow}
use Rattle.instrument.specs.Opens.{is_open}
use Rattle.instrument.specs.Needs.{Need, need_of, is_var, is_need, sites_in, without}
use Rattle.instrument.specs.Placers.{HasMemory, AreAdmitted, IsPlacer}
use Rattle.instrument.specs.Rosters.{RosterData}
use Rattle.instrument.specs.ToolTexts.{ToolTextData}
use Rattle.instrument.specs.declared.instrument.Instrument.{Instrument}
use Rattle.instrument.proofs.SameOpens.{open_decides}

-- ---- the same need

timer_decides : (a b : Bool) → (beq a b ≡ true → a ≡ b) × (a ≡ b → beq a b ≡ true)
timer_decides true true = (λ e. refl, λ e. refl)
timer_decides true false = (λ e. absurd cc, λ e. absurd cc)
timer_decides false true = (λ e. absurd cc, λ e. absurd cc)
timer_decides false false = (λ e. refl, λ e. refl)

number_decides : (a b : ℕ) → ((a == b) ≡ true → a ≡ b) × (a ≡ b → (a == b) ≡ true)
number_decides a b = (λ e. eqb-true a b e, λ e. eq-eqb a b e)

var_same : (v w : Var) → is_var v w ≡ true → v ≡ w
var_same v w e =
    let p = and_parts (bytes_eq v.name w.name) (beq v.timer w.timer && (v.initially == w.initially)) e in
    let q = and_parts (beq v.timer w.timer) (v.initially == w.initially) p.1 in
    let name = (bytes_decides v.name w.name).0 p.0 in
    let timer = (timer_decides v.timer w.timer).0 q.0 in
    let initially = eqb-true v.initially w.initially q.1 in
    λ i. record { name = name i; timer = timer i; initially = initially i }

var_own : (v w : Var) → v ≡ w → is_var v w ≡ true
var_own v w e =
    and_from _ _ ((bytes_decides v.name w.name).1 (ap (λ (u : Var). u.name) e)) (and_from _ _ ((timer_decides v.timer w.timer).1 (ap (λ (u : Var). u.timer) e)) (eq-eqb _ _ (ap (λ (u : Var). u.initially) e)))

need_same : (n m : Need) → is_need n m ≡ true → n ≡ m
need_same n m e =
    let p = and_parts (pointwise is_var n.vars m.vars) (pointwise (λ v w. v == w) n.words m.words && pointwise is_open n.opens m.opens) e in
    let q = and_parts (pointwise (λ v w. v == w) n.words m.words) (pointwise is_open n.opens m.opens) p.1 in
    let vars = (pointwise_decides (λ v w. (var_same v w, var_own v w)) n.vars m.vars).0 p.0 in
    let words = (pointwise_decides number_decides n.words m.words).0 q.0 in
    let opens = (pointwise_decides open_decides n.opens m.opens).0 q.1 in
    λ i. record { vars = vars i; words = words i; opens = opens i }

need_own : (n m : Need) → n ≡ m → is_need n m ≡ true
need_own n m e =
    and_from _ _ ((pointwise_decides (λ v w. (var_same v w, var_own v w)) n.vars m.vars).1 (ap (λ (u : Need). u.vars) e))
    (and_from _ _ ((pointwise_decides number_decides n.words m.words).1 (ap (λ (u : Need). u.words) e))
    ((pointwise_decides open_decides n.opens m.opens).1 (ap (λ (u : Need). u.opens) e)))

-- ---- a kit is found

pub found_there : (need : Need) (ns : List Need) (i : ℕ) (x : Need) → i < length ns → x ≡ get_or ns i x → is_need need x ≡ true → slice_get ns i ≡ Some need
found_there need ns i x l e f = got ns i x l e ∙ ap (λ n. Some n) (sym (need_same need x f))
  where
    got : (ns : List Need) (i : ℕ) (x : Need) → i < length ns → x ≡ get_or ns i x → slice_get ns i ≡ Some x
    got (n ∷ ns) zero x l e = ap (λ n. Some n) (sym e)
    got (n ∷ ns) (suc i) x l e = got ns i x (omega arith) e
    got [] i x l e = absurd (omega arith)

pub get_in : (ns : List Need) (i : ℕ) (x : Need) → slice_get ns i ≡ Some x → In x ns
get_in [] i x e = absurd cc
get_in (n ∷ ns) zero x e = inl (sym (of_some n x e))
  where
    of_some : (n x : Need) → Some n ≡ Some x → n ≡ x
    of_some n x e = cc
get_in (n ∷ ns) (suc i) x e = inr (get_in ns i x e)

-- ---- one is taken out

pub one_less : (need : Need) (ns : List Need) → In need ns → (sites_in ns ≡ length need.words + sites_in (without need ns)) × (length ns ≡ length (without need ns) + 1)
one_less need [] h = absurd h
one_less need (n ∷ ns) h = by (is_need need n) refl h (λ i. one_less need ns i)
  where
    by : (b : Bool) → is_need need n ≡ b → In need (n ∷ ns) → (In need ns → (sites_in ns ≡ length need.words + sites_in (without need ns)) × (length ns ≡ length (without need ns) + 1))
        → (sites_in (n ∷ ns) ≡ length need.words + sites_in (cond b ns (n ∷ without need ns))) × (length (n ∷ ns) ≡ length (cond b ns (n ∷ without need ns)) + 1)
    by true e h r = let l = ap (λ (u : Need). length u.words) (need_same need n e) in (omega (arith, l), omega arith)
    by false e (inl q) r = absurd (true≢false (sym (need_own need n q) ∙ e))
    by false e (inr q) r = let k = r q in let a = k.0 in let b = k.1 in (omega (arith, a), omega (arith, b))

-- if none was, it wasn't there
pub none_less : (need : Need) (ns : List Need) → without need ns ≡ ns → In need ns → ⊥
none_less need ns e h = let k = (one_less need ns h).1 in let l = ap length e in omega (arith, k, l)

-- ---- memory that is left

-- the memory of one plan was used, or part of it
pub memory_used : (t u : ToolTextData) (r s : RosterData) (count sites plans more used : ℕ) → HasMemory t r count (sites + more) (plans + 1) → t.spare_rooms ≤ u.spare_rooms + 2 * more → t.takes ≤ u.takes + 2 * more → t.entries ≤ u.entries + 7 * more
    → r.room ≤ s.room + 1 → r.takes ≤ s.takes + 2 → used ≤ count + 1 → HasMemory u s used sites plans
memory_used t u r s count sites plans more used k rooms takes entries room slots n = record {
  rooms = omega (arith, k.rooms, rooms);
  takes = omega (arith, k.takes, takes);
  entries = omega (arith, k.entries, entries);
  instruments = omega (arith, k.instruments, room);
  slots = omega (arith, k.slots, slots);
  numbers = omega (arith, k.numbers, n);
}

-- those that are left need no more
fewer : (need : Need) (ns : List Need) → (sites_in (without need ns) ≤ sites_in ns) × (length (without need ns) ≤ length ns)
fewer need [] = (omega arith, omega arith)
fewer need (n ∷ ns) = by (is_need need n) (fewer need ns)
  where
    by : (b : Bool) → (sites_in (without need ns) ≤ sites_in ns) × (length (without need ns) ≤ length ns)
        → (sites_in (cond b ns (n ∷ without need ns)) ≤ sites_in (n ∷ ns)) × (length (cond b ns (n ∷ without need ns)) ≤ length (n ∷ ns))
    by true r = (omega arith, omega arith)
    by false r = let a = r.0 in let b = r.1 in (omega (arith, a), omega (arith, b))

pub left_memory : (t : ToolTextData) (r : RosterData) (count : ℕ) (need : Need) (before after : List Need) → after ≡ without need before → HasMemory t r count (sites_in before) (length before) → HasMemory t r count (sites_in after) (length after)
left_memory t r count need before after e k =
    let f = fewer need before in
    let sites = f.0 in
    let plans = f.1 in
    subst (λ (ns : List Need). HasMemory t r count (sites_in ns) (length ns)) (sym e) (record {
      rooms = omega (arith, k.rooms, sites);
      takes = omega (arith, k.takes, sites);
      entries = omega (arith, k.entries, sites);
      instruments = omega (arith, k.instruments, plans);
      slots = omega (arith, k.slots, plans);
      numbers = omega (arith, k.numbers, plans);
    })

-- and where one was taken out, there is that of it beside
pub kit_memory : (t : ToolTextData) (r : RosterData) (count : ℕ) (plan : Plan) (before after : List Need) → after ≡ without (need_of plan) before → In (need_of plan) before → HasMemory t r count (sites_in before) (length before)
    → HasMemory t r count (sites_in after + length plan.sites) (length after + 1)
kit_memory t r count plan before after e h k =
    let l = one_less (need_of plan) before h in
    let sites = l.0 in
    let plans = l.1 in
    let words = length-map plan.sites site_words in
    subst (λ (ns : List Need). HasMemory t r count (sites_in ns + length plan.sites) (length ns + 1)) (sym e) (record {
      rooms = omega (arith, k.rooms, sites, words);
      takes = omega (arith, k.takes, sites, words);
      entries = omega (arith, k.entries, sites, words);
      instruments = omega (arith, k.instruments, plans);
      slots = omega (arith, k.slots, plans);
      numbers = omega (arith, k.numbers, plans);
    })

pub kits_memory : {A : Type 0} (o : Option A) (t : ToolTextData) (r : RosterData) (count : ℕ) (plan : Plan) (before after : List Need) → after ≡ without (need_of plan) before → IfSome o (λ k. In (need_of plan) before) → HasMemory t r count (sites_in before) (length before)
    → IfSome o (λ k. HasMemory t r count (sites_in after + length plan.sites) (length after + 1))
kits_memory None t r count plan before after e h k = tt
kits_memory (Some x) t r count plan before after e h k = kit_memory t r count plan before after e h k

-- a kit that is ready is found
pub is_found : {A : Type 0} (o : Option A) (need : Need) (before after : List Need) → after ≡ without need before → IfNone o (after ≡ before) → In need before → IsSome o
is_found None need before after e n h = absurd (none_less need before (sym e ∙ n) h)
is_found (Some x) need before after e n h = refl

-- ---- the placer

pub placer_kept : (t u : ToolTextData) (r s : RosterData) (count : ℕ) (ready : List Need) → IsPlacer t r count ready → AreAdmitted count u.book.rooms → AreNumberedBelow count s.instruments → AreHere u.book.rooms s.instruments → t.spare_rooms ≤ u.spare_rooms → t.takes ≤ u.takes → 7 * sites_in ready ≤ u.entries → r.room ≤ s.room → r.takes ≤ s.takes → IsPlacer u s count ready
placer_kept t u r s count ready k a b h rooms takes entries room slots = record {
  memory = record {
    rooms = omega (arith, k.memory.rooms, rooms);
    takes = omega (arith, k.memory.takes, takes);
    entries = entries;
    instruments = omega (arith, k.memory.instruments, room);
    slots = omega (arith, k.memory.slots, slots);
    numbers = k.memory.numbers;
  };
  admitted = a;
  listed = b;
  here = h;
}

-- who was here is here
pub same_here : (t u : ToolTextData) (r s : RosterData) → u.book ≡ t.book → s.instruments ≡ r.instruments → AreHere t.book.rooms r.instruments → AreHere u.book.rooms s.instruments
same_here t u r s e f k = subst (λ (is : List Instrument). AreHere u.book.rooms is) (sym f) (subst (λ (b : Book). AreHere b.rooms r.instruments) (sym e) k)

-- no plan is ready any more
pub given_up : (t u : ToolTextData) (r s : RosterData) (count : ℕ) (before after : List Need) → IsPlacer t r count before → after ≡ [] → ((sites plans : ℕ) → HasMemory t r count sites plans → HasMemory u s count sites plans) → u.book ≡ t.book → s.instruments ≡ r.instruments → IsPlacer u s count after
given_up t u r s count before after k e kept same listed =
    let m = k.memory in
    let none : HasMemory t r count 0 0 = record { rooms = omega arith; takes = omega arith; entries = omega arith; instruments = omega arith; slots = omega arith; numbers = omega (arith, m.numbers) } in
    subst (λ (ns : List Need). IsPlacer u s count ns) (sym e) (record {
      memory = kept 0 0 none;
      admitted = subst (λ (b : Book). AreAdmitted count b.rooms) (sym same) k.admitted;
      listed = subst (λ (is : List Instrument). AreNumberedBelow count is) (sym listed) k.listed;
      here = same_here t u r s same listed k.here;
    })

-- a kit was taken out, and not used
pub placer_less : (t : ToolTextData) (r : RosterData) (count : ℕ) (need : Need) (before after : List Need) → IsPlacer t r count before → after ≡ without need before → IsPlacer t r count after
placer_less t r count need before after k e = record { memory = left_memory t r count need before after e k.memory; admitted = k.admitted; listed = k.listed; here = k.here }

-- it was used, or part of it
pub placer_used : (t u : ToolTextData) (r s : RosterData) (count used sites : ℕ) (ready kits : List Need) → HasMemory t r count (sites_in ready + sites) (length ready + 1) → ready ≡ kits → AreAdmitted used u.book.rooms → AreNumberedBelow used s.instruments → AreHere u.book.rooms s.instruments
    → t.spare_rooms ≤ u.spare_rooms + 2 * sites → t.takes ≤ u.takes + 2 * sites → t.entries ≤ u.entries + 7 * sites → r.room ≤ s.room + 1 → r.takes ≤ s.takes + 2 → used ≤ count + 1 → IsPlacer u s used kits
placer_used t u r s count used sites ready kits k e a b h rooms takes entries room slots n =
    subst (λ (ns : List Need). IsPlacer u s used ns) e (record { memory = memory_used t u r s count (sites_in ready) (length ready) sites used k rooms takes entries room slots n; admitted = a; listed = b; here = h })
