-- What has no fault is sound.
use Rattle.std.proofs.Common.{◌≡◌, ℕ, ◌||◌, ◌&&◌, not, cond, Bool, true, false, Option, Some, None, List, [], ◌∷◌, ◌++◌, map, flat_map, length, bytes_eq, codes, is_some, refl, sym, ap, ◌∙◌, subst}
use Rattle.std.specs.Prelude.{option_to_list}
use Rattle.std.specs.List.{list_any, filter, AllByRecursion}
use Rattle.std.proofs.lemmas.Bool.{or_parts}
use Rattle.mdl_ast.specs.Small.{AreSmall, HasSmall}
use Rattle.mdl_ast.specs.declared.block.Block.{Block}
use Rattle.mdl_ast.specs.declared.items.Item.{Item}
use Rattle.mdl_ast.specs.declared.items.Item.TheVariants.{Include, Sync, Metric, Constraint, Hypothesis, Search, Phase, Wish}
use Rattle.mdl_ast.specs.declared.metric.Metric.{Metric as TheMetric}
use Rattle.mdl_ast.specs.declared.metric.Constraint.{Constraint as TheConstraint}
use Rattle.mdl_check.specs.Placed.{PlacedItem, Entry, placed_item, is_taken, included, with_included, placed_items}
use Rattle.mdl_check.specs.Rules.{is_repeated, is_unknown, is_wrong, is_cyclic, is_astray, is_misused, parents_of, fault_of, misuse, own_variable, has_bad_value}
use Rattle.mdl_check.specs.Names.{as_constraint, constraints_in, constraint_named}
use Rattle.mdl_check.specs.Statements.{have}
use Rattle.mdl_check.specs.Checking.{AreEntries, placed_of, fault_from, first_fault, metric_of, constraint_of, checked_of}
use Rattle.mdl_check.specs.Sound.{Fits, OfEach, IsSoundMetric, IsSoundConstraint, TakesFitting, IsSoundCheck}
use Rattle.mdl_check.proofs.Fitting.{none_of, all_map, all_zip, each_fits}
use Rattle.mdl_check.specs.declared.fault.CheckFault.{CheckFault}
use Rattle.mdl_check.specs.declared.fault.CheckKind.{CheckKind}
use Rattle.mdl_check.specs.declared.fault.CheckKind.TheVariants.{TwiceNamed, UnknownName, WrongKind, CyclicParent, BadFocus}
use Rattle.mdl_check.specs.declared.uses.Use.TheVariants as uses
use Rattle.resource_tree.specs.Resources.{Resources}

-- ---- an item without a fault

record IsRight (all before : List Entry) (e : Entry) : Type 0 where
  pub known : is_unknown all e.item ≡ false
  pub right : is_wrong all before e.item ≡ false

right_entry : (all before : List Entry) (e : Entry) → fault_of all before e ≡ None → IsRight all before e
right_entry all before e h = by (is_repeated all before e.item e.focus) (is_unknown all e.item) (is_wrong all before e.item) refl refl h
  where
    by : (a b c : Bool) → is_unknown all e.item ≡ b → is_wrong all before e.item ≡ c
        → cond a (Some TwiceNamed) (cond b (Some UnknownName) (cond c (Some WrongKind) (cond (is_cyclic (parents_of all) (length before)) (Some CyclicParent) (cond (is_astray e.item e.focus) (Some BadFocus) None)))) ≡ None
        → IsRight all before e
    by true b c p q g = cc
    by false true c p q g = cc
    by false false true p q g = cc
    by false false false p q g = record { known = p; right = q }

abbrev found : ℕ → CheckKind → Option CheckFault
found line kind = Some (record { line = line; kind = kind })

passed : (all before : List Entry) (e : Entry) (es : List Entry) → fault_of all before e ≡ None → fault_from all before (e ∷ es) ≡ fault_from all (before ++ (e ∷ [])) es
passed all before e es h = rw (h, fault_from) refl

blamed : (all before : List Entry) (e : Entry) (es : List Entry) (kind : CheckKind) → fault_of all before e ≡ Some kind → fault_from all before (e ∷ es) ≡ found e.line kind
blamed all before e es kind h = rw (h, fault_from) refl

-- all items are without one
module _ (all : List Entry) (P : Entry → Type 0) (one : (before : List Entry) (e : Entry) → IsRight all before e → P e) where
  right_from : (before es : List Entry) → fault_from all before es ≡ None → AllByRecursion P es
  right_from before [] h = tt
  right_from before (e ∷ es) h = by (fault_of all before e) refl (right_from (before ++ (e ∷ [])) es)
    where
      by : (o : Option CheckKind) → fault_of all before e ≡ o → (fault_from all (before ++ (e ∷ [])) es ≡ None → AllByRecursion P es) → AllByRecursion P (e ∷ es)
      by None p rest = (one before e (right_entry all before e p), rest (sym (passed all before e es p) ∙ h))
      by (Some kind) p rest = let g = sym (blamed all before e es kind p) ∙ h in absurd cc

-- ---- an item's statements

-- the metric's statements misuse nothing, and nor do the replacements that it takes
record RightMetric (all : List Entry) (m : TheMetric) : Type 0 where
  pub small : AreSmall m.blocks
  pub own : have uses.OtherName (Some m.name) m.blocks ≡ false
  pub kind : have (misuse m.timer) (Some m.name) m.blocks ≡ false
  pub high : have uses.HighArgument None m.blocks ≡ false
  pub taken : list_any (λ name. is_misused m.timer (constraint_named (constraints_in all) name)) m.constraints ≡ false

record RightConstraint (c : TheConstraint) : Type 0 where
  pub small : AreSmall c.blocks
  pub own : have uses.OtherName (own_variable c) c.blocks ≡ false
  pub kind : not c.replace && have uses.AsTimer (Some c.name) c.blocks ≡ false
  pub high : have uses.HighArgument None c.blocks ≡ false

abbrev Sound : List Entry → ℕ → Item → Type 0
Sound all line item = AllByRecursion (RightMetric all) (metric_of line item) × AllByRecursion RightConstraint (constraint_of line item)

right_metric : (all before : List Entry) (line : ℕ) (m : TheMetric) → is_unknown all (Metric m) ≡ false → is_wrong all before (Metric m) ≡ false → HasSmall (Metric m) → RightMetric all (record m { line = line })
right_metric all before line m known right small =
    let kind : Bool = have (misuse m.timer) (Some m.name) m.blocks in
    let taken : Bool = list_any (λ name. is_misused m.timer (constraint_named (constraints_in all) name)) m.constraints in
    let value : Bool = have uses.ObjectValue None m.blocks in
    let a = or_parts (kind || taken || value) (have uses.HighArgument None m.blocks) right in
    let b = or_parts (kind || taken) value a.0 in
    let c = or_parts kind taken b.0 in
    let k = or_parts (list_any (λ name. not (is_some (constraint_named (constraints_in all) name))) m.constraints) (have uses.OtherName (Some m.name) m.blocks) known in
    record { small = small; own = k.1; kind = c.0; high = a.1; taken = c.1 }

right_constraint : (all before : List Entry) (line : ℕ) (c : TheConstraint) → is_unknown all (Constraint c) ≡ false → is_wrong all before (Constraint c) ≡ false → HasSmall (Constraint c) → RightConstraint (record c { line = line })
right_constraint all before line c known right small =
    let path : Bool = not (bytes_eq c.path (codes "/Code") || bytes_eq c.path (codes "/SyncObject")) in
    let timed : Bool = have uses.AsTimer (Some c.name) c.blocks in
    let a = or_parts (path || (not c.replace && timed) || has_bad_value c) (have uses.HighArgument None c.blocks) right in
    let b = or_parts (path || (not c.replace && timed)) (has_bad_value c) a.0 in
    let d = or_parts path (not c.replace && timed) b.0 in
    record { small = small; own = known; kind = d.1; high = a.1 }

sound_item : (all before : List Entry) (line : ℕ) (item : Item) → is_unknown all item ≡ false → is_wrong all before item ≡ false → HasSmall item → Sound all line item
sound_item all before line (Include i) known right small = (tt, tt)
sound_item all before line (Sync s) known right small = (tt, tt)
sound_item all before line (Metric m) known right small = ((right_metric all before line m known right small, tt), tt)
sound_item all before line (Constraint c) known right small = (tt, (right_constraint all before line c known right small, tt))
sound_item all before line (Hypothesis h) known right small = (tt, tt)
sound_item all before line (Search s) known right small = (tt, tt)
sound_item all before line (Phase p) known right small = (tt, tt)
sound_item all before line (Wish w) known right small = (tt, tt)

-- ---- they fit

fitting_metric : (all : List Entry) (m : TheMetric) → RightMetric all m → IsSoundMetric m
fitting_metric all m r = each_fits m.timer (Some m.name) m.blocks r.own r.kind r.high r.small

abbrev own_if : Bool → TheConstraint → Bool
own_if replace c = have uses.OtherName (cond replace None (Some c.name)) c.blocks

fitting_constraint : (c : TheConstraint) → RightConstraint c → IsSoundConstraint c
fitting_constraint c r e =
    each_fits false (Some c.name) c.blocks (ap (λ (b : Bool). own_if b c) (sym e) ∙ r.own)
    (ap (λ (b : Bool). not b && have uses.AsTimer (Some c.name) c.blocks) (sym e) ∙ r.kind) r.high r.small

-- ---- the constraint of a name

-- the same constraint, but for its line
record SameButLine (d c : TheConstraint) : Type 0 where
  pub replace : d.replace ≡ c.replace
  pub blocks : d.blocks ≡ c.blocks

-- the constraint of a name among these is the same
record Named (cs : List TheConstraint) (name : List ℕ) (c : TheConstraint) : Type 0 where
  pub item : TheConstraint
  pub found : constraint_named cs name ≡ Some item
  pub same : SameButLine item c

-- one more item
named_more : (name : List ℕ) (line : ℕ) (item : Item) (rest cs : List TheConstraint) (c : TheConstraint) → (constraint_named rest name ≡ Some c → Named cs name c)
    → constraint_named (constraint_of line item ++ rest) name ≡ Some c → Named (option_to_list (as_constraint item) ++ cs) name c
named_more name line (Include i) rest cs c later h = later h
named_more name line (Sync s) rest cs c later h = later h
named_more name line (Metric m) rest cs c later h = later h
named_more name line (Constraint x) rest cs c later h = by (bytes_eq name x.name) refl h
  where
    by : (b : Bool) → bytes_eq name x.name ≡ b → cond b (Some (record x { line = line })) (constraint_named rest name) ≡ Some c → Named (x ∷ cs) name c
    by true p g =
        let same : record x { line = line } ≡ c = cc in
        record {
          item = x;
          found = ap (λ (b : Bool). cond b (Some x) (constraint_named cs name)) p;
          same = record { replace = ap (λ (y : TheConstraint). y.replace) same; blocks = ap (λ (y : TheConstraint). y.blocks) same };
        }
    by false p g = let r = later g in record { item = r.item; found = ap (λ (b : Bool). cond b (Some x) (constraint_named cs name)) p ∙ r.found; same = r.same }
named_more name line (Hypothesis x) rest cs c later h = later h
named_more name line (Search s) rest cs c later h = later h
named_more name line (Phase p) rest cs c later h = later h
named_more name line (Wish w) rest cs c later h = later h

named_in : (es : List Entry) (name : List ℕ) (c : TheConstraint) → constraint_named (flat_map (λ e. constraint_of e.line e.item) es) name ≡ Some c → Named (constraints_in es) name c
named_in [] name c h = cc
named_in (e ∷ es) name c h = named_more name e.line e.item (flat_map (λ e. constraint_of e.line e.item) es) (constraints_in es) c (named_in es name c) h

of_named : (P : TheConstraint → Type 0) (cs : List TheConstraint) (name : List ℕ) (c : TheConstraint) → AllByRecursion P cs → constraint_named cs name ≡ Some c → P c
of_named P [] name c h e = cc
of_named P (x ∷ cs) name c h e = by (bytes_eq name x.name) (of_named P cs name c h.1) e
  where
    by : (b : Bool) → (constraint_named cs name ≡ Some c → P c) → cond b (Some x) (constraint_named cs name) ≡ Some c → P c
    by true later g = let same : x ≡ c = cc in subst P same h.0
    by false later g = later g

-- the replacements of a metric fit it
taken_fits : (all : List Entry) (m : TheMetric) (cs : List TheConstraint) → cs ≡ flat_map (λ e. constraint_of e.line e.item) all → AllByRecursion RightConstraint cs → RightMetric all m → TakesFitting cs m
taken_fits all m cs same right r =
    all_map (λ name. is_misused m.timer (constraint_named (constraints_in all) name) ≡ false) (λ name. (c : TheConstraint) → constraint_named cs name ≡ Some c → c.replace ≡ true → OfEach (Fits m.timer) c.blocks)
    one m.constraints (none_of (λ name. is_misused m.timer (constraint_named (constraints_in all) name)) m.constraints r.taken)
  where
    one : (name : List ℕ) → is_misused m.timer (constraint_named (constraints_in all) name) ≡ false → (c : TheConstraint) → constraint_named cs name ≡ Some c → c.replace ≡ true → OfEach (Fits m.timer) c.blocks
    one name h c e replace =
        let n = named_in all name c (ap (λ (l : List TheConstraint). constraint_named l name) (sym same) ∙ e) in
        let right_c = of_named RightConstraint cs name c right e in
        let misused : is_misused m.timer (Some n.item) ≡ false = ap (is_misused m.timer) (sym n.found) ∙ h in
        let as_c : c.replace && have (misuse m.timer) None c.blocks ≡ false =
        ap (λ (b : Bool). b && have (misuse m.timer) None c.blocks) (sym n.same.replace) ∙ ap (λ (bs : List Block). n.item.replace && have (misuse m.timer) None bs) (sym n.same.blocks) ∙ misused in
        each_fits m.timer None c.blocks (ap (λ (b : Bool). own_if b c) (sym replace) ∙ right_c.own)
        (ap (λ (b : Bool). b && have (misuse m.timer) None c.blocks) (sym replace) ∙ as_c) right_c.high right_c.small

-- ---- the items are small

abbrev SmallPlaced : PlacedItem → Type 0
SmallPlaced s = HasSmall s.item

all_both : {X : Type 0} (P : X → Type 0) (a b : List X) → AllByRecursion P a → AllByRecursion P b → AllByRecursion P (a ++ b)
all_both P [] b h g = g
all_both P (x ∷ a) b h g = (h.0, all_both P a b h.1 g)

small_taken : (line : ℕ) (metrics : Bool) (shipped : List Item) → AllByRecursion HasSmall shipped → AllByRecursion SmallPlaced (map (placed_item line) (filter (is_taken metrics) shipped))
small_taken line metrics [] h = tt
small_taken line metrics (i ∷ shipped) h = go (is_taken metrics i) (filter (is_taken metrics) shipped) (small_taken line metrics shipped h.1)
  where
    go : (b : Bool) (rest : List Item) → AllByRecursion SmallPlaced (map (placed_item line) rest) → AllByRecursion SmallPlaced (map (placed_item line) (cond b (i ∷ rest) rest))
    go true rest g = (h.0, g)
    go false rest g = g

small_included : (shipped : List Item) (item : Item) → AllByRecursion HasSmall shipped → AllByRecursion SmallPlaced (included shipped item)
small_included shipped (Include i) h = small_taken i.line i.metrics shipped h
small_included shipped (Sync s) h = tt
small_included shipped (Metric m) h = tt
small_included shipped (Constraint c) h = tt
small_included shipped (Hypothesis x) h = tt
small_included shipped (Search s) h = tt
small_included shipped (Phase p) h = tt
small_included shipped (Wish w) h = tt

small_placed : (shipped items : List Item) → AllByRecursion HasSmall shipped → AllByRecursion HasSmall items → AllByRecursion SmallPlaced (placed_items shipped items)
small_placed shipped [] h g = tt
small_placed shipped (i ∷ items) h g = all_both SmallPlaced (with_included shipped i) (placed_items shipped items) (g.0, small_included shipped i h) (small_placed shipped items h g.1)

abbrev SmallEntry : Entry → Type 0
SmallEntry e = HasSmall e.item

small_entries : (es : List Entry) → AllByRecursion SmallPlaced (map placed_of es) → AllByRecursion SmallEntry es
small_entries [] h = tt
small_entries (e ∷ es) h = (h.0, small_entries es h.1)

-- ---- the whole

module _ (all : List Entry) where
  abbrev SoundEntry : Entry → Type 0
  SoundEntry e = Sound all e.line e.item

  metrics_of : (es : List Entry) → AllByRecursion SoundEntry es → AllByRecursion (RightMetric all) (flat_map (λ e. metric_of e.line e.item) es)
  metrics_of [] h = tt
  metrics_of (e ∷ es) h = all_both (RightMetric all) (metric_of e.line e.item) (flat_map (λ e. metric_of e.line e.item) es) h.0.0 (metrics_of es h.1)

  constraints_of : (es : List Entry) → AllByRecursion SoundEntry es → AllByRecursion RightConstraint (flat_map (λ e. constraint_of e.line e.item) es)
  constraints_of [] h = tt
  constraints_of (e ∷ es) h = all_both RightConstraint (constraint_of e.line e.item) (flat_map (λ e. constraint_of e.line e.item) es) h.0.1 (constraints_of es h.1)

  right_entries : first_fault all ≡ None → AllByRecursion SmallEntry all → AllByRecursion SoundEntry all
  right_entries none small =
      all_zip (λ e. SmallEntry e → SoundEntry e) SmallEntry SoundEntry (λ e f s. f s) all
      (right_from all (λ e. SmallEntry e → SoundEntry e) (λ before e r s. sound_item all before e.line e.item r.known r.right s) [] all none) small

pub sound : (t : Resources) (shipped items : List Item) (es : List Entry) → AreEntries t (placed_items shipped items) es → first_fault es ≡ None → AllByRecursion HasSmall shipped → AllByRecursion HasSmall items → IsSoundCheck (checked_of es)
sound t shipped items es are none h g =
    let small = small_entries es (subst (AllByRecursion SmallPlaced) (sym are.places_are) (small_placed shipped items h g)) in
    let all = right_entries es none small in
    let metrics = metrics_of es es all in
    let constraints = constraints_of es es all in
    let cs : List TheConstraint = flat_map (λ e. constraint_of e.line e.item) es in
    let ms : List TheMetric = flat_map (λ e. metric_of e.line e.item) es in
    record {
      metrics = all_map (RightMetric es) IsSoundMetric (fitting_metric es) ms metrics;
      constraints = all_map RightConstraint IsSoundConstraint fitting_constraint cs constraints;
      replacements = all_map (RightMetric es) (TakesFitting cs) (λ m r. taken_fits es m cs refl constraints r) ms metrics;
    }
