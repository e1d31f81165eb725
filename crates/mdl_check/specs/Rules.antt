-- What can be wrong with an item.
use Rattle.std.specs.Prelude.{ℕ, zero, suc, ◌==◌, ◌&&◌, ◌||◌, not, nat_lt, nat_le, if◌then◌else◌, Bool, true, false, Option, Some, None, is_some, option_and_then, List, length, map, fold, count_by, slice_get, codes}
use Rattle.std.specs.List.{list_any, list_all}
use Rattle.std.specs.Str.{bytes_eq}
use Rattle.pn_types.specs.declared.focus.Focus.{Focus}
use Rattle.mdl_ast.specs.declared.items.Item.{Item}
use Rattle.mdl_ast.specs.declared.items.Item.TheVariants.{Include, Sync, Metric, Constraint, Hypothesis, Search, Phase, Wish}
use Rattle.mdl_ast.specs.declared.items.Hypothesis.{Hypothesis as TheHypothesis}
use Rattle.mdl_ast.specs.declared.items.PhaseDecl.{PhaseDecl}
use Rattle.mdl_ast.specs.declared.items.Wish.{Wish as TheWish}
use Rattle.mdl_ast.specs.declared.metric.Constraint.{Constraint as TheConstraint}
use Rattle.mdl_ast.specs.declared.metric.Metric.{Metric as TheMetric}
use Rattle.resource_tree.specs.SameNodes.{is_same_code, is_same_number}
use Rattle.mdl_check.specs.Placed.{Entry}
use Rattle.mdl_check.specs.Names.{variable_name, hypothesis_name, phase_name, has_name, constraints_in, constraint_named, metric_number, hypothesis_place}
use Rattle.mdl_check.specs.Statements.{have}
use Rattle.mdl_check.specs.declared.uses.Use.{Use}
use Rattle.mdl_check.specs.declared.uses.Use.TheVariants as uses
use Rattle.mdl_check.specs.declared.fault.CheckKind.{CheckKind}
use Rattle.mdl_check.specs.declared.fault.CheckKind.TheVariants.{TwiceNamed, UnknownName, WrongKind, CyclicParent, BadFocus}

-- ---- named twice

abbrev pub is_include : Bool → Item → Bool
is_include metrics (Include i) = if metrics then i.metrics else not i.metrics
is_include metrics item = false

abbrev pub is_search : Item → Bool
is_search (Search s) = true
is_search item = false

-- the constraint is one of this axis
abbrev pub is_on : List ℕ → Option TheConstraint → Bool
is_on path None = false
is_on path (Some c) = bytes_eq path c.path

-- two of the constraints of these names are of this axis
abbrev pub are_two_on : List Entry → List ℕ → List (List ℕ) → Bool
are_two_on all path names = nat_lt 1 (count_by (λ name. is_on path (constraint_named (constraints_in all) name)) names)

-- both select something, and the same
abbrev pub is_same_focus : Option Focus → Option Focus → Bool
is_same_focus None g = false
is_same_focus (Some f) None = false
is_same_focus (Some f) (Some g) = is_same_code f.code g.code && is_same_number f.hart g.hart && is_same_number f.object g.object

-- from the beginning on a metric of this name is to be shown at this focus
abbrev pub is_shown_by : List ℕ → Option Focus → Item → Option Focus → Bool
is_shown_by metric focus (Wish w) other = (w.at == 0) && w.show && bytes_eq metric w.metric && is_same_focus focus other
is_shown_by metric focus item other = false

-- a metric's name stands before it, or two of its constraints are of one axis
abbrev pub is_metric_repeated : List Entry → List Entry → TheMetric → Bool
is_metric_repeated all before m =
    has_name variable_name m.name before || are_two_on all (codes "/Code") m.constraints || are_two_on all (codes "/SyncObject") m.constraints

-- `global` is a phase without being named
abbrev pub is_phase_repeated : List Entry → PhaseDecl → Bool
is_phase_repeated before p = bytes_eq p.name (codes "global") || has_name phase_name p.name before

abbrev pub is_wish_repeated : List Entry → TheWish → Option Focus → Bool
is_wish_repeated before w focus = (w.at == 0) && w.show && list_any (λ e. is_shown_by w.metric focus e.item e.focus) before

-- an item before it has the same name, or asks for the same
abbrev pub is_repeated : List Entry → List Entry → Item → Option Focus → Bool
is_repeated all before (Include i) focus = list_any (λ e. is_include i.metrics e.item) before
is_repeated all before (Sync s) focus = false
is_repeated all before (Metric m) focus = is_metric_repeated all before m
is_repeated all before (Constraint c) focus = has_name variable_name c.name before
is_repeated all before (Hypothesis h) focus = has_name hypothesis_name h.name before
is_repeated all before (Search s) focus = list_any (λ e. is_search e.item) before
is_repeated all before (Phase p) focus = is_phase_repeated before p
is_repeated all before (Wish w) focus = is_wish_repeated before w focus

-- ---- unknown names

-- an item's own variable: that of its name, and of a replacement `$metric`
abbrev pub own_variable : TheConstraint → Option (List ℕ)
own_variable c = if c.replace then None else Some c.name

abbrev pub is_axis : List ℕ → Bool
is_axis name = bytes_eq name (codes "Code") || bytes_eq name (codes "Machine") || bytes_eq name (codes "SyncObject")

-- the name is none of a hypothesis
abbrev pub is_orphan : List Entry → Option (List ℕ) → Bool
is_orphan all None = false
is_orphan all (Some parent) = not (has_name hypothesis_name parent all)

abbrev pub is_metric_unknown : List Entry → TheMetric → Bool
is_metric_unknown all m =
    list_any (λ name. not (is_some (constraint_named (constraints_in all) name))) m.constraints
    || have uses.OtherName (Some m.name) m.blocks

abbrev pub is_hypothesis_unknown : List Entry → TheHypothesis → Bool
is_hypothesis_unknown all h = not (is_some (metric_number all h.metric)) || is_orphan all h.parent || not (list_all is_axis h.axes)

-- the item names what doesn't stand in the configuration, or a variable that isn't its own
abbrev pub is_unknown : List Entry → Item → Bool
is_unknown all (Include i) = false
is_unknown all (Sync s) = false
is_unknown all (Metric m) = is_metric_unknown all m
is_unknown all (Constraint c) = have uses.OtherName (own_variable c) c.blocks
is_unknown all (Hypothesis h) = is_hypothesis_unknown all h
is_unknown all (Search s) = false
is_unknown all (Phase p) = false
is_unknown all (Wish w) = not (is_some (metric_number all w.metric))

-- ---- wrong kinds

-- how a variable of the other kind is used
abbrev pub misuse : Bool → Use
misuse timer = if timer then uses.AsCounter else uses.AsTimer

-- the constraint is a replacement that uses `$metric` as one of the other kind
abbrev pub is_misused : Bool → Option TheConstraint → Bool
is_misused timer None = false
is_misused timer (Some c) = c.replace && have (misuse timer) None c.blocks

-- `$value` stands only where the constraint is one of an object
abbrev pub has_bad_value : TheConstraint → Bool
has_bad_value c = not (bytes_eq c.path (codes "/SyncObject")) && have uses.ObjectValue None c.blocks

-- the tick of the phase, and else the one before
abbrev pub tick_behind : ℕ → Item → ℕ
tick_behind tick (Phase p) = p.at
tick_behind tick item = tick

-- the tick of the last phase, or 0
abbrev pub last_tick : List Entry → ℕ
last_tick before = fold (λ tick e. tick_behind tick e.item) 0 before

abbrev pub is_metric_wrong : List Entry → TheMetric → Bool
is_metric_wrong all m =
    have (misuse m.timer) (Some m.name) m.blocks
    || list_any (λ name. is_misused m.timer (constraint_named (constraints_in all) name)) m.constraints
    || have uses.ObjectValue None m.blocks
    || have uses.HighArgument None m.blocks

abbrev pub is_constraint_wrong : TheConstraint → Bool
is_constraint_wrong c =
    not (bytes_eq c.path (codes "/Code") || bytes_eq c.path (codes "/SyncObject"))
    || (not c.replace && have uses.AsTimer (Some c.name) c.blocks)
    || has_bad_value c
    || have uses.HighArgument None c.blocks

-- what the item names can't be used so, or a number is out of its range
abbrev pub is_wrong : List Entry → List Entry → Item → Bool
is_wrong all before (Include i) = false
is_wrong all before (Sync s) = false
is_wrong all before (Metric m) = is_metric_wrong all m
is_wrong all before (Constraint c) = is_constraint_wrong c
is_wrong all before (Hypothesis h) = false
is_wrong all before (Search s) = s.window == 0
is_wrong all before (Phase p) = nat_le p.at (last_tick before)
is_wrong all before (Wish w) = (w.at == 0) && not w.show

-- ---- cyclic parents

-- the place of an item's parent
abbrev pub parent_place : List Entry → Item → Option ℕ
parent_place all (Hypothesis h) = option_and_then (hypothesis_place all) h.parent
parent_place all item = None

-- the places of all items' parents
abbrev pub parents_of : List Entry → List (Option ℕ)
parents_of all = map (λ e. parent_place all e.item) all

abbrev pub parent_at : List (Option ℕ) → ℕ → Option ℕ
parent_at parents place = option_and_then (λ parent. parent) (slice_get parents place)

-- the chain of parents from an item on, which may stand at a place, comes to the place sought within n items
abbrev pub leads_to : List (Option ℕ) → ℕ → ℕ → Option ℕ → Bool
leads_to parents zero sought next = false
leads_to parents (suc n) sought None = false
leads_to parents (suc n) sought (Some place) = (place == sought) || leads_to parents n sought (parent_at parents place)

-- the item at this place is its own ancestor; there are no more ancestors than items
abbrev pub is_cyclic : List (Option ℕ) → ℕ → Bool
is_cyclic parents place = leads_to parents (length parents) place (parent_at parents place)

-- ---- bad foci

abbrev pub is_astray : Item → Option Focus → Bool
is_astray (Wish w) focus = not (is_some focus)
is_astray item focus = false

-- ---- faults

-- what is wrong with an item, given all items and those before it; the first of these that fits
abbrev pub fault_of : List Entry → List Entry → Entry → Option CheckKind
fault_of all before e =
    if is_repeated all before e.item e.focus then Some TwiceNamed
    else if is_unknown all e.item then Some UnknownName
    else if is_wrong all before e.item then Some WrongKind
    else if is_cyclic (parents_of all) (length before) then Some CyclicParent
    else if is_astray e.item e.focus then Some BadFocus
    else None
