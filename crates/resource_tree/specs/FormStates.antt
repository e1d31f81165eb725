-- For proofs alone: the states along a focus text.
use Rattle.std.specs.Prelude.{ℕ, ◌+◌, ◌-◌, ◌==◌, ◌&&◌, ◌||◌, nat_lt, Bool, true, false, if◌then◌else◌, List, [], ◌∷◌, length, slice_get, Option, Some, None, option_and_then}
use Rattle.std.specs.Option.{option_map}
use Rattle.pn_types.specs.GoodNames.{is_name_byte}
use Rattle.pn_types.specs.declared.focus.Axis.{Axis}
use Rattle.pn_types.specs.declared.focus.Axis.TheVariants.{Code, Machine, SyncObject}
use Rattle.resource_tree.specs.FocusTexts.{axis_name, depth, without}
use Rattle.resource_tree.specs.declared.hierarchy.Axes.{Axes}
use Rattle.resource_tree.specs.declared.form.FormState.{FormState}
use Rattle.resource_tree.specs.declared.form.Stage.{Stage}
use Rattle.resource_tree.specs.declared.form.Stage.TheVariants.{Start, Slash, Hierarchy, End, Name}

-- one of the three is left
abbrev pub is_any : Axes → Bool
is_any axes = axes.code || axes.machine || axes.sync_object

-- the hierarchy of these whose name has this byte after its `/`
abbrev pub lettered : Axes → ℕ → Option Axis
lettered axes b =
    if (b == 0x43) && axes.code then Some Code
    else if (b == 0x4d) && axes.machine then Some Machine
    else if (b == 0x53) && axes.sync_object then Some SyncObject
    else None

-- after the first k bytes of a hierarchy's name
abbrev pub in_hierarchy : Axes → Axis → ℕ → FormState
in_hierarchy axes axis k =
    if k == length (axis_name axis) then record { left = without axes axis; stage = End (depth axis) }
    else record { left = axes; stage = Hierarchy axis k }

-- after a whole hierarchy or name, below which `levels` names can stand: a `/` before a name, or a comma before a part
abbrev pub behind_name : Axes → ℕ → ℕ → Option FormState
behind_name axes levels b =
    if (b == 0x2f) && nat_lt 0 levels then Some (record { left = axes; stage = Name (levels - 1) 0 })
    else if (b == 0x2c) && is_any axes then Some (record { left = axes; stage = Start })
    else None

-- there is a byte, and it is this one
abbrev pub is_byte : Option ℕ → ℕ → Bool
is_byte None b = false
is_byte (Some x) b = x == b

-- after one more byte, from each stage
abbrev pub after_at : Axes → Stage → ℕ → Option FormState
after_at axes Start b = if b == 0x2f then Some (record { left = axes; stage = Slash }) else None
after_at axes Slash b = option_map (λ axis. record { left = axes; stage = Hierarchy axis 2 }) (lettered axes b)
after_at axes (Hierarchy axis k) b = if is_byte (slice_get (axis_name axis) k) b then Some (in_hierarchy axes axis (k + 1)) else None
after_at axes (End levels) b = behind_name axes levels b
after_at axes (Name levels len) b =
    if is_name_byte b && nat_lt len 200 then Some (record { left = axes; stage = Name levels (len + 1) })
    else if nat_lt 0 len then behind_name axes levels b
    else None

-- after one more byte; none where no focus text has it there
abbrev pub form_after : FormState → ℕ → Option FormState
form_after s b = after_at s.left s.stage b

-- after some bytes
abbrev pub after_all : Option FormState → List ℕ → Option FormState
after_all s [] = s
after_all s (b ∷ bs) = after_all (option_and_then (λ t. form_after t b) s) bs

-- a focus text can end here
abbrev pub is_whole : Stage → Bool
is_whole Start = false
is_whole Slash = false
is_whole (Hierarchy axis k) = false
is_whole (End levels) = true
is_whole (Name levels len) = nat_lt 0 len
