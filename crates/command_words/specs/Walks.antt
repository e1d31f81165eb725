-- For proofs alone: the words of a command taken one at a time, with room for one value of each name.
use Rattle.std.specs.Prelude.{ℕ, ◌+◌, ◌&&◌, if◌then◌else◌, Bool, true, false, List, [], ◌∷◌, Option, Some, None, length, option_map, slice_get, slice_index_or, slice_set, replicate}
use Rattle.std.specs.Option.{option_and_then, option_or, is_some, is_none}
use Rattle.std.specs.List.{list_all, position}
use Rattle.std.specs.Str.{bytes_eq}
use Rattle.command_words.specs.Grammar.{Text, Form, Kind, Given, end_of_options, option, other_flag, plain, is_among, kind_of}

-- ---- values

-- the place of a name in some
abbrev pub position_of : List Text → Text → Option ℕ
position_of names name = position (λ n. bytes_eq n name) names

-- the number of a name among those of a form's places and options
abbrev pub slot_of : Form → Text → Option ℕ
slot_of form name = option_or (position_of form.places name) (option_map (λ k. length form.places + k) (position_of form.options name))

-- the values so far, each at the number of its name
abbrev pub Values : Type 0
Values = List (Option Text)

abbrev pub no_values : Values
no_values = replicate 16 None

abbrev pub value_at : Values → Option ℕ → Option Text
value_at values None = None
value_at values (Some slot) = slice_index_or values slot None

abbrev pub value_of : Form → Values → Given
value_of form values name = value_at values (slot_of form name)

-- the values with one more; a name has at most one
abbrev pub put_at : Values → Option ℕ → Text → Option Values
put_at values None value = None
put_at values (Some slot) value = if is_some (slice_index_or values slot None) then None else Some (slice_set values slot (Some value))

abbrev pub with_named : Form → Values → Text → Text → Option Values
with_named form values name value = put_at values (slot_of form name) value

-- ---- the walk

-- the values, how many places have a word, the option that awaits its value, and whether `--` was passed
pub record Walk : Type 0 where
  pub values : Values
  pub placed : ℕ
  pub awaiting : Option Text
  pub behind : Bool

abbrev pub first_step : Walk
first_step = record { values = no_values; placed = 0; awaiting = None; behind = false }

-- a word takes the next place
abbrev pub placed_at : Form → Walk → Option Text → Text → Option Walk
placed_at form w None word = None
placed_at form w (Some name) word = option_map (λ values. record w { values = values; placed = w.placed + 1 }) (with_named form w.values name word)

abbrev pub with_place : Form → Walk → Text → Option Walk
with_place form w word = placed_at form w (slice_get form.places w.placed) word

-- an option and its value, if it stands with it
abbrev pub with_value : Form → Walk → Text → Option Text → Option Walk
with_value form w name None = Some (record w { awaiting = Some name })
with_value form w name (Some value) = option_map (λ values. record w { values = values }) (with_named form w.values name value)

abbrev pub optioned : Form → Walk → Text → Option Text → Option Walk
optioned form w name value = if is_among form.options name then with_value form w name value else None

-- a word where no option awaits its value
abbrev pub by_kind : Form → Walk → Kind → Text → Option Walk
by_kind form w end_of_options word = Some (record w { behind = true })
by_kind form w (option name value) word = optioned form w name value
by_kind form w other_flag word = None
by_kind form w plain word = with_place form w word

-- a word as the value of an option
abbrev pub by_value : Form → Walk → Text → Kind → Text → Option Walk
by_value form w name plain word = option_map (λ values. record w { values = values; awaiting = None }) (with_named form w.values name word)
by_value form w name end_of_options word = None
by_value form w name (option other value) word = None
by_value form w name other_flag word = None

abbrev pub by_awaiting : Form → Walk → Option Text → Text → Option Walk
by_awaiting form w None word = by_kind form w (kind_of word) word
by_awaiting form w (Some name) word = by_value form w name (kind_of word) word

-- the walk after one more word
abbrev pub step : Form → Walk → Text → Option Walk
step form w word = if w.behind then with_place form w word else by_awaiting form w w.awaiting word

abbrev pub walked : Form → Walk → List Text → Option Walk
walked form w [] = Some w
walked form w (word ∷ words) = option_and_then (λ v. walked form v words) (step form w word)

-- at the end no option awaits its value, and each place has its word
abbrev pub is_full : Form → Values → Bool
is_full form values = list_all (λ name. is_some (value_of form values name)) form.places

abbrev pub walk_values : Form → Walk → Option Values
walk_values form w = if is_none w.awaiting && is_full form w.values then Some w.values else None

-- The values that the words of a command give, those after the command's own.
abbrev pub values_of : Form → List Text → Option Values
values_of form words = option_and_then (walk_values form) (walked form first_step words)
