-- What clap holds of the names and values that were taken.
use Rattle.std.proofs.Common.{◌≡◌, ℕ, ◌+◌, Bool, true, false, cond, not, ◌&&◌, ◌||◌, List, [], ◌∷◌, ◌++◌, refl, ap, sym, ◌∙◌, None, Some, map, fold}
use Rattle.std.specs.Prelude.{find, option_map, min}
use Rattle.std.specs.List.{list_any, list_all}
use Rattle.std.specs.Option.{option_map_or}
use Rattle.std.specs.Str.{bytes_eq}
use Rattle.std.proofs.lemmas.List.{map-append, append-nil}
use Rattle.clap.specs.Lexer.{usize_max}
use Rattle.clap.specs.Facts.{explicit_source}
use Rattle.clap.specs.Walk.{Row, Rule, at_row, more_values, without, with_values, used, has_row, is_empty, default_rows, arg_by_id, arg_by_index, arg_by_long, arg_by_short, reading_by, with_default}
use Rattle.clap.specs.Simple.{filled, with_index}
use Rattle.clap.specs.Takes.{is_given}
use Rattle.clap.specs.Kinds.{or_else}
use Rattle.clap.specs.Faults.{use_fault, repeat_fault, default_fault, defaults_fault, given_default_fault}
use Rattle.clap.specs.declared.builder.value_parser.Reading.{Reading}
use Rattle.clap.specs.declared.parser.matches.ValueSource.TheVariants.{CommandLine}
use Rattle.command_words.specs.Apps.{place_arg, option_arg}
use Rattle.command_words.specs.Grammar.{Text, Form, NamedValues}
use Rattle.command_words.proofs.Machine.{has}

-- ---- the rules of a command's positional words and options

abbrev pub place_rule : ℕ → Text → Rule
place_rule i name = with_index i (filled (place_arg name))

abbrev pub option_rule : Text → Rule
option_rule name = filled (option_arg name)

abbrev pub place_rules : ℕ → List Text → List Rule
place_rules i [] = []
place_rules i (name ∷ names) = place_rule i name ∷ place_rules (i + 1) names

abbrev pub rules_of : Form → List Rule
rules_of form = place_rules 1 form.places ++ map option_rule form.options

-- ---- rows

abbrev pub text_reading : Reading
text_reading = reading_by (option_rule [])

abbrev pub row : Text × Text → Row
row t = record { id = t.0; values = t.1 ∷ []; count = None; source = Some CommandLine; reading = text_reading }

pub has_row-row : (id : Text) (taken : NamedValues) → has_row id (map row taken) ≡ has id taken
has_row-row id [] = refl
has_row-row id (t ∷ ts) = ap (λ b. bytes_eq t.0 id || b) (has_row-row id ts)

pub is_given-row : (id : Text) (taken : NamedValues) → is_given id (map row taken) ≡ has id taken
is_given-row id [] = refl
is_given-row id (t ∷ ts) = go (is_given-row id ts) (bytes_eq t.0 id)
  where
    go : is_given id (map row ts) ≡ has id ts → (b : Bool) → option_map_or (λ (r : Row). explicit_source r.source) (cond b (Some (row t)) (find (λ (r : Row). bytes_eq r.id id) (map row ts))) false ≡ (b || has id ts)
    go h true = refl
    go h false = h

absent : (id : Text) (change : Row → List Row) (missing rows : List Row) → has_row id rows ≡ false → at_row id change missing rows ≡ rows ++ missing
absent id change missing [] e = refl
absent id change missing (r ∷ rs) e = go (absent id change missing rs) (bytes_eq r.id id) e
  where
    go : (has_row id rs ≡ false → at_row id change missing rs ≡ rs ++ missing) → (b : Bool) → (b || has_row id rs) ≡ false → cond b (change r ++ rs) (r ∷ at_row id change missing rs) ≡ r ∷ (rs ++ missing)
    go h true f = absurd (cc)
    go h false f = ap (λ xs. r ∷ xs) (h f)

-- a first value of a name is the last row
pub with_row : (t : Text × Text) (taken : NamedValues) → has t.0 taken ≡ false →
    with_values t.0 text_reading CommandLine (t.1 ∷ []) (without t.0 (map row taken)) ≡ map row (taken ++ t ∷ [])
with_row t taken e =
    let none : has_row t.0 (map row taken) ≡ false = has_row-row t.0 taken ∙ e in
    ap (λ rows. with_values t.0 text_reading CommandLine (t.1 ∷ []) rows) (absent t.0 (λ _. []) [] (map row taken) none ∙ append-nil (map row taken))
    ∙ absent t.0 (more_values CommandLine (t.1 ∷ [])) (row t ∷ []) (map row taken) none
    ∙ sym (map-append row taken (t ∷ []))

-- ---- rules that take one text

pub record IsSingle (id : Text) (a : Rule) : Type 0 where
  pub fault : (v : Text) (rows : List Row) → use_fault false a (v ∷ []) rows ≡ or_else (repeat_fault false id rows) []
  pub gives : (v : Text) (rows : List Row) → used a (v ∷ []) rows ≡ with_values id text_reading CommandLine (v ∷ []) (without id rows)

pub single_place : (i : ℕ) (name : Text) → IsSingle name (place_rule i name)
single_place i name = record { fault = λ v rows. refl; gives = λ v rows. refl }

pub single_option : (name : Text) → IsSingle name (option_rule name)
single_option name = record { fault = λ v rows. refl; gives = λ v rows. refl }

-- ---- what the rules say

abbrev pub NoDefaults : List Rule → Type 0
NoDefaults [] = Unit {0}
NoDefaults (a ∷ rules) = (a.defaults ≡ []) × NoDefaults rules

abbrev pub PlacesFit : List Rule → ℕ → List Text → Type 0
PlacesFit rules i [] = arg_by_index rules i ≡ None
PlacesFit rules i (name ∷ names) =
    (arg_by_index rules i ≡ Some (place_rule i name)) × (arg_by_id rules name ≡ Some (place_rule i name)) × (min (i + 1) usize_max ≡ i + 1) × PlacesFit rules (i + 1) names

pub record Fits (form : Form) (rules : List Rule) : Type 0 where
  pub places : PlacesFit rules 1 form.places
  pub long : (text : Text) → arg_by_long rules text ≡ option_map option_rule (find (λ o. bytes_eq o text) form.options)
  pub id : (text o : Text) → find (λ o. bytes_eq o text) form.options ≡ Some o → arg_by_id rules o ≡ Some (option_rule o)
  pub short : (c : ℕ) → arg_by_short rules c ≡ None
  pub defaults : NoDefaults rules
  pub required : (taken : NamedValues) → list_any (λ (a : Rule). a.required && not (is_given a.id (map row taken))) rules ≡ not (list_all (λ place. has place taken) form.places)

-- no default is given
module _ (a : Rule) (none : a.defaults ≡ []) where
  no_default_fault : (rows : List Row) → default_fault rows a ≡ []
  no_default_fault rows = go (has_row a.id rows) a.defaults none
    where
      go : (b : Bool) (ds : List Text) → ds ≡ [] → cond (b || is_empty ds) [] (given_default_fault a ds) ≡ []
      go true ds e = refl
      go false [] e = refl
      go false (d ∷ ds) e = absurd (cc)

  no_default_row : (rows : List Row) → with_default rows a ≡ rows
  no_default_row rows = go (has_row a.id rows) a.defaults none
    where
      go : (b : Bool) (ds : List Text) → ds ≡ [] → cond b rows (default_rows a.id (reading_by a) ds rows) ≡ rows
      go true ds e = refl
      go false [] e = refl
      go false (d ∷ ds) e = absurd (cc)

pub no_defaults_fault : (rules : List Rule) → NoDefaults rules → (rows : List Row) → defaults_fault rows rules ≡ []
unfolding defaults_fault
no_defaults_fault [] h rows = refl
no_defaults_fault (a ∷ rules) h rows =
    ap (λ k. or_else k (defaults_fault (with_default rows a) rules)) (no_default_fault a h.0 rows) ∙ no_defaults_fault rules h.1 (with_default rows a)

pub no_defaults : (rules : List Rule) → NoDefaults rules → (rows : List Row) → fold with_default rows rules ≡ rows
no_defaults [] h rows = refl
no_defaults (a ∷ rules) h rows = ap (λ rs. fold with_default rs rules) (no_default_row a h.0 rows) ∙ no_defaults rules h.1 rows
