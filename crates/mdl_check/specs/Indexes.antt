-- For proofs alone: what is kept of the items, so that each name is found at once, and the items by their kinds.
use Rattle.std.specs.Prelude.{ℕ, ◌≡◌, ◌+◌, ◌||◌, true, false, Option, None, List, [], ◌∷◌, ◌++◌, flat_map, option_to_list}
use Rattle.std.specs.List.{list_any}
use Rattle.std.specs.Option.{option_map}
use Rattle.mdl_ast.specs.declared.items.Item.{Item}
use Rattle.mdl_check.specs.Placed.{Entry}
use Rattle.mdl_check.specs.Names.{variable_name, hypothesis_name, phase_name, metric_name, as_constraint, constraints_in}
use Rattle.mdl_check.specs.Rules.{is_include, is_search, last_tick, tick_behind}
use Rattle.mdl_check.specs.Sights.{AreShown, ShowsMore}
use Rattle.mdl_check.specs.Checking.{metric_of, constraint_of, hypothesis_of, phase_of, search_behind, search_in, wish_of}
use Rattle.mdl_check.specs.declared.before.Asked.{Asked}
use Rattle.mdl_check.specs.declared.before.Noted.{Noted}
use Rattle.mdl_check.specs.declared.collect.ByKind.{ByKind}
use Rattle.mdl_check.specs.declared.index.Kept.{Kept}

-- ---- all items

-- the names that items have, of those of one kind
abbrev pub names_in : (Item → Option (List ℕ)) → List Entry → List (List ℕ)
names_in own es = flat_map (λ e. option_to_list (own e.item)) es

abbrev pub metric_names : List Entry → List (List ℕ)
metric_names es = flat_map (λ e. option_to_list (metric_name e.item)) es

abbrev pub constraint_names : List Entry → List (List ℕ)
constraint_names es = flat_map (λ e. option_to_list (option_map (λ c. c.name) (as_constraint e.item))) es

-- the places of the hypotheses, of which the first item stands at place k
abbrev pub place_if : Entry → ℕ → List ℕ
place_if e k = option_to_list (option_map (λ name. k) (hypothesis_name e.item))

abbrev pub places_from : ℕ → List Entry → List ℕ
places_from k [] = []
places_from k (e ∷ es) = place_if e k ++ places_from (k + 1) es

-- this is kept of the items of a list
pub record AreIndexes (es : List Entry) (kept : Kept) : Type 0 where
  pub metrics_are : kept.metrics ≡ metric_names es
  pub constraints_are : kept.constraints ≡ constraint_names es
  pub uses_are : kept.uses.items ≡ constraints_in es
  pub hypotheses_are : kept.hypotheses ≡ names_in hypothesis_name es
  pub places_are : kept.places.items ≡ places_from 0 es

-- the same with one more item, which stands at place k
pub record KeepsMore (e : Entry) (k : ℕ) (old new : Kept) : Type 0 where
  pub metrics : new.metrics ≡ old.metrics ++ option_to_list (metric_name e.item)
  pub constraints : new.constraints ≡ old.constraints ++ option_to_list (option_map (λ c. c.name) (as_constraint e.item))
  pub uses : new.uses.items ≡ old.uses.items ++ option_to_list (as_constraint e.item)
  pub hypotheses : new.hypotheses ≡ old.hypotheses ++ option_to_list (hypothesis_name e.item)
  pub places : new.places.items ≡ old.places.items ++ place_if e k

-- ---- the items before one

abbrev pub none_asked : Asked
none_asked = record { metrics = false; hypotheses = false; search = false; tick = 0 }

abbrev pub asked_behind : Asked → Item → Asked
asked_behind a item = record {
  metrics = a.metrics || is_include true item;
  hypotheses = a.hypotheses || is_include false item;
  search = a.search || is_search item;
  tick = tick_behind a.tick item;
}

pub record NotesMore (e : Entry) (old new : Noted) : Type 0 where
  pub variables : new.variables ≡ old.variables ++ option_to_list (variable_name e.item)
  pub hypotheses : new.hypotheses ≡ old.hypotheses ++ option_to_list (hypothesis_name e.item)
  pub phases : new.phases ≡ old.phases ++ option_to_list (phase_name e.item)
  pub shown : ShowsMore e old.shown.keys new.shown.keys
  pub asked : new.asked ≡ asked_behind old.asked e.item

pub record IsAsked (es : List Entry) (a : Asked) : Type 0 where
  pub metrics : a.metrics ≡ list_any (λ e. is_include true e.item) es
  pub hypotheses : a.hypotheses ≡ list_any (λ e. is_include false e.item) es
  pub search : a.search ≡ list_any (λ e. is_search e.item) es
  pub tick : a.tick ≡ last_tick es

pub record AreNoted (es : List Entry) (noted : Noted) : Type 0 where
  pub variables_are : noted.variables ≡ names_in variable_name es
  pub hypotheses_are : noted.hypotheses ≡ names_in hypothesis_name es
  pub phases_are : noted.phases ≡ names_in phase_name es
  pub shown_are : AreShown es noted.shown.keys
  pub asked_is : IsAsked es noted.asked

-- ---- the items by their kinds

pub record AddsMore (all : List Entry) (e : Entry) (old new : ByKind) : Type 0 where
  pub metrics : new.metrics.items ≡ old.metrics.items ++ metric_of e.line e.item
  pub constraints : new.constraints.items ≡ old.constraints.items ++ constraint_of e.line e.item
  pub hypotheses : new.hypotheses.items ≡ old.hypotheses.items ++ hypothesis_of e.line e.item
  pub search : new.search ≡ search_behind old.search e.line e.item
  pub phases : new.phases.items ≡ old.phases.items ++ phase_of e.line e.item
  pub wishes : new.wishes.items ≡ old.wishes.items ++ wish_of all e.item e.focus

-- these are the items of a list, of which the search is the last
pub record AreByKind (all es : List Entry) (items : ByKind) : Type 0 where
  pub metrics : items.metrics.items ≡ flat_map (λ e. metric_of e.line e.item) es
  pub constraints : items.constraints.items ≡ flat_map (λ e. constraint_of e.line e.item) es
  pub hypotheses : items.hypotheses.items ≡ flat_map (λ e. hypothesis_of e.line e.item) es
  pub search : items.search ≡ search_in None es
  pub phases : items.phases.items ≡ flat_map (λ e. phase_of e.line e.item) es
  pub wishes : items.wishes.items ≡ flat_map (λ e. wish_of all e.item e.focus) es
