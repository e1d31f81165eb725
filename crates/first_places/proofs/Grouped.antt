-- Entries with all places of the names.
use Rattle.std.proofs.Common.{◌≡◌, ℕ, zero, suc, ◌+◌, ◌^◌, ◌<◌, cond, Bool, Option, Some, None, List, [], ◌∷◌, ◌++◌, length, slice_get, position, refl, sym, ap, ◌∙◌, bytes_eq, arith, if◌then◌else◌}
use Rattle.std.specs.List.{position_from}
use Rattle.std.specs.Map.{keys_of, lookup}
use Rattle.std.specs.Option.{option_map, option_map_or}
use Rattle.std.proofs.lemmas.Iterator.Adapters.{position_from-zero}
use Rattle.std.proofs.lemmas.List.{length_push, length-map}
use Rattle.std.proofs.lemmas.Map.Entries.{length-keys_of}
use Rattle.first_places.specs.Groups.{first_mentions, places_of}
use Rattle.first_places.specs.Grouped.{AreGrouped}
use Rattle.first_places.specs.Numbers.{with_number, with_name, names_of, IsAdded}
use Rattle.first_places.proofs.AllPlaces.{places_more}
use Rattle.first_places.proofs.Firsts.{any_first, firsts_more, few_firsts}

module _ {K V : Type 0} (now : K → List ℕ) (items : V → List ℕ) where
  name_at : (k : ℕ) (es : List (K × V)) → slice_get (names_of now es) k ≡ option_map (λ e. now e.0) (slice_get es k)
  name_at k [] = refl
  name_at zero (e ∷ es) = refl
  name_at (suc k) (e ∷ es) = name_at k es

  number_from : (name : List ℕ) (i : ℕ) (es : List (K × V)) → position_from (λ key. bytes_eq name (now key)) i (keys_of es) ≡ position_from (bytes_eq name) i (names_of now es)
  number_from name i [] = refl
  number_from name i (e ∷ es) = ap (λ (r : Option ℕ). cond (bytes_eq name (now e.0)) (Some i) r) (number_from name (i + 1) es)

  module _ (all : List (List ℕ)) (es : List (K × V)) (h : AreGrouped now items all es) where
    -- there are no more entries than names
    pub few_entries : length es < 2 ^ 32
    few_entries =
        let same : length (names_of now es) ≡ length (first_mentions all) = ap length h.names in
        omega (arith, h.fits, same, few_firsts (λ name. name) all, length-map (keys_of es) now, length-keys_of es)

    pub count_of : length es ≡ length (first_mentions all)
    count_of = sym (length-keys_of es) ∙ sym (length-map (keys_of es) now) ∙ ap length h.names

    -- the number of a name
    pub number_of : (name : List ℕ) → position (λ key. bytes_eq name (now key)) (keys_of es) ≡ position (bytes_eq name) (first_mentions all)
    number_of name =
        position_from-zero (λ key. bytes_eq name (now key)) (keys_of es)
        ∙ number_from name 0 es
        ∙ sym (position_from-zero (bytes_eq name) (names_of now es))
        ∙ ap (position (bytes_eq name)) h.names

    -- the name of an entry
    pub entry_name : (k : ℕ) → option_map (λ e. now e.0) (slice_get es k) ≡ slice_get (first_mentions all) k
    entry_name k = sym (name_at k es) ∙ ap (λ (names : List (List ℕ)). slice_get names k) h.names

    -- the places in an entry
    pub entry_places : (k : ℕ) (e : K × V) → slice_get es k ≡ Some e → lookup (λ key. bytes_eq (now e.0) (now key)) es ≡ Some e.1
        → items e.1 ≡ option_map_or (λ name. places_of name all) (slice_get (first_mentions all) k) []
    entry_places k e at found =
        sym (ap (λ (o : Option V). option_map_or items o []) found) ∙ h.places (now e.0)
        ∙ ap (λ (o : Option (List ℕ)). option_map_or (λ name. places_of name all) o []) (sym (ap (option_map (λ e. now e.0)) at) ∙ entry_name k)

    pub no_entry : (k : ℕ) → slice_get es k ≡ None → [] ≡ option_map_or (λ name. places_of name all) (slice_get (first_mentions all) k) []
    no_entry k none = ap (λ (o : Option (List ℕ)). option_map_or (λ name. places_of name all) o []) (sym (ap (option_map (λ e. now e.0)) none) ∙ entry_name k)

    -- one more name
    pub places_kept : (name : List ℕ) (fs : List (K × V)) → IsAdded now items name (length all) es fs → length all + 1 < 2 ^ 32 → AreGrouped now items (all ++ name ∷ []) fs
    places_kept name fs added fits = record {
      names = added.names ∙ ap (with_name name) h.names
          ∙ ap (λ (b : Bool). if b then first_mentions all else first_mentions all ++ name ∷ []) (any_first (λ n. n) name all)
          ∙ sym (firsts_more (λ n. n) all name);
      places = λ other. added.numbers other ∙ ap (with_number (bytes_eq other name) (length all)) (h.places other) ∙ sym (places_more other all name);
      fits = omega (arith, length_push all name, fits);
    }
