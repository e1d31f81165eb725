-- The words one at a time give the values that the grammar gives.
use Rattle.std.proofs.Common.{◌≡◌, ℕ, zero, suc, ◌+◌, ◌&&◌, Bool, true, false, List, [], ◌∷◌, ◌++◌, length, drop, get_or, refl, ap, sym, ◌∙◌, subst, Option, None, Some, cond, arith}
use Rattle.std.specs.Prelude.{option_map, slice_get, slice_set}
use Rattle.std.specs.Option.{option_and_then, is_some}
use Rattle.std.specs.List.{list_any, list_all}
use Rattle.std.proofs.lemmas.List.{length-set}
use Rattle.command_words.specs.Grammar.{Text, Form, NamedValues, Kind, end_of_options, option, other_flag, plain, each_once, is_among, given_in, kind_of, taken_of}
use Rattle.command_words.specs.Walks.{slot_of, Values, no_values, value_at, value_of, put_at, with_named, Walk, placed_at, with_place, with_value, optioned, by_kind, by_value, walked, walk_values, values_of}
use Rattle.command_words.proofs.Machine as machine
use Rattle.command_words.proofs.Machine.{has, ended, behind, by_place, by_option, read, machine_takes}
use Rattle.command_words.proofs.ValuesTaken.{has_is, SameGiven}
use Rattle.command_words.proofs.MachineAndGrammar.{find_option, machine_same}
use Rattle.command_words.proofs.Slots.{Known, known_option, known_place, Agree, IsFew, put_agrees, none_at}

-- ---- places

-- the places from the next one on
abbrev next_places : List Text → ℕ → Option Text → List Text
next_places places k None = []
next_places places k (Some name) = name ∷ drop (suc k) places

next_is : (places : List Text) (k : ℕ) → drop k places ≡ next_places places k (slice_get places k)
next_is [] zero = refl
next_is [] (suc k) = refl
next_is (p ∷ ps) zero = refl
next_is (p ∷ ps) (suc k) = next_is ps k ∙ by (slice_get ps k)
  where
    by : (o : Option Text) → next_places ps k o ≡ next_places (p ∷ ps) (suc k) o
    by None = refl
    by (Some name) = refl

-- ---- both ways of reading

-- values for what was taken, or neither
abbrev pub Same : Form → Option Values → Option NamedValues → Type 0
Same form None None = Unit {0}
Same form None (Some t) = ⊥
Same form (Some v) None = ⊥
Same form (Some v) (Some t) = Agree form v t

full_is : (form : Form) (places : List Text) (values : Values) (taken : NamedValues) → Agree form values taken → list_all (λ name. is_some (value_of form values name)) places ≡ list_all (λ place. has place taken) places
full_is form [] values taken agree = refl
full_is form (p ∷ ps) values taken agree =
    ap (λ b. b && list_all (λ name. is_some (value_of form values name)) ps) (ap is_some (agree p) ∙ sym (has_is p taken))
    ∙ ap (λ b. has p taken && b) (full_is form ps values taken agree)

end_agrees : (form : Form) (values : Values) (taken : NamedValues) → Agree form values taken → Same form (cond (list_all (λ name. is_some (value_of form values name)) form.places) (Some values) None) (ended form taken)
end_agrees form values taken agree =
    subst (λ b. Same form (cond b (Some values) None) (ended form taken)) (sym (full_is form form.places values taken agree)) (by (list_all (λ place. has place taken) form.places))
  where
    by : (b : Bool) → Same form (cond b (Some values) None) (cond b (Some taken) None)
    by true = agree
    by false = tt

-- a value is put where the name was not given before
put_same : (form : Form) (few : IsFew form) (values : Values) (taken : NamedValues) (name value : Text) → Known form name → length values ≡ 16 → Agree form values taken → (F : Option Values → Option Values) (g : NamedValues → Option NamedValues) → Same form (F None) None → ((vs : Values) (ts : NamedValues) → length vs ≡ 16 → Agree form vs ts → Same form (F (Some vs)) (g ts)) →
    Same form (F (with_named form values name value)) (cond (has name taken) None (g (taken ++ (name, value) ∷ [])))
put_same form few values taken name value known len agree F g none some =
    subst (λ (o : Option Values). Same form (F o) (cond (has name taken) None (g (taken ++ (name, value) ∷ [])))) (sym put_is)
    (subst (λ b. Same form (F (cond (is_some (get_or values slot None)) None (Some (slice_set values slot (Some value))))) (cond b None (g (taken ++ (name, value) ∷ [])))) (sym has_too) (by (is_some (get_or values slot None)) refl))
  where
    slot : ℕ
    slot = known.0

    there : slot_of form name ≡ Some slot
    there = known.1

    put_is : with_named form values name value ≡ cond (is_some (get_or values slot None)) None (Some (slice_set values slot (Some value)))
    put_is = ap (λ (o : Option ℕ). put_at values o value) there

    value_is : value_of form values name ≡ get_or values slot None
    value_is = ap (value_at values) there

    has_too : has name taken ≡ is_some (get_or values slot None)
    has_too = has_is name taken ∙ ap is_some (sym (agree name)) ∙ ap is_some value_is

    by : (b : Bool) → is_some (get_or values slot None) ≡ b → Same form (F (cond (is_some (get_or values slot None)) None (Some (slice_set values slot (Some value))))) (cond (is_some (get_or values slot None)) None (g (taken ++ (name, value) ∷ [])))
    by true e = subst (λ b. Same form (F (cond b None (Some (slice_set values slot (Some value))))) (cond b None (g (taken ++ (name, value) ∷ [])))) (sym e) none
    by false e =
        let free : is_some (given_in taken name) ≡ false = ap is_some (sym (agree name)) ∙ ap is_some value_is ∙ e in
        subst (λ b. Same form (F (cond b None (Some (slice_set values slot (Some value))))) (cond b None (g (taken ++ (name, value) ∷ [])))) (sym e)
        (some (slice_set values slot (Some value)) (taken ++ (name, value) ∷ []) (length-set values slot (Some value) ∙ len) (put_agrees form few values taken name value slot len there agree free))

abbrev walk_at : Values → ℕ → Option Text → Bool → Walk
walk_at values k awaiting behind = record { values = values; placed = k; awaiting = awaiting; behind = behind }

abbrev run : Form → Walk → List Text → Option Values
run form w words = option_and_then (walk_values form) (walked form w words)

abbrev run_on : Form → List Text → Option Walk → Option Values
run_on form words o = option_and_then (walk_values form) (option_and_then (λ v. walked form v words) o)

-- from values that agree with what was taken both go on the same, wherever the walk stands
record GoesOn (form : Form) (words : List Text) : Type 0 where
  here : (values : Values) (k : ℕ) (taken : NamedValues) → length values ≡ 16 → Agree form values taken → Same form (run form (walk_at values k None false) words) (read form (drop k form.places) taken None words)
  waits : (values : Values) (k : ℕ) (taken : NamedValues) (name : Text) → Known form name → length values ≡ 16 → Agree form values taken → Same form (run form (walk_at values k (Some name) false) words) (read form (drop k form.places) taken (Some name) words)
  past : (values : Values) (k : ℕ) (taken : NamedValues) → length values ≡ 16 → Agree form values taken → Same form (run form (walk_at values k None true) words) (behind form (drop k form.places) taken words)

module _ (form : Form) (few : IsFew form) (words : List Text) (more : GoesOn form words) (values : Values) (k : ℕ) (taken : NamedValues) (len : length values ≡ 16) (agree : Agree form values taken) where
  -- a word for the next place
  place_word : (word : Text) (o : Option Text) → slice_get form.places k ≡ o → Same form (run_on form words (placed_at form (walk_at values k None false) o word)) (by_place (next_places form.places k o) word taken (λ ps t awaiting. read form ps t awaiting words))
  place_word word None e = tt
  place_word word (Some name) e =
      put_same form few values taken name word (known_place form k name e) len agree
      (λ (o : Option Values). run_on form words (option_map (λ vs. record (walk_at values k None false) { values = vs; placed = k + 1 }) o))
      (λ ts. read form (drop (suc k) form.places) ts None words)
      tt
      (λ vs ts l a. subst (λ n. Same form (run form (walk_at vs n None false) words) (read form (drop (suc k) form.places) ts None words)) (suc_is k) (more.here vs (suc k) ts l a))
    where
      suc_is : (k : ℕ) → suc k ≡ k + 1
      suc_is k = omega arith

  past_word : (word : Text) (o : Option Text) → slice_get form.places k ≡ o → Same form (run_on form words (placed_at form (walk_at values k None true) o word)) (behind form (next_places form.places k o) taken (word ∷ words))
  past_word word None e = tt
  past_word word (Some name) e =
      put_same form few values taken name word (known_place form k name e) len agree
      (λ (o : Option Values). run_on form words (option_map (λ vs. record (walk_at values k None true) { values = vs; placed = k + 1 }) o))
      (λ ts. behind form (drop (suc k) form.places) ts words)
      tt
      (λ vs ts l a. subst (λ n. Same form (run form (walk_at vs n None true) words) (behind form (drop (suc k) form.places) ts words)) (suc_is k) (more.past vs (suc k) ts l a))
    where
      suc_is : (k : ℕ) → suc k ≡ k + 1
      suc_is k = omega arith

  -- an option, whose value may stand with it
  option_word : (name : Text) (value : Option Text) (b : Bool) → is_among form.options name ≡ b → Same form (run_on form words (cond b (with_value form (walk_at values k None false) name value) None)) (by_option (cond b (Some name) None) value taken (λ t awaiting. read form (drop k form.places) t awaiting words))
  option_word name value false e = tt
  option_word name None true e = more.waits values k taken name (known_option form name e) len agree
  option_word name (Some value) true e =
      put_same form few values taken name value (known_option form name e) len agree
      (λ (o : Option Values). run_on form words (option_map (λ vs. record (walk_at values k None false) { values = vs }) o))
      (λ ts. read form (drop k form.places) ts None words)
      tt
      (λ vs ts l a. more.here vs k ts l a)

  kind_word : (word : Text) (kind : Kind) → Same form (run_on form words (by_kind form (walk_at values k None false) kind word)) (machine.by_kind form kind word (drop k form.places) taken (behind form (drop k form.places) taken words) (λ ps t awaiting. read form ps t awaiting words))
  kind_word word end_of_options = more.past values k taken len agree
  kind_word word (option name value) =
      subst (λ (o : Option Text). Same form (run_on form words (optioned form (walk_at values k None false) name value)) (by_option o value taken (λ t awaiting. read form (drop k form.places) t awaiting words))) (sym (find_option form.options name))
      (option_word name value (is_among form.options name) refl)
  kind_word word other_flag = tt
  kind_word word plain =
      subst (λ (ps : List Text). Same form (run_on form words (with_place form (walk_at values k None false) word)) (by_place ps word taken (λ ps t awaiting. read form ps t awaiting words))) (sym (next_is form.places k))
      (place_word word (slice_get form.places k) refl)

  value_word : (name word : Text) → Known form name → (kind : Kind) → Same form (run_on form words (by_value form (walk_at values k (Some name) false) name kind word)) (machine.by_value kind name word taken (read form (drop k form.places) (taken ++ (name, word) ∷ []) None words))
  value_word name word known end_of_options = tt
  value_word name word known (option other value) = tt
  value_word name word known other_flag = tt
  value_word name word known plain =
      put_same form few values taken name word known len agree
      (λ (o : Option Values). run_on form words (option_map (λ vs. record (walk_at values k (Some name) false) { values = vs; awaiting = None }) o))
      (λ ts. read form (drop k form.places) ts None words)
      tt
      (λ vs ts l a. more.here vs k ts l a)

  behind_word : (word : Text) → Same form (run_on form words (with_place form (walk_at values k None true) word)) (behind form (drop k form.places) taken (word ∷ words))
  behind_word word =
      subst (λ (ps : List Text). Same form (run_on form words (with_place form (walk_at values k None true) word)) (behind form ps taken (word ∷ words))) (sym (next_is form.places k))
      (past_word word (slice_get form.places k) refl)

goes_on : (form : Form) (few : IsFew form) (words : List Text) → GoesOn form words
goes_on form few [] = record {
  here = λ values k taken len agree. end_agrees form values taken agree;
  waits = λ values k taken name known len agree. tt;
  past = λ values k taken len agree. end_agrees form values taken agree;
}
goes_on form few (word ∷ words) = record {
  here = λ values k taken len agree. kind_word form few words (goes_on form few words) values k taken len agree word (kind_of word);
  waits = λ values k taken name known len agree. value_word form few words (goes_on form few words) values k taken len agree name word known (kind_of word);
  past = λ values k taken len agree. behind_word form few words (goes_on form few words) values k taken len agree word;
}

same_then_given : (form : Form) (v : Option Values) (r t : Option NamedValues) → Same form v r → SameGiven r t → Same form v t
same_then_given form None None t h k = by t k
  where
    by : (t : Option NamedValues) → SameGiven None t → Same form None t
    by None k = tt
    by (Some t) k = absurd k
same_then_given form None (Some r) t h k = absurd h
same_then_given form (Some v) None t h k = absurd h
same_then_given form (Some v) (Some r) None h k = absurd k
same_then_given form (Some v) (Some r) (Some t) h k = λ name. h name ∙ k name

-- The values are those that the grammar takes.
pub same_values : (form : Form) → IsFew form → each_once form.places ≡ true → list_any (is_among form.options) form.places ≡ false → (words : List Text) → Same form (values_of form words) (taken_of form words)
same_values form few once unlike words =
    same_then_given form (values_of form words) (machine_takes form words) (taken_of form words)
    ((goes_on form few words).here no_values 0 [] refl (λ name. none_at (slot_of form name))) (machine_same form once unlike words)
