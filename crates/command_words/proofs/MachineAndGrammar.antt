-- The machine gives exactly what the grammar says.
use Rattle.std.proofs.Common.{◌≡◌, ℕ, suc, ◌+◌, ◌∷◌, [], ◌++◌, ◌&&◌, ◌||◌, Bool, true, false, not, cond, List, Option, Some, None, codes, drop, take, refl, ap, sym, ◌∙◌, subst, arith}
use Rattle.std.specs.Prelude.{find}
use Rattle.std.specs.List.{after_first, before_first, filter_map, list_all, list_any, position_or_len, zip}
use Rattle.std.specs.Option.{option_and_then}
use Rattle.std.specs.Str.{bytes_eq}
use Rattle.std.proofs.Math.Bool.{and-true}
use Rattle.command_words.specs.Grammar.{fits, Text, Form, NamedValues, Item, positional, valued, Kind, end_of_options, option, other_flag, plain, kind_of, option_kind, begins, is_separator, is_among, each_once, with_next, with_word, items_of, word_in, option_in, taken_by, taken_of}
use Rattle.command_words.proofs.Machine.{has, behind, by_place, by_option, by_kind, by_value, option_named, read, machine_takes}
use Rattle.command_words.proofs.ValuesTaken.{same_bytes, bytes_sym, SameGiven, same_equal, same_then}
use Rattle.command_words.proofs.LeftToTake.{Stands, names_of, stands_placed, stands_given, rest, rest_placed, rest_surplus, rest_unknown, rest_twice, rest_given, rest_end, or_no, is_any_held}

-- ---- the separator

no_end : (b c : Bool) (name : Text) → cond b (option_kind name) (cond c other_flag plain) ≡ end_of_options → ⊥
no_end true c name e = cc
no_end false true name e = cc
no_end false false name e = cc

-- what a word is that is no separator
no_separator : (word : Text) → is_separator word ≡ false → kind_of word ≡ end_of_options → ⊥
no_separator word e is =
    no_end (begins (codes "--") word) (begins (codes "-") word && not (bytes_eq word (codes "-"))) (drop 2 word)
    (ap (λ b. cond b end_of_options (cond (begins (codes "--") word) (option_kind (drop 2 word)) (cond (begins (codes "-") word && not (bytes_eq word (codes "-"))) other_flag plain))) (sym e) ∙ is)

separator_is : (word : Text) → is_separator word ≡ true → kind_of word ≡ end_of_options
separator_is word e = ap (λ b. cond b end_of_options (cond (begins (codes "--") word) (option_kind (drop 2 word)) (cond (begins (codes "-") word && not (bytes_eq word (codes "-"))) other_flag plain))) e

abbrev before : List Text → List Text
before words = before_first is_separator words

abbrev after : List Text → List Text
after words = after_first is_separator words

one_more : (n : ℕ) → 1 + n ≡ suc n
one_more n = omega arith

module _ (word : Text) (words : List Text) where
  before_here : is_separator word ≡ true → before (word ∷ words) ≡ []
  before_here e = ap (λ b. take (cond (not b) (1 + position_or_len is_separator words) 0) (word ∷ words)) e

  after_here : is_separator word ≡ true → after (word ∷ words) ≡ words
  after_here e = ap (λ b. drop (cond (not b) (1 + position_or_len is_separator words) 0 + 1) (word ∷ words)) e

  before_later : is_separator word ≡ false → before (word ∷ words) ≡ word ∷ before words
  before_later e =
      ap (λ b. take (cond (not b) (1 + position_or_len is_separator words) 0) (word ∷ words)) e
      ∙ ap (λ n. take n (word ∷ words)) (one_more (position_or_len is_separator words))

  after_later : is_separator word ≡ false → after (word ∷ words) ≡ after words
  after_later e =
      ap (λ b. drop (cond (not b) (1 + position_or_len is_separator words) 0 + 1) (word ∷ words)) e
      ∙ ap (λ n. drop n (word ∷ words)) (two_more (position_or_len is_separator words))
    where
      two_more : (n : ℕ) → 1 + n + 1 ≡ suc (n + 1)
      two_more n = omega arith

pub find_option : (options : List Text) (name : Text) → option_named options name ≡ cond (is_among options name) (Some name) None
find_option [] name = refl
find_option (o ∷ os) name = by (find_option os name) (bytes_eq name o) refl
  where
    by : option_named os name ≡ cond (is_among os name) (Some name) None → (b : Bool) → bytes_eq name o ≡ b → option_named (o ∷ os) name ≡ cond (bytes_eq name o || is_among os name) (Some name) None
    by later true e =
        let other : bytes_eq o name ≡ true = bytes_sym o name ∙ e in
        ap (λ b. cond b (Some o) (find (λ o. bytes_eq o name) os)) other ∙ ap Some (sym (same_bytes name o e)) ∙ ap (λ b. cond (b || is_among os name) (Some name) None) (sym e)
    by later false e =
        let other : bytes_eq o name ≡ false = bytes_sym o name ∙ e in
        ap (λ b. cond b (Some o) (find (λ o. bytes_eq o name) os)) other ∙ later ∙ ap (λ b. cond (b || is_among os name) (Some name) None) (sym e)

module _ (form : Form) where
  -- what items give where the reading stands, with words after them that are positional
  abbrev gone : List Text → NamedValues → List Text → Option (List Item) → Option NamedValues
  gone places taken tail None = None
  gone places taken tail (Some items) = rest form places taken (filter_map word_in items ++ tail) (filter_map option_in items)

  behind_same : (words done places : List Text) (taken : NamedValues) → Stands form done places taken → behind form places taken words ≡ rest form places taken words []
  behind_same [] done places taken s = rest_end form done places taken s
  behind_same (word ∷ words) done [] taken s = sym (rest_surplus form word words taken [])
  behind_same (word ∷ words) done (place ∷ places) taken s =
      let free = or_no (has place taken) (is_any_held places taken) s.free in
      let unlike = or_no (is_among form.options place) (list_any (is_among form.options) places) s.unlike in
      ap (λ b. cond b None (behind form places (taken ++ (place, word) ∷ []) words)) free.0
      ∙ behind_same words (done ++ place ∷ []) places (taken ++ (place, word) ∷ []) (stands_placed form done places place word taken s)
      ∙ sym (rest_placed form places place word words taken [] unlike.0)

  -- ---- one word, where those after it are read as they should be

  abbrev Idle : List Text → Type 0
  Idle words = (done places : List Text) (taken : NamedValues) → Stands form done places taken →
      SameGiven (read form places taken None words) (gone places taken (after words) (items_of (before words)))

  abbrev Waits : List Text → Type 0
  Waits words = (done places : List Text) (taken : NamedValues) (name : Text) → Stands form done places taken → is_among form.options name ≡ true →
      SameGiven (read form places taken (Some name) words) (gone places taken (after words) (option_and_then (with_next name) (items_of (before words))))

  module _ (word : Text) (words : List Text) (idle : Idle words) (waits : Waits words) (done places : List Text) (taken : NamedValues) (s : Stands form done places taken) where
    abbrev next : List Text → NamedValues → Option Text → Option NamedValues
    next places taken awaiting = read form places taken awaiting words

    -- an option and its value
    abbrev with_value : Text → Text → List Item → Option (List Item)
    with_value name value items = Some (valued name value ∷ items)

    value_twice : (name value : Text) → is_among form.options name ≡ true → has name taken ≡ true → (items : Option (List Item)) → None ≡ gone places taken (after words) (option_and_then (with_value name value) items)
    value_twice name value e twice None = refl
    value_twice name value e twice (Some items) = sym (rest_twice form places (filter_map word_in items ++ after words) name value taken (filter_map option_in items) e twice)

    value_new : (name value : Text) → is_among form.options name ≡ true → has name taken ≡ false → (items : Option (List Item)) →
        SameGiven (gone places (taken ++ (name, value) ∷ []) (after words) items) (gone places taken (after words) (option_and_then (with_value name value) items))
    value_new name value e new None = tt
    value_new name value e new (Some items) = rest_given form done places (filter_map word_in items ++ after words) name value taken (filter_map option_in items) s e new

    value_same : (name value : Text) → is_among form.options name ≡ true →
        SameGiven (cond (has name taken) None (next places (taken ++ (name, value) ∷ []) None)) (gone places taken (after words) (option_and_then (with_value name value) (items_of (before words))))
    value_same name value e = by (has name taken) refl
      where
        by : (b : Bool) → has name taken ≡ b → SameGiven (cond (has name taken) None (next places (taken ++ (name, value) ∷ []) None)) (gone places taken (after words) (option_and_then (with_value name value) (items_of (before words))))
        by true f = same_equal _ _ (ap (λ b. cond b None (next places (taken ++ (name, value) ∷ []) None)) f ∙ value_twice name value e f (items_of (before words)))
        by false f =
            subst (λ b. SameGiven (cond b None (next places (taken ++ (name, value) ∷ []) None)) (gone places taken (after words) (option_and_then (with_value name value) (items_of (before words))))) (sym f)
            (same_then (next places (taken ++ (name, value) ∷ []) None) (gone places (taken ++ (name, value) ∷ []) (after words) (items_of (before words))) _
            (idle done places (taken ++ (name, value) ∷ []) (stands_given form done places name value taken e s)) (value_new name value e f (items_of (before words))))

    -- an option that the command hasn't
    unknown_value : (name value : Text) → is_among form.options name ≡ false → (items : Option (List Item)) → None ≡ gone places taken (after words) (option_and_then (with_value name value) items)
    unknown_value name value e None = refl
    unknown_value name value e (Some items) = sym (rest_unknown form places (filter_map word_in items ++ after words) name value taken (filter_map option_in items) e)

    unknown_next : (name : Text) → is_among form.options name ≡ false → (items : Option (List Item)) → None ≡ gone places taken (after words) (option_and_then (with_next name) items)
    unknown_next name e None = refl
    unknown_next name e (Some []) = refl
    unknown_next name e (Some (positional value ∷ items)) = sym (rest_unknown form places (filter_map word_in items ++ after words) name value taken (filter_map option_in items) e)
    unknown_next name e (Some (valued other value ∷ items)) = refl

    option_word : (name : Text) (value : Option Text) (b : Bool) → is_among form.options name ≡ b →
        SameGiven (by_option (cond b (Some name) None) value taken (next places)) (gone places taken (after words) (option_and_then (with_word (option name value) word) (items_of (before words))))
    option_word name None true e = waits done places taken name s e
    option_word name (Some value) true e = value_same name value e
    option_word name None false e = same_equal _ _ (unknown_next name e (items_of (before words)))
    option_word name (Some value) false e = same_equal _ _ (unknown_value name value e (items_of (before words)))

    -- a word for the next place
    abbrev with_plain : List Item → Option (List Item)
    with_plain items = Some (positional word ∷ items)

    surplus : (items : Option (List Item)) → None ≡ gone [] taken (after words) (option_and_then with_plain items)
    surplus None = refl
    surplus (Some items) = sym (rest_surplus form word (filter_map word_in items ++ after words) taken (filter_map option_in items))

    takes_place : (place : Text) (places : List Text) → is_among form.options place ≡ false → (items : Option (List Item)) →
        gone places (taken ++ (place, word) ∷ []) (after words) items ≡ gone (place ∷ places) taken (after words) (option_and_then with_plain items)
    takes_place place places e None = refl
    takes_place place places e (Some items) = sym (rest_placed form places place word (filter_map word_in items ++ after words) taken (filter_map option_in items) e)

    place_word : (ps : List Text) → Stands form done ps taken → SameGiven (by_place ps word taken next) (gone ps taken (after words) (option_and_then with_plain (items_of (before words))))
    place_word [] st = same_equal _ _ (surplus (items_of (before words)))
    place_word (place ∷ ps) st =
        let free = or_no (has place taken) (is_any_held ps taken) st.free in
        let unlike = or_no (is_among form.options place) (list_any (is_among form.options) ps) st.unlike in
        subst (λ b. SameGiven (cond b None (next ps (taken ++ (place, word) ∷ []) None)) (gone (place ∷ ps) taken (after words) (option_and_then with_plain (items_of (before words))))) (sym free.0)
        (subst (λ (o : Option NamedValues). SameGiven (next ps (taken ++ (place, word) ∷ []) None) o) (takes_place place ps unlike.0 (items_of (before words)))
        (idle (done ++ place ∷ []) ps (taken ++ (place, word) ∷ []) (stands_placed form done ps place word taken st)))

    no_items : (items : Option (List Item)) → None ≡ gone places taken (after words) (option_and_then (λ items. None) items)
    no_items None = refl
    no_items (Some items) = refl

    kind_word : (kind : Kind) → (kind ≡ end_of_options → ⊥) → (tail : Option NamedValues) →
        SameGiven (by_kind form kind word places taken tail next) (gone places taken (after words) (option_and_then (with_word kind word) (items_of (before words))))
    kind_word end_of_options other tail = absurd (other refl)
    kind_word (option name value) other tail =
        subst (λ (o : Option Text). SameGiven (by_option o value taken (next places)) (gone places taken (after words) (option_and_then (with_word (option name value) word) (items_of (before words))))) (sym (find_option form.options name))
        (option_word name value (is_among form.options name) refl)
    kind_word other_flag other tail = same_equal _ _ (no_items (items_of (before words)))
    kind_word plain other tail = place_word places s

    -- a word that an option awaits
    no_value : (name other : Text) (value : Option Text) (items : Option (List Item)) → None ≡ gone places taken (after words) (option_and_then (with_next name) (option_and_then (with_word (option other value) word) items))
    no_value name other value None = refl
    no_value name other (Some value) (Some items) = refl
    no_value name other None (Some []) = refl
    no_value name other None (Some (positional value ∷ items)) = refl
    no_value name other None (Some (valued another value ∷ items)) = refl

    flag_no_value : (name : Text) (items : Option (List Item)) → None ≡ gone places taken (after words) (option_and_then (with_next name) (option_and_then (with_word other_flag word) items))
    flag_no_value name None = refl
    flag_no_value name (Some items) = refl

    plain_value : (name : Text) (items : Option (List Item)) → option_and_then (with_value name word) items ≡ option_and_then (with_next name) (option_and_then with_plain items)
    plain_value name None = refl
    plain_value name (Some items) = refl

    value_word : (name : Text) → is_among form.options name ≡ true → (kind : Kind) → (kind ≡ end_of_options → ⊥) →
        SameGiven (by_value kind name word taken (next places (taken ++ (name, word) ∷ []) None)) (gone places taken (after words) (option_and_then (with_next name) (option_and_then (with_word kind word) (items_of (before words)))))
    value_word name e end_of_options not = absurd (not refl)
    value_word name e (option other value) not = same_equal _ _ (no_value name other value (items_of (before words)))
    value_word name e other_flag not = same_equal _ _ (flag_no_value name (items_of (before words)))
    value_word name e plain not =
        subst (λ (o : Option (List Item)). SameGiven (cond (has name taken) None (next places (taken ++ (name, word) ∷ []) None)) (gone places taken (after words) o)) (plain_value name (items_of (before words))) (value_same name word e)

  -- ---- all words

  both : (words : List Text) → Idle words × Waits words
  both [] = (λ done places taken s. same_equal _ _ (rest_end form done places taken s), λ done places taken name s e. tt)
  both (word ∷ words) = by (is_separator word) refl (both words)
    where
      by : (b : Bool) → is_separator word ≡ b → Idle words × Waits words → Idle (word ∷ words) × Waits (word ∷ words)
      by true e h = (
        λ done places taken s. same_equal _ _
            (ap (λ (kind : Kind). by_kind form kind word places taken (behind form places taken words) (λ ps t awaiting. read form ps t awaiting words)) (separator_is word e)
            ∙ behind_same words done places taken s
            ∙ ap (λ (tail : List Text). gone places taken tail (Some [])) (sym (after_here word words e))
            ∙ ap (λ (ws : List Text). gone places taken (after (word ∷ words)) (items_of ws)) (sym (before_here word words e))),
        λ done places taken name s known. same_equal _ _
            (ap (λ (kind : Kind). by_value kind name word taken (read form places (taken ++ (name, word) ∷ []) None words)) (separator_is word e)
            ∙ ap (λ (ws : List Text). gone places taken (after (word ∷ words)) (option_and_then (with_next name) (items_of ws))) (sym (before_here word words e))),
      )
      by false e h = (
        λ done places taken s.
            subst (λ (ws : List Text). SameGiven (read form places taken None (word ∷ words)) (gone places taken (after (word ∷ words)) (items_of ws))) (sym (before_later word words e))
            (subst (λ (tail : List Text). SameGiven (read form places taken None (word ∷ words)) (gone places taken tail (items_of (word ∷ before words)))) (sym (after_later word words e))
            (kind_word word words h.0 h.1 done places taken s (kind_of word) (no_separator word e) (behind form places taken words))),
        λ done places taken name s known.
            subst (λ (ws : List Text). SameGiven (read form places taken (Some name) (word ∷ words)) (gone places taken (after (word ∷ words)) (option_and_then (with_next name) (items_of ws)))) (sym (before_later word words e))
            (subst (λ (tail : List Text). SameGiven (read form places taken (Some name) (word ∷ words)) (gone places taken tail (option_and_then (with_next name) (items_of (word ∷ before words))))) (sym (after_later word words e))
            (value_word word words h.0 h.1 done places taken s name known (kind_of word) (no_separator word e))),
      )

  -- ---- the beginning

  none_held : (places : List Text) → is_any_held places [] ≡ false
  none_held [] = refl
  none_held (place ∷ places) = none_held places

  all_new : (names : List Text) → list_all (λ name. not (has name [])) names ≡ true
  all_new [] = refl
  all_new (name ∷ names) = all_new names

  gone_all : (words : List Text) → gone form.places [] (after words) (items_of (before words)) ≡ taken_of form words
  gone_all words = by (items_of (before words))
    where
      by : (items : Option (List Item)) → gone form.places [] (after words) items ≡ option_and_then (λ items. taken_by form (filter_map word_in items ++ after words) (filter_map option_in items)) items
      by None = refl
      by (Some items) =
          ap (λ b. cond (fits form (filter_map word_in items ++ after words) (names_of form (filter_map option_in items)) && b) (Some (zip form.places (filter_map word_in items ++ after words) ++ filter_map option_in items)) None)
          (all_new (names_of form (filter_map option_in items)))
          ∙ ap (λ b. cond b (Some (zip form.places (filter_map word_in items ++ after words) ++ filter_map option_in items)) None) (and-true (fits form (filter_map word_in items ++ after words) (names_of form (filter_map option_in items))))

  -- The machine gives exactly what the grammar says, where no name is that of two places or of a place and an option.
  pub machine_same : each_once form.places ≡ true → list_any (is_among form.options) form.places ≡ false → (words : List Text) → SameGiven (machine_takes form words) (taken_of form words)
  machine_same once unlike words =
      subst (λ (o : Option NamedValues). SameGiven (machine_takes form words) o) (gone_all words)
      ((both words).0 [] form.places [] (record { whole = refl; held = refl; free = none_held form.places; once = once; unlike = unlike }))
