-- What is left to take, where some places have their words and some options were given.
use Rattle.std.proofs.Common.{◌≡◌, ◌==◌, ◌∷◌, [], ◌++◌, ◌&&◌, ◌||◌, Bool, true, false, not, cond, List, Option, Some, None, length, map, refl, ap, sym, ◌∙◌, subst, append_assoc}
use Rattle.std.specs.List.{list_any, list_all, zip}
use Rattle.std.specs.Str.{bytes_eq}
use Rattle.std.proofs.Math.Bool.{and-false, or-false, or-true}
use Rattle.std.proofs.Math.Dec.{eqb-suc-suc, eqb-suc-zero, eqb-zero-suc}
use Rattle.std.proofs.lemmas.List.{append-nil}
use Rattle.std.proofs.lemmas.List.Folds.{list_all-append, list_any-append}
use Rattle.command_words.specs.Grammar.{Text, Form, NamedValues, is_among, is_named, each_once}
use Rattle.command_words.proofs.Machine.{has, ended}
use Rattle.command_words.proofs.ValuesTaken.{bytes_sym, eq_bytes, not_same, given_zip, given_moved, SameGiven}

-- ---- tests

pub or_no : (a b : Bool) → (a || b) ≡ false → (a ≡ false) × (b ≡ false)
or_no true b e = absurd (cc)
or_no false b e = (refl, e)

and_yes : (a b : Bool) → (a && b) ≡ true → (a ≡ true) × (b ≡ true)
and_yes true b e = (refl, e)
and_yes false b e = absurd (cc)

not_yes : (a : Bool) → not a ≡ true → a ≡ false
not_yes true e = absurd (cc)
not_yes false e = refl

no_known : (a b c : Bool) → ((a && false) && b) && c ≡ false
no_known true b c = refl
no_known false b c = refl

no_free : (a b : Bool) → (a && (false && b)) ≡ false
no_free true b = refl
no_free false b = refl

-- the tests of a first name go to the front
shifted : (a b c d e f : Bool) → (((a && b) && (not c && d)) && (not e && f)) ≡ (not e && (((a && b) && d) && (not c && f)))
shifted a b c d true f = and-false ((a && b) && (not c && d))
shifted true true true true false f = refl
shifted true true true false false f = refl
shifted true true false d false f = refl
shifted true false c d false f = refl
shifted false b c d false f = refl

split_new : (h b a n : Bool) → (not (h || b) && (not a && n)) ≡ (not (b || a) && (not h && n))
split_new true true a n = refl
split_new true false true n = refl
split_new true false false n = refl
split_new false true a n = refl
split_new false false a n = refl

-- ---- what is had

has_more : (name : Text) (taken : NamedValues) (t : Text × Text) → has name (taken ++ t ∷ []) ≡ (has name taken || bytes_eq t.0 name)
has_more name taken t = list_any-append (is_named name) taken (t ∷ []) ∙ ap (λ b. has name taken || b) (or-false (bytes_eq t.0 name))

abbrev pub are_held : List Text → NamedValues → Bool
are_held names taken = list_all (λ name. has name taken) names

abbrev pub is_any_held : List Text → NamedValues → Bool
is_any_held names taken = list_any (λ name. has name taken) names

stay_held : (names : List Text) (taken : NamedValues) (t : Text × Text) → are_held names taken ≡ true → are_held names (taken ++ t ∷ []) ≡ true
stay_held [] taken t e = refl
stay_held (name ∷ names) taken t e =
    let h = and_yes (has name taken) (are_held names taken) e in
    ap (λ b. b && are_held names (taken ++ t ∷ [])) (has_more name taken t ∙ ap (λ b. b || bytes_eq t.0 name) h.0) ∙ stay_held names taken t h.1

-- names unlike a new one are as free as before
stay_free : (names : List Text) (taken : NamedValues) (t : Text × Text) → is_among names t.0 ≡ false → is_any_held names taken ≡ false → is_any_held names (taken ++ t ∷ []) ≡ false
stay_free [] taken t unlike e = refl
stay_free (name ∷ names) taken t unlike e =
    let u = or_no (bytes_eq t.0 name) (is_among names t.0) unlike in
    let h = or_no (has name taken) (is_any_held names taken) e in
    ap (λ b. b || is_any_held names (taken ++ t ∷ [])) (has_more name taken t ∙ ap (λ b. b || bytes_eq t.0 name) h.0 ∙ u.0) ∙ stay_free names taken t u.1 h.1

module _ (form : Form) where
  abbrev pub is_option : Text → Bool
  is_option name = is_among form.options name

  -- ---- where the reading stands

  -- the places that have their words, those that are left, and what was taken
  pub record Stands (done places : List Text) (taken : NamedValues) : Type 0 where
    pub whole : form.places ≡ done ++ places
    pub held : are_held done taken ≡ true
    pub free : is_any_held places taken ≡ false
    pub once : each_once places ≡ true
    pub unlike : list_any is_option places ≡ false

  -- no place is an option
  unlike_option : (places : List Text) (name : Text) → list_any is_option places ≡ false → is_option name ≡ true → is_among places name ≡ false
  unlike_option [] name unlike e = refl
  unlike_option (place ∷ places) name unlike e =
      let u = or_no (is_option place) (list_any is_option places) unlike in
      ap (λ b. b || is_among places name) (not_same form.options name place e u.0) ∙ unlike_option places name u.1 e

  pub stands_placed : (done places : List Text) (place word : Text) (taken : NamedValues) → Stands done (place ∷ places) taken → Stands (done ++ place ∷ []) places (taken ++ (place, word) ∷ [])
  stands_placed done places place word taken s =
      let free = or_no (has place taken) (is_any_held places taken) s.free in
      let once = and_yes (not (is_among places place)) (each_once places) s.once in
      let unlike = or_no (is_option place) (list_any is_option places) s.unlike in
      record {
        whole = s.whole ∙ sym (append_assoc done (place ∷ []) places);
        held = list_all-append (λ name. has name (taken ++ (place, word) ∷ [])) done (place ∷ [])
            ∙ ap (λ b. b && are_held (place ∷ []) (taken ++ (place, word) ∷ [])) (stay_held done taken (place, word) s.held)
            ∙ ap (λ b. b && true) (has_new place word taken);
        free = stay_free places taken (place, word) (not_yes (is_among places place) once.0) free.1;
        once = once.1;
        unlike = unlike.1;
      }
    where
      has_new : (place word : Text) (taken : NamedValues) → has place (taken ++ (place, word) ∷ []) ≡ true
      has_new place word taken = has_more place taken (place, word) ∙ ap (λ b. has place taken || b) (eq_bytes place) ∙ or-true (has place taken)

  pub stands_given : (done places : List Text) (name value : Text) (taken : NamedValues) → is_option name ≡ true → Stands done places taken → Stands done places (taken ++ (name, value) ∷ [])
  stands_given done places name value taken e s = record {
    whole = s.whole;
    held = stay_held done taken (name, value) s.held;
    free = stay_free places taken (name, value) (unlike_option places name s.unlike e) s.free;
    once = s.once;
    unlike = s.unlike;
  }

  -- ---- what is left to take

  abbrev pub names_of : NamedValues → List Text
  names_of options = map (λ o. o.0) options

  abbrev are_new : List Text → NamedValues → Bool
  are_new names taken = list_all (λ name. not (has name taken)) names

  abbrev fit : List Text → NamedValues → List Text → NamedValues → Bool
  fit places taken words options = (((length words == length places) && list_all is_option (names_of options)) && each_once (names_of options)) && are_new (names_of options) taken

  abbrev pub rest : List Text → NamedValues → List Text → NamedValues → Option NamedValues
  rest places taken words options = cond (fit places taken words options) (Some (taken ++ (zip places words ++ options))) None

  -- a word for the next place
  new_still : (names : List Text) (taken : NamedValues) (t : Text × Text) → is_option t.0 ≡ false → list_all is_option names ≡ true → are_new names (taken ++ t ∷ []) ≡ are_new names taken
  new_still [] taken t unlike e = refl
  new_still (name ∷ names) taken t unlike e =
      let h = and_yes (is_option name) (list_all is_option names) e in
      ap (λ b. not b && are_new names (taken ++ t ∷ []))
      (has_more name taken t ∙ ap (λ b. has name taken || b) (differ name t h.0 unlike) ∙ or-false (has name taken))
      ∙ ap (λ b. not (has name taken) && b) (new_still names taken t unlike h.1)
    where
      differ : (name : Text) (t : Text × Text) → is_option name ≡ true → is_option t.0 ≡ false → bytes_eq t.0 name ≡ false
      differ name t e unlike = bytes_sym t.0 name ∙ not_same form.options name t.0 e unlike

  -- a new name is unlike those that are to come
  new_more : (names : List Text) (taken : NamedValues) (t : Text × Text) → are_new names (taken ++ t ∷ []) ≡ (not (is_among names t.0) && are_new names taken)
  new_more [] taken t = refl
  new_more (name ∷ names) taken t =
      ap (λ b. not b && are_new names (taken ++ t ∷ [])) (has_more name taken t)
      ∙ ap (λ b. not (has name taken || bytes_eq t.0 name) && b) (new_more names taken t)
      ∙ split_new (has name taken) (bytes_eq t.0 name) (is_among names t.0) (are_new names taken)

  pub rest_placed : (places : List Text) (place word : Text) (words : List Text) (taken options : NamedValues) → is_option place ≡ false →
      rest (place ∷ places) taken (word ∷ words) options ≡ rest places (taken ++ (place, word) ∷ []) words options
  rest_placed places place word words taken options unlike =
      ap (λ b. cond b (Some (taken ++ ((place, word) ∷ (zip places words ++ options)))) None) (by (list_all is_option (names_of options)) refl)
      ∙ ap (λ (t : NamedValues). cond (fit places (taken ++ (place, word) ∷ []) words options) (Some t) None) (sym (append_assoc taken ((place, word) ∷ []) (zip places words ++ options)))
    where
      by : (b : Bool) → list_all is_option (names_of options) ≡ b → fit (place ∷ places) taken (word ∷ words) options ≡ fit places (taken ++ (place, word) ∷ []) words options
      by true e =
          ap (λ b. ((b && list_all is_option (names_of options)) && each_once (names_of options)) && are_new (names_of options) taken) (eqb-suc-suc (length words) (length places))
          ∙ ap (λ b. (((length words == length places) && list_all is_option (names_of options)) && each_once (names_of options)) && b) (sym (new_still (names_of options) taken (place, word) unlike e))
      by false e =
          ap (λ b. ((((length (word ∷ words)) == (length (place ∷ places))) && b) && each_once (names_of options)) && are_new (names_of options) taken) e
          ∙ no_known ((length (word ∷ words)) == (length (place ∷ places))) (each_once (names_of options)) (are_new (names_of options) taken)
          ∙ sym (no_known (length words == length places) (each_once (names_of options)) (are_new (names_of options) (taken ++ (place, word) ∷ [])))
          ∙ ap (λ b. (((length words == length places) && b) && each_once (names_of options)) && are_new (names_of options) (taken ++ (place, word) ∷ [])) (sym e)

  pub rest_surplus : (word : Text) (words : List Text) (taken options : NamedValues) → rest [] taken (word ∷ words) options ≡ None
  rest_surplus word words taken options =
      ap (λ b. cond (((b && list_all is_option (names_of options)) && each_once (names_of options)) && are_new (names_of options) taken) (Some (taken ++ options)) None) (eqb-suc-zero (length words))

  -- an option
  pub rest_unknown : (places words : List Text) (name value : Text) (taken options : NamedValues) → is_option name ≡ false → rest places taken words ((name, value) ∷ options) ≡ None
  rest_unknown places words name value taken options e =
      ap (λ b. cond b (Some (taken ++ (zip places words ++ (name, value) ∷ options))) None)
      (ap (λ b. (((length words == length places) && (b && list_all is_option (names_of options))) && each_once (names_of ((name, value) ∷ options))) && are_new (names_of ((name, value) ∷ options)) taken) e
      ∙ no_known (length words == length places) (each_once (names_of ((name, value) ∷ options))) (are_new (names_of ((name, value) ∷ options)) taken))

  fit_given : (places words : List Text) (name value : Text) (taken options : NamedValues) → is_option name ≡ true →
      fit places taken words ((name, value) ∷ options) ≡ (not (has name taken) && fit places (taken ++ (name, value) ∷ []) words options)
  fit_given places words name value taken options e =
      ap (λ b. (((length words == length places) && (b && list_all is_option (names_of options))) && each_once (names_of ((name, value) ∷ options))) && are_new (names_of ((name, value) ∷ options)) taken) e
      ∙ shifted (length words == length places) (list_all is_option (names_of options)) (is_among (names_of options) name) (each_once (names_of options)) (has name taken) (are_new (names_of options) taken)
      ∙ ap (λ b. not (has name taken) && ((((length words == length places) && list_all is_option (names_of options)) && each_once (names_of options)) && b)) (sym (new_more (names_of options) taken (name, value)))

  pub rest_twice : (places words : List Text) (name value : Text) (taken options : NamedValues) → is_option name ≡ true → has name taken ≡ true → rest places taken words ((name, value) ∷ options) ≡ None
  rest_twice places words name value taken options e twice =
      ap (λ b. cond b (Some (taken ++ (zip places words ++ (name, value) ∷ options))) None)
      (fit_given places words name value taken options e ∙ ap (λ b. not b && fit places (taken ++ (name, value) ∷ []) words options) twice)

  pub rest_given : (done places words : List Text) (name value : Text) (taken options : NamedValues) → Stands done places taken → is_option name ≡ true → has name taken ≡ false →
      SameGiven (rest places (taken ++ (name, value) ∷ []) words options) (rest places taken words ((name, value) ∷ options))
  rest_given done places words name value taken options s e new =
      subst (λ b. SameGiven (rest places (taken ++ (name, value) ∷ []) words options) (cond b (Some (taken ++ (zip places words ++ (name, value) ∷ options))) None))
      (sym (fit_given places words name value taken options e ∙ ap (λ b. not b && fit places (taken ++ (name, value) ∷ []) words options) new))
      (by (fit places (taken ++ (name, value) ∷ []) words options))
    where
      by : (b : Bool) → SameGiven (cond b (Some ((taken ++ (name, value) ∷ []) ++ (zip places words ++ options))) None) (cond b (Some (taken ++ (zip places words ++ (name, value) ∷ options))) None)
      by true = given_moved taken (zip places words) options name value (given_zip places words name (unlike_option places name s.unlike e))
      by false = tt

  -- the end
  pub rest_end : (done places : List Text) (taken : NamedValues) → Stands done places taken → ended form taken ≡ rest places taken [] []
  rest_end done [] taken s =
      ap (λ (names : List Text). cond (are_held names taken) (Some taken) None) (s.whole ∙ append-nil done)
      ∙ ap (λ b. cond b (Some taken) None) s.held
      ∙ ap (λ (t : NamedValues). Some t) (sym (append-nil taken))
  rest_end done (place ∷ places) taken s =
      let free = or_no (has place taken) (is_any_held places taken) s.free in
      ap (λ (names : List Text). cond (are_held names taken) (Some taken) None) s.whole
      ∙ ap (λ b. cond b (Some taken) None)
      (list_all-append (λ name. has name taken) done (place ∷ places) ∙ ap (λ b. are_held done taken && (b && are_held places taken)) free.0 ∙ and-false (are_held done taken))
      ∙ sym (ap (λ b. cond (((b && true) && true) && true) (Some (taken ++ (zip (place ∷ places) [] ++ []))) None) (eqb-zero-suc (length places)))
