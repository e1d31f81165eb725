-- clap takes exactly the words of the grammar, and holds what they give.
use Rattle.std.proofs.Common.{◌≡◌, ℕ, ◌+◌, Bool, true, false, cond, ◌&&◌, List, [], ◌∷◌, ◌++◌, refl, ap, sym, subst, ◌∙◌, ◌⊎◌, inl, inr, Option, None, Some, is_some, codes, map}
use Rattle.std.specs.Prelude.{option_map}
use Rattle.std.specs.Option.{option_map_or}
use Rattle.std.specs.Str.{bytes_eq}
use Rattle.clap.specs.Lexer.{long_of, short_of}
use Rattle.clap.specs.Walk.{Row, Rule, Walk, idle, option, used, settled, arg_by_id, arg_by_index, arg_by_long, is_pending, with_values, without, walked, walk, rows_after, nothing_held}
use Rattle.clap.specs.Simple.{Shape, entered}
use Rattle.clap.specs.Kinds.{Kinds, or_else}
use Rattle.clap.specs.Faults.{use_fault, repeat_fault, settle_fault, positional_fault, turn_fault, walk_fault, flags_fault, level_fault, entered_fault, built_fault}
use Rattle.clap.specs.declared.error.kind.ErrorKind.{ErrorKind}
use Rattle.clap.specs.declared.error.kind.ErrorKind.TheVariants as kind
use Rattle.clap.specs.declared.parser.matches.ValueSource.TheVariants.{CommandLine}
use Rattle.command_words.specs.Grammar as grammar
use Rattle.command_words.specs.Grammar.{Text, Form, NamedValues, kind_of}
use Rattle.command_words.proofs.Machine.{has, behind, by_kind, by_option, by_value, option_named, read, machine_takes}
use Rattle.command_words.proofs.WordKinds.{Word, dashes, simple, long, short, word_is}
use Rattle.command_words.proofs.Rows.{row, place_rule, option_rule, text_reading, PlacesFit, Fits, single_option, has_row-row, with_row}
use Rattle.command_words.proofs.Settling as settling
use Rattle.command_words.proofs.Settling.{Agrees, AreUtf8, Use, leaf, idle_at, waiting_at, held_at, awaiting, together, twice, some_fault, cond_and, none_both, same_text}

module _ (name : Text) (form : Form) (rules : List Rule) (fits : Fits form rules) where
  abbrev shape : Shape
  shape = leaf name rules

  abbrev total : Walk → List Text → Kinds
  total w words = settling.total name form rules fits w words

  abbrev end_rows : Walk → List Text → List Row
  end_rows w words = settling.end_rows name form rules fits w words

  abbrev KnownUse : Option Use → Type 0
  KnownUse p = settling.KnownUse name form rules fits p

  -- ---- before `--`

  abbrev IdleAgrees : List Text → Type 0
  IdleAgrees words = (places : List Text) (taken : NamedValues) (p : Option Use) (i : ℕ) → PlacesFit rules i places → KnownUse p →
      Agrees (cond (twice taken p) None (read form places (together taken p) None words)) (total (idle_at taken p i false) words) (end_rows (idle_at taken p i false) words)

  abbrev WaitingAgrees : List Text → Type 0
  WaitingAgrees words = (places : List Text) (taken : NamedValues) (o : Text) (i : ℕ) → PlacesFit rules i places → arg_by_id rules o ≡ Some (option_rule o) →
      Agrees (read form places taken (Some o) words) (total (waiting_at taken o i false) words) (end_rows (waiting_at taken o i false) words)

  -- what the grammar makes of a word of a kind
  abbrev by_word : List Text → NamedValues → Text → List Text → grammar.Kind → Option NamedValues
  by_word places taken word words kind = by_kind form kind word places taken (behind form places taken words) (λ ps t awaiting. read form ps t awaiting words)

  by_its_kind : (places : List Text) (taken : NamedValues) (p : Option Use) (word : Text) (words : List Text) (kind : grammar.Kind) (k : Kinds) (rows : List Row) → kind_of word ≡ kind →
      Agrees (cond (twice taken p) None (by_word places (together taken p) word words kind)) k rows → Agrees (cond (twice taken p) None (read form places (together taken p) None (word ∷ words))) k rows
  by_its_kind places taken p word words kind k rows e h = subst (λ (x : grammar.Kind). Agrees (cond (twice taken p) None (by_word places (together taken p) word words x)) k rows) (sym e) h

  never : (taken : NamedValues) (p : Option Use) (i : ℕ) (word : Text) (words : List Text) → turn_fault shape [] (idle_at taken p i false) word ≡ kind.UnknownArgument ∷ [] →
      Agrees (cond (twice taken p) None None) (total (idle_at taken p i false) (word ∷ words)) (end_rows (idle_at taken p i false) (word ∷ words))
  never taken p i word words turn =
      subst (λ (r : Option NamedValues). Agrees r (total (idle_at taken p i false) (word ∷ words)) (end_rows (idle_at taken p i false) (word ∷ words))) (sym (none_both (twice taken p) None))
      (settling.stops name form rules fits (idle_at taken p i false) word words kind.UnknownArgument [] turn)

  -- an option whose value is attached
  attached : (taken : NamedValues) (p : Option Use) (i : ℕ) (o v word : Text) (words : List Text) (rest : Option NamedValues) → KnownUse p →
      turn_fault shape [] (idle_at taken p i false) word ≡ or_else (or_else (settle_fault rules false (held_at taken p)) (use_fault false (option_rule o) (v ∷ []) (settled rules (held_at taken p)).rows)) [] →
      walked rules [] (idle_at taken p i false) word ≡ record { held = record { rows = used (option_rule o) (v ∷ []) (settled rules (held_at taken p)).rows; pending = None; skip = 0 }; waiting = idle; position = i; is_trailing = false; stopped = None } →
      Agrees rest (total (idle_at (together taken p ++ (o, v) ∷ []) None i false) words) (end_rows (idle_at (together taken p ++ (o, v) ∷ []) None i false) words) →
      Agrees (cond (twice taken p) None (cond (has o (together taken p)) None rest)) (total (idle_at taken p i false) (word ∷ words)) (end_rows (idle_at taken p i false) (word ∷ words))
  attached taken p i o v word words rest k turn step h = go (twice taken p) refl (has o (together taken p)) refl
    where
      used_fault : twice taken p ≡ false → (b : Bool) → has o (together taken p) ≡ b → use_fault false (option_rule o) (v ∷ []) (settled rules (held_at taken p)).rows ≡ or_else (cond (b && true) (kind.ArgumentConflict ∷ []) []) []
      used_fault f b e =
          (single_option o).fault v (settled rules (held_at taken p)).rows
          ∙ ap (λ (rows : List Row). or_else (repeat_fault false o rows) []) (settling.settle_rows name form rules fits taken p k f)
          ∙ ap (λ (x : Bool). or_else (cond (x && true) (kind.ArgumentConflict ∷ []) []) []) (has_row-row o (together taken p) ∙ e)

      go : (b : Bool) → twice taken p ≡ b → (c : Bool) → has o (together taken p) ≡ c →
          Agrees (cond b None (cond c None rest)) (total (idle_at taken p i false) (word ∷ words)) (end_rows (idle_at taken p i false) (word ∷ words))
      go true f c e = settling.stops name form rules fits (idle_at taken p i false) word words kind.ArgumentConflict []
          (turn ∙ ap (λ (a : Kinds). or_else (or_else a (use_fault false (option_rule o) (v ∷ []) (settled rules (held_at taken p)).rows)) []) (settling.settle_twice name form rules fits taken p k f))
      go false f true e = settling.stops name form rules fits (idle_at taken p i false) word words kind.ArgumentConflict []
          (turn ∙ ap (λ (a : Kinds). or_else (or_else a (use_fault false (option_rule o) (v ∷ []) (settled rules (held_at taken p)).rows)) []) (settling.settle_once name form rules fits taken p k f)
          ∙ ap (λ (a : Kinds). or_else a []) (used_fault f true e))
      go false f false e = settling.goes name form rules fits rest (idle_at taken p i false) (idle_at (together taken p ++ (o, v) ∷ []) None i false) word words
          (turn ∙ ap (λ (a : Kinds). or_else (or_else a (use_fault false (option_rule o) (v ∷ []) (settled rules (held_at taken p)).rows)) []) (settling.settle_once name form rules fits taken p k f)
          ∙ ap (λ (a : Kinds). or_else a []) (used_fault f false e))
          (step ∙ ap (λ (rows : List Row). record { held = record { rows = rows; pending = None; skip = 0 }; waiting = idle; position = i; is_trailing = false; stopped = None })
          ((single_option o).gives v (settled rules (held_at taken p)).rows
          ∙ ap (λ (rows : List Row). with_values o text_reading CommandLine (v ∷ []) (without o rows)) (settling.settle_rows name form rules fits taken p k f)
          ∙ with_row (o, v) (together taken p) e))
          h

  -- an option that awaits its value
  awaits : (taken : NamedValues) (p : Option Use) (i : ℕ) (o word : Text) (words : List Text) (rest : Option NamedValues) → KnownUse p →
      turn_fault shape [] (idle_at taken p i false) word ≡ or_else (settle_fault rules false (held_at taken p)) [] →
      walked rules [] (idle_at taken p i false) word ≡ record { held = record { rows = (settled rules (held_at taken p)).rows; pending = Some (o, []); skip = 0 }; waiting = option o; position = i; is_trailing = false; stopped = None } →
      Agrees rest (total (waiting_at (together taken p) o i false) words) (end_rows (waiting_at (together taken p) o i false) words) →
      Agrees (cond (twice taken p) None rest) (total (idle_at taken p i false) (word ∷ words)) (end_rows (idle_at taken p i false) (word ∷ words))
  awaits taken p i o word words rest k turn step h = go (twice taken p) refl
    where
      go : (b : Bool) → twice taken p ≡ b → Agrees (cond b None rest) (total (idle_at taken p i false) (word ∷ words)) (end_rows (idle_at taken p i false) (word ∷ words))
      go true f = settling.stops name form rules fits (idle_at taken p i false) word words kind.ArgumentConflict [] (turn ∙ ap (λ (a : Kinds). or_else a []) (settling.settle_twice name form rules fits taken p k f))
      go false f = settling.goes name form rules fits rest (idle_at taken p i false) (waiting_at (together taken p) o i false) word words
          (turn ∙ ap (λ (a : Kinds). or_else a []) (settling.settle_once name form rules fits taken p k f))
          (step ∙ ap (λ (rows : List Row). record { held = record { rows = rows; pending = Some (o, []); skip = 0 }; waiting = option o; position = i; is_trailing = false; stopped = None }) (settling.settle_rows name form rules fits taken p k f))
          h

  idle_option : (word : Text) (words : List Text) (name : Text) (val : Option Text) → kind_of word ≡ grammar.option name val → bytes_eq word (codes "--") ≡ false → long_of word ≡ Some (name, val) →
      (found : Option Text) → option_named form.options name ≡ found → IdleAgrees words → WaitingAgrees words → (places : List Text) (taken : NamedValues) (p : Option Use) (i : ℕ) → PlacesFit rules i places → KnownUse p →
      Agrees (cond (twice taken p) None (by_option found val (together taken p) (λ t awaiting. read form places t awaiting words))) (total (idle_at taken p i false) (word ∷ words)) (end_rows (idle_at taken p i false) (word ∷ words))
  unfolding walked
  idle_option word words name val kd b l None e hi hw places taken p i fit k =
      let none : arg_by_long rules name ≡ None = fits.long name ∙ ap (option_map option_rule) e in
      never taken p i word words (rw (b, l, none) refl)
  idle_option word words name (Some v) kd b l (Some o) e hi hw places taken p i fit k =
      let some : arg_by_long rules name ≡ Some (option_rule o) = fits.long name ∙ ap (option_map option_rule) e in
      attached taken p i o v word words (read form places (together taken p ++ (o, v) ∷ []) None words) k (rw (b, l, some) refl) (rw (b, l, some) refl)
      (hi places (together taken p ++ (o, v) ∷ []) None i fit tt)
  idle_option word words name None kd b l (Some o) e hi hw places taken p i fit k =
      let some : arg_by_long rules name ≡ Some (option_rule o) = fits.long name ∙ ap (option_map option_rule) e in
      awaits taken p i o word words (read form places (together taken p) (Some o) words) k (rw (b, l, some) refl) (rw (b, l, some) refl)
      (hw places (together taken p) o i fit (fits.id name o e))

  idle_step : (word : Text) (words : List Text) → Word word → IdleAgrees words → WaitingAgrees words → IdleAgrees (word ∷ words)
  unfolding walked flags_fault
  idle_step word words (dashes kd b) hi hw places taken p i fit k =
      by_its_kind places taken p word words grammar.end_of_options _ _ kd
      (settling.goes name form rules fits (cond (twice taken p) None (behind form places (together taken p) words)) (idle_at taken p i false) (idle_at taken p i true) word words (rw b refl) (rw b refl) (settling.behind_agrees name form rules fits words places taken p i fit k))
  idle_step word words (long name val kd b l) hi hw places taken p i fit k =
      by_its_kind places taken p word words (grammar.option name val) _ _ kd
      (idle_option word words name val kd b l (option_named form.options name) refl hi hw places taken p i fit k)
  idle_step word words (short kd b l c rest s x first) hi hw places taken p i fit k =
      by_its_kind places taken p word words grammar.other_flag _ _ kd (never taken p i word words (rw (b, l, s, first, fits.short x) refl))
  idle_step word words (simple kd b l s) hi hw [] taken p i fit k =
      by_its_kind [] taken p word words grammar.plain _ _ kd (settling.no_place name form rules fits taken p i false word words fit (rw (b, l, s) refl))
  idle_step word words (simple kd b l s) hi hw (place ∷ places) taken p i fit k =
      by_its_kind (place ∷ places) taken p word words grammar.plain _ _ kd
      (settling.place_step name form rules fits taken p i false place word words (read form places (together taken p ++ (place, word) ∷ []) None words) fit.0 fit.2 k (rw (b, l, s) refl) (rw (b, l, s) refl)
      (hi places (together taken p) (Some (place, word)) (i + 1) fit.3 (settling.known_place name form rules fits i place fit.1)))

  -- ---- where an option awaits its value

  wanting : (taken : NamedValues) (o : Text) → arg_by_id rules o ≡ Some (option_rule o) → settle_fault rules false (awaiting taken o) ≡ kind.InvalidValue ∷ []
  wanting taken o e = ap (λ (a : Option Rule). option_map_or (λ a. use_fault false a [] (map row taken)) a []) e

  wanting_end : (taken : NamedValues) (o : Text) (i : ℕ) (trailing : Bool) → arg_by_id rules o ≡ Some (option_rule o) → total (waiting_at taken o i trailing) [] ≡ [] → ⊥
  wanting_end taken o i trailing e h = some_fault kind.InvalidValue [] _ _ (wanting taken o e) (sym (settling.total_end name form rules fits (waiting_at taken o i trailing)) ∙ h)

  -- what the rules say where a word takes a place after an option without its value
  wanting_fault : (places : List Text) (taken : NamedValues) (o : Text) (i : ℕ) → PlacesFit rules i places → arg_by_id rules o ≡ Some (option_rule o) →
      (option_map_or (λ a. positional_fault rules false a (awaiting taken o)) (arg_by_index rules i) (kind.UnknownArgument ∷ []) ≡ kind.UnknownArgument ∷ [])
      ⊎ (option_map_or (λ a. positional_fault rules false a (awaiting taken o)) (arg_by_index rules i) (kind.UnknownArgument ∷ []) ≡ kind.InvalidValue ∷ [])
  wanting_fault [] taken o i fit e = inl (ap (λ (a : Option Rule). option_map_or (λ a. positional_fault rules false a (awaiting taken o)) a (kind.UnknownArgument ∷ [])) fit)
  wanting_fault (place ∷ places) taken o i fit e =
      inr (ap (λ (a : Option Rule). option_map_or (λ a. positional_fault rules false a (awaiting taken o)) a (kind.UnknownArgument ∷ [])) fit.0
      ∙ cond_and (is_pending (place_rule i place) (Some (o, []))) [] (settle_fault rules false (awaiting taken o)) ∙ wanting taken o e)

  wanting_behind : (words : List Text) (places : List Text) (taken : NamedValues) (o : Text) (i : ℕ) → PlacesFit rules i places → arg_by_id rules o ≡ Some (option_rule o) →
      total (waiting_at taken o i true) words ≡ [] → ⊥
  wanting_behind [] places taken o i fit e h = wanting_end taken o i true e h
  wanting_behind (word ∷ words) places taken o i fit e h = go (wanting_fault places taken o i fit e)
    where
      go : (option_map_or (λ a. positional_fault rules false a (awaiting taken o)) (arg_by_index rules i) (kind.UnknownArgument ∷ []) ≡ kind.UnknownArgument ∷ [])
          ⊎ (option_map_or (λ a. positional_fault rules false a (awaiting taken o)) (arg_by_index rules i) (kind.UnknownArgument ∷ []) ≡ kind.InvalidValue ∷ []) → ⊥
      go (inl f) = settling.stops name form rules fits (waiting_at taken o i true) word words kind.UnknownArgument [] f h
      go (inr f) = settling.stops name form rules fits (waiting_at taken o i true) word words kind.InvalidValue [] f h

  by_its_value : (places : List Text) (taken : NamedValues) (o word : Text) (words : List Text) (kind : grammar.Kind) (k : Kinds) (rows : List Row) → kind_of word ≡ kind →
      Agrees (by_value kind o word taken (read form places (taken ++ (o, word) ∷ []) None words)) k rows → Agrees (read form places taken (Some o) (word ∷ words)) k rows
  by_its_value places taken o word words kind k rows e h =
      subst (λ (x : grammar.Kind). Agrees (by_value x o word taken (read form places (taken ++ (o, word) ∷ []) None words)) k rows) (sym e) h

  waiting_option : (word : Text) (name : Text) (val : Option Text) → bytes_eq word (codes "--") ≡ false → long_of word ≡ Some (name, val) →
      (found : Option Text) → option_named form.options name ≡ found → (taken : NamedValues) (o : Text) (i : ℕ) → arg_by_id rules o ≡ Some (option_rule o) →
      (x : ErrorKind) × (turn_fault shape [] (waiting_at taken o i false) word ≡ x ∷ [])
  waiting_option word name val b l None e taken o i known =
      let none : arg_by_long rules name ≡ None = fits.long name ∙ ap (option_map option_rule) e in
      (kind.UnknownArgument, rw (b, l, none) refl)
  waiting_option word name (Some v) b l (Some p) e taken o i known =
      let some : arg_by_long rules name ≡ Some (option_rule p) = fits.long name ∙ ap (option_map option_rule) e in
      let turn : turn_fault shape [] (waiting_at taken o i false) word ≡ or_else (or_else (settle_fault rules false (awaiting taken o)) (use_fault false (option_rule p) (v ∷ []) (settled rules (awaiting taken o)).rows)) [] = rw (b, l, some) refl in
      (kind.InvalidValue, turn ∙ ap (λ (a : Kinds). or_else (or_else a (use_fault false (option_rule p) (v ∷ []) (settled rules (awaiting taken o)).rows)) []) (wanting taken o known))
  waiting_option word name None b l (Some p) e taken o i known =
      let some : arg_by_long rules name ≡ Some (option_rule p) = fits.long name ∙ ap (option_map option_rule) e in
      let turn : turn_fault shape [] (waiting_at taken o i false) word ≡ or_else (settle_fault rules false (awaiting taken o)) [] = rw (b, l, some) refl in
      (kind.InvalidValue, turn ∙ ap (λ (a : Kinds). or_else a []) (wanting taken o known))

  -- a word that is no flag is the value
  valued : (word : Text) (words : List Text) → bytes_eq word (codes "--") ≡ false → long_of word ≡ None → short_of word ≡ None → IdleAgrees words →
      (places : List Text) (taken : NamedValues) (o : Text) (i : ℕ) → PlacesFit rules i places → arg_by_id rules o ≡ Some (option_rule o) →
      Agrees (cond (has o taken) None (read form places (taken ++ (o, word) ∷ []) None words)) (total (waiting_at taken o i false) (word ∷ words)) (end_rows (waiting_at taken o i false) (word ∷ words))
  unfolding walked
  valued word words b l s hi places taken o i fit e =
      settling.goes name form rules fits (cond (has o taken) None (read form places (taken ++ (o, word) ∷ []) None words)) (waiting_at taken o i false) (idle_at taken (Some (o, word)) i false) word words
      (rw (b, l, s) refl) (rw (b, l, s, e, same_text o) refl) (hi places taken (Some (o, word)) i fit (settling.known_option name form rules fits o e))

  waiting_step : (word : Text) (words : List Text) → Word word → IdleAgrees words → WaitingAgrees (word ∷ words)
  unfolding walked flags_fault walk_fault
  waiting_step word words (simple kd b l s) hi places taken o i fit e = by_its_value places taken o word words grammar.plain _ _ kd (valued word words b l s hi places taken o i fit e)
  waiting_step word words (dashes kd b) hi places taken o i fit e =
      by_its_value places taken o word words grammar.end_of_options _ _ kd
      (settling.goes name form rules fits None (waiting_at taken o i false) (waiting_at taken o i true) word words (rw b refl) (rw b refl) (wanting_behind words places taken o i fit e))
  waiting_step word words (long name val kd b l) hi places taken o i fit e =
      let fault = waiting_option word name val b l (option_named form.options name) refl taken o i e in
      by_its_value places taken o word words (grammar.option name val) _ _ kd (settling.stops name form rules fits (waiting_at taken o i false) word words fault.0 [] fault.1)
  waiting_step word words (short kd b l c rest s x first) hi places taken o i fit e =
      by_its_value places taken o word words grammar.other_flag _ _ kd (settling.stops name form rules fits (waiting_at taken o i false) word words kind.UnknownArgument [] (rw (b, l, s, first, fits.short x) refl))

  -- ---- all words

  both : (words : List Text) → AreUtf8 words → IdleAgrees words × WaitingAgrees words
  both [] u = (λ places taken p i fit k. settling.end_at name form rules fits taken p i false k, λ places taken o i fit e. wanting_end taken o i false e)
  both (word ∷ words) u =
      let h = both words u.1 in
      (idle_step word words (word_is word u.0) h.0 h.1, waiting_step word words (word_is word u.0) h.0)

  -- a command with no subcommand enters none
  fault_is : (words : List Text) → built_fault (record { top = shape; subs = [] }) nothing_held words ≡ total (idle_at [] None 1 false) words
  fault_is words = go (walk rules [] nothing_held words).stopped
    where
      go : (stop : Option (Text × List Text)) →
          level_fault shape [] nothing_held words (is_some (entered (record { top = shape; subs = [] }) stop)) (entered_fault (record { top = shape; subs = [] }) stop) ≡ total (idle_at [] None 1 false) words
      go None = refl
      go (Some p) = refl

  pub takes_exactly : (words : List Text) → AreUtf8 words → Agrees (machine_takes form words) (built_fault (record { top = shape; subs = [] }) nothing_held words) (rows_after rules [] words)
  takes_exactly words u = subst (λ (k : Kinds). Agrees (machine_takes form words) k (rows_after rules [] words)) (sym (fault_is words)) ((both words u).0 form.places [] None 1 fits.places tt)
