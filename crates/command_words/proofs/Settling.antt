-- What clap says between words, at the end, and of words that take places.
use Rattle.std.proofs.Common.{◌≡◌, ℕ, ◌+◌, Bool, true, false, cond, not, ◌&&◌, ◌||◌, List, [], ◌∷◌, ◌++◌, refl, ap, sym, subst, ◌∙◌, Option, None, Some, map, fold}
use Rattle.std.specs.Prelude.{min}
use Rattle.std.specs.List.{list_all}
use Rattle.std.specs.Option.{option_map_or}
use Rattle.std.specs.Str.{bytes_eq, IsUtf8}
use Rattle.std.proofs.Math.Bool.{or-false}
use Rattle.std.proofs.lemmas.Slice.Eq.{bytes_eq-Decides}
use Rattle.clap.specs.Lexer.{usize_max}
use Rattle.clap.specs.Walk.{Row, Rule, Held, Walk, idle, option, pushed, has_row, settled, settled_rows, used_by_id, arg_by_id, arg_by_index, to_positional, is_pending, walked, finished}
use Rattle.clap.specs.Simple.{Shape, new_shape}
use Rattle.clap.specs.Kinds.{Kinds, or_else, check_kinds}
use Rattle.clap.specs.Faults.{use_fault, settle_fault, positional_fault, turn_fault, walk_fault, defaults_fault, check_fault}
use Rattle.clap.specs.declared.error.kind.ErrorKind.{ErrorKind}
use Rattle.clap.specs.declared.error.kind.ErrorKind.TheVariants as kind
use Rattle.command_words.specs.Grammar.{Text, Form, NamedValues}
use Rattle.command_words.proofs.Machine.{has, ended, behind}
use Rattle.command_words.proofs.Rows.{row, place_rule, option_rule, PlacesFit, Fits, IsSingle, single_place, single_option, has_row-row, with_row, no_defaults_fault, no_defaults}

abbrev pub AreUtf8 : List Text → Type 0
AreUtf8 [] = Unit {0}
AreUtf8 (word ∷ words) = IsUtf8 word × AreUtf8 words

-- ---- where a walk stands

abbrev pub Use : Type 0
Use = Text × Text

abbrev pending_of : Option Use → Option (Text × List Text)
pending_of None = None
pending_of (Some t) = Some (t.0, t.1 ∷ [])

abbrev pub together : NamedValues → Option Use → NamedValues
together taken None = taken
together taken (Some t) = taken ++ t ∷ []

abbrev pub twice : NamedValues → Option Use → Bool
twice taken None = false
twice taken (Some t) = has t.0 taken

abbrev pub held_at : NamedValues → Option Use → Held
held_at taken p = record { rows = map row taken; pending = pending_of p; skip = 0 }

abbrev pub idle_at : NamedValues → Option Use → ℕ → Bool → Walk
idle_at taken p i behind = record { held = held_at taken p; waiting = idle; position = i; is_trailing = behind; stopped = None }

abbrev pub awaiting : NamedValues → Text → Held
awaiting taken name = record { rows = map row taken; pending = Some (name, []); skip = 0 }

abbrev pub waiting_at : NamedValues → Text → ℕ → Bool → Walk
waiting_at taken name i behind = record { held = awaiting taken name; waiting = option name; position = i; is_trailing = behind; stopped = None }

-- ---- what clap says against what the grammar says

abbrev pub Agrees : Option NamedValues → Kinds → List Row → Type 0
Agrees None kinds rows = kinds ≡ [] → ⊥
Agrees (Some taken) kinds rows = (kinds ≡ []) × (rows ≡ map row taken)

agrees : (r s : Option NamedValues) (k l : Kinds) (x y : List Row) → r ≡ s → k ≡ l → x ≡ y → Agrees s l y → Agrees r k x
agrees r s k l x y e f g h = subst (λ r. Agrees r k x) (sym e) (subst (λ k. Agrees s k x) (sym f) (subst (λ x. Agrees s l x) (sym g) h))

pub some_fault : (k : ErrorKind) (ks rest : Kinds) (a : Kinds) → a ≡ k ∷ ks → or_else a rest ≡ [] → ⊥
some_fault k ks rest a e h = let x : k ∷ ks ≡ [] = ap (λ (a : Kinds). or_else a rest) (sym e) ∙ h in cc

pub cond_and : {A : Type 0} (b : Bool) (x y : A) → cond (b && false) x y ≡ y
cond_and true x y = refl
cond_and false x y = refl

pub none_both : (b : Bool) (n : Option NamedValues) → cond b n n ≡ n
none_both true n = refl
none_both false n = refl

pub same_text : (text : Text) → bytes_eq text text ≡ true
same_text text = (bytes_eq-Decides text text).1 refl

-- the form of a command with these rules
abbrev pub leaf : Text → List Rule → Shape
leaf name rules = record (new_shape name) { rules = rules; disable_help_flag = true; disable_help_subcommand = true; disable_version_flag = true; is_built = true }

module _ (name : Text) (form : Form) (rules : List Rule) (fits : Fits form rules) where
  abbrev pub shape : Shape
  shape = leaf name rules

  abbrev tail : Held → Kinds
  tail h = or_else (settle_fault rules false h) (or_else (defaults_fault (settled rules h).rows rules) (check_fault shape (finished rules h) false))

  abbrev pub total : Walk → List Text → Kinds
  total w words = or_else (walk_fault shape [] w words) (tail (fold (walked rules []) w words).held)

  abbrev pub end_rows : Walk → List Text → List Row
  end_rows w words = finished rules (fold (walked rules []) w words).held

  or_else_assoc : (a b c : Kinds) → or_else (or_else a b) c ≡ or_else a (or_else b c)
  or_else_assoc [] b c = refl
  or_else_assoc (k ∷ ks) b c = refl

  total_step : (w : Walk) (word : Text) (words : List Text) → total w (word ∷ words) ≡ or_else (turn_fault shape [] w word) (total (walked rules [] w word) words)
  unfolding walk_fault
  total_step w word words = or_else_assoc (turn_fault shape [] w word) _ _

  pub total_end : (w : Walk) → total w [] ≡ tail w.held
  unfolding walk_fault
  total_end w = refl

  -- one more word that is no fault, and one that is
  pub goes : (r : Option NamedValues) (w v : Walk) (word : Text) (words : List Text) → turn_fault shape [] w word ≡ [] → walked rules [] w word ≡ v →
      Agrees r (total v words) (end_rows v words) → Agrees r (total w (word ∷ words)) (end_rows w (word ∷ words))
  goes r w v word words fine step h =
      agrees r r _ (total v words) _ (end_rows v words) refl
      (total_step w word words ∙ ap (λ (k : Kinds). or_else k (total (walked rules [] w word) words)) fine ∙ ap (λ (u : Walk). total u words) step)
      (ap (λ (u : Walk). end_rows u words) step) h

  pub stops : (w : Walk) (word : Text) (words : List Text) (k : ErrorKind) (ks : Kinds) → turn_fault shape [] w word ≡ k ∷ ks → Agrees None (total w (word ∷ words)) (end_rows w (word ∷ words))
  stops w word words k ks fault e = some_fault k ks _ _ fault (sym (total_step w word words) ∙ e)

  -- ---- settling

  abbrev Known : Text → Type 0
  Known id = (a : Rule) × (arg_by_id rules id ≡ Some a) × IsSingle id a

  abbrev pub KnownUse : Option Use → Type 0
  KnownUse None = Unit {0}
  KnownUse (Some t) = Known t.0

  settle_is : (taken : NamedValues) (t : Use) → Known t.0 → settle_fault rules false (held_at taken (Some t)) ≡ cond (has t.0 taken && true) (kind.ArgumentConflict ∷ []) []
  settle_is taken t k =
      ap (λ (o : Option Rule). option_map_or (λ a. use_fault false a (t.1 ∷ []) (map row taken)) o []) k.1
      ∙ k.2.fault t.1 (map row taken)
      ∙ go (has_row t.0 (map row taken)) (has t.0 taken) (has_row-row t.0 taken)
    where
      go : (a b : Bool) → a ≡ b → or_else (cond (a && true) (kind.ArgumentConflict ∷ []) []) [] ≡ cond (b && true) (kind.ArgumentConflict ∷ []) []
      go true true e = refl
      go false false e = refl
      go true false e = absurd (cc)
      go false true e = absurd (cc)

  pub settle_twice : (taken : NamedValues) (p : Option Use) → KnownUse p → twice taken p ≡ true → settle_fault rules false (held_at taken p) ≡ kind.ArgumentConflict ∷ []
  settle_twice taken None k e = absurd (cc)
  settle_twice taken (Some t) k e = settle_is taken t k ∙ ap (λ b. cond (b && true) (kind.ArgumentConflict ∷ []) []) e

  pub settle_once : (taken : NamedValues) (p : Option Use) → KnownUse p → twice taken p ≡ false → settle_fault rules false (held_at taken p) ≡ []
  settle_once taken None k e = refl
  settle_once taken (Some t) k e = settle_is taken t k ∙ ap (λ b. cond (b && true) (kind.ArgumentConflict ∷ []) []) e

  pub settle_rows : (taken : NamedValues) (p : Option Use) → KnownUse p → twice taken p ≡ false → settled_rows rules (pending_of p) (map row taken) ≡ map row (together taken p)
  settle_rows taken None k e = refl
  settle_rows taken (Some t) k e =
      ap (λ (o : Option Rule). used_by_id o (t.1 ∷ []) (map row taken)) k.1 ∙ k.2.gives t.1 (map row taken) ∙ with_row t taken e

  -- ---- the end

  check_is : (taken : NamedValues) → check_fault shape (map row taken) false ≡ check_kinds false false (not (list_all (λ place. has place taken) form.places))
  check_is taken = ap (λ b. check_kinds false false b) (fits.required taken)

  end_kinds : (h : Held) (taken : NamedValues) → settle_fault rules false h ≡ [] → finished rules h ≡ map row taken →
      tail h ≡ check_kinds false false (not (list_all (λ place. has place taken) form.places))
  end_kinds h taken settles rows =
      ap (λ (a : Kinds). or_else a (or_else (defaults_fault (settled rules h).rows rules) (check_fault shape (finished rules h) false))) settles
      ∙ ap (λ (a : Kinds). or_else a (check_fault shape (finished rules h) false)) (no_defaults_fault rules fits.defaults (settled rules h).rows)
      ∙ ap (λ (rs : List Row). check_fault shape rs false) rows
      ∙ check_is taken

  end_ends : (b : Bool) (taken : NamedValues) → Agrees (cond b (Some taken) None) (check_kinds false false (not b)) (map row taken)
  end_ends true taken = (refl, refl)
  end_ends false taken = λ x. cc

  end_rows_are : (taken : NamedValues) (p : Option Use) → KnownUse p → twice taken p ≡ false → finished rules (held_at taken p) ≡ map row (together taken p)
  end_rows_are taken p k e = no_defaults rules fits.defaults (settled_rows rules (pending_of p) (map row taken)) ∙ settle_rows taken p k e

  end_once : (taken : NamedValues) (p : Option Use) → KnownUse p → twice taken p ≡ false → Agrees (ended form (together taken p)) (tail (held_at taken p)) (finished rules (held_at taken p))
  end_once taken p k e =
      agrees (ended form (together taken p)) (ended form (together taken p)) (tail (held_at taken p)) (check_kinds false false (not (list_all (λ place. has place (together taken p)) form.places)))
      (finished rules (held_at taken p)) (map row (together taken p)) refl
      (end_kinds (held_at taken p) (together taken p) (settle_once taken p k e) (end_rows_are taken p k e)) (end_rows_are taken p k e)
      (end_ends (list_all (λ place. has place (together taken p)) form.places) (together taken p))

  pub end_at : (taken : NamedValues) (p : Option Use) (i : ℕ) (trailing : Bool) → KnownUse p →
      Agrees (cond (twice taken p) None (ended form (together taken p))) (total (idle_at taken p i trailing) []) (end_rows (idle_at taken p i trailing) [])
  end_at taken p i trailing k = subst (λ (x : Kinds). Agrees (cond (twice taken p) None (ended form (together taken p))) x (finished rules (held_at taken p))) (sym (total_end (idle_at taken p i trailing))) (go (twice taken p) refl)
    where
      go : (b : Bool) → twice taken p ≡ b → Agrees (cond b None (ended form (together taken p))) (tail (held_at taken p)) (finished rules (held_at taken p))
      go true e = λ x. some_fault kind.ArgumentConflict [] _ _ (settle_twice taken p k e) x
      go false e = end_once taken p k e

  -- ---- a word that takes a place

  abbrev placed_fault : NamedValues → Option Use → ℕ → Kinds
  placed_fault taken p i = option_map_or (λ a. positional_fault rules false a (held_at taken p)) (arg_by_index rules i) (kind.UnknownArgument ∷ [])

  place_fault : (taken : NamedValues) (p : Option Use) (i : ℕ) (place : Text) → arg_by_index rules i ≡ Some (place_rule i place) →
      placed_fault taken p i ≡ settle_fault rules false (held_at taken p)
  place_fault taken p i place e =
      ap (λ (o : Option Rule). option_map_or (λ a. positional_fault rules false a (held_at taken p)) o (kind.UnknownArgument ∷ [])) e
      ∙ cond_and (is_pending (place_rule i place) (pending_of p)) [] (settle_fault rules false (held_at taken p))

  placed : (taken : NamedValues) (p : Option Use) (i : ℕ) (trailing : Bool) (place word : Text) → arg_by_index rules i ≡ Some (place_rule i place) → min (i + 1) usize_max ≡ i + 1 →
      KnownUse p → twice taken p ≡ false →
      to_positional rules (arg_by_index rules i) word (idle_at taken p i trailing) (held_at taken p) ≡ idle_at (together taken p) (Some (place, word)) (i + 1) trailing
  placed taken p i trailing place word e bound k once =
      ap (λ (o : Option Rule). to_positional rules o word (idle_at taken p i trailing) (held_at taken p)) e
      ∙ ap (λ (h : Held). record { held = pushed place word h; waiting = idle; position = min (i + 1) usize_max; is_trailing = trailing || false; stopped = None }) (cond_and (is_pending (place_rule i place) (pending_of p)) (held_at taken p) (settled rules (held_at taken p)))
      ∙ ap (λ (rows : List Row). record { held = record { rows = rows; pending = Some (place, word ∷ []); skip = 0 }; waiting = idle; position = min (i + 1) usize_max; is_trailing = trailing || false; stopped = None }) (settle_rows taken p k once)
      ∙ ap (λ (n : ℕ). record { held = held_at (together taken p) (Some (place, word)); waiting = idle; position = n; is_trailing = trailing || false; stopped = None }) bound
      ∙ ap (λ (b : Bool). record { held = held_at (together taken p) (Some (place, word)); waiting = idle; position = i + 1; is_trailing = b; stopped = None }) (or-false trailing)

  pub place_step : (taken : NamedValues) (p : Option Use) (i : ℕ) (trailing : Bool) (place word : Text) (words : List Text) (rest : Option NamedValues) →
      arg_by_index rules i ≡ Some (place_rule i place) → min (i + 1) usize_max ≡ i + 1 → KnownUse p →
      turn_fault shape [] (idle_at taken p i trailing) word ≡ placed_fault taken p i →
      walked rules [] (idle_at taken p i trailing) word ≡ to_positional rules (arg_by_index rules i) word (idle_at taken p i trailing) (held_at taken p) →
      Agrees (cond (has place (together taken p)) None rest) (total (idle_at (together taken p) (Some (place, word)) (i + 1) trailing) words) (end_rows (idle_at (together taken p) (Some (place, word)) (i + 1) trailing) words) →
      Agrees (cond (twice taken p) None (cond (has place (together taken p)) None rest)) (total (idle_at taken p i trailing) (word ∷ words)) (end_rows (idle_at taken p i trailing) (word ∷ words))
  place_step taken p i trailing place word words rest e bound k turn step h = go (twice taken p) refl
    where
      go : (b : Bool) → twice taken p ≡ b → Agrees (cond b None (cond (has place (together taken p)) None rest)) (total (idle_at taken p i trailing) (word ∷ words)) (end_rows (idle_at taken p i trailing) (word ∷ words))
      go true f = stops (idle_at taken p i trailing) word words kind.ArgumentConflict [] (turn ∙ place_fault taken p i place e ∙ settle_twice taken p k f)
      go false f =
          goes (cond (has place (together taken p)) None rest) (idle_at taken p i trailing) (idle_at (together taken p) (Some (place, word)) (i + 1) trailing) word words
          (turn ∙ place_fault taken p i place e ∙ settle_once taken p k f) (step ∙ placed taken p i trailing place word e bound k f) h

  pub no_place : (taken : NamedValues) (p : Option Use) (i : ℕ) (trailing : Bool) (word : Text) (words : List Text) → arg_by_index rules i ≡ None →
      turn_fault shape [] (idle_at taken p i trailing) word ≡ placed_fault taken p i →
      Agrees (cond (twice taken p) None None) (total (idle_at taken p i trailing) (word ∷ words)) (end_rows (idle_at taken p i trailing) (word ∷ words))
  no_place taken p i trailing word words e turn =
      subst (λ (r : Option NamedValues). Agrees r (total (idle_at taken p i trailing) (word ∷ words)) (end_rows (idle_at taken p i trailing) (word ∷ words))) (sym (none_both (twice taken p) None))
      (stops (idle_at taken p i trailing) word words kind.UnknownArgument [] (turn ∙ ap (λ (o : Option Rule). option_map_or (λ a. positional_fault rules false a (held_at taken p)) o (kind.UnknownArgument ∷ [])) e))

  pub known_place : (i : ℕ) (place : Text) → arg_by_id rules place ≡ Some (place_rule i place) → Known place
  known_place i place e = (place_rule i place, e, single_place i place)

  pub known_option : (o : Text) → arg_by_id rules o ≡ Some (option_rule o) → Known o
  known_option o e = (option_rule o, e, single_option o)

  -- ---- after `--`

  pub behind_agrees : (words : List Text) (places : List Text) (taken : NamedValues) (p : Option Use) (i : ℕ) → PlacesFit rules i places → KnownUse p →
      Agrees (cond (twice taken p) None (behind form places (together taken p) words)) (total (idle_at taken p i true) words) (end_rows (idle_at taken p i true) words)
  unfolding walked
  behind_agrees [] places taken p i fit k = end_at taken p i true k
  behind_agrees (word ∷ words) [] taken p i fit k = no_place taken p i true word words fit refl
  behind_agrees (word ∷ words) (place ∷ places) taken p i fit k =
      place_step taken p i true place word words (behind form places (together taken p ++ (place, word) ∷ []) words) fit.0 fit.2 k refl refl
      (behind_agrees words places (together taken p) (Some (place, word)) (i + 1) fit.3 (known_place i place fit.1))
