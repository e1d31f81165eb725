-- The book beside the rows: what is kept of them, and that admission and dropping keep it.
use Rattle.std.proofs.Common.{◌≡◌, ℕ, List, [], ◌∷◌, ◌++◌, length, Option, Some, None, refl, sym, ap, ◌∙◌, subst, ⊎_elim, inl, inr}
use Rattle.std.specs.Prelude.{map, filter, find, Bool, true, false, cond, not, ◌&&◌, ◌==◌}
use Rattle.std.proofs.lemmas.Bool.{cases_Bool, cond-true, cond-false, eq-eqb, ne_eqb, and_from, and_left, and_right}
use Rattle.rv_word.specs.Plain.{Words}
use Rattle.tramp_spec.specs.declared.block.Block.{Block}
use Rattle.machine.specs.Cores.{In, Row, Status, Live}
use Rattle.machine.specs.Effects.{with_status, at_set}
use Rattle.machine.specs.Events.{Apart, current_base}
use Rattle.machine.proofs.Lists.{in_map, map_in, in_filter, filter_in}
use Rattle.instrument.specs.Books.{is_held, is_unlinked, leaving, is_base_of, with_hold}
use Rattle.instrument.specs.declared.entry.Entry.{Entry}
use Rattle.instrument.specs.declared.entry.Entry.TheVariants.{Free}
use Rattle.instrument.specs.declared.room.Hold.{Hold}
use Rattle.instrument.specs.declared.room.Hold.TheVariants.{Held, Leaving, Unlinked}
use Rattle.instrument.specs.declared.room.Room.{Room}
use Rattle.instrument.proofs.Stages.{a_row, is_now, Fresh, Idle, Stage, stage, pending, Sound, ending, GoodBase, AllApart, is_held_room, room_row, standing}
use Rattle.instrument.proofs.Folds.{sound_append, sound_left, sound_right, ending_append, pending_append, filter_append, map_append, find_map}
use Rattle.instrument.proofs.Claims.{Claimed}

-- a base block of a site, where its point has none, and room for it
pub record BaseFits (t : Words) (rooms : List Room) (d m : Block) : Type 0 where
  pub good : GoodBase t d
  pub same : d.point ≡ m.point
  pub none : find (is_base_of d.point) rooms ≡ None
  pub free : (x : Room) → In x rooms → Apart x.at x.len d.at (length d.words)
  pub both : Apart d.at (length d.words) m.at (length m.words)

abbrev pub SiteFits : Words → List Room → Option Block → Block → Type 0
SiteFits t rooms None m = (o : Room) × (find (is_base_of m.point) rooms ≡ Some o)
SiteFits t rooms (Some d) m = BaseFits t rooms d m

abbrev pub Based : List Room → Type 0
Based rooms = (x : Room) → In x rooms → x.base ≡ false → is_held x.hold ≡ true → (b : Room) × (find (is_base_of x.point) rooms ≡ Some b)

-- the book and the agenda, after a core with these rows
pub record Booked (t : Words) (rows : List Row) (fr : Fresh) (rooms : List Room) (agenda : List Entry) : Type 0 where
  pub sound : Sound t (stage (filter is_now rows) fr) agenda
  pub ends : ending (stage (filter is_now rows) fr) agenda ≡ stage (standing rooms) Idle
  pub apart : AllApart (rows ++ pending agenda)
  pub claims : Claimed rooms (rows ++ pending agenda)
  pub based : Based rooms

-- what will stand
abbrev pub row_opt : Option Room → Option Row
row_opt None = None
row_opt (Some x) = Some (room_row x)

pub standing_find : (p : ℕ) (xs : List Room) → current_base (standing xs) p ≡ row_opt (find (is_base_of p) xs)
standing_find p [] = refl
standing_find p (x ∷ xs) = by (is_held x.hold) refl (standing_find p xs)
  where
    test : Bool → Bool
    test w = x.base && ((x.point == p) && w)

    by : (w : Bool) → is_held x.hold ≡ w → current_base (standing xs) p ≡ row_opt (find (is_base_of p) xs)
        → current_base (map room_row (cond w (x ∷ filter is_held_room xs) (filter is_held_room xs))) p ≡ row_opt (cond (x.base && ((x.point == p) && is_held x.hold)) (Some x) (find (is_base_of p) xs))
    by true e ih = ⊎_elim
        (λ (t : x.base && ((x.point == p) && true) ≡ true). cond-true (x.base && ((x.point == p) && true)) _ _ t ∙ sym (ap row_opt (cond-true (x.base && ((x.point == p) && is_held x.hold)) (Some x) (find (is_base_of p) xs) (ap (λ w. x.base && ((x.point == p) && w)) e ∙ t))))
        (λ (t : x.base && ((x.point == p) && true) ≡ false). cond-false (x.base && ((x.point == p) && true)) _ _ t ∙ (ih ∙ sym (ap row_opt (cond-false (x.base && ((x.point == p) && is_held x.hold)) (Some x) (find (is_base_of p) xs) (ap (λ w. x.base && ((x.point == p) && w)) e ∙ t)))))
        (cases_Bool (x.base && ((x.point == p) && true)))
    by false e ih = ih ∙ sym (ap row_opt (cond-false (x.base && ((x.point == p) && is_held x.hold)) (Some x) (find (is_base_of p) xs) (and_right x.base _ (and_right ((x.point == p)) (is_held x.hold) e))))

pub in_standing : (xs : List Room) (r : Row) → In r (standing xs) → (x : Room) × In x xs × (is_held x.hold ≡ true) × (r ≡ room_row x)
in_standing xs r h = let o = in_map room_row (filter is_held_room xs) r h in let z = in_filter is_held_room xs o.0 o.1 in (o.0, z.0, z.1, o.2)

pub standing_in : (xs : List Room) (x : Room) → In x xs → is_held x.hold ≡ true → In (room_row x) (standing xs)
standing_in xs x h e = map_in room_row (filter is_held_room xs) x (filter_in is_held_room xs x h e)

pub standing_append : (xs ys : List Room) → standing (xs ++ ys) ≡ standing xs ++ standing ys
standing_append xs ys = ap (map room_row) (filter_append is_held_room xs ys) ∙ map_append room_row (filter is_held_room xs) (filter is_held_room ys)

-- holds that some rooms lose
pub standing_less : (h : Room → Hold) (q : Row → Bool) (xs : List Room)
    → ((x : Room) → In x xs → is_held (h x) ≡ (is_held x.hold && q (room_row x)))
    → standing (map (with_hold h) xs) ≡ filter q (standing xs)
standing_less h q [] a = refl
standing_less h q (x ∷ xs) a = by (is_held x.hold) (q (room_row x)) refl refl (a x (inl refl)) (standing_less h q xs (λ y i. a y (inr i)))
  where
    by : (w v : Bool) → is_held x.hold ≡ w → q (room_row x) ≡ v → is_held (h x) ≡ (is_held x.hold && q (room_row x)) → standing (map (with_hold h) xs) ≡ filter q (standing xs)
        → map room_row (cond (is_held (h x)) (with_hold h x ∷ filter is_held_room (map (with_hold h) xs)) (filter is_held_room (map (with_hold h) xs))) ≡ filter q (map room_row (cond w (x ∷ filter is_held_room xs) (filter is_held_room xs)))
    by true true e g k ih = ap (map room_row) (cond-true (is_held (h x)) _ _ (k ∙ and_from _ _ e g)) ∙ (ap (λ l. room_row x ∷ l) ih ∙ sym (cond-true (q (room_row x)) _ _ g))
    by true false e g k ih = ap (map room_row) (cond-false (is_held (h x)) _ _ (k ∙ and_right (is_held x.hold) (q (room_row x)) g)) ∙ (ih ∙ sym (cond-false (q (room_row x)) _ _ g))
    by false v e g k ih = ap (map room_row) (cond-false (is_held (h x)) _ _ (k ∙ and_left (is_held x.hold) (q (room_row x)) e)) ∙ ih

-- holds that change and are held as before
pub standing_same : (h : Room → Hold) (xs : List Room) → ((x : Room) → In x xs → is_held (h x) ≡ is_held x.hold) → standing (map (with_hold h) xs) ≡ standing xs
standing_same h [] a = refl
standing_same h (x ∷ xs) a = by (is_held x.hold) refl (a x (inl refl)) (standing_same h xs (λ y i. a y (inr i)))
  where
    by : (w : Bool) → is_held x.hold ≡ w → is_held (h x) ≡ is_held x.hold → standing (map (with_hold h) xs) ≡ standing xs
        → map room_row (cond (is_held (h x)) (with_hold h x ∷ filter is_held_room (map (with_hold h) xs)) (filter is_held_room (map (with_hold h) xs))) ≡ map room_row (cond w (x ∷ filter is_held_room xs) (filter is_held_room xs))
    by true e k ih = ap (map room_row) (cond-true (is_held (h x)) _ _ (k ∙ e)) ∙ ap (λ l. room_row x ∷ l) ih
    by false e k ih = ap (map room_row) (cond-false (is_held (h x)) _ _ (k ∙ e)) ∙ ih

pub find_map_in : {A : Type 0} (p : A → Bool) (g : A → A) (xs : List A) → ((x : A) → In x xs → p (g x) ≡ p x) → (y : A) → find p xs ≡ Some y → find p (map g xs) ≡ Some (g y)
find_map_in p g xs h y e = find_map p g xs h y e

pub based_hold : (h : Room → Hold) (xs : List Room) → ((x : Room) → In x xs → is_held (h x) ≡ is_held x.hold) → Based xs → Based (map (with_hold h) xs)
based_hold h xs a b y i m e =
    let o = in_map (with_hold h) xs y i in
    let w = b o.0 o.1 (sym (ap (λ (u : Room). u.base) o.2) ∙ m) (sym (a o.0 o.1) ∙ (sym (ap (λ (u : Room). is_held u.hold) o.2) ∙ e)) in (
      with_hold h w.0,
      subst (λ (u : Room). find (is_base_of u.point) (map (with_hold h) xs) ≡ Some (with_hold h w.0)) (sym o.2)
          (find_map (is_base_of (o.0).point) (with_hold h) xs (λ z j. ap (λ v. z.base && ((z.point == (o.0).point) && v)) (a z j)) w.0 w.1),
    )

pub claimed_hold : (h : Room → Hold) (xs : List Room) (rows : List Row) → ((x : Room) → is_unlinked (h x) ≡ is_unlinked x.hold) → Claimed xs rows → Claimed (map (with_hold h) xs) rows
claimed_hold h xs rows a k r i =
    let x = k r i in
    (with_hold h x.0, map_in (with_hold h) xs x.0 x.1, record { point = (x.2).point; at = (x.2).at; len = (x.2).len; base = (x.2).base; unlinked = a x.0 ∙ (x.2).unlinked })

not_held_leaving : (h : Hold) → is_held (leaving h) ≡ false
not_held_leaving Held = refl
not_held_leaving Leaving = refl
not_held_leaving Unlinked = refl

gone_leaving : (h : Hold) → is_unlinked (leaving h) ≡ is_unlinked h
gone_leaving Held = refl
gone_leaving Leaving = refl
gone_leaving Unlinked = refl

pub held_cond : (b : Bool) (h : Hold) → is_held (cond b (leaving h) h) ≡ (is_held h && not b)
held_cond true h = not_held_leaving h ∙ sym (and_right (is_held h) false refl)
held_cond false Held = refl
held_cond false Leaving = refl
held_cond false Unlinked = refl

pub gone_cond : (b : Bool) (h : Hold) → is_unlinked (cond b (leaving h) h) ≡ is_unlinked h
gone_cond true h = gone_leaving h
gone_cond false h = refl

-- all that will stand is live
pub live_row : (q : ℕ) (x : Room) → with_status (at_set q Live) (room_row x) ≡ room_row x
live_row q x = ap (λ v. record (room_row x) { status = v }) (either ((x.at == q)))
  where
    either : (b : Bool) → cond b Live Live ≡ Live
    either true = refl
    either false = refl

pub live_map : (q : ℕ) (xs : List Room) → map (with_status (at_set q Live)) (standing xs) ≡ standing xs
live_map q xs = all (filter is_held_room xs)
  where
    all : (ys : List Room) → map (with_status (at_set q Live)) (map room_row ys) ≡ map room_row ys
    all [] = refl
    all (y ∷ ys) = cc (live_row q y, all ys)

pub set_hit : (p at len : ℕ) (base : Bool) (s : Status) → with_status (at_set at Live) (a_row p at len base s) ≡ a_row p at len base Live
set_hit p at len base s = ap (λ v. a_row p at len base v) (cond-true ((at == at)) Live s (eq-eqb at at refl))

pub set_miss : (p at len m : ℕ) (base : Bool) (s : Status) → (at ≡ m → ⊥) → with_status (at_set m Live) (a_row p at len base s) ≡ a_row p at len base s
set_miss p at len m base s n = ap (λ v. a_row p at len base v) (cond-false ((at == m)) Live s (ne_eqb at m n))

-- a Free anywhere
module _ (t : Words) (rows : List Row) (fr : Fresh) (rooms : List Room) where
  pending_free : (xs ys : List Entry) (p : ℕ) → pending (xs ++ Free p ∷ ys) ≡ pending (xs ++ ys)
  pending_free xs ys p = pending_append xs (Free p ∷ ys) ∙ sym (pending_append xs ys)

  ending_free : (k : Stage) (xs ys : List Entry) (p : ℕ) → ending k (xs ++ Free p ∷ ys) ≡ ending k (xs ++ ys)
  ending_free k xs ys p = ending_append k xs (Free p ∷ ys) ∙ sym (ending_append k xs ys)

  pub take_free : (xs ys : List Entry) (p : ℕ) → Booked t rows fr rooms (xs ++ Free p ∷ ys) → Booked t rows fr rooms (xs ++ ys)
  take_free xs ys p b = record {
    sound = sound_append t (stage (filter is_now rows) fr) xs ys (sound_left t (stage (filter is_now rows) fr) xs (Free p ∷ ys) b.sound) (sound_right t (stage (filter is_now rows) fr) xs (Free p ∷ ys) b.sound).2;
    ends = sym (ending_free (stage (filter is_now rows) fr) xs ys p) ∙ b.ends;
    apart = subst (λ l. AllApart (rows ++ l)) (pending_free xs ys p) b.apart;
    claims = subst (λ l. Claimed rooms (rows ++ l)) (pending_free xs ys p) b.claims;
    based = b.based;
  }

  pub give_free : (xs ys : List Entry) (p : ℕ) → Booked t rows fr rooms (xs ++ ys) → Booked t rows fr rooms (xs ++ Free p ∷ ys)
  give_free xs ys p b = record {
    sound = sound_append t (stage (filter is_now rows) fr) xs (Free p ∷ ys) (sound_left t (stage (filter is_now rows) fr) xs ys b.sound) (tt, tt, sound_right t (stage (filter is_now rows) fr) xs ys b.sound);
    ends = ending_free (stage (filter is_now rows) fr) xs ys p ∙ b.ends;
    apart = subst (λ l. AllApart (rows ++ l)) (sym (pending_free xs ys p)) b.apart;
    claims = subst (λ l. Claimed rooms (rows ++ l)) (sym (pending_free xs ys p)) b.claims;
    based = b.based;
  }
