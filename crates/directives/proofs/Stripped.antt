-- The hypotheses among items, whatever their lines, and what makes them fine.
use Rattle.std.proofs.Common.{◌≡◌, ℕ, zero, suc, ◌+◌, ◌≤◌, ◌||◌, ◌&&◌, ◌⊎◌, not, cond, Bool, true, false, Option, Some, None, List, [], ◌∷◌, ◌++◌, map, flat_map, position, bytes_eq, is_some, refl, sym, ap, ◌∙◌, arith}
use Rattle.std.specs.List.{list_any, list_all, filter}
use Rattle.std.proofs.lemmas.Bool.{or_parts}
use Rattle.std.proofs.lemmas.List.{append_assoc}
use Rattle.mdl_ast.specs.declared.items.Item.{Item}
use Rattle.mdl_ast.specs.declared.items.Item.TheVariants.{Include, Sync, Metric, Constraint, Hypothesis, Search, Phase, Wish}
use Rattle.mdl_ast.specs.declared.items.Hypothesis.{Hypothesis as TheHypothesis}
use Rattle.pn_types.specs.declared.focus.Focus.{Focus}
use Rattle.mdl_ast.specs.declared.items.Include.{Include as TheInclude}
use Rattle.mdl_ast.specs.declared.items.SyncDecl.{SyncDecl}
use Rattle.mdl_ast.specs.declared.metric.Metric.{Metric as TheMetric}
use Rattle.mdl_ast.specs.declared.metric.Constraint.{Constraint as TheConstraint}
use Rattle.mdl_ast.specs.declared.items.SearchDecl.{SearchDecl}
use Rattle.mdl_ast.specs.declared.items.PhaseDecl.{PhaseDecl}
use Rattle.mdl_ast.specs.declared.items.Wish.{Wish as TheWish}
use Rattle.mdl_check.specs.Placed.{Entry, entry}
use Rattle.mdl_check.specs.Names.{metric_number, hypothesis_place}
use Rattle.mdl_check.specs.Rules.{is_axis, is_repeated, is_orphan as is_parentless}

-- ---- tests of lists

pub or_none : (a b : Bool) → a ≡ false → b ≡ false → (a || b) ≡ false
or_none false b e h = h
or_none true b e h = cc

pub or_right : (a b : Bool) → b ≡ true → (a || b) ≡ true
or_right true b e = refl
or_right false b e = e

pub any_filter : {A : Type 0} (q p : A → Bool) (xs : List A) → list_any q xs ≡ false → list_any q (filter p xs) ≡ false
any_filter q p [] h = refl
any_filter q p (x ∷ xs) h = let k = or_parts (q x) (list_any q xs) h in by (p x) k.0 (any_filter q p xs k.1)
  where
    by : (b : Bool) → q x ≡ false → list_any q (filter p xs) ≡ false → list_any q (cond b (x ∷ filter p xs) (filter p xs)) ≡ false
    by true a c = or_none (q x) (list_any q (filter p xs)) a c
    by false a c = c

-- how many pass a test
abbrev pub tally : {A : Type 0} → (A → Bool) → List A → ℕ
tally q [] = 0
tally q (x ∷ xs) = cond (q x) 1 0 + tally q xs

pub count_filter : {A : Type 0} (q p : A → Bool) (xs : List A) → tally q (filter p xs) ≤ tally q xs
count_filter q p [] = omega arith
count_filter q p (x ∷ xs) = by (p x) (count_filter q p xs)
  where
    by : (b : Bool) → tally q (filter p xs) ≤ tally q xs → tally q (cond b (x ∷ filter p xs) (filter p xs)) ≤ cond (q x) 1 0 + tally q xs
    by true h = omega arith
    by false h = omega arith

pub count_none : {A : Type 0} (q : A → Bool) (xs : List A) → list_any q xs ≡ false → tally q xs ≡ 0
count_none q [] h = refl
count_none q (x ∷ xs) h = let k = or_parts (q x) (list_any q xs) h in by (q x) k.0 (count_none q xs k.1)
  where
    by : (b : Bool) → b ≡ false → tally q xs ≡ 0 → cond b 1 0 + tally q xs ≡ 0
    by true e h = cc
    by false e h = omega arith

pub none_counted : {A : Type 0} (q : A → Bool) (xs : List A) → tally q xs ≡ 0 → list_any q xs ≡ false
none_counted q [] h = refl
none_counted q (x ∷ xs) h = by (q x) h (λ k. none_counted q xs k)
  where
    by : (b : Bool) → cond b 1 0 + tally q xs ≡ 0 → (tally q xs ≡ 0 → list_any q xs ≡ false) → (b || list_any q xs) ≡ false
    by true e f = absurd (omega arith)
    by false e f = f (omega arith)

-- ---- hypotheses without their lines

abbrev pub bare : TheHypothesis → TheHypothesis
bare h = record h { line = 0 }

abbrev pub strip : Item → List TheHypothesis
strip (Hypothesis h) = bare h ∷ []
strip item = []

abbrev pub stripped : List Item → List TheHypothesis
stripped items = flat_map strip items

-- an item passes if it is a hypothesis that does
abbrev pub lift : (TheHypothesis → Bool) → Item → Bool
lift q (Hypothesis h) = q (bare h)
lift q item = false

pub any_one : (q : TheHypothesis → Bool) (item : Item) (rest : List TheHypothesis) → list_any q (strip item ++ rest) ≡ (lift q item || list_any q rest)
any_one q (Include i) rest = refl
any_one q (Sync s) rest = refl
any_one q (Metric m) rest = refl
any_one q (Constraint c) rest = refl
any_one q (Hypothesis h) rest = refl
any_one q (Search s) rest = refl
any_one q (Phase p) rest = refl
any_one q (Wish w) rest = refl

pub any_stripped : (q : TheHypothesis → Bool) (items : List Item) → list_any q (stripped items) ≡ list_any (lift q) items
any_stripped q [] = refl
any_stripped q (i ∷ items) = any_one q i (stripped items) ∙ ap (λ (b : Bool). lift q i || b) (any_stripped q items)

pub count_one : (q : TheHypothesis → Bool) (item : Item) (rest : List TheHypothesis) → tally q (strip item ++ rest) ≡ cond (lift q item) 1 0 + tally q rest
count_one q (Include i) rest = omega arith
count_one q (Sync s) rest = omega arith
count_one q (Metric m) rest = omega arith
count_one q (Constraint c) rest = omega arith
count_one q (Hypothesis h) rest = refl
count_one q (Search s) rest = omega arith
count_one q (Phase p) rest = omega arith
count_one q (Wish w) rest = omega arith

pub count_stripped : (q : TheHypothesis → Bool) (items : List Item) → tally q (stripped items) ≡ tally (lift q) items
count_stripped q [] = refl
count_stripped q (i ∷ items) = count_one q i (stripped items) ∙ ap (λ (n : ℕ). cond (lift q i) 1 0 + n) (count_stripped q items)

-- ---- names and parents

abbrev pub named : List ℕ → TheHypothesis → Bool
named name h = bytes_eq name h.name

abbrev pub misses : List TheHypothesis → Option (List ℕ) → Bool
misses hs None = false
misses hs (Some parent) = not (list_any (named parent) hs)

-- its parent doesn't stand among the hypotheses
abbrev pub is_lost : List TheHypothesis → TheHypothesis → Bool
is_lost hs h = misses hs h.parent

abbrev pub has_parent : List ℕ → Option (List ℕ) → Bool
has_parent p None = false
has_parent p (Some own) = bytes_eq p own

-- a hypothesis of the first name, whose parent has the second
abbrev pub is_pair : List ℕ → List ℕ → TheHypothesis → Bool
is_pair b p h = bytes_eq b h.name && has_parent p h.parent

-- the first name is one of the first n ancestors of the second
abbrev pub Leads : List TheHypothesis → ℕ → List ℕ → List ℕ → Type 0
Leads hs zero a b = ⊥
Leads hs (suc n) a b = (p : List ℕ) × (list_any (is_pair b p) hs ≡ true) × ((p ≡ a) ⊎ Leads hs n a p)

abbrev pub is_unmeasured : List Entry → TheHypothesis → Bool
is_unmeasured o h = not (is_some (metric_number o h.metric))

abbrev pub is_strange : TheHypothesis → Bool
is_strange h = not (list_all is_axis h.axes)

-- hypotheses that the check accepts beside these other items, where n ancestors are followed
pub record Fine (o : List Entry) (n : ℕ) (hs : List TheHypothesis) : Type 0 where
  pub once : (name : List ℕ) → tally (named name) hs ≤ 1
  pub metrics : list_any (is_unmeasured o) hs ≡ false
  pub axes : list_any is_strange hs ≡ false
  pub parents : list_any (is_lost hs) hs ≡ false
  pub acyclic : (a : List ℕ) → Leads hs n a a → ⊥

-- ---- entries

abbrev pub items_of : List Entry → List Item
items_of es = map (λ e. e.item) es

abbrev pub hyps_of : List Entry → List TheHypothesis
hyps_of es = stripped (items_of es)

-- it is a hypothesis of this name
abbrev pub is_at : List ℕ → Entry → Bool
is_at name e = lift (named name) e.item

-- a test that passes the hypotheses of this name, and no other item
module _ (t : Entry → Bool) (name : List ℕ)
    (include : (l : ℕ) (x : TheInclude) (f : Option Focus) → t (entry l (Include x) f) ≡ false)
    (sync : (l : ℕ) (x : SyncDecl) (f : Option Focus) → t (entry l (Sync x) f) ≡ false)
    (metric : (l : ℕ) (x : TheMetric) (f : Option Focus) → t (entry l (Metric x) f) ≡ false)
    (constraint : (l : ℕ) (x : TheConstraint) (f : Option Focus) → t (entry l (Constraint x) f) ≡ false)
    (hypothesis : (l : ℕ) (x : TheHypothesis) (f : Option Focus) → t (entry l (Hypothesis x) f) ≡ bytes_eq name x.name)
    (search_one : (l : ℕ) (x : SearchDecl) (f : Option Focus) → t (entry l (Search x) f) ≡ false)
    (phase : (l : ℕ) (x : PhaseDecl) (f : Option Focus) → t (entry l (Phase x) f) ≡ false)
    (wish : (l : ℕ) (x : TheWish) (f : Option Focus) → t (entry l (Wish x) f) ≡ false) where
  alike_in : (l : ℕ) (item : Item) (f : Option Focus) → t (entry l item f) ≡ lift (named name) item
  alike_in l (Include x) f = include l x f
  alike_in l (Sync x) f = sync l x f
  alike_in l (Metric x) f = metric l x f
  alike_in l (Constraint x) f = constraint l x f
  alike_in l (Hypothesis x) f = hypothesis l x f
  alike_in l (Search x) f = search_one l x f
  alike_in l (Phase x) f = phase l x f
  alike_in l (Wish x) f = wish l x f

  pub tests_alike : t ≡ is_at name
  tests_alike = λ i e. alike_in e.line e.item e.focus i

pub place_is : (all : List Entry) (name : List ℕ) → hypothesis_place all name ≡ position (is_at name) all
place_is all name =
    ap (λ (t : Entry → Bool). position t all)
    (tests_alike _ name (λ l x f. refl) (λ l x f. refl) (λ l x f. refl) (λ l x f. refl) (λ l x f. refl) (λ l x f. refl) (λ l x f. refl) (λ l x f. refl))

pub any_hyps : (q : TheHypothesis → Bool) (es : List Entry) → list_any q (hyps_of es) ≡ list_any (λ e. lift q e.item) es
any_hyps q [] = refl
any_hyps q (e ∷ es) = any_one q e.item (hyps_of es) ∙ ap (λ (b : Bool). lift q e.item || b) (any_hyps q es)

pub count_hyps : (q : TheHypothesis → Bool) (es : List Entry) → tally q (hyps_of es) ≡ tally (λ e. lift q e.item) es
count_hyps q [] = refl
count_hyps q (e ∷ es) = count_one q e.item (hyps_of es) ∙ ap (λ (n : ℕ). cond (lift q e.item) 1 0 + n) (count_hyps q es)

pub repeated_is : (all before : List Entry) (h : TheHypothesis) (focus : Option Focus) → is_repeated all before (Hypothesis h) focus ≡ list_any (named h.name) (hyps_of before)
repeated_is all before h focus =
    ap (λ (t : Entry → Bool). list_any t before)
    (tests_alike _ h.name (λ l x f. refl) (λ l x f. refl) (λ l x f. refl) (λ l x f. refl) (λ l x f. refl) (λ l x f. refl) (λ l x f. refl) (λ l x f. refl))
    ∙ sym (any_hyps (named h.name) before)

pub parentless_is : (all : List Entry) (parent : Option (List ℕ)) → is_parentless all parent ≡ misses (hyps_of all) parent
parentless_is all None = refl
parentless_is all (Some p) =
    ap (λ (t : Entry → Bool). not (list_any t all))
    (tests_alike _ p (λ l x f. refl) (λ l x f. refl) (λ l x f. refl) (λ l x f. refl) (λ l x f. refl) (λ l x f. refl) (λ l x f. refl) (λ l x f. refl))
    ∙ ap not (sym (any_hyps (named p) all))

pub hyps_append : (xs ys : List Entry) → hyps_of (xs ++ ys) ≡ hyps_of xs ++ hyps_of ys
hyps_append [] ys = refl
hyps_append (x ∷ xs) ys = ap (λ (l : List TheHypothesis). strip x.item ++ l) (hyps_append xs ys) ∙ sym (append_assoc (strip x.item) (hyps_of xs) (hyps_of ys))
