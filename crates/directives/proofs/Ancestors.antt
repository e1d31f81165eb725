-- The ancestors of an item, by the names of parents.
use Rattle.std.proofs.Common.{◌≡◌, ℕ, zero, suc, ◌+◌, ◌-◌, ◌≤◌, ◌||◌, cond, Bool, true, false, Option, Some, None, List, [], ◌∷◌, bytes_eq, refl, sym, ap, ◌∙◌, arith}
use Rattle.std.specs.Cmp.Lexicographic.{bytes_decides}
use Rattle.std.specs.List.{list_any, AllByRecursion}
use Rattle.std.specs.Option.{option_map_or}
use Rattle.std.proofs.lemmas.Bool.{or_parts}
use Rattle.mdl_ast.specs.declared.items.Item.{Item}
use Rattle.mdl_ast.specs.declared.items.Item.TheVariants.{Include, Sync, Metric, Constraint, Hypothesis, Search, Phase, Wish}
use Rattle.mdl_ast.specs.declared.items.Hypothesis.{Hypothesis as TheHypothesis}
use Rattle.directives.specs.Hypotheses.{is_named}
use Rattle.directives.specs.Acts.{parent_in, parent_of, leads_up, is_under}
use Rattle.directives.specs.Standing.{is_child}

-- only a hypothesis has a name, a parent or an ancestor
pub record IsHypothesis (x : Item) : Type 0 where
  pub inside : TheHypothesis
  pub is : x ≡ Hypothesis inside

pub named_is : (name : List ℕ) (x : Item) → is_named name x ≡ true → IsHypothesis x
named_is name (Include i) e = absurd cc
named_is name (Sync s) e = absurd cc
named_is name (Metric m) e = absurd cc
named_is name (Constraint c) e = absurd cc
named_is name (Hypothesis h) e = record { inside = h; is = refl }
named_is name (Search s) e = absurd cc
named_is name (Phase p) e = absurd cc
named_is name (Wish w) e = absurd cc

pub child_is : (name : List ℕ) (x : Item) → is_child name x ≡ true → IsHypothesis x
child_is name (Include i) e = absurd cc
child_is name (Sync s) e = absurd cc
child_is name (Metric m) e = absurd cc
child_is name (Constraint c) e = absurd cc
child_is name (Hypothesis h) e = record { inside = h; is = refl }
child_is name (Search s) e = absurd cc
child_is name (Phase p) e = absurd cc
child_is name (Wish w) e = absurd cc

pub under_is : (items : List Item) (n : ℕ) (name : List ℕ) (x : Item) → is_under items n name x ≡ true → IsHypothesis x
under_is items n name (Include i) e = absurd cc
under_is items n name (Sync s) e = absurd cc
under_is items n name (Metric m) e = absurd cc
under_is items n name (Constraint c) e = absurd cc
under_is items n name (Hypothesis h) e = record { inside = h; is = refl }
under_is items n name (Search s) e = absurd cc
under_is items n name (Phase p) e = absurd cc
under_is items n name (Wish w) e = absurd cc

-- ---- the parent of a name is that of its hypothesis

abbrev pub Agrees : List Item → Item → Type 0
Agrees items x = (name : List ℕ) → is_named name x ≡ true → parent_of items name ≡ parent_in x

pub parent_found : (items : List Item) (name : List ℕ) (parent : Option (List ℕ)) → AllByRecursion (λ x. is_named name x ≡ true → parent_in x ≡ parent) items → list_any (is_named name) items ≡ true → parent_of items name ≡ parent
parent_found [] name parent a h = absurd cc
parent_found (x ∷ items) name parent a h = by (is_named name x) refl h (λ k. parent_found items name parent a.1 k)
  where
    by : (b : Bool) → is_named name x ≡ b → (b || list_any (is_named name) items) ≡ true → (list_any (is_named name) items ≡ true → parent_of items name ≡ parent) → cond b (parent_in x) (parent_of items name) ≡ parent
    by true e h f = a.0 e
    by false e h f = f h

pub no_parent : (items : List Item) (name : List ℕ) → list_any (is_named name) items ≡ false → parent_of items name ≡ None
no_parent [] name h = refl
no_parent (x ∷ items) name h = let k = or_parts (is_named name x) (list_any (is_named name) items) h in ap (λ (b : Bool). cond b (parent_in x) (parent_of items name)) k.0 ∙ no_parent items name k.1

-- ---- more ancestors

leads_higher : (items : List Item) (n : ℕ) (name : List ℕ) (next : Option (List ℕ)) → leads_up items n name next ≡ true → leads_up items (suc n) name next ≡ true
leads_higher items zero name next h = absurd cc
leads_higher items (suc n) name None h = absurd cc
leads_higher items (suc n) name (Some next) h = by (bytes_eq name next) h (λ k. leads_higher items n name (parent_of items next) k)
  where
    by : (b : Bool) → (b || leads_up items n name (parent_of items next)) ≡ true → (leads_up items n name (parent_of items next) ≡ true → leads_up items (suc n) name (parent_of items next) ≡ true) →
        (b || leads_up items (suc n) name (parent_of items next)) ≡ true
    by true h f = refl
    by false h f = f h

pub under_higher : (items : List Item) (n : ℕ) (name : List ℕ) (x : Item) → is_under items n name x ≡ true → is_under items (suc n) name x ≡ true
under_higher items n name (Include i) h = h
under_higher items n name (Sync s) h = h
under_higher items n name (Metric m) h = h
under_higher items n name (Constraint c) h = h
under_higher items n name (Hypothesis x) h = by (bytes_eq name x.name) h
  where
    by : (b : Bool) → (b || leads_up items n name x.parent) ≡ true → (b || leads_up items (suc n) name x.parent) ≡ true
    by true h = refl
    by false h = leads_higher items n name x.parent h
under_higher items n name (Search s) h = h
under_higher items n name (Phase p) h = h
under_higher items n name (Wish w) h = h

under_by : (items : List Item) (m k : ℕ) (name : List ℕ) (x : Item) → is_under items m name x ≡ true → is_under items (k + m) name x ≡ true
under_by items m zero name x h = ap (λ (n : ℕ). is_under items n name x) (omega arith) ∙ h
under_by items m (suc k) name x h = let more : suc k + m ≡ suc (k + m) = omega arith in ap (λ (n : ℕ). is_under items n name x) more ∙ under_higher items (k + m) name x (under_by items m k name x h)

pub under_more : (items : List Item) (m n : ℕ) (name : List ℕ) (x : Item) → m ≤ n → is_under items m name x ≡ true → is_under items n name x ≡ true
under_more items m n name x l h = let more : n ≡ (n - m) + m = omega arith in ap (λ (k : ℕ). is_under items k name x) more ∙ under_by items m (n - m) name x h

-- a hypothesis of a name is under another as the name is
pub under_named : (items : List Item) (k : ℕ) (name p : List ℕ) (x : Item) → Agrees items x → is_named p x ≡ true → is_under items k name x ≡ leads_up items (suc k) name (Some p)
under_named items k name p (Include i) a e = absurd cc
under_named items k name p (Sync s) a e = absurd cc
under_named items k name p (Metric m) a e = absurd cc
under_named items k name p (Constraint c) a e = absurd cc
under_named items k name p (Hypothesis x) a e =
    ap (λ (n : List ℕ). bytes_eq name n || leads_up items k name x.parent) (sym ((bytes_decides p x.name).0 e)) ∙ ap (λ (o : Option (List ℕ)). bytes_eq name p || leads_up items k name o) (sym (a p e))
under_named items k name p (Search s) a e = absurd cc
under_named items k name p (Phase f) a e = absurd cc
under_named items k name p (Wish w) a e = absurd cc

pub under_itself : (items : List Item) (n : ℕ) (name : List ℕ) (x : Item) → is_named name x ≡ true → is_under items n name x ≡ true
under_itself items n name (Include i) e = absurd cc
under_itself items n name (Sync s) e = absurd cc
under_itself items n name (Metric m) e = absurd cc
under_itself items n name (Constraint c) e = absurd cc
under_itself items n name (Hypothesis h) e = ap (λ (b : Bool). b || leads_up items n name h.parent) e
under_itself items n name (Search s) e = absurd cc
under_itself items n name (Phase p) e = absurd cc
under_itself items n name (Wish w) e = absurd cc

or_true : (b : Bool) → (b || true) ≡ true
or_true true = refl
or_true false = refl

-- a child of what is under it
pub under_child : (items : List Item) (n : ℕ) (name p : List ℕ) (x z : Item) → Agrees items z → is_named p z ≡ true → is_child p x ≡ true → is_under items n name z ≡ true → is_under items (suc n) name x ≡ true
under_child items n name p (Include i) z a m e h = absurd cc
under_child items n name p (Sync s) z a m e h = absurd cc
under_child items n name p (Metric k) z a m e h = absurd cc
under_child items n name p (Constraint c) z a m e h = absurd cc
under_child items n name p (Hypothesis x) z a m e h = by x.parent e
  where
    by : (o : Option (List ℕ)) → option_map_or (bytes_eq p) o false ≡ true → (bytes_eq name x.name || leads_up items (suc n) name o) ≡ true
    by None e = absurd cc
    by (Some q) e =
        let up : leads_up items (suc n) name (Some q) ≡ true = ap (λ (r : List ℕ). leads_up items (suc n) name (Some r)) (sym ((bytes_decides p q).0 e)) ∙ sym (under_named items n name p z a m) ∙ h in
        ap (λ (b : Bool). bytes_eq name x.name || b) up ∙ or_true (bytes_eq name x.name)
under_child items n name p (Search s) z a m e h = absurd cc
under_child items n name p (Phase f) z a m e h = absurd cc
under_child items n name p (Wish w) z a m e h = absurd cc
