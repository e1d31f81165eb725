-- Items without a fault, one after another.
use Rattle.std.proofs.Common.{◌≡◌, ℕ, zero, suc, ◌+◌, ◌||◌, ◌&&◌, not, cond, Bool, true, false, Option, Some, None, List, [], ◌∷◌, ◌++◌, length, fold, bytes_eq, is_some, slice_get, nat_lt, nat_le, ◌==◌, codes, refl, sym, ap, ◌∙◌, subst}
use Rattle.std.specs.Prelude.{option_to_list}
use Rattle.std.specs.List.{list_any, filter, count_by}
use Rattle.std.specs.Option.{option_and_then, option_map}
use Rattle.std.proofs.lemmas.List.{append_assoc, append-nil}
use Rattle.std.proofs.lemmas.List.Elements.{filter-append}
use Rattle.std.proofs.lemmas.Option.{slice_get-map}
use Rattle.pn_types.specs.declared.focus.Focus.{Focus}
use Rattle.mdl_ast.specs.declared.items.Item.{Item}
use Rattle.mdl_ast.specs.declared.items.Item.TheVariants.{Include, Sync, Metric, Constraint, Hypothesis, Search, Phase, Wish}
use Rattle.mdl_ast.specs.declared.metric.Constraint.{Constraint as TheConstraint}
use Rattle.mdl_ast.specs.declared.items.Include.{Include as TheInclude}
use Rattle.mdl_ast.specs.declared.items.Hypothesis.{Hypothesis as TheHypothesis}
use Rattle.mdl_check.specs.Placed.{Entry, entry}
use Rattle.mdl_check.specs.Names.{as_constraint, constraints_in, constraint_named, metric_name, number_from, metric_number}
use Rattle.mdl_check.specs.Rules.{is_on, are_two_on, is_repeated, is_unknown, is_wrong, is_misused, is_astray, tick_behind, parent_place, parents_of, parent_at, leads_to, is_cyclic, fault_of}
use Rattle.mdl_check.specs.Checking.{fault_from}
use Rattle.mdl_check.specs.declared.fault.CheckFault.{CheckFault}
use Rattle.mdl_check.specs.declared.fault.CheckKind.{CheckKind}
use Rattle.mdl_check.specs.declared.fault.CheckKind.TheVariants.{TwiceNamed, UnknownName, WrongKind, CyclicParent, BadFocus}

pub record Faultless (all before : List Entry) (e : Entry) : Type 0 where
  pub fresh : is_repeated all before e.item e.focus ≡ false
  pub known : is_unknown all e.item ≡ false
  pub right : is_wrong all before e.item ≡ false
  pub rooted : is_cyclic (parents_of all) (length before) ≡ false
  pub found : is_astray e.item e.focus ≡ false

abbrev verdict : Bool → Bool → Bool → Bool → Bool → Option CheckKind
verdict a b c d f = cond a (Some TwiceNamed) (cond b (Some UnknownName) (cond c (Some WrongKind) (cond d (Some CyclicParent) (cond f (Some BadFocus) None))))

pub faultless : (all before : List Entry) (e : Entry) → fault_of all before e ≡ None → Faultless all before e
faultless all before e h =
    by (is_repeated all before e.item e.focus) (is_unknown all e.item) (is_wrong all before e.item) (is_cyclic (parents_of all) (length before)) (is_astray e.item e.focus) refl refl refl refl refl h
  where
    by : (a b c d f : Bool) → is_repeated all before e.item e.focus ≡ a → is_unknown all e.item ≡ b → is_wrong all before e.item ≡ c → is_cyclic (parents_of all) (length before) ≡ d → is_astray e.item e.focus ≡ f →
        verdict a b c d f ≡ None → Faultless all before e
    by true b c d f p q r s t g = absurd cc
    by false true c d f p q r s t g = absurd cc
    by false false true d f p q r s t g = absurd cc
    by false false false true f p q r s t g = absurd cc
    by false false false false true p q r s t g = absurd cc
    by false false false false false p q r s t g = record { fresh = p; known = q; right = r; rooted = s; found = t }

no_verdict : (a b c d f : Bool) → a ≡ false → b ≡ false → c ≡ false → d ≡ false → f ≡ false → verdict a b c d f ≡ None
no_verdict true b c d f p q r s t = absurd cc
no_verdict false true c d f p q r s t = absurd cc
no_verdict false false true d f p q r s t = absurd cc
no_verdict false false false true f p q r s t = absurd cc
no_verdict false false false false true p q r s t = absurd cc
no_verdict false false false false false p q r s t = refl

pub no_fault : (all before : List Entry) (e : Entry) → Faultless all before e → fault_of all before e ≡ None
no_fault all before e h =
    no_verdict (is_repeated all before e.item e.focus) (is_unknown all e.item) (is_wrong all before e.item) (is_cyclic (parents_of all) (length before)) (is_astray e.item e.focus) h.fresh h.known h.right h.rooted h.found

-- ---- one after another

abbrev pub Each : List Entry → List Entry → List Entry → Type 0
Each all before [] = Unit {0}
Each all before (e ∷ es) = Faultless all before e × Each all (before ++ (e ∷ [])) es

abbrev found_fault : ℕ → CheckKind → Option CheckFault
found_fault line kind = Some (record { line = line; kind = kind })

pub each_from : (all before es : List Entry) → fault_from all before es ≡ None → Each all before es
each_from all before [] h = tt
each_from all before (e ∷ es) h = by (fault_of all before e) refl (λ k. each_from all (before ++ (e ∷ [])) es k)
  where
    by : (o : Option CheckKind) → fault_of all before e ≡ o → (fault_from all (before ++ (e ∷ [])) es ≡ None → Each all (before ++ (e ∷ [])) es) → Each all before (e ∷ es)
    by None p rest = let passed : fault_from all before (e ∷ es) ≡ fault_from all (before ++ (e ∷ [])) es = rw (p, fault_from) refl in (faultless all before e p, rest (sym passed ∙ h))
    by (Some kind) p rest = let blamed : fault_from all before (e ∷ es) ≡ found_fault e.line kind = rw (p, fault_from) refl in let g = sym blamed ∙ h in absurd cc

pub each_to : (all before es : List Entry) → Each all before es → fault_from all before es ≡ None
each_to all before [] h = refl
each_to all before (e ∷ es) h =
    let p = no_fault all before e h.0 in
    let passed : fault_from all before (e ∷ es) ≡ fault_from all (before ++ (e ∷ [])) es = rw (p, fault_from) refl in
    passed ∙ each_to all (before ++ (e ∷ [])) es h.1

-- ---- the items but the hypotheses and their include

abbrev pub is_other : Item → Bool
is_other (Include i) = i.metrics
is_other (Hypothesis h) = false
is_other item = true

abbrev pub others : List Entry → List Entry
others es = filter (λ e. is_other e.item) es

pub or_same : {a b c d : Bool} → a ≡ c → b ≡ d → (a || b) ≡ (c || d)
or_same {a} {b} {c} {d} e f = ap (λ (x : Bool). x || b) e ∙ ap (λ (x : Bool). c || x) f

-- a test that passes no hypothesis and no include of hypotheses
module _ (q : Entry → Bool)
    (include : (l : ℕ) (x : TheInclude) (f : Option Focus) → x.metrics ≡ false → q (entry l (Include x) f) ≡ false)
    (hypothesis : (l : ℕ) (x : TheHypothesis) (f : Option Focus) → q (entry l (Hypothesis x) f) ≡ false) where
  passes_none : (l : ℕ) (item : Item) (f : Option Focus) → is_other item ≡ false → q (entry l item f) ≡ false
  passes_none l (Include x) f e = include l x f e
  passes_none l (Sync x) f e = absurd cc
  passes_none l (Metric x) f e = absurd cc
  passes_none l (Constraint x) f e = absurd cc
  passes_none l (Hypothesis x) f e = hypothesis l x f
  passes_none l (Search x) f e = absurd cc
  passes_none l (Phase x) f e = absurd cc
  passes_none l (Wish x) f e = absurd cc

  pub any_others : (es : List Entry) → list_any q es ≡ list_any q (others es)
  any_others [] = refl
  any_others (e ∷ es) = by (is_other e.item) refl (any_others es)
    where
      by : (b : Bool) → is_other e.item ≡ b → list_any q es ≡ list_any q (others es) → (q e || list_any q es) ≡ list_any q (cond b (e ∷ others es) (others es))
      by true p k = ap (λ (r : Bool). q e || r) k
      by false p k = ap (λ (r : Bool). r || list_any q es) (passes_none e.line e.item e.focus p) ∙ k

no_constraint : (item : Item) → is_other item ≡ false → as_constraint item ≡ None
no_constraint (Include i) e = refl
no_constraint (Sync s) e = refl
no_constraint (Metric m) e = refl
no_constraint (Constraint c) e = absurd cc
no_constraint (Hypothesis h) e = refl
no_constraint (Search s) e = refl
no_constraint (Phase p) e = refl
no_constraint (Wish w) e = refl

no_metric : (item : Item) → is_other item ≡ false → metric_name item ≡ None
no_metric (Include i) e = refl
no_metric (Sync s) e = refl
no_metric (Metric m) e = absurd cc
no_metric (Constraint c) e = refl
no_metric (Hypothesis h) e = refl
no_metric (Search s) e = refl
no_metric (Phase p) e = refl
no_metric (Wish w) e = refl

no_tick : (tick : ℕ) (item : Item) → is_other item ≡ false → tick_behind tick item ≡ tick
no_tick tick (Include i) e = refl
no_tick tick (Sync s) e = refl
no_tick tick (Metric m) e = refl
no_tick tick (Constraint c) e = refl
no_tick tick (Hypothesis h) e = refl
no_tick tick (Search s) e = refl
no_tick tick (Phase p) e = absurd cc
no_tick tick (Wish w) e = refl

constraints_of_others : (es : List Entry) → constraints_in es ≡ constraints_in (others es)
constraints_of_others [] = refl
constraints_of_others (e ∷ es) = by (is_other e.item) refl (constraints_of_others es)
  where
    by : (b : Bool) → is_other e.item ≡ b → constraints_in es ≡ constraints_in (others es) →
        option_to_list (as_constraint e.item) ++ constraints_in es ≡ constraints_in (cond b (e ∷ others es) (others es))
    by true p k = ap (λ (cs : List TheConstraint). option_to_list (as_constraint e.item) ++ cs) k
    by false p k = ap (λ (o : Option TheConstraint). option_to_list o ++ constraints_in es) (no_constraint e.item p) ∙ k

abbrev counted : List ℕ → ℕ → Option (List ℕ) → Option ℕ → Option ℕ → Option ℕ
counted name k o here next = elim o [ None ↦ here | Some own ↦ cond (bytes_eq name own) (Some k) next ]

number_of_others : (k : ℕ) (es : List Entry) (name : List ℕ) → number_from k es name ≡ number_from k (others es) name
number_of_others k [] name = refl
number_of_others k (e ∷ es) name = by (is_other e.item) refl (number_of_others k es name) (number_of_others (k + 1) es name)
  where
    by : (b : Bool) → is_other e.item ≡ b → number_from k es name ≡ number_from k (others es) name → number_from (k + 1) es name ≡ number_from (k + 1) (others es) name →
        counted name k (metric_name e.item) (number_from k es name) (number_from (k + 1) es name) ≡ number_from k (cond b (e ∷ others es) (others es)) name
    by true p h m = ap (λ (o : Option ℕ). counted name k (metric_name e.item) o (number_from (k + 1) es name)) h ∙ ap (counted name k (metric_name e.item) (number_from k (others es) name)) m
    by false p h m = ap (λ (o : Option (List ℕ)). counted name k o (number_from k es name) (number_from (k + 1) es name)) (no_metric e.item p) ∙ h

pub metric_of_others : (es : List Entry) (name : List ℕ) → metric_number es name ≡ metric_number (others es) name
metric_of_others es name = number_of_others 0 es name

tick_of_others : (tick : ℕ) (es : List Entry) → fold (λ tick e. tick_behind tick e.item) tick es ≡ fold (λ tick e. tick_behind tick e.item) tick (others es)
tick_of_others tick [] = refl
tick_of_others tick (e ∷ es) = by (is_other e.item) refl (tick_of_others (tick_behind tick e.item) es) (tick_of_others tick es)
  where
    by : (b : Bool) → is_other e.item ≡ b → fold (λ tick e. tick_behind tick e.item) (tick_behind tick e.item) es ≡ fold (λ tick e. tick_behind tick e.item) (tick_behind tick e.item) (others es) →
        fold (λ tick e. tick_behind tick e.item) tick es ≡ fold (λ tick e. tick_behind tick e.item) tick (others es) →
        fold (λ tick e. tick_behind tick e.item) (tick_behind tick e.item) es ≡ fold (λ tick e. tick_behind tick e.item) tick (cond b (e ∷ others es) (others es))
    by true p h k = h
    by false p h k = ap (λ (n : ℕ). fold (λ tick e. tick_behind tick e.item) n es) (no_tick tick e.item p) ∙ k

-- ---- an other item is judged among the others alone

other_include : (m n : Bool) → m ≡ true → n ≡ false → cond m n (not n) ≡ false
other_include true n e h = h
other_include false n e h = absurd cc

module _ (all before : List Entry) where
  named_alike : constraint_named (constraints_in all) ≡ constraint_named (constraints_in (others all))
  named_alike = ap constraint_named (constraints_of_others all)

  two_alike : (path : List ℕ) (names : List (List ℕ)) → are_two_on all path names ≡ are_two_on (others all) path names
  two_alike path names = ap (λ (f : List ℕ → Option TheConstraint). nat_lt 1 (count_by (λ name. is_on path (f name)) names)) named_alike

  pub repeated_alike : (item : Item) (focus : Option Focus) → is_other item ≡ true → is_repeated all before item focus ≡ is_repeated (others all) (others before) item focus
  repeated_alike (Include i) focus e = any_others _ (λ l x f m. other_include i.metrics x.metrics e m) (λ l x f. refl) before
  repeated_alike (Sync s) focus e = refl
  repeated_alike (Metric m) focus e = or_same (or_same (any_others _ (λ l x f m. refl) (λ l x f. refl) before) (two_alike (codes "/Code") m.constraints)) (two_alike (codes "/SyncObject") m.constraints)
  repeated_alike (Constraint c) focus e = any_others _ (λ l x f m. refl) (λ l x f. refl) before
  repeated_alike (Hypothesis h) focus e = absurd cc
  repeated_alike (Search s) focus e = any_others _ (λ l x f m. refl) (λ l x f. refl) before
  repeated_alike (Phase p) focus e = or_same refl (any_others _ (λ l x f m. refl) (λ l x f. refl) before)
  repeated_alike (Wish w) focus e = ap (λ (b : Bool). ((w.at == 0) && w.show) && b) (any_others _ (λ l x f m. refl) (λ l x f. refl) before)

  pub unknown_alike : (item : Item) → is_other item ≡ true → is_unknown all item ≡ is_unknown (others all) item
  unknown_alike (Include i) e = refl
  unknown_alike (Sync s) e = refl
  unknown_alike (Metric m) e = or_same (ap (λ (f : List ℕ → Option TheConstraint). list_any (λ name. not (is_some (f name))) m.constraints) named_alike) refl
  unknown_alike (Constraint c) e = refl
  unknown_alike (Hypothesis h) e = absurd cc
  unknown_alike (Search s) e = refl
  unknown_alike (Phase p) e = refl
  unknown_alike (Wish w) e = ap (λ (o : Option ℕ). not (is_some o)) (metric_of_others all w.metric)

  pub wrong_alike : (item : Item) → is_other item ≡ true → is_wrong all before item ≡ is_wrong (others all) (others before) item
  wrong_alike (Include i) e = refl
  wrong_alike (Sync s) e = refl
  wrong_alike (Metric m) e = or_same (or_same (or_same refl (ap (λ (f : List ℕ → Option TheConstraint). list_any (λ name. is_misused m.timer (f name)) m.constraints) named_alike)) refl) refl
  wrong_alike (Constraint c) e = refl
  wrong_alike (Hypothesis h) e = absurd cc
  wrong_alike (Search s) e = refl
  wrong_alike (Phase p) e = ap (λ (n : ℕ). nat_le p.at n) (tick_of_others 0 before)
  wrong_alike (Wish w) e = refl

-- ---- no hypothesis, no parent

pub element_at : {A : Type 0} (before after : List A) (e : A) → slice_get (before ++ (e ∷ after)) (length before) ≡ Some e
element_at [] after e = refl
element_at (b ∷ before) after e = element_at before after e

pub parent_is : (all : List Entry) (k : ℕ) (e : Entry) → slice_get all k ≡ Some e → parent_at (parents_of all) k ≡ parent_place all e.item
parent_is all k e h = ap (λ (o : Option (Option ℕ)). option_and_then (λ parent. parent) o) (slice_get-map (λ e. parent_place all e.item) all k ∙ ap (option_map (λ e. parent_place all e.item)) h)

rootless : (all : List Entry) (item : Item) → is_other item ≡ true → parent_place all item ≡ None
rootless all (Include i) e = refl
rootless all (Sync s) e = refl
rootless all (Metric m) e = refl
rootless all (Constraint c) e = refl
rootless all (Hypothesis h) e = absurd cc
rootless all (Search s) e = refl
rootless all (Phase p) e = refl
rootless all (Wish w) e = refl

no_way : (parents : List (Option ℕ)) (n sought : ℕ) → leads_to parents n sought None ≡ false
no_way parents zero sought = refl
no_way parents (suc n) sought = refl

pub no_cycle : (all before after : List Entry) (e : Entry) → all ≡ before ++ (e ∷ after) → parent_place all e.item ≡ None → is_cyclic (parents_of all) (length before) ≡ false
no_cycle all before after e h k =
    let there : slice_get all (length before) ≡ Some e = ap (λ (l : List Entry). slice_get l (length before)) h ∙ element_at before after e in
    ap (leads_to (parents_of all) (length (parents_of all)) (length before)) (parent_is all (length before) e there ∙ k) ∙ no_way (parents_of all) (length (parents_of all)) (length before)

-- ---- the others alone

pub other_alone : (all before after : List Entry) (e : Entry) → all ≡ before ++ (e ∷ after) → is_other e.item ≡ true → Faultless all before e → Faultless (others all) (others before) e
other_alone all before after e h o f = record {
  fresh = sym (repeated_alike all before e.item e.focus o) ∙ f.fresh;
  known = sym (unknown_alike all before e.item o) ∙ f.known;
  right = sym (wrong_alike all before e.item o) ∙ f.right;
  rooted = no_cycle (others all) (others before) (others after) e (ap others h ∙ others_at before after e o) (rootless (others all) e.item o);
  found = f.found;
}
  where
    others_at : (before after : List Entry) (e : Entry) → is_other e.item ≡ true → others (before ++ (e ∷ after)) ≡ others before ++ (e ∷ others after)
    others_at before after e o = filter-append (λ e. is_other e.item) before (e ∷ after) ∙ ap (λ (b : Bool). others before ++ cond b (e ∷ others after) (others after)) o

pub other_among : (all before after : List Entry) (e : Entry) → all ≡ before ++ (e ∷ after) → is_other e.item ≡ true → Faultless (others all) (others before) e → Faultless all before e
other_among all before after e h o f = record {
  fresh = repeated_alike all before e.item e.focus o ∙ f.fresh;
  known = unknown_alike all before e.item o ∙ f.known;
  right = wrong_alike all before e.item o ∙ f.right;
  rooted = no_cycle all before after e h (rootless all e.item o);
  found = f.found;
}

one_more : (before : List Entry) (e : Entry) (es : List Entry) (all : List Entry) → all ≡ before ++ (e ∷ es) → all ≡ (before ++ (e ∷ [])) ++ es
one_more before e es all h = h ∙ sym (append_assoc before (e ∷ []) es)

others_more : (before : List Entry) (e : Entry) (b : Bool) → is_other e.item ≡ b → others (before ++ (e ∷ [])) ≡ others before ++ cond b (e ∷ []) []
others_more before e b h = filter-append (λ e. is_other e.item) before (e ∷ []) ∙ ap (λ (b : Bool). others before ++ cond b (e ∷ []) []) h

-- where all are without a fault, so are the others by themselves
pub others_each : (all before es : List Entry) → all ≡ before ++ es → Each all before es → Each (others all) (others before) (others es)
others_each all before [] h f = tt
others_each all before (e ∷ es) h f = by (is_other e.item) refl (others_each all (before ++ (e ∷ [])) es (one_more before e es all h) f.1)
  where
    by : (b : Bool) → is_other e.item ≡ b → Each (others all) (others (before ++ (e ∷ []))) (others es) → Each (others all) (others before) (cond b (e ∷ others es) (others es))
    by true o k = (other_alone all before es e h o f.0, subst (λ (l : List Entry). Each (others all) l (others es)) (others_more before e true o) k)
    by false o k = subst (λ (l : List Entry). Each (others all) l (others es)) (others_more before e false o ∙ append-nil (others before)) k
