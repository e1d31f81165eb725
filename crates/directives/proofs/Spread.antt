-- Items with those of their includes, before and after the shipped hypotheses take the place of theirs.
use Rattle.std.proofs.Common.{◌≡◌, ℕ, ◌+◌, ◌≤◌, cond, Bool, true, false, List, [], ◌∷◌, ◌++◌, length, map, flat_map, refl, sym, ap, ◌∙◌, arith}
use Rattle.std.specs.List.{filter}
use Rattle.std.proofs.lemmas.List.{append-nil, length-append}
use Rattle.std.proofs.lemmas.Grind.{flat_map-append}
use Rattle.mdl_ast.specs.declared.items.Item.{Item}
use Rattle.mdl_ast.specs.declared.items.Item.TheVariants.{Include, Sync, Metric, Constraint, Hypothesis, Search, Phase, Wish}
use Rattle.mdl_ast.specs.declared.items.Hypothesis.{Hypothesis as TheHypothesis}
use Rattle.mdl_ast.specs.declared.items.Include.{Include as TheInclude}
use Rattle.mdl_check.specs.Placed.{PlacedItem, placed_item, is_taken, with_included, placed_items}
use Rattle.mdl_check.specs.Checking.{sync_of}
use Rattle.directives.specs.Acts.{at_line, expansion, expanded}
use Rattle.directives.proofs.Stripped.{strip, stripped, bare}
use Rattle.directives.proofs.Faultless.{is_other}

-- ---- by item

abbrev pub by_item : {B : Type 0} → (PlacedItem → List B) → List Item → Item → List B
by_item g shipped item = flat_map g (with_included shipped item)

pub placed_by_item : {B : Type 0} (g : PlacedItem → List B) (shipped items : List Item) → flat_map g (placed_items shipped items) ≡ flat_map (by_item g shipped) items
placed_by_item g shipped [] = refl
placed_by_item g shipped (i ∷ items) =
    flat_map-append g (with_included shipped i) (placed_items shipped items) ∙ ap (λ (l : List _). by_item g shipped i ++ l) (placed_by_item g shipped items)

-- what shows no hypothesis is the same without their lines
pub none_at_line : {B : Type 0} (f : Item → List B) → ((h : TheHypothesis) → f (Hypothesis h) ≡ []) → (line : ℕ) (xs : List Item) → flat_map f (flat_map (at_line line) xs) ≡ []
none_at_line f h line [] = refl
none_at_line f h line (Include i ∷ xs) = none_at_line f h line xs
none_at_line f h line (Sync s ∷ xs) = none_at_line f h line xs
none_at_line f h line (Metric m ∷ xs) = none_at_line f h line xs
none_at_line f h line (Constraint c ∷ xs) = none_at_line f h line xs
none_at_line f h line (Hypothesis x ∷ xs) = ap (λ (l : List _). l ++ flat_map f (flat_map (at_line line) xs)) (h (record x { line = line })) ∙ none_at_line f h line xs
none_at_line f h line (Search s ∷ xs) = none_at_line f h line xs
none_at_line f h line (Phase p ∷ xs) = none_at_line f h line xs
none_at_line f h line (Wish w ∷ xs) = none_at_line f h line xs

none_taken : {B : Type 0} (g : PlacedItem → List B) → ((line : ℕ) (h : TheHypothesis) → g (placed_item line (Hypothesis h)) ≡ []) → (line : ℕ) (xs : List Item) → flat_map g (map (placed_item line) (filter (is_taken false) xs)) ≡ []
none_taken g h line [] = refl
none_taken g h line (Include i ∷ xs) = none_taken g h line xs
none_taken g h line (Sync s ∷ xs) = none_taken g h line xs
none_taken g h line (Metric m ∷ xs) = none_taken g h line xs
none_taken g h line (Constraint c ∷ xs) = none_taken g h line xs
none_taken g h line (Hypothesis x ∷ xs) = ap (λ (l : List _). l ++ flat_map g (map (placed_item line) (filter (is_taken false) xs))) (h line x) ∙ none_taken g h line xs
none_taken g h line (Search s ∷ xs) = none_taken g h line xs
none_taken g h line (Phase p ∷ xs) = none_taken g h line xs
none_taken g h line (Wish w ∷ xs) = none_taken g h line xs

-- what shows no hypothesis, and no include of them
module _ {B : Type 0} (g : PlacedItem → List B) (hyp : (line : ℕ) (h : TheHypothesis) → g (placed_item line (Hypothesis h)) ≡ []) (incl : (line : ℕ) (i : TheInclude) → i.metrics ≡ false → g (placed_item line (Include i)) ≡ []) where
  pub hidden_item : (shipped : List Item) (h : TheHypothesis) → by_item g shipped (Hypothesis h) ≡ []
  hidden_item shipped h = ap (λ (l : List B). l ++ []) (hyp h.line h)

  alone : (shipped : List Item) (item : Item) → flat_map (by_item g shipped) (item ∷ []) ≡ by_item g shipped item
  alone shipped item = append-nil (by_item g shipped item)

  one_include : (shipped : List Item) (i : TheInclude) (metrics : Bool) → i.metrics ≡ metrics →
      flat_map (by_item g shipped) (cond metrics (Include i ∷ []) (flat_map (at_line i.line) shipped)) ≡ g (placed_item i.line (Include i)) ++ flat_map g (map (placed_item i.line) (filter (is_taken metrics) shipped))
  one_include shipped i true m = append-nil (by_item g shipped (Include i)) ∙ ap (λ (b : Bool). g (placed_item i.line (Include i)) ++ flat_map g (map (placed_item i.line) (filter (is_taken b) shipped))) m
  one_include shipped i false m =
      none_at_line (by_item g shipped) (hidden_item shipped) i.line shipped
      ∙ sym (ap (λ (l : List B). l ++ flat_map g (map (placed_item i.line) (filter (is_taken false) shipped))) (incl i.line i m) ∙ none_taken g hyp i.line shipped)

  same_item : (shipped : List Item) (item : Item) → flat_map (by_item g shipped) (expansion shipped item) ≡ by_item g shipped item
  same_item shipped (Include i) = one_include shipped i i.metrics refl
  same_item shipped (Sync s) = alone shipped (Sync s)
  same_item shipped (Metric m) = alone shipped (Metric m)
  same_item shipped (Constraint c) = alone shipped (Constraint c)
  same_item shipped (Hypothesis h) = alone shipped (Hypothesis h)
  same_item shipped (Search s) = alone shipped (Search s)
  same_item shipped (Phase p) = alone shipped (Phase p)
  same_item shipped (Wish w) = alone shipped (Wish w)

  same_items : (shipped items : List Item) → flat_map (by_item g shipped) (expanded shipped items) ≡ flat_map (by_item g shipped) items
  same_items shipped [] = refl
  same_items shipped (i ∷ items) =
      flat_map-append (by_item g shipped) (expansion shipped i) (expanded shipped items)
      ∙ ap (λ (l : List B). l ++ flat_map (by_item g shipped) (expanded shipped items)) (same_item shipped i)
      ∙ ap (λ (l : List B). by_item g shipped i ++ l) (same_items shipped items)

  -- it stays where the shipped hypotheses take the place of their include
  pub spread_same : (shipped items : List Item) → flat_map g (placed_items shipped (expanded shipped items)) ≡ flat_map g (placed_items shipped items)
  spread_same shipped items = placed_by_item g shipped (expanded shipped items) ∙ same_items shipped items ∙ sym (placed_by_item g shipped items)

-- ---- the hypotheses

abbrev pub placed_stripped : PlacedItem → List TheHypothesis
placed_stripped s = strip s.item

others_bare : (line : ℕ) (xs : List Item) → flat_map placed_stripped (map (placed_item line) (filter (is_taken true) xs)) ≡ []
others_bare line [] = refl
others_bare line (Include i ∷ xs) = others_bare line xs
others_bare line (Sync s ∷ xs) = others_bare line xs
others_bare line (Metric m ∷ xs) = others_bare line xs
others_bare line (Constraint c ∷ xs) = others_bare line xs
others_bare line (Hypothesis x ∷ xs) = others_bare line xs
others_bare line (Search s ∷ xs) = others_bare line xs
others_bare line (Phase p ∷ xs) = others_bare line xs
others_bare line (Wish w ∷ xs) = others_bare line xs

taken_bare : (line : ℕ) (xs : List Item) → flat_map placed_stripped (map (placed_item line) (filter (is_taken false) xs)) ≡ stripped (flat_map (at_line line) xs)
taken_bare line [] = refl
taken_bare line (Include i ∷ xs) = taken_bare line xs
taken_bare line (Sync s ∷ xs) = taken_bare line xs
taken_bare line (Metric m ∷ xs) = taken_bare line xs
taken_bare line (Constraint c ∷ xs) = taken_bare line xs
taken_bare line (Hypothesis x ∷ xs) = ap (λ (l : List TheHypothesis). bare x ∷ l) (taken_bare line xs)
taken_bare line (Search s ∷ xs) = taken_bare line xs
taken_bare line (Phase p ∷ xs) = taken_bare line xs
taken_bare line (Wish w ∷ xs) = taken_bare line xs

bare_include : (shipped : List Item) (i : TheInclude) (metrics : Bool) →
    flat_map placed_stripped (map (placed_item i.line) (filter (is_taken metrics) shipped)) ≡ stripped (cond metrics (Include i ∷ []) (flat_map (at_line i.line) shipped))
bare_include shipped i true = others_bare i.line shipped
bare_include shipped i false = taken_bare i.line shipped

bare_item : (shipped : List Item) (item : Item) → by_item placed_stripped shipped item ≡ stripped (expansion shipped item)
bare_item shipped (Include i) = bare_include shipped i i.metrics
bare_item shipped (Sync s) = refl
bare_item shipped (Metric m) = refl
bare_item shipped (Constraint c) = refl
bare_item shipped (Hypothesis h) = refl
bare_item shipped (Search s) = refl
bare_item shipped (Phase p) = refl
bare_item shipped (Wish w) = refl

bare_items : (shipped items : List Item) → flat_map (by_item placed_stripped shipped) items ≡ stripped (expanded shipped items)
bare_items shipped [] = refl
bare_items shipped (i ∷ items) =
    ap (λ (l : List TheHypothesis). l ++ flat_map (by_item placed_stripped shipped) items) (bare_item shipped i)
    ∙ ap (λ (l : List TheHypothesis). stripped (expansion shipped i) ++ l) (bare_items shipped items)
    ∙ sym (flat_map-append strip (expansion shipped i) (expanded shipped items))

pub bare_placed : (shipped items : List Item) → flat_map placed_stripped (placed_items shipped items) ≡ stripped (expanded shipped items)
bare_placed shipped items = placed_by_item placed_stripped shipped items ∙ bare_items shipped items

-- ---- items with no include of hypotheses

abbrev pub hyp_include : Item → List Item
hyp_include (Include i) = cond i.metrics [] (Include i ∷ [])
hyp_include item = []

nothing_left : {A : Type 0} (xs ys : List A) → xs ++ ys ≡ [] → (xs ≡ []) × (ys ≡ [])
nothing_left [] ys h = (refl, h)
nothing_left (x ∷ xs) ys h = absurd cc

plain_include : (shipped : List Item) (i : TheInclude) (metrics : Bool) → cond metrics [] (Include i ∷ []) ≡ [] → cond metrics (Include i ∷ []) (flat_map (at_line i.line) shipped) ≡ Include i ∷ []
plain_include shipped i true h = refl
plain_include shipped i false h = absurd cc

plain_item : (shipped : List Item) (item : Item) → hyp_include item ≡ [] → expansion shipped item ≡ item ∷ []
plain_item shipped (Include i) h = plain_include shipped i i.metrics h
plain_item shipped (Sync s) h = refl
plain_item shipped (Metric m) h = refl
plain_item shipped (Constraint c) h = refl
plain_item shipped (Hypothesis x) h = refl
plain_item shipped (Search s) h = refl
plain_item shipped (Phase p) h = refl
plain_item shipped (Wish w) h = refl

-- they stand for themselves
pub plain_same : (shipped items : List Item) → flat_map hyp_include items ≡ [] → expanded shipped items ≡ items
plain_same shipped [] h = refl
plain_same shipped (i ∷ items) h =
    let k = nothing_left (hyp_include i) (flat_map hyp_include items) h in
    ap (λ (l : List Item). l ++ expanded shipped items) (plain_item shipped i k.0) ∙ ap (λ (l : List Item). i ∷ l) (plain_same shipped items k.1)

no_include_in : (shipped : List Item) (i : TheInclude) (metrics : Bool) → i.metrics ≡ metrics → flat_map hyp_include (cond metrics (Include i ∷ []) (flat_map (at_line i.line) shipped)) ≡ []
no_include_in shipped i true m = append-nil (hyp_include (Include i)) ∙ ap (λ (b : Bool). cond b [] (Include i ∷ [])) m
no_include_in shipped i false m = none_at_line hyp_include (λ h. refl) i.line shipped

no_include_of : (shipped : List Item) (item : Item) → flat_map hyp_include (expansion shipped item) ≡ []
no_include_of shipped (Include i) = no_include_in shipped i i.metrics refl
no_include_of shipped (Sync s) = refl
no_include_of shipped (Metric m) = refl
no_include_of shipped (Constraint c) = refl
no_include_of shipped (Hypothesis h) = refl
no_include_of shipped (Search s) = refl
no_include_of shipped (Phase p) = refl
no_include_of shipped (Wish w) = refl

pub expanded_plain : (shipped items : List Item) → flat_map hyp_include (expanded shipped items) ≡ []
expanded_plain shipped [] = refl
expanded_plain shipped (i ∷ items) =
    flat_map-append hyp_include (expansion shipped i) (expanded shipped items) ∙ ap (λ (l : List Item). l ++ flat_map hyp_include (expanded shipped items)) (no_include_of shipped i) ∙ expanded_plain shipped items

-- ---- includes of hypotheses, also those that are shipped

abbrev pub placed_include : PlacedItem → List Item
placed_include s = hyp_include s.item

fewer_in : (shipped : List Item) (i : TheInclude) (metrics : Bool) → i.metrics ≡ metrics →
    length (flat_map (by_item placed_include shipped) (cond metrics (Include i ∷ []) (flat_map (at_line i.line) shipped))) ≤ length (by_item placed_include shipped (Include i))
fewer_in shipped i true m = omega (arith, ap length (append-nil (by_item placed_include shipped (Include i))))
fewer_in shipped i false m = omega (arith, ap length (none_at_line (by_item placed_include shipped) (λ h. refl) i.line shipped))

alone_few : (shipped : List Item) (item : Item) → length (flat_map (by_item placed_include shipped) (item ∷ [])) ≤ length (by_item placed_include shipped item)
alone_few shipped item = omega (arith, ap length (append-nil (by_item placed_include shipped item)))

fewer_of : (shipped : List Item) (item : Item) → length (flat_map (by_item placed_include shipped) (expansion shipped item)) ≤ length (by_item placed_include shipped item)
fewer_of shipped (Include i) = fewer_in shipped i i.metrics refl
fewer_of shipped (Sync s) = alone_few shipped (Sync s)
fewer_of shipped (Metric m) = alone_few shipped (Metric m)
fewer_of shipped (Constraint c) = alone_few shipped (Constraint c)
fewer_of shipped (Hypothesis h) = alone_few shipped (Hypothesis h)
fewer_of shipped (Search s) = alone_few shipped (Search s)
fewer_of shipped (Phase p) = alone_few shipped (Phase p)
fewer_of shipped (Wish w) = alone_few shipped (Wish w)

fewer_items : (shipped items : List Item) → length (flat_map (by_item placed_include shipped) (expanded shipped items)) ≤ length (flat_map (by_item placed_include shipped) items)
fewer_items shipped [] = omega arith
fewer_items shipped (i ∷ items) =
    omega (
      arith,
      ap length (flat_map-append (by_item placed_include shipped) (expansion shipped i) (expanded shipped items)),
      length-append (flat_map (by_item placed_include shipped) (expansion shipped i)) (flat_map (by_item placed_include shipped) (expanded shipped items)),
      length-append (by_item placed_include shipped i) (flat_map (by_item placed_include shipped) items),
      fewer_of shipped i,
      fewer_items shipped items,
    )

pub fewer_includes : (shipped items : List Item) → length (flat_map placed_include (placed_items shipped (expanded shipped items))) ≤ length (flat_map placed_include (placed_items shipped items))
fewer_includes shipped items =
    omega (arith, ap length (placed_by_item placed_include shipped (expanded shipped items)), ap length (placed_by_item placed_include shipped items), fewer_items shipped items)

-- ---- how many there are of each

abbrev pub keep : PlacedItem → List PlacedItem
keep s = cond (is_other s.item) (s ∷ []) []

count_item : (line : ℕ) (item : Item) → 1 ≡ length (keep (placed_item line item)) + (length (strip item) + length (hyp_include item))
count_item line (Include i) = by i.metrics
  where
    by : (b : Bool) → 1 ≡ length (cond b (placed_item line (Include i) ∷ []) []) + (0 + length (cond b [] (Include i ∷ [])))
    by true = refl
    by false = refl
count_item line (Sync s) = refl
count_item line (Metric m) = refl
count_item line (Constraint c) = refl
count_item line (Hypothesis h) = refl
count_item line (Search s) = refl
count_item line (Phase p) = refl
count_item line (Wish w) = refl

pub count_placed : (ss : List PlacedItem) → length ss ≡ length (flat_map keep ss) + (length (flat_map placed_stripped ss) + length (flat_map placed_include ss))
count_placed [] = refl
count_placed (s ∷ ss) =
    omega (arith, count_placed ss, count_item s.line s.item, length-append (keep s) (flat_map keep ss), length-append (strip s.item) (flat_map placed_stripped ss), length-append (hyp_include s.item) (flat_map placed_include ss))

abbrev pub placed_sync : PlacedItem → List (List ℕ)
placed_sync s = sync_of s.item
