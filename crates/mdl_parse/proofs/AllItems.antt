-- The readers of an item of any kind, and of all items.
use Rattle.std.proofs.Common.{◌≡◌, ℕ, true, List, [], ◌∷◌, refl, subst}
use Rattle.std.specs.List.{flat_map}
use Rattle.mdl_ast.specs.declared.items.Item.{Item}
use Rattle.mdl_ast.specs.declared.items.Item.TheVariants as item
use Rattle.mdl_ast.specs.declared.items.Include.{Include}
use Rattle.mdl_ast.specs.declared.items.SyncDecl.{SyncDecl}
use Rattle.mdl_ast.specs.declared.items.Hypothesis.{Hypothesis}
use Rattle.mdl_ast.specs.declared.items.SearchDecl.{SearchDecl}
use Rattle.mdl_ast.specs.declared.items.PhaseDecl.{PhaseDecl}
use Rattle.mdl_ast.specs.declared.items.Wish.{Wish}
use Rattle.mdl_ast.specs.declared.metric.Metric.{Metric}
use Rattle.mdl_ast.specs.declared.metric.Constraint.{Constraint}
use Rattle.mdl_parse.specs.WordsInText.{PlacedWord, TreeWord}
use Rattle.mdl_parse.specs.Picks.{is_any}
use Rattle.mdl_parse.specs.Steps.{Read}
use Rattle.mdl_parse.specs.Items.{as_item, ItemKind, Includes, Syncs, Metrics, Constraints, Hypotheses, Searches, Phases, Wishes, kind_at, kind_read, item_at, items_at}
use Rattle.mdl_parse.specs.ItemGrammar.{item_tree_words}
use Rattle.mdl_parse.specs.Shapes.{BlocksShaped, ItemShaped}
use Rattle.mdl_parse.proofs.Rules.{StartsAs}
use Rattle.mdl_parse.proofs.Readers.{Reads, closed}
use Rattle.mdl_parse.proofs.Options.{BeginsAs, of_kind, chosen_reads}
use Rattle.mdl_parse.proofs.Loops.{Loop, loops}
use Rattle.mdl_parse.proofs.Repeats.{many_reads, all_ok, always}
use Rattle.mdl_parse.proofs.Combine.{made}
use Rattle.mdl_parse.proofs.ItemRules.{metric_reads, constraint_reads, hypothesis_reads, include_reads, sync_reads, search_reads, phase_reads, wish_reads}

abbrev kind : Item → ItemKind
kind (item.Include x) = Includes
kind (item.Sync x) = Syncs
kind (item.Metric x) = Metrics
kind (item.Constraint x) = Constraints
kind (item.Hypothesis x) = Hypotheses
kind (item.Search x) = Searches
kind (item.Phase x) = Phases
kind (item.Wish x) = Wishes

-- an item of this kind
abbrev Of : ItemKind → ℕ → Item → Type 0
Of = of_kind kind ItemShaped

-- the reader of a kind, from that of what its items hold
part_reads : {A : Type 0} {r : ℕ → List PlacedWord → Read A} {m : A → List TreeWord} {ok : ℕ → A → Type 0} → Reads r m ok closed → (k : ItemKind) (to : A → Item) →
    ((n : ℕ) (a : A) → ok n a → (item_tree_words (to a) ≡ m a) × Of k n (to a)) → ((n : ℕ) (i : Item) → Of k n i → (a : A) × ok n a × (to a ≡ i)) →
    Reads (λ n words_ahead. as_item to (r n words_ahead)) item_tree_words (Of k) closed
part_reads {A} {r} p k to there back = made p to (λ n words_ahead. as_item to (r n words_ahead)) item_tree_words (Of k) closed
    (λ n words_ahead. refl) (λ n a h. (there n a h).0) (λ n a h. refl) (λ n a h. (there n a h).1) back
    (λ n j i le h. let b = back n i h in subst (Of k j) b.2 (there j b.0 (p.wider n j b.0 le b.1)).1)

kinds_read : (k : ItemKind) → Reads (kind_read k) item_tree_words (Of k) closed
kinds_read Includes = part_reads include_reads Includes item.Include (λ n a h. (refl, (refl, h))) back
  where
    back : (n : ℕ) (i : Item) → Of Includes n i → (a : Include) × Unit {0} × (item.Include a ≡ i)
    back n (item.Include x) h = (x, h.1, refl)
    back n i h = absurd (let e = h.0 in cc)
kinds_read Syncs = part_reads sync_reads Syncs item.Sync (λ n a h. (refl, (refl, h))) back
  where
    back : (n : ℕ) (i : Item) → Of Syncs n i → (a : SyncDecl) × Unit {0} × (item.Sync a ≡ i)
    back n (item.Sync x) h = (x, h.1, refl)
    back n i h = absurd (let e = h.0 in cc)
kinds_read Metrics = part_reads metric_reads Metrics item.Metric (λ n a h. (refl, (refl, h))) back
  where
    back : (n : ℕ) (i : Item) → Of Metrics n i → (a : Metric) × BlocksShaped n a.blocks × (item.Metric a ≡ i)
    back n (item.Metric x) h = (x, h.1, refl)
    back n i h = absurd (let e = h.0 in cc)
kinds_read Constraints = part_reads constraint_reads Constraints item.Constraint (λ n a h. (refl, (refl, h))) back
  where
    back : (n : ℕ) (i : Item) → Of Constraints n i → (a : Constraint) × BlocksShaped n a.blocks × (item.Constraint a ≡ i)
    back n (item.Constraint x) h = (x, h.1, refl)
    back n i h = absurd (let e = h.0 in cc)
kinds_read Hypotheses = part_reads hypothesis_reads Hypotheses item.Hypothesis (λ n a h. (refl, (refl, h))) back
  where
    back : (n : ℕ) (i : Item) → Of Hypotheses n i → (a : Hypothesis) × Unit {0} × (item.Hypothesis a ≡ i)
    back n (item.Hypothesis x) h = (x, h.1, refl)
    back n i h = absurd (let e = h.0 in cc)
kinds_read Searches = part_reads search_reads Searches item.Search (λ n a h. (refl, (refl, h))) back
  where
    back : (n : ℕ) (i : Item) → Of Searches n i → (a : SearchDecl) × Unit {0} × (item.Search a ≡ i)
    back n (item.Search x) h = (x, h.1, refl)
    back n i h = absurd (let e = h.0 in cc)
kinds_read Phases = part_reads phase_reads Phases item.Phase (λ n a h. (refl, (refl, h))) back
  where
    back : (n : ℕ) (i : Item) → Of Phases n i → (a : PhaseDecl) × Unit {0} × (item.Phase a ≡ i)
    back n (item.Phase x) h = (x, h.1, refl)
    back n i h = absurd (let e = h.0 in cc)
kinds_read Wishes = part_reads wish_reads Wishes item.Wish (λ n a h. (refl, (refl, h))) back
  where
    back : (n : ℕ) (i : Item) → Of Wishes n i → (a : Wish) × Unit {0} × (item.Wish a ≡ i)
    back n (item.Wish x) h = (x, h.1, refl)
    back n i h = absurd (let e = h.0 in cc)

begins : (n : ℕ) (i : Item) → ItemShaped n i → BeginsAs kind_at (kind i) (item_tree_words i)
begins n (item.Include x) h = refl
begins n (item.Sync x) h = refl
begins n (item.Metric x) h = refl
begins n (item.Constraint x) h = refl
begins n (item.Hypothesis x) h = refl
begins n (item.Search x) h = refl
begins n (item.Phase x) h = refl
begins n (item.Wish x) h = refl

pub item_reads : Reads item_at item_tree_words ItemShaped closed
unfolding item_at
item_reads = chosen_reads kind_at kind kinds_read begins

pub items_start : (n : ℕ) (i : Item) → ItemShaped n i → StartsAs is_any true (item_tree_words i)
items_start n i h = go (item_tree_words i) (begins n i h)
  where
    go : (tree_words : List TreeWord) → BeginsAs kind_at (kind i) tree_words → StartsAs is_any true tree_words
    go [] b = b
    go (tree_word ∷ tree_words) b = refl

pub items_reads : Reads items_at (flat_map item_tree_words) (all_ok ItemShaped) (always is_any)
items_reads = many_reads is_any item_at item_tree_words ItemShaped item_reads items_start

pub items_loop : (n : ℕ) → Loop is_any (item_at n)
items_loop n = loops is_any item_at item_tree_words ItemShaped item_reads items_start n
