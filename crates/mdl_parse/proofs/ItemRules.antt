-- The readers of the items of a configuration.
use Rattle.std.proofs.Common.{◌≡◌, ℕ, Bool, true, false, List, [], ◌∷◌, ◌++◌, Option, Some, None, Ok, refl, sym, ap, ◌∙◌, codes, cond}
use Rattle.std.specs.List.{flat_map}
use Rattle.std.proofs.lemmas.List.{append_assoc}
use Rattle.pn_text.specs.Words.{Word, NameWord, NumberWord, QuotedWord, SignWord}
use Rattle.pn_text.specs.declared.token.Sign.TheVariants.{OpenBrace, CloseBrace, Semicolon}
use Rattle.mdl_ast.specs.declared.items.Hypothesis.{Hypothesis}
use Rattle.mdl_ast.specs.declared.block.Block.{Block}
use Rattle.mdl_parse.specs.WordsInText.{PlacedWord, TreeWord, Starts, Goes, other_words, starts, IsWord}
use Rattle.mdl_parse.specs.Steps.{Read, ◌>>=◌, is_first, option_at}
use Rattle.mdl_parse.specs.Readers.{keyword_at, sign_at, name_at, number_at, quoted_at}
use Rattle.mdl_parse.specs.Items.{opened_at, initial_at, initially_at, reference_at, references_at, units_at, base_at, body_at, metric_at, constraint_at, named_field_at, number_field_at, parent_at, axis_names_at, axes_at, hypothesis_at, include_at, sync_at, search_at, phase_at, wish_at}
use Rattle.mdl_parse.specs.Grammar.{keyword, names_words, blocks_tree_words}
use Rattle.mdl_parse.specs.ItemGrammar.{reference_words, initially_words, metric_tree_words, constraint_tree_words, parent_words, axes_words, hypothesis_words, include_words, sync_words, search_words, phase_words, wish_words}
use Rattle.mdl_parse.specs.Shapes.{HasNames, BlocksShaped, is_keyword}
use Rattle.mdl_parse.proofs.Rules.{StartsAs, never}
use Rattle.mdl_parse.proofs.Readers.{Reads, closed, any, plainly, one as one_word}
use Rattle.mdl_parse.proofs.Options.{option_reads, option_on, option_ok, option_tree_words}
use Rattle.mdl_parse.proofs.Loops.{Loop, loops}
use Rattle.mdl_parse.proofs.Repeats.{many_reads, all_ok, always}
use Rattle.mdl_parse.proofs.Combine.{both, both_open, bind_assoc, bind_id, made}
use Rattle.mdl_parse.proofs.LeafRules.{keyword_reads, sign_reads, start_reads, name_reads, number_reads, quoted_reads, path_reads}
use Rattle.mdl_parse.proofs.ChoiceRules.{choice_reads, choice_word}
use Rattle.mdl_parse.proofs.StatementRules.{goes-append, goes-flat_map}
use Rattle.mdl_parse.proofs.BlockRules.{blocks_reads, names_reads, goes_behind, all_any}

-- ---- fields

field_reads : {A : Type 0} (text : List ℕ) → IsWord (keyword text) → (r : List PlacedWord → Read A) (word : A → Word) → Reads (λ n. r) (one_word word) any closed →
    (r' : List PlacedWord → Read A) → ((words_ahead : List PlacedWord) → r' words_ahead ≡ (keyword_at text words_ahead >>= λ w. r w.1 >>= λ a. sign_at Semicolon a.1 >>= λ e. Ok (a.0, e.1))) →
    Reads (λ n. r') (λ a. other_words (keyword text ∷ word a ∷ SignWord Semicolon ∷ [])) any closed
field_reads text good r word p r' same = made (both (keyword_reads text good) (both p (sign_reads Semicolon))) (λ x. x.1.0) (λ n. r') (λ a. other_words (keyword text ∷ word a ∷ SignWord Semicolon ∷ [])) any closed
    (λ n words_ahead. same words_ahead ∙ simp bind_assoc) (λ n a h. refl) (λ n a h. refl) (λ n a h. tt) (λ n b h. ((tt, (b, tt)), (tt, (tt, tt)), refl)) (λ n k b le h. tt)

pub named_field_reads : (text : List ℕ) → IsWord (keyword text) → Reads (λ n. named_field_at text) (λ name. other_words (keyword text ∷ NameWord name ∷ SignWord Semicolon ∷ [])) any closed
unfolding named_field_at
named_field_reads text good = field_reads text good name_at NameWord name_reads (named_field_at text) (λ words_ahead. refl)

pub number_field_reads : (text : List ℕ) → IsWord (keyword text) → Reads (λ n. number_field_at text) (λ k. other_words (keyword text ∷ NumberWord k ∷ SignWord Semicolon ∷ [])) any closed
unfolding number_field_at
number_field_reads text good = field_reads text good number_at NumberWord number_reads (number_field_at text) (λ words_ahead. refl)

abbrev pub reference_tree_words : List ℕ → List TreeWord
reference_tree_words name = other_words (reference_words name)

pub reference_reads : Reads (λ n. reference_at) (λ name. other_words (reference_words name)) any closed
unfolding reference_at
reference_reads = field_reads (codes "constraint") refl name_at NameWord name_reads reference_at (λ words_ahead. refl)

units_reads : Reads (λ n. units_at) (λ units. other_words (keyword (codes "units") ∷ QuotedWord units ∷ SignWord Semicolon ∷ [])) any closed
unfolding units_at
units_reads = field_reads (codes "units") refl quoted_at QuotedWord quoted_reads units_at (λ words_ahead. refl)

opened_reads : (text : List ℕ) → IsWord (keyword text) → Reads (λ n. opened_at text) (λ p. starts p.0 (keyword text ∷ NameWord p.1 ∷ SignWord OpenBrace ∷ [])) any closed
unfolding opened_at
opened_reads text good = made (both (start_reads text good) (both name_reads (sign_reads OpenBrace))) (λ p. (p.0, p.1.0)) (λ n. opened_at text)
    (λ p. starts p.0 (keyword text ∷ NameWord p.1 ∷ SignWord OpenBrace ∷ [])) any closed
    (λ n words_ahead. simp bind_assoc) (λ n a h. refl) (λ n a h. refl) (λ n a h. tt) (λ n b h. ((b.0, (b.1, tt)), (tt, (tt, tt)), refl)) (λ n k b le h. tt)

-- ---- metrics and constraints

pub references_reads : Reads (λ n. references_at) (flat_map (λ name. other_words (reference_words name))) (all_ok any) (always (is_keyword (codes "constraint")))
references_reads = many_reads (is_keyword (codes "constraint")) (λ n. reference_at) (λ name. other_words (reference_words name)) any reference_reads (λ n a h. refl)

pub references_loop : Loop (is_keyword (codes "constraint")) reference_at
references_loop = loops (is_keyword (codes "constraint")) (λ n. reference_at) reference_tree_words any reference_reads (λ n a h. refl) 0

initial_reads : Reads (λ n. initial_at) (λ k. other_words (keyword (codes "initially") ∷ NumberWord k ∷ [])) any closed
unfolding initial_at
initial_reads = made (both (keyword_reads (codes "initially") refl) number_reads) (λ p. p.1) (λ n. initial_at) (λ k. other_words (keyword (codes "initially") ∷ NumberWord k ∷ [])) any closed
    (λ n words_ahead. simp bind_assoc) (λ n a h. refl) (λ n a h. refl) (λ n a h. tt) (λ n b h. ((tt, b), (tt, tt), refl)) (λ n k b le h. tt)

abbrev initially_on : Option ℕ → Word → Bool
initially_on = option_on (is_keyword (codes "initially"))

initially_reads : Reads (λ n. initially_at) (λ o. other_words (initially_words o)) any initially_on
initially_reads = made (option_reads (is_keyword (codes "initially")) (λ n. initial_at) (λ k. other_words (keyword (codes "initially") ∷ NumberWord k ∷ [])) any initial_reads (λ n a h. refl))
    (λ o. o) (λ n. initially_at) (λ o. other_words (initially_words o)) any initially_on
    (λ n words_ahead. bind_id (initially_at words_ahead)) tree_words (λ n a h. refl) (λ n a h. tt) back (λ n k b le h. tt)
  where
    tree_words : (n : ℕ) (a : Option ℕ) → option_ok any n a → other_words (initially_words a) ≡ option_tree_words (λ k. other_words (keyword (codes "initially") ∷ NumberWord k ∷ [])) a
    tree_words n None h = refl
    tree_words n (Some k) h = refl

    back : (n : ℕ) (b : Option ℕ) → Unit {0} → (a : Option ℕ) × option_ok any n a × (a ≡ b)
    back n None h = (None, tt, refl)
    back n (Some k) h = (Some k, tt, refl)

-- blocks don't begin with a word that goes on with `initially`
initially_ends : (o : Option ℕ) → initially_on o (SignWord OpenBrace) ≡ false
initially_ends None = refl
initially_ends (Some k) = refl

base_reads : Reads (λ n. base_at) (λ timer. other_words (keyword (codes "base") ∷ keyword (codes "is") ∷ choice_word (codes "timer") (codes "counter") timer ∷ [])) any closed
unfolding base_at
base_reads = made (both (keyword_reads (codes "base") refl) (both (keyword_reads (codes "is") refl) (choice_reads (codes "timer") (codes "counter") refl refl)))
    (λ p. p.1.1) (λ n. base_at) (λ timer. other_words (keyword (codes "base") ∷ keyword (codes "is") ∷ choice_word (codes "timer") (codes "counter") timer ∷ [])) any closed
    (λ n words_ahead. simp bind_assoc) (λ n a h. refl) (λ n a h. refl) (λ n a h. tt) (λ n b h. ((tt, (tt, b)), (tt, (tt, tt)), refl)) (λ n k b le h. tt)

abbrev body_tree_words : Option ℕ × List Block → List TreeWord
body_tree_words b = other_words (initially_words b.0) ++ blocks_tree_words b.1

body_reads : Reads body_at body_tree_words (λ n b. BlocksShaped n b.1) closed
unfolding body_at
body_reads = made (both_open initially_reads blocks_reads (λ n a b h. initially_ends a)) (λ p. p) body_at body_tree_words (λ n b. BlocksShaped n b.1) closed
    (λ n words_ahead. simp bind_assoc) (λ n p h. refl) (λ n a h. refl) (λ n p h. h.1) (λ n b h. (b, (tt, h), refl)) (λ n k b le h. blocks_reads.wider n k b.1 le h)

pub metric_reads : Reads metric_at metric_tree_words (λ n m. BlocksShaped n m.blocks) closed
unfolding metric_at
metric_reads = made (both (opened_reads (codes "metric") refl) (both units_reads (both_open references_reads (both base_reads (both body_reads (sign_reads CloseBrace))) (λ n a b h. refl))))
    (λ p. record { line = p.0.0; name = p.0.1; units = p.1.0; constraints = p.1.1.0; timer = p.1.1.1.0; initially = p.1.1.1.1.0.0; blocks = p.1.1.1.1.0.1 })
    metric_at metric_tree_words (λ n m. BlocksShaped n m.blocks) closed
    (λ n words_ahead. simp bind_assoc)
    (λ n p h. tree_words p.0.0 p.0.1 p.1.0 p.1.1.0 p.1.1.1.0 p.1.1.1.1.0.0 p.1.1.1.1.0.1) (λ n a h. refl) (λ n p h. h.1.1.1.1.0)
    (λ n m h. (((m.line, m.name), (m.units, (m.constraints, (m.timer, ((m.initially, m.blocks), tt))))), (tt, (tt, (all_any n m.constraints, (tt, (h, tt))))), refl))
    (λ n k m le h. blocks_reads.wider n k m.blocks le h)
  where
    tree_words : (line : ℕ) (name units : List ℕ) (constraints : List (List ℕ)) (timer : Bool) (initially : Option ℕ) (blocks : List Block)
        → metric_tree_words (record { line = line; name = name; units = units; constraints = constraints; timer = timer; initially = initially; blocks = blocks })
        ≡ Starts line (keyword (codes "metric")) ∷ Goes (NameWord name) ∷ Goes (SignWord OpenBrace) ∷ Goes (keyword (codes "units")) ∷ Goes (QuotedWord units) ∷ Goes (SignWord Semicolon)
        ∷ (flat_map (λ name. other_words (reference_words name)) constraints
        ++ (Goes (keyword (codes "base")) ∷ Goes (keyword (codes "is")) ∷ Goes (choice_word (codes "timer") (codes "counter") timer)
        ∷ ((other_words (initially_words initially) ++ blocks_tree_words blocks) ++ (Goes (SignWord CloseBrace) ∷ []))))
    tree_words line name units constraints timer initially blocks = ap
        (λ (t : List TreeWord). Starts line (keyword (codes "metric")) ∷ Goes (NameWord name) ∷ Goes (SignWord OpenBrace) ∷ Goes (keyword (codes "units")) ∷ Goes (QuotedWord units) ∷ Goes (SignWord Semicolon) ∷ t)
        (goes_behind (flat_map reference_words constraints) (keyword (codes "base") ∷ keyword (codes "is") ∷ choice_word (codes "timer") (codes "counter") timer ∷ initially_words initially)
        (blocks_tree_words blocks ++ (Goes (SignWord CloseBrace) ∷ []))
        ∙ rw (goes-flat_map reference_words constraints, append_assoc (other_words (initially_words initially)) (blocks_tree_words blocks) (Goes (SignWord CloseBrace) ∷ [])) refl)

pub constraint_reads : Reads constraint_at constraint_tree_words (λ n c. BlocksShaped n c.blocks) closed
unfolding constraint_at
constraint_reads = made (both (start_reads (codes "constraint") refl) (both name_reads (both path_reads (both (keyword_reads (codes "is") refl)
    (both (choice_reads (codes "replace") (codes "counter") refl refl) body_reads)))))
    (λ p. record { line = p.0; name = p.1.0; path = p.1.1.0; replace = p.1.1.1.1.0; initially = p.1.1.1.1.1.0; blocks = p.1.1.1.1.1.1 })
    constraint_at constraint_tree_words (λ n c. BlocksShaped n c.blocks) closed
    (λ n words_ahead. simp bind_assoc) (λ n p h. refl) (λ n a h. refl) (λ n p h. h.1.1.1.1.1)
    (λ n c h. ((c.line, (c.name, (c.path, (tt, (c.replace, (c.initially, c.blocks)))))), (tt, (tt, (tt, (tt, (tt, h))))), refl))
    (λ n k c le h. blocks_reads.wider n k c.blocks le h)

-- ---- hypotheses

abbrev parent_on : Option (List ℕ) → Word → Bool
parent_on = option_on (is_keyword (codes "parent"))

parent_reads : Reads (λ n. parent_at) (λ o. other_words (parent_words o)) any parent_on
parent_reads = made (option_reads (is_keyword (codes "parent")) (λ n. named_field_at (codes "parent")) (λ name. other_words (keyword (codes "parent") ∷ NameWord name ∷ SignWord Semicolon ∷ [])) any
    (named_field_reads (codes "parent") refl) (λ n a h. refl))
    (λ o. o) (λ n. parent_at) (λ o. other_words (parent_words o)) any parent_on
    (λ n words_ahead. bind_id (parent_at words_ahead)) tree_words (λ n a h. refl) (λ n a h. tt) back (λ n k b le h. tt)
  where
    tree_words : (n : ℕ) (a : Option (List ℕ)) → option_ok any n a → other_words (parent_words a) ≡ option_tree_words (λ name. other_words (keyword (codes "parent") ∷ NameWord name ∷ SignWord Semicolon ∷ [])) a
    tree_words n None h = refl
    tree_words n (Some name) h = refl

    back : (n : ℕ) (b : Option (List ℕ)) → Unit {0} → (a : Option (List ℕ)) × option_ok any n a × (a ≡ b)
    back n None h = (None, tt, refl)
    back n (Some name) h = (Some name, tt, refl)

parent_ends : (o : Option (List ℕ)) → parent_on o (keyword (codes "metric")) ≡ false
parent_ends None = refl
parent_ends (Some name) = refl

axis_tree_words : List (List ℕ) → List TreeWord
axis_tree_words names = other_words (keyword (codes "axes") ∷ (names_words names ++ (SignWord Semicolon ∷ [])))

axis_names_reads : Reads (λ n. axis_names_at) axis_tree_words (plainly HasNames) closed
unfolding axis_names_at axis_tree_words
axis_names_reads = made (both (keyword_reads (codes "axes") refl) (both_open names_reads (sign_reads Semicolon) (λ n a b h. refl))) (λ p. p.1.0) (λ n. axis_names_at) axis_tree_words (plainly HasNames) closed
    (λ n words_ahead. simp bind_assoc) (λ n p h. ap (λ (t : List TreeWord). Goes (keyword (codes "axes")) ∷ t) (goes-append (names_words p.1.0) (SignWord Semicolon ∷ []))) (λ n a h. refl) (λ n p h. h.1.0)
    (λ n b h. ((tt, (b, tt)), (tt, (h, tt)), refl)) (λ n k b le h. h)

axis_starts : (n : ℕ) (a : List (List ℕ)) → HasNames a → StartsAs (is_keyword (codes "axes")) true (axis_tree_words a)
unfolding axis_tree_words
axis_starts n a h = refl

abbrev listed : Option (List (List ℕ)) → List (List ℕ)
listed None = []
listed (Some names) = names

abbrev axes_on : List (List ℕ) → Word → Bool
axes_on [] = is_keyword (codes "axes")
axes_on (name ∷ names) = never

axes_reads : Reads (λ n. axes_at) (λ names. other_words (axes_words names)) any axes_on
unfolding axes_at option_at axis_tree_words
axes_reads = made (option_reads (is_keyword (codes "axes")) (λ n. axis_names_at) axis_tree_words (plainly HasNames) axis_names_reads axis_starts)
    listed (λ n. axes_at) (λ names. other_words (axes_words names)) any axes_on
    (λ n words_ahead. same words_ahead (is_first (is_keyword (codes "axes")) words_ahead)) tree_words ons (λ n a h. tt) back (λ n k b le h. tt)
  where
    same : (words_ahead : List PlacedWord) (b : Bool) → cond b (axis_names_at words_ahead) (Ok ([], words_ahead)) ≡ (cond b (axis_names_at words_ahead >>= λ x. Ok (Some x.0, x.1)) (Ok (None, words_ahead)) >>= λ x. Ok (listed x.0, x.1))
    same words_ahead true = bind_id (axis_names_at words_ahead) ∙ sym (bind_assoc (axis_names_at words_ahead) (λ x. Ok (Some x.0, x.1)) (λ x. Ok (listed x.0, x.1)))
    same words_ahead false = refl

    tree_words : (n : ℕ) (a : Option (List (List ℕ))) → option_ok (plainly HasNames) n a → other_words (axes_words (listed a)) ≡ option_tree_words axis_tree_words a
    tree_words n None h = refl
    tree_words n (Some []) h = absurd h
    tree_words n (Some (name ∷ names)) h = refl

    ons : (n : ℕ) (a : Option (List (List ℕ))) → option_ok (plainly HasNames) n a → axes_on (listed a) ≡ option_on (is_keyword (codes "axes")) a
    ons n None h = refl
    ons n (Some []) h = absurd h
    ons n (Some (name ∷ names)) h = refl

    back : (n : ℕ) (b : List (List ℕ)) → Unit {0} → (a : Option (List (List ℕ))) × option_ok (plainly HasNames) n a × (listed a ≡ b)
    back n [] h = (None, tt, refl)
    back n (name ∷ names) h = (Some (name ∷ names), tt, refl)

axes_end : (names : List (List ℕ)) → axes_on names (SignWord CloseBrace) ≡ false
axes_end [] = refl
axes_end (name ∷ names) = refl

abbrev pub hypothesis_tree_words : Hypothesis → List TreeWord
hypothesis_tree_words h = starts h.line (hypothesis_words h)

pub hypothesis_reads : Reads (λ n. hypothesis_at) hypothesis_tree_words any closed
unfolding hypothesis_at
hypothesis_reads = made (both (opened_reads (codes "hypothesis") refl) (both_open parent_reads
    (both (named_field_reads (codes "metric") refl) (both (number_field_reads (codes "threshold") refl) (both_open axes_reads (sign_reads CloseBrace) (λ n a b h. axes_end a))))
    (λ n a b h. parent_ends a)))
    (λ p. record { line = p.0.0; name = p.0.1; parent = p.1.0; metric = p.1.1.0; threshold = p.1.1.1.0; axes = p.1.1.1.1.0 })
    (λ n. hypothesis_at) hypothesis_tree_words any closed
    (λ n words_ahead. simp bind_assoc) (λ n p h. tree_words p.0.0 p.0.1 p.1.0 p.1.1.0 p.1.1.1.0 p.1.1.1.1.0) (λ n a h. refl) (λ n a h. tt)
    (λ n h k. (((h.line, h.name), (h.parent, (h.metric, (h.threshold, (h.axes, tt))))), (tt, (tt, (tt, (tt, (tt, tt))))), refl)) (λ n k b le h. tt)
  where
    tree_words : (line : ℕ) (name : List ℕ) (parent : Option (List ℕ)) (metric : List ℕ) (threshold : ℕ) (axes : List (List ℕ))
        → hypothesis_tree_words (record { line = line; name = name; parent = parent; metric = metric; threshold = threshold; axes = axes })
        ≡ Starts line (keyword (codes "hypothesis")) ∷ Goes (NameWord name) ∷ Goes (SignWord OpenBrace)
        ∷ (other_words (parent_words parent) ++ (other_words (keyword (codes "metric") ∷ NameWord metric ∷ SignWord Semicolon ∷ keyword (codes "threshold") ∷ NumberWord threshold ∷ SignWord Semicolon ∷ [])
        ++ (other_words (axes_words axes) ++ (Goes (SignWord CloseBrace) ∷ []))))
    tree_words line name parent metric threshold axes = ap (λ (t : List TreeWord). Starts line (keyword (codes "hypothesis")) ∷ Goes (NameWord name) ∷ Goes (SignWord OpenBrace) ∷ t)
        (goes-append (parent_words parent) (keyword (codes "metric") ∷ NameWord metric ∷ SignWord Semicolon ∷ keyword (codes "threshold") ∷ NumberWord threshold ∷ SignWord Semicolon ∷ (axes_words axes ++ (SignWord CloseBrace ∷ [])))
        ∙ ap (λ (t : List TreeWord). other_words (parent_words parent) ++ (other_words (keyword (codes "metric") ∷ NameWord metric ∷ SignWord Semicolon ∷ keyword (codes "threshold") ∷ NumberWord threshold ∷ SignWord Semicolon ∷ []) ++ t))
        (goes-append (axes_words axes) (SignWord CloseBrace ∷ [])))

-- ---- the other items

pub include_reads : Reads (λ n. include_at) (λ i. starts i.line (include_words i)) any closed
unfolding include_at
include_reads = made (both (start_reads (codes "include") refl) (both (choice_reads (codes "metrics") (codes "hypotheses") refl refl) (sign_reads Semicolon)))
    (λ p. record { line = p.0; metrics = p.1.0 }) (λ n. include_at) (λ i. starts i.line (include_words i)) any closed
    (λ n words_ahead. simp bind_assoc) (λ n a h. refl) (λ n a h. refl) (λ n a h. tt) (λ n i h. ((i.line, (i.metrics, tt)), (tt, (tt, tt)), refl)) (λ n k b le h. tt)

pub sync_reads : Reads (λ n. sync_at) (λ s. starts s.line (sync_words s)) any closed
unfolding sync_at
sync_reads = made (both (start_reads (codes "sync") refl) (both name_reads (sign_reads Semicolon)))
    (λ p. record { line = p.0; name = p.1.0 }) (λ n. sync_at) (λ s. starts s.line (sync_words s)) any closed
    (λ n words_ahead. simp bind_assoc) (λ n a h. refl) (λ n a h. refl) (λ n a h. tt) (λ n s h. ((s.line, (s.name, tt)), (tt, (tt, tt)), refl)) (λ n k b le h. tt)

pub search_reads : Reads (λ n. search_at) (λ s. starts s.line (search_words s)) any closed
unfolding search_at
search_reads = made (both (start_reads (codes "search") refl) (both (sign_reads OpenBrace) (both (number_field_reads (codes "window") refl) (both (number_field_reads (codes "cost") refl)
    (both (number_field_reads (codes "observed") refl) (sign_reads CloseBrace))))))
    (λ p. record { line = p.0; window = p.1.1.0; cost = p.1.1.1.0; observed = p.1.1.1.1.0 }) (λ n. search_at) (λ s. starts s.line (search_words s)) any closed
    (λ n words_ahead. simp bind_assoc) (λ n a h. refl) (λ n a h. refl) (λ n a h. tt)
    (λ n s h. ((s.line, (tt, (s.window, (s.cost, (s.observed, tt))))), (tt, (tt, (tt, (tt, (tt, tt))))), refl)) (λ n k b le h. tt)

pub phase_reads : Reads (λ n. phase_at) (λ p. starts p.line (phase_words p)) any closed
unfolding phase_at
phase_reads = made (both (start_reads (codes "phase") refl) (both name_reads (number_field_reads (codes "at") refl)))
    (λ p. record { line = p.0; name = p.1.0; at = p.1.1 }) (λ n. phase_at) (λ p. starts p.line (phase_words p)) any closed
    (λ n words_ahead. simp bind_assoc) (λ n a h. refl) (λ n a h. refl) (λ n a h. tt) (λ n s h. ((s.line, (s.name, s.at)), (tt, (tt, tt)), refl)) (λ n k b le h. tt)

pub wish_reads : Reads (λ n. wish_at) (λ w. starts w.line (wish_words w)) any closed
unfolding wish_at
wish_reads = made (both (start_reads (codes "at") refl) (both number_reads (both (choice_reads (codes "show") (codes "drop") refl refl) (both name_reads (both path_reads (sign_reads Semicolon))))))
    (λ p. record { line = p.0; at = p.1.0; show = p.1.1.0; metric = p.1.1.1.0; focus = p.1.1.1.1.0 }) (λ n. wish_at) (λ w. starts w.line (wish_words w)) any closed
    (λ n words_ahead. simp bind_assoc) (λ n a h. refl) (λ n a h. refl) (λ n a h. tt)
    (λ n w h. ((w.line, (w.at, (w.show, (w.metric, (w.focus, tt))))), (tt, (tt, (tt, (tt, (tt, tt))))), refl)) (λ n k b le h. tt)
