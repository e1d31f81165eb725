-- The readers of directives: each reads exactly the words that its value is spelled by.
use Rattle.std.proofs.Common.{◌≡◌, ℕ, Bool, true, false, List, [], ◌∷◌, ◌++◌, Option, Some, None, refl, sym, codes}
use Rattle.std.specs.List.{flat_map}
use Rattle.pn_text.specs.Words.{Word, NameWord, SignWord}
use Rattle.pn_text.specs.declared.token.Sign.TheVariants.{Semicolon}
use Rattle.mdl_parse.specs.Grammar.{keyword}
use Rattle.mdl_parse.specs.Picks.{is_any}
use Rattle.mdl_parse.specs.Shapes.{is_keyword}
use Rattle.mdl_parse.specs.Steps.{Read, is_first, option_at, many_at}
use Rattle.mdl_parse.specs.WordsInText.{PlacedWord, TreeWord, Starts, Goes, other_words}
use Rattle.mdl_parse.proofs.Rules.{StartsAs}
use Rattle.mdl_parse.proofs.Readers.{Reads, closed, any}
use Rattle.mdl_parse.proofs.Options.{option_reads, option_on, option_ok, option_tree_words, BeginsAs, of_kind, chosen_reads}
use Rattle.mdl_parse.proofs.Repeats.{many_reads, all_ok, always}
use Rattle.mdl_parse.proofs.Loops.{Loop, loops, with_front, front_stops}
use Rattle.mdl_parse.proofs.Combine.{both, both_open, bind_assoc, made}
use Rattle.mdl_parse.proofs.LeafRules.{keyword_reads, sign_reads, start_reads, name_reads, number_reads}
use Rattle.directives.specs.declared.directive.Directive.{Directive}
use Rattle.directives.specs.declared.directive.DirectiveAct.{DirectiveAct}
use Rattle.directives.specs.declared.directive.DirectiveAct.TheVariants.{Prune, PruneAxis, Threshold, First}
use Rattle.directives.specs.declared.stop.Stop.{Stop}
use Rattle.directives.specs.declared.stop.Stop.TheVariants.{NoMemory, Unexpected}
use Rattle.directives.specs.Spelling.{directive_words}
use Rattle.directives.specs.Reading.{axis_at, prune_of, prune_at, threshold_at, first_at, Form, Prunes, Thresholds, Firsts, form_at, form_read, directive_at, directives_at}
use Rattle.directives.specs.Ahead.{StopsAt}

-- ---- the axis of a prune

abbrev axis_words : List ℕ → List TreeWord
axis_words axis = other_words (keyword (codes "axis") ∷ NameWord axis ∷ [])

abbrev is_axis : Word → Bool
is_axis = is_keyword (codes "axis")

axis_reads : Reads (λ n. axis_at) axis_words any closed
unfolding axis_at
axis_reads = made (both (keyword_reads (codes "axis") refl) name_reads) (λ p. p.1) (λ n. axis_at) axis_words any closed
    (λ n words_ahead. simp bind_assoc) (λ n a h. refl) (λ n a h. refl) (λ n a h. tt) (λ n b h. ((tt, b), (tt, tt), refl)) (λ n k b le h. tt)

axis_option_reads : Reads (λ n. option_at is_axis axis_at) (option_tree_words axis_words) (option_ok any) (option_on is_axis)
axis_option_reads = option_reads is_axis (λ n. axis_at) axis_words any axis_reads (λ n a h. refl)

-- no axis goes on with a semicolon
axis_ends : (axis : Option (List ℕ)) → option_on is_axis axis (SignWord Semicolon) ≡ false
axis_ends None = refl
axis_ends (Some axis) = refl

-- ---- the forms of directives

abbrev form : DirectiveAct → Form
form (Prune name) = Prunes
form (PruneAxis name axis) = Prunes
form (Threshold name threshold) = Thresholds
form (First name) = Firsts

abbrev form_of : Directive → Form
form_of d = form d.act

abbrev directive : ℕ → DirectiveAct → Directive
directive line act = record { line = line; act = act }

-- a directive of this form
abbrev Of : Form → ℕ → Directive → Type 0
Of = of_kind form_of any

prune_reads : Reads (λ n. prune_at) directive_words (Of Prunes) closed
unfolding prune_at
prune_reads = made (both (start_reads (codes "prune") refl) (both name_reads (both_open axis_option_reads (sign_reads Semicolon) (λ n a b h. axis_ends a))))
    (λ p. directive p.0 (prune_of p.1.0 p.1.1.0)) (λ n. prune_at) directive_words (Of Prunes) closed
    (λ n words_ahead. simp bind_assoc) (λ n p h. words p.0 p.1.0 p.1.1.0) (λ n p h. refl) (λ n p h. (pruned p.1.0 p.1.1.0, tt)) (λ n d h. back d.line d.act h.0) (λ n k d le h. h)
  where
    words : (line : ℕ) (name : List ℕ) (axis : Option (List ℕ)) → directive_words (directive line (prune_of name axis))
        ≡ Starts line (keyword (codes "prune")) ∷ Goes (NameWord name) ∷ (option_tree_words axis_words axis ++ (Goes (SignWord Semicolon) ∷ []))
    words line name None = refl
    words line name (Some axis) = refl

    pruned : (name : List ℕ) (axis : Option (List ℕ)) → form (prune_of name axis) ≡ Prunes
    pruned name None = refl
    pruned name (Some axis) = refl

    back : (line : ℕ) (act : DirectiveAct) → form act ≡ Prunes → (p : ℕ × (List ℕ × (Option (List ℕ) × Unit {0})))
        × (Unit {0} × (Unit {0} × (option_ok any 0 p.1.1.0 × Unit {0}))) × (directive p.0 (prune_of p.1.0 p.1.1.0) ≡ directive line act)
    back line (Prune name) e = ((line, (name, (None, tt))), (tt, (tt, (tt, tt))), refl)
    back line (PruneAxis name axis) e = ((line, (name, (Some axis, tt))), (tt, (tt, (tt, tt))), refl)
    back line act e = absurd cc

threshold_reads : Reads (λ n. threshold_at) directive_words (Of Thresholds) closed
unfolding threshold_at
threshold_reads = made (both (start_reads (codes "threshold") refl) (both name_reads (both number_reads (sign_reads Semicolon))))
    (λ p. directive p.0 (Threshold p.1.0 p.1.1.0)) (λ n. threshold_at) directive_words (Of Thresholds) closed
    (λ n words_ahead. simp bind_assoc) (λ n p h. refl) (λ n p h. refl) (λ n p h. (refl, tt)) (λ n d h. back d.line d.act h.0) (λ n k d le h. h)
  where
    back : (line : ℕ) (act : DirectiveAct) → form act ≡ Thresholds → (p : ℕ × (List ℕ × (ℕ × Unit {0})))
        × (Unit {0} × (Unit {0} × (Unit {0} × Unit {0}))) × (directive p.0 (Threshold p.1.0 p.1.1.0) ≡ directive line act)
    back line (Threshold name n) e = ((line, (name, (n, tt))), (tt, (tt, (tt, tt))), refl)
    back line act e = absurd cc

first_reads : Reads (λ n. first_at) directive_words (Of Firsts) closed
unfolding first_at
first_reads = made (both (start_reads (codes "first") refl) (both name_reads (sign_reads Semicolon)))
    (λ p. directive p.0 (First p.1.0)) (λ n. first_at) directive_words (Of Firsts) closed
    (λ n words_ahead. simp bind_assoc) (λ n p h. refl) (λ n p h. refl) (λ n p h. (refl, tt)) (λ n d h. back d.line d.act h.0) (λ n k d le h. h)
  where
    back : (line : ℕ) (act : DirectiveAct) → form act ≡ Firsts → (p : ℕ × (List ℕ × Unit {0}))
        × (Unit {0} × (Unit {0} × Unit {0})) × (directive p.0 (First p.1.0) ≡ directive line act)
    back line (First name) e = ((line, (name, tt)), (tt, (tt, tt)), refl)
    back line act e = absurd cc

-- ---- directives

forms_read : (k : Form) → Reads (λ n. form_read k) directive_words (Of k) closed
forms_read Prunes = prune_reads
forms_read Thresholds = threshold_reads
forms_read Firsts = first_reads

begins : (line : ℕ) (act : DirectiveAct) → BeginsAs form_at (form act) (directive_words (directive line act))
begins line (Prune name) = refl
begins line (PruneAxis name axis) = refl
begins line (Threshold name threshold) = refl
begins line (First name) = refl

directive_reads : Reads (λ n. directive_at) directive_words any closed
unfolding directive_at
directive_reads = chosen_reads form_at form_of {r = λ k n. form_read k} forms_read (λ n d h. begins d.line d.act)

starts : (line : ℕ) (act : DirectiveAct) → StartsAs is_any true (directive_words (directive line act))
starts line (Prune name) = refl
starts line (PruneAxis name axis) = refl
starts line (Threshold name threshold) = refl
starts line (First name) = refl

pub directives_reads : Reads (λ n. directives_at) (flat_map directive_words) (all_ok any) (always is_any)
directives_reads = many_reads is_any (λ n. directive_at) directive_words any directive_reads (λ n d h. starts d.line d.act)

-- ---- the loop over directives

pub directives_loop : Loop is_any directive_at
directives_loop = loops is_any (λ n. directive_at) directive_words any directive_reads (λ n d h. starts d.line d.act) 0

-- a directive isn't read
pub loop_stops : {A : Type 0} {first : Word → Bool} {r : List PlacedWord → Read A} (why : Stop) (whole : Read (List A)) (front : List A) (words_ahead rest : List PlacedWord) →
    whole ≡ with_front front (many_at first r words_ahead) → Loop first r → true ≡ is_first first words_ahead → StopsAt why rest (r words_ahead) → StopsAt why rest whole
loop_stops NoMemory whole front words_ahead rest e l t k = tt
loop_stops {first} {r} Unexpected whole front words_ahead rest e l t k = front_stops front whole (many_at first r words_ahead) _ e (l.stops words_ahead _ (sym t) k)
