-- Each text spells directives or has a fault.
use Rattle.std.proofs.Common.{◌≡◌, ◌⊎◌, ℕ, zero, suc, ◌≤◌, Bool, true, false, cond, List, [], ◌∷◌, length, Option, Some, None, Ok, Err, refl, sym, ap, subst, ◌∙◌, arith, inl, inr, codes}
use Rattle.pn_text.specs.Words.{Word}
use Rattle.pn_text.specs.Scans.{Ending, AtEnd, AtFault, tokens_of, fault_place}
use Rattle.pn_text.specs.declared.token.Sign.TheVariants.{Semicolon}
use Rattle.mdl_parse.specs.Readers.{keyword_at, sign_at, start_at, name_at, number_at}
use Rattle.mdl_parse.specs.Shapes.{is_keyword}
use Rattle.mdl_parse.specs.Steps.{Stop, Read, ◌>>=◌, is_first, first_word, leaf_at, option_at, some_read}
use Rattle.mdl_parse.specs.WordsInText.{PlacedWord, placed_words}
use Rattle.mdl_parse.proofs.Rules.{err_is}
use Rattle.directives.specs.declared.directive.Directive.{Directive}
use Rattle.directives.specs.declared.fault.DirectiveKind.{DirectiveKind}
use Rattle.directives.specs.declared.fault.DirectiveKind.TheVariants.{Unexpected}
use Rattle.directives.specs.Reading.{axis_at, prune_at, threshold_at, first_at, Form, Prunes, Thresholds, Firsts, form_at, form_read, directive_at, directives_at}
use Rattle.directives.specs.Meaning.{AreOf, IsDirectives, IsFault, AtBytes, DirectiveFaults, lex_kind, AlwaysMeans}
use Rattle.directives.specs.Ahead.{fault_in}
use Rattle.directives.proofs.Rules.{directives_loop}
use Rattle.directives.proofs.Exact.{all_read, whole_begins, stopped}

-- ---- reading stops for one reason alone

abbrev answered : Stop → Read (Unit {0})
answered s = Err s

-- as reading one word does
abbrev IsPlain : Stop → Type 0
IsPlain s = answered s ≡ some_read None s.left

abbrev Plainly : {A : Type 0} → Read A → Type 0
Plainly read = (s : Stop) → read ≡ Err s → IsPlain s

ok_plainly : {A : Type 0} (x : A × List PlacedWord) → Plainly (Ok x)
ok_plainly x s e = absurd cc

then_plainly : {A B : Type 0} (r : Read A) (f : A × List PlacedWord → Read B) → Plainly r → ((x : A × List PlacedWord) → Plainly (f x)) → Plainly (r >>= f)
then_plainly (Ok x) f p q s e = q x s e
then_plainly {A} {B} (Err t) f p q s e = let same = err_is {A = B} t s e in p s (ap (λ (u : Stop). Err u) same)

taken_plainly : {A : Type 0} (o : Option A) (words_ahead : List PlacedWord) → Plainly (some_read o words_ahead)
taken_plainly {A} None words_ahead s e = subst IsPlain (err_is {A = A} _ s e) refl
taken_plainly (Some a) words_ahead s e = absurd cc

leaf_plainly : {A : Type 0} (pick : Word → Option A) (words_ahead : List PlacedWord) → Plainly (leaf_at pick words_ahead)
unfolding leaf_at
leaf_plainly pick words_ahead = taken_plainly _ words_ahead

start_plainly : (text : List ℕ) (words_ahead : List PlacedWord) → Plainly (start_at text words_ahead)
unfolding start_at
start_plainly text words_ahead = then_plainly (keyword_at text words_ahead) _ (leaf_plainly _ words_ahead) (λ x. ok_plainly _)

chosen_plainly : {A : Type 0} (b : Bool) (r other : Read A) → Plainly r → Plainly other → Plainly (cond b r other)
chosen_plainly true r other p q = p
chosen_plainly false r other p q = q

option_plainly : {A : Type 0} (first : Word → Bool) (read : List PlacedWord → Read A) (words_ahead : List PlacedWord) → Plainly (read words_ahead) → Plainly (option_at first read words_ahead)
unfolding option_at
option_plainly first read words_ahead p = chosen_plainly (is_first first words_ahead) _ _ (then_plainly (read words_ahead) _ p (λ x. ok_plainly _)) (ok_plainly _)

axis_plainly : (words_ahead : List PlacedWord) → Plainly (axis_at words_ahead)
unfolding axis_at
axis_plainly words_ahead = then_plainly (keyword_at (codes "axis") words_ahead) _ (leaf_plainly _ words_ahead) (λ x. then_plainly (name_at x.1) _ (leaf_plainly _ x.1) (λ y. ok_plainly _))

form_plainly : (form : Form) (words_ahead : List PlacedWord) → Plainly (form_read form words_ahead)
unfolding prune_at threshold_at first_at
form_plainly Prunes words_ahead = then_plainly (start_at (codes "prune") words_ahead) _ (start_plainly _ words_ahead) (λ x. then_plainly (name_at x.1) _ (leaf_plainly _ x.1)
    (λ y. then_plainly (option_at (is_keyword (codes "axis")) axis_at y.1) _ (option_plainly _ axis_at y.1 (axis_plainly y.1)) (λ z. then_plainly (sign_at Semicolon z.1) _ (leaf_plainly _ z.1) (λ end. ok_plainly _))))
form_plainly Thresholds words_ahead = then_plainly (start_at (codes "threshold") words_ahead) _ (start_plainly _ words_ahead) (λ x. then_plainly (name_at x.1) _ (leaf_plainly _ x.1)
    (λ y. then_plainly (number_at y.1) _ (leaf_plainly _ y.1) (λ z. then_plainly (sign_at Semicolon z.1) _ (leaf_plainly _ z.1) (λ end. ok_plainly _))))
form_plainly Firsts words_ahead = then_plainly (start_at (codes "first") words_ahead) _ (start_plainly _ words_ahead) (λ x. then_plainly (name_at x.1) _ (leaf_plainly _ x.1)
    (λ y. then_plainly (sign_at Semicolon y.1) _ (leaf_plainly _ y.1) (λ end. ok_plainly _)))

directive_plainly : (words_ahead : List PlacedWord) → Plainly (directive_at words_ahead)
unfolding directive_at
directive_plainly words_ahead = form_plainly (form_at (first_word words_ahead)) words_ahead

all_plainly : (k : ℕ) (words_ahead : List PlacedWord) → length words_ahead ≤ k → Plainly (directives_at words_ahead)
all_plainly k [] h = λ s e. absurd (let none = sym (directives_loop.none [] refl) ∙ e in cc)
all_plainly zero (x ∷ words_ahead) h = absurd (omega arith)
all_plainly (suc k) (x ∷ words_ahead) h = go (directive_at (x ∷ words_ahead)) refl (λ rest h. all_plainly k rest h)
  where
    go : (r : Read Directive) → directive_at (x ∷ words_ahead) ≡ r → ((rest : List PlacedWord) → length rest ≤ k → Plainly (directives_at rest)) → Plainly (directives_at (x ∷ words_ahead))
    go (Ok y) e ih s q =
        let less = directives_loop.shorter (x ∷ words_ahead) y.0 y.1 e in
        then_plainly (directives_at y.1) (λ ds. Ok (y.0 ∷ ds.0, ds.1)) (ih y.1 (omega arith)) (λ z. ok_plainly _) s (sym (directives_loop.step (x ∷ words_ahead) y.0 y.1 refl e) ∙ q)
    go (Err t) e ih s q =
        let same = err_is {A = List Directive} t s (sym (directives_loop.stops (x ∷ words_ahead) t refl e) ∙ q) in
        directive_plainly (x ∷ words_ahead) s (e ∙ ap (λ (u : Stop). Err u) same)

-- ---- each text means something

abbrev Fault : List ℕ → Type 0
Fault text = (line : ℕ) × (col : ℕ) × (kind : DirectiveKind) × IsFault text line col kind

fault_of : (text : List ℕ) (left : List PlacedWord) (ending : Ending) → DirectiveFaults text (fault_in left ending) → Fault text
fault_of text (x ∷ after) ending h = (x.line, x.col, Unexpected, h)
fault_of text [] (AtEnd last) h = (last.line, last.col, Unexpected, h)
fault_of text [] (AtFault fault) h = ((fault_place fault).line, (fault_place fault).col, lex_kind fault, h)

abbrev Means : List ℕ → Type 0
Means text = ((directives : List Directive) × IsDirectives text directives) ⊎ Fault text

all_means : (text : List ℕ) (ds : List Directive) (ending : Ending) → (tokens_of text).ending ≡ ending → AreOf (placed_words text) ds → Means text
all_means text ds (AtEnd last) d a = inl (ds, record { last = last; end = d; spelled = a })
all_means text ds (AtFault fault) d a = inr ((fault_place fault).line, (fault_place fault).col, lex_kind fault, AtBytes fault d (whole_begins (placed_words text) ds a))

pub always_means : AlwaysMeans
always_means text = go (directives_at (placed_words text)) refl
  where
    go : (read : Read (List Directive)) → directives_at (placed_words text) ≡ read → Means text
    go (Ok x) e = all_means text x.0 (tokens_of text).ending refl (all_read (placed_words text) x.0 x.1 e).1
    go (Err s) e =
        let plain = err_is {A = Unit {0}} s _ (all_plainly (length (placed_words text)) (placed_words text) (omega arith) s e) in
        inr (fault_of text s.left (tokens_of text).ending (stopped text s.left (tokens_of text).ending refl (e ∙ ap (λ (u : Stop). Err u) plain)))
