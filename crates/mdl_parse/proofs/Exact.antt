-- What the readers return is what the text means.
use Rattle.std.proofs.Common.{◌≡◌, ℕ, ◌+◌, ◌≤◌, List, [], ◌∷◌, ◌++◌, Some, None, Ok, Err, refl, sym, ap, subst, ◌∙◌, arith, inl, inr}
use Rattle.std.specs.List.{flat_map}
use Rattle.std.proofs.lemmas.List.{append_assoc, append-nil}
use Rattle.std.proofs.lemmas.Bool.{cases_lt}
use Rattle.pn_text.specs.Scans.{Ending, AtEnd, AtFault, tokens_of}
use Rattle.mdl_ast.specs.declared.items.Conf.{Conf}
use Rattle.mdl_ast.specs.declared.items.Item.{Item}
use Rattle.mdl_parse.specs.declared.refusal.Refusal.{Refusal}
use Rattle.mdl_parse.specs.declared.refusal.Refusal.TheVariants.{Unexpected, TooDeep}
use Rattle.mdl_parse.specs.declared.fault.ParseFault.{ParseFault}
use Rattle.mdl_parse.specs.WordsInText.{PlacedWord, Spells, placed_words}
use Rattle.mdl_parse.specs.Steps.{stop}
use Rattle.mdl_parse.specs.Picks.{is_any}
use Rattle.mdl_parse.specs.Items.{items_at}
use Rattle.mdl_parse.specs.ItemGrammar.{item_tree_words}
use Rattle.mdl_parse.specs.Shapes.{ItemShaped}
use Rattle.mdl_parse.specs.Meaning.{most_conditions, AreOf, Begin, IsConf, CantFollow, refusal_kind, IsFault, AtWord, AtBytes, AtLast, Faults}
use Rattle.mdl_parse.specs.Ends.{lex_fault, fault_in, unread_in}
use Rattle.mdl_parse.proofs.Rules.{Misses}
use Rattle.mdl_parse.proofs.Readers.{Completed, Fails}
use Rattle.mdl_parse.proofs.Repeats.{all_ok}
use Rattle.mdl_parse.proofs.AllItems.{items_reads}

none_left : (rest : List PlacedWord) → Misses is_any rest → rest ≡ []
none_left [] h = refl
none_left (placed ∷ rest) h = absurd cc

-- all words are read: they are those of the configuration
pub all_read : (n : ℕ) (words_ahead : List PlacedWord) (items : List Item) (rest : List PlacedWord) → items_at n words_ahead ≡ Ok (items, rest) → (rest ≡ []) × AreOf n words_ahead (record { items = items })
all_read n words_ahead items rest e =
    let s = items_reads.sound n words_ahead items rest e in
    let none = none_left rest s.ends in
    let whole : words_ahead ≡ s.front = s.split ∙ ap (λ (t : List PlacedWord). s.front ++ t) none ∙ append-nil s.front in
    (none, record { words = subst (Spells (flat_map item_tree_words items)) (sym whole) s.spelled; shaped = s.shaped })

-- the words of a configuration are read
pub read_again : (n m : ℕ) (words_ahead : List PlacedWord) (c : Conf) → n ≤ m → AreOf n words_ahead c → items_at m words_ahead ≡ Ok (c.items, [])
read_again n m words_ahead c le a =
    ap (items_at m) (sym (append-nil words_ahead)) ∙ items_reads.whole m c.items words_ahead [] a.words (items_reads.wider n m c.items le a.shaped) tt

pub begins : (n : ℕ) (words_ahead : List PlacedWord) → Completed (flat_map item_tree_words) (all_ok ItemShaped) n words_ahead → Begin n words_ahead
begins n words_ahead c = record { whole = record { items = c.whole }; tail = c.tail; words = c.words; spelled = record { words = c.spelled; shaped = c.shaped } }

-- a configuration is a beginning
pub whole_begins : (n : ℕ) (words_ahead : List PlacedWord) (c : Conf) → AreOf n words_ahead c → Begin n words_ahead
whole_begins n words_ahead c a = record { whole = c; tail = []; words = tt; spelled = subst (λ (t : List PlacedWord). AreOf n t c) (sym (append-nil words_ahead)) a }

-- where nothing is read, nothing begins
not_begun : (n m : ℕ) (used : List PlacedWord) (x : PlacedWord) (why : Refusal) → n ≤ m → ((other : List PlacedWord) → items_at m (used ++ (x ∷ other)) ≡ Err (stop why (x ∷ other))) → Begin n (used ++ (x ∷ [])) → ⊥
not_begun n m used x why le bad b =
    let again = read_again n m ((used ++ (x ∷ [])) ++ b.tail) b.whole le b.spelled in
    let e = sym again ∙ ap (items_at m) (append_assoc used (x ∷ []) b.tail) ∙ bad b.tail in
    absurd cc

cant_follow : (words_ahead : List PlacedWord) (x : PlacedWord) (after : List PlacedWord) (why : Refusal) (f : Fails items_at (flat_map item_tree_words) (all_ok ItemShaped) most_conditions words_ahead (stop why (x ∷ after))) → CantFollow why (f.used ++ (x ∷ []))
cant_follow words_ahead x after Unexpected f = λ n b. elim (cases_lt most_conditions n) [
  | inl lt ↦ not_begun n n f.used x Unexpected (omega arith) (f.bad x after refl n (omega arith)) b
  | inr le ↦ not_begun n most_conditions f.used x Unexpected le (f.bad x after refl most_conditions (omega arith)) b
]
cant_follow words_ahead x after TooDeep f = (
  λ b. not_begun most_conditions most_conditions f.used x TooDeep (omega arith) (f.bad x after refl most_conditions refl) b,
  begins (most_conditions + 1) (f.used ++ (x ∷ [])) (f.deeper x after refl refl),
)

-- ---- results

-- reading stops: that is the first fault
pub stopped : (text : List ℕ) (why : Refusal) (left : List PlacedWord) (ending : Ending) → (tokens_of text).ending ≡ ending → items_at most_conditions (placed_words text) ≡ Err (stop why left) → Faults text (fault_in left ending why)
stopped text why (x ∷ after) ending d e =
    let f = items_reads.fails most_conditions (placed_words text) (stop why (x ∷ after)) e in
    AtWord f.used x after why f.split (begins most_conditions f.used f.begun) (cant_follow (placed_words text) x after why f)
stopped text why [] (AtFault fault) d e =
    let f = items_reads.fails most_conditions (placed_words text) (stop why []) e in
    AtBytes fault d (subst (Begin most_conditions) (sym (f.split ∙ append-nil f.used)) (begins most_conditions f.used f.begun))
stopped text why [] (AtEnd last) d e =
    let f = items_reads.fails most_conditions (placed_words text) (stop why []) e in
    let begun : Begin most_conditions (placed_words text) = subst (Begin most_conditions) (sym (f.split ∙ append-nil f.used)) (begins most_conditions f.used f.begun) in
    let none : (c : Conf) → AreOf most_conditions (placed_words text) c → ⊥ = λ c a. (let e2 = sym (read_again most_conditions most_conditions (placed_words text) c (omega arith) a) ∙ e in cc) in
    subst (λ (w : Refusal). IsFault text last.line last.col (refusal_kind w)) (sym (f.ended refl)) (AtLast last d begun none)

-- all is read, and no fault stands after it
pub conf_read : (text : List ℕ) (items : List Item) (rest : List PlacedWord) (ending : Ending) → (tokens_of text).ending ≡ ending → items_at most_conditions (placed_words text) ≡ Ok (items, rest) → None ≡ unread_in rest ending → IsConf text (record { items = items })
conf_read text items rest ending d e u =
    let a = all_read most_conditions (placed_words text) items rest e in
    go ending d (u ∙ ap (λ (t : List PlacedWord). unread_in t ending) a.0) a.1
  where
    go : (ending : Ending) → (tokens_of text).ending ≡ ending → None ≡ unread_in [] ending → AreOf most_conditions (placed_words text) (record { items = items }) → IsConf text (record { items = items })
    go (AtEnd last) d u a = record { last = last; end = d; spelled = a }
    go (AtFault fault) d u a = absurd cc

-- all is read, and a fault stands after it
pub fault_read : (text : List ℕ) (items : List Item) (rest : List PlacedWord) (ending : Ending) (fault : ParseFault) → (tokens_of text).ending ≡ ending → items_at most_conditions (placed_words text) ≡ Ok (items, rest) → Some fault ≡ unread_in rest ending → Faults text fault
fault_read text items rest ending fault d e u =
    let a = all_read most_conditions (placed_words text) items rest e in
    go ending d (u ∙ ap (λ (t : List PlacedWord). unread_in t ending) a.0) a.1
  where
    go : (ending : Ending) → (tokens_of text).ending ≡ ending → Some fault ≡ unread_in [] ending → AreOf most_conditions (placed_words text) (record { items = items }) → Faults text fault
    go (AtEnd last) d u a = absurd cc
    go (AtFault lex) d u a = let same : lex_fault lex ≡ fault = cc in subst (Faults text) same (AtBytes lex d (whole_begins most_conditions (placed_words text) (record { items = items }) a))
