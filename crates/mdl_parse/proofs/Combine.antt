-- The rules for readers, in the form in which the grammar's rules are put together.
use Rattle.std.proofs.Common.{◌≡◌, ℕ, ◌≤◌, Bool, false, List, Option, Some, Ok, Err, refl}
use Rattle.pn_text.specs.Words.{Word}
use Rattle.mdl_parse.specs.WordsInText.{PlacedWord, TreeWord, IsWord}
use Rattle.mdl_parse.specs.Steps.{Read, ◌>>=◌, leaf_at}
use Rattle.mdl_parse.proofs.Rules.{StartsAs}
use Rattle.mdl_parse.proofs.Readers.{Reads, pair_at, pair_tree_words, pair_ok, pair_on, pair_reads, apart_closed, apart_first, closed, any, one, leaf_reads}
use Rattle.mdl_parse.proofs.MadeReaders.{made_reads}

-- one after the other
pub both : {A B : Type 0} {r1 : ℕ → List PlacedWord → Read A} {m1 : A → List TreeWord} {ok1 : ℕ → A → Type 0} {r2 : ℕ → List PlacedWord → Read B} {m2 : B → List TreeWord} {ok2 : ℕ → B → Type 0} {on2 : B → Word → Bool} →
    Reads r1 m1 ok1 closed → Reads r2 m2 ok2 on2 → Reads (pair_at r1 r2) (pair_tree_words m1 m2) (pair_ok ok1 ok2) (pair_on on2)
both {r1} {m1} {ok1} {r2} {m2} {ok2} {on2} p1 p2 = pair_reads r1 m1 ok1 closed r2 m2 ok2 on2 p1 p2 (apart_closed m2 ok2 on2)

-- one after the other, where the second begins with no word that would go on with the first
pub both_open : {A B : Type 0} {r1 : ℕ → List PlacedWord → Read A} {m1 : A → List TreeWord} {ok1 : ℕ → A → Type 0} {on1 : A → Word → Bool} {r2 : ℕ → List PlacedWord → Read B} {m2 : B → List TreeWord} {ok2 : ℕ → B → Type 0} {on2 : B → Word → Bool} →
    Reads r1 m1 ok1 on1 → Reads r2 m2 ok2 on2 → ((n : ℕ) (a : A) (b : B) → ok2 n b → StartsAs (on1 a) false (m2 b)) → Reads (pair_at r1 r2) (pair_tree_words m1 m2) (pair_ok ok1 ok2) (pair_on on2)
both_open {r1} {m1} {ok1} {on1} {r2} {m2} {ok2} {on2} p1 p2 first = pair_reads r1 m1 ok1 on1 r2 m2 ok2 on2 p1 p2 (apart_first on1 m2 ok2 on2 first)

pub bind_assoc : {A B C : Type 0} (r : Read A) (f : A × List PlacedWord → Read B) (g : B × List PlacedWord → Read C) → ((r >>= f) >>= g) ≡ (r >>= λ x. f x >>= g)
bind_assoc (Ok x) f g = refl
bind_assoc (Err s) f g = refl

-- a single word of which every value is well formed
pub leaf_any : {A : Type 0} (pick : Word → Option A) (word : A → Word) → ((w : Word) (a : A) → pick w ≡ Some a → w ≡ word a) → ((a : A) → pick (word a) ≡ Some a) → (a0 : A) → IsWord (word a0) →
    Reads (λ n. leaf_at pick) (one word) any closed
leaf_any {A} pick word picked again a0 good = leaf_reads pick word (λ (a : A). Unit {0}) (λ w a e. (picked w a e, tt)) (λ a h. again a) a0 tt good

pub bind_id : {A : Type 0} (r : Read A) → r ≡ (r >>= λ x. Ok (x.0, x.1))
bind_id (Ok x) = refl
bind_id (Err s) = refl

-- a value made of what was read
pub made : {A B : Type 0} {r : ℕ → List PlacedWord → Read A} {m : A → List TreeWord} {ok : ℕ → A → Type 0} {on : A → Word → Bool} → Reads r m ok on →
    (to : A → B) (r' : ℕ → List PlacedWord → Read B) (m' : B → List TreeWord) (ok' : ℕ → B → Type 0) (on' : B → Word → Bool) →
    ((n : ℕ) (words_ahead : List PlacedWord) → r' n words_ahead ≡ (r n words_ahead >>= λ x. Ok (to x.0, x.1))) →
    ((n : ℕ) (a : A) → ok n a → m' (to a) ≡ m a) → ((n : ℕ) (a : A) → ok n a → on' (to a) ≡ on a) → ((n : ℕ) (a : A) → ok n a → ok' n (to a)) →
    ((n : ℕ) (b : B) → ok' n b → (a : A) × ok n a × (to a ≡ b)) → ((n k : ℕ) (b : B) → n ≤ k → ok' n b → ok' k b) → Reads r' m' ok' on'
made {r} {m} {ok} {on} p to r' m' ok' on' same tree_words ons there back wider = made_reads r m ok on p r' m' ok' on' to same tree_words ons there back wider
