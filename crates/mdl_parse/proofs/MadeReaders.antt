-- Readers of values that are made of other values.
use Rattle.std.proofs.Common.{◌≡◌, ℕ, suc, ◌≤◌, Bool, List, [], ◌∷◌, ◌++◌, Ok, Err, refl, sym, subst, ◌∙◌, inl, inr}
use Rattle.pn_text.specs.Words.{Word}
use Rattle.mdl_parse.specs.WordsInText.{PlacedWord, TreeWord, Spells}
use Rattle.mdl_parse.specs.Steps.{Stop, Read, ◌>>=◌, stop}
use Rattle.mdl_parse.proofs.Rules.{AreTreeWords, Misses, bind_ok, bind_err, bind_same, ok_is}
use Rattle.mdl_parse.proofs.Readers.{Completed, Fails, Reads, Reads_}

module _ {A B : Type 0} (r : ℕ → List PlacedWord → Read A) (m : A → List TreeWord) (ok : ℕ → A → Type 0) (on : A → Word → Bool) (p : Reads r m ok on)
    (r' : ℕ → List PlacedWord → Read B) (m' : B → List TreeWord) (ok' : ℕ → B → Type 0) (on' : B → Word → Bool)
    (to : A → B)
    (same : (n : ℕ) (words_ahead : List PlacedWord) → r' n words_ahead ≡ (r n words_ahead >>= λ x. Ok (to x.0, x.1)))
    (tree_words : (n : ℕ) (a : A) → ok n a → m' (to a) ≡ m a)
    (ons : (n : ℕ) (a : A) → ok n a → on' (to a) ≡ on a)
    (there : (n : ℕ) (a : A) → ok n a → ok' n (to a))
    (back : (n : ℕ) (b : B) → ok' n b → (a : A) × ok n a × (to a ≡ b))
    (wider' : (n k : ℕ) (b : B) → n ≤ k → ok' n b → ok' k b) where
  made_sound : (n : ℕ) (words_ahead : List PlacedWord) (v : B) (rest : List PlacedWord) → r' n words_ahead ≡ Ok (v, rest) → Reads_ m' ok' on' n words_ahead v rest
  made_sound n words_ahead v rest e =
      let b = bind_ok (r n words_ahead) (λ x. Ok (to x.0, x.1)) (v, rest) (sym (same n words_ahead) ∙ e) in
      let x = b.0 in
      let s = p.sound n words_ahead x.0 x.1 b.1 in
      let made : Reads_ m' ok' on' n words_ahead (to x.0) x.1 = record {
        front = s.front;
        split = s.split;
        spelled = subst (λ (t : List TreeWord). Spells t s.front) (sym (tree_words n x.0 s.shaped)) s.spelled;
        shaped = there n x.0 s.shaped;
        ends = subst (λ (t : Word → Bool). Misses t x.1) (sym (ons n x.0 s.shaped)) s.ends;
      } in
      subst (λ (p : B × List PlacedWord). Reads_ m' ok' on' n words_ahead p.0 p.1) (ok_is (to x.0, x.1) (v, rest) b.2) made

  made_whole : (n : ℕ) (v : B) (front rest : List PlacedWord) → Spells (m' v) front → ok' n v → Misses (on' v) rest → r' n (front ++ rest) ≡ Ok (v, rest)
  made_whole n v front rest h k miss =
      let b = back n v k in
      let a = b.0 in
      let spelled : Spells (m a) front = subst (λ (t : List TreeWord). Spells t front) (tree_words n a b.1) (subst (λ (t : B). Spells (m' t) front) (sym b.2) h) in
      let misses : Misses (on a) rest = subst (λ (t : Word → Bool). Misses t rest) (ons n a b.1) (subst (λ (t : B). Misses (on' t) rest) (sym b.2) miss) in
      let e : r' n (front ++ rest) ≡ Ok (to a, rest) = same n (front ++ rest) ∙ rw (p.whole n a front rest spelled b.1 misses) refl in
      subst (λ (t : B). r' n (front ++ rest) ≡ Ok (t, rest)) b.2 e

  made_begun : (n : ℕ) (used : List PlacedWord) → Completed m ok n used → Completed m' ok' n used
  made_begun n used c = record {
    whole = to c.whole;
    tail = c.tail;
    shaped = there n c.whole c.shaped;
    spelled = subst (λ (t : List TreeWord). Spells t (used ++ c.tail)) (sym (tree_words n c.whole c.shaped)) c.spelled;
    words = c.words;
  }

  made_fails : (n : ℕ) (words_ahead : List PlacedWord) (s : Stop) → r' n words_ahead ≡ Err s → Fails r' m' ok' n words_ahead s
  made_fails n words_ahead s e = elim (bind_err (r n words_ahead) (λ x. Ok (to x.0, x.1)) s (sym (same n words_ahead) ∙ e)) [
    | inl e1 ↦ let f = p.fails n words_ahead s e1 in record {
      used = f.used;
      split = f.split;
      ended = f.ended;
      begun = made_begun n f.used f.begun;
      bad = λ x more l k reach other. same k (f.used ++ (x ∷ other)) ∙ bind_same (r k (f.used ++ (x ∷ other))) (λ x. Ok (to x.0, x.1)) (stop s.why (x ∷ other)) (f.bad x more l k reach other);
      deeper = λ x more l w. made_begun (suc n) (f.used ++ (x ∷ [])) (f.deeper x more l w);
    }
    | inr b ↦ absurd cc
  ]

  pub made_reads : Reads r' m' ok' on'
  made_reads = record {
    sound = made_sound;
    whole = made_whole;
    fails = made_fails;
    wider = wider';
    some = to p.some;
    some_shaped = λ n. there n p.some (p.some_shaped n);
    some_words = subst AreTreeWords (sym (tree_words 0 p.some (p.some_shaped 0))) p.some_words;
  }
