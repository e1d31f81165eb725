-- Each position is at one word of the text, or outside of it.
use Rattle.std.proofs.Common.{◌≡◌, ℕ, zero, suc, ◌+◌, ◌-◌, ◌*◌, ◌/◌, ◌%◌, ◌<◌, ◌≤◌, List, [], ◌∷◌, length, Option, Some, None, refl, ap, sym, ◌∙◌, subst, arith, Bool, true, false, cond}
use Rattle.std.specs.Prelude.{◌==◌, ◌&&◌, nat_le, is_none, is_some, slice_get, sum, count_by}
use Rattle.std.proofs.lemmas.Bool.{eqb-true, eq-eqb, ne_eqb, le-leb, leb-true}
use Rattle.std.proofs.lemmas.List.Sums.{sum_by-cons}
use Rattle.std.proofs.lemmas.Option.{slice_get_within}
use Rattle.rv_word.specs.Plain.{Words, program_word}
use Rattle.rv_exec.specs.Run.{Position, executions}
use Rattle.word_flow.specs.Executions.{executions_of, ticks_at}
use Rattle.word_flow.specs.Numbers.{sum_at}
use Rattle.word_flow.proofs.Flows.{one_if, is_outside}

-- ---- the words of the text

-- these words stand in the text from an address on
abbrev pub StandFrom : Words → List ℕ → ℕ → Type 0
StandFrom t [] a = Unit {0}
StandFrom t (w ∷ ws) a = (program_word t a ≡ Some w) × StandFrom t ws (a + 4)

place_of : (at i : ℕ) → (at + 4 * i - at) / 4 ≡ i
place_of at i = omega arith

place_is_aligned : (at i : ℕ) → (at + 4 * i - at) % 4 ≡ 0
place_is_aligned at i = omega arith

pub word_at_place : (t : Words) (i w : ℕ) → slice_get t.words i ≡ Some w → program_word t (t.at + 4 * i) ≡ Some w
word_at_place t i w e =
    let low = le-leb t.at (t.at + 4 * i) (omega arith) in
    let fits = eq-eqb ((t.at + 4 * i - t.at) % 4) 0 (place_is_aligned t.at i) in
    ap (λ b. cond (b && ((t.at + 4 * i - t.at) % 4 == 0)) (slice_get t.words ((t.at + 4 * i - t.at) / 4)) None) low
    ∙ ap (λ b. cond b (slice_get t.words ((t.at + 4 * i - t.at) / 4)) None) fits
    ∙ ap (slice_get t.words) (place_of t.at i)
    ∙ e

stand_from : (t : Words) (ws : List ℕ) (i : ℕ)
    → ((k w : ℕ) → slice_get ws k ≡ Some w → slice_get t.words (i + k) ≡ Some w) → StandFrom t ws (t.at + 4 * i)
stand_from t [] i h = tt
stand_from t (w ∷ ws) i h =
    let z : i + 0 ≡ i = omega arith in
    let n : t.at + 4 * (i + 1) ≡ t.at + 4 * i + 4 = omega arith in
    let rest = stand_from t ws (i + 1) (λ k v e. let m : i + 1 + k ≡ i + suc k = omega arith in ap (slice_get t.words) m ∙ h (suc k) v e) in
    (word_at_place t i w (ap (slice_get t.words) (sym z) ∙ h 0 w refl), subst (StandFrom t ws) n rest)

-- those of the text stand there from its first address on
pub text_stands : (t : Words) → StandFrom t t.words t.at
text_stands t =
    let z : t.at + 4 * 0 ≡ t.at = omega arith in
    let all = stand_from t t.words 0 (λ k w e. let m : 0 + k ≡ k = omega arith in ap (slice_get t.words) m ∙ e) in
    subst (StandFrom t t.words) z all

-- the word of the text that stands at an address
pub record IsPlace (t : Words) (pc w : ℕ) : Type 0 where
  pub i : ℕ
  pub at : pc ≡ t.at + 4 * i
  pub few : i < length t.words
  pub is : slice_get t.words i ≡ Some w

pub has_place : (t : Words) (pc w : ℕ) → program_word t pc ≡ Some w → IsPlace t pc w
has_place t pc w e = by (nat_le t.at pc) refl ((pc - t.at) % 4 == 0) refl e
  where
    by : (a : Bool) → nat_le t.at pc ≡ a → (b : Bool) → ((pc - t.at) % 4 == 0) ≡ b
        → cond (a && b) (slice_get t.words ((pc - t.at) / 4)) None ≡ Some w → IsPlace t pc w
    by true x true y e =
        let l : t.at ≤ pc = leb-true t.at pc x in
        let m : (pc - t.at) % 4 ≡ 0 = eqb-true ((pc - t.at) % 4) 0 y in
        let f = slice_get_within t.words ((pc - t.at) / 4) w e in
        record { i = (pc - t.at) / 4; at = omega arith; few = f; is = e }
    by true x false y e = absurd cc
    by false x b y e = absurd cc

-- ---- how many words stand at an address

-- how many of these words do, the first of which stands at a
abbrev pub hits : List ℕ → ℕ → ℕ → ℕ
hits [] a pc = 0
hits (w ∷ ws) a pc = one_if (pc == a) + hits ws (a + 4) pc

hits-below : (ws : List ℕ) (a pc : ℕ) → pc < a → hits ws a pc ≡ 0
hits-below [] a pc l = refl
hits-below (w ∷ ws) a pc l =
    let n : one_if (pc == a) ≡ 0 = ap one_if (ne_eqb pc a (λ e. omega arith)) in
    let r = hits-below ws (a + 4) pc (omega arith) in
    omega arith

hits-at : (ws : List ℕ) (a i pc : ℕ) → i < length ws → pc ≡ a + 4 * i → hits ws a pc ≡ 1
hits-at [] a i pc l e = absurd (omega arith)
hits-at (w ∷ ws) a zero pc l e =
    let h : one_if (pc == a) ≡ 1 = ap one_if (eq-eqb pc a (omega arith)) in
    let r = hits-below ws (a + 4) pc (omega arith) in
    omega arith
hits-at (w ∷ ws) a (suc i) pc l e =
    let n : one_if (pc == a) ≡ 0 = ap one_if (ne_eqb pc a (λ z. omega arith)) in
    let r = hits-at ws (a + 4) i pc (omega arith) (omega arith) in
    omega arith

hits-outside : (t : Words) (ws : List ℕ) (a pc : ℕ) → StandFrom t ws a → program_word t pc ≡ None → hits ws a pc ≡ 0
hits-outside t [] a pc s e = refl
hits-outside t (w ∷ ws) a pc s e = by (pc == a) refl (hits-outside t ws (a + 4) pc s.1 e)
  where
    by : (b : Bool) → (pc == a) ≡ b → hits ws (a + 4) pc ≡ 0 → one_if b + hits ws (a + 4) pc ≡ 0
    by true q r = let never : Some w ≡ None = sym (ap (program_word t) (eqb-true pc a q) ∙ s.0) ∙ e in absurd cc
    by false q r = omega arith

-- an address is that of one word of the text, or of none
pub hits-text : (t : Words) (pc : ℕ) → hits t.words t.at pc ≡ one_if (is_some (program_word t pc))
hits-text t pc = by (program_word t pc) refl
  where
    by : (o : Option ℕ) → program_word t pc ≡ o → hits t.words t.at pc ≡ one_if (is_some o)
    by None e = hits-outside t t.words t.at pc (text_stands t) e
    by (Some w) e = let p = has_place t pc w e in hits-at t.words t.at p.i pc p.few p.at

-- ---- the ticks at a set of words

-- how many of these words stand at an address and pass a test by their own
abbrev hits_at : (ℕ → Bool) → List ℕ → ℕ → ℕ → ℕ
hits_at p [] a pc = 0
hits_at p (w ∷ ws) a pc = cond (p a) (one_if (pc == a)) 0 + hits_at p ws (a + 4) pc

hits_at-hits : (p : ℕ → Bool) (ws : List ℕ) (a pc : ℕ) → hits_at p ws a pc ≡ cond (p pc) (hits ws a pc) 0
hits_at-hits p [] a pc = by (p pc)
  where
    by : (b : Bool) → hits_at p [] a pc ≡ cond b 0 0
    by true = refl
    by false = refl
hits_at-hits p (w ∷ ws) a pc = by (pc == a) refl (hits_at-hits p ws (a + 4) pc)
  where
    hit : (b : Bool) (x y z : ℕ) → z ≡ cond b y 0 → cond b x 0 + z ≡ cond b (x + y) 0
    hit true x y z e = omega arith
    hit false x y z e = omega arith

    miss : (b c : Bool) (y z : ℕ) → z ≡ cond b y 0 → cond c 0 0 + z ≡ cond b (0 + y) 0
    miss true true y z e = omega arith
    miss true false y z e = omega arith
    miss false true y z e = omega arith
    miss false false y z e = omega arith

    by : (b : Bool) → (pc == a) ≡ b → hits_at p ws (a + 4) pc ≡ cond (p pc) (hits ws (a + 4) pc) 0
        → cond (p a) (one_if b) 0 + hits_at p ws (a + 4) pc ≡ cond (p pc) (one_if b + hits ws (a + 4) pc) 0
    by true e r =
        ap (λ z. cond (p z) 1 0 + hits_at p ws (a + 4) pc) (sym (eqb-true pc a e))
        ∙ hit (p pc) 1 (hits ws (a + 4) pc) (hits_at p ws (a + 4) pc) r
    by false e r = miss (p pc) (p a) (hits ws (a + 4) pc) (hits_at p ws (a + 4) pc) r

sum_at-cons : (p : ℕ → Bool) (ws : List ℕ) (a : ℕ) (q : Position) (tr : List Position)
    → sum_at p (executions_of ws a (q ∷ tr)) a ≡ hits_at p ws a q.pc + sum_at p (executions_of ws a tr) a
sum_at-cons p [] a q tr = refl
sum_at-cons p (w ∷ ws) a q tr =
    let z = sum_by-cons (λ (p : Position). one_if (p.pc == a)) q tr in
    by (p a) z (sum_at-cons p ws (a + 4) q tr)
  where
    by : (b : Bool) → executions a (q ∷ tr) ≡ one_if (q.pc == a) + executions a tr
        → sum_at p (executions_of ws (a + 4) (q ∷ tr)) (a + 4)
        ≡ hits_at p ws (a + 4) q.pc + sum_at p (executions_of ws (a + 4) tr) (a + 4)
        → cond b (executions a (q ∷ tr)) 0 + sum_at p (executions_of ws (a + 4) (q ∷ tr)) (a + 4)
        ≡ cond b (one_if (q.pc == a)) 0 + hits_at p ws (a + 4) q.pc
        + (cond b (executions a tr) 0 + sum_at p (executions_of ws (a + 4) tr) (a + 4))
    by true e r = omega arith
    by false e r = omega arith

sum_at-nil : (p : ℕ → Bool) (ws : List ℕ) (a : ℕ) → sum_at p (executions_of ws a []) a ≡ 0
sum_at-nil p [] a = refl
sum_at-nil p (w ∷ ws) a = by (p a) (sum_at-nil p ws (a + 4))
  where
    by : (b : Bool) → sum_at p (executions_of ws (a + 4) []) (a + 4) ≡ 0 → cond b 0 0 + sum_at p (executions_of ws (a + 4) []) (a + 4) ≡ 0
    by true e = omega arith
    by false e = omega arith

-- the executions of a set of words are the ticks at it
pub sum_at-executions_of : (t : Words) (p : ℕ → Bool) (tr : List Position) → sum_at p (executions_of t.words t.at tr) t.at ≡ ticks_at t p tr
sum_at-executions_of t p [] = sum_at-nil p t.words t.at
sum_at-executions_of t p (q ∷ tr) =
    let m = sum_at-cons p t.words t.at q tr in
    let c = sum_by-cons (λ (q : Position). one_if (p q.pc && is_some (program_word t q.pc))) q tr in
    let h : hits_at p t.words t.at q.pc ≡ one_if (p q.pc && is_some (program_word t q.pc))
    = hits_at-hits p t.words t.at q.pc
    ∙ ap (λ n. cond (p q.pc) n 0) (hits-text t q.pc)
    ∙ cond_one_if (p q.pc) (is_some (program_word t q.pc)) in
    let r = sum_at-executions_of t p tr in
    omega arith
  where
    cond_one_if : (a b : Bool) → cond a (one_if b) 0 ≡ one_if (a && b)
    cond_one_if true b = refl
    cond_one_if false b = refl

-- ---- all positions

pub sum_at-all : (ns : List ℕ) (a : ℕ) → sum_at (λ z. true) ns a ≡ sum ns
sum_at-all [] a = refl
sum_at-all (n ∷ ns) a = let c = sum_by-cons (λ (k : ℕ). k) n ns in let r = sum_at-all ns (a + 4) in omega arith

-- the positions at words of the text and those outside are all
pub length-trace : (t : Words) (tr : List Position)
    → sum (executions_of t.words t.at tr) + count_by (λ (q : Position). is_outside t q.pc) tr ≡ length tr
length-trace t tr =
    let a = sum_at-all (executions_of t.words t.at tr) t.at in
    let b = sum_at-executions_of t (λ z. true) tr in
    let c = by tr in
    omega arith
  where
    either : (o : Option ℕ) → one_if (is_some o) + one_if (is_none o) ≡ 1
    either None = refl
    either (Some w) = refl

    by : (tr : List Position) → ticks_at t (λ z. true) tr + count_by (λ (q : Position). is_outside t q.pc) tr ≡ length tr
    by [] = refl
    by (q ∷ tr) =
        let a = sum_by-cons (λ (q : Position). one_if (is_some (program_word t q.pc))) q tr in
        let b = sum_by-cons (λ (q : Position). one_if (is_outside t q.pc)) q tr in
        let c = either (program_word t q.pc) in
        let r = by tr in
        omega arith
