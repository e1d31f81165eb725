-- What nodes are tested, and by which instruments: as instruments come, and nodes grow old.
use Rattle.std.proofs.Common.{◌≡◌, ℕ, Some, List, [], ◌∷◌, ◌++◌, refl, sym, ap, ◌∙◌, subst, arith, inl, inr}
use Rattle.std.specs.Prelude.{true, slice_get}
use Rattle.std.proofs.lemmas.Bool.{true≢false}
use Rattle.machine.specs.Cores.{In}
use Rattle.machine.proofs.Lists.{map_snoc}
use Rattle.w3_search.specs.declared.node.Node.{Node}
use Rattle.w3_search.specs.Nodes.{is_waiting}
use Rattle.session_spec.specs.declared.data.MetricFocusPair.{MetricFocusPair}
use Rattle.session_spec.specs.Rosters.{AreBelow}
use Rattle.session_spec.proofs.Likes.{AreLike}
use Rattle.session_spec.proofs.Grown.{Grows, some_same}
use Rattle.session_spec.proofs.Seen.{AreAlone, AreApart, AreTaken, NotBy, NotOf, Tag, tag, tags}

pub tags_like : (ss ts : List MetricFocusPair) → AreLike ss ts → tags ts ≡ tags ss
tags_like [] [] a = refl
tags_like [] (t ∷ ts) a = absurd a
tags_like (s ∷ ss) [] a = absurd a
tags_like (s ∷ ss) (t ∷ ts) a = ap (λ (x : MetricFocusPair). tag x ∷ tags ts) a.0 ∙ ap (λ (l : List Tag). tag s ∷ l) (tags_like ss ts a.1)

-- ---- one instrument more

not_by_below : (c : ℕ) (ss : List MetricFocusPair) → AreBelow c ss → NotBy c (tags ss)
not_by_below c [] b = tt
not_by_below c (s ∷ ss) b = let l = b.0 in ((λ e. omega (arith, l, e)), not_by_below c ss b.1)

not_by_push : (m : ℕ) (ts : List Tag) (t : Tag) → NotBy m ts → (t.number ≡ m → ⊥) → NotBy m (ts ++ t ∷ [])
not_by_push m [] t h n = (n, tt)
not_by_push m (x ∷ ts) t h n = (h.0, not_by_push m ts t h.1 n)

apart_more : (ts : List Tag) (t : Tag) → AreApart ts → NotBy t.number ts → AreApart (ts ++ t ∷ [])
apart_more [] t a n = (tt, tt)
apart_more (x ∷ ts) t a n = (not_by_push x.number ts t a.0 (λ e. n.0 (sym e)), apart_more ts t a.1 n.1)

not_of_push : (n : ℕ) (ts : List Tag) (t : Tag) → NotOf n ts → (t.node ≡ Some n → ⊥) → NotOf n (ts ++ t ∷ [])
not_of_push n [] t h o = (o, tt)
not_of_push n (x ∷ ts) t h o = (h.0, not_of_push n ts t h.1 o)

alone_more : (ts : List Tag) (t : Tag) → AreAlone ts → ((n : ℕ) → t.node ≡ Some n → NotOf n ts) → AreAlone (ts ++ t ∷ [])
alone_more [] t a f = ((λ n e. tt), tt)
alone_more (x ∷ ts) t a f = ((λ n e. not_of_push n ts t (a.0 n e) (λ h. (f n h).0 e)), alone_more ts t a.1 (λ n h. (f n h).1))

taken_more : (ns : List Node) (ts : List Tag) (t : Tag) → AreTaken ns ts → AreTaken ns (t ∷ []) → AreTaken ns (ts ++ t ∷ [])
taken_more ns [] t a b = b
taken_more ns (x ∷ ts) t a b = (a.0, taken_more ns ts t a.1 b)

pub apart_push : (c : ℕ) (ss : List MetricFocusPair) (s : MetricFocusPair) → s.instrument.n ≡ c → AreBelow c ss → AreApart (tags ss) → AreApart (tags (ss ++ s ∷ []))
apart_push c ss s e b a =
    subst AreApart (sym (map_snoc tag ss s)) (apart_more (tags ss) (tag s) a (subst (λ m. NotBy m (tags ss)) (sym e) (not_by_below c ss b)))

pub alone_push : (ss : List MetricFocusPair) (s : MetricFocusPair) → AreAlone (tags ss) → ((n : ℕ) → s.node ≡ Some n → NotOf n (tags ss)) → AreAlone (tags (ss ++ s ∷ []))
alone_push ss s a f = subst AreAlone (sym (map_snoc tag ss s)) (alone_more (tags ss) (tag s) a f)

pub taken_push : (ns : List Node) (ss : List MetricFocusPair) (s : MetricFocusPair) → AreTaken ns (tags ss) → AreTaken ns (tag s ∷ []) → AreTaken ns (tags (ss ++ s ∷ []))
taken_push ns ss s a b = subst (AreTaken ns) (sym (map_snoc tag ss s)) (taken_more ns (tags ss) (tag s) a b)

-- ---- nodes

-- a node that waits was never tested
pub never_tested : (ns : List Node) (n : ℕ) (x : Node) (ts : List Tag) → slice_get ns n ≡ Some x → is_waiting x.state ≡ true → AreTaken ns ts → NotOf n ts
never_tested ns n x [] e w a = tt
never_tested ns n x (t ∷ ts) e w a =
    ((λ h. let k = a.0 n h in true≢false (sym w ∙ (ap (λ (y : Node). is_waiting y.state) (some_same x k.node (sym e ∙ k.stands)) ∙ k.taken))), never_tested ns n x ts e w a.1)

pub taken_grown : (P : Node → Type 0) (C : ℕ → Type 0) (ns ms : List Node) (ts : List Tag) → Grows P C ns ms → AreTaken ns ts → AreTaken ms ts
taken_grown P C ns ms [] g a = tt
taken_grown P C ns ms (t ∷ ts) g a =
    ((λ n e. let k = a.0 n e in let f = g.forth n k.node k.stands in record { node = f.m; stands = f.stands; taken = f.aged k.taken }), taken_grown P C ns ms ts g a.1)

-- ---- one node has one instrument

not_of_in : (n : ℕ) (ss : List MetricFocusPair) (s : MetricFocusPair) → NotOf n (tags ss) → In s ss → s.node ≡ Some n → ⊥
not_of_in n [] s o h e = h
not_of_in n (x ∷ ss) s o (inl h) e = o.0 (ap (λ (y : MetricFocusPair). y.node) (sym h) ∙ e)
not_of_in n (x ∷ ss) s o (inr h) e = not_of_in n ss s o.1 h e

pub same_tester : (n : ℕ) (ss : List MetricFocusPair) (s t : MetricFocusPair) → AreAlone (tags ss) → In s ss → In t ss → s.node ≡ Some n → t.node ≡ Some n → s.instrument.n ≡ t.instrument.n
same_tester n [] s t a h k e f = absurd h
same_tester n (x ∷ ss) s t a (inl h) (inl k) e f = ap (λ (y : MetricFocusPair). y.instrument.n) (h ∙ sym k)
same_tester n (x ∷ ss) s t a (inl h) (inr k) e f = absurd (not_of_in n ss t (a.0 n (ap (λ (y : MetricFocusPair). y.node) (sym h) ∙ e)) k f)
same_tester n (x ∷ ss) s t a (inr h) (inl k) e f = absurd (not_of_in n ss s (a.0 n (ap (λ (y : MetricFocusPair). y.node) (sym k) ∙ f)) h e)
same_tester n (x ∷ ss) s t a (inr h) (inr k) e f = same_tester n ss s t a.1 h k e f
