-- One function symbol further.
use Rattle.std.proofs.Common.{◌≡◌, ℕ, ◌+◌, ◌%◌, ◌<◌, ◌≤◌, List, [], ◌∷◌, ◌++◌, length, drop, get_or, map, Bool, true, false, not, ◌&&◌, ◌||◌, cond, ltb, refl, ap, sym, subst, ◌∙◌, ⊎_elim, arith}
use Rattle.std.specs.List.{All, filter, list_any}
use Rattle.std.specs.List.Sorted.{IsPermutation}
use Rattle.std.specs.Str.{bytes_eq}
use Rattle.std.proofs.lemmas.List.{drop_more, get_or_append_left, get_or_at, length_push}
use Rattle.std.proofs.lemmas.List.Sorted.{list_any-IsPermutation}
use Rattle.std.proofs.lemmas.List.Elements.{All-push, All-same, All-weaker}
use Rattle.std.proofs.lemmas.Bool.{and_parts, leb-true, ltb-true, eqb-true, cases_eq, le-ltb, lt-ltb, and_right}
use Rattle.std.proofs.lemmas.Bool.Decides.{nat_tests}
use Rattle.pn_types.specs.declared.code.Proc.{Proc}
use Rattle.pn_types.specs.declared.image.Image.{Image}
use Rattle.pn_types.specs.declared.image.Symbol.{Symbol}
use Rattle.code_points.specs.Procedures.{is_func, functions_of, procedures_of, can_be_procedure, overlaps, is_namesake, is_kept, proc_of, kept_of, IsProcOf, Ascend, AreDistinct}
use Rattle.code_points.proofs.NamedProcs.{none_at, distinct_push}
use Rattle.code_points.proofs.Sorting.{Rises, by_address-rises}
use denote.Ref.{Bor}

-- a module and a name, as the set of them has these
abbrev pub Key : Type 0
Key = Bor (List ℕ) × Bor (List ℕ)

-- a key is the symbol's module and name
abbrev pub is_key : Symbol → Key → Bool
is_key s k = bytes_eq s.«module» k.0.now && bytes_eq s.name k.1.now

-- These procedures lead to all. They end at `end` or before and have the modules and names `keys`, and the rest of the
-- function symbols is after their starts.
pub record Kept (image : Image) (procs : List Proc) (end : ℕ) (keys : List Key) (rest : List Symbol) : Type 0 where
  pub same : kept_of image procs rest ≡ procedures_of image
  pub low : ℕ
  pub starts : All (λ p. p.start ≤ low) procs
  pub ends : All (λ p. p.start + p.len ≤ end) procs
  pub rises : Rises (λ s. s.at) low rest
  pub each : All (IsProcOf image) procs
  pub ascend : Ascend procs
  pub free : (s : Symbol) → low ≤ s.at → 0 < s.size → list_any (overlaps s) procs ≡ ltb s.at end
  pub distinct : AreDistinct procs
  pub names : (s : Symbol) → list_any (is_key s) keys ≡ list_any (is_namesake s) procs

pub kept_none : (image : Image) (procs : List Proc) (keys : List Key) (rest : List Symbol) → procs ≡ [] → keys ≡ [] → rest ≡ functions_of image → Kept image procs 0 keys rest
kept_none image procs keys rest p k r = record {
  same = ap (λ ps. kept_of image ps rest) p ∙ ap (kept_of image []) r;
  low = 0;
  starts = All-same (λ p. p.start ≤ 0) procs [] p (λ k d l. absurd (omega arith));
  ends = All-same (λ p. p.start + p.len ≤ 0) procs [] p (λ k d l. absurd (omega arith));
  rises = subst (Rises (λ s. s.at) 0) (sym r) (by_address-rises (filter (λ s. is_func s.kind) image.symbols));
  each = All-same (IsProcOf image) procs [] p (λ k d l. absurd (omega arith));
  ascend = subst Ascend (sym p) (λ k d l. absurd (omega arith));
  distinct = subst AreDistinct (sym p) (λ j k a b e f m n. absurd (none_at j a e));
  free = λ s l m. ap (list_any (overlaps s)) p ∙ sym (le-ltb s.at 0 (omega arith));
  names = λ s. ap (list_any (is_key s)) k ∙ sym (ap (list_any (is_namesake s)) p);
}

kept_on : (image : Image) (procs : List Proc) (end : ℕ) (keys : List Key) (s : Symbol) (ss : List Symbol) → Kept image procs end keys (s ∷ ss) → is_kept image procs s ≡ false → Kept image procs end keys ss
kept_on image procs end keys s ss h e = record {
  same = sym (ap (λ b. kept_of image (cond b (procs ++ proc_of s ∷ []) procs) ss) e) ∙ h.same;
  low = s.at;
  starts = All-weaker (λ p. p.start ≤ h.low) (λ p. p.start ≤ s.at) (λ p l. omega (arith, h.rises.0)) procs h.starts;
  ends = h.ends;
  rises = h.rises.1;
  each = h.each;
  ascend = h.ascend;
  distinct = h.distinct;
  free = λ t l m. h.free t (omega (arith, h.rises.0)) m;
  names = h.names;
}

-- a function symbol that is none
pub kept_skip : (image : Image) (procs new : List Proc) (end e : ℕ) (keys ks : List Key) (rest : List Symbol) (s : Symbol) (ss : List Symbol) → Kept image procs end keys rest → rest ≡ s ∷ ss → is_kept image procs s ≡ false → new ≡ procs → e ≡ end → ks ≡ keys → Kept image new e ks ss
kept_skip image procs new end e keys ks rest s ss h r out p l k =
    subst (λ z. Kept image z e ks ss) (sym p) (subst (λ z. Kept image procs z ks ss) (sym l) (subst (λ z. Kept image procs end z ss) (sym k) (kept_on image procs end keys s ss (subst (Kept image procs end keys) r h) out)))

-- what `can_be_procedure` says of the range
is_proc : (image : Image) (s : Symbol) → can_be_procedure image s ≡ true → IsProcOf image (proc_of s)
is_proc image s h =
    let a = and_parts _ _ h in
    let b = and_parts _ _ a.0 in
    let c = and_parts _ _ b.0 in
    let d = and_parts _ _ c.0 in
    let e = and_parts _ _ d.0 in
    let before = leb-true (s.at + s.size) (image.text_at + image.text_len) a.1 in
    record {
      name = e.0;
      start = eqb-true (s.at % 4) 0 e.1;
      words = eqb-true (s.size % 4) 0 d.1;
      some = ltb-true 0 s.size c.1;
      behind = leb-true image.text_at s.at b.1;
      before = before;
    }

has_size : (image : Image) (s : Symbol) → can_be_procedure image s ≡ true → 0 < s.size
has_size image s h = ltb-true 0 s.size (and_parts _ _ (and_parts _ _ (and_parts _ _ h).0).0).1

ascend_push : (procs : List Proc) (p : Proc) (end : ℕ) → Ascend procs → All (λ p. p.start + p.len ≤ end) procs → end ≤ p.start → Ascend (procs ++ p ∷ [])
ascend_push procs p end up ends l k d m =
    let n : length (procs ++ p ∷ []) ≡ length procs + 1 = length_push procs p in
    let first : get_or (procs ++ p ∷ []) k d ≡ get_or procs k d = get_or_append_left procs (p ∷ []) d k (omega arith) in
    ⊎_elim
    (λ (e : k + 1 ≡ length procs).
    let second : get_or (procs ++ p ∷ []) (k + 1) d ≡ p = get_or_at procs p [] d (k + 1) (sym e) in
    let below : (get_or procs k d).start + (get_or procs k d).len ≤ end = ends k d (omega arith) in
    omega (arith, ap (λ (q : Proc). q.start + q.len) first, ap (λ (q : Proc). q.start) second))
    (λ (e : k + 1 ≡ length procs → ⊥).
    let inside : k + 1 < length procs = omega arith in
    let second : get_or (procs ++ p ∷ []) (k + 1) d ≡ get_or procs (k + 1) d = get_or_append_left procs (p ∷ []) d (k + 1) inside in
    omega (arith, ap (λ (q : Proc). q.start + q.len) first, ap (λ (q : Proc). q.start) second, up k d inside))
    (cases_eq (k + 1) (length procs))

or_none : (b : Bool) → (b || false) ≡ b
or_none true = refl
or_none false = refl

or_assoc : (a b c : Bool) → (a || (b || c)) ≡ ((a || b) || c)
or_assoc true b c = refl
or_assoc false b c = refl

or_comm : (a b : Bool) → (a || b) ≡ (b || a)
or_comm true true = refl
or_comm true false = refl
or_comm false true = refl
or_comm false false = refl

any_push : {X : Type 0} (test : X → Bool) (xs : List X) (x : X) → list_any test (xs ++ x ∷ []) ≡ (list_any test xs || test x)
any_push test [] x = or_none (test x)
any_push test (y ∷ ys) x = ap (λ b. test y || b) (any_push test ys x) ∙ or_assoc (test y) (list_any test ys) (test x)

covered : (end a b s e : ℕ) → end ≤ s → s ≤ a → s < e → 0 < b → (ltb a end || (ltb a e && ltb s (a + b))) ≡ ltb a e
covered end a b s e l m n o = grind (arith, nat_tests)

-- the test of a function symbol that can be a procedure
is_free : (image : Image) (procs : List Proc) (end : ℕ) (keys : List Key) (s : Symbol) (ss : List Symbol) → Kept image procs end keys (s ∷ ss) → can_be_procedure image s ≡ true → is_kept image procs s ≡ (not (ltb s.at end) && not (list_any (is_key s) keys))
is_free image procs end keys s ss h can =
    ap (λ b. b && not (list_any (overlaps s) procs) && not (list_any (is_namesake s) procs)) can
    ∙ ap (λ b. not b && not (list_any (is_namesake s) procs)) (h.free s h.rises.0 (has_size image s can))
    ∙ ap (λ b. not (ltb s.at end) && not b) (sym (h.names s))

pub cannot_be : (image : Image) (procs : List Proc) (s : Symbol) → can_be_procedure image s ≡ false → is_kept image procs s ≡ false
cannot_be image procs s h = ap (λ b. b && not (list_any (overlaps s) procs) && not (list_any (is_namesake s) procs)) h

pub overlapping : (image : Image) (procs : List Proc) (end : ℕ) (keys : List Key) (rest : List Symbol) (s : Symbol) (ss : List Symbol) → Kept image procs end keys rest → rest ≡ s ∷ ss → can_be_procedure image s ≡ true → s.at < end → is_kept image procs s ≡ false
overlapping image procs end keys rest s ss h r can l =
    is_free image procs end keys s ss (subst (Kept image procs end keys) r h) can ∙ ap (λ b. not b && not (list_any (is_key s) keys)) (lt-ltb s.at end l)

pub namesake : (image : Image) (procs : List Proc) (end : ℕ) (keys : List Key) (rest : List Symbol) (s : Symbol) (ss : List Symbol) → Kept image procs end keys rest → rest ≡ s ∷ ss → can_be_procedure image s ≡ true → list_any (is_key s) keys ≡ true → is_kept image procs s ≡ false
namesake image procs end keys rest s ss h r can e =
    is_free image procs end keys s ss (subst (Kept image procs end keys) r h) can ∙ ap (λ b. not (ltb s.at end) && not b) e ∙ and_right (not (ltb s.at end)) false refl

kept_more : (image : Image) (procs : List Proc) (end : ℕ) (keys ks : List Key) (k : Key) (s : Symbol) (ss : List Symbol) → Kept image procs end keys (s ∷ ss) → can_be_procedure image s ≡ true → end ≤ s.at → list_any (is_key s) keys ≡ false → k.0.now ≡ s.«module» → k.1.now ≡ s.name → IsPermutation (k ∷ keys) ks → Kept image (procs ++ proc_of s ∷ []) (s.at + s.size) ks ss
kept_more image procs end keys ks k s ss h can l new m n put =
    let is = is_proc image s can in
    let yes : is_kept image procs s ≡ true = is_free image procs end keys s ss h can ∙ ap (λ b. not b && not (list_any (is_key s) keys)) (le-ltb s.at end l) ∙ ap not new in
    record {
      same = sym (ap (λ b. kept_of image (cond b (procs ++ proc_of s ∷ []) procs) ss) yes) ∙ h.same;
      low = s.at;
      starts = All-push (λ p. p.start ≤ s.at) procs (proc_of s) (All-weaker (λ p. p.start ≤ h.low) (λ p. p.start ≤ s.at) (λ p m. omega (arith, h.rises.0)) procs h.starts) (omega arith);
      ends = All-push (λ p. p.start + p.len ≤ s.at + s.size) procs (proc_of s) (All-weaker (λ p. p.start + p.len ≤ end) (λ p. p.start + p.len ≤ s.at + s.size) (λ p m. omega arith) procs h.ends) (omega arith);
      rises = h.rises.1;
      each = All-push (IsProcOf image) procs (proc_of s) h.each is;
      ascend = ascend_push procs (proc_of s) end h.ascend h.ends l;
      distinct = distinct_push procs s h.distinct (sym (h.names s) ∙ new);
      free = λ t a b.
          any_push (overlaps t) procs (proc_of s)
          ∙ ap (λ c. c || overlaps t (proc_of s)) (h.free t (omega (arith, h.rises.0)) b)
          ∙ covered end t.at t.size s.at (s.at + s.size) l a (omega (arith, is.some)) b;
      names = λ t.
          sym (list_any-IsPermutation (is_key t) (k ∷ keys) ks put)
          ∙ ap (λ c. c || list_any (is_key t) keys) (ap (λ z. bytes_eq t.«module» z && bytes_eq t.name k.1.now) m ∙ ap (λ z. bytes_eq t.«module» s.«module» && bytes_eq t.name z) n)
          ∙ ap (λ c. is_namesake t (proc_of s) || c) (h.names t)
          ∙ or_comm (is_namesake t (proc_of s)) (list_any (is_namesake t) procs)
          ∙ sym (any_push (is_namesake t) procs (proc_of s));
    }

-- a function symbol that is a procedure
pub kept_push : (image : Image) (procs new : List Proc) (end e : ℕ) (keys ks : List Key) (k : Key) (rest : List Symbol) (s : Symbol) (ss : List Symbol) → Kept image procs end keys rest → rest ≡ s ∷ ss → can_be_procedure image s ≡ true → end ≤ s.at → list_any (is_key s) keys ≡ false → k.0.now ≡ s.«module» → k.1.now ≡ s.name → IsPermutation (k ∷ keys) ks → new ≡ procs ++ proc_of s ∷ [] → e ≡ s.at + s.size → Kept image new e ks ss
kept_push image procs new end e keys ks k rest s ss h r can l out m n put p q =
    subst (λ z. Kept image z e ks ss) (sym p) (subst (λ z. Kept image (procs ++ proc_of s ∷ []) z ks ss) (sym q) (kept_more image procs end keys ks k s ss (subst (Kept image procs end keys) r h) can l out m n put))

-- the next of the function symbols
pub next_function : (rs : List (Bor Symbol)) (i : ℕ) (r : Bor Symbol) → i < length rs → r ≡ get_or rs i r → map (λ r. r.now) (drop i rs) ≡ r.now ∷ map (λ r. r.now) (drop (i + 1) rs)
next_function rs i r l e = ap (map (λ (r : Bor Symbol). r.now)) (drop_more rs i r l) ∙ ap (λ x. x.now ∷ map (λ (r : Bor Symbol). r.now) (drop (i + 1) rs)) (sym e)

-- a key as the set has it
pub seen : (s : Symbol) (k : Key) (keys : List Key) → k.0.now ≡ s.«module» → k.1.now ≡ s.name → list_any (λ q. bytes_eq k.0.now q.0.now && bytes_eq k.1.now q.1.now) keys ≡ list_any (is_key s) keys
seen s k keys m n =
    ap (λ z. list_any (λ (q : Key). bytes_eq z q.0.now && bytes_eq k.1.now q.1.now) keys) m
    ∙ ap (λ z. list_any (λ (q : Key). bytes_eq s.«module» q.0.now && bytes_eq z q.1.now) keys) n
