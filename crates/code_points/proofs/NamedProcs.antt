-- The names of procedures: good ones, and no two alike.
use Rattle.std.proofs.Common.{◌≡◌, ℕ, zero, suc, ◌+◌, ◌<◌, ◌^◌, ◌⊎◌, inl, inr, ⊎_elim, cond, Bool, true, false, ◌&&◌, ◌||◌, Option, Some, List, [], ◌∷◌, ◌++◌, length, refl, sym, ap, ◌∙◌, subst, arith}
use Rattle.std.specs.Prelude.{slice_get, nat_le}
use Rattle.std.specs.List.{All, AllByRecursion, filter, list_any}
use Rattle.std.specs.Str.{bytes_eq}
use Rattle.std.proofs.lemmas.Slice.Eq.{bytes_eq-Decides}
use Rattle.std.proofs.lemmas.Option.{get_or_from_slice_get}
use Rattle.std.proofs.lemmas.List.Elements.{All-from_recursion, recursion_from_All}
use Rattle.pn_types.specs.GoodNames.{is_good_name}
use Rattle.pn_types.specs.Images.{IsImage}
use Rattle.pn_types.proofs.ImageLemmas.{text_range}
use Rattle.pn_types.specs.declared.code.Proc.{Proc}
use Rattle.pn_types.specs.declared.image.Image.{Image}
use Rattle.pn_types.specs.declared.image.Symbol.{Symbol}
use Rattle.code_points.specs.Procedures.{is_func, insert_by_address, by_address, functions_of, is_namesake, is_kept, proc_of, kept_of, procedures_of, AreModulesGood, AreDistinct, IsProcOf, AreProcsOf}

-- the text ends below 2^64
pub text_below : (image : Image) → IsImage image → image.text_at + image.text_len < 2 ^ 64
text_below image h = let high = (text_range image h).high in omega arith

-- ---- elements

some_is : {A : Type 0} (a x : A) → ◌≡◌ {A = Option A} (Some a) (Some x) → a ≡ x
some_is a x e = cc

pub none_at : (k : ℕ) (p : Proc) → slice_get [] k ≡ Some p → ⊥
none_at k p e = absurd (cc)

inside : {A : Type 0} (xs : List A) (k : ℕ) (x : A) → slice_get xs k ≡ Some x → k < length xs
inside [] k x e = absurd (cc)
inside (y ∷ ys) zero x e = omega arith
inside (y ∷ ys) (suc k) x e = let rest = inside ys k x e in omega arith

pub all_at : {A : Type 0} (P : A → Type 0) (xs : List A) (k : ℕ) (x : A) → All P xs → slice_get xs k ≡ Some x → P x
all_at P xs k x all e = subst P (get_or_from_slice_get xs k x x e) (all k x (inside xs k x e))

-- an element of a list with one more is one of the list, or that one
of_pushed : (xs : List Proc) (y : Proc) (k : ℕ) (p : Proc) → slice_get (xs ++ y ∷ []) k ≡ Some p → (slice_get xs k ≡ Some p) ⊎ ((k ≡ length xs) × (y ≡ p))
of_pushed [] y zero p e = inr (refl, some_is y p e)
of_pushed [] y (suc k) p e = absurd (none_at k p e)
of_pushed (x ∷ xs) y zero p e = inl e
of_pushed (x ∷ xs) y (suc k) p e =
    ⊎_elim (λ (h : slice_get xs k ≡ Some p). inl h) (λ (h : (k ≡ length xs) × (y ≡ p)). inr (ap suc h.0, h.1)) (of_pushed xs y k p e)

-- ---- no two alike

or_left : (a b : Bool) → (a || b) ≡ false → a ≡ false
or_left true b h = h
or_left false b h = refl

or_right : (a b : Bool) → (a || b) ≡ false → b ≡ false
or_right true b h = absurd (cc)
or_right false b h = h

no_namesake : (s : Symbol) (procs : List Proc) (k : ℕ) (p : Proc) → list_any (is_namesake s) procs ≡ false → slice_get procs k ≡ Some p → is_namesake s p ≡ false
no_namesake s [] k p h e = absurd (none_at k p e)
no_namesake s (q ∷ qs) zero p h e = ap (is_namesake s) (sym (some_is q p e)) ∙ or_left (is_namesake s q) (list_any (is_namesake s) qs) h
no_namesake s (q ∷ qs) (suc k) p h e = no_namesake s qs k p (or_right (is_namesake s q) (list_any (is_namesake s) qs) h) e

alike : (s : Symbol) (p : Proc) → s.«module» ≡ p.«module» → s.name ≡ p.name → is_namesake s p ≡ false → ⊥
alike s p m n h =
    let one : bytes_eq s.«module» p.«module» ≡ true = (bytes_eq-Decides s.«module» p.«module»).1 m in
    let two : bytes_eq s.name p.name ≡ true = (bytes_eq-Decides s.name p.name).1 n in
    let both : is_namesake s p ≡ true = ap (λ b. b && bytes_eq s.name p.name) one ∙ two in
    absurd (cc)

pub distinct_push : (procs : List Proc) (s : Symbol) → AreDistinct procs → list_any (is_namesake s) procs ≡ false → AreDistinct (procs ++ proc_of s ∷ [])
distinct_push procs s h none j k p q a b m n =
    ⊎_elim
    (λ (x : slice_get procs j ≡ Some p).
    ⊎_elim (λ (y : slice_get procs k ≡ Some q). h j k p q x y m n)
    (λ (y : (k ≡ length procs) × (proc_of s ≡ q)).
    absurd (alike s p (ap (λ (r : Proc). r.«module») y.1 ∙ sym m) (ap (λ (r : Proc). r.name) y.1 ∙ sym n) (no_namesake s procs j p none x)))
    (of_pushed procs (proc_of s) k q b))
    (λ (x : (j ≡ length procs) × (proc_of s ≡ p)).
    ⊎_elim
    (λ (y : slice_get procs k ≡ Some q).
    absurd (alike s q (ap (λ (r : Proc). r.«module») x.1 ∙ m) (ap (λ (r : Proc). r.name) x.1 ∙ n) (no_namesake s procs k q none y)))
    (λ (y : (k ≡ length procs) × (proc_of s ≡ q)). x.0 ∙ sym y.0)
    (of_pushed procs (proc_of s) k q b))
    (of_pushed procs (proc_of s) j p a)

-- ---- modules

abbrev HasGoodModule : Symbol → Type 0
HasGoodModule s = is_good_name s.«module» ≡ true

abbrev IsOfGoodModule : Proc → Type 0
IsOfGoodModule p = is_good_name p.«module» ≡ true

either : {A : Type 0} (P : A → Type 0) (b : Bool) (xs ys : List A) → AllByRecursion P xs → AllByRecursion P ys → AllByRecursion P (cond b xs ys)
either P true xs ys p q = p
either P false xs ys p q = q

filtered : (ss : List Symbol) → AllByRecursion HasGoodModule ss → AllByRecursion HasGoodModule (filter (λ s. is_func s.kind) ss)
filtered [] all = tt
filtered (s ∷ ss) all =
    let rest = filtered ss all.1 in
    either HasGoodModule (is_func s.kind) (s ∷ filter (λ s. is_func s.kind) ss) (filter (λ s. is_func s.kind) ss) (all.0, rest) rest

inserted : (s : Symbol) (ss : List Symbol) → HasGoodModule s → AllByRecursion HasGoodModule ss → AllByRecursion HasGoodModule (insert_by_address s ss)
inserted s [] h all = (h, tt)
inserted s (t ∷ ts) h all = either HasGoodModule (nat_le s.at t.at) (s ∷ (t ∷ ts)) (t ∷ insert_by_address s ts) (h, all) (all.0, inserted s ts h all.1)

ordered : (ss : List Symbol) → AllByRecursion HasGoodModule ss → AllByRecursion HasGoodModule (by_address ss)
ordered [] all = tt
ordered (s ∷ ss) all = inserted s (by_address ss) all.0 (ordered ss all.1)

pushed : (ps : List Proc) (p : Proc) → AllByRecursion IsOfGoodModule ps → IsOfGoodModule p → AllByRecursion IsOfGoodModule (ps ++ p ∷ [])
pushed [] p all h = (h, tt)
pushed (q ∷ qs) p all h = (all.0, pushed qs p all.1 h)

kept_good : (image : Image) (kept : List Proc) (ss : List Symbol) → AllByRecursion IsOfGoodModule kept → AllByRecursion HasGoodModule ss → AllByRecursion IsOfGoodModule (kept_of image kept ss)
kept_good image kept [] all more = all
kept_good image kept (s ∷ ss) all more =
    kept_good image (cond (is_kept image kept s) (kept ++ proc_of s ∷ []) kept) ss
    (either IsOfGoodModule (is_kept image kept s) (kept ++ proc_of s ∷ []) kept (pushed kept (proc_of s) all more.0) all) more.1

-- the modules of procedures are good names where those of all symbols are
pub modules_good : (image : Image) → AreModulesGood image → All IsOfGoodModule (procedures_of image)
modules_good image good =
    All-from_recursion IsOfGoodModule (procedures_of image)
    (kept_good image [] (functions_of image) tt (ordered _ (filtered image.symbols (recursion_from_All HasGoodModule image.symbols good))))

-- ---- the names of a program's procedures

pub names_good : (image : Image) (procs : List Proc) → AreProcsOf image procs → AreModulesGood image → (k : ℕ) (p : Proc) → slice_get procs k ≡ Some p → (is_good_name p.«module» ≡ true) × (is_good_name p.name ≡ true)
names_good image procs h good k p e =
    (all_at IsOfGoodModule procs k p (h.modules good) e, (all_at (IsProcOf image) procs k p h.each e).name)
