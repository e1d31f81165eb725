-- The maps for which the arrays of a store stand, and what their writes do to them.
use Rattle.std.proofs.Common.{◌≡◌, ℕ, zero, suc, ◌+◌, ◌*◌, ◌/◌, ◌<◌, ◌≤◌, List, [], ◌∷◌, ◌++◌, length, get_or, Option, Some, None, refl, sym, ap, ◌∙◌, arith}
use Rattle.std.specs.Prelude.{Bool, true, false, cond, nat_eq, map, slice_set}
use Rattle.std.specs.FinMap.{from_entries, insert, remove, get, get-insert, get-remove, same_map, nat_cmp-IsAntisymmetric}
use Rattle.std.specs.Ordering.{nat_cmp}
use Rattle.std.proofs.lemmas.Bool.{cond-true, cond-false, eq-eqb, eqb-true, ne_eqb}
use Rattle.std.proofs.lemmas.Cmp.{nat_cmp_total}
use Rattle.std.proofs.lemmas.List.{map-set, length-map}
use Rattle.std.proofs.Math.Seq.{map-set_same}
use Rattle.std.specs.Cmp.{unsigned_tied}
use Rattle.tramp_spec.specs.Codes.{Code}
use Rattle.tramp_spec.specs.declared.mark.MarkedWord.{MarkedWord}
use Rattle.code_store.specs.declared.word_use.WordUse.{WordUse}
use Rattle.code_store.specs.declared.word_use.WordUse.TheVariants.{Block}
use Rattle.code_store.specs.Owners.{Owners}
use Rattle.code_store.specs.Stores.{StoredCode}
use Rattle.rv_word.specs.Plain.{Words}
use Rattle.code_store.specs.Views.{point_of, freed, if_put, entries_from, put_among, code_of, owners_of}
use Rattle.code_store.proofs.Entries.{read, read_past, read-set, or_else, get_both, get_one}
use Rattle.code_store.proofs.Uses.{put_among-set, length-put_among, put_among-freed}

-- ---- maps that agree

pub inserted : {A : Type 0} (m : List (ℕ × A)) (n : List (ℕ × A)) (a : ℕ) (v : A) → ((q : ℕ) → get (from_entries {R = nat_cmp} n) q ≡ cond (nat_eq q a) (Some v) (get (from_entries {R = nat_cmp} m) q)) → from_entries {R = nat_cmp} n ≡ insert (from_entries m) a v
inserted m n a v h = same_map nat_cmp_total nat_cmp-IsAntisymmetric _ _ (λ q.
    h q ∙ sym (get-insert nat_cmp_total (from_entries m) a v q ∙ ap (λ b. cond b (Some v) (get {R = nat_cmp} (from_entries m) q)) (unsigned_tied q a)))

pub removed : {A : Type 0} (m : List (ℕ × A)) (n : List (ℕ × A)) (a : ℕ) → ((q : ℕ) → get (from_entries {R = nat_cmp} n) q ≡ cond (nat_eq q a) None (get (from_entries {R = nat_cmp} m) q)) → from_entries {R = nat_cmp} n ≡ remove (from_entries m) a
removed m n a h = same_map nat_cmp_total nat_cmp-IsAntisymmetric _ _ (λ q.
    h q ∙ sym (get-remove nat_cmp_total (from_entries m) a q ∙ ap (λ b. cond b None (get {R = nat_cmp} (from_entries m) q)) (unsigned_tied q a)))

-- ---- the owners

-- what is read at an element's address
pub read-map : {X A : Type 0} (f : X → Option A) (xs : List X) (at i q : ℕ) (x : X) → i < length xs → q ≡ at + 4 * i → x ≡ get_or xs i x → read at (map f xs) q ≡ f x
read-map f [] at i q x l e is = absurd (omega arith)
read-map f (y ∷ xs) at zero q x l e is = cond-true (nat_eq q at) _ _ (eq-eqb q at (omega arith)) ∙ ap f (sym is)
read-map f (y ∷ xs) at (suc i) q x l e is =
    cond-false (nat_eq q at) _ _ (ne_eqb q at (λ z. omega arith)) ∙ read-map f xs (at + 4) i q x (omega arith) (omega arith) is

-- the owners after a write
pub owners-owned : (uses : List WordUse) (at i a point : ℕ) → i < length uses → a ≡ at + 4 * i → owners_of at (slice_set uses i (Block point)) ≡ insert (owners_of at uses) a point
owners-owned uses at i a point l e =
    inserted _ (entries_from at (map point_of (slice_set uses i (Block point)))) a point (λ q.
    get_one (map point_of (slice_set uses i (Block point))) at q
    ∙ ap (λ xs. read at xs q) (map-set point_of uses i (Block point))
    ∙ read-set (map point_of uses) at i a q (Some point) (simp length-map l) e
    ∙ ap (cond (nat_eq q a) (Some point)) (sym (get_one (map point_of uses) at q)))

pub owners-freed : (uses : List WordUse) (at i a : ℕ) (u : WordUse) → point_of u ≡ None → i < length uses → a ≡ at + 4 * i → owners_of at (slice_set uses i u) ≡ remove (owners_of at uses) a
owners-freed uses at i a u none l e =
    removed _ (entries_from at (map point_of (slice_set uses i u))) a (λ q.
    get_one (map point_of (slice_set uses i u)) at q
    ∙ ap (λ xs. read at xs q) (map-set point_of uses i u ∙ ap (slice_set (map point_of uses) i) none)
    ∙ read-set (map point_of uses) at i a q None (simp length-map l) e
    ∙ ap (cond (nat_eq q a) None) (sym (get_one (map point_of uses) at q)))

-- behind the array no word has an owner
none_there : {A : Type 0} (b : Bool) (r : Option A) → (b ≡ true → r ≡ None) → r ≡ cond b None r
none_there true r none = none refl
none_there false r none = refl

pub owners-past : (uses : List WordUse) (at i a : ℕ) → length uses ≤ i → a ≡ at + 4 * i → owners_of at uses ≡ remove (owners_of at uses) a
owners-past uses at i a past e =
    removed (entries_from at (map point_of uses)) (entries_from at (map point_of uses)) a (λ q.
    none_there (nat_eq q a) (get (owners_of at uses) q) (λ here.
    get_one (map point_of uses) at q ∙ read_past (map point_of uses) at q (let same = eqb-true q a here in simp length-map (omega (arith, same, e, past)))))

pub owners-same : (uses : List WordUse) (at i : ℕ) (u v : WordUse) → u ≡ get_or uses i u → point_of v ≡ point_of u → owners_of at (slice_set uses i v) ≡ owners_of at uses
owners-same uses at i u v is same = ap (λ xs. from_entries (entries_from at xs)) (map-set_same point_of uses i v u (same ∙ ap point_of is))

-- ---- the words

left_one : {A : Type 0} (b : Bool) (v : A) (r s : Option A) → or_else (cond b (Some v) r) s ≡ cond b (Some v) (or_else r s)
left_one true v r s = refl
left_one false v r s = refl

right_one : {A : Type 0} (b : Bool) (v : A) (r s : Option A) → (b ≡ true → r ≡ None) → or_else r (cond b (Some v) s) ≡ cond b (Some v) (or_else r s)
right_one true v r s none = ap (λ o. or_else o (Some v)) (none refl)
right_one false v r s none = refl

-- a word is put into the text
pub code-text : (text_at : ℕ) (text : List MarkedWord) (tools_at : ℕ) (tools : List MarkedWord) (uses : List WordUse) (i a : ℕ) (w : MarkedWord) → i < length text → a ≡ text_at + 4 * i → code_of text_at (slice_set text i w) tools_at tools uses ≡ insert (code_of text_at text tools_at tools uses) a w
code-text text_at text tools_at tools uses i a w l e =
    inserted _ (entries_from text_at (map (λ x. Some x) (slice_set text i w)) ++ entries_from tools_at (put_among tools uses)) a w (λ q.
    get_both (map (λ x. Some x) (slice_set text i w)) (put_among tools uses) text_at tools_at q
    ∙ ap (λ xs. or_else (read text_at xs q) (read tools_at (put_among tools uses) q)) (map-set (λ x. Some x) text i w)
    ∙ ap (λ o. or_else o (read tools_at (put_among tools uses) q)) (read-set (map (λ x. Some x) text) text_at i a q (Some w) (simp length-map l) e)
    ∙ left_one (nat_eq q a) w (read text_at (map (λ x. Some x) text) q) (read tools_at (put_among tools uses) q)
    ∙ ap (cond (nat_eq q a) (Some w)) (sym (get_both (map (λ x. Some x) text) (put_among tools uses) text_at tools_at q)))

-- a word is put into the tool text
pub code-tool : (text_at : ℕ) (text : List MarkedWord) (tools_at : ℕ) (tools : List MarkedWord) (uses : List WordUse) (i a : ℕ) (w : MarkedWord) (u : WordUse) → text_at + 4 * length text ≤ tools_at → length uses ≡ length tools → if_put u w ≡ Some w → i < length tools → a ≡ tools_at + 4 * i → code_of text_at text tools_at (slice_set tools i w) (slice_set uses i u) ≡ insert (code_of text_at text tools_at tools uses) a w
code-tool text_at text tools_at tools uses i a w u apart n put l e =
    inserted _ (entries_from text_at (map (λ x. Some x) text) ++ entries_from tools_at (put_among (slice_set tools i w) (slice_set uses i u))) a w (λ q.
    get_both (map (λ x. Some x) text) (put_among (slice_set tools i w) (slice_set uses i u)) text_at tools_at q
    ∙ ap (λ xs. or_else (read text_at (map (λ x. Some x) text) q) (read tools_at xs q)) (put_among-set tools uses i w u ∙ ap (slice_set (put_among tools uses) i) put)
    ∙ ap (or_else (read text_at (map (λ x. Some x) text) q)) (read-set (put_among tools uses) tools_at i a q (Some w) (let m = length-put_among tools uses n in omega arith) e)
    ∙ right_one (nat_eq q a) w (read text_at (map (λ x. Some x) text) q) (read tools_at (put_among tools uses) q) (λ h.
    read_past (map (λ x. Some x) text) text_at q (let same = eqb-true q a h in simp length-map (omega arith)))
    ∙ ap (cond (nat_eq q a) (Some w)) (sym (get_both (map (λ x. Some x) text) (put_among tools uses) text_at tools_at q)))

pub code-freed : (text_at : ℕ) (text : List MarkedWord) (tools_at : ℕ) (tools : List MarkedWord) (uses : List WordUse) (i : ℕ) (u : WordUse) → u ≡ get_or uses i u → code_of text_at text tools_at tools (slice_set uses i (freed u)) ≡ code_of text_at text tools_at tools uses
code-freed text_at text tools_at tools uses i u is =
    ap (λ xs. from_entries (entries_from text_at (map (λ x. Some x) text) ++ entries_from tools_at xs)) (put_among-freed tools uses i u is)

-- ---- a store's value

pub same_stored : (p : Words) (a b : Code) (o r : Owners) → a ≡ b → o ≡ r → ◌≡◌ {A = StoredCode} (record { program = p; code = a; owners = o }) (record { program = p; code = b; owners = r })
same_stored p a b o r e f = λ i. record { program = p; code = e i; owners = f i }

-- the tool text begins after the text
pub behind_text : (at n t : ℕ) → t ≡ (at + 4 * n + 4095) / 4096 * 4096 → at + 4 * n ≤ t
behind_text at n t e = omega arith
