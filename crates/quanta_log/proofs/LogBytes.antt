-- Reading and writing are each other's inverse.
use Rattle.std.proofs.Common.{◌≡◌, ℕ, ◌+◌, ◌*◌, ◌≤◌, List, [], ◌∷◌, ◌++◌, length, drop, Option, Some, None, Result, Ok, refl, sym, ap, subst, ◌∙◌, arith, length-append}
use Rattle.std.proofs.lemmas.List.{append-nil, drop_all}
use Rattle.std.proofs.lemmas.List.Concat.{flat_map-cons}
use Rattle.std.specs.Prelude.{nat_lt}
use Rattle.std.specs.List.{flat_map, AllByRecursion}
use Rattle.pn_types.specs.declared.settings.Settings.{Settings}
use Rattle.quanta_log.specs.declared.version.Version.{Version}
use Rattle.quanta_log.specs.declared.version.Version.TheVariants.{One, Two}
use Rattle.pn_types.specs.declared.quantum.Quantum.{Quantum}
use Rattle.quanta_log.specs.declared.fault.LogFault.{LogFault}
use Rattle.quanta_log.specs.declared.fault.LogFault.TheVariants.{Short, Trailing}
use Rattle.quanta_log.specs.Fields.{head_len, entry_len, log_len, most_harts}
use Rattle.quanta_log.specs.Meaning.{version_of, log_harts, count_of, settings_of, quanta_at, fault_where, head_fault, entries_fault, log_fault, unless_fault, meaning_as, meaning_of}
use Rattle.quanta_log.specs.Spelling.{head, entry, spelled, IsQuantum, CanSpell}
use Rattle.outside.specs.Outside.{IsBytes}
use Rattle.quanta_log.proofs.CheckLemmas.{each_none, none_at_all, not_less, at_least}
use Rattle.quanta_log.proofs.EntryBytes.{AreGood, entries_again, entries_spelled}
use Rattle.quanta_log.proofs.HeadBytes.{IsHead, head_again, head_spelled}

abbrev answer : Settings → List Quantum → Result (Settings × List Quantum) LogFault
answer s qs = Ok (s, qs)

-- ---- what is spelled is read

entry_is : (v : Version) (q : Quantum) → length (entry v q) ≡ entry_len v
unfolding entry
entry_is One q = refl
entry_is Two q = refl

entries_len : (v : Version) (qs : List Quantum) → length (flat_map (entry v) qs) ≡ length qs * entry_len v
entries_len v [] = omega arith
entries_len v (q ∷ qs) =
    let one = entry_is v q in
    let others = entries_len v qs in
    let all : length (flat_map (entry v) (q ∷ qs)) ≡ length (entry v q) + length (flat_map (entry v) qs) = ap length (flat_map-cons (entry v) q qs) ∙ length-append (entry v q) (flat_map (entry v) qs) in
    omega arith

pub log_again : (v : Version) (s : Settings) (qs : List Quantum) → CanSpell v s qs → meaning_of (spelled v s qs) ≡ Ok (s, qs)
unfolding spelled meaning_of log_fault
log_again v s qs can =
    let n = length qs in
    let rest = flat_map (entry v) qs in
    let b = head v s n ++ rest in
    let h : IsHead v b s n rest = head_again v s n rest can.settings can.harts can.plain can.few in
    let few : s.harts ≤ 32 = can.settings.harts.1 in
    let es : AreGood v s.harts b (head_len v) qs = entries_again v s.harts b (head_len v) qs few can.quanta h.behind in
    let total : length b ≡ log_len v (count_of b) = h.len ∙ ap (λ k. head_len v + k) (entries_len v qs) ∙ ap (λ k. head_len v + k * entry_len v) (sym h.count) in
    let entries : entries_fault v (log_harts b) b (count_of b) (head_len v) ≡ None = ap (λ k. entries_fault v k b (count_of b) (head_len v)) h.harts ∙ ap (λ k. entries_fault v s.harts b k (head_len v)) h.count ∙ es.fine in
    let none : log_fault v b ≡ None = none_at_all (fault_where (nat_lt (length b) (head_len v)) (Short (length b))
    ∷ head_fault v b
    ∷ fault_where (nat_lt (length b) (log_len v (count_of b))) (Short (length b))
    ∷ entries_fault v (log_harts b) b (count_of b) (head_len v)
    ∷ fault_where (nat_lt (log_len v (count_of b)) (length b)) (Trailing (log_len v (count_of b)))
    ∷ [])
    (not_less (length b) (head_len v) (Short (length b)) (let l = h.len in omega arith), (h.fine, (not_less (length b) (log_len v (count_of b)) (Short (length b)) (omega (arith, total)), (entries, (not_less (log_len v (count_of b)) (length b) (Trailing (log_len v (count_of b))) (omega (arith, total)), tt))))) in
    let quanta : quanta_at v b (count_of b) (head_len v) ≡ qs = ap (λ k. quanta_at v b k (head_len v)) h.count ∙ es.quanta in
    let whole = quanta_at v b (count_of b) (head_len v) in
    ap (λ o. meaning_as o b) h.version
    ∙ ap (λ f. unless_fault {A = Settings × List Quantum} f (settings_of v b, whole)) none
    ∙ ap (λ x. answer x whole) h.settings
    ∙ ap (λ q. answer s q) quanta

-- ---- what is read is spelled

unless_ok : {A : Type 0} (f : Option LogFault) (x y : A) → unless_fault f x ≡ Ok y → (f ≡ None) × (x ≡ y)
unless_ok None x y e = (refl, cc)
unless_ok (Some f) x y e = absurd cc

settings_harts : (v : Version) (b : List ℕ) → (settings_of v b).harts ≡ log_harts b
settings_harts One b = refl
settings_harts Two b = refl

abbrev IsLog : List ℕ → Version → (Settings × List Quantum) → Type 0
IsLog b v log = CanSpell v log.0 log.1 × (b ≡ spelled v log.0 log.1)

pub log_spelled : (b : List ℕ) (v : Version) (s : Settings) (qs : List Quantum) → IsBytes b → version_of b ≡ Some v → meaning_of b ≡ Ok (s, qs) → CanSpell v s qs × (b ≡ spelled v s qs)
unfolding spelled meaning_of log_fault
log_spelled b v s qs bytes is meant =
    let n = count_of b in
    let x = settings_of v b in
    let q = quanta_at v b n (head_len v) in
    let told : unless_fault {A = Settings × List Quantum} (log_fault v b) (x, q) ≡ answer s qs = sym (ap (λ o. meaning_as o b) is) ∙ meant in
    let parts = unless_ok {A = Settings × List Quantum} (log_fault v b) (x, q) (s, qs) told in
    let each = each_none (fault_where (nat_lt (length b) (head_len v)) (Short (length b))
    ∷ head_fault v b
    ∷ fault_where (nat_lt (length b) (log_len v (count_of b))) (Short (length b))
    ∷ entries_fault v (log_harts b) b (count_of b) (head_len v)
    ∷ fault_where (nat_lt (log_len v (count_of b)) (length b)) (Trailing (log_len v (count_of b)))
    ∷ []) parts.0 in
    let long = at_least (length b) (head_len v) (Short (length b)) each.0 in
    let h = head_spelled v b bytes long is each.1.0 in
    let enough = at_least (length b) (log_len v n) (Short (length b)) each.1.1.0 in
    let es = entries_spelled v (log_harts b) b (head_len v) n h.harts.0 bytes enough each.1.1.1.0 in
    let over = at_least (log_len v n) (length b) (Trailing (log_len v n)) each.1.1.1.1.0 in
    let harts = settings_harts v b in
    let end : drop (head_len v + n * entry_len v) b ≡ [] = drop_all (head_len v + n * entry_len v) b over in
    let whole : b ≡ head v x (length q) ++ flat_map (entry v) q =
    h.bytes
    ∙ ap (λ y. head v x n ++ y) (es.bytes ∙ ap (λ y. flat_map (entry v) q ++ y) end ∙ append-nil (flat_map (entry v) q))
    ∙ ap (λ k. head v x k ++ flat_map (entry v) q) (sym es.len) in
    let can : CanSpell v x q = record {
      settings = h.settings;
      harts = subst (λ k. k ≤ most_harts v) (sym harts) h.harts.1;
      plain = h.plain;
      few = let f = h.few in let l = es.len in omega arith;
      quanta = subst (λ k. AllByRecursion (IsQuantum k) q) (sym harts) es.quanta;
    } in
    subst (IsLog b v) parts.1 (can, whole)

-- what is read can be written in version 2
pub writable : (b : List ℕ) (v : Version) (s : Settings) (qs : List Quantum) → IsBytes b → version_of b ≡ Some v → meaning_of b ≡ Ok (s, qs) → CanSpell Two s qs
writable b v s qs bytes is meant =
    let can = (log_spelled b v s qs bytes is meant).0 in
    record { settings = can.settings; harts = can.settings.harts.1; plain = tt; few = can.few; quanta = can.quanta }

pub one_log : (b c : List ℕ) (v : Version) (s : Settings) (qs : List Quantum) → IsBytes b → IsBytes c → version_of b ≡ Some v → version_of c ≡ Some v
    → meaning_of b ≡ Ok (s, qs) → meaning_of c ≡ Ok (s, qs) → b ≡ c
one_log b c v s qs bytes_b bytes_c is_b is_c meant_b meant_c =
    (log_spelled b v s qs bytes_b is_b meant_b).1 ∙ sym (log_spelled c v s qs bytes_c is_c meant_c).1
