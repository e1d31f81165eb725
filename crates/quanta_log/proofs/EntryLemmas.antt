-- Reading entries one after the other.
use Rattle.std.proofs.Common.{◌≡◌, ℕ, suc, ◌+◌, ◌-◌, ◌*◌, ◌<◌, ◌≤◌, List, [], ◌∷◌, ◌++◌, Option, Some, None, refl, sym, ap, ◌∙◌, append_assoc, arith}
use Rattle.std.proofs.lemmas.List.{append-nil}
use Rattle.quanta_log.specs.declared.version.Version.{Version}
use Rattle.quanta_log.specs.declared.version.Version.TheVariants.{One, Two}
use Rattle.pn_types.specs.declared.quantum.Quantum.{Quantum}
use Rattle.quanta_log.specs.declared.fault.LogFault.{LogFault}
use Rattle.quanta_log.specs.Fields.{entry_len}
use Rattle.quanta_log.specs.Meaning.{first_fault, quantum_at, quanta_at, entry_fault, entries_fault}

alone : (x : Option LogFault) → first_fault (x ∷ []) ≡ x
alone None = refl
alone (Some f) = refl

-- ---- places

-- an entry before the last ends within the entries
pub entry_within : (v : Version) (count i front at n : ℕ) → i < count → at ≡ front + i * entry_len v → front + count * entry_len v ≤ n → at + entry_len v ≤ n
entry_within One count i front at n lt is whole = omega arith
entry_within Two count i front at n lt is whole = omega arith

-- ---- faults

pub fault_later : (v : Version) (harts : ℕ) (b : List ℕ) (count i at : ℕ) (total : Option LogFault) → i < count → entry_fault v harts b at ≡ None
    → entries_fault v harts b (count - i) at ≡ total → entries_fault v harts b (count - (i + 1)) (at + entry_len v) ≡ total
fault_later v harts b count i at total lt none so_far =
    let k : count - i ≡ suc (count - (i + 1)) = omega arith in
    let rest = entries_fault v harts b (count - (i + 1)) (at + entry_len v) in
    let same : entries_fault v harts b (count - i) at ≡ rest = ap (λ n. entries_fault v harts b n at) k ∙ ap (λ f. first_fault (f ∷ rest ∷ [])) none ∙ alone rest in
    sym same ∙ so_far

pub fault_here : (v : Version) (harts : ℕ) (b : List ℕ) (count i at : ℕ) (total : Option LogFault) (f : LogFault) → i < count → entry_fault v harts b at ≡ Some f
    → entries_fault v harts b (count - i) at ≡ total → total ≡ Some f
fault_here v harts b count i at total f lt here so_far =
    let k : count - i ≡ suc (count - (i + 1)) = omega arith in
    let rest = entries_fault v harts b (count - (i + 1)) (at + entry_len v) in
    sym so_far ∙ ap (λ n. entries_fault v harts b n at) k ∙ ap (λ g. first_fault (g ∷ rest ∷ [])) here

pub no_fault : (v : Version) (harts : ℕ) (b : List ℕ) (count i at : ℕ) (total : Option LogFault) → count ≤ i → entries_fault v harts b (count - i) at ≡ total → total ≡ None
no_fault v harts b count i at total le so_far =
    let k : count - i ≡ 0 = omega arith in
    sym so_far ∙ ap (λ n. entries_fault v harts b n at) k

-- ---- quanta

pub quantum_more : (v : Version) (b : List ℕ) (count i at : ℕ) (front total : List Quantum) → i < count → front ++ quanta_at v b (count - i) at ≡ total
    → (front ++ quantum_at v b at ∷ []) ++ quanta_at v b (count - (i + 1)) (at + entry_len v) ≡ total
quantum_more v b count i at front total lt so_far =
    let k : count - i ≡ suc (count - (i + 1)) = omega arith in
    append_assoc front (quantum_at v b at ∷ []) (quanta_at v b (count - (i + 1)) (at + entry_len v))
    ∙ sym (ap (λ n. front ++ quanta_at v b n at) k)
    ∙ so_far

pub quanta_all : (v : Version) (b : List ℕ) (count i at : ℕ) (front total : List Quantum) → count ≤ i → front ++ quanta_at v b (count - i) at ≡ total → front ≡ total
quanta_all v b count i at front total le so_far =
    let k : count - i ≡ 0 = omega arith in
    sym (append-nil front) ∙ sym (ap (λ n. front ++ quanta_at v b n at) k) ∙ so_far
