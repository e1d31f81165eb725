-- The bytes of an entry, and the entry that bytes are.
use Rattle.std.proofs.Common.{◌≡◌, ℕ, zero, suc, ◌+◌, ◌*◌, ◌≤◌, List, [], ◌∷◌, ◌++◌, length, drop, None, refl, sym, ap, ◌∙◌, append_assoc, arith}
use Rattle.std.proofs.lemmas.List.{drop-drop}
use Rattle.std.proofs.lemmas.List.Concat.{flat_map-cons}
use Rattle.std.specs.List.{flat_map, AllByRecursion}
use Rattle.byteorder.specs.Endian.{little_bytes}
use Rattle.byteorder.specs.Numbers.{little_number-reads_back}
use Rattle.pn_types.specs.declared.limits.TheConstants.{MAX_HARTS}
use Rattle.pn_types.specs.declared.settings.Settings.{Settings}
use Rattle.quanta_log.specs.declared.version.Version.{Version}
use Rattle.quanta_log.specs.declared.version.Version.TheVariants.{One, Two}
use Rattle.pn_types.specs.declared.quantum.Quantum.{Quantum}
use Rattle.quanta_log.specs.Fields.{entry_len, entry_fields, number}
use Rattle.quanta_log.specs.Meaning.{quantum_at, quanta_at, entry_fault, entries_fault}
use Rattle.quanta_log.specs.Spelling.{entry, IsQuantum, CanSpell}
use Rattle.outside.specs.Outside.{IsBytes}
use Rattle.quanta_log.proofs.CheckLemmas.{each_none, none_at_all, all_lie, no_faults}
use Rattle.quanta_log.proofs.NumberLemmas.{number-drop, number-front, number_step}

-- ---- from a quantum

-- what an entry's numbers are
pub record ReadsEntry (v : Version) (b : List ℕ) (at : ℕ) (q : Quantum) (rest : List ℕ) : Type 0 where
  pub quantum : quantum_at v b at ≡ q
  pub behind : drop (at + entry_len v) b ≡ rest

-- an entry without a fault
pub record IsGood (v : Version) (harts : ℕ) (b : List ℕ) (at : ℕ) (q : Quantum) (rest : List ℕ) : Type 0 where
  pub reads : ReadsEntry v b at q rest
  pub fine : entry_fault v harts b at ≡ None

abbrev made : ℕ → ℕ → ℕ → ℕ → Quantum
made w h t o = record { worker = w; hart = h; turns = t; owns = o }

quantum_is : (w h t o w' h' t' o' : ℕ) → w ≡ w' → h ≡ h' → t ≡ t' → o ≡ o' → made w h t o ≡ made w' h' t' o'
quantum_is w h t o w' h' t' o' a b c d = cc

pub entry_again : (v : Version) (harts : ℕ) (b : List ℕ) (at : ℕ) (q : Quantum) (rest : List ℕ) → harts ≤ 32 → IsQuantum harts q → drop at b ≡ entry v q ++ rest → IsGood v harts b at q rest
unfolding entry number entry_fault
entry_again One harts b at q rest few is e =
    let worker : number 4 b at ≡ q.worker = number-front 4 b at ∙ ap (λ x. number 4 x 0) e ∙ little_number-reads_back 4 q.worker (little_bytes 4 q.hart ++ (little_bytes 4 q.turns ++ (little_bytes 4 q.owns ++ rest))) (let h = is.worker in omega arith) in
    let hart : number 4 b (at + 4) ≡ q.hart = number-drop 4 b at 4 ∙ ap (λ x. number 4 x 4) e ∙ little_number-reads_back 4 q.hart (little_bytes 4 q.turns ++ (little_bytes 4 q.owns ++ rest)) (let h = is.hart in omega arith) in
    let turns : number 4 b (at + 8) ≡ q.turns = number-drop 4 b at 8 ∙ ap (λ x. number 4 x 8) e ∙ little_number-reads_back 4 q.turns (little_bytes 4 q.owns ++ rest) (let h = is.turns in omega arith) in
    let owns : number 4 b (at + 12) ≡ q.owns = number-drop 4 b at 12 ∙ ap (λ x. number 4 x 12) e ∙ little_number-reads_back 4 q.owns rest (let h = is.owns in omega arith) in
    let w = is.worker in
    let h = is.hart in
    let t = is.turns in
    let o = is.owns in
    record {
      reads = record {
        quantum = quantum_is _ _ _ _ _ _ _ _ worker hart turns owns;
        behind = sym (drop-drop 16 at b) ∙ ap (drop 16) e;
      };
      fine = no_faults b (entry_fields One harts at) ((omega arith, omega arith), ((omega arith, omega arith), ((omega arith, omega arith), ((omega arith, omega arith), tt))));
    }
entry_again Two harts b at q rest few is e =
    let w = is.worker in
    let h = is.hart in
    let t = is.turns in
    let o = is.owns in
    let worker : number 1 b at ≡ q.worker = number-front 1 b at ∙ ap (λ x. number 1 x 0) e ∙ little_number-reads_back 1 q.worker (little_bytes 1 q.hart ++ (little_bytes 2 q.turns ++ (little_bytes 2 q.owns ++ (little_bytes 2 0 ++ rest)))) (omega arith) in
    let hart : number 1 b (at + 1) ≡ q.hart = number-drop 1 b at 1 ∙ ap (λ x. number 1 x 1) e ∙ little_number-reads_back 1 q.hart (little_bytes 2 q.turns ++ (little_bytes 2 q.owns ++ (little_bytes 2 0 ++ rest))) (omega arith) in
    let turns : number 2 b (at + 2) ≡ q.turns = number-drop 2 b at 2 ∙ ap (λ x. number 2 x 2) e ∙ little_number-reads_back 2 q.turns (little_bytes 2 q.owns ++ (little_bytes 2 0 ++ rest)) (omega arith) in
    let owns : number 2 b (at + 4) ≡ q.owns = number-drop 2 b at 4 ∙ ap (λ x. number 2 x 4) e ∙ little_number-reads_back 2 q.owns (little_bytes 2 0 ++ rest) (omega arith) in
    let nothing : number 2 b (at + 6) ≡ 0 = number-drop 2 b at 6 ∙ ap (λ x. number 2 x 6) e ∙ little_number-reads_back 2 0 rest (omega arith) in
    record {
      reads = record {
        quantum = quantum_is _ _ _ _ _ _ _ _ worker hart turns owns;
        behind = sym (drop-drop 8 at b) ∙ ap (drop 8) e;
      };
      fine = no_faults b (entry_fields Two harts at)
          ((omega arith, omega arith), ((omega arith, omega arith), ((omega arith, omega arith), ((omega arith, omega arith), ((omega arith, omega arith), tt)))));
    }

-- entries without a fault
pub record AreGood (v : Version) (harts : ℕ) (b : List ℕ) (at : ℕ) (qs : List Quantum) : Type 0 where
  pub quanta : quanta_at v b (length qs) at ≡ qs
  pub fine : entries_fault v harts b (length qs) at ≡ None

pub entries_again : (v : Version) (harts : ℕ) (b : List ℕ) (at : ℕ) (qs : List Quantum) → harts ≤ 32 → AllByRecursion (IsQuantum harts) qs → drop at b ≡ flat_map (entry v) qs → AreGood v harts b at qs
entries_again v harts b at [] few all e = record { quanta = refl; fine = refl }
entries_again v harts b at (q ∷ qs) few all e =
    let first = entry_again v harts b at q (flat_map (entry v) qs) few all.0 (e ∙ flat_map-cons (entry v) q qs) in
    let others = entries_again v harts b (at + entry_len v) qs few all.1 first.reads.behind in
    let quantum = first.reads.quantum in
    let quanta = others.quanta in
    record {
      quanta = cc;
      fine = none_at_all (entry_fault v harts b at ∷ entries_fault v harts b (length qs) (at + entry_len v) ∷ []) (first.fine, (others.fine, tt));
    }

-- ---- from bytes

pub entry_spelled : (v : Version) (harts : ℕ) (b : List ℕ) (at : ℕ) → 1 ≤ harts → IsBytes b → at + entry_len v ≤ length b → entry_fault v harts b at ≡ None
    → (drop at b ≡ entry v (quantum_at v b at) ++ drop (at + entry_len v) b) × IsQuantum harts (quantum_at v b at)
unfolding entry entry_fault
entry_spelled One harts b at some bytes l e =
    let all = all_lie b (entry_fields One harts at) e in
    let spelled : drop at b ≡ little_bytes 4 (number 4 b at) ++ (little_bytes 4 (number 4 b (at + 4)) ++ (little_bytes 4 (number 4 b (at + 8)) ++ (little_bytes 4 (number 4 b (at + 12)) ++ drop (at + 16) b))) =
    number_step 4 b at (at + 4) bytes (omega arith) (omega arith)
    ∙ ap (λ x. little_bytes 4 (number 4 b at) ++ x) (number_step 4 b (at + 4) (at + 8) bytes (omega arith) (omega arith)
    ∙ ap (λ x. little_bytes 4 (number 4 b (at + 4)) ++ x) (number_step 4 b (at + 8) (at + 12) bytes (omega arith) (omega arith)
    ∙ ap (λ x. little_bytes 4 (number 4 b (at + 8)) ++ x) (number_step 4 b (at + 12) (at + 16) bytes (omega arith) (omega arith)))) in
    let w = all.0 in
    let h = all.1.0 in
    let t = all.1.1.0 in
    let o = all.1.1.1.0 in
    (spelled, record { worker = omega arith; hart = omega arith; turns = t; owns = o.1 })
entry_spelled Two harts b at some bytes l e =
    let all = all_lie b (entry_fields Two harts at) e in
    let w = all.0 in
    let h = all.1.0 in
    let t = all.1.1.0 in
    let o = all.1.1.1.0 in
    let z = all.1.1.1.1.0 in
    let nothing : number 2 b (at + 6) ≡ 0 = omega arith in
    let spelled : drop at b ≡ little_bytes 1 (number 1 b at) ++ (little_bytes 1 (number 1 b (at + 1)) ++ (little_bytes 2 (number 2 b (at + 2)) ++ (little_bytes 2 (number 2 b (at + 4)) ++ (little_bytes 2 (number 2 b (at + 6)) ++ drop (at + 8) b)))) =
    number_step 1 b at (at + 1) bytes (omega arith) (omega arith)
    ∙ ap (λ x. little_bytes 1 (number 1 b at) ++ x) (number_step 1 b (at + 1) (at + 2) bytes (omega arith) (omega arith)
    ∙ ap (λ x. little_bytes 1 (number 1 b (at + 1)) ++ x) (number_step 2 b (at + 2) (at + 4) bytes (omega arith) (omega arith)
    ∙ ap (λ x. little_bytes 2 (number 2 b (at + 2)) ++ x) (number_step 2 b (at + 4) (at + 6) bytes (omega arith) (omega arith)
    ∙ ap (λ x. little_bytes 2 (number 2 b (at + 4)) ++ x) (number_step 2 b (at + 6) (at + 8) bytes (omega arith) (omega arith))))) in (
      spelled ∙ ap (λ n. little_bytes 1 (number 1 b at) ++ (little_bytes 1 (number 1 b (at + 1)) ++ (little_bytes 2 (number 2 b (at + 2)) ++ (little_bytes 2 (number 2 b (at + 4)) ++ (little_bytes 2 n ++ drop (at + 8) b))))) nothing,
      record { worker = omega arith; hart = omega arith; turns = t; owns = o.1 },
    )

-- entries that are spelled so
pub record AreSpelled (v : Version) (harts : ℕ) (b : List ℕ) (at n : ℕ) : Type 0 where
  pub bytes : drop at b ≡ flat_map (entry v) (quanta_at v b n at) ++ drop (at + n * entry_len v) b
  pub quanta : AllByRecursion (IsQuantum harts) (quanta_at v b n at)
  pub len : length (quanta_at v b n at) ≡ n

pub entries_spelled : (v : Version) (harts : ℕ) (b : List ℕ) (at n : ℕ) → 1 ≤ harts → IsBytes b → at + n * entry_len v ≤ length b → entries_fault v harts b n at ≡ None → AreSpelled v harts b at n
entries_spelled v harts b at zero some bytes l e =
    let here : at ≡ at + 0 * entry_len v = omega arith in
    record { bytes = ap (λ k. drop k b) here; quanta = tt; len = refl }
entries_spelled v harts b at (suc n) some bytes l e =
    let each = each_none (entry_fault v harts b at ∷ entries_fault v harts b n (at + entry_len v) ∷ []) e in
    let more : suc n * entry_len v ≡ entry_len v + n * entry_len v = omega arith in
    let within : at + entry_len v ≤ length b = omega (arith, more) in
    let first = entry_spelled v harts b at some bytes within each.0 in
    let others = entries_spelled v harts b (at + entry_len v) n some bytes (omega (arith, more)) each.1.0 in
    let next : at + entry_len v + n * entry_len v ≡ at + suc n * entry_len v = omega (arith, more) in
    let q = quantum_at v b at in
    let qs = quanta_at v b n (at + entry_len v) in
    record {
      bytes = first.0
          ∙ ap (λ x. entry v q ++ x) (others.bytes ∙ ap (λ k. flat_map (entry v) qs ++ drop k b) next)
          ∙ sym (append_assoc (entry v q) (flat_map (entry v) qs) (drop (at + suc n * entry_len v) b))
          ∙ ap (λ x. x ++ drop (at + suc n * entry_len v) b) (sym (flat_map-cons (entry v) q qs));
      quanta = (first.1, others.quanta);
      len = ap suc others.len;
    }

-- ---- harts

pub wider : (harts : ℕ) (q : Quantum) → harts ≤ 32 → IsQuantum harts q → IsQuantum 32 q
wider harts q few is = let h = is.hart in record { worker = is.worker; hart = omega arith; turns = is.turns; owns = is.owns }

all_wider : (harts : ℕ) (qs : List Quantum) → harts ≤ 32 → AllByRecursion (IsQuantum harts) qs → AllByRecursion (IsQuantum 32) qs
all_wider harts [] few all = tt
all_wider harts (q ∷ qs) few all = (wider harts q few all.0, all_wider harts qs few all.1)

-- the quanta of a log are of at most as many harts as there can be
pub of_most_harts : (v : Version) (s : Settings) (qs : List Quantum) → CanSpell v s qs → AllByRecursion (IsQuantum MAX_HARTS) qs
of_most_harts v s qs can = all_wider s.harts qs can.settings.harts.1 can.quanta
