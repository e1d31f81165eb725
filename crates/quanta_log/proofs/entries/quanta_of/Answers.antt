use Rattle.std.proofs.Common.{◌≡◌, ◌+◌, ◌-◌, ◌*◌, ◌++◌, ◌≤◌, ◌∷◌, [], length, None, ap, subst, sym, ◌∙◌, arith, rules}
use Rattle.quanta_log.specs.Fields.{head_len, entry_len}
use Rattle.quanta_log.specs.Meaning.{log_harts, quantum_at, quanta_at, entry_fault, entries_fault}
use Rattle.quanta_log.proofs.EntryBytes.{entry_spelled, wider}
use Rattle.quanta_log.proofs.EntryLemmas.{entry_within, fault_here, fault_later, quantum_more}
use Rattle.quanta_log.proofs.entries.quanta_of.Goals as goal

pub returns-in-Some : goal.returns-in-Some
returns-in-Some c =
    let v = c.args.version in
    let b = c.args.bytes.now in
    let harts = c.word-harts.result in
    let count = c.doubleword-count.result in
    let total = entries_fault v harts b count (head_len v) in
    sym (ap (λ n. entries_fault v (log_harts b) b n (head_len v)) c.doubleword-count.ensures)
    ∙ sym (ap (λ h. entries_fault v h b count (head_len v)) c.word-harts.ensures)
    ∙ fault_here v harts b count c.loop.counter c.loop.at total c.in-Some.fault c.loop-test.true (sym c.in-Some.ensures) c.loop.invariant.fault

pub quantum_at-requires-clause-right : goal.quantum_at-requires-clause-right
quantum_at-requires-clause-right c =
    let v = c.args.version in
    let b = c.args.bytes.now in
    let harts = c.word-harts.result in
    let none : entry_fault v harts b c.loop.at ≡ None = search rules in
    wider harts (quantum_at v b c.loop.at) (subst (λ h. h ≤ 32) (sym c.word-harts.ensures) c.requires.harts.1)
    (entry_spelled v harts b c.loop.at (subst (λ h. 1 ≤ h) (sym c.word-harts.ensures) c.requires.harts.0) (λ i. omega (arith, c.type_inv.bytes i)) (entry_within v c.doubleword-count.result c.loop.counter (head_len v) c.loop.at (length b) c.loop-test.true c.loop.invariant.place
    (subst (λ n. head_len v + n * entry_len v ≤ length b) (sym c.doubleword-count.ensures) c.requires.whole)) none).1

pub loop-preserved : goal.loop-preserved
loop-preserved c =
    let v = c.args.version in
    let b = c.args.bytes.now in
    let harts = c.word-harts.result in
    let count = c.doubleword-count.result in
    let none : entry_fault v harts b c.loop.at ≡ None = search rules in
    let left = count - (c.loop.counter + 1) in
    let total = quanta_at v b count (head_len v) in
    let pushed : c.push.new.self.items ≡ c.loop.quanta.items ++ quantum_at v b c.loop.at ∷ [] = c.in_ok-push.ensures.items ∙ ap (λ q. c.loop.quanta.items ++ q ∷ []) c.quantum_at.ensures in
    record {
      place = omega (arith, c.entry_len-at.ensures, c.loop.invariant.place);
      fault = ap (λ e. entries_fault v harts b left (c.loop.at + e)) c.entry_len-at.ensures
          ∙ fault_later v harts b count c.loop.counter c.loop.at (entries_fault v harts b count (head_len v)) c.loop-test.true none c.loop.invariant.fault;
      quanta = ap (λ e. c.push.new.self.items ++ quanta_at v b left (c.loop.at + e)) c.entry_len-at.ensures
          ∙ ap (λ qs. qs ++ quanta_at v b left (c.loop.at + entry_len v)) pushed
          ∙ quantum_more v b count c.loop.counter c.loop.at c.loop.quanta.items total c.loop-test.true c.loop.invariant.quanta;
    }
