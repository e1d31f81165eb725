use Rattle.std.proofs.Common.{◌≡◌, ◌≤◌, None, sym, subst, arith, rules}
use Rattle.quanta_log.specs.Meaning.{head_fault, log_fault, meaning_of}
use Rattle.quanta_log.proofs.HeadBytes.{few_entries, few_harts, some_harts}
use Rattle.quanta_log.proofs.LogBytes.{writable}
use Rattle.pn_types.specs.declared.limits.TheConstants.{MAX_QUANTA}
use Rattle.quanta_log.proofs.reading.read.Goals as goal

pub log_len-end-requires : goal.log_len-end-requires
log_len-end-requires c =
    let fine : head_fault c.in-Some.version c.args.bytes.now ≡ None = search rules in
    subst (λ n. n ≤ MAX_QUANTA) (sym c.doubleword.ensures) (few_entries c.in-Some.version c.args.bytes.now fine)

pub quanta_of-requires-clause-harts : goal.quanta_of-requires-clause-harts
quanta_of-requires-clause-harts c =
    let fine : head_fault c.in-Some.version c.args.bytes.now ≡ None = search rules in
    (some_harts c.in-Some.version c.args.bytes.now fine, few_harts c.in-Some.version c.args.bytes.now fine)

pub returns-clause-meaning : goal.returns-clause-meaning
unfolding meaning_of log_fault
returns-clause-meaning c = search rules

pub returns-clause-writable : goal.returns-clause-writable
returns-clause-writable c =
    writable c.args.bytes.now c.in-Some.version c.settings_of.result c.in_ok-quanta.quanta.items (λ i. omega (arith, c.type_inv.bytes i)) (sym c.in-Some.ensures) (returns-clause-meaning c)
