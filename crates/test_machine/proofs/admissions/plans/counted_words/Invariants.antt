use Rattle.std.proofs.Common.{◌≡◌, ◌*◌, sum_by}
use Rattle.machine.specs.Cores.{In}
use Rattle.pn_types.specs.declared.plan.Site.{Site}
use Rattle.prim_code.specs.Counts.{site_words}
use Rattle.prim_code.specs.Named.{AreBelow}
use Rattle.test_machine.proofs.admissions.plans.counted_words.Given as goal

abbrev pub invariant-loop-word : goal.invariant-loop-word
invariant-loop-word l = record {
  named : (s : Site) → In s l.sites.items → AreBelow 1 s.stmts;
  words : sum_by site_words l.sites.items ≡ 5 * l.word;
}
