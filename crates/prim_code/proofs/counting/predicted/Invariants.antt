use Rattle.std.proofs.Common.{◌≡◌, ◌+◌, drop, sum_by}
use Rattle.prim_code.specs.Counts.{site_words, predicted}
use Rattle.prim_code.proofs.counting.predicted.Given as goal

abbrev pub invariant-loop-site : goal.invariant-loop-site
invariant-loop-site l = l.words + sum_by site_words (drop l.site-index l.plan.sites) ≡ predicted l.plan
