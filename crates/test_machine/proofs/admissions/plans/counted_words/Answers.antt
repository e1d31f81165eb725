use Rattle.std.proofs.Common.{◌≡◌, ◌∙◌, ◌++◌, ◌∷◌, [], arith, ap, sum_by, subst, sym, ⊎_elim}
use Rattle.std.proofs.lemmas.List.Sums.{sum_by_push}
use Rattle.machine.specs.Cores.{In}
use Rattle.prim_code.specs.Counts.{site_words}
use Rattle.prim_code.specs.Named.{AreBelow}
use Rattle.instrument.proofs.Folds.{in_append}
use Rattle.test_machine.proofs.admissions.plans.counted_words.Goals as goal

-- src/admissions/plans.rt:66:5
pub loop-word-preserved : goal.loop-word-preserved
loop-word-preserved c =
    let sites = c.loop-word.sites.items in
    let site = c.in_ok-counting_site.field-0 in
    let pushed : c.push-in-loop-word.new.self.items ≡ sites ++ site ∷ [] = c.in_ok-push-2.ensures.items in
    record {
      named = λ s i. ⊎_elim (λ old. c.loop-word.invariant.named s old)
          (λ new. ⊎_elim (λ e. subst (λ z. AreBelow 1 z.stmts) (sym e) c.in_ok-counting_site.ensures.named) (λ none. absurd none) new)
          (in_append sites (site ∷ []) s (subst (λ z. In s z) pushed i));
      words = ap (sum_by site_words) pushed ∙ sum_by_push site_words sites site ∙ omega (arith, c.loop-word.invariant.words, c.in_ok-counting_site.ensures.words);
    }
