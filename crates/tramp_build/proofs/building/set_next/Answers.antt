use Rattle.std.proofs.Common.{◌≡◌, ◌-◌, ◌+◌, ◌*◌, length, List, ap, ◌∙◌, subst}
use Rattle.std.specs.Prelude.{true}
use Rattle.tramp_spec.specs.Jumps.{reaches}
use Rattle.tramp_spec.specs.declared.mark.MarkedWord.{MarkedWord as Word}
use Rattle.tramp_build.proofs.Ends.{set_end, before_end}
use Rattle.tramp_build.proofs.building.set_next.Goals as goal

-- src/building.rt:89:1
pub returns-clause-words : goal.returns-clause-words
returns-clause-words c = λ body last e.
    let l : length c.as_slice.result.now - 1 ≡ length body = ap (λ (ws : List Word). length ws - 1) (c.as_slice.ensures ∙ e) ∙ before_end body last in
    cc (c.set.ensures, l, e, set_end body last c.tool-jump.result, c.tool-jump.ensures, c.jump_word.ensures)

pub returns-clause-shape : goal.returns-clause-shape
returns-clause-shape c = λ before m r.
    let l : length c.args.block.now.words - 1 ≡ length m.body = ap (λ (ws : List Word). length ws - 1) m.is ∙ before_end m.body _ in
    record {
      aligned = m.aligned;
      body = m.body;
      harmless = m.harmless;
      reached = subst (λ n. reaches (c.args.block.now.at + 4 * n) c.args.next ≡ true) l r;
      is = returns-clause-words c m.body _ m.is;
    }
