-- What is found of a program and a configuration is what a session asks for.
use Rattle.std.proofs.Common.{◌≡◌, ℕ, ◌<◌, ◌≤◌, ◌^◌, List, length, map, Ok, sym, ap, ◌∙◌, subst, arith}
use Rattle.std.specs.List.Sorted.{IsStrictlyIncreasing}
use Rattle.code_points.specs.Points.{points_of}
use Rattle.code_points.specs.Procedures.{AreProcsOf}
use Rattle.machine.specs.Cores.{In}
use Rattle.mdl_ast.specs.declared.items.Conf.{Conf}
use Rattle.mdl_check.specs.Checking.{IsAnswer}
use Rattle.mdl_check.specs.Sound.{IsSoundCheck}
use Rattle.mdl_shipped.specs.Shipped.{shipped_conf}
use Rattle.mdl_plan.specs.Fitting.{HasLowObjects}
use Rattle.pn_types.specs.Images.{IsImage}
use Rattle.pn_types.specs.declared.code.Point.{Point}
use Rattle.pn_types.specs.declared.code.Proc.{Proc}
use Rattle.pn_types.specs.declared.image.Image.{Image}
use Rattle.resource_tree.specs.Resources.{Resources}
use Rattle.commands.specs.Found.{AreFound}
use Rattle.commands.specs.Given.{IsUnscratched, CanRun}
use Rattle.commands.specs.declared.finding.Found.{Found}
use Rattle.commands.proofs.Each.{of_all}
use Rattle.commands.proofs.Inside.{inside}
use Rattle.commands.proofs.Numbered.{numbered, windowed}
use Rattle.commands.proofs.Wished.{IsWished, wished}

-- what is known of what was found
pub record IsKnown (image : Image) (conf : Conf) (found : Found) : Type 0 where
  pub procs : AreProcsOf image found.procs
  pub sound : IsSoundCheck found.checked
  pub low : HasLowObjects found.tree
  pub points : length found.points < 2 ^ 32
  pub ascending : IsStrictlyIncreasing (map (λ p. p.at) found.points)
  pub items : length conf.items ≤ 4194304

module _ (image : Image) (harts : ℕ) (conf : Conf) (found : Found) (are : AreFound image harts conf found) where
  tree_harts : found.tree.harts ≡ harts
  tree_harts = ap (λ (t : Resources). t.harts) are.tree

  answer : IsAnswer found.tree shipped_conf.items conf.items (Ok found.checked)
  answer = subst (λ (t : Resources). IsAnswer t shipped_conf.items conf.items (Ok found.checked)) (sym are.tree) are.checked

  points_are : found.points ≡ points_of image found.procs
  points_are = are.points ∙ ap (λ (procs : List Proc). points_of image procs) (sym are.procs)

  pub given : IsImage image → IsUnscratched image → IsKnown image conf found → CanRun image harts found
  given is unscratched known settings range same =
      let few = numbered found.tree conf.items found.checked answer known.items in
      record {
        image = is;
        unscratched = unscratched;
        settings = range;
        harts = tree_harts ∙ sym same;
        objects = known.low;
        checked = known.sound;
        wishes = λ w there.
            let wish = of_all (IsWished found.tree found.checked.metrics) found.checked.wishes w (wished found.tree shipped_conf.items conf.items found.checked answer) there in
            record { metric = wish.metric; harts = omega (arith, wish.harts, tree_harts, same) };
        few_wishes = few.wishes;
        few_metrics = few.metrics;
        few_hypotheses = few.hypotheses;
        few_phases = few.phases;
        window = windowed found.tree shipped_conf.items conf.items found.checked answer;
        procs = known.procs.few;
        points = known.points;
        ascending = known.ascending;
        inside = λ p there. inside image is found.procs known.procs p (subst (λ (points : List Point). In p points) points_are there);
      }
