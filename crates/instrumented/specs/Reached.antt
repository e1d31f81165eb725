-- For proofs alone: acts that lead to a machine with its instruments.
use Rattle.std.specs.Prelude.{◌≡◌, ℕ, List}
use Rattle.pn_types.specs.declared.image.Image.{Image}
use Rattle.pn_types.specs.declared.plan.Plan.{Plan}
use Rattle.machine.specs.Laws.{IsProgram}
use Rattle.instrument.specs.Scenes.{Act, AllCanDo, first_scene, scene_after}
use Rattle.instrumented.specs.Instrumented.{Instrumented, scene_with}

-- Each act could be done when its turn came, and they lead from the start of an image to the machine with its instruments, whose
-- plans are these.
pub record Leads (image : Image) (harts budget limit : ℕ) (acts : List Act) (m : Instrumented) (plans : List Plan) : Type 0 where
  pub can : AllCanDo acts (first_scene image harts budget limit)
  pub scene : scene_after acts (first_scene image harts budget limit) ≡ scene_with plans m

-- some acts lead to it
pub record IsReachedByActs (m : Instrumented) : Type 0 where
  pub image : Image
  pub harts : ℕ
  pub budget : ℕ
  pub limit : ℕ
  pub program : IsProgram image
  pub acts : List Act
  pub plans : List Plan
  pub leads : Leads image harts budget limit acts m plans
