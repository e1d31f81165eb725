-- An example: while a hart is inside a trampoline no instrument is armed or sampled. The words and blocks are those of the first turns.
use Rattle.std.specs.Prelude.{◌≡◌, [], ◌∷◌, map}
use Rattle.pn_types.specs.declared.image.Image.{Image}
use Rattle.pn_types.specs.declared.placed.Placed.{Placed}
use Rattle.machine.specs.Cores.{Core, start_core}
use Rattle.machine.specs.Events.{Arm, Sample, May}
use Rattle.test_examples.specs.FirstTurns.{first_linking, turns}
use Rattle.machine.specs.Laws.{IsProgram}
use Rattle.test_examples.specs.LoopCounted.{rounds}
use Rattle.machine.specs.Readings.{readings}
use Rattle.machine.specs.Replays.{replay, Legal}
use Rattle.machine.specs.States.{settling}

abbrev pub three_image : Image
three_image =
    record {
      segments = record {
        at = 0x10000;
        bytes = 0x13 ∷ 0x05 ∷ 0x15 ∷ 0 ∷ 0x93 ∷ 0x08 ∷ 0xd0 ∷ 0x05 ∷ 0x73 ∷ 0 ∷ 0 ∷ 0 ∷ [];
        size = 12;
      } ∷ [];
      text_at = 0x10000;
      text_len = 12;
      entry = 0x10000;
      symbols = [];
    }

-- the counter at the first word
abbrev pub first_counter : Placed
first_counter = record { vars = rounds.vars; slots = 2 ∷ []; sites = record { at = 0x10000; mini = 0x11014 } ∷ []; opens = [] }

abbrev pub first_linked : Core
first_linked = replay first_linking (start_core three_image 1 1000)

-- the hart is at the counting word of the mini block
abbrev pub inside : Core
inside = replay (turns 5) first_linked

abbrev pub settled : Core
settled = replay (turns 6) inside

pub record HartInside : Type 0 where
  pub program : IsProgram three_image
  pub links : Legal first_linking (start_core three_image 1 1000)
  pub enters : Legal (turns 5) first_linked
  pub unarmed : May inside (Arm first_counter) → ⊥
  pub unread : May inside (Sample first_counter) → ⊥
  pub settles : settling inside ≡ turns 6
  pub goes_on : Legal (turns 6) inside
  pub ticks : map (λ x. x.ticks) settled.harts ≡ 1 ∷ []
  pub arms : May settled (Arm first_counter)
  pub samples : May settled (Sample first_counter)
  pub reads : readings first_counter (0 ∷ []) settled ≡ 1
