-- Laws of the definitions, for the law functions of this crate.
use Rattle.std.specs.Prelude.{◌≡◌, ℕ, ◌^◌, ◌<◌, None, List}
use Rattle.std.specs.List.{AllByRecursion}
use Rattle.pn_types.specs.Images.{IsImage, text_of}
use Rattle.pn_types.specs.declared.image.Image.{Image}
use Rattle.rv_word.specs.Names.{words_of, scratch_in}
use Rattle.rv_exec.specs.Run.{run, IsLegal}
use Rattle.machine.specs.Cores.{Core, start_core}
use Rattle.machine.specs.Events.{Event}
use Rattle.machine.specs.Replays.{replay, Legal, owns, GoOn}
use Rattle.machine.specs.Same.{SameProgram}

-- lists of events may be parted anywhere
abbrev pub ReplaysGoOn : Type 0
ReplaysGoOn = (es others : List Event) (c : Core) → GoOn es others c

-- ---- erasure

-- an image whose text is of words of 32 bits, and never names x31, which is the tool's
pub record IsProgram (i : Image) : Type 0 where
  pub image : IsImage i
  pub narrow : AllByRecursion (λ w. w < 2 ^ 32) (words_of (text_of i))
  pub unscratched : scratch_in (words_of (text_of i)) i.text_at ≡ None

-- The ticks of these events are a run of the unpatched program, and the patched machine is that program's state after it.
pub record Erases (image : Image) (n budget : ℕ) (es : List Event) : Type 0 where
  pub legal : IsLegal image n budget (owns es (start_core image n budget))
  pub same : SameProgram (replay es (start_core image n budget)) (run image n (owns es (start_core image n budget)))

-- This holds of every list of events each of which may happen when it comes.
abbrev pub Erasure : Type 0
Erasure =
    (image : Image) (n budget : ℕ) (es : List Event) → IsProgram image → Legal es (start_core image n budget) → Erases image n budget es
