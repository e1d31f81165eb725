-- What a session is given of a program and its configuration, and the fault where it can't open.
use Rattle.std.specs.Prelude.{◌≡◌, ℕ, None, Some}
use Rattle.pn_types.specs.Images.{text_of}
use Rattle.pn_types.specs.Settings.{AreInRange}
use Rattle.pn_types.specs.declared.image.Image.{Image}
use Rattle.pn_types.specs.declared.settings.Settings.{Settings}
use Rattle.refusals.specs.declared.fault.Fault.{Fault}
use Rattle.refusals.specs.declared.fault.Fault.TheVariants.{BadPick}
use Rattle.resource_tree.specs.Foci.{canonical}
use Rattle.rv_word.specs.Names.{scratch_in, words_of}
use Rattle.session.specs.Given.{AreGiven}
use Rattle.session.specs.Parts.{metric_of, name_of}
use Rattle.session_spec.specs.Inputs.{Inputs}
use Rattle.session_spec.specs.Opening.{bad_pick}
use Rattle.session_spec.specs.declared.data.RefusedWish.{RefusedWish}
use Rattle.commands.specs.declared.finding.Found.{Found}

-- no word of the text names x31
abbrev pub IsUnscratched : Image → Type 0
IsUnscratched image = scratch_in (words_of (text_of image)) image.text_at ≡ None

-- the fault of a wish at tick 0 that is refused
abbrev pub pick_fault : Inputs → RefusedWish → Fault
pick_fault i wish = BadPick (name_of (metric_of i wish.metric)) (canonical i.tree wish.focus) wish.cause

-- the fault of the first such wish
abbrev pub IsPickFault : Inputs → Fault → Type 0
IsPickFault i fault = (wish : RefusedWish) × (bad_pick i ≡ Some wish) × (fault ≡ pick_fault i wish)

-- an image, what was found of it and its configuration, and settings
abbrev pub inputs_with : Image → Found → Settings → Inputs
inputs_with image found settings =
    record { image = image; checked = found.checked; tree = found.tree; procs = found.procs; points = found.points; settings = settings }

-- a session takes what was found, with any settings of this number of harts
abbrev pub CanRun : Image → ℕ → Found → Type 0
CanRun image harts found =
    (settings : Settings) → AreInRange settings → settings.harts ≡ harts → AreGiven (inputs_with image found settings)
