-- What was recorded in a session, and what its report shows of that.
use Rattle.std.proofs.Common.{◌≡◌, ◌≤◌, sym, subst}
use Rattle.std.specs.Prelude.{Bool, List, true, false}
use Rattle.pn_types.specs.declared.quantum.Quantum.{Quantum}
use Rattle.mdl_check.specs.declared.checked.CheckedWish.{CheckedWish}
use Rattle.machine.specs.Laws.{IsProgram}
use Rattle.session_spec.specs.Inputs.{Inputs}
use Rattle.session_spec.specs.Bins.{AreRecorded}
use Rattle.session_spec.specs.Feed.{IsFeed}
use Rattle.session_spec.specs.Printed.{AreForOpening, AreWholeRuns}
use Rattle.session_spec.specs.LastReadings.{AreReadNext}
use Rattle.session_spec.proofs.Feeding.{feed_told}
use Rattle.session_spec.proofs.Keeping.{bins_told}
use Rattle.session_spec.proofs.Printing.{printed_told}
use Rattle.session_spec.proofs.Reading.{samples_read}
use Rattle.session.specs.Bins.{AreParts, AreWholeParts}
use Rattle.session.specs.Kept.{IsTableAfter}
use Rattle.session.specs.Sessions.{state_at}
use Rattle.session.specs.Tables.{StateTable}
use Rattle.session.proofs.Ends.{at_the_end, before_it, of_both}
use Rattle.session.proofs.PartBins.{parts_told}

module _ (i : Inputs) (quanta : List Quantum) (over : Bool) where
  pub all_fed : IsFeed (state_at i quanta over)
  all_fed = of_both i quanta over IsFeed (feed_told.closes i quanta) (feed_told.works i quanta)

module _ (i : Inputs) (quanta : List Quantum) (over : Bool) (later : List CheckedWish) (t : StateTable) (k : IsTableAfter i quanta over later t) where
  wide : 1 ≤ i.settings.width
  wide = k.given.settings.width.0

  program : IsProgram i.image
  program = k.state.sound.tied.program

  pub all_recorded : AreRecorded i (state_at i quanta over)
  all_recorded = of_both i quanta over (AreRecorded i) (bins_told.closes i quanta wide) (bins_told.works i quanta wide)

  pub all_parts : AreParts i (state_at i quanta over)
  all_parts = of_both i quanta over (AreParts i) (parts_told.closes i quanta wide) (parts_told.works i quanta wide)

  pub all_read : over ≡ false → AreReadNext i quanta (state_at i quanta over)
  all_read e = subst (AreReadNext i quanta) (sym (before_it i quanta over e)) (samples_read i quanta program k.good k.given.settings.budget.1)

  pub all_whole : over ≡ true → AreForOpening i → AreWholeRuns i (state_at i quanta over)
  all_whole e first = subst (AreWholeRuns i) (sym (at_the_end i quanta over e)) (printed_told i quanta wide program k.good first)

  pub whole_parts : over ≡ true → AreForOpening i → AreWholeParts i (state_at i quanta over)
  whole_parts e first = subst (AreWholeParts i) (sym (at_the_end i quanta over e)) (parts_told.whole i quanta wide program k.good first)
