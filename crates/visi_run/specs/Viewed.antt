-- What is left of a run that was viewed.
use Rattle.std.specs.Prelude.{◌≡◌, ℕ, ◌<◌, List, length, replicate}
use Rattle.machine.specs.Cores.{In}
use Rattle.pn_types.specs.declared.quantum.Quantum.{Quantum}
use Rattle.report.specs.declared.parts.ShownPart.{ShownPart}
use Rattle.session_spec.specs.declared.data.LatestSample.{LatestSample}
use Rattle.session_spec.specs.Inputs.{Inputs}
use Rattle.session_spec.specs.Work.{final_state, after_quanta}
use Rattle.session.specs.Parts.{parts_of}
use Rattle.whole_run.specs.Seeded.{IsSeeded}
use Rattle.visi_run.specs.Feed.{feed_of}
use Rattle.visi_run.specs.Texts.{visi_text}
use Rattle.visi_run.specs.declared.run.ViewedCourse.{ViewedCourse}

-- what the report of these quanta shows
abbrev pub shown_of : Inputs → List Quantum → List ShownPart
shown_of i quanta = (parts_of i (final_state i (after_quanta i quanta))).shown

-- The text of the whole list of quanta in the order of a seed: each view was given the feed, and each sample of it has its line,
-- since its pair is shown.
pub record IsViewed (i : Inputs) (c : ViewedCourse) (bytes : List ℕ) : Type 0 where
  pub quanta : List Quantum
  pub seeded : IsSeeded i c.seed c.turns quanta
  pub lines : (l : LatestSample) → In l (feed_of i quanta) → l.shown < length (shown_of i quanta)
  pub text : bytes ≡ visi_text (shown_of i quanta) (replicate c.views (feed_of i quanta))
