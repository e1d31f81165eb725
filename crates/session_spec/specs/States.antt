-- The state of a session.
use Rattle.std.specs.Prelude.{ℕ, Bool, false, List, []}
use Rattle.fold_hist.specs.declared.bin.Bin.{Bin}
use Rattle.mdl_check.specs.declared.checked.CheckedWish.{CheckedWish}
use Rattle.w3_search.specs.Steps.{SearchData, new_search}
use Rattle.instrumented.specs.Instrumented.{Instrumented, first_instrumented}
use Rattle.session_spec.specs.declared.data.LatestSample.{LatestSample}
use Rattle.session_spec.specs.declared.data.RefusedWish.{RefusedWish}
use Rattle.session_spec.specs.declared.data.MetricFocusPair.{MetricFocusPair}
use Rattle.session_spec.specs.Inputs.{Inputs, later_wishes}
use Rattle.session_spec.specs.Searches.{rules_of}

-- What a session goes on from: the machine with its instruments, the wishes whose ticks are to come, those that were refused, all
-- instruments that show or showed something in the order of their admission, the search, the time, the time at which work is due
-- next, whether work was done since the last admission, how many samples were taken, when the last one was taken, how many turns
-- since then weren't ticks, and what the patches cost in the interval that it ended.
pub record SessionState : Type 0 where
  pub machine : Instrumented
  pub wishes : List CheckedWish
  pub refused : List RefusedWish
  pub shown : List MetricFocusPair
  pub search : SearchData
  pub time : ℕ
  pub due : ℕ
  pub worked : Bool
  pub samples : ℕ
  pub last : ℕ
  pub idle : ℕ
  pub observed : ℕ

-- With it the harts of all ticks, in order, which are the program's own run; the samples of each shown instrument; those that were
-- taken together last; and all of them, in the order in which they were taken.
pub record State : Type 0 where
  pub kept : SessionState
  pub owns : List ℕ
  pub recorded : List (List Bin)
  pub latest : List LatestSample
  pub feed : List LatestSample

-- ---- the start, before any wish is looked at

abbrev pub first_kept : Inputs → SessionState
first_kept i = record {
  machine = first_instrumented i.image i.settings.harts i.settings.budget i.settings.instruments;
  wishes = later_wishes i;
  refused = [];
  shown = [];
  search = new_search (rules_of i);
  time = 0;
  due = i.settings.width;
  worked = false;
  samples = 0;
  last = 0;
  idle = 0;
  observed = 0;
}
