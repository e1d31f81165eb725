-- Each sample that a view is given has a line.
use Rattle.std.proofs.Common.{◌≡◌, ℕ, ◌+◌, ◌<◌, ◌++◌, List, [], ◌∷◌, Option, Some, None, length, arith}
use Rattle.std.specs.Prelude.{cond, is_none}
use Rattle.fold_hist.specs.Bins.{hist_of}
use Rattle.fold_hist.specs.declared.bin.Bin.{Bin}
use Rattle.machine.specs.Cores.{In}
use Rattle.pn_types.specs.declared.quantum.Quantum.{Quantum}
use Rattle.report.specs.declared.parts.ShownPart.{ShownPart}
use Rattle.session_spec.specs.Due.{place_behind}
use Rattle.session_spec.specs.Inputs.{Inputs}
use Rattle.session_spec.specs.Work.{final_state, after_quanta}
use Rattle.session_spec.specs.declared.data.LatestSample.{LatestSample}
use Rattle.session_spec.specs.declared.data.MetricFocusPair.{MetricFocusPair}
use Rattle.session_spec.specs.Bins.{AreRecorded}
use Rattle.session_spec.specs.Feed.{IsFeed, places_behind}
use Rattle.session.specs.Parts.{shown_part, shown_parts}
use Rattle.visi_run.specs.Feed.{feed_of}
use Rattle.visi_run.specs.Viewed.{shown_of}

-- as many parts are shown as there are places
shown_many : (i : Inputs) (n : ℕ) (ss : List MetricFocusPair) (rs : List (List Bin)) → length rs ≡ length ss → n + length (shown_parts i ss rs) ≡ places_behind n ss
shown_many i n [] [] e = omega arith
shown_many i n [] (r ∷ rs) e = absurd (omega arith)
shown_many i n (s ∷ ss) [] e = absurd (omega arith)
shown_many i n (s ∷ ss) (r ∷ rs) e = by s.node (λ m. shown_many i m ss rs (omega arith))
  where
    by : (o : Option ℕ) → ((m : ℕ) → m + length (shown_parts i ss rs) ≡ places_behind m ss)
        → n + length (cond {A = List ShownPart} (is_none o) (shown_part i s (hist_of i.settings.bins r) ∷ []) [] ++ shown_parts i ss rs) ≡ places_behind (place_behind o n) ss
    by None rest = let more = rest (n + 1) in omega arith
    by (Some node) rest = rest n

pub lines_all : (i : Inputs) (quanta : List Quantum) → IsFeed (final_state i (after_quanta i quanta)) → AreRecorded i (final_state i (after_quanta i quanta)) → (l : LatestSample) → In l (feed_of i quanta) → l.shown < length (shown_of i quanta)
unfolding feed_of
lines_all i quanta feed recorded l h =
    let s = final_state i (after_quanta i quanta) in
    let many = shown_many i 0 s.kept.shown s.recorded recorded.many in
    let below = feed.below l h in
    omega arith
