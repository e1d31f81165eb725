-- Each node: it was judged by the samples of its own instrument, or says why not.
use Rattle.std.proofs.Common.{◌≡◌, ℕ, ◌<◌, ◌≤◌, length, arith, inl, inr, ⊎_elim}
use Rattle.pn_types.specs.declared.pick.BarCause.{BarCause}
use Rattle.w3_search.specs.declared.node.Node.{Node}
use Rattle.w3_search.specs.declared.node.NodeState.TheVariants.{Barred, Unfinished}
use Rattle.session_spec.specs.Inputs.{Inputs}
use Rattle.session_spec.specs.Searches.{rules_of}
use Rattle.session_spec.specs.States.{State}
use Rattle.session_spec.specs.Told.{IsJudged}
use Rattle.session_spec.specs.Work.{final_state, after_quanta}
use Rattle.session_spec.specs.Bins.{AreRecorded}
use Rattle.session_spec.specs.Laws.{VerdictsTold}
use Rattle.session_spec.proofs.Barring.{bars_told}
use Rattle.session_spec.proofs.Ends.{IsUnjudged}
use Rattle.session_spec.proofs.Keeping.{bins_told}
use Rattle.session_spec.proofs.Intervals.{ends_later}
use Rattle.session_spec.proofs.Tracing.{IsTraceable, ended_told, judged_told}

-- Its window isn't empty, where no sample is.
judged : (i : Inputs) (s : State) (k : ℕ) (n : Node) → AreRecorded i s → 1 ≤ (rules_of i).decl.window → IsTraceable i s k n → IsJudged i s k n
judged i s k n told some t =
    let v = t.0 in
    let x = t.1.x in
    let r = told.each t.1.place x t.1.samples t.1.listed t.1.recorded in
    let many : 1 ≤ length t.1.samples = let window = t.1.window in omega arith in
    let later : n.from < x.from = ends_later i r.plan x.focus n.from s.owns n.from t.1.samples x.from many (r.samples n.from t.1.armed) in
    let to = t.1.sampled in
    (record { plan = v.plan; planned = v.planned; ordered = omega (arith, later, to); past = v.past; window = v.window; value = v.value; ticks = v.ticks; verdict = v.verdict }, t.1)

pub verdicts_told : VerdictsTold
verdicts_told = record {
  works = λ i quanta wide some low k n e c. judged i (after_quanta i quanta) k n (bins_told.works i quanta wide) some (judged_told i some quanta low k n e c);
  closes = λ i quanta wide some low k n e.
      let s = final_state i (after_quanta i quanta) in
      ⊎_elim
      (λ (t : IsTraceable i s k n). inl (judged i s k n (bins_told.closes i quanta wide) some t))
      (λ (o : IsUnjudged i n). inr (⊎_elim
      (λ (b : (cause : BarCause) × (n.state ≡ Barred cause)). inl (b.0, b.1, bars_told.closes i quanta k n b.0 e b.1))
      (λ (u : (n.state ≡ Unfinished n.seen) × (n.seen < (rules_of i).decl.window)). inr u) o))
      (ended_told i some quanta low k n e);
}
