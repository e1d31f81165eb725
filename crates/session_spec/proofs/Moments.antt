-- The costs of the tests stay within the limit at each moment of a quantum.
use Rattle.std.proofs.Common.{ℕ}
use Rattle.session_spec.specs.Inputs.{Inputs}
use Rattle.session_spec.specs.States.{State}
use Rattle.session_spec.specs.Admission.{with_wishes}
use Rattle.session_spec.specs.Due.{with_frees}
use Rattle.session_spec.specs.Work.{state_admitted, state_quiet, state_sampled, state_turned, after_quanta}
use Rattle.session_spec.specs.Costs.{AreWithin, CostsStay}
use Rattle.session_spec.specs.LastReadings.{handed_on}
use Rattle.session_spec.proofs.AdmittingSteps.{admission_kept, none_taken, nodes_kept, of_nodes, of_wishes, wishes_kept}
use Rattle.session_spec.proofs.TestCosts.{IsCounted, counted_keeps}
use Rattle.session_spec.proofs.Spending.{counted_arms, counted_closed, counted_entries, counted_frees, counted_hart, counted_quiet, counted_samples, counted_work}

module _ (i : Inputs) (s : State) (c : IsCounted i s.kept) where
  moments : AreWithin i s
  moments =
      let keeps = counted_keeps i in
      let a = admission_kept i (IsCounted i) keeps s.kept c in
      let t = λ (h n : ℕ). counted_hart i h n (state_admitted i s).kept a in
      let b = λ (h n : ℕ). counted_entries i (state_turned h n (state_admitted i s)).kept (t h n) in
      let q = λ (h n : ℕ). counted_quiet i (handed_on i h n s).kept (b h n) in
      let m = λ (h n : ℕ). counted_samples i (state_quiet (handed_on i h n s)).kept (q h n) in
      let f = λ (h n : ℕ). counted_frees i (state_sampled i (state_quiet (handed_on i h n s))).kept (m h n) in
      record {
        taking = λ before behind e.
            (nodes_kept i (IsCounted i) (of_nodes i (IsCounted i) keeps) before (with_wishes i s.kept.wishes s.kept)
            (wishes_kept i (IsCounted i) (of_wishes i (IsCounted i) keeps) s.kept.wishes s.kept c)).within;
        admitted = a.within;
        turned = λ h n. (t h n).within;
        handed = λ h n. (b h n).within;
        quiet = λ h n. (q h n).within;
        sampled = λ h n. (m h n).within;
        armed = λ h n. (counted_arms i (with_frees (state_sampled i (state_quiet (handed_on i h n s))).kept) (f h n)).within;
      }

pub costs_stay : CostsStay
costs_stay = record {
  works = λ i quanta. (counted_work i quanta).within;
  moments = λ i quanta. moments i (after_quanta i quanta) (counted_work i quanta);
  closes = λ i quanta. (counted_closed i (after_quanta i quanta) (counted_work i quanta)).within;
  observed = none_taken;
}
