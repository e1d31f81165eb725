-- A report's parts are those of wished pairs, with the bins of what was recorded for them.
use Rattle.std.proofs.Common.{◌≡◌, ℕ, suc, cond, Option, Some, None, List, [], ◌∷◌, ◌++◌, refl, sym, ap, subst, ◌∙◌, inl, inr}
use Rattle.std.specs.Prelude.{is_none, slice_get}
use Rattle.fold_hist.specs.Bins.{bins_of, hist_of}
use Rattle.fold_hist.specs.declared.bin.Bin.{Bin}
use Rattle.machine.specs.Cores.{In}
use Rattle.report.specs.declared.parts.ShownPart.{ShownPart}
use Rattle.session_spec.specs.declared.data.MetricFocusPair.{MetricFocusPair}
use Rattle.session_spec.specs.Inputs.{Inputs}
use Rattle.session_spec.specs.States.{State}
use Rattle.session_spec.specs.Work.{final_state, after_quanta}
use Rattle.session_spec.specs.Bins.{AreMeasured, AreRecorded}
use Rattle.session_spec.proofs.Keeping.{bins_told}
use Rattle.session_spec.proofs.Printing.{printed_told}
use Rattle.session.specs.Bins.{IsPartOf, PartsTold}
use Rattle.session.specs.Parts.{shown_part, shown_parts}

-- the wished pair of a part, and what was recorded for it
record Source (i : Inputs) (xs : List MetricFocusPair) (rs : List (List Bin)) (part : ShownPart) : Type 0 where
  n : ℕ
  x : MetricFocusPair
  r : List Bin
  listed : slice_get xs n ≡ Some x
  shown : In x xs
  recorded : slice_get rs n ≡ Some r
  wished : x.node ≡ None
  is : part ≡ shown_part i x (hist_of i.settings.bins r)

source_behind : (i : Inputs) (y : MetricFocusPair) (xs : List MetricFocusPair) (q : List Bin) (rs : List (List Bin)) (part : ShownPart) → Source i xs rs part → Source i (y ∷ xs) (q ∷ rs) part
source_behind i y xs q rs part s = record { n = suc s.n; x = s.x; r = s.r; listed = s.listed; shown = inr s.shown; recorded = s.recorded; wished = s.wished; is = s.is }

source : (i : Inputs) (xs : List MetricFocusPair) (rs : List (List Bin)) (part : ShownPart) → In part (shown_parts i xs rs) → Source i xs rs part
source i [] rs part h = absurd h
source i (x ∷ xs) [] part h = absurd h
source i (x ∷ xs) (r ∷ rs) part h = by x.node refl h (λ g. source i xs rs part g)
  where
    by : (o : Option ℕ) → x.node ≡ o → In part (cond (is_none o) (shown_part i x (hist_of i.settings.bins r) ∷ []) [] ++ shown_parts i xs rs)
        → (In part (shown_parts i xs rs) → Source i xs rs part) → Source i (x ∷ xs) (r ∷ rs) part
    by None e (inl g) again = record { n = 0; x = x; r = r; listed = refl; shown = inl refl; recorded = refl; wished = e; is = g }
    by None e (inr g) again = source_behind i x xs r rs part (again g)
    by (Some d) e g again = source_behind i x xs r rs part (again g)

no_bins : (most : ℕ) → (hist_of most []).bins ≡ []
unfolding bins_of
no_bins most = refl

part_of : (i : Inputs) (s : State) → AreRecorded i s → (part : ShownPart) → Source i s.kept.shown s.recorded part → IsPartOf i s part
part_of i s told part z =
    let k = told.each z.n z.x z.r z.listed z.recorded in
    let bins : part.bins ≡ (hist_of i.settings.bins z.r).bins = ap (λ (p : ShownPart). p.bins) z.is in
    record {
      x = z.x;
      listed = z.shown;
      wished = z.wished;
      metric = ap (λ (p : ShownPart). p.metric) z.is;
      focus = ap (λ (p : ShownPart). p.focus) z.is;
      from = ap (λ (p : ShownPart). p.from) z.is;
      plan = k.plan;
      planned = k.planned;
      none = λ e. bins ∙ (ap (λ (r : List Bin). (hist_of i.settings.bins r).bins) (k.never e) ∙ no_bins i.settings.bins);
      bins = λ a e. subst (λ (bs : List Bin). AreMeasured i s.owns k.plan (z.x).focus a a bs (z.x).from) (sym bins) (k.bins a e);
    }

pub parts_told : PartsTold
unfolding part_of
parts_told = record {
  works = λ i quanta wide part h. let s = after_quanta i quanta in part_of i s (bins_told.works i quanta wide) part (source i s.kept.shown s.recorded part h);
  closes = λ i quanta wide part h. let s = final_state i (after_quanta i quanta) in part_of i s (bins_told.closes i quanta wide) part (source i s.kept.shown s.recorded part h);
  whole = λ i quanta wide p good first part h.
      let s = final_state i (after_quanta i quanta) in
      let z = source i s.kept.shown s.recorded part h in
      let w = printed_told i quanta wide p good first z.n z.x z.r z.listed z.recorded z.wished in
      record { part_of = part_of i s (bins_told.closes i quanta wide) part z; armed = ap (λ (q : ShownPart). q.from) z.is ∙ w.armed; to = w.to };
}
