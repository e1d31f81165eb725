-- What the code tells of what it holds is what a report shows of the state.
use Rattle.std.proofs.Common.{◌≡◌, ℕ, suc, ◌+◌, ◌<◌, List, [], ◌∷◌, ◌++◌, get_or, length, map, take, Some, refl, sym, ap, ap₂, ◌∙◌, subst, arith}
use Rattle.std.specs.Prelude.{Bool, None, cond, false, true, is_none, nat_lt, slice_get}
use Rattle.std.proofs.Math.Seq.{take-suc}
use Rattle.std.proofs.lemmas.List.{append-nil, append_assoc}
use Rattle.std.proofs.lemmas.Option.{slice_get_within, get_or_from_slice_get}
use Rattle.rv_word.specs.Exec.{Prog}
use Rattle.rv_word.specs.Plain.{PlainHart}
use Rattle.tramp_spec.specs.Harts.{Hart}
use Rattle.fold_hist.specs.Bins.{Histogram, hist_of}
use Rattle.fold_hist.specs.declared.bin.Bin.{Bin}
use Rattle.mdl_check.specs.declared.checked.CheckedWish.{CheckedWish}
use Rattle.machine.specs.Cores.{Core}
use Rattle.machine.specs.Same.{SameHart, SameProgram}
use Rattle.report.specs.declared.parts.ShownPart.{ShownPart}
use Rattle.session_spec.specs.Inputs.{Inputs}
use Rattle.session_spec.specs.declared.data.MetricFocusPair.{MetricFocusPair}
use Rattle.session_spec.specs.States.{SessionState, State}
use Rattle.session_spec.proofs.Runs.{is_run}
use Rattle.session_pairs.specs.declared.pair.SampledPair.{SampledPair}
use Rattle.report.proofs.HartEnds.{same_end}
use Rattle.report.specs.HartEnds.{hart_end}
use Rattle.session.specs.Parts.{hart_part, parts_of, program_of_run, refused_part, search_part, shown_part, shown_parts}
use Rattle.session.specs.Seen.{hart_seen, pair_parts, parts_by, table_parts}
use Rattle.session.specs.Tables.{AreFolded, IsTableOf, StateTable, lasts_in, shown_in}

-- one more of a list was pushed
pub one_more : {A : Type 0} (xs old new : List A) (n : ℕ) (x : A) → old ≡ take n xs → slice_get xs n ≡ Some x → new ≡ old ++ x ∷ [] → new ≡ take (n + 1) xs
one_more {A} xs old new n x before at e =
    let one : n + 1 ≡ suc n = omega arith in
    let is : get_or xs n x ≡ x = get_or_from_slice_get xs n x x at in
    e ∙ ap (λ l. l ++ x ∷ []) before ∙ sym (ap (λ k. take k xs) one ∙ take-suc xs n x (slice_get_within xs n x at) ∙ ap (λ y. take n xs ++ y ∷ []) is)

-- ---- harts

same_part : (budget : ℕ) (c : Core) (x : Hart) (y : PlainHart) → SameHart c x y → hart_seen budget c x ≡ hart_part budget y
same_part budget c x y s =
    let seen = hart_seen budget c x in
    let part = hart_part budget y in
    ap (λ n. record seen { ticks = n; stop = hart_end x.stop (nat_lt n budget) }) s.ticks
    ∙ ap (λ o. record seen { ticks = y.ticks; stop = hart_end o (nat_lt y.ticks budget) }) s.stop
    ∙ ap (λ e. record seen { ticks = y.ticks; stop = e }) (same_end y.stop (nat_lt y.ticks budget))
    ∙ ap (λ p. record part { pc = p }) s.pc

abbrev AreSame : Core → List Hart → List PlainHart → Type 0
AreSame c xs ys = (h : ℕ) (x : Hart) (y : PlainHart) → slice_get xs h ≡ Some x → slice_get ys h ≡ Some y → SameHart c x y

same_parts : (budget : ℕ) (c : Core) (xs : List Hart) (ys : List PlainHart) → length xs ≡ length ys → AreSame c xs ys → map (hart_seen budget c) xs ≡ map (hart_part budget) ys
same_parts budget c [] [] many same = refl
same_parts budget c [] (y ∷ ys) many same = absurd (omega (arith, many))
same_parts budget c (x ∷ xs) [] many same = absurd (omega (arith, many))
same_parts budget c (x ∷ xs) (y ∷ ys) many same =
    let rest = same_parts budget c xs ys (omega (arith, many)) (λ h z w e f. same (suc h) z w e f) in
    ap (λ p. p ∷ map (hart_seen budget c) xs) (same_part budget c x y (same 0 x y refl refl)) ∙ ap (λ ps. hart_part budget y ∷ ps) rest

-- ---- what is shown

-- those that were wished are those that have a histogram
same_one : (i : Inputs) (x : MetricFocusPair) (r : List Bin) (b : Bool) → parts_by i x (cond b (Some (hist_of i.settings.bins r)) None) ≡ cond {A = List ShownPart} b (shown_part i x (hist_of i.settings.bins r) ∷ []) []
same_one i x r true = refl
same_one i x r false = refl

same_shown : (i : Inputs) (ks : List SampledPair) (rs : List (List Bin)) → AreFolded i ks rs → pair_parts i ks ≡ shown_parts i (shown_in ks) rs
same_shown i [] [] f = refl
same_shown i [] (r ∷ rs) f = absurd f
same_shown i (k ∷ ks) [] f = absurd f
same_shown i (k ∷ ks) (r ∷ rs) f = ap₂ (λ (x xs : List ShownPart). x ++ xs) (ap (parts_by i k.shown) f.0 ∙ same_one i k.shown r (is_none k.shown.node)) (same_shown i ks rs f.1)

-- one more of the pairs
pairs_append : (i : Inputs) (ks : List SampledPair) (k : SampledPair) → pair_parts i (ks ++ k ∷ []) ≡ pair_parts i ks ++ parts_by i k.shown k.hist
pairs_append i [] k = append-nil _
pairs_append i (x ∷ ks) k = ap (λ ps. parts_by i x.shown x.hist ++ ps) (pairs_append i ks k) ∙ sym (append_assoc (parts_by i x.shown x.hist) (pair_parts i ks) _)

module _ (i : Inputs) (n : ℕ) (ks : List SampledPair) (k : SampledPair) (l : n < length ks) (is : k ≡ get_or ks n k) where
  pair_more : pair_parts i (take (n + 1) ks) ≡ pair_parts i (take n ks) ++ parts_by i k.shown k.hist
  pair_more =
      let one : n + 1 ≡ suc n = omega arith in
      ap (λ m. pair_parts i (take m ks)) one ∙ (ap (pair_parts i) (take-suc ks n k l) ∙ (ap (λ (y : SampledPair). pair_parts i (take n ks ++ y ∷ [])) (sym is) ∙ pairs_append i (take n ks) k))

  pub pair_shown : (h : Histogram) → k.hist ≡ Some h → pair_parts i (take (n + 1) ks) ≡ pair_parts i (take n ks) ++ shown_part i k.shown h ∷ []
  pair_shown h e = pair_more ∙ ap (λ o. pair_parts i (take n ks) ++ parts_by i k.shown o) e

  pub pair_tests : k.hist ≡ None → pair_parts i (take (n + 1) ks) ≡ pair_parts i (take n ks)
  pair_tests e = pair_more ∙ (ap (λ o. pair_parts i (take n ks) ++ parts_by i k.shown o) e ∙ append-nil _)

-- ---- the whole

module _ (i : Inputs) (s : State) (later : List CheckedWish) (t : StateTable) (k : IsTableOf i s later t) where
  same : SameProgram t.machine.state.core (program_of_run i s.owns)
  same =
      let ran = is_run i s (lasts_in t.pairs) k.sound in
      subst (λ c. SameProgram c (program_of_run i s.owns)) (sym (ap (λ (x : SessionState). x.machine.core) k.kept)) ran.same

  harts : map (hart_seen i.settings.budget t.machine.state.core) t.machine.state.core.harts ≡ map (hart_part i.settings.budget) (program_of_run i s.owns).harts
  harts = same_parts i.settings.budget t.machine.state.core t.machine.state.core.harts (program_of_run i s.owns).harts same.many same.harts

  shown : pair_parts i t.pairs ≡ shown_parts i s.kept.shown s.recorded
  shown = same_shown i t.pairs s.recorded k.hists ∙ ap (λ (x : SessionState). shown_parts i x.shown s.recorded) k.kept

  pub parts_are : table_parts i t ≡ parts_of i s
  parts_are =
      let held = table_parts i t in
      let all = parts_of i s in
      ap (λ hs. record held { harts = hs }) harts
      ∙ ap (λ (x : SessionState). record held { harts = all.harts; samples = x.samples }) k.kept
      ∙ ap (λ (p : Prog). record held { harts = all.harts; samples = all.samples; output = p.out }) same.prog
      ∙ ap (λ (x : SessionState). record all { refused = map (refused_part i) x.refused; shown = held.shown; search = search_part i i.checked.search x.search.nodes }) k.kept
      ∙ ap (λ ps. record all { shown = ps }) shown
