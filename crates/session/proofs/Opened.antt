-- What a session keeps at its opening.
use Rattle.std.proofs.Common.{◌≡◌, ℕ, zero, suc, ◌+◌, List, [], ◌∷◌, refl, sym, ap, ◌∙◌, subst, arith, length}
use Rattle.std.specs.Prelude.{false, map}
use Rattle.std.specs.List.{AllByRecursion}
use Rattle.std.proofs.lemmas.Bool.{true≢false}
use Rattle.std.proofs.lemmas.List.{length-map}
use Rattle.fold_hist.specs.declared.bin.Bin.{Bin}
use Rattle.pn_types.specs.declared.image.Image.{Image}
use Rattle.mdl_check.specs.declared.checked.CheckedWish.{CheckedWish}
use Rattle.machine.specs.Cores.{Core, first_hart, start_core}
use Rattle.machine.specs.Events.{IsQuiet}
use Rattle.instrument.specs.Scenes.{Hands}
use Rattle.instrumented.specs.Instrumented.{Instrumented, repeated}
use Rattle.rv_exec.specs.Start.{harts_from, start}
use Rattle.session_spec.specs.declared.data.MetricFocusPair.{MetricFocusPair}
use Rattle.session_spec.specs.Inputs.{Inputs, later_wishes}
use Rattle.session_spec.specs.Due.{machine_armed, with_arms}
use Rattle.session_spec.specs.Opening.{opening_state, with_agenda}
use Rattle.session_spec.specs.States.{SessionState}
use Rattle.session_spec.specs.Work.{first_state, after_quanta}
use Rattle.session_spec.specs.Readings.{lasts_armed, lasts_with}
use Rattle.session_spec.specs.Reads.{IsSoundState}
use Rattle.session_spec.proofs.Begins.{first_marks, first_quiet, opened_lasts, opens, picked}
use Rattle.session_pairs.specs.declared.pair.SampledPair.{SampledPair}
use Rattle.session_pairs.specs.SampledPairs.{AreLive, HasHarts, pairs_armed}
use Rattle.session.specs.Given.{AreGiven}
use Rattle.session.specs.NodeCandidates.{first_search}
use Rattle.session.specs.Kept.{IsTableAfter, IsSoundPair, IsWished}
use Rattle.session.specs.Tables.{AreFolded, IsNew, IsTableOf, StateTable, kept_of, lasts_in, shown_in, table_armed, table_opened}
use Rattle.session.proofs.Admitted.{lasts_more}
use Rattle.session.proofs.SoundPairs.{all_armed, all_of, armed_many, more_sound}
use Rattle.session.proofs.Halting.{fit_harts}
use Rattle.session.proofs.Simulated.{armed_is, folded_armed, lasts_all}
use Rattle.session.proofs.Begun.{all_wishes, later_given}

-- ---- the opening

many_harts : (more h n : ℕ) (image : Image) → length (harts_from more h image n) ≡ more
many_harts zero h n image = refl
many_harts (suc more) h n image = ap suc (many_harts more (h + 1) n image)

start_many : (i : Inputs) → length (start_core i.image i.settings.harts i.settings.budget).harts ≡ i.settings.harts
start_many i = length-map (start i.image i.settings.harts).harts first_hart ∙ many_harts i.settings.harts 0 i.settings.harts i.image

module _ (i : Inputs) (t : StateTable) (w : IsWished i t) where
  pub wished_harts : length t.machine.state.core.harts ≡ i.settings.harts
  wished_harts = ap (λ (c : Core). length c.harts) (w.still).core ∙ start_many i

  pub wished_quiet : IsQuiet t.machine.state.core
  wished_quiet = subst (λ (c : Core). IsQuiet c) (sym (w.still).core) (first_quiet i)

  same_places : t.places ≡ i.settings.harts
  same_places = ap (λ (x : StateTable). x.places) (w.still).same

  pub wished_places : t.places ≡ length t.machine.state.core.harts
  wished_places = same_places ∙ sym wished_harts

  wished_sound : AllByRecursion (IsSoundPair i t.samples) t.pairs
  wished_sound = more_sound i t.samples [] t.pairs tt w.pairs

  pub wished_fit : AllByRecursion (HasHarts (length t.machine.state.core.harts)) t.pairs
  wished_fit = fit_harts i t.samples (length t.machine.state.core.harts) t.pairs (sym wished_harts) wished_sound

  abbrev pub later : List CheckedWish
  later = later_wishes i

  -- the agenda is done
  abbrev pub handed : StateTable
  handed = record t { machine = record t.machine { state = repeated (length t.machine.state.placer.book.agenda) Hands t.machine.state } }

  handed_kept : kept_of later handed ≡ with_agenda (picked i)
  unfolding with_agenda
  handed_kept = ap (λ (k : SessionState). with_agenda k) w.kept

  opened_is : kept_of later (table_armed handed) ≡ opening_state i
  opened_is = armed_is i later handed (all_of i t.samples t.pairs wished_sound) ∙ ap with_arms handed_kept

  -- what was read last of each
  read_is : lasts_in (table_armed handed).pairs ≡ opened_lasts i
  read_is =
      let shown : shown_in t.pairs ≡ (picked i).shown = ap (λ (k : SessionState). k.shown) w.kept in
      let lasts : lasts_in t.pairs ≡ lasts_with (picked i).shown [] = lasts_more i [] t.pairs w.pairs ∙ ap (λ (s : List MetricFocusPair). lasts_with s []) shown in
      lasts_all i t.time handed.machine.state t.pairs (all_of i t.samples t.pairs wished_sound)
      ∙ (ap (λ (x : SessionState). lasts_armed i x.machine x.shown (lasts_in t.pairs)) handed_kept ∙ ap (lasts_armed i (with_agenda (picked i)).machine (with_agenda (picked i)).shown) lasts)

  -- no pair has a sample
  none_folded : (pairs : List SampledPair) → AllByRecursion (IsNew i) pairs → AreFolded i pairs (map {B = List Bin} (λ s. []) (shown_in pairs))
  none_folded [] a = tt
  none_folded (k ∷ pairs) a = ((a.0).hist, none_folded pairs a.1)

  none_left : (time : ℕ) (m : Instrumented) (pairs : List SampledPair) → map {B = List Bin} (λ s. []) (shown_in (pairs_armed time m pairs)) ≡ map {B = List Bin} (λ s. []) (shown_in pairs)
  none_left time m [] = refl
  none_left time m (k ∷ pairs) = ap (λ (rs : List (List Bin)). [] ∷ rs) (none_left time (machine_armed m k.shown) pairs)

  hists_are : AreFolded i (table_armed handed).pairs (first_state i).recorded
  hists_are =
      let of = all_of i t.samples t.pairs wished_sound in
      let new : AllByRecursion (IsNew i) t.pairs = subst (λ (l : List SampledPair). AllByRecursion (IsNew i) l) (sym (w.pairs).is) (w.pairs).each in
      let none = none_left t.time handed.machine.state t.pairs in
      let all : map {B = List Bin} (λ s. []) (shown_in t.pairs) ≡ (first_state i).recorded = sym none ∙ ap (λ (x : SessionState). map {B = List Bin} (λ s. []) x.shown) opened_is in
      subst (AreFolded i (table_armed handed).pairs) all (folded_armed i t.time handed.machine.state t.pairs of (map {B = List Bin} (λ s. []) (shown_in t.pairs)) (none_folded t.pairs new))

  opened_state : IsTableOf i (first_state i) later (table_armed handed)
  opened_state = record {
    kept = opened_is;
    hists = hists_are;
    latest = ap (λ (x : StateTable). x.latest) (w.still).same;
    marks = ap (λ (x : StateTable). x.marks) (w.still).same ∙ sym (first_marks i);
    sound = subst (IsSoundState i (first_state i)) (sym read_is) (opens i w.program w.good);
  }

  pub opened_kept : AreGiven i → (stored : StateTable) → stored ≡ table_opened t → length stored.machine.state.core.harts ≡ length t.machine.state.core.harts → AreLive stored.machine.state.placer stored.pairs stored.live → IsTableAfter i [] false later stored
  unfolding after_quanta first_search
  opened_kept g stored e harts live =
      let pairs : stored.pairs ≡ pairs_armed t.time handed.machine.state t.pairs = ap (λ (x : StateTable). x.pairs) e in
      let many = ap (λ (l : List SampledPair). length l) pairs ∙ armed_many handed.machine.state t.time t.pairs in
      let few = w.few in
      let sum = all_wishes i in
      let none : stored.samples ≡ 0 = ap (λ (x : StateTable). x.samples) e ∙ ap (λ (x : StateTable). x.samples) (w.still).same in
      let early : stored.time ≡ 0 = ap (λ (x : StateTable). x.time) e ∙ ap (λ (x : StateTable). x.time) (w.still).same in
      let last : stored.last ≡ 0 = ap (λ (x : StateTable). x.last) e ∙ ap (λ (x : StateTable). x.last) (w.still).same in
      let due : stored.due ≡ i.settings.width = ap (λ (x : StateTable). x.due) e ∙ ap (λ (x : StateTable). x.due) (w.still).same in
      let idle : stored.idle ≡ 0 = ap (λ (x : StateTable). x.idle) e ∙ ap (λ (x : StateTable). x.idle) (w.still).same in
      let wide = g.settings.width.0 in
      record {
        given = g;
        good = w.good;
        allowed = record { each = tt; few = omega arith };
        state = subst (λ (x : StateTable). IsTableOf i (first_state i) later x) (sym e) opened_state;
        live = live;
        pairs = subst (λ (x : StateTable). AllByRecursion (IsSoundPair i x.samples) x.pairs) (sym e) (all_armed i t.samples handed.machine.state t.time t.pairs wished_sound);
        many = omega arith;
        wishes = later_given i g;
        harts = harts ∙ wished_harts;
        places = ap (λ (x : StateTable). x.places) e ∙ same_places;
        rules = ap (λ (x : StateTable). x.search.rules) e ∙ (w.still).rules;
        soon = λ _. omega arith;
        idle = λ _. omega arith;
        samples = omega arith;
        fewer = λ _. omega arith;
        time = omega arith;
        sooner = λ _. omega arith;
        quiet = λ c. absurd (true≢false (sym c));
      }
