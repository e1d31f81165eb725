-- The ticks of each hart are how often it stands in the program's own run.
use Rattle.std.proofs.Common.{◌≡◌, ℕ, zero, suc, ◌+◌, ◌≤◌, List, [], ◌∷◌, ◌++◌, Option, Some, None, refl, sym, ap, ap₂, ◌∙◌, subst, arith, length, map, ⊎_elim}
use Rattle.std.specs.Prelude.{Bool, true, false, cond, slice_get, slice_set, ◌==◌}
use Rattle.std.specs.List.{range_with_len}
use Rattle.std.specs.Option.{option_map}
use Rattle.std.proofs.lemmas.Bool.{cases_eq, eq-eqb, ne_eqb}
use Rattle.std.proofs.lemmas.List.{length-append}
use Rattle.std.proofs.lemmas.List.Elements.{filter-append}
use Rattle.std.proofs.lemmas.Option.{slice_get-map, slice_get_past}
use Rattle.pn_types.specs.declared.image.Image.{Image}
use Rattle.rv_mem.specs.Start.{program_of}
use Rattle.rv_exec.specs.Start.{harts_from, start}
use Rattle.rv_exec.proofs.Runs.{length-run_from}
use Rattle.tramp_spec.specs.Harts.{Hart, is_tick}
use Rattle.machine.specs.Cores.{Core, first_hart, start_core}
use Rattle.machine.specs.Effects.{after_event, armed_hart, owned}
use Rattle.machine.specs.Events.{Event, Turn, Write, LinkMini, UnlinkMini, LinkPoint, UnlinkPoint, Free, Arm, Sample}
use Rattle.machine.specs.Replays.{owns, replay}
use Rattle.machine.specs.Turns.{fetched, turn_alone, turn_by}
use Rattle.machine.specs.Turns as turns
use Rattle.machine.proofs.Arming.{get_map}
use Rattle.machine.proofs.Beginning.{starts}
use Rattle.machine.proofs.Erasing.{erasure}
use Rattle.machine.proofs.Lists.{get_set_other, get_set_same}
use Rattle.machine.proofs.Quanta.{step_ticks}
use Rattle.instrument.specs.Scenes.{events_of, first_scene}
use Rattle.instrument.specs.declared.event.Event.TheVariants as seen
use Rattle.instrumented.specs.Instrumented.{Instrumented}
use Rattle.instrumented.proofs.Acts.{whole_of}
use Rattle.instrumented.proofs.Harts.{handed_same}
use Rattle.session_spec.specs.declared.data.MetricFocusPair.{MetricFocusPair}
use Rattle.session_spec.specs.Inputs.{Inputs}
use Rattle.session_spec.specs.Ties.{IsTied}
use Rattle.session_spec.specs.Readings.{ticks_of}
use Rattle.session_spec.specs.Reads.{ticks_by}

-- ---- how often a hart stands in a run

pub ticks_append : (xs ys : List ℕ) (h : ℕ) → ticks_by (xs ++ ys) h ≡ ticks_by xs h + ticks_by ys h
ticks_append xs ys h = ap (λ (l : List ℕ). length l) (filter-append (λ g. g == h) xs ys) ∙ length-append _ _

-- the hart of a turn has one tick more, if it is one; others have none
one_more : (tick : Bool) (h n : ℕ) → cond tick (n + 1) n ≡ n + ticks_by (cond tick (h ∷ []) []) h
one_more true h n = let e : ticks_by (h ∷ []) h ≡ 1 = ap (λ (b : Bool). length (cond b (h ∷ []) [])) (eq-eqb h h refl) in omega arith
one_more false h n = omega arith

none_more : (tick : Bool) (g h : ℕ) → (g ≡ h → ⊥) → ticks_by (cond tick (g ∷ []) []) h ≡ 0
none_more true g h n = ap (λ (b : Bool). length (cond b (g ∷ []) [])) (ne_eqb g h n)
none_more false g h n = refl

-- ---- events

abbrev ticks_at : Option Hart → ℕ
ticks_at None = 0
ticks_at (Some x) = x.ticks

module _ (c : Core) (g h : ℕ) (x : Hart) (e : slice_get c.harts g ≡ Some x) where
  abbrev z : Hart
  z = (turn_alone c g x).hart

  abbrev tick : Bool
  tick = is_tick (fetched c.program c.code x)

  abbrev Grows : ℕ → Type 0
  Grows j = ticks_at (slice_get (slice_set c.harts g z) j) ≡ ticks_at (slice_get c.harts j) + ticks_by (cond tick (g ∷ []) []) j

  turned : h ≡ g → Grows h
  turned i = subst Grows (sym i)
      (ap ticks_at (get_set_same c.harts g x z e)
      ∙ (step_ticks (fetched c.program c.code x) g _ (record { hart = x; prog = c.prog })
      ∙ (one_more tick g x.ticks ∙ ap (λ n. n + ticks_by (cond tick (g ∷ []) []) g) (sym (ap ticks_at e)))))

  stayed : (h ≡ g → ⊥) → Grows h
  stayed n =
      let stays = ap ticks_at (get_set_other c.harts g h z n) in
      let none = none_more tick g h (λ q. n (sym q)) in
      omega arith

turn_ticks : (c : Core) (g h : ℕ) (o : Option Hart) → slice_get c.harts g ≡ o
    → ticks_at (slice_get (turn_by o c g).harts h) ≡ ticks_at (slice_get c.harts h) + ticks_by (cond (turns.ticks_by o c) (g ∷ []) []) h
turn_ticks c g h None e = omega arith
turn_ticks c g h (Some x) e = ⊎_elim (turned c g h x e) (stayed c g h x e) (cases_eq h g)

same_ticks : (xs ys : List Hart) (h : ℕ) → xs ≡ ys → ticks_at (slice_get xs h) ≡ ticks_at (slice_get ys h) + 0
same_ticks xs ys h e = let s = ap (λ (l : List Hart). ticks_at (slice_get l h)) e in omega arith

armed_ticks : (f : Hart → Hart) (o : Option Hart) → ((x : Hart) → (f x).ticks ≡ x.ticks) → ticks_at (option_map f o) ≡ ticks_at o
armed_ticks f None e = refl
armed_ticks f (Some x) e = e x

ticks_after : (e : Event) (c : Core) (h : ℕ) → ticks_at (slice_get (after_event c e).harts h) ≡ ticks_at (slice_get c.harts h) + ticks_by (owned c e) h
ticks_after (Turn g) c h = turn_ticks c g h (slice_get c.harts g) refl
ticks_after (Write b) c h = same_ticks c.harts c.harts h refl
ticks_after (LinkMini p m) c h = same_ticks (after_event c (LinkMini p m)).harts c.harts h (handed_same (seen.LinkMini p m) c)
ticks_after (UnlinkMini p m) c h = same_ticks (after_event c (UnlinkMini p m)).harts c.harts h (handed_same (seen.UnlinkMini p m) c)
ticks_after (LinkPoint p) c h = same_ticks (after_event c (LinkPoint p)).harts c.harts h (handed_same (seen.LinkPoint p) c)
ticks_after (UnlinkPoint p) c h = same_ticks (after_event c (UnlinkPoint p)).harts c.harts h (handed_same (seen.UnlinkPoint p) c)
ticks_after (Free p) c h = same_ticks c.harts c.harts h refl
ticks_after (Arm i) c h = let e = ap ticks_at (slice_get-map (armed_hart c i) c.harts h) ∙ armed_ticks (armed_hart c i) (slice_get c.harts h) (λ x. refl) in omega arith
ticks_after (Sample i) c h = same_ticks c.harts c.harts h refl

ticks_on : (es : List Event) (c : Core) (h : ℕ) → ticks_at (slice_get (replay es c).harts h) ≡ ticks_at (slice_get c.harts h) + ticks_by (owns es c) h
ticks_on [] c h = omega arith
ticks_on (e ∷ es) c h =
    let first = ticks_after e c h in
    let rest = ticks_on es (after_event c e) h in
    let both = ticks_append (owned c e) (owns es (after_event c e)) h in
    omega arith

-- ---- from the start on

first_ticks : (image : Image) (n h : ℕ) (o : Option Hart) → slice_get (map first_hart (start image n).harts) h ≡ o → ticks_at o ≡ 0
first_ticks image n h None e = refl
first_ticks image n h (Some x) e =
    let q = get_map first_hart (harts_from n 0 image n) h x e in
    let s = starts n 0 n h image q.0 q.1 in
    ap (λ (v : Hart). v.ticks) (q.2 ∙ ap first_hart s.1)

pub many_harts : (more h n : ℕ) (image : Image) → length (harts_from more h image n) ≡ more
many_harts zero h n image = refl
many_harts (suc more) h n image = ap suc (many_harts more (h + 1) n image)

-- a list of harts with the ticks that each has
listed : (f : ℕ → ℕ) (xs : List Hart) (a : ℕ) → ((k : ℕ) (x : Hart) → slice_get xs k ≡ Some x → x.ticks ≡ f (a + k))
    → map (λ (x : Hart). x.ticks) xs ≡ map f (range_with_len a (length xs))
listed f [] a e = refl
listed f (x ∷ xs) a e =
    let here : a + 0 ≡ a = omega arith in
    ap₂ (λ (n : ℕ) (l : List ℕ). n ∷ l) (e 0 x refl ∙ ap f here) (listed f xs (a + 1) (λ k y i. let there : a + suc k ≡ a + 1 + k = omega arith in e (suc k) y i ∙ ap f there))

module _ (i : Inputs) (m : Instrumented) (own : List ℕ) (ss : List MetricFocusPair) (lasts : List ℕ) (t : IsTied i m own ss lasts) where
  abbrev es : List Event
  es = events_of t.acts (first_scene i.image i.settings.harts i.settings.budget i.settings.instruments)

  abbrev begun : Core
  begun = start_core i.image i.settings.harts i.settings.budget

  core_is : m.core ≡ replay es begun
  core_is = (whole_of i.image i.settings.harts i.settings.budget i.settings.instruments t.acts m t.plans t.program t.leads).core

  at_is : (h : ℕ) → ticks_at (slice_get m.core.harts h) ≡ ticks_by own h
  at_is h =
      let all = ticks_on es begun h in
      let none = first_ticks i.image i.settings.harts h (slice_get begun.harts h) refl in
      let core = ap (λ (c : Core). ticks_at (slice_get c.harts h)) core_is in
      let owned = ap (λ (l : List ℕ). ticks_by l h) t.owned in
      omega arith

  pub many_are : length m.core.harts ≡ i.settings.harts
  many_are =
      let w = whole_of i.image i.settings.harts i.settings.budget i.settings.instruments t.acts m t.plans t.program t.leads in
      ap (λ (c : Core). length c.harts) core_is
      ∙ ((erasure i.image i.settings.harts i.settings.budget es t.program w.legal).same.many
      ∙ (length-run_from (program_of i.image) (owns es begun) (start i.image i.settings.harts) ∙ many_harts i.settings.harts 0 i.settings.harts i.image))

  pub ticks_tied : ticks_of m ≡ map (ticks_by own) (range_with_len 0 i.settings.harts)
  ticks_tied = listed (ticks_by own) m.core.harts 0 (λ h x e. let here : h ≡ 0 + h = omega arith in sym (ap ticks_at e) ∙ (at_is h ∙ ap (ticks_by own) here))
      ∙ ap (λ n. map (ticks_by own) (range_with_len 0 n)) many_are

  -- no other hart has a tick
  pub no_ticks : (h : ℕ) → i.settings.harts ≤ h → ticks_by own h ≡ 0
  no_ticks h l = sym (at_is h) ∙ ap ticks_at (slice_get_past m.core.harts h (let many = many_are in omega arith))
