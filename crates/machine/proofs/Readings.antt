-- What an instrument in force reads is what its plan measures.
use Rattle.std.proofs.Common.{◌≡◌, ℕ, zero, suc, ◌+◌, ◌%◌, ◌^◌, ◌<◌, ◌≤◌, List, [], ◌∷◌, ◌++◌, take, drop, length, Option, Some, None, refl, sym, ap, ◌∙◌, subst, arith, ⊎_elim, length-append}
use Rattle.std.specs.Prelude.{Bool, true, false, if◌then◌else◌, slice_get, slice_index, ◌==◌}
use Rattle.std.proofs.lemmas.Bool.{cases_lt}
use Rattle.std.proofs.lemmas.Option.{slice_get_past}
use Rattle.std.proofs.Math.Seq.{take-append_seam, take-append-add, drop-append_seam}
use Rattle.pn_types.specs.declared.image.Image.{Image}
use Rattle.pn_types.specs.declared.placed.Placed.{Placed}
use Rattle.pn_types.specs.declared.plan.Plan.{Plan}
use Rattle.pn_types.specs.declared.plan.Var.{Var}
use Rattle.rv_word.specs.Plain.{Words, PlainHart, Plain, plain}
use Rattle.rv_mem.specs.Start.{program_of}
use Rattle.rv_exec.specs.Run.{run_from}
use Rattle.rv_exec.specs.Start.{start}
use Rattle.rv_exec.proofs.Runs.{length-plain, length-run_from}
use Rattle.tramp_spec.specs.Harts.{Hart}
use Rattle.tramp_spec.specs.Slots.{places, read_first, read_place}
use Rattle.prim_code.specs.Fitting.{IsMeasurable}
use Rattle.prim_code.specs.Standing.{HasValue}
use Rattle.machine.specs.Cores.{Core, start_core}
use Rattle.machine.specs.Effects.{after_event}
use Rattle.machine.specs.Events.{Event, Arm, IsQuiet}
use Rattle.machine.specs.Instruments.{reading, Carries, IsSpared, AllLet}
use Rattle.machine.specs.Laws.{IsProgram}
use Rattle.machine.specs.Measures.{Level, passed_by, level, level_at, opening_level, is_timer, measured, difference, measure, measure_of}
use Rattle.machine.specs.Readings.{reading_if, readings, ticks_of, ReadingsMeasure}
use Rattle.machine.specs.Replays.{replay, Legal, owns}
use Rattle.machine.proofs.Beginning.{begins, starts}
use Rattle.machine.proofs.ForceArming.{families_in, ages_in, arms_known}
use Rattle.machine.proofs.ForceEvents.{Known, all_since, quiet_reads}
use Rattle.machine.proofs.Levels.{level-append}
use Rattle.machine.proofs.Opened.{AreWithin, within_run}
use Rattle.machine.proofs.Replaying.{replay-append, owns-append, legal-parts}
use Rattle.machine.proofs.Steps.{all_events, fixed}
use Rattle.machine.proofs.Told.{Tells}

-- ---- one reading

reads_level : (slots : List ℕ) (vars : List Var) (many spare : ℕ) (v : Level) (bank : List ℕ) (ticks : ℕ) → length slots ≡ length vars → many ≡ length vars → Tells (places slots vars) many spare v bank ticks
    → read_first (places slots vars) ticks bank ≡ (if is_timer vars then v.runs else slice_index v.values 0) % 2 ^ 64
reads_level [] [] many spare v bank ticks e m k = sym (ap (λ n. n % 2 ^ 64) (no_value v.values (k.size ∙ m)))
  where
    no_value : (values : List ℕ) → length values ≡ 0 → slice_index values 0 ≡ 0
    no_value [] e = refl
    no_value (n ∷ ns) e = absurd (omega arith)
reads_level [] (x ∷ vars) many spare v bank ticks e m k = absurd (omega arith)
reads_level (s ∷ slots) [] many spare v bank ticks e m k = absurd (omega arith)
reads_level (s ∷ slots) (x ∷ vars) many spare v bank ticks e m k = by x.timer (k.runs (record { slot = s; timer = x.timer }) refl) (k.slots 0 (record { slot = s; timer = x.timer }) refl)
  where
    by : (timer : Bool) → (timer ≡ true → read_place true s ticks bank ≡ v.runs % 2 ^ 64) → HasValue timer s spare (slice_index v.values 0) bank → read_place timer s ticks bank ≡ (if timer then v.runs else slice_index v.values 0) % 2 ^ 64
    by true r h = r refl
    by false r h = let a = h.0 in let b = h.1 in omega arith

-- ---- parts of a run

module _ (t : Words) (plan : Plan) (h : ℕ) (a b c : List ℕ) (s : Plain) where
  level_first : level_at t plan h (length a) (length a + length b) (a ++ (b ++ c)) s ≡ level t plan h b (run_from t a s) (opening_level plan (run_from t a s) h)
  level_first =
      let turns : take (length a) (a ++ (b ++ c)) ≡ a = take-append_seam a (b ++ c) in
      let both : take (length a + length b) (a ++ (b ++ c)) ≡ a ++ b = take-append-add a (b ++ c) (length b) ∙ ap (λ l. a ++ l) (take-append_seam b c) in
      ap (λ l. level t plan h (drop (length a) (take (length a + length b) (a ++ (b ++ c)))) (run_from t l s) (opening_level plan (run_from t l s) h)) turns
      ∙ ap (λ l. level t plan h l (run_from t a s) (opening_level plan (run_from t a s) h)) (ap (drop (length a)) both ∙ drop-append_seam a b)

  level_second : level_at t plan h (length a) (length a + (length b + length c)) (a ++ (b ++ c)) s ≡ level t plan h c (run_from t b (run_from t a s)) (level t plan h b (run_from t a s) (opening_level plan (run_from t a s) h))
  level_second =
      let turns : take (length a) (a ++ (b ++ c)) ≡ a = take-append_seam a (b ++ c) in
      let all : take (length a + (length b + length c)) (a ++ (b ++ c)) ≡ a ++ (b ++ c) =
      take-append-add a (b ++ c) (length b + length c) ∙ ap (λ l. a ++ l) (take-append-add b c (length c) ∙ ap (λ l. b ++ l) (whole c)) in
      ap (λ l. level t plan h (drop (length a) (take (length a + (length b + length c)) (a ++ (b ++ c)))) (run_from t l s) (opening_level plan (run_from t l s) h)) turns
      ∙ (ap (λ l. level t plan h l (run_from t a s) (opening_level plan (run_from t a s) h)) (ap (drop (length a)) all ∙ drop-append_seam a (b ++ c))
      ∙ level-append t plan h b c (run_from t a s) (opening_level plan (run_from t a s) h))
    where
      whole : (xs : List ℕ) → take (length xs) xs ≡ xs
      whole [] = refl
      whole (x ∷ xs) = ap (λ l. x ∷ l) (whole xs)

all_let : (i : Placed) (es others : List Event) → AllLet i (es ++ others) → AllLet i es × AllLet i others
all_let i [] others l = (tt, l)
all_let i (e ∷ es) others l = let r = all_let i es others l.1 in ((l.0, r.0), r.1)

-- ---- harts that aren't there

some_at : {A : Type 0} (xs : List A) (h : ℕ) → h < length xs → (x : A) × (slice_get xs h ≡ Some x)
some_at [] h l = absurd (omega arith)
some_at (x ∷ xs) zero l = (x, refl)
some_at (x ∷ xs) (suc h) l = some_at xs h (omega arith)

none_passes : (b : Bool) (o : Option PlainHart) (plan : Plan) (v : Level) → o ≡ None → (if b then passed_by o plan v else v) ≡ v
none_passes true o plan v e = ap (λ p. passed_by p plan v) e
none_passes false o plan v e = refl

no_level : (t : Words) (plan : Plan) (h : ℕ) (turns : List ℕ) (s : Plain) (v : Level) → length s.harts ≤ h → level t plan h turns s v ≡ v
no_level t plan h [] s v l = refl
no_level t plan h (g ∷ turns) s v l =
    let e = length-plain t g s in
    no_level t plan h turns (plain t g s) (if g == h then passed_by (slice_get s.harts h) plan v else v) (omega arith)
    ∙ none_passes (g == h) (slice_get s.harts h) plan v (slice_get_past s.harts h l)

-- ---- sums

no_difference : (n : ℕ) → difference n n ≡ 0
no_difference n = omega arith

low_difference : (a b : ℕ) → difference (a % 2 ^ 64) (b % 2 ^ 64) ≡ difference a b
low_difference a b = omega arith

difference_of_sums : (a b c d : ℕ) → difference ((a + b) % 2 ^ 64) ((c + d) % 2 ^ 64) ≡ (difference a c + difference b d) % 2 ^ 64
difference_of_sums a b c d = omega arith

sums : (t : Words) (plan : Plan) (i : Placed) (harts : List ℕ) (a b n : ℕ) (turns : List ℕ) (s : Plain) (c d : Core)
    → ((h : ℕ) → difference (reading_if i (slice_get c.harts h)) (reading_if i (slice_get d.harts h)) ≡ measure_of t plan a b n h turns s)
    → difference (readings i harts c) (readings i harts d) ≡ measure t plan harts a b n turns s
sums t plan i [] a b n turns s c d f = refl
sums t plan i (h ∷ harts) a b n turns s c d f =
    difference_of_sums (reading_if i (slice_get c.harts h)) (readings i harts c) (reading_if i (slice_get d.harts h)) (readings i harts d)
    ∙ (ap (λ x. (x + difference (readings i harts c) (readings i harts d)) % 2 ^ 64) (f h)
    ∙ ap (λ x. (measure_of t plan a b n h turns s + x) % 2 ^ 64) (sums t plan i harts a b n turns s c d f))

-- ---- between two quiet moments

module _ (i : Placed) (plan : Plan) (families ages : ℕ → ℕ) (many : length i.slots ≡ length i.vars) (vars : i.vars ≡ plan.vars) where
  -- a reading is what is measured of the level
  reads : (c : Core) (s : Plain) (v : ℕ → Level) → Known i plan families ages c s v → IsQuiet c → (h : ℕ) (x : Hart) (y : PlainHart) → slice_get c.harts h ≡ Some x → slice_get s.harts h ≡ Some y → reading i x ≡ measured plan (v h) % 2 ^ 64
  reads c s v k q h x y ex ey =
      reads_level i.slots i.vars (length i.vars) _ (v h) x.bank x.ticks many refl (quiet_reads i plan families ages c s v k h x y ex ey (q h x ex))
      ∙ ap (λ l. (if is_timer l then (v h).runs else slice_index (v h).values 0) % 2 ^ 64) vars

  both : (t : Words) (c d : Core) (s : Plain) (turns : List ℕ) (v : ℕ → Level) → Known i plan families ages c s v → Known i plan families ages d (run_from t turns s) (λ j. level t plan j turns s (v j)) → IsQuiet c → IsQuiet d
      → (h : ℕ) → difference (reading_if i (slice_get c.harts h)) (reading_if i (slice_get d.harts h)) ≡ difference (measured plan (v h)) (measured plan (level t plan h turns s (v h)))
  both t c d s turns v k r qc qd h = ⊎_elim there absent (cases_lt h (length s.harts))
    where
      there : h < length s.harts → difference (reading_if i (slice_get c.harts h)) (reading_if i (slice_get d.harts h)) ≡ difference (measured plan (v h)) (measured plan (level t plan h turns s (v h)))
      there l =
          let mc = (k.inv).many in
          let md = (r.inv).many in
          let n = length-run_from t turns s in
          let x = some_at c.harts h (omega arith) in
          let y = some_at s.harts h l in
          let z = some_at d.harts h (omega arith) in
          let u = some_at (run_from t turns s).harts h (omega arith) in
          let a = reads c s v k qc h x.0 y.0 x.1 y.1 in
          let b = reads d (run_from t turns s) (λ j. level t plan j turns s (v j)) r qd h z.0 u.0 z.1 u.1 in
          ap (λ o. difference (reading_if i o) (reading_if i (slice_get d.harts h))) x.1
          ∙ (ap (λ o. difference (reading i x.0) (reading_if i o)) z.1
          ∙ (ap (λ n. difference n (reading i z.0)) a
          ∙ (ap (λ n. difference (measured plan (v h) % 2 ^ 64) n) b ∙ low_difference (measured plan (v h)) (measured plan (level t plan h turns s (v h))))))

      absent : length s.harts ≤ h → difference (reading_if i (slice_get c.harts h)) (reading_if i (slice_get d.harts h)) ≡ difference (measured plan (v h)) (measured plan (level t plan h turns s (v h)))
      absent l =
          let mc = (k.inv).many in
          let md = (r.inv).many in
          let n = length-run_from t turns s in
          let x = slice_get_past c.harts h (omega arith) in
          let z = slice_get_past d.harts h (omega arith) in
          ap (λ o. difference (reading_if i o) (reading_if i (slice_get d.harts h))) x
          ∙ (ap (λ o. difference 0 (reading_if i o)) z
          ∙ (sym (no_difference (measured plan (v h))) ∙ ap (λ w. difference (measured plan (v h)) (measured plan w)) (sym (no_level t plan h turns s (v h) l))))

-- ---- the law

module _ (image : Image) (n budget : ℕ) (i : Placed) (plan : Plan) (harts : List ℕ) (before first rest : List Event) (p : IsProgram image) (cap : budget < 2 ^ 58) (m : IsMeasurable plan)
    (legal : Legal (before ++ Arm i ∷ (first ++ rest)) (start_core image n budget)) (k : Carries (replay before (start_core image n budget)) i plan) (spared : IsSpared (replay before (start_core image n budget)) i)
    (lets : AllLet i (first ++ rest)) (earlier : IsQuiet (replay (before ++ Arm i ∷ first) (start_core image n budget))) (now : IsQuiet (replay (before ++ Arm i ∷ (first ++ rest)) (start_core image n budget))) where
  abbrev t : Words
  t = program_of image

  abbrev c0 : Core
  c0 = start_core image n budget

  abbrev s0 : Plain
  s0 = start image n

  -- where it is armed
  abbrev c1 : Core
  c1 = replay before c0

  abbrev s1 : Plain
  s1 = run_from t (owns before c0) s0

  abbrev armed : Core
  armed = after_event c1 (Arm i)

  abbrev c2 : Core
  c2 = replay first armed

  abbrev c3 : Core
  c3 = replay rest c2

  parts : Legal before c0 × Legal (Arm i ∷ (first ++ rest)) c1
  parts = legal-parts before (Arm i ∷ (first ++ rest)) c0 legal

  since : Legal first armed × Legal rest c2
  since = legal-parts first rest armed parts.1.1

  stays : (es : List Event) (c : Core) → (replay es c).budget ≡ c.budget
  stays [] c = refl
  stays (e ∷ es) c = stays es (after_event c e) ∙ (fixed c e).1

  program_stays : (es : List Event) (c : Core) → (replay es c).program ≡ c.program
  program_stays [] c = refl
  program_stays (e ∷ es) c = program_stays es (after_event c e) ∙ (fixed c e).0

  low : (es : List Event) (c : Core) → c.budget < 2 ^ 58 → (replay es c).budget < 2 ^ 58
  low es c l = subst (λ b. b < 2 ^ 58) (sym (stays es c)) l

  first_ticks : AreWithin budget s0
  first_ticks h y e = let k = starts n 0 n h image y e in let z : y.ticks ≡ 0 = ap (λ (u : PlainHart). u.ticks) k.1 in omega arith

  known : (families : ℕ → ℕ) × (ages : ℕ → ℕ) × Known i plan families ages armed s1 (λ h. opening_level plan s1 h)
  known =
      let a = all_events before t budget c0 s0 refl refl (begins image n budget p) parts.0 in
      let w = within_run t budget (owns before c0) s0 a.0 first_ticks in
      (families_in (a.1).ps, ages_in (a.1).ps, arms_known c1 s1 a.1 i plan parts.1.0 k spared m (low before c0 cap) (subst (λ b. AreWithin b s1) (sym (stays before c0)) w))

  wide : (c : Core) → c.budget < 2 ^ 58 → c.budget < 2 ^ 64
  wide c l = omega arith

  cores : (replay (before ++ Arm i ∷ first) c0 ≡ c2) × (replay (before ++ Arm i ∷ (first ++ rest)) c0 ≡ c3)
  cores = (replay-append before (Arm i ∷ first) c0, replay-append before (Arm i ∷ (first ++ rest)) c0 ∙ replay-append first rest armed)

  differ : (h : ℕ) → difference (reading_if i (slice_get c2.harts h)) (reading_if i (slice_get c3.harts h))
      ≡ difference (measured plan (level t plan h (owns first armed) s1 (opening_level plan s1 h))) (measured plan (level t plan h (owns rest c2) (run_from t (owns first armed) s1) (level t plan h (owns first armed) s1 (opening_level plan s1 h))))
  differ h =
      let q = known in
      let l = all_let i first rest lets in
      let cap1 = low before c0 cap in
      let e1 : armed.program ≡ t = (fixed c1 (Arm i)).0 ∙ program_stays before c0 in
      let e2 : c2.program ≡ t = program_stays first armed ∙ e1 in
      let cap2 = low first armed (subst (λ b. b < 2 ^ 58) (sym (fixed c1 (Arm i)).1) cap1) in
      let k1 = all_since i plan q.0 q.1 first t armed s1 (λ h. opening_level plan s1 h) e1 (wide armed (subst (λ b. b < 2 ^ 58) (sym (fixed c1 (Arm i)).1) cap1)) q.2 since.0 l.0 in
      let k2 = all_since i plan q.0 q.1 rest t c2 (run_from t (owns first armed) s1) (λ j. level t plan j (owns first armed) s1 (opening_level plan s1 j)) e2 (wide c2 cap2) k1 since.1 l.1 in
      both i plan q.0 q.1 k.many k.vars t c2 c3 (run_from t (owns first armed) s1) (owns rest c2) (λ j. level t plan j (owns first armed) s1 (opening_level plan s1 j)) k1 k2
      (subst IsQuiet cores.0 earlier) (subst IsQuiet cores.1 now) h

  -- the ticks
  turns_first : owns (before ++ Arm i ∷ first) c0 ≡ owns before c0 ++ owns first armed
  turns_first = owns-append before (Arm i ∷ first) c0

  turns_all : owns (before ++ Arm i ∷ (first ++ rest)) c0 ≡ owns before c0 ++ (owns first armed ++ owns rest c2)
  turns_all = owns-append before (Arm i ∷ (first ++ rest)) c0 ∙ ap (λ l. owns before c0 ++ l) (owns-append first rest armed)

  measured_so : difference (readings i harts c2) (readings i harts c3)
      ≡ measure t plan harts (length (owns before c0)) (length (owns before c0) + length (owns first armed)) (length (owns before c0) + (length (owns first armed) + length (owns rest c2))) (owns before c0 ++ (owns first armed ++ owns rest c2)) s0
  measured_so =
      sums t plan i harts (length (owns before c0)) (length (owns before c0) + length (owns first armed)) (length (owns before c0) + (length (owns first armed) + length (owns rest c2))) (owns before c0 ++ (owns first armed ++ owns rest c2)) s0 c2 c3
      (λ h. differ h
      ∙ (ap (λ v. difference (measured plan v) (measured plan (level t plan h (owns rest c2) (run_from t (owns first armed) s1) (level t plan h (owns first armed) s1 (opening_level plan s1 h))))) (sym (level_first t plan h (owns before c0) (owns first armed) (owns rest c2) s0))
      ∙ ap (λ v. difference (measured plan (level_at t plan h (length (owns before c0)) (length (owns before c0) + length (owns first armed)) (owns before c0 ++ (owns first armed ++ owns rest c2)) s0)) (measured plan v)) (sym (level_second t plan h (owns before c0) (owns first armed) (owns rest c2) s0))))

  pub so : difference (readings i harts (replay (before ++ Arm i ∷ first) c0)) (readings i harts (replay (before ++ Arm i ∷ (first ++ rest)) c0))
      ≡ measure t plan harts (ticks_of before c0) (ticks_of (before ++ Arm i ∷ first) c0) (ticks_of (before ++ Arm i ∷ (first ++ rest)) c0) (owns (before ++ Arm i ∷ (first ++ rest)) c0) s0
  so =
      let e1 : ticks_of (before ++ Arm i ∷ first) c0 ≡ length (owns before c0) + length (owns first armed) = ap length turns_first ∙ length-append (owns before c0) (owns first armed) in
      let e2 : ticks_of (before ++ Arm i ∷ (first ++ rest)) c0 ≡ length (owns before c0) + (length (owns first armed) + length (owns rest c2)) =
      ap length turns_all ∙ (length-append (owns before c0) (owns first armed ++ owns rest c2) ∙ ap (λ n. length (owns before c0) + n) (length-append (owns first armed) (owns rest c2))) in
      ap (λ z. difference (readings i harts z) (readings i harts (replay (before ++ Arm i ∷ (first ++ rest)) c0))) cores.0
      ∙ (ap (λ z. difference (readings i harts c2) (readings i harts z)) cores.1
      ∙ (measured_so
      ∙ (ap (λ l. measure t plan harts (ticks_of before c0) (length (owns before c0) + length (owns first armed)) (length (owns before c0) + (length (owns first armed) + length (owns rest c2))) l s0) (sym turns_all)
      ∙ (ap (λ z. measure t plan harts (ticks_of before c0) z (length (owns before c0) + (length (owns first armed) + length (owns rest c2))) (owns (before ++ Arm i ∷ (first ++ rest)) c0) s0) (sym e1)
      ∙ ap (λ z. measure t plan harts (ticks_of before c0) (ticks_of (before ++ Arm i ∷ first) c0) z (owns (before ++ Arm i ∷ (first ++ rest)) c0) s0) (sym e2)))))

pub readings_measure : ReadingsMeasure
readings_measure image n budget i plan harts es p cap m legal r =
    let f = r.force in
    let is : es ≡ f.before ++ Arm i ∷ (r.first ++ r.rest) = f.is ∙ ap (λ l. f.before ++ Arm i ∷ l) r.parts in
    subst
    (λ (l : List Event). difference (readings i harts (replay (f.before ++ Arm i ∷ r.first) (start_core image n budget))) (readings i harts (replay l (start_core image n budget)))
    ≡ measure (program_of image) plan harts (ticks_of f.before (start_core image n budget)) (ticks_of (f.before ++ Arm i ∷ r.first) (start_core image n budget)) (ticks_of l (start_core image n budget)) (owns l (start_core image n budget)) (start image n))
    (sym is)
    (so image n budget i plan harts f.before r.first r.rest p (omega arith) m (subst (λ l. Legal l (start_core image n budget)) is legal) r.carries f.spared (subst (AllLet i) r.parts f.lets) r.earlier
    (subst (λ l. IsQuiet (replay l (start_core image n budget))) is r.now))
