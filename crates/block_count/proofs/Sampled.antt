-- After its course each counter of a program reads the positions of its word.
use Rattle.std.proofs.Common.{◌≡◌, ℕ, zero, suc, ◌+◌, ◌-◌, ◌%◌, ◌^◌, ◌≤◌, List, [], ◌∷◌, ◌++◌, length, Option, Some, None, refl, sym, ap, ◌∙◌, subst, arith, inl, inr, append_assoc}
use Rattle.std.specs.Prelude.{map, slice_get, sum}
use Rattle.std.specs.List.{flat_map, range_with_len}
use Rattle.std.specs.Option.{option_map}
use Rattle.std.proofs.lemmas.List.{map-append}
use Rattle.std.proofs.lemmas.List.Sums.{sum_by-cons}
use Rattle.pn_types.specs.declared.code.Proc.{Proc}
use Rattle.pn_types.specs.declared.image.Image.{Image}
use Rattle.pn_types.specs.declared.limits.TheConstants.{MAX_BUDGET}
use Rattle.pn_types.specs.declared.placed.Placed.{Placed}
use Rattle.rv_word.specs.Plain.{Words}
use Rattle.rv_mem.specs.Start.{program_of}
use Rattle.rv_exec.specs.Run.{executions, trace}
use Rattle.rv_exec.proofs.Runs.{length-run_from}
use Rattle.rv_exec.specs.Start.{start, harts_from}
use Rattle.tramp_spec.specs.Banks.{bank_len, first_slot}
use Rattle.tramp_spec.specs.Codes.{tool_at}
use Rattle.tramp_spec.specs.Harts.{Hart}
use Rattle.machine.specs.Cores.{In, Core, start_core}
use Rattle.machine.specs.Effects.{after_event}
use Rattle.machine.specs.Events.{Event, IsQuiet, AreOutside}
use Rattle.machine.specs.Instruments.{Carries, IsSpared, reading}
use Rattle.machine.specs.Laws.{IsProgram}
use Rattle.machine.specs.Measures.{difference, measure}
use Rattle.machine.specs.Readings.{IsSampled, readings, reading_if}
use Rattle.machine.specs.Replays.{owns, replay}
use Rattle.machine.proofs.Erasing.{erasure}
use Rattle.machine.proofs.Readings.{readings_measure}
use Rattle.machine.proofs.Replaying.{owns-append, replay-append}
use Rattle.block_count.specs.declared.block_head.BlockHead.{BlockHead}
use Rattle.block_count.specs.declared.counted_block.CountedBlock.{CountedBlock}
use Rattle.block_count.specs.Counted.{passes_of}
use Rattle.block_count.specs.Counters.{Counter, end_of, placed_of, plan_at}
use Rattle.block_count.specs.Course.{Pace, arming, block_events, placing, sampling, turns_of}
use Rattle.block_count.specs.Heads.{heads_of}
use Rattle.block_count.specs.Readings.{counter_read}
use Rattle.block_count.specs.CountedBlocks.{counter_for, counters_in, counters_of, counted_from, counted_blocks_of}
use Rattle.block_count.proofs.Answered.{CountsAre, begun, course_is, run_of, settled}
use Rattle.block_count.proofs.Chains.{is_for}
use Rattle.block_count.proofs.Courses.{Arms, all_armed, armed_quiet, events_legal, first_quiet, placed_all, rests, slots_are}
use Rattle.block_count.proofs.Forces.{arming_owns, carries, measurable, placing_owns, reads_0, since_let, spared}
use Rattle.block_count.proofs.Going.{Stood, Ends, stood_with}
use Rattle.block_count.proofs.Measured.{measures_positions}
use Rattle.block_count.proofs.Slots.{Parted, Slots, parted, slots_follow}

-- ---- readings of all harts

readings_from : (i : Placed) (c : Core) (xs : List Hart) (b : ℕ) → ((h : ℕ) → slice_get c.harts (b + h) ≡ slice_get xs h) → readings i (range_with_len b (length xs)) c ≡ sum (map (reading i) xs) % 2 ^ 64
readings_from i c [] b same = refl
readings_from i c (x ∷ xs) b same =
    let z : b + 0 ≡ b = omega arith in
    let here : slice_get c.harts b ≡ Some x = ap (slice_get c.harts) (sym z) ∙ same 0 in
    let rest = readings_from i c xs (b + 1) (λ h. let e : b + 1 + h ≡ b + suc h = omega arith in ap (slice_get c.harts) e ∙ same (suc h)) in
    let one = reading i x in
    let more = sum (map (reading i) xs) in
    let m : (one + more % 2 ^ 64) % 2 ^ 64 ≡ (one + more) % 2 ^ 64 = omega arith in
    ap (λ o. (reading_if i o + readings i (range_with_len (b + 1) (length xs)) c) % 2 ^ 64) here ∙ ap (λ n. (one + n) % 2 ^ 64) rest ∙ m ∙ ap (λ n. n % 2 ^ 64) (sym (sum_by-cons (λ (n : ℕ). n) one (map (reading i) xs)))

readings_all : (i : Placed) (c : Core) → readings i (range_with_len 0 (length c.harts)) c ≡ sum (map (reading i) c.harts) % 2 ^ 64
readings_all i c = readings_from i c c.harts 0 (λ h. let z : 0 + h ≡ h = omega arith in ap (slice_get c.harts) z)

first_harts : (image : Image) (n : ℕ) → length (start image n).harts ≡ n
first_harts image n = by n 0
  where
    by : (more h : ℕ) → length (harts_from more h image n) ≡ more
    by zero h = refl
    by (suc more) h = ap suc (by more (h + 1))

-- ---- one counter of a program

in_front : {A : Type 0} (xs ys : List A) (x : A) → In x xs → In x (xs ++ ys)
in_front [] ys x h = absurd h
in_front (z ∷ xs) ys x (inl e) = inl e
in_front (z ∷ xs) ys x (inr h) = inr (in_front xs ys x h)

module _ (image : Image) (procs : List Proc) (budget : ℕ) (p : Pace) (program : IsProgram image) (few : length (counters_of image procs) ≤ 4094) (low : budget ≤ MAX_BUDGET) (k : Counter) (here : In k (counters_of image procs)) where
  abbrev ks : List Counter
  ks = counters_of image procs

  abbrev first : Core
  first = start_core image p.harts budget

  abbrev es : List Event
  es = block_events image procs budget p

  there : Ends [] ks first
  there = placed_all image procs p.harts budget program.image few

  slots : Slots first_slot ks
  slots = slots_follow (program_of image) (heads_of image procs) first_slot (tool_at (program_of image))

  part : Parted k ks
  part = parted first_slot ks k slots here

  -- what happens before its arming, and since
  abbrev before : List Event
  before = flat_map placing ks ++ map arming part.front

  abbrev since : List Event
  since = map arming part.back ++ (turns_of p (begun image procs budget p) ++ map sampling ks)

  events_are : es ≡ before ++ arming k ∷ since
  events_are =
      let rest = turns_of p (begun image procs budget p) ++ map sampling ks in
      let arms : map arming ks ≡ map arming part.front ++ (arming k ∷ map arming part.back) = ap (map arming) part.is ∙ map-append arming part.front (k ∷ part.back) in
      ap (λ xs. (flat_map placing ks ++ xs) ++ rest) arms
      ∙ ap (λ xs. xs ++ rest) (sym (append_assoc (flat_map placing ks) (map arming part.front) (arming k ∷ map arming part.back)))
      ∙ append_assoc (flat_map placing ks ++ map arming part.front) (arming k ∷ map arming part.back) rest

  abbrev middle : Core
  middle = replay (flat_map placing ks) first

  armed_front : Arms part.front middle
  armed_front =
      all_armed part.front middle (subst (λ xs. AreOutside xs) (sym there.harts) (first_quiet image p.harts budget))
      (λ j h. (there.stood.all j (subst (λ (cs : List Counter). In j cs) (sym part.is) (in_front part.front (k ∷ part.back) j h))).0)

  -- the machine before the arming
  abbrev unarmed : Core
  unarmed = replay (map arming part.front) middle

  before_is : replay before first ≡ unarmed
  before_is = replay-append (flat_map placing ks) (map arming part.front) first

  stands : Stood ks there.p there.at unarmed
  stands = subst (Stood ks there.p there.at) (sym armed_front.is) (stood_with ks there.p there.at middle armed_front.harts there.stood)

  first_is : replay (before ++ arming k ∷ []) first ≡ after_event unarmed (arming k)
  first_is = replay-append before (arming k ∷ []) first ∙ ap (λ d. after_event d (arming k)) before_is

  sampled : IsSampled (placed_of k) (plan_at k.point) es first
  sampled =
      let all = slots_are in
      let room : first_slot + length ks ≤ bank_len = omega arith in
      record {
        force = record {
          before = before;
          since = since;
          is = events_are;
          spared = subst (λ (d : Core). IsSpared d (placed_of k)) (sym before_is) (spared k ks there.p there.at unarmed stands slots room here);
          lets = since_let k part.back ks p (begun image procs budget p) part.later;
        };
        carries = subst (λ (d : Core). Carries d (placed_of k) (plan_at k.point)) (sym before_is) (carries k ks there.p there.at unarmed stands slots room here);
        first = [];
        rest = since;
        parts = refl;
        earlier = subst IsQuiet (sym first_is) (armed_quiet unarmed k armed_front.quiet);
        now = subst IsQuiet (sym (course_is image procs budget p)) (rests image procs budget p program few);
      }

  owns_before : owns before first ≡ []
  owns_before = owns-append (flat_map placing ks) (map arming part.front) first ∙ ap (λ xs. xs ++ owns (map arming part.front) middle) (placing_owns ks first) ∙ arming_owns part.front middle

  owns_first : owns (before ++ arming k ∷ []) first ≡ []
  owns_first = owns-append before (arming k ∷ []) first ∙ ap (λ xs. xs ++ owns (arming k ∷ []) (replay before first)) owns_before

  many : length (settled image procs budget p).harts ≡ p.harts
  many =
      let run = run_of image procs budget p in
      let legal = events_legal image procs budget p program few in
      let same = (erasure image p.harts budget es program legal).same in
      ap (λ (d : Core). length d.harts) (sym (course_is image procs budget p)) ∙ (same.many ∙ (length-run_from (program_of image) run (start image p.harts) ∙ first_harts image p.harts))

  pub reads_positions : counter_read (settled image procs budget p) k ≡ executions k.point (trace image p.harts (run_of image procs budget p)) % 2 ^ 64
  unfolding sampled
  reads_positions =
      let i = placed_of k in
      let plan = plan_at k.point in
      let t = program_of image in
      let end = settled image procs budget p in
      let run = run_of image procs budget p in
      let hs = range_with_len 0 p.harts in
      let s = start image p.harts in
      let law = readings_measure image p.harts budget i plan hs es program low (measurable k.point) (events_legal image procs budget p program few) sampled in
      let n = sum (map (reading i) end.harts) in
      let all : readings i hs end ≡ n % 2 ^ 64 = ap (λ m. readings i (range_with_len 0 m) end) (sym many) ∙ readings_all i end in
      let z : (n % 2 ^ 64 + (2 ^ 64 - 0 % 2 ^ 64)) % 2 ^ 64 ≡ n % 2 ^ 64 = omega arith in
      sym z ∙ ap (difference 0) (sym all)
      ∙ ap (λ m. difference m (readings i hs end)) (sym (ap (readings i hs) first_is ∙ reads_0 unarmed k hs))
      ∙ ap (λ d. difference (readings i hs (replay (before ++ arming k ∷ []) first)) (readings i hs d)) (sym (course_is image procs budget p))
      ∙ law
      ∙ ap (λ a. measure t plan hs (length a) (length (owns (before ++ arming k ∷ []) first)) (length run) run s) owns_before
      ∙ ap (λ a. measure t plan hs 0 (length a) (length run) run s) owns_first
      ∙ measures_positions t k.point p.harts run s (first_harts image p.harts)

-- ---- all blocks

-- a block's counter is one of the program's, and counts at its head
counted_there : (blocks : List CountedBlock) (s : CountedBlock) (k : Counter) → In s blocks → s.counter ≡ Some k → In k (counters_in blocks)
counted_there [] s k h e = absurd h
counted_there (x ∷ blocks) s k (inl i) e = by x.counter (ap (λ (y : CountedBlock). y.counter) (sym i) ∙ e)
  where
    by : (o : Option Counter) → o ≡ Some k → In k (elim o [ None ↦ counters_in blocks | Some c ↦ c ∷ counters_in blocks ])
    by None q = absurd cc
    by (Some c) q = let z : c ≡ k = cc in inl (sym z)
counted_there (x ∷ blocks) s k (inr h) e = by x.counter (counted_there blocks s k h e)
  where
    by : (o : Option Counter) → In k (counters_in blocks) → In k (elim o [ None ↦ counters_in blocks | Some c ↦ c ∷ counters_in blocks ])
    by None rest = rest
    by (Some c) rest = inr rest

-- where a block has a counter, its point is the block's head
abbrev CountsHead : CountedBlock → Type 0
CountsHead s = (k : Counter) → s.counter ≡ Some k → k.point ≡ s.head.at

count_heads : (t : Words) (heads : List BlockHead) (slot at : ℕ) (s : CountedBlock) → In s (counted_from t slot at heads) → CountsHead s
count_heads t [] slot at s h = absurd h
count_heads t (x ∷ heads) slot at s h = by (λ n a i. count_heads t heads n a s i) (counter_for t slot at x.at) refl h
  where
    by : ((n a : ℕ) → In s (counted_from t n a heads) → CountsHead s) → (o : Option Counter) → counter_for t slot at x.at ≡ o → In s (elim o [
      | None ↦ record { head = x; counter = None } ∷ counted_from t slot at heads
      | Some c ↦ record { head = x; counter = Some c } ∷ counted_from t (slot + 1) (end_of c) heads
    ]) → CountsHead s
    by rest None e (inl i) k q = let z : None ≡ Some k = sym (ap (λ (y : CountedBlock). y.counter) i) ∙ q in absurd cc
    by rest None e (inr i) k q = rest slot at i k q
    by rest (Some c) e (inl i) k q =
        let z : Some c ≡ Some k = sym (ap (λ (y : CountedBlock). y.counter) i) ∙ q in
        let same : c ≡ k = cc in
        ap (λ (y : Counter). y.point) (sym same) ∙ ap (λ (y : Counter). y.point) (is_for t slot at x.at c e).is ∙ ap (λ (y : CountedBlock). y.head.at) (sym i)
    by rest (Some c) e (inr i) k q = rest (slot + 1) (end_of c) i k q

map_same : {A B : Type 0} (f g : A → B) (xs : List A) → ((x : A) → In x xs → f x ≡ g x) → map f xs ≡ map g xs
map_same f g [] same = refl
map_same f g (x ∷ xs) same = ap (λ y. y ∷ map f xs) (same x (inl refl)) ∙ ap (λ ys. g x ∷ ys) (map_same f g xs (λ y h. same y (inr h)))

pub counts_are : (image : Image) (procs : List Proc) (budget : ℕ) (p : Pace) → IsProgram image → length (counters_of image procs) ≤ 4094 → budget ≤ MAX_BUDGET → CountsAre image procs budget p
counts_are image procs budget p program few low =
    map_same (λ s. option_map (counter_read (settled image procs budget p)) s.counter) (passes_of (trace image p.harts (run_of image procs budget p))) (counted_blocks_of image procs) (λ s h. by s h s.counter refl)
  where
    by : (s : CountedBlock) → In s (counted_blocks_of image procs) → (o : Option Counter) → s.counter ≡ o → option_map (counter_read (settled image procs budget p)) s.counter ≡ passes_of (trace image p.harts (run_of image procs budget p)) s
    by s h None e = ap (option_map (counter_read (settled image procs budget p))) e ∙ sym (ap (option_map (λ (k : Counter). executions s.head.at (trace image p.harts (run_of image procs budget p)) % 2 ^ 64)) e)
    by s h (Some k) e =
        let point = count_heads (program_of image) (heads_of image procs) first_slot (tool_at (program_of image)) s h k e in
        let reads = reads_positions image procs budget p program few low k (counted_there (counted_blocks_of image procs) s k h e) in
        ap (option_map (counter_read (settled image procs budget p))) e
        ∙ ap Some (reads ∙ ap (λ a. executions a (trace image p.harts (run_of image procs budget p)) % 2 ^ 64) point)
        ∙ sym (ap (option_map (λ (j : Counter). executions s.head.at (trace image p.harts (run_of image procs budget p)) % 2 ^ 64)) e)
