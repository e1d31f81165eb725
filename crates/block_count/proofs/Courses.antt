-- All that happens while blocks are counted may happen when it comes.
use Rattle.std.proofs.Common.{◌≡◌, ℕ, zero, suc, ◌+◌, ◌*◌, ◌≤◌, List, [], ◌∷◌, ◌++◌, length, Option, Some, None, refl, sym, ap, ◌∙◌, subst, arith, inl, inr, ⊎_elim}
use Rattle.std.specs.Prelude.{map, slice_get}
use Rattle.std.specs.FinMap.{get, from_entries}
use Rattle.std.specs.List.{flat_map}
use Rattle.std.proofs.lemmas.List.{length-map}
use Rattle.pn_types.specs.Images.{IsImage}
use Rattle.pn_types.specs.declared.code.Proc.{Proc}
use Rattle.pn_types.specs.declared.image.Image.{Image}
use Rattle.pn_types.specs.declared.limits.TheConstants.{MAX_QUANTA}
use Rattle.pn_types.specs.declared.placed.PlacedSite.{PlacedSite}
use Rattle.rv_word.specs.Plain.{PlainHart, Words, program_word}
use Rattle.rv_mem.specs.Start.{program_of}
use Rattle.rv_exec.specs.Start.{harts_from}
use Rattle.turn_order.specs.declared.order.Order.{Order}
use Rattle.turn_order.specs.Orders.{order_after, order_of_seed, picked}
use Rattle.tramp_spec.specs.Banks.{bank_len, first_slot}
use Rattle.tramp_spec.specs.Codes.{Code, text_code, text_entries, tool_at}
use Rattle.tramp_spec.specs.Harts.{Hart}
use Rattle.tramp_spec.specs.Marks.{own}
use Rattle.code_store.proofs.Beginnings.{words_end}
use Rattle.machine.specs.Cores.{In, Core, first_hart, start_core}
use Rattle.machine.specs.Effects.{after_event, armed_hart}
use Rattle.machine.specs.Events.{IsLinked, IsQuiet, MayArm, AreOutside}
use Rattle.machine.specs.Laws.{IsProgram}
use Rattle.machine.specs.Reached.{IsReached}
use Rattle.machine.specs.Replays.{Legal, replay}
use Rattle.machine.specs.States.{quantum_turns, settling}
use Rattle.machine.specs.Turns.{is_runnable}
use Rattle.machine.proofs.Arming.{get_map}
use Rattle.machine.proofs.Lists.{get_other, get_same}
use Rattle.machine.proofs.Quanta.{quanta_are_legal}
use Rattle.machine.proofs.Replaying.{legal-append, replay-append}
use Rattle.machine.proofs.Settled.{reaches_all, settled_quiet, settles_from}
use Rattle.machine.proofs.Texts.{in_text}
use Rattle.block_count.specs.Counters.{Counter, mini_at, placed_of}
use Rattle.block_count.specs.Course.{Pace, all_quanta, and_then, arming, beginning, block_events, course_of, placing, quanta_from, sampling, turns_of}
use Rattle.block_count.specs.CountedBlocks.{counters_of}
use Rattle.block_count.specs.Heads.{heads_of}
use Rattle.block_count.proofs.Chains.{Room, ascend_from, chain, heads_in_order}
use Rattle.block_count.proofs.Going.{Has, Stood, Ends, all_placed}
use Rattle.block_count.proofs.Placed.{mini_row}

-- ---- the beginning

abbrev codes : ℕ → List ℕ → Code
codes at ws = from_entries (text_entries at ws)

text_word : (at : ℕ) (ws : List ℕ) (i w : ℕ) → slice_get ws i ≡ Some w → get (codes at ws) (at + 4 * i) ≡ Some (own w)
text_word at [] i w e = absurd cc
text_word at (v ∷ vs) zero w e =
    let here : at + 4 * 0 ≡ at = omega arith in
    ap (λ a. get (codes at (v ∷ vs)) a) here ∙ (get_same (codes (at + 4) vs) at (own v) ∙ cc e)
text_word at (v ∷ vs) (suc i) w e =
    let on : at + 4 * suc i ≡ at + 4 + 4 * i = omega arith in
    get_other (codes (at + 4) vs) at (at + 4 * suc i) (own v) (λ z. omega arith)
    ∙ (ap (λ a. get (codes (at + 4) vs) a) on ∙ text_word (at + 4) vs i w e)

text_stands : (t : Words) (q w : ℕ) → program_word t q ≡ Some w → get (text_code t) q ≡ Some (own w)
text_stands t q w e = let i = in_text t q w e in subst (λ a. get (text_code t) a ≡ Some (own w)) (sym i.at) (text_word t.at t.words i.i w i.is)

first_stood : (image : Image) (n budget : ℕ) → Stood [] 0 (tool_at (program_of image)) (start_core image n budget)
first_stood image n budget =
    record {
      ready = record { live = λ r h. absurd h; points = λ r h. absurd h; ends = λ r h. absurd h; text = λ q w l e. text_stands (program_of image) q w e };
      all = λ j h. absurd h;
      minis = λ x h m. absurd h;
    }

outside_by : (ys : List PlainHart) → AreOutside (map first_hart ys)
outside_by [] h x e = absurd cc
outside_by (y ∷ ys) zero x e = let s : first_hart y ≡ x = cc in sym (ap (λ (z : Hart). z.inside) s)
outside_by (y ∷ ys) (suc h) x e = outside_by ys h x e

pub first_quiet : (image : Image) (n budget : ℕ) → IsQuiet (start_core image n budget)
first_quiet image n budget = outside_by (harts_from n 0 image n)

-- ---- arming

pub armed_quiet : (c : Core) (k : Counter) → IsQuiet c → IsQuiet (after_event c (arming k))
armed_quiet c k quiet h x e =
    let m = get_map (armed_hart c (placed_of k)) c.harts h x e in
    ap (λ (z : Hart). z.inside) m.2 ∙ quiet h m.0 m.1

may_arm : (c : Core) (k : Counter) → IsQuiet c → Has k c → MayArm c (placed_of k)
may_arm c k quiet h =
    record {
      quiet = quiet;
      linked = λ s is. ⊎_elim (λ (e : s ≡ record { at = k.point; mini = mini_at k }). subst (λ (u : PlacedSite). IsLinked c u) (sym e)
          (record { row = mini_row k; listed = h.mini; mini = refl; point = refl; at = refl; is = refl }, record { jump = _; stands = h.entered })) (λ n. absurd n) is;
    }

pub record Arms (ks : List Counter) (c : Core) : Type 0 where
  pub legal : Legal (map arming ks) c
  pub quiet : IsQuiet (replay (map arming ks) c)
  pub len : length (replay (map arming ks) c).harts ≡ length c.harts
  pub harts : List Hart
  pub is : replay (map arming ks) c ≡ record c { harts = harts }
  pub has : (j : Counter) → Has j c → Has j (replay (map arming ks) c)

pub all_armed : (ks : List Counter) (c : Core) → IsQuiet c → ((j : Counter) → In j ks → Has j c) → Arms ks c
all_armed [] c quiet has = record { legal = tt; quiet = quiet; len = refl; harts = c.harts; is = refl; has = λ j h. h }
all_armed (k ∷ ks) c quiet has =
    let still : (j : Counter) → Has j c → Has j (after_event c (arming k)) = λ j h. record { mini = h.mini; words = h.words; entered = h.entered } in
    let rest = all_armed ks (after_event c (arming k)) (armed_quiet c k quiet) (λ j h. still j (has j (inr h))) in
    record { legal = (may_arm c k quiet (has k (inl refl)), rest.legal); quiet = rest.quiet; len = rest.len ∙ length-map c.harts (armed_hart c (placed_of k)); harts = rest.harts; is = rest.is; has = λ j h. rest.has j (still j h) }

-- ---- the counters of a program

pub slots_are : bank_len ≡ 4096
unfolding bank_len
slots_are = refl

pub placed_all : (image : Image) (procs : List Proc) (n budget : ℕ) → IsImage image → length (counters_of image procs) ≤ 4094 → Ends [] (counters_of image procs) (start_core image n budget)
placed_all image procs n budget i few =
    let t = program_of image in
    let end = words_end image t.words i refl in
    let all = slots_are in
    let room : Room t first_slot (tool_at t) (length (counters_of image procs)) = record { aligned = omega arith; low = omega arith; least = omega arith; slots = omega arith; words = omega arith } in
    all_placed (counters_of image procs) [] 0 (tool_at t) (start_core image n budget) (first_stood image n budget)
    (chain t (heads_of image procs) 0 first_slot (tool_at t) (ascend_from image.text_at 0 (heads_of image procs) (omega arith) (heads_in_order image procs)) room) (omega arith)

pub record Begins (ks : List Counter) (c : Core) : Type 0 where
  pub legal : Legal (beginning ks) c
  pub quiet : IsQuiet (replay (beginning ks) c)
  pub len : length (replay (beginning ks) c).harts ≡ length c.harts

pub begins : (image : Image) (procs : List Proc) (n budget : ℕ) → IsImage image → length (counters_of image procs) ≤ 4094 → Begins (counters_of image procs) (start_core image n budget)
begins image procs n budget i few =
    let ks = counters_of image procs in
    let c = start_core image n budget in
    let p = placed_all image procs n budget i few in
    let d = replay (flat_map placing ks) c in
    let a = all_armed ks d (subst (λ xs. AreOutside xs) (sym p.harts) (first_quiet image n budget)) (λ j h. (p.stood.all j h).0) in
    record {
      legal = legal-append (flat_map placing ks) (map arming ks) c p.legal a.legal;
      quiet = subst IsQuiet (sym (replay-append (flat_map placing ks) (map arming ks) c)) a.quiet;
      len = ap (λ (d : Core). length d.harts) (replay-append (flat_map placing ks) (map arming ks) c) ∙ (a.len ∙ ap length p.harts);
    }

pub first_len : (image : Image) (n budget : ℕ) → length (start_core image n budget).harts ≡ n
first_len image n budget = length-map (harts_from n 0 image n) first_hart ∙ by n 0
  where
    by : (more h : ℕ) → length (harts_from more h image n) ≡ more
    by zero h = refl
    by (suc more) h = ap suc (by more (h + 1))

-- ---- the turns

quanta_legal : (more : ℕ) (p : Pace) (order : Order) (c : Core) → Legal (quanta_from more p order c) c
quanta_legal zero p order c = tt
quanta_legal (suc more) p order c = by (picked order (is_runnable c) p.harts) (λ h. quanta_legal more p (order_after order h) (replay (quantum_turns p.turns h c) c))
  where
    by : (o : Option ℕ) → ((h : ℕ) → Legal (quanta_from more p (order_after order h) (replay (quantum_turns p.turns h c) c)) (replay (quantum_turns p.turns h c) c))
        → Legal (elim o [ None ↦ [] | Some h ↦ and_then (quantum_turns p.turns h c) (quanta_from more p (order_after order h)) c ]) c
    by None rest = tt
    by (Some h) rest =
        let d = replay (quantum_turns p.turns h c) c in
        legal-append (quantum_turns p.turns h c) (quanta_from more p (order_after order h) d) c (quanta_are_legal p.turns h c).legal (rest h)

all_legal : (p : Pace) (c : Core) → Legal (all_quanta p c) c
unfolding all_quanta
all_legal p c = quanta_legal MAX_QUANTA p (order_of_seed p.seed) c

pub record Turns (p : Pace) (c : Core) : Type 0 where
  pub legal : Legal (turns_of p c) c
  pub quiet : IsQuiet (replay (turns_of p c) c)

pub turns_legal : (p : Pace) (c : Core) → IsReached c → Turns p c
turns_legal p c r =
    let es = all_quanta p c in
    let d = replay es c in
    let q = reaches_all es c r (all_legal p c) in
    record {
      legal = legal-append es (settling d) c (all_legal p c) (settles_from (length d.harts) 0 d q (λ j l. absurd (omega arith))).legal;
      quiet = subst IsQuiet (sym (replay-append es (settling d) c)) (settled_quiet d q);
    }

-- ---- sampling

samples_legal : (ks : List Counter) (c : Core) → IsQuiet c → Legal (map sampling ks) c
samples_legal [] c quiet = tt
samples_legal (k ∷ ks) c quiet = (quiet, samples_legal ks c quiet)

pub samples_stay : (ks : List Counter) (c : Core) → replay (map sampling ks) c ≡ c
samples_stay [] c = refl
samples_stay (k ∷ ks) c = samples_stay ks c

-- ---- all

pub course_legal : (p : Pace) (ks : List Counter) (c : Core) → IsReached c → Begins ks c → Legal (course_of p ks c) c
course_legal p ks c r b =
    let begun = replay (beginning ks) c in
    let q = reaches_all (beginning ks) c r b.legal in
    let t = turns_legal p begun q in
    legal-append (beginning ks) (turns_of p begun ++ map sampling ks) c b.legal
    (legal-append (turns_of p begun) (map sampling ks) begun t.legal (samples_legal ks (replay (turns_of p begun) begun) t.quiet))

pub first_reached : (image : Image) (n budget : ℕ) → IsProgram image → IsReached (start_core image n budget)
first_reached image n budget p = record { image = image; many = n; events = []; program = p; legal = tt; is = refl }

pub events_legal : (image : Image) (procs : List Proc) (budget : ℕ) (p : Pace) → IsProgram image → length (counters_of image procs) ≤ 4094 → Legal (block_events image procs budget p) (start_core image p.harts budget)
events_legal image procs budget p program few = course_legal p (counters_of image procs) (start_core image p.harts budget) (first_reached image p.harts budget program) (begins image procs p.harts budget program.image few)

-- after its turns the machine is quiet
pub rests : (image : Image) (procs : List Proc) (budget : ℕ) (p : Pace) → IsProgram image → length (counters_of image procs) ≤ 4094
    → IsQuiet (replay (turns_of p (replay (beginning (counters_of image procs)) (start_core image p.harts budget))) (replay (beginning (counters_of image procs)) (start_core image p.harts budget)))
rests image procs budget p program few =
    let ks = counters_of image procs in
    let first = start_core image p.harts budget in
    (turns_legal p (replay (beginning ks) first) (reaches_all (beginning ks) first (first_reached image p.harts budget program) (begins image procs p.harts budget program.image few).legal)).quiet
