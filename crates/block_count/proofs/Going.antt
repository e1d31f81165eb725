-- Counters are placed one after another.
use Rattle.std.proofs.Common.{◌≡◌, ℕ, ◌+◌, ◌*◌, ◌<◌, ◌≤◌, List, [], ◌∷◌, ◌++◌, Some, refl, sym, ap, ◌∙◌, subst, arith, inl, inr, ⊎_elim, append_assoc}
use Rattle.std.specs.Prelude.{false, ◌⊎◌}
use Rattle.std.specs.FinMap.{get}
use Rattle.std.specs.List.{flat_map}
use Rattle.std.proofs.lemmas.Bool.{true≢false}
use Rattle.std.proofs.lemmas.List.{append-nil}
use Rattle.rv_word.specs.Plain.{Words}
use Rattle.tramp_spec.specs.Codes.{put_words, tool_at}
use Rattle.tramp_spec.specs.Harts.{Hart}
use Rattle.tramp_spec.specs.Jumps.{jump_word}
use Rattle.tramp_spec.specs.Marks.{enter, tool}
use Rattle.machine.specs.Cores.{In, Row, Core}
use Rattle.machine.specs.Replays.{Legal, replay}
use Rattle.machine.proofs.Lists.{AreWordsAt, get_other, get_same, in_snoc, put_words_other, put_words_stand, snoc_new, snoc_old, stands_other, stands_put}
use Rattle.machine.proofs.Replaying.{legal-append, replay-append}
use Rattle.machine.proofs.Texts.{text_low}
use Rattle.block_count.specs.Counters.{Counter, base_of, end_of, mini_at, mini_of}
use Rattle.block_count.specs.Course.{placing}
use Rattle.block_count.proofs.Bodies.{mini_len}
use Rattle.block_count.proofs.Placed.{Ready, Fits, base_row, mini_row, placed, places, code_chained, code_written}
use Rattle.block_count.proofs.Legal.{legal, text_stays}

-- ---- what stands

-- a counter stands in a machine: its mini block is live and has its words, and the point leads to its base
pub record Has (k : Counter) (c : Core) : Type 0 where
  pub mini : In (mini_row k) c.rows
  pub words : AreWordsAt c.code (mini_at k) (mini_of k).words
  pub entered : get c.code k.point ≡ Some (enter (jump_word k.point k.at))

-- a counter lies below others
pub record Below (j : Counter) (p at : ℕ) (t : Words) : Type 0 where
  pub point : j.point < p
  pub text : j.point + 4 ≤ tool_at t
  pub low : tool_at t ≤ mini_at j
  pub end : end_of j ≤ at

module _ (p at : ℕ) (c : Core) (k : Counter) (r : Ready p at c) (f : Fits p at c.program k) (low : tool_at c.program ≤ 0x60001000) where
  new_row : (x : Row) → In x (placed k c).rows → In x c.rows ⊎ ((x ≡ base_row k) ⊎ (x ≡ mini_row k))
  new_row x h = ⊎_elim (λ old. ⊎_elim (λ o. inl o) (λ e. inr (inl e)) (in_snoc c.rows (base_row k) x old)) (λ e. inr (inr e)) (in_snoc (c.rows ++ base_row k ∷ []) (mini_row k) x h)

  -- the machine after is ready for the next
  pub goes_on : Ready (k.point + 1) (end_of k) (placed k c)
  goes_on =
      let here = f.here in
      let there = f.there in
      let least = f.low in
      let five = mini_len k in
      record {
        live = λ x h. ⊎_elim (λ o. r.live x o) (λ e. ⊎_elim (λ b. ap (λ (u : Row). u.status) b) (λ m. ap (λ (u : Row). u.status) m) e) (new_row x h);
        points = λ x h. ⊎_elim (λ o. let l = r.points x o in omega arith) (λ e. ⊎_elim (λ (b : x ≡ base_row k). let i = ap (λ (u : Row). u.point) b in omega arith) (λ (m : x ≡ mini_row k). let i = ap (λ (u : Row). u.point) m in omega arith) e) (new_row x h);
        ends = λ x h. ⊎_elim (λ o. let l = r.ends x o in omega arith)
            (λ e. ⊎_elim (λ (b : x ≡ base_row k). subst (λ (u : Row). u.at + 4 * u.len ≤ end_of k) (sym b) (omega arith)) (λ (m : x ≡ mini_row k). subst (λ (u : Row). u.at + 4 * u.len ≤ end_of k) (sym m) (omega arith)) e) (new_row x h);
        text = λ q w l e.
            let t = text_low c.program q w e in
            get_other (code_chained k c.code) k.point q (enter (jump_word k.point k.at)) (λ i. omega arith) ∙ text_stays p at c k r f low q w (omega arith) (r.text q w (omega arith) e);
      }

  -- it stands there
  pub has : Has k (placed k c)
  has =
      let t = text_low c.program k.point f.word f.is in
      let least = f.low in
      record {
        mini = snoc_new (c.rows ++ base_row k ∷ []) (mini_row k);
        words = stands_other (code_chained k c.code) k.point (enter (jump_word k.point k.at)) (mini_at k) (mini_of k).words (inl (omega arith))
            (stands_other (code_written k c.code) (k.at + 4) (tool (jump_word (k.at + 4) (mini_at k))) (mini_at k) (mini_of k).words (inl (omega arith)) (put_words_stand (mini_at k) (mini_of k).words (put_words k.at (base_of k).words c.code)));
        entered = get_same (code_chained k c.code) k.point (enter (jump_word k.point k.at));
      }

  -- those that stood before still stand
  pub still : (j : Counter) → Below j p at c.program → Has j c → Has j (placed k c)
  still j b h =
      let t = text_low c.program k.point f.word f.is in
      let here = f.here in
      let there = f.there in
      let least = f.low in
      let five = mini_len j in
      let point = b.point in
      let text = b.text in
      let low_j = b.low in
      let end = b.end in
      record {
        mini = snoc_old (c.rows ++ base_row k ∷ []) (mini_row k) (mini_row j) (snoc_old c.rows (base_row k) (mini_row j) h.mini);
        words = stands_other (code_chained k c.code) k.point (enter (jump_word k.point k.at)) (mini_at j) (mini_of j).words (inl (omega arith))
            (stands_other (code_written k c.code) (k.at + 4) (tool (jump_word (k.at + 4) (mini_at k))) (mini_at j) (mini_of j).words (inr (omega arith))
            (stands_put (mini_at k) (mini_of k).words (put_words k.at (base_of k).words c.code) (mini_at j) (mini_of j).words (inl (omega arith))
            (stands_put k.at (base_of k).words c.code (mini_at j) (mini_of j).words (inl (omega arith)) h.words)));
        entered = get_other (code_chained k c.code) k.point j.point (enter (jump_word k.point k.at)) (λ i. omega arith)
            ∙ (get_other (code_written k c.code) (k.at + 4) j.point (tool (jump_word (k.at + 4) (mini_at k))) (λ i. omega arith)
            ∙ (put_words_other (mini_at k) (mini_of k).words (put_words k.at (base_of k).words c.code) j.point (inl (omega arith))
            ∙ (put_words_other k.at (base_of k).words c.code j.point (inl (omega arith)) ∙ h.entered)));
      }

  pub below : Below k (k.point + 1) (end_of k) c.program
  below = let t = text_low c.program k.point f.word f.is in let least = f.low in record { point = omega arith; text = t; low = omega arith; end = omega arith }

  pub still_below : (j : Counter) → Below j p at c.program → Below j (k.point + 1) (end_of k) c.program
  still_below j b = let here = f.here in let there = f.there in let point = b.point in let end = b.end in record { point = omega arith; text = b.text; low = b.low; end = omega arith }

-- ---- a list of them

-- these counters stand, and no other mini block does
pub record Stood (done : List Counter) (p at : ℕ) (c : Core) : Type 0 where
  pub ready : Ready p at c
  pub all : (j : Counter) → In j done → Has j c × Below j p at c.program
  pub minis : (x : Row) → In x c.rows → x.base ≡ false → (j : Counter) × In j done × (x ≡ mini_row j)

-- each of these can be placed after those before it
abbrev pub Chain : ℕ → ℕ → Words → List Counter → Type 0
Chain p at t [] = Unit {0}
Chain p at t (k ∷ ks) = Fits p at t k × Chain (k.point + 1) (end_of k) t ks

one_more_stands : (done : List Counter) (p at : ℕ) (c : Core) (k : Counter) → Stood done p at c → Fits p at c.program k → tool_at c.program ≤ 0x60001000 → Stood (done ++ k ∷ []) (k.point + 1) (end_of k) (placed k c)
one_more_stands done p at c k s f low =
    record {
      ready = goes_on p at c k s.ready f low;
      all = λ j h. ⊎_elim (λ o. let a = s.all j o in (still p at c k s.ready f low j a.1 a.0, still_below p at c k s.ready f low j a.1))
          (λ e. subst (λ i. Has i (placed k c) × Below i (k.point + 1) (end_of k) c.program) (sym e) (has p at c k s.ready f low, below p at c k s.ready f low)) (in_snoc done k j h);
      minis = λ x h m. ⊎_elim (λ o. let q = s.minis x o m in (q.0, snoc_old done k q.0 q.1, q.2))
          (λ e. ⊎_elim (λ b. absurd (true≢false (sym (ap (λ (u : Row). u.base) b) ∙ m))) (λ i. (k, snoc_new done k, i)) e) (new_row p at c k s.ready f low x h);
    }

-- what holds after the placing of counters
pub record Ends (done ks : List Counter) (c : Core) : Type 0 where
  pub legal : Legal (flat_map placing ks) c
  pub p : ℕ
  pub at : ℕ
  pub stood : Stood (done ++ ks) p at (replay (flat_map placing ks) c)
  pub harts : (replay (flat_map placing ks) c).harts ≡ c.harts

pub all_placed : (ks done : List Counter) (p at : ℕ) (c : Core) → Stood done p at c → Chain p at c.program ks → tool_at c.program ≤ 0x60001000 → Ends done ks c
all_placed [] done p at c s h low = record { legal = tt; p = p; at = at; stood = subst (λ d. Stood d p at c) (sym (append-nil done)) s; harts = refl }
all_placed (k ∷ ks) done p at c s h low =
    let f = h.0 in
    let now : replay (placing k) c ≡ placed k c = places p at c k s.ready f in
    let more = all_placed ks (done ++ k ∷ []) (k.point + 1) (end_of k) (placed k c) (one_more_stands done p at c k s f low) h.1 low in
    let there = replay-append (placing k) (flat_map placing ks) c ∙ ap (replay (flat_map placing ks)) now in
    record {
      legal = legal-append (placing k) (flat_map placing ks) c (legal p at c k s.ready f low) (subst (λ d. Legal (flat_map placing ks) d) (sym now) more.legal);
      p = more.p;
      at = more.at;
      stood = subst (λ d. Stood d more.p more.at (replay (flat_map placing (k ∷ ks)) c)) (append_assoc done (k ∷ []) ks) (subst (λ d. Stood ((done ++ k ∷ []) ++ ks) more.p more.at d) (sym there) more.stood);
      harts = ap (λ (d : Core). d.harts) there ∙ more.harts;
    }

-- other harts change nothing of it
pub stood_with : (done : List Counter) (p at : ℕ) (c : Core) (harts : List Hart) → Stood done p at c → Stood done p at (record c { harts = harts })
stood_with done p at c harts s =
    let r = s.ready in
    record {
      ready = record { live = r.live; points = r.points; ends = r.ends; text = r.text };
      all = λ j h. let a = s.all j h in (record { mini = a.0.mini; words = a.0.words; entered = a.0.entered }, a.1);
      minis = s.minis;
    }
