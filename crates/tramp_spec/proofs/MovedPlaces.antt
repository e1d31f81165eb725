-- Jumps between a point and the place of its moved words.
use Rattle.std.proofs.Common.{◌≡◌, ℕ, ◌+◌, ◌*◌, ◌%◌, ◌^◌, ◌<◌, ◌≤◌, List, Some, Ok, arith}
use Rattle.std.specs.Prelude.{◌==◌, ◌&&◌, nat_lt, true, slice_get}
use Rattle.std.proofs.lemmas.Bool.{eqb-true, and_parts, ltb-true}
use Rattle.rv_word.specs.Names.{jump_of}
use Rattle.rv_word.specs.Table.{decode_of}
use Rattle.rv_word.specs.Exec.{next}
use Rattle.tramp_spec.specs.Jumps.{reaches, jump_word}
use Rattle.tramp_spec.specs.Marks.{leave}
use Rattle.tramp_spec.specs.MovedWords.{is_target}
use Rattle.tramp_spec.specs.Steps.{Bench, stand, step_on}
use Rattle.tramp_spec.specs.declared.mark.MarkedWord.{MarkedWord}
use Rattle.tramp_spec.proofs.Hops.{Hops, target_is, hop_steps, jump_hops, reached}

pub next_point : (point : ℕ) → point < 0x60000000 → next point ≡ point + 4
next_point point lo = omega arith

-- a word that leads back
abbrev pub Leaves : ℕ → ℕ → List MarkedWord → Type 0
Leaves to j moved = (w home : ℕ) × (slice_get moved j ≡ Some (leave w)) × (jump_of (decode_of w) (to + 4 * j) ≡ Some home)
    × ((x : Bench) (ticks : ℕ) → step_on 0 w ticks (to + 4 * j) x ≡ Ok (stand home x))

pub leaves_by : (to j w home : ℕ) (moved : List MarkedWord) → slice_get moved j ≡ Some (leave w) → Hops (to + 4 * j) home w → home % 4 ≡ 0 → Leaves to j moved
leaves_by to j w home moved e h a = (w, home, e, target_is (to + 4 * j) home w h, λ x ticks. hop_steps 0 w ticks (to + 4 * j) home x h a)

module _ (point to : ℕ) (pa : point % 4 ≡ 0) (ta : to % 4 ≡ 0) (lo : point < 0x60000000) (be : point < to) (near : to ≤ point + 1048000) where
  -- the jump back after the word
  pub back : (j : ℕ) → j ≤ 2 → Hops (to + 4 * j) (point + 4) (jump_word (to + 4 * j) (point + 4))
  back j l = jump_hops (to + 4 * j) (point + 4) (omega arith) (omega arith) (omega arith) (omega arith) (omega arith) (omega arith)

  -- the jump to a target
  pub target : (j t : ℕ) → j ≤ 2 → is_target (to + 4 * j) t ≡ true → Hops (to + 4 * j) t (jump_word (to + 4 * j) t) × (t % 4 ≡ 0)
  target j t l e =
      let p = and_parts (t % 4 == 0) (nat_lt t (2 ^ 31) && reaches (to + 4 * j) t) e in
      let q = and_parts (nat_lt t (2 ^ 31)) (reaches (to + 4 * j) t) p.1 in
      let al : t % 4 ≡ 0 = eqb-true (t % 4) 0 p.0 in
      let low : t < 2 ^ 31 = ltb-true t (2 ^ 31) q.0 in
      let r = reached (to + 4 * j) t q.1 in
      (jump_hops (to + 4 * j) t r.0 r.1 (omega arith) al (omega arith) (omega arith), al)
