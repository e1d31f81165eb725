-- What keeps slots standing for values, and timers reading what they read.
use Rattle.std.proofs.Common.{◌≡◌, ℕ, ◌+◌, ◌%◌, ◌^◌, ◌<◌, ◌≤◌, Bool, true, false, List, ap, ◌∙◌, arith}
use Rattle.std.specs.Prelude.{slice_index, ◌==◌, if◌then◌else◌}
use Rattle.tramp_spec.specs.Slots.{read_place, running}
use Rattle.prim_code.specs.Standing.{HasValue, StandingKept}

fewer : (timer : Bool) (s spare less v : ℕ) (bank : List ℕ) → less ≤ spare → HasValue timer s spare v bank → HasValue timer s less v bank
fewer false s spare less v bank l h = h
fewer true s spare less v bank l h = let b = h.1 in (h.0, omega arith)

pub stays : (timer : Bool) (s spare v : ℕ) (bank next : List ℕ) → ((q : ℕ) → s ≤ q → q < s + (if timer then 2 else 1) → slice_index next q ≡ slice_index bank q) → HasValue timer s spare v bank → HasValue timer s spare v next
stays false s spare v bank next e h = (e s (omega arith) (omega arith) ∙ h.0, h.1)
stays true s spare v bank next e h = (e (s + 1) (omega arith) (omega arith) ∙ h.0, h.1)

pub reads : (timer : Bool) (s ticks : ℕ) (bank next : List ℕ) → timer ≡ true → ((q : ℕ) → s ≤ q → q < s + (if timer then 2 else 1) → slice_index next q ≡ slice_index bank q) → read_place true s ticks next ≡ read_place true s ticks bank
reads false s ticks bank next t e = absurd cc
reads true s ticks bank next t e =
    ap (λ n. (n + running (slice_index next (s + 1)) ticks) % 2 ^ 64) (e s (omega arith) (omega arith))
    ∙ ap (λ n. (slice_index bank s + running n ticks) % 2 ^ 64) (e (s + 1) (omega arith) (omega arith))

tick_by : (b : Bool) (sum ticks : ℕ) → (sum + (if b then 0 else ticks + 1)) % 2 ^ 64 ≡ ((sum + (if b then 0 else ticks)) % 2 ^ 64 + (if b then 0 else 1)) % 2 ^ 64
tick_by true sum ticks = omega arith
tick_by false sum ticks = omega arith

pub standing_kept : StandingKept
standing_kept =
    record {
      fewer = λ ps spare less values bank l h n p e. fewer p.timer p.slot spare less (slice_index values n) bank l (h n p e);
      values = λ ps spare values bank next s h n p e. stays p.timer p.slot spare (slice_index values n) bank next (λ q lo up. s q (n, p, e, lo, up)) (h n p e);
      readings = λ ps ticks bank next s n p e t. reads p.timer p.slot ticks bank next t (λ q lo up. s q (n, p, e, lo, up));
      tick = λ slot ticks bank. tick_by (slice_index bank (slot + 1) == 0) (slice_index bank slot) ticks;
    }
