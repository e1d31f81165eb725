-- With what values the timer's variables begin: no frame stands where the harts begin, and the pc is in the procedure.
use Rattle.std.proofs.Common.{◌≡◌, ℕ, ◌+◌, ◌-◌, ◌^◌, ◌≤◌, List, [], ◌∷◌, ◌++◌, length, Some, None, refl, ap, ◌∙◌, arith}
use Rattle.std.specs.FinMap.{get, find, get-from_entries}
use Rattle.std.specs.Ordering.{nat_cmp, eq_by_cmp}
use Rattle.std.specs.Cmp.{unsigned_tied}
use Rattle.std.specs.Prelude.{false, replicate}
use Rattle.std.proofs.lemmas.Bool.{cond-false, ne_eqb}
use Rattle.std.proofs.lemmas.Cmp.{nat_cmp_total}
use Rattle.std.proofs.lemmas.List.{length-replicate}
use Rattle.rv_word.specs.Memory.{Memory, in_range, load, numbered, flat}
use Rattle.rv_word.specs.Registers.{reg, with_reg}
use Rattle.rv_mem.specs.Start.{heap_at, heap_len, stack_at, stack_len, start_parts, start_memory}
use Rattle.rv_exec.specs.Start.{start_regs}
use Rattle.frame_walk.specs.Frames.{frame_at, calls, caller_of}
use Rattle.frame_walk.specs.Openings.{opening}
use Rattle.frame_walk.specs.Walks.{Walk, walk_from, start_of}
use Rattle.frame_walk.proofs.Steps.{calls_none}
use Rattle.test_examples.specs.WarmTimer.{procedure, timer}

-- ---- no byte is mapped above all parts of a memory

past : (at : ℕ) (bytes : List ℕ) (rest : List (ℕ × ℕ)) (a : ℕ) → at + length bytes ≤ a → find nat_cmp a rest ≡ None → find nat_cmp a (numbered at bytes ++ rest) ≡ None
past at [] rest a l e = e
past at (b ∷ bs) rest a l e =
    cond-false (eq_by_cmp nat_cmp a at) _ _ (unsigned_tied a at ∙ ne_eqb a at (λ z. omega arith)) ∙ past (at + 1) bs rest a (omega arith) e

abbrev AreBelow : ℕ → List (ℕ × List ℕ) → Type 0
AreBelow a [] = Unit {0}
AreBelow a (p ∷ ps) = (p.0 + length p.1 ≤ a) × AreBelow a ps

unmapped : (parts : List (ℕ × List ℕ)) (a : ℕ) → AreBelow a parts → find nat_cmp a (flat parts) ≡ None
unmapped [] a b = refl
unmapped (p ∷ ps) a b = past p.0 p.1 (flat ps) a b.0 (unmapped ps a b.1)

-- the doubleword below address 0
abbrev last_doubleword : ℕ
last_doubleword = 2 ^ 64 - 8

heap_small : heap_len ≤ 2 ^ 32
unfolding heap_len
heap_small = omega arith

stack_small : stack_len ≤ 2 ^ 32
unfolding stack_len
stack_small = omega arith

-- zeros from a low address on
zeros_below : (at n : ℕ) → at ≤ 2 ^ 32 → n ≤ 2 ^ 32 → at + length {A = ℕ} (replicate n 0) ≤ last_doubleword
zeros_below at n low small = let e : length {A = ℕ} (replicate n 0) ≡ n = length-replicate n 0 in omega arith

below_last : AreBelow last_doubleword (start_parts procedure 2)
below_last = (omega arith, (zeros_below heap_at heap_len (omega arith) heap_small, (zeros_below (stack_at 0) stack_len (omega arith) stack_small, (zeros_below (stack_at 1) stack_len (omega arith) stack_small, tt))))

nothing_there : get (start_memory procedure 2).cells last_doubleword ≡ None
nothing_there = get-from_entries nat_cmp_total (flat (start_parts procedure 2)) last_doubleword ∙ unmapped (start_parts procedure 2) last_doubleword below_last

no_frame : (m : Memory) → in_range m.text_at m.text_len last_doubleword ≡ false → get m.cells last_doubleword ≡ None → frame_at m 0 ≡ None
unfolding load
no_frame m t e = rw t (rw e refl)

-- ---- the walk and the opening values

-- the walk of both harts
abbrev pub standing : Walk
standing = record { pc = 0x10004; caller = Some (2 ^ 64 - 4); calls = [] }

pub walks : (h : ℕ) → walk_from (start_memory procedure 2) (start_of None 0x10004 (start_regs h 2)) ≡ Some standing
unfolding reg with_reg
walks h =
    let m = start_memory procedure 2 in
    let f = no_frame m refl nothing_there in
    ap (λ o. Some (record { pc = 0x10004; caller = caller_of o 0; calls = calls 64 m 0 })) f
    ∙ ap (λ cs. Some (record { pc = 0x10004; caller = Some (2 ^ 64 - 4); calls = cs })) (calls_none 64 m 0 (omega arith) f)

pub opens_so : (h : ℕ) → opening timer.opens (walk_from (start_memory procedure 2) (start_of None 0x10004 (start_regs h 2))) timer.vars ≡ 1 ∷ 1 ∷ []
opens_so h = ap (λ w. opening timer.opens w timer.vars) (walks h)
