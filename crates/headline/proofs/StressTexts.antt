-- The program of a stress run is a text of bytes.
use Rattle.std.proofs.Common.{◌≡◌, ℕ, zero, suc, ◌+◌, ◌%◌, ◌/◌, ◌<◌, ◌^◌, Bool, true, false, cond, List, [], ◌∷◌, codes, mod-lt, refl, arith}
use Rattle.std.specs.Prelude.{◌==◌, nat_lt}
use Rattle.std.specs.Fmt.{decimal}
use Rattle.std.specs.List.{AllByRecursion, concat, list_all}
use Rattle.std.specs.Str.{IsAscii}
use Rattle.std.proofs.lemmas.Bool.{and_parts, ltb-true}
use Rattle.std.proofs.lemmas.Fmt.{IsAscii-decimal}
use Rattle.std.proofs.lemmas.Str.{IsAscii-append}
use Rattle.std.proofs.lemmas.Str.Ascii.{IsAscii-cons, IsAscii-nil}
use Rattle.outside.specs.Outside.{IsBytes}
use Rattle.stress_run.specs.Program.{after_procedure, call, calls, drawn, ending, kind, loop_length, main_procedure, procedure, procedures, program_text}
use Rattle.turn_order.specs.Orders.{generated}

literal : (bs : List ℕ) → list_all (λ b. nat_lt b 128) bs ≡ true → IsAscii bs
literal [] e = IsAscii-nil
literal (b ∷ bs) e = let both = and_parts (nat_lt b 128) (list_all (λ b. nat_lt b 128) bs) e in IsAscii-cons b bs (ltb-true b 128 both.0) (literal bs both.1)

all_of : (xs : List (List ℕ)) → AllByRecursion IsAscii xs → IsAscii (concat xs)
all_of [] h = IsAscii-nil
all_of (x ∷ xs) h = IsAscii-append x (concat xs) h.0 (all_of xs h.1)

number : (n : ℕ) → n < 2 ^ 32 → IsAscii (decimal n)
number n few = IsAscii-decimal n (omega arith)

-- ---- the program

one_call : (i : ℕ) → i < 2 ^ 32 → IsAscii (call i)
unfolding call
one_call i few = all_of (codes "call w" ∷ decimal i ∷ codes "\n" ∷ []) (literal (codes "call w") refl, (number i few, (literal (codes "\n") refl, tt)))

all_calls : (left i : ℕ) → i + left < 2 ^ 32 → IsAscii (calls left i)
all_calls zero i few = IsAscii-nil
all_calls (suc left) i few = IsAscii-append (call i) (calls left (i + 1)) (one_call i (omega arith)) (all_calls left (i + 1) (omega arith))

with_lock : List ℕ
with_lock = codes "la a0, lock_a\ncall lock_acquire\nla a0, lock_a\ncall lock_release\n"

with_write : List ℕ
with_write = codes "li a0, 1\nla a1, lock_a\nli a2, 1\ncall write\n"

one_ending : (kind_of : ℕ) → IsAscii (ending kind_of)
unfolding ending with_lock with_write
one_ending kind_of = by (kind_of == 1) (kind_of == 2) (literal with_lock refl) (literal with_write refl)
  where
    by : (a b : Bool) → IsAscii with_lock → IsAscii with_write → IsAscii (cond a with_lock (cond b with_write []))
    by true b lock write = lock
    by false true lock write = write
    by false false lock write = IsAscii-nil

short : (x : ℕ) → loop_length x < 2 ^ 32
unfolding drawn
short x = let below : generated x / 2 ^ 33 % 50 < 50 = mod-lt (generated x / 2 ^ 33) (omega arith) in omega arith

one_procedure : (i length : ℕ) (behind : List ℕ) → i < 2 ^ 32 → length < 2 ^ 32 → IsAscii behind → IsAscii (procedure i length behind)
unfolding procedure
one_procedure i length behind few some h =
    let parts : List (List ℕ) =
    codes ".proc w" ∷ decimal i ∷ codes "\naddi sp, sp, -16\nsd ra, 0(sp)\nli t1, " ∷ decimal length ∷ codes "\nloop" ∷ decimal i ∷ codes ":\naddi t1, t1, -1\nbnez t1, loop" ∷ decimal i ∷ codes "\n"
    ∷ behind ∷ codes "ld ra, 0(sp)\naddi sp, sp, 16\nret\n.end\n" ∷ [] in
    let own = number i few in
    let each : AllByRecursion IsAscii parts = (
      literal (codes ".proc w") refl,
      (
        own,
        (
          literal (codes "\naddi sp, sp, -16\nsd ra, 0(sp)\nli t1, ") refl,
          (
            number length some,
            (
              literal (codes "\nloop") refl,
              (
                own,
                (
                  literal (codes ":\naddi t1, t1, -1\nbnez t1, loop") refl,
                  (own, (literal (codes "\n") refl, (h, (literal (codes "ld ra, 0(sp)\naddi sp, sp, 16\nret\n.end\n") refl, tt)))),
                ),
              ),
            ),
          ),
        ),
      ),
    ) in
    all_of parts each

all_procedures : (left i x : ℕ) → i + left < 2 ^ 32 → IsAscii (procedures left i x)
all_procedures zero i x few = IsAscii-nil
all_procedures (suc left) i x few =
    IsAscii-append (procedure i (loop_length x) (ending (kind x))) (procedures left (i + 1) (after_procedure x))
    (one_procedure i (loop_length x) (ending (kind x)) (omega arith) (short x) (one_ending (kind x))) (all_procedures left (i + 1) (after_procedure x) (omega arith))

main_ascii : (n : ℕ) → n < 2 ^ 32 → IsAscii (main_procedure n)
unfolding main_procedure
main_ascii n few =
    all_of (codes ".proc main\nli s1, 20\nagain:\n" ∷ calls n 0 ∷ codes "addi s1, s1, -1\nbeqz s1, fin\nj again\nfin:\nli a0, 0\nli a7, 93\necall\n.end\n" ∷ []) (
      literal (codes ".proc main\nli s1, 20\nagain:\n") refl,
      (all_calls n 0 (omega arith), (literal (codes "addi s1, s1, -1\nbeqz s1, fin\nj again\nfin:\nli a0, 0\nli a7, 93\necall\n.end\n") refl, tt)),
    )

program_ascii : (n seed : ℕ) → n < 2 ^ 32 → IsAscii (program_text n seed)
unfolding program_text
program_ascii n seed few =
    let acquire = codes ".proc lock_acquire\nli a1, 1\nspin:\namoswap.d a2, a1, (a0)\nbnez a2, spin\nret\n.end\n" in
    let release = codes ".proc lock_release\nsd zero, 0(a0)\nret\n.end\n" in
    let write = codes ".proc write\nli a7, 64\necall\nret\n.end\n" in
    let data_part = codes ".data\n.object lock_a 8\n.dword 0\n" in
    all_of (main_procedure n ∷ acquire ∷ release ∷ write ∷ procedures n 0 seed ∷ data_part ∷ [])
    (main_ascii n few, (literal acquire refl, (literal release refl, (literal write refl, (all_procedures n 0 seed (omega arith), (literal data_part refl, tt))))))

pub program_bytes : (n seed : ℕ) → n < 2 ^ 32 → IsBytes (program_text n seed)
program_bytes n seed few k = let low = program_ascii n seed few k in omega arith
