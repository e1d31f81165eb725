-- The program of a stress run: a main procedure that calls the others in turn, 20 times over. How long each of them takes, and
-- what it does, is drawn by the generator.
use Rattle.std.specs.Prelude.{ℕ, zero, suc, ◌+◌, ◌/◌, ◌%◌, ◌^◌, ◌==◌, if◌then◌else◌, List, [], ◌∷◌, ◌++◌, codes}
use Rattle.std.specs.Fmt.{decimal}
use Rattle.std.specs.List.{concat}
use Rattle.turn_order.specs.Orders.{generated}

-- ---- what is drawn

-- the number below k that is drawn in state x of the generator
unfoldable pub drawn : ℕ → ℕ → ℕ
drawn k x = generated x / 2 ^ 33 % k

-- the length of a procedure's loop, by the state before its draws: 1 to 50
abbrev pub loop_length : ℕ → ℕ
loop_length x = 1 + drawn 50 x

-- the kind of a procedure, by the state before its draws: 0 to 2
abbrev pub kind : ℕ → ℕ
kind x = drawn 3 (generated x)

-- the state after a procedure's two draws
abbrev pub after_procedure : ℕ → ℕ
after_procedure x = generated (generated x)

-- ---- the procedures that are called

-- what a procedure of this kind does after its loop: 1 takes the lock and gives it back, 2 writes a byte, and 0 does nothing
unfoldable pub ending : ℕ → List ℕ
ending kind =
    if kind == 1 then codes "la a0, lock_a\ncall lock_acquire\nla a0, lock_a\ncall lock_release\n"
    else if kind == 2 then codes "li a0, 1\nla a1, lock_a\nli a2, 1\ncall write\n"
    else []

-- procedure number i, with a loop of this length and this ending
unfoldable pub procedure : ℕ → ℕ → List ℕ → List ℕ
procedure i length ending = concat (
    codes ".proc w" ∷ decimal i ∷ codes "\naddi sp, sp, -16\nsd ra, 0(sp)\nli t1, " ∷ decimal length
    ∷ codes "\nloop" ∷ decimal i ∷ codes ":\naddi t1, t1, -1\nbnez t1, loop" ∷ decimal i ∷ codes "\n"
    ∷ ending ∷ codes "ld ra, 0(sp)\naddi sp, sp, 16\nret\n.end\n" ∷ [])

-- a number of procedures, from number i on, by the state before their draws
abbrev pub procedures : ℕ → ℕ → ℕ → List ℕ
procedures zero i x = []
procedures (suc left) i x = procedure i (loop_length x) (ending (kind x)) ++ procedures left (i + 1) (after_procedure x)

-- ---- the program

-- the call of procedure number i
unfoldable pub call : ℕ → List ℕ
call i = concat (codes "call w" ∷ decimal i ∷ codes "\n" ∷ [])

-- the calls of a number of procedures, from number i on
abbrev pub calls : ℕ → ℕ → List ℕ
calls zero i = []
calls (suc left) i = call i ++ calls left (i + 1)

-- the procedure that calls n others
unfoldable pub main_procedure : ℕ → List ℕ
main_procedure n = concat (
    codes ".proc main\nli s1, 20\nagain:\n" ∷ calls n 0
    ∷ codes "addi s1, s1, -1\nbeqz s1, fin\nj again\nfin:\nli a0, 0\nli a7, 93\necall\n.end\n" ∷ [])

-- The program of n procedures, drawn from a seed. After the main procedure come those that take a lock, give it back and write, and
-- after all procedures the lock, which nobody has.
unfoldable pub program_text : ℕ → ℕ → List ℕ
program_text n seed = concat (
    main_procedure n
    ∷ codes ".proc lock_acquire\nli a1, 1\nspin:\namoswap.d a2, a1, (a0)\nbnez a2, spin\nret\n.end\n"
    ∷ codes ".proc lock_release\nsd zero, 0(a0)\nret\n.end\n"
    ∷ codes ".proc write\nli a7, 64\necall\nret\n.end\n"
    ∷ procedures n 0 seed
    ∷ codes ".data\n.object lock_a 8\n.dword 0\n" ∷ [])
