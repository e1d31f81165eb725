-- The flats of instructions.
use Rattle.std.proofs.Common.{◌≡◌, ℕ, List, Option, Some, None, IfSome, refl, ap, sym, subst, ◌∙◌, arith}
use Rattle.std.specs.Prelude.{◌==◌, true}
use Rattle.std.proofs.lemmas.Bool.{cond-true}
use Rattle.rv_word.specs.Exec.{Prog, Goes, action, exec_decoded, exec_instr, next, perform}
use Rattle.rv_word.specs.Registers.{with_reg}
use Rattle.rv_word.specs.Words.{HasWord}
use Rattle.rv_word.specs.declared.action.Action.TheVariants.{Compute}
use Rattle.rv_word.specs.declared.instr.Instr.{Instr}
use Rattle.rv_word.specs.declared.instr.Instr.TheVariants.{Lui, Auipc, Jal, Jalr, Branch, Load, Store, OpImm, ShiftImm, Addiw, ShiftImm32, Op, Op32, Fence, Ecall, Ebreak, Lr, Sc, Amo}
use Rattle.rv_exec.specs.declared.flat.Flat.{Flat}
use Rattle.rv_exec.specs.declared.flat.Flat.TheVariants as flat
use Rattle.rv_exec.specs.Flat.{instr_of, is_idle, DoesAs, PutsResult, IsFlatOf}

-- ---- what does nothing but that the hart goes on

computes_nothing : (h rd v pc : ℕ) (regs : List ℕ) (p : Prog) → (rd == 0) ≡ true → perform h (Compute rd v) pc regs p ≡ Goes (next pc) regs p
unfolding perform with_reg
computes_nothing h rd v pc regs p e = ap (λ r. Goes (next pc) r p) (cond-true (rd == 0) _ _ e)

idles : (i : Instr) → is_idle i ≡ true → (pc h : ℕ) (regs : List ℕ) (p : Prog) → exec_instr i pc h regs p ≡ Goes (next pc) regs p
unfolding action perform
idles (Lui rd imm) e pc h regs p = computes_nothing h rd _ pc regs p e
idles (Auipc rd imm) e pc h regs p = computes_nothing h rd _ pc regs p e
idles (OpImm op rd rs1 imm) e pc h regs p = computes_nothing h rd _ pc regs p e
idles (ShiftImm op rd rs1 by) e pc h regs p = computes_nothing h rd _ pc regs p e
idles (Addiw rd rs1 imm) e pc h regs p = computes_nothing h rd _ pc regs p e
idles (ShiftImm32 op rd rs1 by) e pc h regs p = computes_nothing h rd _ pc regs p e
idles (Op op rd rs1 rs2) e pc h regs p = computes_nothing h rd _ pc regs p e
idles (Op32 op rd rs1 rs2) e pc h regs p = computes_nothing h rd _ pc regs p e
idles (Fence rd rs1 high) e pc h regs p = refl
idles (Jal rd offset) e pc h regs p = absurd cc
idles (Jalr rd rs1 offset) e pc h regs p = absurd cc
idles (Branch op rs1 rs2 offset) e pc h regs p = absurd cc
idles (Load op rd rs1 offset) e pc h regs p = absurd cc
idles (Store op rs1 rs2 offset) e pc h regs p = absurd cc
idles Ecall e pc h regs p = absurd cc
idles Ebreak e pc h regs p = absurd cc
idles (Lr width rd rs1 order) e pc h regs p = absurd cc
idles (Sc width rd rs1 rs2 order) e pc h regs p = absurd cc
idles (Amo op width rd rs1 rs2 order) e pc h regs p = absurd cc

fence_goes : (pc h : ℕ) (regs : List ℕ) (p : Prog) → Goes (next pc) regs p ≡ exec_instr (Fence 0 0 0) pc h regs p
unfolding action perform
fence_goes pc h regs p = refl

pub idle : (i : Instr) → is_idle i ≡ true → IsFlatOf (Some i) flat.Nop
idle i e =
    record {
      does = λ pc h regs p. idles i e pc h regs p ∙ fence_goes pc h regs p;
      can_run = record { word = (tt, tt, tt, (omega arith, omega arith, omega arith)); result = tt };
    }

-- ---- what is the instruction itself

same : (j : Option Instr) (i : Instr) → j ≡ Some i → HasWord i → IfSome j (DoesAs (Some i)) × IfSome j HasWord
same j i e w = subst (λ (k : Option Instr). IfSome k (DoesAs (Some i)) × IfSome k HasWord) (sym e) ((λ pc h regs p. refl), w)

pub stands : (f : Flat) (i : Instr) → instr_of f ≡ Some i → PutsResult f → HasWord i → IsFlatOf (Some i) f
stands f i e puts w =
    let s = same (instr_of f) i e w in
    record { does = s.0; can_run = record { word = s.1; result = puts } }

-- ---- what the flat of an instruction does

goes_so : (k i : Option Instr) (at h : ℕ) (regs : List ℕ) (p : Prog) (pc : ℕ) (new_regs : List ℕ) (new_p : Prog) → IfSome k (DoesAs i) → exec_decoded k at h regs p ≡ Goes pc new_regs new_p → exec_decoded i at h regs p ≡ Goes pc new_regs new_p
goes_so None i at h regs p pc new_regs new_p d e = absurd cc
goes_so (Some j) i at h regs p pc new_regs new_p d e = d at h regs p ∙ e

-- where a hart goes on after it, it does so after the instruction
pub goes_as : (f : Flat) (i : Option Instr) (at h : ℕ) (regs : List ℕ) (p : Prog) (pc : ℕ) (new_regs : List ℕ) (new_p : Prog) → IsFlatOf i f → exec_decoded (instr_of f) at h regs p ≡ Goes pc new_regs new_p → exec_decoded i at h regs p ≡ Goes pc new_regs new_p
goes_as f i at h regs p pc new_regs new_p is e = goes_so (instr_of f) i at h regs p pc new_regs new_p is.does e
