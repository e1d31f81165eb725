-- For proofs alone: the harts as the definitions have them.
use Rattle.std.specs.Prelude.{List, map}
use Rattle.rv_word.specs.Plain.{PlainHart, Alone}
use Rattle.rv_exec.specs.Shared.{prog_in}
use Rattle.rv_exec.specs.declared.shared.Shared.{Shared}
use Rattle.plain_run.specs.declared.hart.HartState.{HartState}

abbrev pub hart_of : HartState → PlainHart
hart_of h = record { pc = h.pc; regs = h.regs; ticks = h.ticks; stop = h.stop }

abbrev pub plain_harts : List HartState → List PlainHart
plain_harts hs = map hart_of hs

abbrev pub alone_of : HartState → Shared → Alone
alone_of h shared = record { hart = hart_of h; prog = prog_in shared }
