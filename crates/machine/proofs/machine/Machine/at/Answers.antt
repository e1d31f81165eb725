use Rattle.std.proofs.Common.{◌≡◌, ◌<◌, ◌∙◌, sym, ap, subst, length}
use Rattle.std.specs.Prelude.{Some, slice_get}
use Rattle.std.specs.Option.{option_map}
use Rattle.rv_exec.specs.Shared.{prog_in}
use Rattle.machine.specs.Places.{program_pc}
use Rattle.machine.specs.States.{Machine}
use Rattle.machine.proofs.Taking.{element, placed, at_home}
use Rattle.machine.proofs.machine.Machine.at.Goals as goal

pub home-requires : goal.home-requires
home-requires c =
    let s = c.self.inside in
    let i = c.get.result in
    let l : i < length s.harts.items = subst (λ j. j < length s.harts.items) (sym c.get.ensures.number) (subst (λ (m : Machine). c.args.hart < length m.core.harts) (sym c.self.view_is) c.requires) in
    placed s.harts.items (prog_in s.shared) s.store s.blocks.rows s.budget c.self.invariant i c.index.result.now (element s.harts.items i c.index.result.now l c.index.ensures)

pub returns : goal.returns
returns c =
    let s = c.self.inside in
    let i = c.get.result in
    let l : i < length s.harts.items = subst (λ j. j < length s.harts.items) (sym c.get.ensures.number) (subst (λ (m : Machine). c.args.hart < length m.core.harts) (sym c.self.view_is) c.requires) in
    let home = at_home s.harts.items (prog_in s.shared) s.store s.blocks.rows s.budget c.self.invariant i c.index.result.now (element s.harts.items i c.index.result.now l c.index.ensures) in
    subst (λ (m : Machine). option_map (program_pc m.core.code m.core.rows) (slice_get m.core.harts c.args.hart) ≡ Some c.home.result) c.self.view_is
    (subst (λ h. option_map (program_pc s.store.code s.blocks.rows) (slice_get s.harts.items h) ≡ Some c.home.result) c.get.ensures.number (home ∙ ap (λ n. Some n) (sym c.home.ensures)))
