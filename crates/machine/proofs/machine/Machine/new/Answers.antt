use Rattle.std.proofs.Common.{◌≡◌, ◌<◌, ◌^◌, List, refl, sym, subst}
use Rattle.std.specs.Prelude.{map}
use Rattle.std.specs.List.{AllByRecursion}
use Rattle.rv_word.specs.Exec.{Prog, prog_of}
use Rattle.rv_exec.specs.Start.{start, harts_from}
use Rattle.tramp_spec.specs.Harts.{Hart}
use Rattle.code_store.specs.Stores.{StoredCode, first_code}
use Rattle.machine.specs.Cores.{first_hart}
use Rattle.machine.specs.Laws.{IsProgram}
use Rattle.machine.specs.Views.{BlockList, AreMachineParts}
use Rattle.machine.proofs.Firsts.{first_sound}
use Rattle.machine.proofs.machine.Machine.new.Goals as goal

pub invariant_of-result : goal.invariant_of-result
invariant_of-result c =
    let image = c.args.image.now in
    let n = c.args.harts in
    let store = c.in_ok-new-4.field-0 in
    let narrow : AllByRecursion (λ w. w < 2 ^ 32) (first_code image).program.words = subst (λ (s : StoredCode). AllByRecursion (λ w. w < 2 ^ 32) s.program.words) c.in_ok-new-4.ensures.first c.in_ok-new-4.ensures.narrow in
    let program : IsProgram image = record { image = c.requires.image; narrow = narrow; unscratched = c.requires.unscratched } in
    let first = first_sound image n c.args.budget program c.requires.harts c.ranges.budget.fits in
    let prog : prog_of c.in_ok-new.field-0 c.in_ok-new-2.field-0 c.in_ok-new-3.field-0 ≡ (start image n).prog = rw (c.in_ok-new.ensures, c.in_ok-new-2.ensures, c.in_ok-new-3.ensures) refl in
    subst (λ (hs : List Hart). AreMachineParts hs (prog_of c.in_ok-new.field-0 c.in_ok-new-2.field-0 c.in_ok-new-3.field-0) store c.in_ok-new-5.field-0.rows c.args.budget) (sym c.in_ok-first_harts.ensures.first)
    (subst (λ (p : Prog). AreMachineParts (map first_hart (harts_from n 0 image n)) p store c.in_ok-new-5.field-0.rows c.args.budget) (sym prog)
    (subst (λ (s : StoredCode). AreMachineParts (map first_hart (harts_from n 0 image n)) (start image n).prog s c.in_ok-new-5.field-0.rows c.args.budget) (sym c.in_ok-new-4.ensures.first)
    (subst (λ (b : BlockList). AreMachineParts (map first_hart (harts_from n 0 image n)) (start image n).prog (first_code image) b.rows c.args.budget) (sym c.in_ok-new-5.ensures) first)))
