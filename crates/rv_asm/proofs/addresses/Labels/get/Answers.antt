use Rattle.std.proofs.Common.{◌≡◌, ◌∙◌, sym, ap}
use Rattle.std.specs.List.{slice_get}
use Rattle.std.specs.Option.{option_and_then}
use Rattle.rv_asm.specs.Registers.{named}
use Rattle.rv_asm.proofs.Entries.{address_of}
use Rattle.rv_asm.proofs.addresses.Labels.get.Goals as goal

pub returns-in_err-place : goal.returns-in_err-place
returns-in_err-place c =
    let name = c.args.name.now in
    let addresses = c.self.inside.addresses.items in
    c.from_residual.ensures ∙ ap (option_and_then (slice_get addresses)) (sym c.in_err-place.was ∙ c.lookup.ensures)
    ∙ address_of name c.self.inside.names addresses c.self.invariant ∙ ap (named name) c.self.view_is

pub returns : goal.returns
returns c =
    let name = c.args.name.now in
    let addresses = c.self.inside.addresses.items in
    let found : c.address.result ≡ slice_get addresses c.in_ok-place.place = c.address.ensures ∙ ap (λ xs. slice_get xs c.in_ok-place.place) c.as_slice.ensures.value in
    found ∙ ap (option_and_then (slice_get addresses)) (sym c.in_ok-place.was ∙ c.lookup.ensures)
    ∙ address_of name c.self.inside.names addresses c.self.invariant ∙ ap (named name) c.self.view_is
