use Rattle.std.proofs.Common.{◌∙◌, ap, length, arith}
use Rattle.std.proofs.lemmas.List.{length-map}
use Rattle.prim_code.specs.Counts.{site_words}
use Rattle.instrument.specs.Placements.{sites_of}
use Rattle.instrument.specs.ToolTexts.{ToolTextData}
use Rattle.instrument.proofs.Owners.{sites_counted}
use Rattle.instrument.proofs.tool_text.ToolText.place_sites.Goals as goal

pub sites_of-requires-clause-room : goal.sites_of-requires-clause-room
sites_of-requires-clause-room c =
    let n = sites_counted c.args.self.now.program c.args.owner c.args.slots.now c.args.sites.now c.args.self.now.book c.place_each.new.self.book c.requires.new c.in_default.ensures.ok in
    let v = ap (λ (d : ToolTextData). length (sites_of c.args.owner d.book.rooms)) c.self-2.view_is in
    let m = ap length (c.memory.view_is ∙ c.requires.memory) in
    let s = length-map c.args.sites.now site_words in
    let room = c.memory.invariant.1 in
    omega (arith, n, v, m, s, room)
