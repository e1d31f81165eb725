use Rattle.std.proofs.Common.{◌<◌, ◌∙◌, sym, ap, length, map, arith}
use Rattle.std.specs.FinMap.{get}
use Rattle.std.proofs.lemmas.List.{length-map}
use Rattle.code_store.specs.Stores.{StoredCode}
use Rattle.code_store.specs.Views.{point_of}
use Rattle.code_store.proofs.Entries.{get_one, read_outside}
use Rattle.code_store.proofs.Maps.{read-map}
use Rattle.code_store.proofs.store.Store.owner.Goals as goal

pub returns-then-i-len : goal.returns-then-i-len
returns-then-i-len c =
    let s = c.self.inside in
    let ends = s.tool.ends in
    let used = c.self.invariant.used in
    let below : c.place_of-i.result < length s.uses.items = omega arith in
    let placed = c.place_of-i.ensures.place (length s.uses.items) (omega arith) below in
    c.point.ensures
    ∙ sym (ap (λ (z : StoredCode). get z.owners c.args.at) (sym c.self.view_is)
    ∙ get_one (map point_of s.uses.items) s.tool.at c.args.at
    ∙ read-map point_of s.uses.items s.tool.at c.place_of-i.result c.args.at c.index.result.now below placed c.index.ensures)

pub returns-else-i-len : goal.returns-else-i-len
returns-else-i-len c =
    let s = c.self.inside in
    let ends = s.tool.ends in
    let used = c.self.invariant.used in
    let out = c.place_of-i.ensures.outside (length s.uses.items) (omega arith) (omega arith) in
    sym (ap (λ (z : StoredCode). get z.owners c.args.at) (sym c.self.view_is)
    ∙ get_one (map point_of s.uses.items) s.tool.at c.args.at
    ∙ read_outside (map point_of s.uses.items) s.tool.at c.args.at (simp length-map out))
