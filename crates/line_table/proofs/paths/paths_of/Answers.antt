use Rattle.std.proofs.Common.{◌<◌, List, sym, subst, arith}
use Rattle.line_table.specs.Paths.{paths_of, paths_of_unit}
use Rattle.line_table.specs.declared.paths.UnitPaths.{UnitPaths}
use Rattle.line_table.proofs.UnitLemmas.{UnitsLeft, units_first, units_more, one_unit}
use Rattle.line_table.proofs.paths.paths_of.Goals as goal

pub loop-at-init : goal.loop-at-init
unfolding paths_of
loop-at-init c =
    let b = c.args.bytes.now in
    let of_unit = paths_of_unit c.args.ends.now b in
    let Begins : List UnitPaths → Type 0 = λ units. UnitsLeft of_unit b units 0 (paths_of c.args.ends.now b) in
    record { within = omega arith; left = subst Begins (sym c.new-units.ensures.items) (units_first of_unit b) }

pub loop-at-preserved : goal.loop-at-preserved
loop-at-preserved c =
    let b = c.args.bytes.now in
    let h = c.in_ok-header.header in
    let forward : c.loop-at.at < h.end = omega (arith, c.in_ok-header.ensures.place, c.in_ok-header.ensures.fits.forward) in
    record {
      within = c.in_ok-header.ensures.fits.within;
      left =
          units_more (paths_of_unit c.args.ends.now b) b c.loop-at.units.items c.push.new.self.items c.loop-at.at _ h
          c.loop-at-test.true (sym c.in_ok-header.ensures.exact) forward
          (one_unit c.loop-at.units.items c.push.new.self.items c.in_ok-unit_paths.field-0 _ c.in_ok-unit_paths.ensures c.in_ok-push.ensures.items)
          c.loop-at.invariant.left;
    }
