use Rattle.std.proofs.Common.{◌<◌, List, sym, subst, arith}
use Rattle.line_table.specs.Tables.{rows_of, rows_of_unit}
use Rattle.line_table.specs.declared.registers.Row.{Row}
use Rattle.line_table.proofs.UnitLemmas.{UnitsLeft, units_first, units_more}
use Rattle.line_table.proofs.program.rows_of.Goals as goal

pub loop-at-init : goal.loop-at-init
unfolding rows_of
loop-at-init c =
    let b = c.args.bytes.now in
    let Begins : List Row → Type 0 = λ rows. UnitsLeft (rows_of_unit b) b rows 0 (rows_of b) in
    record { within = omega arith; left = subst Begins (sym c.new-rows.ensures.items) (units_first (rows_of_unit b) b) }

pub loop-at-preserved : goal.loop-at-preserved
loop-at-preserved c =
    let b = c.args.bytes.now in
    let h = c.in_ok-header.header in
    let forward : c.loop-at.at < h.end = omega (arith, c.in_ok-header.ensures.place, c.in_ok-header.ensures.fits.forward) in
    record {
      within = c.in_ok-header.ensures.fits.within;
      left =
          units_more (rows_of_unit b) b c.loop-at.rows.items c.push_rows.new.rows.items c.loop-at.at _ h
          c.loop-at-test.true (sym c.in_ok-header.ensures.exact) forward c.in_ok-push_rows.ensures c.loop-at.invariant.left;
    }
