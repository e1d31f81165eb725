use Rattle.std.proofs.Common.{◌<◌, List, subst, sym, take}
use Rattle.std.specs.List.{AllByRecursion}
use Rattle.pn_types.specs.declared.image.Symbol.{Symbol}
use Rattle.pn_types.specs.declared.limits.TheConstants.{SEGMENTS_TO}
use Rattle.code_points.proofs.LowObjects.{low_objects}
use Rattle.code_points.proofs.data_objects.objects.Goals as goal

pub returns-clause-low : goal.returns-clause-low
returns-clause-low c image =
    subst (λ (symbols : List Symbol). AllByRecursion (λ s. s.at < SEGMENTS_TO) symbols) (sym c.loop-symbol.invariant) (low_objects c.args.image.now image (take c.loop-symbol.symbol-index c.args.image.now.symbols))
