use Rattle.std.proofs.Common.{◌<◌, ◌^◌, List, [], ◌∷◌, length, ap, sym, subst, ◌∙◌, arith}
use Rattle.std.specs.List.{AllByRecursion}
use Rattle.std.proofs.lemmas.List.Sums.{length-filter, count_by-le-length}
use Rattle.code_points.proofs.NamedProcs.{names_good}
use Rattle.code_points.specs.Objects.{is_data}
use Rattle.pn_types.specs.declared.image.Symbol.{Symbol}
use Rattle.pn_types.specs.declared.limits.TheConstants.{SEGMENTS_TO}
use Rattle.commands.proofs.finding.resources.Goals as goal

pub build-requires-clause-objects : goal.build-requires-clause-objects
build-requires-clause-objects c =
    let image = c.args.image.now in
    omega (arith, ap length (c.deref.ensures.value ∙ c.in_ok-objects.ensures.objects), length-filter (is_data image) image.symbols, count_by-le-length (is_data image) image.symbols, c.requires.image.symbols)

pub returns-clause-named : goal.returns-clause-named
returns-clause-named c =
    c.build.ensures.named (record { good = names_good c.args.image.now c.args.procs.now c.requires.are_procs c.requires.modules; apart = c.requires.are_procs.distinct })

-- segments end below 2^31
lower : (symbols : List Symbol) → AllByRecursion (λ s. s.at < SEGMENTS_TO) symbols → AllByRecursion (λ s. s.at < 2 ^ 31) symbols
lower [] h = tt
lower (s ∷ symbols) h = (omega (arith, h.0), lower symbols h.1)

pub returns-clause-low : goal.returns-clause-low
returns-clause-low c =
    c.build.ensures.low (2 ^ 31) (subst (λ (symbols : List Symbol). AllByRecursion (λ s. s.at < 2 ^ 31) symbols) (sym c.deref.ensures.value) (lower c.in_ok-objects.objects.items (c.in_ok-objects.ensures.low c.requires.image)))
