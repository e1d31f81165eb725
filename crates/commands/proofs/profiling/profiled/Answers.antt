use Rattle.command_words.specs.Asked.{asked_source}
use Rattle.commands.specs.Blocks.{pace_of}
use Rattle.profile_text.proofs.Fitting.{fits}
use Rattle.commands.proofs.profiling.profiled.Goals as goal

pub returns-in-Ok-clause-fits : goal.returns-in-Ok-clause-fits
returns-in-Ok-clause-fits c =
    let counted = (asked_source c.args.source.now).counted in
    fits c.args.image.now c.args.starts.now counted.budget (pace_of counted) c.in-Ok.profile c.in-Ok.ensures.profile c.requires.ranges.0.1 c.requires.ranges.1.1
