use Rattle.headline.proofs.Served.{unlooked}
use Rattle.headline.proofs.answering.answer_request.Goals as goal

pub returns-in-Stress-clause-looks : goal.returns-in-Stress-clause-looks
returns-in-Stress-clause-looks g c = unlooked g.F.Files.holds g.F.Files.faults c.args.files.now c.stress.result
