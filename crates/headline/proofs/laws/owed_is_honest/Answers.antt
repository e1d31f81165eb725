use Rattle.command_words.specs.Requests.{request_of}
use Rattle.commands.specs.FileReadings.{reads}
use Rattle.headline.proofs.Meant.{tells}
use Rattle.headline.proofs.Ranges.{ranged}
use Rattle.headline.proofs.laws.owed_is_honest.Goals as goal

pub returns : goal.returns
returns g c old new words texts owed =
    tells
    (record {
      reports = record {
        time = c.time_goes_on.ensures;
        runs = c.runs_told.ensures;
        parts = c.parts_told.ensures;
        verdicts = c.verdicts_told.ensures;
        costs = c.costs_stay.ensures;
      };
      bins = c.bins_told.ensures;
      feed = c.feed_told.ensures;
      directives = record {
        pruned = c.pruned_is_gone.ensures;
        axis = c.axis_is_gone.ensures;
        threshold = c.last_threshold_holds.ensures;
        others = c.others_stay.ensures;
      };
      can = c.found_can_run.ensures;
      logs = c.spelled_is_read.ensures;
      fit = c.whole_quanta_fit.ensures;
      spelled = c.report_is_spelled.ensures;
      profiles = c.profile_is_spelled.ensures;
      lines = c.lines_add_up.ensures;
    })
    (reads (g.F.Files.holds old) (g.F.Files.faults old) (g.F.Files.faults new)) (λ name bytes h. h.1) texts (request_of words) (ranged words) owed.due
