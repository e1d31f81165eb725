-- What a request's value asks for, and what clap's matches give.
use Rattle.std.specs.Prelude.{◌≡◌, List, [], Some, option_map}
use Rattle.std.specs.List.{slice_split}
use Rattle.std.specs.Option.{option_map_or}
use Rattle.clap.specs.Words.{first_value, found_of}
use Rattle.clap.specs.declared.parser.matches.ArgMatches.{ArgMatches}
use Rattle.command_words.specs.Addresses.{addresses_of, is_comma}
use Rattle.command_words.specs.Grammar.{Text, Form, Given, NamedValues, given_in, taken_of}
use Rattle.command_words.specs.Requests as request
use Rattle.command_words.specs.declared.requests.Request.{Request}
use Rattle.command_words.specs.declared.requests.Request.TheVariants.{Run, Live, Replay, Plan, Asm, Points, Relog, Stress, Blocks, Visi, Advise, Direct, Profile, Annotate, Show, Diff, Ask}
use Rattle.command_words.specs.declared.requests.SessionRequest.{SessionRequest}
use Rattle.command_words.specs.declared.requests.RunRequest.{RunRequest}
use Rattle.command_words.specs.declared.requests.LiveRequest.{LiveRequest}
use Rattle.command_words.specs.declared.requests.ReplayRequest.{ReplayRequest}
use Rattle.command_words.specs.declared.requests.PlanRequest.{PlanRequest}
use Rattle.command_words.specs.declared.requests.StressRequest.{StressRequest}
use Rattle.command_words.specs.declared.requests.BlocksRequest.{BlocksRequest}
use Rattle.command_words.specs.declared.requests.ProfileSource.{ProfileSource}
use Rattle.command_words.specs.declared.requests.ProfileRequest.{ProfileRequest}
use Rattle.command_words.specs.declared.requests.AnnotateRequest.{AnnotateRequest}
use Rattle.command_words.specs.declared.requests.ShowRequest.{ShowRequest}
use Rattle.command_words.specs.declared.requests.DiffRequest.{DiffRequest}
use Rattle.command_words.specs.declared.requests.AskInterval.{AskInterval}
use Rattle.command_words.specs.declared.requests.AskRequest.{AskRequest}
use Rattle.command_words.specs.declared.requests.VisiRequest.{VisiRequest}
use Rattle.command_words.specs.declared.requests.DirectRequest.{DirectRequest}

abbrev pub asked_session : SessionRequest → request.SessionRequest
asked_session r = record { program = r.program.now; conf = r.conf.now; settings = r.settings }

abbrev pub asked_run : RunRequest → request.RunRequest
asked_run r = record { session = asked_session r.session; order = r.order; log = option_map (λ s. s.now) r.log }

abbrev pub asked_live : LiveRequest → request.LiveRequest
asked_live r = record { session = asked_session r.session; workers = r.workers; quantum = r.quantum; log = option_map (λ s. s.now) r.log }

abbrev pub asked_replay : ReplayRequest → request.ReplayRequest
asked_replay r = record { program = r.program.now; conf = r.conf.now; log = r.log.now }

abbrev pub asked_plan : PlanRequest → request.PlanRequest
asked_plan r = record { program = r.program.now; conf = r.conf.now; metric = r.metric.now; focus = r.focus.now; harts = r.harts }

abbrev pub asked_stress : StressRequest → request.StressRequest
asked_stress r = record { procs = r.procs; seed = r.seed }

abbrev pub asked_blocks : BlocksRequest → request.BlocksRequest
asked_blocks r = record { program = r.program.now; harts = r.harts; budget = r.budget; order = r.order }

abbrev pub asked_visi : VisiRequest → request.VisiRequest
asked_visi r = record { session = asked_session r.session; order = r.order; views = r.views }

abbrev pub asked_direct : DirectRequest → request.DirectRequest
asked_direct r = record { session = asked_session r.session; directives = r.directives.now; order = r.order }

abbrev pub asked_source : ProfileSource → request.ProfileSource
asked_source r = record { counted = asked_blocks r.counted; also = option_map_or (λ s. addresses_of s.now) r.also [] }

abbrev pub asked_profile : ProfileRequest → request.ProfileRequest
asked_profile r = record { source = asked_source r.source; shape = r.shape; top = r.top; callgrind = option_map (λ s. s.now) r.callgrind }

abbrev pub asked_annotate : AnnotateRequest → request.AnnotateRequest
asked_annotate r = record { source = asked_source r.source; procedure = option_map (λ s. s.now) r.procedure; unit = r.unit }

abbrev pub asked_show : ShowRequest → request.ShowRequest
asked_show r = record { report = r.report.now; columns = r.columns; format = r.format }

abbrev pub asked_diff : DiffRequest → request.DiffRequest
asked_diff r = record { old = r.old.now; new = r.new.now }

abbrev pub asked_interval : AskInterval → request.AskInterval
asked_interval i = record { from = i.from; until = i.until }

abbrev pub asked_ask : AskRequest → request.AskRequest
asked_ask r = record {
  counted = asked_blocks r.counted;
  metrics = slice_split is_comma r.metrics.now;
  each = r.each;
  under = r.under.now;
  interval = asked_interval r.interval;
  limit = r.limit;
}

abbrev pub asked : Request → request.Request
asked (Run r) = request.run (asked_run r)
asked (Live r) = request.live (asked_live r)
asked (Replay r) = request.replay (asked_replay r)
asked (Plan r) = request.plan (asked_plan r)
asked (Asm text) = request.asm text.now
asked (Points program) = request.points program.now
asked (Relog log) = request.relog log.now
asked (Stress r) = request.stress (asked_stress r)
asked (Blocks r) = request.blocks (asked_blocks r)
asked (Visi r) = request.visi (asked_visi r)
asked (Advise report) = request.advise report.now
asked (Direct r) = request.direct (asked_direct r)
asked (Profile r) = request.profile (asked_profile r)
asked (Annotate r) = request.annotate (asked_annotate r)
asked (Show r) = request.show (asked_show r)
asked (Diff r) = request.diff (asked_diff r)
asked (Ask r) = request.ask (asked_ask r)

-- the values that clap's matches hold
abbrev pub given_by : ArgMatches → Given
given_by matches name = first_value (found_of matches) name

-- the matches hold what the words of a form give
pub record AreMatches (form : Form) (words : List Text) (matches : ArgMatches) : Type 0 where
  pub taken : NamedValues
  pub reads : taken_of form words ≡ Some taken
  pub given : (name : Text) → given_by matches name ≡ given_in taken name
