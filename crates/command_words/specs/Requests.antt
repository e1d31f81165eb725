-- What the words ask for.
use Rattle.std.specs.Prelude.{◌≤◌, ◌<◌, ◌^◌, ◌+◌, ◌||◌, ℕ, if◌then◌else◌, Bool, false, List, [], ◌∷◌, Option, Some, None, codes, option_map, unwrap_or}
use Rattle.std.specs.List.{slice_split}
use Rattle.std.specs.Option.{option_and_then, option_map_or}
use Rattle.std.specs.Str.{bytes_eq}
use Rattle.pn_types.specs.Settings.{AreInRange}
use Rattle.pn_types.specs.declared.limits.TheConstants.{MAX_BUDGET, MAX_HARTS, MAX_QUANTUM, MAX_WORKERS}
use Rattle.pn_types.specs.declared.settings.Settings.{Settings}
use Rattle.pn_types.specs.declared.settings.Start.{Start}
use Rattle.pn_types.specs.declared.settings.Start.TheVariants.{Cold, Warm}
use Rattle.command_words.specs.Grammar.{Text, Given, given_in, taken_of}
use Rattle.command_words.specs.Addresses.{also_given, is_comma}
use Rattle.command_words.specs.Commands.{form_of, command_named}
use Rattle.command_words.specs.Numbers.{number_between, number_given, harts_option, workers_option, seed_option, quantum_option, budget_option, bins_option, width_option, instruments_option, views_option, top_option, columns_option, from_option}
use Rattle.command_words.specs.declared.commands.CommandName.{CommandName}
use Rattle.command_words.specs.declared.commands.CommandName.TheVariants.{Run, Live, Replay, Asm, Points, Plan, Stress, Relog, Blocks, Visi, Advise, Direct, Profile, Annotate, Show, Diff, Ask}
use Rattle.command_words.specs.declared.requests.AnnotationUnit.{AnnotationUnit}
use Rattle.command_words.specs.declared.requests.AnnotationUnit.TheVariants as unit
use Rattle.command_words.specs.declared.requests.NodeKind.{NodeKind}
use Rattle.command_words.specs.declared.requests.NodeKind.TheVariants as kind
use Rattle.command_words.specs.declared.requests.ProfileShape.{ProfileShape}
use Rattle.command_words.specs.declared.requests.ProfileShape.TheVariants.{Lines, Words, Table}
use Rattle.command_words.specs.declared.requests.TurnOrder.{TurnOrder}
use Rattle.command_words.specs.declared.requests.ViewFormat.{ViewFormat}
use Rattle.command_words.specs.declared.requests.ViewFormat.TheVariants as format

-- ---- values

-- a positional word; the words of a command hold one for each of its places
abbrev pub place_in : Given → Text → Text
place_in given name = unwrap_or (given name) []

-- `cold` or `warm`
abbrev pub start_named : Text → Option Start
start_named text = if bytes_eq text (codes "cold") then Some Cold else if bytes_eq text (codes "warm") then Some Warm else None

-- the start that is given, or `warm` where none is
abbrev pub start_given : Given → Option Start
start_given given = option_map_or start_named (given (codes "start")) (Some Warm)

-- settings of these numbers and this start, where each is told
abbrev pub settings_told : Option ℕ → Option ℕ → Option ℕ → Option ℕ → Option ℕ → Option Start → Option Settings
settings_told harts budget bins width instruments start =
    option_and_then (λ h. option_and_then (λ t. option_and_then (λ b. option_and_then (λ w. option_and_then (λ i. option_map (λ s.
    record { harts = h; budget = t; bins = b; width = w; start = s; instruments = i })
    start) instruments) width) bins) budget) harts

-- The settings of a run.
abbrev pub settings_of : Given → Option Settings
settings_of given =
    settings_told (number_given given harts_option) (number_given given budget_option) (number_given given bins_option)
    (number_given given width_option) (number_given given instruments_option) (start_given given)

-- ---- requests

-- What a session is made of: the files of a program and of a configuration, and the numbers of the run.
pub record SessionRequest : Type 0 where
  pub program : Text
  pub conf : Text
  pub settings : Settings

pub record RunRequest : Type 0 where
  pub session : SessionRequest
  pub order : TurnOrder
  pub log : Option Text

pub record LiveRequest : Type 0 where
  pub session : SessionRequest
  -- how many workers there are
  pub workers : ℕ
  -- the most turns of a quantum
  pub quantum : ℕ
  pub log : Option Text

pub record ReplayRequest : Type 0 where
  pub program : Text
  pub conf : Text
  pub log : Text

pub record PlanRequest : Type 0 where
  pub program : Text
  pub conf : Text
  pub metric : Text
  pub focus : Text
  pub harts : ℕ

pub record StressRequest : Type 0 where
  -- how many procedures the program has beside those of the lock, of writing and of main
  pub procs : ℕ
  -- the seed of the program, and of the order of quanta
  pub seed : ℕ

pub record BlocksRequest : Type 0 where
  pub program : Text
  pub harts : ℕ
  -- the ticks of each hart, at most
  pub budget : ℕ
  pub order : TurnOrder

-- What a profile is of: a run of a program, and addresses at which a block begins beside those that its words tell.
pub record ProfileSource : Type 0 where
  pub counted : BlocksRequest
  pub also : List ℕ

pub record ProfileRequest : Type 0 where
  pub source : ProfileSource
  pub shape : ProfileShape
  -- how many procedures a table has, at most
  pub top : ℕ
  pub callgrind : Option Text

pub record AnnotateRequest : Type 0 where
  pub source : ProfileSource
  pub procedure : Option Text
  pub unit : AnnotationUnit

pub record ShowRequest : Type 0 where
  pub report : Text
  -- how many columns there are, in a terminal
  pub columns : ℕ
  pub format : ViewFormat

pub record DiffRequest : Type 0 where
  pub old : Text
  pub new : Text

-- The tick from which on something is asked for, and that at which it ends.
pub record AskInterval : Type 0 where
  pub from : ℕ
  pub until : Option ℕ

pub record AskRequest : Type 0 where
  -- the program, and the run that tells which of its parts come first
  pub counted : BlocksRequest
  pub metrics : List Text
  -- what is asked for: each node of this kind, or the focus alone
  pub each : Option NodeKind
  -- the focus below which these are
  pub under : Text
  pub interval : AskInterval
  -- how many pairs are asked for, at most
  pub limit : ℕ

pub record VisiRequest : Type 0 where
  pub session : SessionRequest
  pub order : TurnOrder
  -- how many threads view the run
  pub views : ℕ

pub record DirectRequest : Type 0 where
  pub session : SessionRequest
  pub directives : Text
  pub order : TurnOrder

-- What each command is asked for, by the command's word.
pub data Request : Type 0 where
  run : RunRequest → Request
  live : LiveRequest → Request
  replay : ReplayRequest → Request
  plan : PlanRequest → Request
  asm : Text → Request
  points : Text → Request
  relog : Text → Request
  stress : StressRequest → Request
  blocks : BlocksRequest → Request
  visi : VisiRequest → Request
  advise : Text → Request
  direct : DirectRequest → Request
  profile : ProfileRequest → Request
  annotate : AnnotateRequest → Request
  show : ShowRequest → Request
  diff : DiffRequest → Request
  ask : AskRequest → Request

-- ---- from values to requests

abbrev pub session_of : Given → Option SessionRequest
session_of given =
    option_map (λ settings. record {
      program = place_in given (codes "program");
      conf = place_in given (codes "conf");
      settings = settings;
    })
    (settings_of given)

abbrev pub order_of : Given → Option TurnOrder
order_of given =
    option_and_then (λ seed. option_map (λ quantum. record { seed = seed; quantum = quantum }) (number_given given quantum_option))
    (number_given given seed_option)

abbrev pub run_request : Given → Option Request
run_request given =
    option_and_then (λ session. option_map (λ order.
    run (record { session = session; order = order; log = given (codes "log") }))
    (order_of given))
    (session_of given)

abbrev pub live_request : Given → Option Request
live_request given =
    option_and_then (λ session. option_and_then (λ quantum. option_map (λ workers.
    live (record { session = session; workers = workers; quantum = quantum; log = given (codes "log") }))
    (number_given given workers_option))
    (number_given given quantum_option))
    (session_of given)

abbrev pub replay_request : Given → Request
replay_request given =
    replay (record {
      program = place_in given (codes "program");
      conf = place_in given (codes "conf");
      log = place_in given (codes "record");
    })

abbrev pub plan_request : Given → Option Request
plan_request given =
    option_map (λ harts. plan (record {
      program = place_in given (codes "program");
      conf = place_in given (codes "conf");
      metric = place_in given (codes "metric");
      focus = place_in given (codes "focus");
      harts = harts;
    }))
    (number_given given harts_option)

abbrev pub stress_request : Given → Option Request
stress_request given =
    option_and_then (λ procs. option_map (λ seed. stress (record { procs = procs; seed = seed }))
    (number_between 0 4294967295 (place_in given (codes "seed"))))
    (number_between 1 200 (place_in given (codes "procs")))

-- a run whose blocks are counted
abbrev pub blocks_of : Given → Option BlocksRequest
blocks_of given =
    option_and_then (λ harts. option_and_then (λ budget. option_map (λ order.
    record { program = place_in given (codes "program"); harts = harts; budget = budget; order = order })
    (order_of given))
    (number_given given budget_option))
    (number_given given harts_option)

abbrev pub profile_source : Given → Option ProfileSource
profile_source given =
    option_and_then (λ counted. option_map (λ also. record { counted = counted; also = also }) (also_given given)) (blocks_of given)

-- `lines`, `words` or `table`
abbrev pub shape_named : Text → Option ProfileShape
shape_named text =
    if bytes_eq text (codes "lines") then Some Lines
    else if bytes_eq text (codes "words") then Some Words
    else if bytes_eq text (codes "table") then Some Table
    else None

-- the shape that is given, or `lines` where none is
abbrev pub shape_given : Given → Option ProfileShape
shape_given given = option_map_or shape_named (given (codes "show")) (Some Lines)

-- `words` or `lines`
abbrev pub unit_named : Text → Option AnnotationUnit
unit_named text = if bytes_eq text (codes "words") then Some unit.Words else if bytes_eq text (codes "lines") then Some unit.Lines else None

-- the unit that is given, or `words` where none is
abbrev pub unit_given : Given → Option AnnotationUnit
unit_given given = option_map_or unit_named (given (codes "by")) (Some unit.Words)

abbrev pub profile_request : Given → Option Request
profile_request given =
    option_and_then (λ source. option_and_then (λ shape. option_map (λ top.
    profile (record { source = source; shape = shape; top = top; callgrind = given (codes "callgrind") }))
    (number_given given top_option))
    (shape_given given))
    (profile_source given)

abbrev pub annotate_request : Given → Option Request
annotate_request given =
    option_and_then (λ source. option_map (λ by.
    annotate (record { source = source; procedure = given (codes "procedure"); unit = by }))
    (unit_given given))
    (profile_source given)

-- `blocks`, `ascii`, `json`, `csv`, `svg` or `html`
abbrev pub format_named : Text → Option ViewFormat
format_named text =
    if bytes_eq text (codes "blocks") then Some format.Blocks
    else if bytes_eq text (codes "ascii") then Some format.Ascii
    else if bytes_eq text (codes "json") then Some format.Json
    else if bytes_eq text (codes "csv") then Some format.Csv
    else if bytes_eq text (codes "svg") then Some format.Svg
    else if bytes_eq text (codes "html") then Some format.Html
    else None

-- the format that is given, or `blocks` where none is
abbrev pub format_given : Given → Option ViewFormat
format_given given = option_map_or format_named (given (codes "format")) (Some format.Blocks)

abbrev pub show_request : Given → Option Request
show_request given =
    option_and_then (λ columns. option_map (λ format.
    show (record { report = place_in given (codes "report"); columns = columns; format = format }))
    (format_given given))
    (number_given given columns_option)

abbrev pub diff_request : Given → Request
diff_request given = diff (record { old = place_in given (codes "old"); new = place_in given (codes "new") })

-- `procedure`, `module`, `lock` or `hart`
abbrev pub kind_named : Text → Option NodeKind
kind_named text =
    if bytes_eq text (codes "procedure") then Some kind.Procedure
    else if bytes_eq text (codes "module") then Some kind.Module
    else if bytes_eq text (codes "lock") then Some kind.Lock
    else if bytes_eq text (codes "hart") then Some kind.Hart
    else None

-- the kind that is given, or none where none is
abbrev pub each_given : Given → Option (Option NodeKind)
each_given given = option_map_or (λ text. option_map Some (kind_named text)) (given (codes "each")) (Some None)

-- the tick that is given, which has to be above another, or none where none is
abbrev pub until_given : ℕ → Given → Option (Option ℕ)
until_given from given =
    option_map_or (λ text. option_map Some (number_between (from + 1) 2147483647 text)) (given (codes "until")) (Some None)

abbrev pub interval_given : Given → Option AskInterval
interval_given given =
    option_and_then (λ from. option_map (λ until. record { from = from; until = until }) (until_given from given))
    (number_given given from_option)

abbrev pub ask_request : Given → Option Request
ask_request given =
    option_and_then (λ counted. option_and_then (λ each. option_and_then (λ interval. option_map (λ limit.
    ask (record {
      counted = counted;
      metrics = slice_split is_comma (place_in given (codes "metrics"));
      each = each;
      under = unwrap_or (given (codes "under")) (codes "/Code");
      interval = interval;
      limit = limit;
    }))
    (number_given given instruments_option))
    (interval_given given))
    (each_given given))
    (blocks_of given)

abbrev pub visi_request : Given → Option Request
visi_request given =
    option_and_then (λ session. option_and_then (λ order. option_map (λ views.
    visi (record { session = session; order = order; views = views }))
    (number_given given views_option))
    (order_of given))
    (session_of given)

abbrev pub direct_request : Given → Option Request
direct_request given =
    option_and_then (λ session. option_map (λ order.
    direct (record { session = session; directives = place_in given (codes "directives"); order = order }))
    (order_of given))
    (session_of given)

abbrev pub request_from : CommandName → Given → Option Request
request_from Run given = run_request given
request_from Live given = live_request given
request_from Replay given = Some (replay_request given)
request_from Asm given = Some (asm (place_in given (codes "text")))
request_from Points given = Some (points (place_in given (codes "program")))
request_from Plan given = plan_request given
request_from Stress given = stress_request given
request_from Relog given = Some (relog (place_in given (codes "record")))
request_from Blocks given = option_map blocks (blocks_of given)
request_from Visi given = visi_request given
request_from Advise given = Some (advise (place_in given (codes "report")))
request_from Direct given = direct_request given
request_from Profile given = profile_request given
request_from Annotate given = annotate_request given
request_from Show given = show_request given
request_from Diff given = Some (diff_request given)
request_from Ask given = ask_request given

-- What the words ask for; none where they are no command.
abbrev pub request_of : List Text → Option Request
request_of [] = None
request_of (word ∷ words) =
    option_and_then (λ name. option_and_then (λ taken.
    request_from name (given_in taken))
    (taken_of (form_of name) words))
    (command_named word)

-- The words begin with that of a command that begins threads.
abbrev pub begins_threaded : List Text → Bool
begins_threaded [] = false
begins_threaded (word ∷ words) = bytes_eq (codes "live") word || bytes_eq (codes "visi") word

-- the request is for a command that begins no threads
abbrev pub IsUnthreaded : Request → Type 0
IsUnthreaded (run r) = Unit {0}
IsUnthreaded (live r) = ⊥
IsUnthreaded (replay r) = Unit {0}
IsUnthreaded (plan r) = Unit {0}
IsUnthreaded (asm text) = Unit {0}
IsUnthreaded (points program) = Unit {0}
IsUnthreaded (relog log) = Unit {0}
IsUnthreaded (stress r) = Unit {0}
IsUnthreaded (blocks r) = Unit {0}
IsUnthreaded (visi r) = ⊥
IsUnthreaded (advise report) = Unit {0}
IsUnthreaded (direct r) = Unit {0}
IsUnthreaded (profile r) = Unit {0}
IsUnthreaded (annotate r) = Unit {0}
IsUnthreaded (show r) = Unit {0}
IsUnthreaded (diff r) = Unit {0}
IsUnthreaded (ask r) = Unit {0}

-- ---- ranges

abbrev pub IsQuantum : ℕ → Type 0
IsQuantum turns = (1 ≤ turns) × (turns ≤ MAX_QUANTUM)

abbrev pub IsOrderInRange : TurnOrder → Type 0
IsOrderInRange order = (order.seed < 2 ^ 32) × IsQuantum order.quantum

abbrev pub IsBlocksInRange : BlocksRequest → Type 0
IsBlocksInRange r = ((1 ≤ r.harts) × (r.harts ≤ MAX_HARTS)) × ((1 ≤ r.budget) × (r.budget ≤ MAX_BUDGET)) × IsOrderInRange r.order

-- the numbers of a request are in their ranges
abbrev pub HasRanges : Request → Type 0
HasRanges (run r) = AreInRange r.session.settings × IsOrderInRange r.order
HasRanges (live r) = AreInRange r.session.settings × ((1 ≤ r.workers) × (r.workers ≤ MAX_WORKERS)) × IsQuantum r.quantum
HasRanges (replay r) = Unit {0}
HasRanges (plan r) = (1 ≤ r.harts) × (r.harts ≤ MAX_HARTS)
HasRanges (asm text) = Unit {0}
HasRanges (points program) = Unit {0}
HasRanges (relog log) = Unit {0}
HasRanges (stress r) = ((1 ≤ r.procs) × (r.procs ≤ 200)) × (r.seed < 2 ^ 32)
HasRanges (blocks r) = IsBlocksInRange r
HasRanges (visi r) = AreInRange r.session.settings × IsOrderInRange r.order × ((1 ≤ r.views) × (r.views ≤ 8))
HasRanges (advise report) = Unit {0}
HasRanges (direct r) = AreInRange r.session.settings × IsOrderInRange r.order
HasRanges (profile r) = IsBlocksInRange r.source.counted × ((1 ≤ r.top) × (r.top ≤ 1000000))
HasRanges (annotate r) = IsBlocksInRange r.source.counted
HasRanges (show r) = (20 ≤ r.columns) × (r.columns ≤ 1000)
HasRanges (diff r) = Unit {0}
HasRanges (ask r) = IsBlocksInRange r.counted
