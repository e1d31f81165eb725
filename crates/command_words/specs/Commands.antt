-- The commands and the words that each takes.
use Rattle.std.specs.Prelude.{List, [], ◌∷◌, Option, codes, find}
use Rattle.std.specs.Str.{bytes_eq}
use Rattle.command_words.specs.Grammar.{Text, Form}
use Rattle.command_words.specs.declared.commands.CommandName.{CommandName}
use Rattle.command_words.specs.declared.commands.CommandName.TheVariants.{Run, Live, Replay, Asm, Points, Plan, Stress, Relog, Blocks, Visi, Advise, Direct, Profile, Annotate, Show, Diff, Ask}

abbrev pub commands : List CommandName
commands = Run ∷ Live ∷ Replay ∷ Asm ∷ Points ∷ Plan ∷ Stress ∷ Relog ∷ Blocks ∷ Visi ∷ Advise ∷ Direct ∷ Profile ∷ Annotate ∷ Show ∷ Diff ∷ Ask ∷ []

abbrev pub form_of : CommandName → Form
form_of Run = record {
  word = codes "run";
  places = codes "program" ∷ codes "conf" ∷ [];
  options = codes "harts" ∷ codes "seed"
      ∷ codes "quantum" ∷ codes "budget" ∷ codes "bins" ∷ codes "width" ∷ codes "log" ∷ codes "instruments" ∷ codes "start" ∷ [];
}
form_of Live = record {
  word = codes "live";
  places = codes "program" ∷ codes "conf" ∷ [];
  options = codes "harts" ∷ codes "workers"
      ∷ codes "quantum" ∷ codes "budget" ∷ codes "bins" ∷ codes "width" ∷ codes "log" ∷ codes "instruments" ∷ codes "start" ∷ [];
}
form_of Replay = record { word = codes "replay"; places = codes "program" ∷ codes "conf" ∷ codes "record" ∷ []; options = [] }
form_of Asm = record { word = codes "asm"; places = codes "text" ∷ []; options = [] }
form_of Points = record { word = codes "points"; places = codes "program" ∷ []; options = [] }
form_of Plan = record {
  word = codes "plan";
  places = codes "program" ∷ codes "conf" ∷ codes "metric" ∷ codes "focus" ∷ [];
  options = codes "harts" ∷ [];
}
form_of Stress = record { word = codes "stress"; places = codes "procs" ∷ codes "seed" ∷ []; options = [] }
form_of Relog = record { word = codes "relog"; places = codes "record" ∷ []; options = [] }
form_of Blocks = record {
  word = codes "blocks";
  places = codes "program" ∷ [];
  options = codes "harts" ∷ codes "seed" ∷ codes "quantum" ∷ codes "budget" ∷ [];
}
form_of Visi = record {
  word = codes "visi";
  places = codes "program" ∷ codes "conf" ∷ [];
  options = codes "harts" ∷ codes "seed"
      ∷ codes "quantum" ∷ codes "budget" ∷ codes "bins" ∷ codes "width" ∷ codes "instruments" ∷ codes "start" ∷ codes "views" ∷ [];
}
form_of Advise = record { word = codes "advise"; places = codes "report" ∷ []; options = [] }
form_of Direct = record {
  word = codes "direct";
  places = codes "program" ∷ codes "conf" ∷ codes "directives" ∷ [];
  options = codes "harts" ∷ codes "seed"
      ∷ codes "quantum" ∷ codes "budget" ∷ codes "bins" ∷ codes "width" ∷ codes "instruments" ∷ codes "start" ∷ [];
}
form_of Profile = record {
  word = codes "profile";
  places = codes "program" ∷ [];
  options = codes "harts" ∷ codes "seed" ∷ codes "quantum" ∷ codes "budget" ∷ codes "also" ∷ codes "show" ∷ codes "top" ∷ codes "callgrind" ∷ [];
}
form_of Annotate = record {
  word = codes "annotate";
  places = codes "program" ∷ [];
  options = codes "harts" ∷ codes "seed" ∷ codes "quantum" ∷ codes "budget" ∷ codes "also" ∷ codes "procedure" ∷ codes "by" ∷ [];
}
form_of Show = record { word = codes "show"; places = codes "report" ∷ []; options = codes "columns" ∷ codes "format" ∷ [] }
form_of Diff = record { word = codes "diff"; places = codes "old" ∷ codes "new" ∷ []; options = [] }
form_of Ask = record {
  word = codes "ask";
  places = codes "program" ∷ codes "metrics" ∷ [];
  options = codes "harts" ∷ codes "seed" ∷ codes "quantum" ∷ codes "budget" ∷ codes "instruments"
      ∷ codes "each" ∷ codes "under" ∷ codes "from" ∷ codes "until" ∷ [];
}

-- the command whose own word this is
abbrev pub command_named : Text → Option CommandName
command_named word = find (λ name. bytes_eq (form_of name).word word) commands
