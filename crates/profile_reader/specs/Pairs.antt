-- A profile as the parts of a report, so that two are compared as reports are: its harts, and of each procedure how many ticks it took and
-- how often it was entered.
use Rattle.std.specs.Prelude.{ℕ, None, List, [], ◌∷◌, ◌++◌, codes, flat_map}
use Rattle.pair_wishes.specs.Foci.{procedure_node}
use Rattle.report.specs.declared.parts.ReportParts.{ReportParts}
use Rattle.report.specs.declared.parts.ShownPart.{ShownPart}
use Rattle.profile_reader.specs.declared.profile.ReadProcedure.{ReadProcedure}
use Rattle.profile_reader.specs.declared.profile.ReadProfile.{ReadProfile}

-- a number as the only bin of what was shown under a name at a focus
abbrev pub pair : List ℕ → List ℕ → ℕ → ShownPart
pair name focus number = record {
  metric = name;
  focus = focus;
  units = [];
  from = None;
  width = 1;
  bins = record { from = 0; to = 0; sum = number } ∷ [];
}

abbrev pub procedure_pairs : ReadProcedure → List ShownPart
procedure_pairs x = pair (codes "ticks") (procedure_node x.proc) x.ticks ∷ pair (codes "entered") (procedure_node x.proc) x.entered ∷ []

-- what no number tells, what was outside of the text, and the words that no procedure has
abbrev pub run_pairs : ReadProfile → List ShownPart
run_pairs p =
    pair (codes "untold") (codes "/Code") p.untold ∷ pair (codes "outside") (codes "/Code") p.outside
    ∷ pair (codes "ticks") (codes "/Code/-") p.rest_ticks ∷ []

abbrev pub profile_parts : ReadProfile → ReportParts
profile_parts p = record {
  harts = p.harts;
  samples = 0;
  output = [];
  refused = [];
  shown = run_pairs p ++ flat_map procedure_pairs p.procedures;
  search = None;
}
