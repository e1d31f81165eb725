-- For proofs alone: what names no run.
use Rattle.std.specs.Prelude.{None, []}
use Rattle.atomic_table.specs.Seated.{TableId}
use Rattle.pn_types.specs.declared.settings.Start.TheVariants.{Cold}
use Rattle.session_spec.specs.Inputs.{Inputs}

abbrev pub no_word : TableId
no_word = record { words = 0; slots = 0; views_name = 0; atom = 0; block = 0; offset = 0; slot_names = [] }

abbrev pub no_inputs : Inputs
no_inputs = record {
  image = record { segments = []; text_at = 0; text_len = 0; entry = 0; symbols = [] };
  checked = record { metrics = []; constraints = []; hypotheses = []; search = None; phases = []; wishes = [] };
  tree = record { code = record { modules = []; procs = [] }; objects = []; harts = 0 };
  procs = [];
  points = [];
  settings = record { harts = 0; budget = 0; bins = 0; width = 0; start = Cold; instruments = 0 };
}
