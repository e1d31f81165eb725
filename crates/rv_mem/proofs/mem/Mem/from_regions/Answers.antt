use Rattle.std.proofs.Common.{ap, ◌∙◌}
use Rattle.std.specs.FinMap.{from_entries}
use Rattle.rv_word.specs.Memory.{flat}
use Rattle.rv_mem.proofs.Starts.{entries_of-flat}
use Rattle.rv_mem.proofs.mem.Mem.from_regions.Goals as goal

pub returns : goal.returns
returns c = ap (λ es. record { text_at = c.args.text_at; text_len = c.args.text_len; cells = from_entries es }) (entries_of-flat c.set_windows.new.regions.items ∙ ap (λ parts. flat parts) c.set_windows.ensures.parts)
