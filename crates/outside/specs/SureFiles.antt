-- What files that never fail hold under each name.
use Rattle.std.specs.Prelude.{List, [], ℕ, Some}
use Rattle.std.specs.HashMap.{get_by_text}
use Rattle.std.specs.Option.{option_map_or}
use Rattle.outside.specs.Outside.{Holding}
use Rattle.outside.specs.declared.sure_files.SureFiles.{SureFiles}

-- The bytes that were given under a name, or the empty list.
abbrev pub content_of : SureFiles → List ℕ → List ℕ
content_of files name = option_map_or (λ bytes. bytes.items) (get_by_text files.given name) []

-- What a name holds: all is told, and no name is absent.
abbrev pub held_in : SureFiles → List ℕ → Holding
held_in files name = Some (Some (content_of files name))
