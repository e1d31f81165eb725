-- What files in memory hold under each name, and how often its readings have failed.
use Rattle.std.specs.Prelude.{List, [], ℕ, Option, Some, unwrap_or}
use Rattle.std.specs.Option.{option_map_or}
use Rattle.std.specs.HashMap.{get_by_text}
use Rattle.outside.specs.declared.mem_files.MemFiles.{MemFiles}
use Rattle.outside.specs.GivenFile.{GivenFile}
use Rattle.outside.specs.Outside.{Holding}

-- The file that was given under a name, if one was.
abbrev pub file_of : MemFiles → List ℕ → Option GivenFile
file_of files name = get_by_text files.given name

-- A file that was not given holds the empty list.
abbrev pub bytes_of : Option GivenFile → Option (List ℕ)
bytes_of given = option_map_or (λ file. file.bytes) given (Some [])

-- A file that was not given has no faults.
abbrev pub faults_of : Option GivenFile → ℕ
faults_of given = option_map_or (λ file. file.faults) given 0

-- What a name holds: all is told.
abbrev pub held_in : MemFiles → List ℕ → Holding
held_in files name = Some (bytes_of (file_of files name))

-- The count of faults of a name.
abbrev pub faults_in : MemFiles → List ℕ → ℕ
faults_in files name = faults_of (file_of files name)

-- The bytes that a reading of a name may give.
abbrev pub content_in : MemFiles → List ℕ → List ℕ
content_in files name = unwrap_or (bytes_of (file_of files name)) []
