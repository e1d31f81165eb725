-- Words that the grammar takes, and words that it refuses.
use Rattle.std.proofs.Common.{◌≡◌, ◌∷◌, [], refl, None, Some, codes}
use Rattle.command_words.specs.Commands.{form_of}
use Rattle.command_words.specs.Grammar.{taken_of}
use Rattle.command_words.specs.declared.commands.CommandName.TheVariants.{Asm, Run}

-- ---- taken

places : taken_of (form_of Run) (codes "a" ∷ codes "b" ∷ []) ≡ Some ((codes "program", codes "a") ∷ (codes "conf", codes "b") ∷ [])
places = refl

option_between : taken_of (form_of Run) (codes "a" ∷ codes "--harts" ∷ codes "2" ∷ codes "b" ∷ []) ≡ Some ((codes "program", codes "a") ∷ (codes "conf", codes "b") ∷ (codes "harts", codes "2") ∷ [])
option_between = refl

joined_value : taken_of (form_of Run) (codes "a" ∷ codes "b" ∷ codes "--log=-x=y" ∷ []) ≡ Some ((codes "program", codes "a") ∷ (codes "conf", codes "b") ∷ (codes "log", codes "-x=y") ∷ [])
joined_value = refl

empty_value : taken_of (form_of Run) (codes "a" ∷ codes "b" ∷ codes "--log=" ∷ []) ≡ Some ((codes "program", codes "a") ∷ (codes "conf", codes "b") ∷ (codes "log", []) ∷ [])
empty_value = refl

hyphen_alone : taken_of (form_of Run) (codes "-" ∷ codes "--log" ∷ codes "-" ∷ codes "b" ∷ []) ≡ Some ((codes "program", codes "-") ∷ (codes "conf", codes "b") ∷ (codes "log", codes "-") ∷ [])
hyphen_alone = refl

second_separator : taken_of (form_of Run) (codes "--" ∷ codes "-a" ∷ codes "--" ∷ []) ≡ Some ((codes "program", codes "-a") ∷ (codes "conf", codes "--") ∷ [])
second_separator = refl

option_behind_separator : taken_of (form_of Run) (codes "a" ∷ codes "--" ∷ codes "--log" ∷ []) ≡ Some ((codes "program", codes "a") ∷ (codes "conf", codes "--log") ∷ [])
option_behind_separator = refl

-- ---- refused

separator_for_value : taken_of (form_of Run) (codes "--harts" ∷ codes "--" ∷ codes "a" ∷ codes "b" ∷ []) ≡ None
separator_for_value = refl

option_for_value : taken_of (form_of Run) (codes "a" ∷ codes "b" ∷ codes "--log" ∷ codes "--harts" ∷ codes "2" ∷ []) ≡ None
option_for_value = refl

no_value : taken_of (form_of Run) (codes "a" ∷ codes "b" ∷ codes "--log" ∷ []) ≡ None
no_value = refl

twice : taken_of (form_of Run) (codes "a" ∷ codes "b" ∷ codes "--log" ∷ codes "l" ∷ codes "--log=m" ∷ []) ≡ None
twice = refl

not_in_full : taken_of (form_of Run) (codes "a" ∷ codes "b" ∷ codes "--lo" ∷ codes "c" ∷ []) ≡ None
not_in_full = refl

short_flag : taken_of (form_of Run) (codes "a" ∷ codes "b" ∷ codes "-h" ∷ []) ≡ None
short_flag = refl

surplus_word : taken_of (form_of Run) (codes "a" ∷ codes "b" ∷ codes "c" ∷ []) ≡ None
surplus_word = refl

missing_word : taken_of (form_of Run) (codes "a" ∷ []) ≡ None
missing_word = refl

other_commands_option : taken_of (form_of Asm) (codes "a" ∷ codes "--log" ∷ codes "l" ∷ []) ≡ None
other_commands_option = refl
