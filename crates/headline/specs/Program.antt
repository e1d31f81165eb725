-- What the program is called with, and what it does.
use Rattle.std.specs.Prelude.{◌≡◌, ◌⊎◌, ℕ, IsSome, false, List, [], map, string_bytes, Option, Some, None, Ok}
use Rattle.command_words.specs.Requests.{request_of}
use Rattle.commands.specs.Due.{is_live}
use Rattle.commands.specs.FileReadings.{reads}
use Rattle.commands.specs.declared.texts.Texts.{Texts}
use Rattle.outside.specs.Outside.{Holding}
use Rattle.headline.specs.Serving.{AreGained, IsOwed, IsServedCall}
use Rattle.headline.specs.Headline.{Tells}
use Rattle.headline.specs.declared.program.Words.{Words}
use Rattle.headline.specs.declared.program.Words.TheVariants.{Read, NotText, NoMemory}

-- the words of a command line; words that aren't text are none, and are no command
abbrev pub words_read : Words → Option (List (List ℕ))
words_read (Read words) = Some (map string_bytes words.items)
words_read NotText = Some []
words_read NoMemory = None

-- Where texts are owed for words and files, they tell what the headline says.
abbrev pub OwedIsHonest : {F : Type 0} → (F → List ℕ → Holding) → (F → List ℕ → ℕ) → Type 0
OwedIsHonest {F} holds faults =
    (old new : F) (words : List (List ℕ)) (texts : Texts) → IsOwed holds faults old new words (Ok texts) →
    Tells (request_of words) (reads (holds old) (faults old) (faults new)) texts

-- Of files each of which is told, whatever they hold, texts can tell one thing alone; under `live`, where the harts may take other turns,
-- those with one log.
abbrev pub ToldOnce : Type 0
ToldOnce =
    (holds : List ℕ → Holding) (before now : List ℕ → ℕ) (words : List (List ℕ)) (texts others : Texts) →
    ((name : List ℕ) → IsSome (holds name)) → (is_live (request_of words) ≡ false) ⊎ (texts.log ≡ others.log) →
    Tells (request_of words) (reads holds before now) texts → Tells (request_of words) (reads holds before now) others → texts ≡ others

-- A call does what is owed for its words, and with status 0 both sinks gained texts that tell what the headline says.
pub record IsTold {F K L : Type 0} (holds : F → List ℕ → Holding) (faults : F → List ℕ → ℕ) (old new : F) (words : List (List ℕ))
    (hasK : K → Option (List ℕ)) (faultsK : K → ℕ) (oldK newK : K) (hasL : L → Option (List ℕ)) (faultsL : L → ℕ) (oldL newL : L)
    (status : ℕ) : Type 0 where
  pub served : IsServedCall holds faults old new words hasK faultsK oldK newK hasL faultsL oldL newL status
  pub told : status ≡ 0 → (texts : Texts) × AreGained hasK faultsK oldK newK hasL faultsL oldL newL texts
      × Tells (request_of words) (reads (holds old) (faults old) (faults new)) texts
