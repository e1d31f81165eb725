-- What the files that were read hold.
use Rattle.std.proofs.Common.{◌≡◌, ℕ, ◌≤◌, Option, Some, None, Result, Ok, Err, List, length, refl, sym, ap, ◌∙◌, subst, arith}
use Rattle.elf_write.proofs.MeantAgain.{assembled_accepted}
use Rattle.elf_write.proofs.Writable.{can_write}
use Rattle.elf_write.specs.Made.{IsMeantAgain, elf_of, file_or_fault}
use Rattle.elf_form.specs.Meaning.{meaning_of as elf_meaning}
use Rattle.elf_write.proofs.ReadAgain.{read_again}
use Rattle.elf_write.specs.Layout.{elf_bytes}
use Rattle.mdl_ast.specs.declared.items.Conf.{Conf}
use Rattle.outside.specs.Outside.{IsBytes}
use Rattle.pn_types.specs.declared.image.Image.{Image}
use Rattle.pn_types.specs.declared.quantum.Quantum.{Quantum}
use Rattle.pn_types.specs.declared.settings.Settings.{Settings}
use Rattle.quanta_log.proofs.LogBytes.{writable}
use Rattle.quanta_log.specs.Meaning.{meaning_as, meaning_of, version_of}
use Rattle.quanta_log.specs.Spelling.{CanSpell}
use Rattle.quanta_log.specs.declared.fault.LogFault.{LogFault}
use Rattle.quanta_log.specs.declared.version.Version.{Version}
use Rattle.quanta_log.specs.declared.version.Version.TheVariants.{Two}
use Rattle.refusals.specs.Logs.{log_fault_at}
use Rattle.refusals.specs.Refusals.{Step, Then}
use Rattle.rv_asm.proofs.AssembledImages.{assembled_is}
use Rattle.rv_asm.specs.Assembly.{assembled}
use Rattle.rv_asm.specs.declared.fault.AsmFault.{AsmFault}
use Rattle.commands.specs.Inputs.{AreInputs, IsConfContent, IsConfiguration, IsProgramOfFile, IsProgramContent, MeansConf, image_of}
use Rattle.commands.specs.Logs.{IsLog, IsLogContent, MeansLog, log_with, or_bad_log}
use Rattle.commands.specs.FileReadings.{FileReading}
use Rattle.commands.specs.declared.inputs.Inputs.{Inputs}
use Rattle.headline.specs.Headline.{IsConfigurationOf, IsProgramOf}
use Rattle.headline.proofs.Steps.{Came, came, content_of, ok_is}

-- what is seen of a file are bytes
abbrev pub IsOfBytes : FileReading → List ℕ → Type 0
IsOfBytes sees name = (bytes : List ℕ) → sees name (Ok bytes) → IsBytes bytes

-- ---- programs and configurations

module _ (sees : FileReading) where
  pub program_of : (name : List ℕ) (image : Image) → IsOfBytes sees name → IsProgramOfFile sees name (Ok image) → IsProgramOf sees name image
  program_of name image bytes step =
      let b = came (IsProgramContent sees name) (λ bytes x. x ≡ image_of bytes) image step in
      let c = content_of sees 33554432 _ name b.a b.first in
      (b.a, c.told, record { are = bytes b.a c.told; short = c.few; means = sym b.next })

  pub configuration_of : (name : List ℕ) (conf : Conf) → IsConfiguration sees name (Ok conf) → IsConfigurationOf sees name conf
  configuration_of name conf step =
      let b = came (IsConfContent sees name) MeansConf conf step in
      let c = content_of sees 1048576 _ name b.a b.first in
      (b.a, c.told, record { short = c.few; spelled = b.next })

  -- what two files hold
  pub record AreRead (program conf : List ℕ) (read : Inputs) : Type 0 where
    pub holds_program : IsProgramOf sees program read.image
    pub holds_conf : IsConfigurationOf sees conf read.conf

  pub inputs_of : (program conf : List ℕ) (read : Inputs) → IsOfBytes sees program → AreInputs sees program conf (Ok read) → AreRead program conf read
  inputs_of program conf read bytes step =
      let ends : Image → Conf → Step Inputs = λ image c inputs. inputs ≡ Ok (record { image = image; conf = c }) in
      let goes : Image → Step Inputs = λ image. Then (IsConfiguration sees conf) (ends image) in
      let p = came (IsProgramOfFile sees program) goes read step in
      let c = came (IsConfiguration sees conf) (ends p.a) read p.next in
      let is : read ≡ record { image = p.a; conf = c.a } = ok_is read (record { image = p.a; conf = c.a }) c.next in
      subst (AreRead program conf) (sym is) (record { holds_program = program_of program p.a bytes p.first; holds_conf = configuration_of conf c.a c.first })

-- ---- logs

some_version : (b : List ℕ) (s : Settings) (quanta : List Quantum) (o : Option Version) → version_of b ≡ o → meaning_as o b ≡ Ok (s, quanta) → (v : Version) × (version_of b ≡ Some v)
some_version b s quanta None e m = absurd (cc)
some_version b s quanta (Some v) e m = (v, e)

-- what bytes mean as a log has one that is written now
spells : (b : List ℕ) → IsBytes b → (s : Settings) (quanta : List Quantum) → meaning_of b ≡ Ok (s, quanta) → CanSpell Two s quanta
unfolding meaning_of
spells b bytes s quanta m = let v = some_version b s quanta (version_of b) refl m in writable b v.0 s quanta bytes v.1 m

through : {L X : Type 0} (a b : L) → a ≡ b → (f : L → X) → f a ≡ f b
through a b e f = ap f e

module _ (sees : FileReading) (name : List ℕ) where
  -- what the file of a log holds
  pub record IsLogRead (settings : Settings) (quanta : List Quantum) : Type 0 where
    pub log : List ℕ
    pub told : sees name (Ok log)
    pub means : meaning_of log ≡ Ok (settings, quanta)
    pub able : CanSpell Two settings quanta

  -- the type of logs has no name here
  pub log_read : {B : Type 0} → IsOfBytes sees name → (b : B) (two : _ → Step B) (l : Came (IsLog sees name) two b) → IsLogRead l.a.settings l.a.quanta
  log_read bytes b two l =
      let settings : Settings = l.a.settings in
      let quanta : List Quantum = l.a.quanta in
      let c = came (IsLogContent sees name) MeansLog l.a l.first in
      let told = content_of sees 268435496 _ name c.a c.first in
      let means : meaning_of c.a ≡ Ok (settings, quanta) =
      (elim (meaning_of c.a) as (λ m. Ok l.a ≡ or_bad_log c.a m → m ≡ Ok (settings, quanta)) [
        | Ok p ↦ λ e. sym (through {X = Result (Settings × List Quantum) LogFault} l.a (log_with c.a p) (ok_is l.a (log_with c.a p) e) (λ x. Ok (x.settings, x.quanta)))
        | Err fault ↦ λ e. absurd (let no : Ok l.a ≡ Err (log_fault_at fault) = e in cc)
      ]) c.next in
      record { log = c.a; told = told.told; means = means; able = spells c.a (bytes c.a told.told) settings quanta means }

-- ---- ELF files of texts

written_is : (image : Image) (file : List ℕ) (r : Result Image AsmFault) → r ≡ Ok image → file_or_fault r ≡ Ok file → file ≡ elf_bytes image
written_is image file (Ok x) e w = let same : x ≡ image = ok_is x image e in sym (ok_is (elf_bytes x) file w) ∙ ap elf_bytes same
written_is image file (Err fault) e w = absurd (cc)

pub meant_again : (text file : List ℕ) → length text ≤ 33554432 → elf_of text ≡ Ok file → IsMeantAgain text file
meant_again text file short e image means entered =
    let named = (assembled_is text image means).names in
    ap elf_meaning (written_is image file (assembled text) means e)
    ∙ read_again image (assembled_accepted text image means (omega arith) entered) (can_write image (length text) short named)
