-- What was seen of files, step by step.
use Rattle.std.proofs.Common.{◌≡◌, ℕ, ◌+◌, ◌<◌, ◌≤◌, List, length, Some, None, Result, Ok, Err, refl, sym, ap, subst, ⊎_elim, arith}
use Rattle.std.specs.Prelude.{nat_lt, replicate}
use Rattle.std.proofs.lemmas.Bool.{cases_lt, lt-ltb, le-ltb, cond-true, cond-false}
use Rattle.std.proofs.lemmas.List.{get_or-replicate, get_or_past, length-replicate}
use Rattle.outside.specs.Causes.{Rose}
use Rattle.outside.specs.Outside.{Holding, IsBytes, IsWhole, IsLonger}
use Rattle.command_words.specs.Requests.{DirectRequest, SessionRequest}
use Rattle.directives.specs.declared.directive.Directive.{Directive}
use Rattle.mdl_ast.specs.declared.items.Conf.{Conf}
use Rattle.pn_types.specs.declared.image.Image.{Image}
use Rattle.refusals.specs.Refusals.{Comes, RefusalIs, Step}
use Rattle.refusals.specs.declared.fault.Fault.{Fault}
use Rattle.refusals.specs.declared.refusal.Refusal.{Refusal}
use Rattle.refusals.specs.declared.refusal.Refusal.TheVariants as refusal
use Rattle.session_spec.specs.Inputs.{Inputs as SessionInputs}
use Rattle.commands.specs.Differing.{IsComparedFile}
use Rattle.commands.specs.Directing.{AreDirectives, IsDirection}
use Rattle.commands.specs.Inputs.{IsProgramOfFile, IsConfiguration, AreInputs}
use Rattle.commands.specs.Logs.{IsLog}
use Rattle.commands.specs.Runs.{IsPrepared}
use Rattle.commands.specs.FileReadings.{FileReading, reads, IsContent}
use Rattle.commands.specs.declared.differing.ComparedFile.{ComparedFile}
use Rattle.commands.specs.declared.inputs.Inputs.{Inputs}
use Rattle.commands.specs.declared.logs.Log.{Log}
use Rattle.commands.specs.declared.texts.Texts.{Texts}

-- zeros are bytes
zeros : (n : ℕ) → IsBytes (replicate n 0)
zeros n i = ⊎_elim (λ (l : i < n). omega (arith, get_or-replicate {A = ℕ} n i 0 0 l)) (λ (l : n ≤ i). omega (arith, get_or_past {X = ℕ} (replicate n 0) i 0 (omega (arith, l, length-replicate {A = ℕ} n 0)))) (cases_lt i n)

-- a file that is longer than a number of bytes has some bytes
pub some_longer : (holding : Holding) (most : ℕ) → IsLonger holding most → (bytes : List ℕ) × (IsWhole holding bytes × IsBytes bytes) × (most < length bytes)
some_longer None most h = (replicate (most + 1) 0, (tt, zeros (most + 1)), omega (arith, length-replicate {A = ℕ} (most + 1) 0))
some_longer (Some None) most h = absurd h
some_longer (Some (Some file)) most h = (file, (refl, h.1), h.0)

module _ (sees : FileReading) (most : ℕ) (too_long : Fault) (name : List ℕ) where
  -- a file that has at most a number of bytes
  pub short_content : (bytes : List ℕ) → sees name (Ok bytes) → length bytes ≤ most → IsContent sees most too_long name (Ok bytes)
  short_content bytes h short = (Ok bytes, h, sym (cond-false (nat_lt most (length bytes)) (Err too_long) (Ok bytes) (le-ltb most (length bytes) short)))

  -- a file that has more
  pub long_content : ((bytes : List ℕ) × sees name (Ok bytes) × (most < length bytes)) → IsContent sees most too_long name (Err too_long)
  long_content (bytes, h, long) = (Ok bytes, h, sym (cond-true (nat_lt most (length bytes)) (Err too_long) (Ok bytes) (lt-ltb most (length bytes) long)))

  -- a file that could not be read
  pub unread_content : (fault : Fault) → sees name (Err fault) → IsContent sees most too_long name (Err fault)
  unread_content fault h = (Err fault, h, refl)

-- ---- what was seen before other files were read, and after

-- a program that was read stays read
pub program_again : (holds : List ℕ → Holding) (before then now : List ℕ → ℕ) (name : List ℕ) (image : Image) → IsProgramOfFile (reads holds before then) name (Ok image) → IsProgramOfFile (reads holds before now) name (Ok image)
program_again holds before then now name image (Ok bytes, (Ok whole, h, short), is) = (Ok bytes, (Ok whole, h, short), is)
program_again holds before then now name image (Ok bytes, (Err fault, h, short), is) = absurd (cc)
program_again holds before then now name image (Err fault, h, is) = absurd (cc)

-- and so does a configuration
configuration_again : (holds : List ℕ → Holding) (before then now : List ℕ → ℕ) (name : List ℕ) (conf : Conf) → IsConfiguration (reads holds before then) name (Ok conf) → IsConfiguration (reads holds before now) name (Ok conf)
configuration_again holds before then now name conf (Ok text, (Ok whole, h, short), means) = (Ok text, (Ok whole, h, short), means)
configuration_again holds before then now name conf (Ok text, (Err fault, h, short), means) = absurd (cc)
configuration_again holds before then now name conf (Err fault, h, is) = absurd (cc)

pub inputs_again : (holds : List ℕ → Holding) (before then now : List ℕ → ℕ) (program conf : List ℕ) (i : Inputs) → AreInputs (reads holds before then) program conf (Ok i) → AreInputs (reads holds before now) program conf (Ok i)
inputs_again holds before then now program conf i (Ok image, p, (Ok c, q, is)) = (Ok image, program_again holds before then now program image p, (Ok c, configuration_again holds before then now conf c q, is))
inputs_again holds before then now program conf i (Ok image, p, (Err fault, q, is)) = absurd (cc)
inputs_again holds before then now program conf i (Err fault, p, is) = absurd (cc)

-- a file whose holding and count are those of before
pub seen_from : (holds later : List ℕ → Holding) (before then now : List ℕ → ℕ) (name : List ℕ) → later name ≡ holds name → then name ≡ before name → (r : Result (List ℕ) Fault) → reads later then now name r → reads holds before now name r
seen_from holds later before then now name same count (Ok bytes) h = (subst (λ x. IsWhole x bytes) same h.0, h.1)
seen_from holds later before then now name same count (Err fault) h = (h.0, subst (λ n. Rose n (now name)) count h.1)

pub configuration_from : (sees also : FileReading) (name : List ℕ) → ((r : Result (List ℕ) Fault) → sees name r → also name r) → (conf : Result Conf Fault) → IsConfiguration sees name conf → IsConfiguration also name conf
configuration_from sees also name more conf (content, (bytes, h, short), means) = (content, (bytes, more bytes h, short), means)

program_from : (sees also : FileReading) (name : List ℕ) → ((r : Result (List ℕ) Fault) → sees name r → also name r) → (image : Result Image Fault) → IsProgramOfFile sees name image → IsProgramOfFile also name image
program_from sees also name more image (content, (bytes, h, short), is) = (content, (bytes, more bytes h, short), is)

inputs_from : (sees also : FileReading) (program conf : List ℕ) → ((r : Result (List ℕ) Fault) → sees program r → also program r) → ((r : Result (List ℕ) Fault) → sees conf r → also conf r) →
    (i : Result Inputs Fault) → AreInputs sees program conf i → AreInputs also program conf i
inputs_from sees also program conf more most i (Ok image, p, (c, q, is)) = (Ok image, program_from sees also program more (Ok image) p, (c, configuration_from sees also conf most c q, is))
inputs_from sees also program conf more most i (Err fault, p, is) = (Err fault, program_from sees also program more (Err fault) p, is)

pub prepared_from : (sees also : FileReading) (r : SessionRequest) → ((x : Result (List ℕ) Fault) → sees r.program x → also r.program x) →
    ((x : Result (List ℕ) Fault) → sees r.conf x → also r.conf x) → (i : Result SessionInputs Fault) → IsPrepared r sees i → IsPrepared r also i
prepared_from sees also r more most i (read, h, rest) = (read, inputs_from sees also r.program r.conf more most read h, rest)

pub comes_as : {A : Type 0} (step other : Step A) → ((a : Result A Fault) → step a → other a) → (r : Result A Refusal) → Comes r step → Comes r other
comes_as step other more (Ok a) h = more (Ok a) h
comes_as step other more (Err (refusal.Fault fault)) h = more (Err fault) h
comes_as step other more (Err refusal.NoMemory) h = tt

-- what was seen of a file in memory that never fails
pub seen_sure : (holds : List ℕ → Holding) (name text : List ℕ) → holds name ≡ Some (Some text) → (r : Result (List ℕ) Fault) → reads holds (λ name. 0) (λ name. 0) name r → r ≡ Ok text
seen_sure holds name text is (Ok bytes) h = ap (λ (b : List ℕ). Ok b) (subst (λ x. IsWhole x bytes) is h.0)
seen_sure holds name text is (Err fault) h = absurd (omega (arith, h.1))

pub log_from : (sees also : FileReading) (name : List ℕ) → ((r : Result (List ℕ) Fault) → sees name r → also name r) → (log : Result Log Fault) → IsLog sees name log → IsLog also name log
log_from sees also name more log (content, (bytes, h, short), means) = (content, (bytes, more bytes h, short), means)

pub refuses_as : (P Q : Fault → Type 0) (e : Refusal) → ((fault : Fault) → P fault → Q fault) → RefusalIs e P → RefusalIs e Q
refuses_as P Q (refusal.Fault fault) more h = more fault h
refuses_as P Q refusal.NoMemory more h = tt

pub directives_from : (sees also : FileReading) (name : List ℕ) → ((r : Result (List ℕ) Fault) → sees name r → also name r) → (directives : Result (List Directive) Fault) → AreDirectives sees name directives → AreDirectives also name directives
directives_from sees also name more directives (content, (bytes, h, short), means) = (content, (bytes, more bytes h, short), means)

pub direction_from : (sees also : FileReading) (r : DirectRequest) → ((x : Result (List ℕ) Fault) → sees r.directives x → also r.directives x) → (i : Inputs) (texts : Result Texts Fault) → IsDirection r sees i texts → IsDirection r also i texts
direction_from sees also r more i texts (directives, h, rest) = (directives, directives_from sees also r.directives more directives h, rest)

-- what is compared and was read stays read
pub compared_again : (bad : ℕ → Fault) (holds : List ℕ → Holding) (before then now : List ℕ → ℕ) (name : List ℕ) (compared : ComparedFile) → IsComparedFile bad (reads holds before then) name (Ok compared) → IsComparedFile bad (reads holds before now) name (Ok compared)
compared_again bad holds before then now name compared (Ok bytes, (Ok whole, h, short), is) = (Ok bytes, (Ok whole, h, short), is)
compared_again bad holds before then now name compared (Ok bytes, (Err fault, h, short), is) = absurd (cc)
compared_again bad holds before then now name compared (Err fault, h, is) = absurd (cc)

pub compared_from : (bad : ℕ → Fault) (sees also : FileReading) (name : List ℕ) → ((r : Result (List ℕ) Fault) → sees name r → also name r) → (compared : Result ComparedFile Fault) → IsComparedFile bad sees name compared → IsComparedFile bad also name compared
compared_from bad sees also name more compared (content, (bytes, h, short), is) = (content, (bytes, more bytes h, short), is)
