-- The text spells the shipped configuration, with its lines.
use Rattle.std.proofs.Common.{◌≡◌, ℕ, List, [], ◌∷◌, refl, ap, sym, subst, arith, drop}
use Rattle.std.specs.Prelude.{codes}
use Rattle.pn_text.specs.Scans.{tokens_of, scan, AtEnd}
use Rattle.pn_text.specs.Tokens.{lexeme_at, number_at, string_at, focus_at, sign_at, dollar_word_at}
use Rattle.pn_text.specs.Words.{Word}
use Rattle.pn_text.specs.declared.place.Place.{Place}
use Rattle.mdl_parse.specs.WordsInText.{TreeWord, Starts, Goes, PlacedWord, Spells, placed_words}
use Rattle.mdl_parse.specs.ItemGrammar.{conf_tree_words}
use Rattle.mdl_parse.specs.Meaning.{IsConf, most_conditions}
use Rattle.mdl_parse.specs.Shapes.{IsShaped}
use Rattle.mdl_parse.specs.ButLines.{but_lines}
use Rattle.mdl_shipped.specs.Shipped.{shipped_conf, in_proc, proc_entries, proc_calls, proc_time, on_object, procedure_calls, calls_made, cpu_inclusive, cpu, sync_wait, io_wait, small_io, cpu_bound, excessive_sync, excessive_io, small_operations, lock_objects, locks, transfers}
use Rattle.mdl_shipped.proofs.Lined.{lined}

unfoldable pub shipped_text : List ℕ
shipped_text = codes "sync lock_;\nconstraint in_proc /Code is counter {\n  foreach func in $focus {\n    prepend entry (* in_proc++; *)\n    append return (* in_proc--; *) } }\nconstraint proc_entries /Code is replace {\n  foreach func in $focus { prepend entry constrained (* $metric++; *) } }\nconstraint proc_calls /Code is replace {\n  foreach func in $focus { prepend call constrained (* $metric++; *) } }\nconstraint proc_time /Code is replace {\n  foreach func in $focus {\n    prepend entry (* start($metric); *)\n    append return (* stop($metric); *) } }\nconstraint on_object /SyncObject is counter {\n  foreach func in [lock_acquire, barrier_wait] {\n    prepend entry (* if ($arg[0] == $value) on_object = 1; *)\n    append return (* on_object = 0; *) } }\nmetric procedure_calls { units \"calls\"; constraint proc_entries;\n  base is counter { foreach func in $all {\n    prepend entry (* procedure_calls++; *) } } }\nmetric calls_made { units \"calls\"; constraint proc_calls;\n  base is counter { foreach func in $all { prepend call (* calls_made++; *) } } }\nmetric cpu_inclusive { units \"ticks\"; constraint proc_time;\n  base is timer initially 1 { } }\nmetric cpu { units \"ticks\"; constraint proc_time;\n  base is timer initially 1 {\n    foreach func in [lock_acquire, barrier_wait, read, write] {\n      prepend entry (* stop(cpu); *)\n      append return (* start(cpu); *) } } }\nmetric sync_wait { units \"ticks\"; constraint in_proc; constraint on_object;\n  base is timer { foreach func in [lock_acquire, barrier_wait] {\n    prepend entry constrained (* start(sync_wait); *)\n    append return (* stop(sync_wait); *) } } }\nmetric io_wait { units \"ticks\"; constraint in_proc;\n  base is timer { foreach func in [read, write] {\n    prepend entry constrained (* start(io_wait); *)\n    append return (* stop(io_wait); *) } } }\nmetric small_io { units \"operations\"; constraint in_proc;\n  base is counter { foreach func in [read, write] {\n    prepend entry constrained (* if ($arg[2] < 64) small_io++; *) } } }\nhypothesis CPUbound { metric cpu; threshold 600; axes Code, Machine; }\nhypothesis ExcessiveSyncWaitingTime {\n  metric sync_wait; threshold 200; axes Code, Machine, SyncObject; }\nhypothesis ExcessiveIOBlockingTime {\n  metric io_wait; threshold 200; axes Code, Machine; }\nhypothesis TooManySmallIOOps { parent ExcessiveIOBlockingTime;\n  metric small_io; threshold 5; axes Code, Machine; }\n"

-- the words of a tree on the lines of placed words, as far as both go
abbrev on_lines : List TreeWord → List PlacedWord → List TreeWord
on_lines [] [] = []
on_lines [] (p ∷ ps) = Goes p.word ∷ []
on_lines (t ∷ ts) [] = []
on_lines (Starts line word ∷ ts) (p ∷ ps) = Starts p.line p.word ∷ on_lines ts ps
on_lines (Goes word ∷ ts) (p ∷ ps) = Goes p.word ∷ on_lines ts ps

abbrev HasWord : List TreeWord → Type 0
HasWord [] = ⊥
HasWord (t ∷ ts) = Unit {0}

abbrev first_word : Word → List TreeWord → Word
first_word default [] = default
first_word default (Starts line word ∷ ts) = word
first_word default (Goes word ∷ ts) = word

abbrev first_line : ℕ → List TreeWord → ℕ
first_line default [] = default
first_line default (Starts line word ∷ ts) = line
first_line default (Goes word ∷ ts) = default

-- words that are those of a tree, on its lines, spell it
fits : (ts : List TreeWord) (ps : List PlacedWord) → on_lines ts ps ≡ ts → Spells ts ps
fits [] [] e = tt
fits [] (p ∷ ps) e = subst HasWord e tt
fits (t ∷ ts) [] e = subst HasWord (sym e) tt
fits (Starts line word ∷ ts) (p ∷ ps) e = ((ap (first_word word) e, ap (first_line line) e), fits ts ps (ap (drop 1) e))
fits (Goes word ∷ ts) (p ∷ ps) e = (ap (first_word word) e, fits ts ps (ap (drop 1) e))

spelled : Spells (conf_tree_words lined) (placed_words shipped_text)
unfolding shipped_text tokens_of scan lexeme_at number_at string_at focus_at sign_at dollar_word_at
spelled = fits (conf_tree_words lined) (placed_words shipped_text) refl

abbrev last : Place
last = record { at = 2358; line = 48; col = 1 }

ends : (tokens_of shipped_text).ending ≡ AtEnd last
unfolding shipped_text tokens_of scan lexeme_at number_at string_at focus_at sign_at dollar_word_at
ends = refl

shaped : IsShaped most_conditions lined
shaped = (tt, (((tt, (((omega arith, (refl, refl)), tt), (((omega arith, (refl, refl)), tt), tt))), tt), (((tt, (((omega arith, (refl, refl)), tt), tt)), tt), (((tt, (((omega arith, (refl, refl)), tt), tt)), tt), (((tt, (((omega arith, tt), tt), (((omega arith, tt), tt), tt))), tt), (((tt, (((omega arith, (refl, refl)), tt), (((omega arith, (refl, refl)), tt), tt))), tt), (((tt, (((omega arith, (refl, refl)), tt), tt)), tt), (((tt, (((omega arith, (refl, refl)), tt), tt)), tt), (tt, (((tt, (((omega arith, tt), tt), (((omega arith, tt), tt), tt))), tt), (((tt, (((omega arith, tt), tt), (((omega arith, tt), tt), tt))), tt), (((tt, (((omega arith, tt), tt), (((omega arith, tt), tt), tt))), tt), (((tt, (((omega arith, (refl, refl)), tt), tt)), tt), (tt, (tt, (tt, (tt, tt)))))))))))))))))

pub is_conf : IsConf shipped_text lined
is_conf = record { last = last; end = ends; spelled = record { words = spelled; shaped = shaped } }

-- but for its lines it is the shipped configuration
pub without_lines : but_lines lined ≡ shipped_conf
unfolding shipped_conf in_proc proc_entries proc_calls proc_time on_object procedure_calls calls_made cpu_inclusive cpu sync_wait io_wait small_io cpu_bound excessive_sync excessive_io small_operations lock_objects locks transfers
without_lines = refl
