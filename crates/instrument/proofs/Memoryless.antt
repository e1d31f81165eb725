-- The definitions never refuse a site because memory runs out.
use Rattle.std.proofs.Common.{◌≡◌, ℕ, ◌+◌, List, [], ◌∷◌, Option, Some, None, ap, sym, subst, ◌∙◌, length}
use Rattle.std.specs.Prelude.{find, Result, Ok, Err}
use Rattle.std.specs.Result.{IsErrAnd}
use Rattle.pn_types.specs.declared.plan.Site.{Site}
use Rattle.rv_word.specs.Plain.{Words, program_word}
use Rattle.tramp_spec.specs.Blocks.{moved_at}
use Rattle.tramp_spec.specs.MovedWords.{moved_of}
use Rattle.tramp_spec.specs.Statements.{body_of}
use Rattle.tramp_spec.specs.declared.block.Block.{Block}
use Rattle.tramp_spec.specs.declared.mark.MarkedWord.{MarkedWord}
use Rattle.instrument.specs.Admission.{base_len, a_base, rooms_with, with_mini_at, with_moved, with_base_at, with_base, with_site_by, with_site, with_sites, and_then}
use Rattle.instrument.specs.Books.{Book, is_base_of}
use Rattle.instrument.specs.Fits.{room_for}
use Rattle.instrument.specs.declared.number.Refused.{Refused}
use Rattle.instrument.specs.declared.number.Refused.TheVariants.{NoMemory}
use Rattle.instrument.specs.declared.room.Room.{Room}

of_mini : (o : Option ℕ) (owner point : ℕ) (body : List MarkedWord) (base : Option Block) (book : Book) → with_mini_at o owner point body base book ≡ Err NoMemory → ⊥
of_mini None owner point body base book e = absurd cc
of_mini (Some at) owner point body base book e = absurd cc

of_moved : (o : Option (List MarkedWord)) (t : Words) (at owner point : ℕ) (body : List MarkedWord) (book : Book) → with_moved o t at owner point body book ≡ Err NoMemory → ⊥
of_moved None t at owner point body book e = absurd cc
of_moved (Some moved) t at owner point body book e = of_mini (room_for t (rooms_with (Some (a_base point at moved)) book.rooms) (length body + 1)) owner point body (Some (a_base point at moved)) book e

of_base_at : (o : Option ℕ) (t : Words) (word owner point : ℕ) (body : List MarkedWord) (book : Book) → with_base_at o t word owner point body book ≡ Err NoMemory → ⊥
of_base_at None t word owner point body book e = absurd cc
of_base_at (Some at) t word owner point body book e = of_moved (moved_of word point (moved_at at)) t at owner point body book e

of_base : (o : Option ℕ) (t : Words) (owner point : ℕ) (body : List MarkedWord) (book : Book) → with_base o t owner point body book ≡ Err NoMemory → ⊥
of_base None t owner point body book e = absurd cc
of_base (Some word) t owner point body book e = of_base_at (room_for t book.rooms (base_len word)) t word owner point body book e

of_site : (o : Option Room) (t : Words) (owner point : ℕ) (body : List MarkedWord) (book : Book) → with_site_by o t owner point body book ≡ Err NoMemory → ⊥
of_site (Some base) t owner point body book e = of_mini (room_for t book.rooms (length body + 1)) owner point body None book e
of_site None t owner point body book e = of_base (program_word t point) t owner point body book e

pub sites_memoryless : (t : Words) (owner : ℕ) (slots : List ℕ) (sites : List Site) (book : Book) → with_sites t owner slots sites book ≡ Err NoMemory → ⊥
sites_memoryless t owner slots [] book e = absurd cc
sites_memoryless t owner slots (s ∷ sites) book e =
    by (with_site t owner slots s book) (of_site (find (is_base_of s.at) book.rooms) t owner s.at (body_of slots s.stmts) book) (λ b. sites_memoryless t owner slots sites b) e
  where
    by : (o : Result Book Refused) → (o ≡ Err NoMemory → ⊥) → ((b : Book) → with_sites t owner slots sites b ≡ Err NoMemory → ⊥) → and_then o (with_sites t owner slots sites) ≡ Err NoMemory → ⊥
    by (Err x) n ih q = n q
    by (Ok b) n ih q = ih b q

-- where the definitions refuse a plan, it isn't because memory runs out
pub refused_memoryless : {A : Type 0} (t : Words) (owner : ℕ) (slots : List ℕ) (sites : List Site) (book : Book) (x : Refused) (r : Result A Refused) → with_sites t owner slots sites book ≡ Err x → IsErrAnd r (λ y. y ≡ x) → r ≡ Err NoMemory → ⊥
refused_memoryless {A = A} t owner slots sites book x r e f g =
    sites_memoryless t owner slots sites book (e ∙ ap (λ z. Err z) (sym (subst (λ (q : Result A Refused). IsErrAnd q (λ y. y ≡ x)) g f)))
