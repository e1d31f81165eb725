-- Steps that come to a value, and what a file has that was read.
use Rattle.std.proofs.Common.{◌≡◌, ℕ, ◌≤◌, Bool, true, false, cond, Option, Some, None, Result, Ok, Err, List, length, refl, sym, subst}
use Rattle.std.specs.Prelude.{nat_lt}
use Rattle.std.proofs.lemmas.Bool.{ltb-false}
use Rattle.refusals.specs.Refusals.{Step, Then}
use Rattle.refusals.specs.declared.fault.Fault.{Fault}
use Rattle.session_spec.specs.Inputs.{Inputs}
use Rattle.session_spec.specs.declared.data.RefusedWish.{RefusedWish}
use Rattle.commands.specs.Given.{pick_fault}
use Rattle.commands.specs.Runs.{IsOpened}
use Rattle.commands.specs.FileReadings.{IsContent, FileReading, limited}
use Rattle.commands.specs.declared.texts.Texts.{Texts}

-- where two steps came to a value, the first came to one, and the second after it
pub record Came {A B : Type 0} (one : Step A) (two : A → Step B) (b : B) : Type 0 where
  pub a : A
  pub first : one (Ok a)
  pub next : two a (Ok b)

pub came : {A B : Type 0} (one : Step A) (two : A → Step B) (b : B) → Then one two (Ok b) → Came one two b
came one two b (Ok a, f, n) = record { a = a; first = f; next = n }
came one two b (Err e, f, n) = absurd (let no : Ok b ≡ Err e = n in cc)

pub ok_is : {A E : Type 0} (a b : A) → ◌≡◌ {A = Result A E} (Ok a) (Ok b) → a ≡ b
ok_is a b e = cc

-- a session whose texts are due opened
pub opened : (o : Option RefusedWish) (i : Inputs) (comes : Step Texts) (texts : Texts) → IsOpened o i comes (Ok texts) → comes (Ok texts)
opened None i comes texts h = h
opened (Some wish) i comes texts e = absurd (let no : Ok texts ≡ Err (pick_fault i wish) = e in cc)

pub opens : (o : Option RefusedWish) (i : Inputs) (comes : Step Texts) (texts : Texts) → IsOpened o i comes (Ok texts) → o ≡ None
opens None i comes texts h = refl
opens (Some wish) i comes texts e = absurd (let no : Ok texts ≡ Err (pick_fault i wish) = e in cc)

-- ---- files

-- what a file has is what was seen of it, and it isn't too long
pub record Content (sees : FileReading) (most : ℕ) (name content : List ℕ) : Type 0 where
  pub told : sees name (Ok content)
  pub few : length content ≤ most

within : (most : ℕ) (fault : Fault) (bytes content : List ℕ) (b : Bool) → nat_lt most (length bytes) ≡ b → Ok content ≡ cond b (Err fault) (Ok bytes) → (bytes ≡ content) × (length bytes ≤ most)
within most fault bytes content true l e = absurd (cc)
within most fault bytes content false l e = (sym (ok_is content bytes e), ltb-false most (length bytes) l)

pub content_of : (sees : FileReading) (most : ℕ) (fault : Fault) (name content : List ℕ) → IsContent sees most fault name (Ok content) → Content sees most name content
content_of sees most fault name content step =
    let c = came (sees name) (λ bytes x. x ≡ limited most fault bytes) content step in
    let w = within most fault c.a content (nat_lt most (length c.a)) refl c.next in
    subst (Content sees most name) w.0 (record { told = c.first; few = w.1 })
