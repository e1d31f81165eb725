-- What was prepared, as a session is given it.
use Rattle.std.proofs.Common.{◌≡◌, Result, Ok, Err, sym, subst}
use Rattle.std.specs.Result.{IsErr, IsErrAnd}
use Rattle.refusals.proofs.Steps.{comes_then, handed_on}
use Rattle.refusals.specs.Refusals.{Comes, RefusalIs, Step, Then}
use Rattle.refusals.specs.declared.fault.Fault.{Fault}
use Rattle.refusals.specs.declared.refusal.Refusal.{Refusal}
use Rattle.refusals.specs.declared.refusal.Refusal.TheVariants as refusal
use Rattle.session_spec.specs.Inputs.{Inputs}
use Rattle.commands.specs.Preparing.{IsPreparedOf}
use Rattle.commands.specs.declared.preparing.Prepared.{Prepared}

refused_gives : (given : Step Inputs) (e : Refusal) → Comes (Err e) given → Comes (Err e) (IsPreparedOf given)
refused_gives given (refusal.Fault fault) h = h
refused_gives given refusal.NoMemory h = tt

-- where `?` hands the refusal of a step on
pub handed_gives : (given : Step Inputs) (e : Refusal) (r : Result Prepared Refusal) → IsErr r × IsErrAnd r (λ x. x ≡ e) → Comes (Err e) given → Comes r (IsPreparedOf given)
handed_gives given e (Ok prepared) h why = absurd h.1
handed_gives given e (Err x) h why = subst (λ (y : Refusal). Comes (Err y) (IsPreparedOf given)) (sym h.1) (refused_gives given e why)

-- other steps that are given what was prepared
pub gives_as : (step other : Step Inputs) → ((i : Result Inputs Fault) → step i → other i) → (r : Result Prepared Refusal) → Comes r (IsPreparedOf step) → Comes r (IsPreparedOf other)
gives_as step other more (Ok prepared) h = more (Ok prepared.inputs) h
gives_as step other more (Err (refusal.Fault fault)) h = more (Err fault) h
gives_as step other more (Err refusal.NoMemory) h = tt

-- what was prepared, and then what comes of it
pub gives_then : {B : Type 0} (given : Step Inputs) (next : Inputs → Step B) (prepared : Prepared) (b : Result B Refusal) → IsPreparedOf given (Ok prepared) → Comes b (next prepared.inputs) → Comes b (Then given next)
gives_then given next prepared b h c = comes_then given next prepared.inputs b h c

-- where `?` hands on that it was refused
pub gives_refused : {B : Type 0} (given : Step Inputs) (next : Inputs → Step B) (e : Refusal) (r : Result B Refusal) → IsErr r × IsErrAnd r (λ x. x ≡ e) → RefusalIs e (λ fault. IsPreparedOf given (Err fault)) → Comes r (Then given next)
gives_refused given next e r h why = handed_on given next e r h why
