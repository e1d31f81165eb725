use Rattle.std.proofs.Common.{[], ◌∷◌, Some, None}
use Rattle.std.proofs.lemmas.Bool.Decides.{Decides-eqb}
use Rattle.std.proofs.lemmas.Slice.Eq.{strip_prefix_is}
use Rattle.profile_text.proofs.Paths.{name_left, no_module, no_slash}
use Rattle.profile_text.proofs.names.is_path.Goals as goal

pub returns-in_default : goal.returns-in_default
returns-in_default c =
    no_module c.args.proc.now.«module» c.args.proc.now.name c.args.text.now c.bytes.result.now c.bytes.ensures
    (strip_prefix_is Decides-eqb c.args.text.now c.bytes.result.now None c.in_default.ensures.cases)

pub returns-in_default-strip_prefix : goal.returns-in_default-strip_prefix
returns-in_default-strip_prefix c =
    no_slash c.args.proc.now.«module» c.args.proc.now.name c.args.text.now c.bytes.result.now c.in-Some.rest.now c.bytes.ensures
    (strip_prefix_is Decides-eqb c.args.text.now c.bytes.result.now (Some c.in-Some.rest) c.in-Some.ensures.cases)
    (strip_prefix_is Decides-eqb c.in-Some.rest.now (47 ∷ []) None c.in_default-strip_prefix.ensures.cases)

pub returns : goal.returns
returns c =
    name_left c.args.proc.now.«module» c.args.proc.now.name c.args.text.now c.bytes.result.now c.in-Some.rest.now
    c.in-Some-strip_prefix.name.now c.bytes-2.result.now c.eq.result c.bytes.ensures
    (strip_prefix_is Decides-eqb c.args.text.now c.bytes.result.now (Some c.in-Some.rest) c.in-Some.ensures.cases)
    (strip_prefix_is Decides-eqb c.in-Some.rest.now (47 ∷ []) (Some c.in-Some-strip_prefix.name) c.in-Some-strip_prefix.ensures.cases)
    c.bytes-2.ensures c.eq.ensures
