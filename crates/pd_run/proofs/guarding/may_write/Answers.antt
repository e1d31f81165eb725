use Rattle.std.proofs.Common.{◌∙◌, inr, refl, sym}
use Rattle.pd_run.proofs.Beginnings.{begins_file}
use Rattle.pd_run.proofs.guarding.may_write.Goals as goal

pub returns-in-Ok : goal.returns-in-Ok
returns-in-Ok g c is =
    inr (begins_file c.args.kind (g.F.Files.holds c.args.files.now c.args.name.now) c.in-Ok.count c.read_at.new.buf _ c.in-Ok.ensures.bytes refl (sym c.begins_as.ensures ∙ is))
