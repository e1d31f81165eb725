use Rattle.std.proofs.Common.{refl}
use Rattle.tramp_spec.specs.Statements.{body_of}
use Rattle.prim_code.proofs.Whole as proof
use Rattle.prim_code.proofs.laws.statement_rows.Goals as goal

pub returns : goal.returns
unfolding body_of
returns c =
    record {
      up = refl;
      down = refl;
      put = refl;
      start = refl;
      stop = refl;
      guarded = refl;
      equal = refl;
      other = refl;
      above = refl;
      at_most = refl;
      idle_stop = proof.idle_stop;
    }
