use Rattle.mdl_parse.proofs.Unique.{one_conf, conf_or_fault}
use Rattle.mdl_parse.proofs.OneFault.{one_fault}
use Rattle.mdl_parse.proofs.parsing.one_meaning.Goals as goal

pub returns-clause-conf : goal.returns-clause-conf
returns-clause-conf c text one other i j = one_conf text one other i j

pub returns-clause-fault : goal.returns-clause-fault
returns-clause-fault c text line col other_line other_col kind other f g = one_fault text line col other_line other_col kind other f g

pub returns-clause-either : goal.returns-clause-either
returns-clause-either c text conf line col kind i f = conf_or_fault text conf line col kind i f
