use Rattle.std.proofs.Common.{map, subst}
use Rattle.std.specs.Prelude.{string_bytes}
use Rattle.command_words.proofs.Unthreaded.{AskUnthreaded, unthreaded}
use Rattle.headline.proofs.answering.answer.Goals as goal

pub answer_request-requires-clause-other : goal.answer_request-requires-clause-other
answer_request-requires-clause-other g c = subst AskUnthreaded (rw c.in-Ok.is at c.read_request.ensures.request) (unthreaded (map string_bytes c.args.words.now) c.requires)
