use Rattle.std.proofs.Common.{refl, sym, subst, length}
use Rattle.pn_text.specs.Scans.{Scan, tokens_of, AreSpans}
use Rattle.pn_text.proofs.Spans.{spans-tokens_of}
use Rattle.pn_text.proofs.scanner.Scanner.new.Goals as goal

pub returns-clause-tokens : goal.returns-clause-tokens
unfolding tokens_of
returns-clause-tokens c = rw (c.behind_blanks.ensures.bytes, c.behind_blanks.ensures.behind) refl

pub returns-clause-spans : goal.returns-clause-spans
returns-clause-spans c =
    let text = c.args.text.now in
    subst (λ (s : Scan). AreSpans 0 s.tokens (length text)) (sym (returns-clause-tokens c)) (spans-tokens_of text)
