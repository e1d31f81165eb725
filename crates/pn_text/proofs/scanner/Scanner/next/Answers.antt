use Rattle.std.proofs.Common.{◌≡◌, ◌<◌, ◌≤◌, length, Some, None, Ok, Err, [], drop, sym, ◌∙◌, ap}
use Rattle.std.proofs.lemmas.Result.{err_from_is_err_and}
use Rattle.std.proofs.lemmas.List.{take_rest}
use Rattle.pn_text.specs.Scans.{Rest, AtEnd, AtFault, next_of, rest_of, scan, token_at, onto}
use Rattle.pn_text.specs.Tokens.{lexeme_at}
use Rattle.pn_text.specs.declared.scanner.Scanner.TheInside.{Inside}
use Rattle.pn_text.proofs.ScanSteps.{after, scan_at_token, scan_at_end, scan_at_fault, moved}
use Rattle.pn_text.proofs.scanner.Scanner.next.Goals as goal

-- what the scanner has left
abbrev left : Inside → Rest
left inside = record { place = inside.place; bytes = drop inside.place.at inside.text.now }

at_fault : (c : goal.After-from_residual) → c.args.self.now ≡ record { tokens = []; ending = AtFault c.in_err-found.field-0.0 }
at_fault c =
    let rest = left c.self.inside in
    let first : lexeme_at rest.place rest.bytes ≡ Err c.in_err-found.field-0.0 = sym (rw (take_rest c.self.inside.text.now c.self.inside.place.at) at c.in_err-found.ensures.first) in
    sym c.self.view_is ∙ scan_at_fault rest c.in_err-found.field-0.0 first

pub returns-in_err-found-clause-answer : goal.returns-in_err-found-clause-answer
returns-in_err-found-clause-answer c =
    let p = err_from_is_err_and c.from_residual.result c.from_residual.ensures.1 in
    rw (p.1, p.2) (sym (ap next_of (at_fault c)))

pub returns-in_err-found-clause-rest : goal.returns-in_err-found-clause-rest
returns-in_err-found-clause-rest c = at_fault c ∙ sym (ap rest_of (at_fault c))

at_end : (c : goal.In_default) → c.args.self.now ≡ record { tokens = []; ending = AtEnd c.self.inside.place }
at_end c =
    let rest = left c.self.inside in
    let first : lexeme_at rest.place rest.bytes ≡ Ok None = sym (rw (c.in_default.is, take_rest c.self.inside.text.now c.self.inside.place.at) at c.in_ok-found.ensures.first) in
    sym c.self.view_is ∙ scan_at_end rest first

pub returns-in_default-clause-answer : goal.returns-in_default-clause-answer
returns-in_default-clause-answer c = sym (ap next_of (at_end c))

pub returns-in_default-clause-rest : goal.returns-in_default-clause-rest
returns-in_default-clause-rest c = at_end c ∙ sym (ap rest_of (at_end c))

at_token : (c : goal.After-self-1) → c.args.self.now ≡ onto (token_at c.self.inside.place c.in-Some.found) (scan (after (left c.self.inside) c.in-Some.found))
at_token c =
    let rest = left c.self.inside in
    let was : c.in_ok-found.field-0 ≡ Some c.in-Some.found = c.in-Some.is in
    let first : lexeme_at rest.place rest.bytes ≡ Ok (Some c.in-Some.found) = sym (rw (was, take_rest c.self.inside.text.now c.self.inside.place.at) at c.in_ok-found.ensures.first) in
    sym c.self.view_is ∙ scan_at_token rest c.in-Some.found first

pub returns-clause-answer : goal.returns-clause-answer
returns-clause-answer c = sym (ap next_of (at_token c))

pub returns-clause-rest : goal.returns-clause-rest
returns-clause-rest c =
    let text = c.self.inside.text.now in
    let place = c.self.inside.place in
    let found = c.in-Some.found in
    let bytes = take_rest text place.at in
    let len : (0 < found.len) × (found.len ≤ length (drop place.at text)) = rw (c.in-Some.is, bytes) at c.in_ok-found.ensures.len in
    let there : record { place = c.behind_blanks-self-inside.result; bytes = drop c.behind_blanks-self-inside.result.at text } ≡ after (left c.self.inside) found =
    moved text place c.behind_bytes.result c.behind_blanks-self-inside.result found.len len.1
    (rw bytes at c.behind_bytes.ensures.behind) (rw bytes at c.behind_bytes.ensures.at)
    c.behind_blanks-self-inside.ensures.behind c.behind_blanks-self-inside.ensures.bytes in
    ap scan there ∙ sym (ap rest_of (at_token c))
