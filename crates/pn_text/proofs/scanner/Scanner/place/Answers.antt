use Rattle.std.proofs.Common.{sym, drop}
use Rattle.pn_text.proofs.ScanSteps.{place_of-scan}
use Rattle.pn_text.proofs.scanner.Scanner.place.Goals as goal

pub returns : goal.returns
returns c =
    rw (← c.self.view_is)
    (sym (place_of-scan (record { place = c.self.inside.place; bytes = drop c.self.inside.place.at c.self.inside.text.now })))
