use Rattle.std.proofs.Common.{map, refl}
use Rattle.mdl_parse.specs.Printing.{line_text, search_lines}
use Rattle.mdl_parse.proofs.LineTexts.{all_behind}
use Rattle.mdl_parse.proofs.print_items.add_search.Goals as goal

pub returns : goal.returns
returns c = all_behind c.args.out.now.items (map line_text (search_lines c.args.search.now)) c.add_close.new.out.items
    (_, c.in_ok-add_line.ensures, (_, c.in_ok-add_number.ensures, (_, c.in_ok-add_number-2.ensures, (_, c.in_ok-add_number-3.ensures, (_, c.in_ok-add_close.ensures, refl)))))
