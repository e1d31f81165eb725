use Rattle.std.proofs.Common.{◌≡◌, ℕ, List, map, Option, Some, None, eqb, ap, subst, ◌∙◌}
use Rattle.std.specs.List.{find}
use Rattle.std.specs.Prelude.{option_and_then, IfOk}
use Rattle.line_table.specs.Meaning.{file_name}
use Rattle.line_table.specs.declared.paths.UnitPaths.{UnitPaths}
use Rattle.source_text.specs.declared.text_lines.TextLines.{TextLines}
use Rattle.source_text.specs.TextsByLines.{AreTextLines}
use Rattle.source_text.proofs.Found.{find-ordered}
use Rattle.source_text.proofs.text.name_of_file.Goals as goal
use denote.Ref.{Bor}

-- what is found among the units by place, and among those of the file
among : (t : TextLines) (unit : ℕ) (units : List (Bor UnitPaths)) → AreTextLines t → units ≡ t.units.items
    → find (λ u. eqb unit u.unit) (map (λ u. u.now) units) ≡ find (λ u. eqb unit u.unit) t.lines.now.units.now
among t unit units h e =
    ap (λ (z : List (Bor UnitPaths)). find (λ (u : UnitPaths). eqb unit u.unit) (map (λ (u : Bor UnitPaths). u.now) z)) e
    ∙ ap (find (λ (u : UnitPaths). eqb unit u.unit)) h.units
    ∙ find-ordered (λ (u : UnitPaths). u.unit) unit t.lines.now.units.now

pub returns-in-Some : goal.returns-in-Some
returns-in-Some c =
    let t = c.args.text.now in
    let found = c.in-Some.ensures ∙ among t c.args.source.unit c.deref.result.now c.requires c.deref.ensures.value in
    subst (λ (o : Option UnitPaths). IfOk c.file_name.result (λ name. name ≡ option_and_then (λ u. file_name t.lines.now.elf.now u c.args.source.file) o))
    found c.file_name.ensures

pub returns-in-None : goal.returns-in-None
returns-in-None c =
    let t = c.args.text.now in
    ap (λ (o : Option UnitPaths). option_and_then (λ u. file_name t.lines.now.elf.now u c.args.source.file) o)
    (c.in-None.ensures ∙ among t c.args.source.unit c.deref.result.now c.requires c.deref.ensures.value)
