use Rattle.std.proofs.Common.{◌≡◌, ◌++◌, drop, flat_map}
use Rattle.source_text.specs.Text.{source_line}
use Rattle.source_text.proofs.text.add_lines.Given as goal

-- what is written, and the lines that are left, make all the lines
abbrev pub invariant-loop-part : goal.invariant-loop-part
invariant-loop-part l =
    l.out.items ++ flat_map (source_line l.text.lines.now.elf.now l.text.lines.now.units.now l.text.all) (drop l.part-index l.parts)
    ≡ l.initial.out.items ++ flat_map (source_line l.text.lines.now.elf.now l.text.lines.now.units.now l.text.all) l.parts
