use Rattle.line_table.proofs.numbers.+groups.Given as goal

-- one group less
abbrev pub decreases-groups : goal.decreases-groups
decreases-groups l = l.most
