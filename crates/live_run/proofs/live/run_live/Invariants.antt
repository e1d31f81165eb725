use Rattle.live_run.proofs.live.run_live.Given as goal

abbrev pub ghosts-run_named : goal.ghosts-run_named
ghosts-run_named g a = record { inputs = a.session.inputs; first = a.session.quanta; workers = a.team.workers; word = a.word.table.shared.table_id }
