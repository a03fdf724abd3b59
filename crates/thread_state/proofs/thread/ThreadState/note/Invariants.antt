use Rattle.thread_state.proofs.thread.ThreadState.note.Given as goal

abbrev pub ghosts-missed_by : goal.ghosts-missed_by
ghosts-missed_by a = record { name = a.blank.name; parts = a.blank.parts }
