use Rattle.input_queue.proofs.inputs.Inputs.first_for.Given as goal

abbrev pub ghosts-first_uncounted : goal.ghosts-first_uncounted
ghosts-first_uncounted g a = record { name = a.blank.name; parts = a.blank.parts }
