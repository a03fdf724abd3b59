use Rattle.input_queue.proofs.inputs.Inputs.has_above.Given as goal

abbrev pub ghosts-above_uncounted : goal.ghosts-above_uncounted
ghosts-above_uncounted g a = record { name = a.blank.name; parts = a.blank.parts }
