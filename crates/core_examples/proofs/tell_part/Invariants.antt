use Rattle.core_examples.proofs.tell_part.Given as goal

abbrev pub ghosts-tell_deliveries : goal.ghosts-tell_deliveries
ghosts-tell_deliveries g a = record { name = a.blank.name; parts = a.blank.parts }

abbrev pub ghosts-tell_full : goal.ghosts-tell_full
ghosts-tell_full g a = record { name = a.blank.name; parts = a.blank.parts }

abbrev pub ghosts-tell_three : goal.ghosts-tell_three
ghosts-tell_three g a = record { name = a.blank.name; parts = a.blank.parts }
