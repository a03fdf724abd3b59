use Rattle.user_core.proofs.user.answered.Given as goal

abbrev pub ghosts-status_uncounted : goal.ghosts-status_uncounted
ghosts-status_uncounted a = record { name = a.blank.name; parts = a.blank.parts }
