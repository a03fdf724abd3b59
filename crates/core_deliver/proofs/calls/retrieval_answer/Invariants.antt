use Rattle.core_deliver.proofs.calls.retrieval_answer.Given as goal

abbrev pub ghosts-uncounted_answer : goal.ghosts-uncounted_answer
ghosts-uncounted_answer a = record { name = a.blank.name; parts = a.blank.parts }
