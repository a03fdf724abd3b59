use Rattle.std.proofs.Common.{rules, arith, ◌≡◌, [], ◌∷◌, ◌++◌, ap, ◌∙◌}
use Rattle.std.proofs.lemmas.Grind.{common_steps}
use Rattle.turn_lock.proofs.turn.make.Goals as goal

pub leave_counted-requires-clause-entry : goal.leave_counted-requires-clause-entry
leave_counted-requires-clause-entry g c = let longer : g.S.Journaled.history c.step.new.self ≡ g.S.Journaled.history c.args.state ++ (c.args.call, c.in-Ok-2.answer) ∷ [] = first_of (search rules, grind (arith, common_steps)) in
    ((c.args.call, c.in-Ok-2.answer), longer ∙ ap (λ h. h ++ (c.args.call, c.in-Ok-2.answer) ∷ []) c.requires.held.1, c.requires.own)
