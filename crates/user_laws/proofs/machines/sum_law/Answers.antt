use Rattle.std.proofs.Common.{◌≡◌, true, List, reverse, subst, sym, ◌∙◌}
use Rattle.std.proofs.lemmas.List.{reverse-reverse}
use Rattle.user_model.specs.declared.entry.Entry.{Entry}
use Rattle.user_model.specs.declared.entry.SendCount.{SendCount}
use Rattle.user_model.specs.Idle.{have_all_ended}
use Rattle.user_model.specs.Legal.{IsLawful}
use Rattle.user_model.specs.SendStories.{IsSettled}
use Rattle.user_model.proofs.SendStories as laws
use Rattle.user_laws.proofs.machines.sum_law.Goals as goal

-- a machine's past is lawful, since its history is legal
pub returns-then-have_all_ended-clause-settled : goal.returns-then-have_all_ended-clause-settled
returns-then-have_all_ended-clause-settled c =
    let setup = c.args.u.now.setup in
    let past = c.args.u.now.past in
    let legal : IsLawful setup (reverse (reverse past)) = subst (λ (history : List Entry). IsLawful setup (reverse history)) c.legal_history-legal.ensures.all c.legal_history-legal.ensures.legal.1 in
    let lawful : IsLawful setup past = subst (λ (p : List Entry). IsLawful setup p) (reverse-reverse past) legal in
    let ended : have_all_ended setup past ≡ true = sym c.have_all_ended.ensures ∙ c.if-have_all_ended.true in
    subst (λ (count : SendCount). IsSettled past count) (sym c.send_count.ensures) (laws.sum_law setup past lawful ended)
