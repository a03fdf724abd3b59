use Rattle.std.proofs.Common.{◌≡◌, true, List, [], ◌∷◌}
use Rattle.user_model.specs.Inputs.{Element, untaken}
use Rattle.user_model.specs.Threads.{is_running}
use Rattle.user_model.proofs.InputFacts.{AreRising, IsKept, untaken_kept, untaken_rises}
use Rattle.user_model.proofs.InputLaws.{untaken-next}
use Rattle.user_model.proofs.ListLaws.{all_weaker}
use Rattle.user_laws.specs.Stands.{RisesByInput}
use Rattle.user_laws.proofs.inputs.inputs_follow.Goals as goal

rises : (xs : List Element) → AreRising xs → RisesByInput xs
rises [] is = tt
rises (x ∷ xs) is = (is.0, rises xs is.1)

pub returns-clause-meant : goal.returns-clause-meant
returns-clause-meant c = λ setup past lawful.
    all_weaker (IsKept setup past) (λ x. is_running setup past x.home ≡ true) (λ x k. k.runs) (untaken setup past) (untaken_kept setup past lawful)

pub returns-clause-rising : goal.returns-clause-rising
returns-clause-rising c = λ setup past lawful. rises (untaken setup past) (untaken_rises setup past lawful)

pub returns-clause-next : goal.returns-clause-next
returns-clause-next c = λ setup past e. untaken-next setup e past
