use Rattle.user_model.specs.Groups.{attached}
use Rattle.user_model.proofs.GroupLaws.{attached-next}
use Rattle.user_model.proofs.GroupThreads.{JoinsThreads, links_join_threads}
use Rattle.user_model.proofs.ListLaws.{all_weaker}
use Rattle.user_model.specs.Threads.{is_thread}
use Rattle.std.proofs.Common.{◌≡◌, true}
use Rattle.group_state.proofs.Reaching.{reaches_by_steps, steps_of_reaching}
use Rattle.user_laws.proofs.groups.groups_follow.Goals as goal

pub returns-clause-reached : goal.returns-clause-reached
returns-clause-reached c = λ past t u. (λ h. steps_of_reaching (attached past) t u h, λ r. reaches_by_steps (attached past) r)

pub returns-clause-threads : goal.returns-clause-threads
returns-clause-threads c = λ setup past lawful.
    all_weaker (JoinsThreads setup) (λ x. (is_thread setup x.one ≡ true) × (is_thread setup x.other ≡ true)) (λ x j. (j.one, j.other)) (attached past) (links_join_threads setup past lawful)

pub returns-clause-next : goal.returns-clause-next
returns-clause-next c = λ past e. attached-next e past
