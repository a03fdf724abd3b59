use Rattle.user_model.proofs.GroupLaws.{foreground-next, last_set-next}
use Rattle.user_laws.proofs.groups.settings_follow.Goals as goal

pub returns-clause-settings : goal.returns-clause-settings
returns-clause-settings c = λ among slot past e. last_set-next among slot e past

pub returns-clause-foreground : goal.returns-clause-foreground
returns-clause-foreground c = λ past e. foreground-next e past
