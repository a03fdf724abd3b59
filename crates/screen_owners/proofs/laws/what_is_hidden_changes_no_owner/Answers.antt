use Rattle.screen_owners.proofs.Shown.{same_owner}
use Rattle.screen_owners.proofs.laws.what_is_hidden_changes_no_owner.Goals as goal

pub returns : goal.returns
returns c = same_owner
