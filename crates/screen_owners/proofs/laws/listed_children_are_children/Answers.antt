use Rattle.screen_owners.proofs.Children.{listed_children}
use Rattle.screen_owners.proofs.laws.listed_children_are_children.Goals as goal

pub returns : goal.returns
returns c = listed_children
