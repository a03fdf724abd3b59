use Rattle.screen_owners.proofs.Cuts.{put_some}
use Rattle.screen_owners.proofs.covers.put.Goals as goal

pub returns-in_ok-push : goal.returns-in_ok-push
returns-in_ok-push c p on = put_some _ _ _ _ _ (record { window = c.args.w; part = c.in-Some.place }) (c.in-Some.ensures p on) c.in_ok-push.ensures.items
