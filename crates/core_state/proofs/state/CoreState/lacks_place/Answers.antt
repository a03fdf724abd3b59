use Rattle.std.proofs.Common.{◌≡◌, ◌≤◌, ◌<◌, ap, ◌∙◌, reverse, sym, subst}
use Rattle.input_queue.specs.Elements as queue
use Rattle.user_model.specs.Past.{Past}
use Rattle.user_model.specs.Inputs.{home_of, untaken}
use Rattle.user_model.specs.ReplyInput.{has_no_place}
use Rattle.user_model.proofs.ListLaws.{all_weaker}
use Rattle.pending_state.specs.Pending.{IsGroupOf}
use Rattle.pending_state.proofs.Finding.{lacks_place-kept}
use Rattle.core_state.specs.Inputs.{IsAtHome}
use Rattle.core_state.specs.States.{Seen}
use Rattle.core_state.proofs.Homes.{at_home}
use Rattle.core_state.proofs.state.CoreState.lacks_place.Goals as goal

pub group-requires : goal.group-requires
group-requires c = (c.requires.some, subst (λ n. c.args.thread ≤ n) (sym c.self.invariant.groups.threads) (subst (λ (v : Seen). c.args.thread ≤ v.setup.threads) (sym c.self.view_is) c.requires.known))

pub returns : goal.returns
returns c =
    let s = c.self.inside in
    let past : Past = reverse s.history.items in
    let lawful = c.self.invariant.lawful in
    λ i home message.
    let here : c.args.thread ≡ home_of s.setup past i = home ∙ sym (ap (λ (v : Seen). home_of v.setup v.past i) c.self.view_is) in
    let members : IsGroupOf past (home_of s.setup past i) c.group.result = subst (λ n. IsGroupOf past n c.group.result) here (c.group.ensures s.setup past lawful c.self.invariant.groups) in
    let low = all_weaker (IsAtHome s.setup) (λ x. x.home < 16) (λ x h. h.low) (untaken s.setup past) (at_home s.setup past lawful c.self.invariant.ready) in
    c.lacks_place.ensures
    ∙ ap (queue.lacks_place c.args.message c.group.result) c.self.invariant.untaken
    ∙ lacks_place-kept s.setup past i c.group.result c.args.message members message low
    ∙ ap (λ (v : Seen). has_no_place v.setup v.past i) c.self.view_is
