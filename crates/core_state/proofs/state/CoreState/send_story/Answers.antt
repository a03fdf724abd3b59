use Rattle.std.proofs.Common.{rules, ◌≡◌, ◌<◌, ◌≤◌, ◌-◌, get_or, reverse, length, ap, ◌∙◌}
use Rattle.user_model.specs.Past.{Past}
use Rattle.user_model.specs.Stories.{no_story, send_story}
use Rattle.core_state.specs.States.{Seen}
use Rattle.core_state.proofs.StoryReads.{no_story-above, no_story-zero, story-at}
use Rattle.core_state.proofs.state.CoreState.send_story.Goals as goal
use Rattle.core_state.proofs.state.CoreState.send_story.Goals.{then-number-eq0-via-then-number-eq0, then-number-eq0-via-else-number-eq0+then-number-len}

pub returns-then-number-eq0 : goal.returns-then-number-eq0
returns-then-number-eq0 c =
    let s = c.self.inside in
    let past : Past = reverse s.history.items in
    let none : no_story ≡ send_story past c.args.send.0 = elim c.then-number-eq0.branch [
      | then-number-eq0-via-then-number-eq0 w ↦ no_story-zero s.setup past s.stories.items c.self.invariant.lawful c.self.invariant.stories c.args.send.0 (search (rules, w.if-number-eq0))
      | then-number-eq0-via-else-number-eq0+then-number-len w ↦ no_story-above s.setup past s.stories.items c.self.invariant.lawful c.self.invariant.stories c.args.send.0 (search (rules, w.if-number-len, w.len))
    ] in
    c.new.ensures ∙ none ∙ ap (λ (v : Seen). send_story v.past c.args.send.0) c.self.view_is

pub returns : goal.returns
returns c =
    let s = c.self.inside in
    let past : Past = reverse s.history.items in
    let some : 0 < c.args.send.0 = search (rules, c.if-number-eq0) in
    let low : c.args.send.0 ≤ length s.stories.items = search (rules, c.if-number-len, c.len) in
    let there = story-at s.setup past s.stories.items c.self.invariant.lawful c.self.invariant.stories c.args.send.0 c.index.result.now some low in
    let here : c.index.result.now ≡ get_or s.stories.items (c.args.send.0 - 1) c.index.result.now = search rules in
    here ∙ there ∙ ap (λ (v : Seen). send_story v.past c.args.send.0) c.self.view_is
