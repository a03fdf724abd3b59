use Rattle.std.proofs.Common.{rules, ◌≡◌, List, ◌++◌, drop, length, take, sym, ap, ◌∙◌, subst}
use Rattle.send_state.specs.Stories.{EachStory, noted_answer}
use Rattle.user_model.specs.declared.story.SendStory.{SendStory}
use Rattle.core_state.specs.Sendings.{noted_losses}
use Rattle.core_state.proofs.StoryReads.{written}
use Rattle.core_state.proofs.sendings.settle_sends.Goals as goal

pub returns-clause-stories : goal.returns-clause-stories
returns-clause-stories c =
    let e = c.args.entry in
    let lost : List SendStory = c.take_effect_on_sends-lost.new.stories in
    let told : List SendStory = c.note_answer.new.stories in
    let before : c.deref_mut.result.now ≡ c.add_story.new.stories.items = c.deref_mut.ensures.value in
    let counted : c.add_story.new.stories.len ≡ length c.add_story.new.stories.items = search rules in
    let losses = c.take_effect_on_sends-lost.ensures.stories in
    let shared : length lost ≡ length c.add_story.new.stories.items = losses.same_length ∙ ap (λ (l : List SendStory). length l) before in
    let back = written lost c.add_story.new.stories.items c.add_story.new.stories.len counted shared in
    let noted = subst (λ (l : List SendStory). EachStory (noted_answer e.answer c.args.named c.args.place) l told) (c.deref_mut-2.ensures.value ∙ back) c.note_answer.ensures in
    let whole =
    ap (λ (l : List SendStory). take c.add_story.new.stories.len (told ++ drop (length told) l)) back
    ∙ written told lost c.add_story.new.stories.len (counted ∙ sym shared) noted.same_length in
    record {
      between = lost;
      before = subst (λ (l : List SendStory). EachStory (noted_losses c.args.tree.now.live c.args.place e.who.0 e.answer e.call c.args.sends.now) l lost) (before ∙ c.add_story.ensures) losses;
      after = subst (λ (l : List SendStory). EachStory (noted_answer e.answer c.args.named c.args.place) lost l) (sym whole) noted;
    }
