use Rattle.std.proofs.Common.{List, reverse, ap, subst, sym, ◌∙◌}
use Rattle.std.proofs.lemmas.List.{reverse-reverse}
use Rattle.user_model.specs.declared.entry.Entry.{Entry}
use Rattle.user_model.specs.Legal.{IsLawful}
use Rattle.user_model.proofs.SendStories as laws
use Rattle.user_model.specs.declared.story.SendStory.{SendStory}
use Rattle.user_laws.proofs.Stories as stories
use Rattle.user_laws.proofs.machines.send_law.Goals as goal

pub returns : goal.returns
returns c =
    let setup = c.args.u.now.setup in
    let past = c.args.u.now.past in
    let legal : IsLawful setup (reverse (reverse past)) = subst (λ (history : List Entry). IsLawful setup (reverse history)) c.legal_history-legal.ensures.all c.legal_history-legal.ensures.legal.1 in
    let lawful : IsLawful setup past = subst (λ (p : List Entry). IsLawful setup p) (reverse-reverse past) legal in
    let law = laws.send_law setup past lawful c.args.s.0 in
    let told = c.send_story.ensures in
    record {
      told = told;
      law = law;
      entered_first = λ p q entered answered.
          stories.entered_first past c.args.s.0 p q law (sym (ap (λ (x : SendStory). x.entered_at) told) ∙ entered) (sym (ap (λ (x : SendStory). x.answered_at) told) ∙ answered);
    }
