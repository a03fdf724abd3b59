-- The story of a send is read at its number.
use Rattle.std.proofs.Common.{◌≡◌, ℕ, ◌-◌, ◌+◌, ◌<◌, ◌≤◌, true, false, cond, List, ◌++◌, drop, get_or, length, take, ap, ◌∙◌, sym, arith}
use Rattle.std.specs.Prelude.{◌&&◌, nat_le, nat_lt}
use Rattle.std.proofs.lemmas.Bool.Decides.{nat_tests}
use Rattle.std.proofs.lemmas.List.{append-nil, drop_all, take_all}
use Rattle.user_model.specs.declared.entry.Setup.{Setup}
use Rattle.user_model.specs.Past.{Past}
use Rattle.user_model.specs.Sends.{sends}
use Rattle.user_model.specs.Legal.{IsLawful}
use Rattle.user_model.proofs.SendStories.{number_law}
use Rattle.user_model.specs.Stories.{no_story, send_story, story_of}
use Rattle.send_state.specs.Stories.{StoriesStand}
use Rattle.user_model.specs.declared.story.SendStory.{SendStory}

module _ (setup : Setup) (past : Past) (stories : List SendStory) (lawful : IsLawful setup past) (stands : StoriesStand past stories) (s : ℕ) where
  -- there is no send 0
  pub no_story-zero : s ≡ 0 → no_story ≡ send_story past s
  no_story-zero is = sym (ap (λ b. cond b (story_of past s) no_story) (number_law setup past lawful s ∙ ap (λ n. nat_lt 0 n && nat_le n (length (sends past))) is))

  -- nor one above the last
  pub no_story-above : length stories < s → no_story ≡ send_story past s
  no_story-above above =
      let none : (nat_lt 0 s && nat_le s (length (sends past))) ≡ false = grind (arith, nat_tests, above, stands.all) in
      sym (ap (λ b. cond b (story_of past s) no_story) (number_law setup past lawful s ∙ none))

  -- a story stands at the send's place
  pub story-at : (d : SendStory) → 0 < s → s ≤ length stories → get_or stories (s - 1) d ≡ send_story past s
  story-at d some low =
      let within : s - 1 < length stories = omega (arith, some, low) in
      let number : s - 1 + 1 ≡ s = omega (arith, some) in
      let there : (nat_lt 0 s && nat_le s (length (sends past))) ≡ true = grind (arith, nat_tests, some, low, stands.all) in
      stands.at (s - 1) d within ∙ ap (story_of past) number ∙ sym (ap (λ b. cond b (story_of past s) no_story) (number_law setup past lawful s ∙ there))

-- a list that was written back whole
pub written : (new old : List SendStory) (n : ℕ) → n ≡ length old → length new ≡ length old → take n (new ++ drop (length new) old) ≡ new
written new old n all same =
    ap (λ l. take n (new ++ l)) (drop_all (length new) old (omega (arith, same))) ∙ ap (take n) (append-nil new) ∙ take_all n new (omega (arith, all, same))
