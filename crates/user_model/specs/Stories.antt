-- What became of each send.
use Rattle.std.specs.Prelude.{if◌then◌else◌, ℕ, Option, None, is_some, option_map}
use Rattle.user_model.specs.declared.story.SendStory.{SendStory}
use Rattle.user_model.specs.Past.{Past, first}
use Rattle.user_model.specs.Sends.{answer, send}
use Rattle.user_model.specs.SendStories.{entries}

-- the place at which the send was entered
abbrev pub entered_at : Past → ℕ → Option ℕ
entered_at past s = first (entries past s)

-- what became of the send of a number
abbrev pub story_of : Past → ℕ → SendStory
story_of past s = record { entered_at = entered_at past s; answered_at = option_map (λ o. o.place) (answer past s); cause = option_map (λ o. o.cause) (answer past s) }

-- nothing has happened
abbrev pub no_story : SendStory
no_story = record { entered_at = None; answered_at = None; cause = None }

-- what became of the send of a number; nothing, where there is none
abbrev pub send_story : Past → ℕ → SendStory
send_story past s = if is_some (send past s) then story_of past s else no_story
