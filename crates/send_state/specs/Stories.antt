-- What one entry adds to what became of each send.
use Rattle.std.specs.Prelude.{if◌then◌else◌, ◌≡◌, ℕ, ◌+◌, ◌<◌, ◌==◌, Bool, List, [], ◌∷◌, ◌++◌, length, slice_index_or, Option, Some, None, is_none, is_some}
use Rattle.std.specs.Option.{option_or}
use Rattle.std.specs.FinMap as map
use Rattle.win_num.specs.declared.send.SendId.{SendId}
use Rattle.win_num.specs.declared.send.Cause.{Cause}
use Rattle.win_num.specs.declared.send.Cause.TheVariants.{Loss}
use Rattle.user_model.specs.declared.entry.Answer.{Answer}
use Rattle.user_model.specs.declared.entry.Answer.TheVariants.{Inside, Begun}
use Rattle.user_model.specs.Past.{Past}
use Rattle.user_model.specs.Sends.{enters, sends}
use Rattle.send_state.specs.Parts.{SendParts, is_losable}
use Rattle.user_model.specs.declared.story.SendStory.{SendStory}
use Rattle.user_model.specs.Stories.{no_story, story_of}
use Rattle.send_state.specs.declared.story.Event.{Event}
use Rattle.send_state.specs.declared.story.Event.TheVariants.{Entered, Answered, Lost}

-- ---- what happens to one

-- with an answer, where there was none
abbrev pub with_answer : Cause → ℕ → SendStory → SendStory
with_answer cause place x = if is_some x.answered_at then x else record x { answered_at = Some place; cause = Some cause }

-- with what happened at a place
abbrev pub told : Event → ℕ → SendStory → SendStory
told Entered place x = record x { entered_at = option_or x.entered_at (Some place) }
told (Answered cause) place x = with_answer cause place x
told Lost place x = if is_none x.entered_at then with_answer Loss place x else x

-- the story of send s, where it happened to send n
abbrev pub noted : ℕ → Event → ℕ → ℕ → SendStory → SendStory
noted n event place s x = if n == s then told event place x else x

-- ---- what one entry adds

-- where the answer enters the send
abbrev pub noted_entering : Answer → ℕ → ℕ → SendStory → SendStory
noted_entering a place s x = if enters a s then told Entered place x else x

-- where the entry names the send as answered
abbrev pub noted_naming : Option (SendId × Cause) → ℕ → ℕ → SendStory → SendStory
noted_naming None place s x = x
noted_naming (Some q) place s x = noted q.0.0 (Answered q.1) place s x

abbrev pub noted_answer : Answer → Option (SendId × Cause) → ℕ → ℕ → SendStory → SendStory
noted_answer a named place s x = noted_naming named place s (noted_entering a place s x)

-- where the send's window goes
abbrev pub noted_loss : (ℕ → Bool) → SendParts → ℕ → ℕ → SendStory → SendStory
noted_loss goes p place s x = if is_losable goes (map.get p.book.known s) then told Lost place x else x

-- ---- the stories of all sends, from send 1 on

-- each story is changed so
pub record EachStory (change : ℕ → SendStory → SendStory) (old new : List SendStory) : Type 0 where
  pub same_length : length new ≡ length old
  pub at : (i : ℕ) (d : SendStory) → i < length old → slice_index_or new i d ≡ change (i + 1) (slice_index_or old i d)

-- a story more, where the answer says that a send is begun
abbrev pub with_begun : Answer → List SendStory → List SendStory
with_begun (Inside s proc_no) stories = stories ++ no_story ∷ []
with_begun (Begun s) stories = stories ++ no_story ∷ []
with_begun _ stories = stories

-- there is one of each send, and it is what the past says
pub record StoriesStand (past : Past) (stories : List SendStory) : Type 0 where
  pub all : length stories ≡ length (sends past)
  pub at : (i : ℕ) (d : SendStory) → i < length stories → slice_index_or stories i d ≡ story_of past (i + 1)
