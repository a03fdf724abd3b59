-- Entries that change posts, waits and looks alone.
use Rattle.std.specs.Prelude.{Bool, true, false}
use Rattle.user_model.specs.declared.call.Call.{Call}
use Rattle.user_model.specs.declared.call.Call.TheVariants.{Get, Peek, Post, PostThread}
use Rattle.user_model.specs.declared.entry.Answer.{Answer}
use Rattle.user_model.specs.declared.entry.Answer.TheVariants.{Posted as PostMade, Got, Wait, Nothing}
use Rattle.user_model.specs.declared.entry.Origin.{Origin}
use Rattle.user_model.specs.declared.entry.Origin.TheVariants.{Posted as FromPosted}

-- whether the call posts a message that it names
abbrev pub names_post : Call → Bool
names_post (Post w number wparam lparam) = true
names_post (PostThread to number wparam lparam) = true
names_post _ = false

-- whether the answer is that such a message was posted
abbrev pub adds_post : Answer → Call → Bool
adds_post (PostMade k) call = names_post call
adds_post _ call = false

-- whether a message that is handed out was posted
abbrev pub is_posted : Origin → Bool
is_posted FromPosted = true
is_posted _ = false

-- whether the answer hands out a post, or is that there is no message
abbrev pub finds_post_or_none : Answer → Bool
finds_post_or_none (Got origin n m) = is_posted origin
finds_post_or_none Wait = true
finds_post_or_none Nothing = true
finds_post_or_none _ = false

-- whether the call looks for a message, and finds a post or none
abbrev pub reads_posts : Answer → Call → Bool
reads_posts a (Get w min max) = finds_post_or_none a
reads_posts a (Peek w min max flags) = finds_post_or_none a
reads_posts a _ = false
