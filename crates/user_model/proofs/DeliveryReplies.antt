-- What an answer tells of its call, for posts and retrievals.
use Rattle.std.proofs.Common.{◌≡◌, ℕ}
use Rattle.win_num.specs.declared.message.Msg.{Msg}
use Rattle.user_model.specs.declared.call.Call.{Call}
use Rattle.user_model.specs.declared.call.Call.TheVariants.{EndThread}
use Rattle.user_model.specs.declared.entry.Answer.TheVariants as answers
use Rattle.user_model.specs.declared.entry.Origin.TheVariants as origins
use Rattle.user_model.specs.declared.entry.Setup.{Setup}
use Rattle.user_model.specs.Past.{Past}
use Rattle.user_model.specs.Replies.{row}
use Rattle.user_model.proofs.AnswerFacts.{IsPost, IsTaken, IsQuit, IsInjected, IsInput, IsPaint, IsTimer, NoneComes}
use Rattle.user_model.proofs.RowFacts.{says_of}

-- the answer that a post was made tells which, and where it went
pub post_told : (setup : Setup) (past : Past) (who : ℕ) (call : Call) (k : ℕ) → row setup past who call ≡ answers.Posted k → IsPost setup past who call k
post_told setup past who call k e = says_of setup past who call (answers.Posted k) e

-- a message that was handed out tells its filter, and that it is the first that passes
pub take_told : (setup : Setup) (past : Past) (who : ℕ) (call : Call) (n : ℕ) (m : Msg) → row setup past who call ≡ answers.Got origins.Posted n m → IsTaken past who call n m
take_told setup past who call n m e = says_of setup past who call (answers.Got origins.Posted n m) e

-- quit that was handed out tells its filter and its code
pub quit_told : (setup : Setup) (past : Past) (who : ℕ) (call : Call) (n : ℕ) (m : Msg) → row setup past who call ≡ answers.Got origins.Quit n m → IsQuit past who call n m
quit_told setup past who call n m e = says_of setup past who call (answers.Got origins.Quit n m) e

-- WM_PAINT that was handed out tells its filter, and the window that is painted first
pub paint_told : (setup : Setup) (past : Past) (who : ℕ) (call : Call) (n : ℕ) (m : Msg) → row setup past who call ≡ answers.Got origins.Paint n m → IsPaint setup past who call n m
paint_told setup past who call n m e = says_of setup past who call (answers.Got origins.Paint n m) e

-- an input that was handed out tells its filter, and which it is
pub input_told : (setup : Setup) (past : Past) (who : ℕ) (call : Call) (n : ℕ) (m : Msg) → row setup past who call ≡ answers.Got origins.Input n m → IsInput setup past who call n m
input_told setup past who call n m e = says_of setup past who call (answers.Got origins.Input n m) e

-- the answer that an input was injected tells which, and whom it is meant for
pub injected_told : (setup : Setup) (past : Past) (who : ℕ) (call : Call) (k : ℕ) → row setup past who call ≡ answers.Input k → IsInjected setup past call k
injected_told setup past who call k e = says_of setup past who call (answers.Input k) e

-- WM_TIMER that was handed out tells its filter, and the timer that is due first
pub timer_told : (setup : Setup) (past : Past) (who : ℕ) (call : Call) (n : ℕ) (m : Msg) → row setup past who call ≡ answers.Got origins.Timer n m → IsTimer setup past who call n m
timer_told setup past who call n m e = says_of setup past who call (answers.Got origins.Timer n m) e

-- a peek that gets nothing finds no next message
pub nothing_told : (setup : Setup) (past : Past) (who : ℕ) (call : Call) → row setup past who call ≡ answers.Nothing → NoneComes setup past who call
nothing_told setup past who call e = says_of setup past who call answers.Nothing e

-- a get that waits finds no next message
pub wait_told : (setup : Setup) (past : Past) (who : ℕ) (call : Call) → row setup past who call ≡ answers.Wait → NoneComes setup past who call
wait_told setup past who call e = says_of setup past who call answers.Wait e

-- only the end of a thread is answered so
pub end_told : (setup : Setup) (past : Past) (who : ℕ) (call : Call) → row setup past who call ≡ answers.Ended → call ≡ EndThread
end_told setup past who call e = says_of setup past who call answers.Ended e
