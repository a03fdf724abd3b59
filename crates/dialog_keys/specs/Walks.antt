-- The walk of a key in the history of a machine.
use Rattle.std.specs.Prelude.{◌≡◌, ℕ, Bool, List, [], ◌∷◌}
use Rattle.win_num.specs.declared.message.Thread.{Thread}
use Rattle.user_model.specs.declared.call.Call.TheVariants.{StyleOf}
use Rattle.user_model.specs.declared.entry.Entry.{Entry}
use Rattle.user_model.specs.declared.entry.Answer.{Answer}
use Rattle.user_model.specs.Past.{Past}
use Rattle.user_model.specs.Machines.{entry_of}
use Rattle.dialog_keys.specs.declared.key.DialogKey.{DialogKey}
use Rattle.dialog_keys.specs.Controls.{KeepsControls}
use Rattle.dialog_keys.specs.Traces.{Point, walking, looking, child_call, child_told, style_told}

-- The past ends in the walk that a thread makes for a key, at that point of the trace. Each call of the walk is an entry of the thread, and every entry of another that stands between them leaves the children of the dialog and their styles as they are.
pub data Walks (who : Thread) (k : DialogKey) (forwards : Bool) : Past → Point → Type 0 where
  -- before its first call
  begins : (past : Past) → Walks who k forwards past (walking k forwards [] 0)
  -- an entry of another thread or of the clock
  meanwhile : {past : Past} {p : Point} (e : Entry) → (e.who.0 ≡ who.0 → ⊥) → KeepsControls k.dialog.0 e past → Walks who k forwards past p → Walks who k forwards (e ∷ past) p
  -- a `child_after` and its answer
  finds : {past : Past} {ws : List ℕ} {v : ℕ} (a : Answer) → Walks who k forwards past (walking k forwards ws v) → Walks who k forwards (entry_of who (child_call k v) a ∷ past) (child_told k forwards ws a)
  -- a `style_of` and its answer
  looks : {past : Past} {ws : List ℕ} {w : ℕ} (a : Answer) → Walks who k forwards past (looking k forwards ws w) → Walks who k forwards (entry_of who (StyleOf w) a ∷ past) (style_told k forwards ws w a)
