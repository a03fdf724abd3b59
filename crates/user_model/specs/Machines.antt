-- What one step of a machine does.
use Rattle.std.specs.Prelude.{if◌then◌else◌, ◌∷◌}
use Rattle.win_num.specs.declared.message.Thread.{Thread}
use Rattle.user_model.specs.declared.call.Call.{Call}
use Rattle.user_model.specs.declared.entry.Answer.{Answer}
use Rattle.user_model.specs.declared.entry.Entry.{Entry}
use Rattle.user_model.specs.declared.entry.Setup.{Setup}
use Rattle.user_model.specs.Past.{Past, is_full}
use Rattle.user_model.specs.Idle.{reply}

-- an entry from its parts
abbrev pub entry_of : Thread → Call → Answer → Entry
entry_of who call answer = record { who = who; call = call; answer = answer }

-- the entry that a call makes: its answer is the reply
abbrev pub entry_by : Setup → Past → Thread → Call → Entry
entry_by setup past who call = entry_of who call (reply setup past who.0 call)

-- the past after a call: one entry more, or where it is full as before
abbrev pub after : Setup → Past → Thread → Call → Past
after setup past who call = if is_full past then past else entry_by setup past who call ∷ past
