-- What a thread has ready: sends to it, and results of its callback sends, by place.
use Rattle.std.specs.Prelude.{if◌then◌else◌, ℕ, ◌==◌, Bool, not, ◌&&◌, ◌||◌, List, [], ◌∷◌, ◌++◌, filter, Option, is_some}
use Rattle.std.specs.List.{flat_map}
use Rattle.win_num.specs.declared.send.Kind.{Kind}
use Rattle.win_num.specs.declared.send.Kind.TheVariants.{Callback as WithCallback}
use Rattle.user_model.specs.declared.entry.Entry.{Entry}
use Rattle.user_model.specs.Past.{Past, place_after, standing, first}
use Rattle.user_model.specs.Places.{has_ended, ends_thread}
use Rattle.user_model.specs.Sends.{SentMsg, sends_by, sends, enters, answers, is_answered, calls_back}

-- a send that waits to be entered, or the result of a callback send, with its procedure, its extra word and the place of its answer
pub data ReadyMsg : Type 0 where
  to_enter : SentMsg → ReadyMsg
  to_call_back : SentMsg → ℕ → ℕ → ℕ → ReadyMsg

-- the place of the begin, or of the answer
abbrev pub place_of : ReadyMsg → ℕ
place_of (to_enter x) = x.place
place_of (to_call_back x proc_no extra place) = place

-- whether the entry is the first answer of the send
abbrev pub is_answered_by : Entry → Past → SentMsg → Bool
is_answered_by e before x = is_some (answers e before x.number) && not (is_answered before x.number)

-- a send that was begun
abbrev pub begun : SentMsg → List ReadyMsg
begun x = if x.is_inside then [] else to_enter x ∷ []

-- the result of a callback send
abbrev pub result_in : Past → SentMsg → Kind → List ReadyMsg
result_in before x (WithCallback proc_no extra) = to_call_back x proc_no extra (place_after before) ∷ []
result_in before x _ = []

-- the result of a begun callback send
abbrev pub result : Past → SentMsg → List ReadyMsg
result before x = if x.is_inside then [] else result_in before x x.kind

-- the send that the entry begins to t, and the results of t's callback sends that it answers
abbrev pub arrives : ℕ → Entry → Past → List ReadyMsg
arrives t e before = flat_map begun (filter (λ x. x.to == t) (sends_by e.call e before))
    ++ flat_map (λ x. result before x) (filter (λ x. (x.from == t) && not (has_ended before t) && is_answered_by e before x) (sends before))

-- a send leaves where it is entered or answered, a result where it is handed over
abbrev pub is_over : Entry → Past → ReadyMsg → Bool
is_over e before (to_enter x) = enters e.answer x.number || is_some (answers e before x.number)
is_over e before (to_call_back x proc_no extra place) = calls_back e.answer x.number && (e.who.0 == x.from)

-- and all leave where the thread ends
abbrev pub departs : ℕ → Entry → Past → ReadyMsg → Bool
departs t e before r = ends_thread e t || is_over e before r

-- what t has ready: begun sends that are neither entered nor answered, and results that weren't handed over
abbrev pub ready : Past → ℕ → List ReadyMsg
ready past t = standing (arrives t) (departs t) past

-- the first that is ready
abbrev pub ready_head : Past → ℕ → Option ReadyMsg
ready_head past t = first (ready past t)
