-- What stands of sends in a lawful past: what frames, ready lists and windows tell of them.
use Rattle.std.proofs.Common.{◌≡◌, ℕ, suc, ◌<◌, Bool, true, false, eqb, List, [], ◌∷◌, length, Some, refl, sym, subst, arith}
use Rattle.std.specs.Prelude.{is_some}
use Rattle.std.specs.List.{AllByRecursion, list_any}
use Rattle.std.proofs.lemmas.Bool.{false≢true}
use Rattle.win_num.specs.declared.message.Thread.{Thread}
use Rattle.win_num.specs.declared.send.Kind.TheVariants.{Callback as WithCallback}
use Rattle.win_num.specs.declared.send.Frame.{Frame}
use Rattle.win_num.specs.declared.send.Frame.TheVariants.{Entered, Inside as InsideFrame, Called as CalledFrame, CallbackRun, Await as AwaitFrame}
use Rattle.win_num.specs.declared.code.Code.{Code}
use Rattle.user_model.specs.declared.call.Call.{Call}
use Rattle.user_model.specs.declared.entry.Entry.{Entry}
use Rattle.user_model.specs.declared.entry.Answer.TheVariants as answers
use Rattle.user_model.specs.declared.entry.Setup.{Setup}
use Rattle.user_model.specs.Past.{Past}
use Rattle.user_model.specs.Places.{has_ended}
use Rattle.user_model.specs.Threads.{is_thread, is_running}
use Rattle.user_model.specs.Windows.{Window, live, window}
use Rattle.user_model.specs.Stacks.{stack}
use Rattle.user_model.specs.Sends.{SentMsg, Outcome, send, sends, answer, is_entered, is_answered, is_callback_kind}
use Rattle.user_model.specs.Ready.{ReadyMsg, to_enter, to_call_back, ready}
use Rattle.user_model.specs.SendStories.{was_handed_on, NamesOnce}
use Rattle.user_model.proofs.ListLaws.{all_weaker}

-- sends are numbered one after another
abbrev pub CountsFrom : ℕ → List SentMsg → Type 0
CountsFrom n [] = Unit {0}
CountsFrom n (x ∷ xs) = (x.number ≡ suc n) × CountsFrom (suc n) xs

-- the frame of an entered send: the thread is its receiver
pub record IsReceived (past : Past) (t s : ℕ) : Type 0 where
  pub of : SentMsg
  pub found : send past s ≡ Some of
  pub to : of.to ≡ t
  pub outside : of.is_inside ≡ false
  pub entered : is_entered past s ≡ true

-- the frame of a send to an own window, which has no answer
pub record IsOwn (past : Past) (t s : ℕ) : Type 0 where
  pub of : SentMsg
  pub found : send past s ≡ Some of
  pub to : of.to ≡ t
  pub from : of.from ≡ t
  pub inside : of.is_inside ≡ true
  pub entered : is_entered past s ≡ true
  pub unanswered : is_answered past s ≡ false

-- the frame of a sender that waits: its answer wasn't handed on
pub record IsAwaited (past : Past) (t s : ℕ) : Type 0 where
  pub of : SentMsg
  pub found : send past s ≡ Some of
  pub from : of.from ≡ t
  pub outside : of.is_inside ≡ false
  pub awaits : is_callback_kind of.kind ≡ false
  pub unhanded : was_handed_on past s ≡ false

abbrev pub FrameStands : Past → ℕ → Frame → Type 0
FrameStands past t (Entered s) = IsReceived past t s.0
FrameStands past t (InsideFrame s) = IsOwn past t s.0
FrameStands past t (AwaitFrame s) = IsAwaited past t s.0
FrameStands past t CalledFrame = Unit {0}
FrameStands past t CallbackRun = Unit {0}

-- a send that is ready to be entered
pub record IsAwaiting (past : Past) (t : ℕ) (x : SentMsg) : Type 0 where
  pub found : send past x.number ≡ Some x
  pub to : x.to ≡ t
  pub outside : x.is_inside ≡ false
  pub unentered : is_entered past x.number ≡ false
  pub unanswered : is_answered past x.number ≡ false

-- a result that is ready to be handed over
pub record IsOwedTo (past : Past) (t : ℕ) (x : SentMsg) (proc_no extra place : ℕ) : Type 0 where
  pub found : send past x.number ≡ Some x
  pub from : x.from ≡ t
  pub outside : x.is_inside ≡ false
  pub is_kind : x.kind ≡ WithCallback proc_no extra
  pub of : Outcome
  pub answered : answer past x.number ≡ Some of
  pub is_place : of.place ≡ place
  pub unhanded : was_handed_on past x.number ≡ false

abbrev pub ReadyStands : Past → ℕ → ReadyMsg → Type 0
ReadyStands past t (to_enter x) = IsAwaiting past t x
ReadyStands past t (to_call_back x proc_no extra place) = IsOwedTo past t x proc_no extra place

-- whether the frame is one of the procedure that runs for the send
abbrev pub runs_for : ℕ → Frame → Bool
runs_for s (Entered t) = eqb t.0 s
runs_for s (InsideFrame t) = eqb t.0 s
runs_for s _ = false

-- the window of the send is live, and its receiver's
pub record HasWindow (past : Past) (x : SentMsg) : Type 0 where
  pub of : Window
  pub found : window past x.hwnd ≡ Some of
  pub is_thread : of.thread ≡ x.to

-- a send that was made, inside where its receiver is its sender: while it has no answer, its procedure runs or its window lives
pub record SendStands (setup : Setup) (past : Past) (s : ℕ) (x : SentMsg) : Type 0 where
  pub is_number : x.number ≡ s
  pub from_thread : is_thread setup x.from ≡ true
  pub to_thread : is_thread setup x.to ≡ true
  pub own : eqb x.to x.from ≡ x.is_inside
  pub inside_entered : x.is_inside ≡ true → is_entered past s ≡ true
  pub running : is_entered past s ≡ true → is_answered past s ≡ false → list_any (runs_for s) (stack past x.to) ≡ true
  pub in_window : is_entered past s ≡ false → is_answered past s ≡ false → HasWindow past x

pub record Standing (setup : Setup) (past : Past) : Type 0 where
  pub counted : CountsFrom 0 (sends past)
  pub entered : (s : ℕ) → is_entered past s ≡ true → is_some (send past s) ≡ true
  pub answered : (s : ℕ) → is_answered past (suc s) ≡ true → is_some (send past (suc s)) ≡ true
  pub placed : (s : ℕ) (o : Outcome) → answer past s ≡ Some o → o.place < length past
  pub handed : (s : ℕ) → was_handed_on past s ≡ true → (is_some (send past s) ≡ true) × (is_answered past s ≡ true)
  pub frames : (t : ℕ) → AllByRecursion (FrameStands past t) (stack past t)
  pub once : (t : ℕ) → NamesOnce (stack past t)
  pub waiting : (t : ℕ) → AllByRecursion (ReadyStands past t) (ready past t)
  pub sent : (s : ℕ) (x : SentMsg) → send past s ≡ Some x → SendStands setup past s x
  pub windows : AllByRecursion (λ w. is_running setup past w.thread ≡ true) (live past)
  pub ended : (t : ℕ) → has_ended past t ≡ true → stack past t ≡ []

pub standing_empty : (setup : Setup) → Standing setup []
standing_empty setup = record {
  counted = tt;
  entered = λ s h. absurd (false≢true h);
  answered = λ s h. absurd (false≢true h);
  placed = λ s o h. absurd cc;
  handed = λ s h. absurd (false≢true h);
  frames = λ t. tt;
  once = λ t. tt;
  waiting = λ t. tt;
  sent = λ s x h. absurd cc;
  windows = tt;
  ended = λ t h. refl;
}

-- ---- a refused entry

abbrev refusal : Thread → Call → Code → Entry
refusal who call code = record { who = who; call = call; answer = answers.Refused code }

frame_refused : (who : Thread) (call : Call) (code : Code) (past : Past) (t : ℕ) (f : Frame) → FrameStands past t f → FrameStands (refusal who call code ∷ past) t f
frame_refused who call code past t (Entered s) h = record { of = h.of; found = h.found; to = h.to; outside = h.outside; entered = h.entered }
frame_refused who call code past t (InsideFrame s) h = record { of = h.of; found = h.found; to = h.to; from = h.from; inside = h.inside; entered = h.entered; unanswered = h.unanswered }
frame_refused who call code past t (AwaitFrame s) h = record { of = h.of; found = h.found; from = h.from; outside = h.outside; awaits = h.awaits; unhanded = h.unhanded }
frame_refused who call code past t CalledFrame h = tt
frame_refused who call code past t CallbackRun h = tt

ready_refused : (who : Thread) (call : Call) (code : Code) (past : Past) (t : ℕ) (r : ReadyMsg) → ReadyStands past t r → ReadyStands (refusal who call code ∷ past) t r
ready_refused who call code past t (to_enter x) h = record { found = h.found; to = h.to; outside = h.outside; unentered = h.unentered; unanswered = h.unanswered }
ready_refused who call code past t (to_call_back x proc_no extra place) h = record { found = h.found; from = h.from; outside = h.outside; is_kind = h.is_kind; of = h.of; answered = h.answered; is_place = h.is_place; unhanded = h.unhanded }

sent_refused : (who : Thread) (call : Call) (code : Code) (setup : Setup) (past : Past) (s : ℕ) (x : SentMsg) → SendStands setup past s x → SendStands setup (refusal who call code ∷ past) s x
sent_refused who call code setup past s x h = record {
  is_number = h.is_number;
  from_thread = h.from_thread;
  to_thread = h.to_thread;
  own = h.own;
  inside_entered = h.inside_entered;
  running = h.running;
  in_window = λ e a. let w = h.in_window e a in record { of = w.of; found = w.found; is_thread = w.is_thread };
}

refused_parts : (who : Thread) (call : Call) (code : Code) (setup : Setup) (past : Past) → Standing setup past → Standing setup (refusal who call code ∷ past)
refused_parts who call code setup past n = record {
  counted = n.counted;
  entered = n.entered;
  answered = n.answered;
  placed = λ s o h. let old = n.placed s o h in omega arith;
  handed = n.handed;
  frames = λ t. all_weaker (FrameStands past t) (FrameStands (refusal who call code ∷ past) t) (frame_refused who call code past t) (stack past t) (n.frames t);
  once = n.once;
  waiting = λ t. all_weaker (ReadyStands past t) (ReadyStands (refusal who call code ∷ past) t) (ready_refused who call code past t) (ready past t) (n.waiting t);
  sent = λ s x h. sent_refused who call code setup past s x (n.sent s x h);
  windows = n.windows;
  ended = n.ended;
}

-- a refused entry leaves what stands
pub standing_refused : (setup : Setup) (past : Past) (e : Entry) (code : Code) → e.answer ≡ answers.Refused code → Standing setup past → Standing setup (e ∷ past)
standing_refused setup past e code is n = subst (λ a. Standing setup (record { who = e.who; call = e.call; answer = a } ∷ past)) (sym is) (refused_parts e.who e.call code setup past n)
