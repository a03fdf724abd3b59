-- Windows and classes at a past with one entry more.
use Rattle.std.proofs.Common.{◌≡◌, ℕ, true, false, not, [], ◌∷◌, ◌++◌, ◌+◌, length, ap, ◌∙◌}
use Rattle.std.specs.Prelude.{◌||◌, filter}
use Rattle.std.proofs.lemmas.List.{append-nil, length-append}
use Rattle.user_model.specs.declared.entry.Entry.{Entry}
use Rattle.user_model.specs.Past.{Past, is_refused, each_of}
use Rattle.user_model.specs.Windows.{Window, live, made_by, drops, windows_made, numbers_made}
use Rattle.user_model.specs.Destruction.{Step, is_marked, dooms, was_given, gives}
use Rattle.user_model.specs.Classes.{Class, classes, registers, unregisters, registered_count, counts_class, message_names, names_new}
use Rattle.user_model.proofs.ListLaws.{filter_every}
use Rattle.user_model.proofs.PastLaws.{either_way, other_way, first_way, each_of-same, each_of-next, standing-same, standing-next, ever-same, ever-next}

-- a refused entry leaves the live windows
pub live-refused : (e : Entry) (past : Past) → is_refused e ≡ true → live (e ∷ past) ≡ live past
live-refused e past h = first_way (is_refused e) (live past) (filter (λ x. not (drops e (live past) x)) (live past) ++ made_by e.who.0 e.answer e.call (live past)) h

-- the live windows without those that the entry drops, and with the one that it makes
pub live-next : (e : Entry) (past : Past) → is_refused e ≡ false → live (e ∷ past) ≡ filter (λ x. not (drops e (live past) x)) (live past) ++ made_by e.who.0 e.answer e.call (live past)
live-next e past h = other_way (is_refused e) (live past) (filter (λ x. not (drops e (live past) x)) (live past) ++ made_by e.who.0 e.answer e.call (live past)) h

-- an entry that makes no window and drops none leaves the live windows
pub live-same : (e : Entry) (past : Past) → made_by e.who.0 e.answer e.call (live past) ≡ [] → ((x : Window) → drops e (live past) x ≡ false) → live (e ∷ past) ≡ live past
live-same e past none kept =
    either_way (is_refused e) (live past) (filter (λ x. not (drops e (live past) x)) (live past) ++ made_by e.who.0 e.answer e.call (live past))
    (ap (λ l. filter (λ x. not (drops e (live past) x)) (live past) ++ l) none
    ∙ append-nil (filter (λ x. not (drops e (live past) x)) (live past))
    ∙ filter_every (λ x. not (drops e (live past) x)) (λ x. ap not (kept x)) (live past))

-- the numbers of the windows that were made, with that of one more
pub windows_made-next : (e : Entry) (past : Past) → is_refused e ≡ false → windows_made (e ∷ past) ≡ windows_made past ++ numbers_made e.answer e.call
windows_made-next e past h = each_of-next (λ (e : Entry) (before : Past). numbers_made e.answer e.call) e past h

pub windows_made-same : (e : Entry) (past : Past) → numbers_made e.answer e.call ≡ [] → windows_made (e ∷ past) ≡ windows_made past
windows_made-same e past h = each_of-same (λ (e : Entry) (before : Past). numbers_made e.answer e.call) e past h

-- a window is marked that was, or that the entry dooms
pub is_marked-next : (e : Entry) (past : Past) (w : ℕ) → is_refused e ≡ false → is_marked (e ∷ past) w ≡ (is_marked past w || dooms e.call past w)
is_marked-next e past w h = ever-next (λ (e : Entry) (before : Past). dooms e.call before w) e past h

pub is_marked-same : (e : Entry) (past : Past) (w : ℕ) → dooms e.call past w ≡ false → is_marked (e ∷ past) w ≡ is_marked past w
is_marked-same e past w h = ever-same (λ (e : Entry) (before : Past). dooms e.call before w) e past h

-- a step was given that was given before, or that the entry gives
pub was_given-next : (e : Entry) (past : Past) (i : Step) → is_refused e ≡ false → was_given (e ∷ past) i ≡ (was_given past i || gives e.answer i)
was_given-next e past i h = ever-next (λ (e : Entry) (before : Past). gives e.answer i) e past h

pub was_given-same : (e : Entry) (past : Past) (i : Step) → gives e.answer i ≡ false → was_given (e ∷ past) i ≡ was_given past i
was_given-same e past i h = ever-same (λ (e : Entry) (before : Past). gives e.answer i) e past h

-- the classes without one that is taken back, and with one that is registered
pub classes-next : (e : Entry) (past : Past) → is_refused e ≡ false → classes (e ∷ past) ≡ filter (λ c. not (unregisters e.call c)) (classes past) ++ registers e.call past
classes-next e past h = standing-next (λ (e : Entry) (before : Past). registers e.call before) (λ (e : Entry) (before : Past) (c : Class). unregisters e.call c) e past h

pub classes-same : (e : Entry) (past : Past) → registers e.call past ≡ [] → ((c : Class) → unregisters e.call c ≡ false) → classes (e ∷ past) ≡ classes past
classes-same e past none kept = standing-same (λ (e : Entry) (before : Past). registers e.call before) (λ (e : Entry) (before : Past) (c : Class). unregisters e.call c) e past none kept

-- one more class was registered, where the call counts as one
pub registered_count-next : (e : Entry) (past : Past) → is_refused e ≡ false → registered_count (e ∷ past) ≡ registered_count past + length (counts_class e.call)
registered_count-next e past h =
    ap length (each_of-next (λ (e : Entry) (before : Past). counts_class e.call) e past h)
    ∙ length-append (each_of (λ (e : Entry) (before : Past). counts_class e.call) past) (counts_class e.call)

pub registered_count-same : (e : Entry) (past : Past) → counts_class e.call ≡ [] → registered_count (e ∷ past) ≡ registered_count past
registered_count-same e past h = ap length (each_of-same (λ (e : Entry) (before : Past). counts_class e.call) e past h)

-- the names of messages, with a new one last
pub message_names-next : (e : Entry) (past : Past) → is_refused e ≡ false → message_names (e ∷ past) ≡ message_names past ++ names_new e.call (message_names past)
message_names-next e past h = other_way (is_refused e) (message_names past) (message_names past ++ names_new e.call (message_names past)) h

pub message_names-same : (e : Entry) (past : Past) → names_new e.call (message_names past) ≡ [] → message_names (e ∷ past) ≡ message_names past
message_names-same e past none = either_way (is_refused e) (message_names past) (message_names past ++ names_new e.call (message_names past)) (ap (λ l. message_names past ++ l) none ∙ append-nil (message_names past))
