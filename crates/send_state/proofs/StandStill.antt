-- The parts stand as they are, or with one frame more, at a past with one entry more that says nothing of sends.
use Rattle.std.proofs.Common.{◌≡◌, ◌≢◌, ℕ, ◌-◌, ◌<◌, ◌≤◌, Bool, true, false, eqb, List, [], ◌∷◌, length, get_or, set, map as each, refl, ap, ◌∙◌, sym, subst, inl, inr, arith}
use Rattle.std.specs.Prelude.{◌||◌, find}
use Rattle.std.specs.List.{list_any}
use Rattle.std.proofs.lemmas.Bool.{false≢true}
use Rattle.std.proofs.lemmas.Bool.Decides.{eqb_tells}
use Rattle.std.proofs.lemmas.List.{get_or-set_same, get_or-set_other, length-set}
use Rattle.win_num.specs.declared.send.Frame.{Frame}
use Rattle.win_num.specs.declared.send.Frame.TheVariants.{Called}
use Rattle.win_num.specs.declared.message.Thread.{Thread}
use Rattle.win_num.specs.declared.code.Code.{Code}
use Rattle.user_model.specs.declared.call.Call.{Call}
use Rattle.user_model.specs.declared.entry.Entry.{Entry}
use Rattle.user_model.specs.declared.entry.Setup.{Setup}
use Rattle.user_model.specs.declared.entry.Answer.{Answer}
use Rattle.user_model.specs.declared.entry.Answer.TheVariants as answers
use Rattle.user_model.specs.Past.{Past, is_refused, place_after}
use Rattle.user_model.specs.Stacks.{stack, stacked}
use Rattle.user_model.specs.Sends.{names_send, send, sends}
use Rattle.user_model.proofs.SendLaws.{makes_none, sends-same, stack-next, stack-other, stack-refused, stack-same}
use Rattle.send_frames.specs.Book.{Book, stack_of}
use Rattle.send_variants.specs.Lists.{AreBelow, Entry as Item, list_of}
use Rattle.send_state.specs.Parts.{SendParts, dispatched, rank}
use Rattle.send_state.specs.Standing.{IsOurs, ListsStand, PartsStand, item_as, known_at}
use Rattle.send_state.proofs.Still.{IsStill, answer-same, answers-still, calls_back-still, end-still, is_owed-same, is_still, known_at-alike, ready-still, sent-still}

-- ---- ranks

pub below_more : (n m : ℕ) (es : List Item) → n ≤ m → AreBelow n es → AreBelow m es
below_more n m [] h b = tt
below_more n m (e ∷ es) h b = (omega (arith, b.0), below_more n m es h b.1)

-- what is below the ranks of a place is below those of the next
pub below_next : (e : Entry) (past : Past) (es : List Item) → AreBelow (rank (place_after past) 0) es → AreBelow (rank (place_after (e ∷ past)) 0) es
below_next e past es = below_more (rank (place_after past) 0) (rank (place_after (e ∷ past)) 0) es (omega arith)

-- ---- a refused entry

abbrev refusal : Thread → Call → Code → Entry
refusal who call code = record { who = who; call = call; answer = answers.Refused code }

refused_parts : (who : Thread) (call : Call) (code : Code) (setup : Setup) (past : Past) (p : SendParts) → PartsStand setup past p → PartsStand setup (refusal who call code ∷ past) p
refused_parts who call code setup past p h = record {
  book = record { begun = h.book.begun; threads = h.book.threads; stacks = h.book.stacks; known = h.book.known };
  lists = record { threads = h.lists.threads; ready = h.lists.ready; sound = h.lists.sound; below = λ t. below_next (refusal who call code) past (list_of p.lists t) (h.lists.below t) };
}

-- a refused entry leaves all parts as they are
pub stand-refused : (setup : Setup) (past : Past) (e : Entry) (p : SendParts) (code : Code) → e.answer ≡ answers.Refused code → PartsStand setup past p → PartsStand setup (e ∷ past) p
stand-refused setup past e p code is h = subst (λ a. PartsStand setup (record { who = e.who; call = e.call; answer = a } ∷ past) p) (sym is) (refused_parts e.who e.call code setup past p h)

-- ---- an entry that says nothing of sends

-- the sends are those that were
pub send-still : (e : Entry) (past : Past) (s : ℕ) → IsStill e → send (e ∷ past) s ≡ send past s
send-still e past s still = ap (λ xs. find (λ x. eqb x.number s) xs) (sends-same e past (makes_none e past (sent-still e.answer still.answer)))

count-still : (e : Entry) (past : Past) → IsStill e → length (sends (e ∷ past)) ≡ length (sends past)
count-still e past still = ap length (sends-same e past (makes_none e past (sent-still e.answer still.answer)))

-- frames that name a send after an entry that pushes and takes away none of them
pub any-framed : (e : Entry) (past : Past) (t s : ℕ) → ((fs : List Frame) → list_any (λ f. names_send f s) (stacked e.call e.answer fs) ≡ list_any (λ f. names_send f s) fs)
    → list_any (λ f. names_send f s) (stack (e ∷ past) t) ≡ list_any (λ f. names_send f s) (stack past t)
any-framed e past t s same = by (is_refused e) refl (eqb e.who.0 t) refl
  where
    by : (b : Bool) → is_refused e ≡ b → (c : Bool) → eqb e.who.0 t ≡ c → list_any (λ f. names_send f s) (stack (e ∷ past) t) ≡ list_any (λ f. names_send f s) (stack past t)
    by true r c own = ap (list_any (λ f. names_send f s)) (stack-refused e past t r)
    by false r true own = ap (list_any (λ f. names_send f s)) (stack-next e past t r own) ∙ same (stack past t)
    by false r false own = ap (list_any (λ f. names_send f s)) (stack-other e past t own)

-- what is known of a send stays, where the entry says nothing of sends and its frames name none
pub known-still : (e : Entry) (past : Past) (s : ℕ) → IsStill e → ((q : ℕ) (fs : List Frame) → list_any (λ f. names_send f q) (stacked e.call e.answer fs) ≡ list_any (λ f. names_send f q) fs)
    → known_at (e ∷ past) s ≡ known_at past s
known-still e past s still same = known_at-alike past (e ∷ past) s (send-still e past s still) (λ x _. record {
  answer_same = answer-same e past x.number (answers-still e past x.number still);
  stacked_same =
      ap (λ b. b || list_any (λ f. names_send f x.number) (stack (e ∷ past) x.to)) (any-framed e past x.from x.number (same x.number))
      ∙ ap (λ b. list_any (λ f. names_send f x.number) (stack past x.from) || b) (any-framed e past x.to x.number (same x.number));
  owed_same = is_owed-same e past x (end-still e.answer still.answer) (calls_back-still e.answer x.number still.answer);
})

-- the lists are what is ready, where the entry says nothing of sends
pub lists-still : (setup : Setup) (e : Entry) (past : Past) (lists : List (List Item)) → IsStill e → ListsStand setup past lists → ListsStand setup (e ∷ past) lists
lists-still setup e past lists still h = record {
  threads = h.threads;
  ready = λ t ours. h.ready t ours ∙ sym (ap (each item_as) (ready-still e past t still));
  below = λ t. below_next e past (list_of lists t) (h.below t);
  sound = h.sound;
}

-- whether a procedure is called for a dispatched message
abbrev pub is_called : Answer → Bool
is_called (answers.Called proc_no) = true
is_called _ = false

frames-still : (call : Call) (a : Answer) (fs : List Frame) → is_still a ≡ true → is_called a ≡ false → stacked call a fs ≡ fs
frames-still call (answers.Called proc_no) fs h c = absurd (false≢true (sym c))
frames-still call (answers.Inside s proc_no) fs h c = absurd (false≢true h)
frames-still call (answers.Begun s) fs h c = absurd (false≢true h)
frames-still call (answers.Enter s proc_no w number wparam lparam) fs h c = absurd (false≢true h)
frames-still call (answers.Callback s proc_no w number extra value) fs h c = absurd (false≢true h)
frames-still call (answers.Left s) fs h c = absurd (false≢true h)
frames-still call (answers.Done value cause) fs h c = absurd (false≢true h)
frames-still call _ fs h c = refl

-- an entry that says nothing of sends or frames leaves all parts as they are
pub stand-still : (setup : Setup) (past : Past) (e : Entry) (p : SendParts) → IsStill e → is_called e.answer ≡ false → PartsStand setup past p → PartsStand setup (e ∷ past) p
stand-still setup past e p still uncalled h =
    let kept : (fs : List Frame) → stacked e.call e.answer fs ≡ fs = λ fs. frames-still e.call e.answer fs still.answer uncalled in
    record {
      book = record {
        begun = h.book.begun ∙ sym (count-still e past still);
        threads = h.book.threads;
        stacks = λ t ours. h.book.stacks t ours ∙ sym (stack-same e past t (kept (stack past t)));
        known = λ s. h.book.known s ∙ sym (known-still e past s still (λ q fs. ap (list_any (λ f. names_send f q)) (kept fs)));
      };
      lists = lists-still setup e past p.lists still h.lists;
    }

-- ---- frames

-- the stacks after a change of one thread's
pub stacks-changed : (setup : Setup) (past : Past) (e : Entry) (b : Book) (fs : List Frame) → length b.stacks ≡ setup.threads → IsOurs setup e.who.0
    → ((t : ℕ) → IsOurs setup t → stack_of b t ≡ stack past t) → is_refused e ≡ false → fs ≡ stacked e.call e.answer (stack past e.who.0)
    → (t : ℕ) → IsOurs setup t → get_or (set b.stacks (e.who.0 - 1) fs) (t - 1) [] ≡ stack (e ∷ past) t
stacks-changed setup past e b fs as_many own old right is t ours = elim (eqb_tells e.who.0 t) [
  | inl x ↦ let within : t - 1 < length b.stacks = omega (arith, as_many, ours.0, ours.1) in
      ap (λ n. get_or (set b.stacks (n - 1) fs) (t - 1) []) x.1 ∙ get_or-set_same b.stacks (t - 1) fs [] within ∙ is
      ∙ ap (λ n. stacked e.call e.answer (stack past n)) x.1 ∙ sym (stack-next e past t right x.0)
  | inr x ↦ let differ : t - 1 ≢ e.who.0 - 1 = omega (arith, x.1, own.0, ours.0) in
      get_or-set_other b.stacks (e.who.0 - 1) (t - 1) fs [] differ ∙ old t ours ∙ sym (stack-other e past t x.0)
]

-- a dispatched message's procedure runs: one frame more, that names no send
pub stand-dispatched : (setup : Setup) (past : Past) (e : Entry) (p : SendParts) (proc_no : ℕ) → e.answer ≡ answers.Called proc_no → IsStill e → IsOurs setup e.who.0 → PartsStand setup past p → PartsStand setup (e ∷ past) (dispatched p e.who.0)
stand-dispatched setup past e p proc_no is still own h =
    let right : is_refused e ≡ false = ap (λ a. is_refused (record e { answer = a })) is in
    let framed : (fs : List Frame) → stacked e.call e.answer fs ≡ Called ∷ fs = λ fs. ap (λ a. stacked e.call a fs) is in
    record {
      book = record {
        begun = h.book.begun ∙ sym (count-still e past still);
        threads = length-set p.book.stacks (e.who.0 - 1) (Called ∷ stack_of p.book e.who.0) ∙ h.book.threads;
        stacks = stacks-changed setup past e p.book (Called ∷ stack_of p.book e.who.0) h.book.threads own h.book.stacks right
            (ap (λ fs. Called ∷ fs) (h.book.stacks e.who.0 own) ∙ sym (framed (stack past e.who.0)));
        known = λ s. h.book.known s ∙ sym (known-still e past s still (λ q fs. ap (list_any (λ f. names_send f q)) (framed fs)));
      };
      lists = lists-still setup e past p.lists still h.lists;
    }
