-- In a lawful past each answer of a thread's trace may stand behind its call, so its next call is answered by its row.
use Rattle.std.proofs.Common.{◌≡◌, ◌≢◌, ◌≤◌, ◌<◌, ℕ, zero, suc, ◌==◌, Bool, true, false, [], ◌∷◌, ◌++◌, length, Option, Some, None, refl, sym, ap, ◌∙◌, subst, inl, inr, arith, eq-eqb}
use Rattle.std.specs.Prelude.{not, ◌&&◌, ◌||◌, if◌then◌else◌, unwrap_or, option_map, All}
use Rattle.std.proofs.lemmas.Bool.{ne_eqb, eqb-true, lt-leb}
use Rattle.std.proofs.lemmas.List.Elements.{All-pop}
use Rattle.win_num.specs.declared.code.Code.TheVariants.{Full, NotNow}
use Rattle.win_num.specs.declared.send.Kind.{Kind}
use Rattle.win_num.specs.declared.send.Kind.TheVariants.{Callback as WithCallback}
use Rattle.win_num.specs.declared.send.SendId.{SendId}
use Rattle.win_num.specs.declared.send.Frame.{Frame}
use Rattle.win_num.specs.declared.send.Frame.TheVariants.{Entered, Inside as InsideFrame}
use Rattle.win_num.specs.declared.send.Cause.TheVariants.{Timeout as ByTimeout}
use Rattle.user_model.specs.declared.entry.Setup.{Setup}
use Rattle.user_model.specs.declared.entry.Entry.{Entry}
use Rattle.user_model.specs.declared.entry.Answer.{Answer}
use Rattle.user_model.specs.declared.entry.Answer.TheVariants.{Wait, Ended, Called, Inside, Begun, Left, Enter, Callback, Done}
use Rattle.user_model.specs.declared.call.Call.{Call}
use Rattle.user_model.specs.declared.call.Call.TheVariants.{Peek, Get, Send, SendTimeout, SendNotify, SendCallback, Await, Leave, EndThread}
use Rattle.user_model.specs.Past.{Past, is_refusal, is_full}
use Rattle.user_model.specs.Places.{is_end, has_ended}
use Rattle.user_model.specs.Legal.{IsLawful}
use Rattle.user_model.specs.Threads.{is_thread, is_running}
use Rattle.user_model.specs.Sends.{SentMsg, Outcome, send, answer}
use Rattle.user_model.specs.Ready.{ReadyMsg, to_enter, to_call_back, ready_head}
use Rattle.user_model.specs.Next.{run_for}
use Rattle.user_model.specs.Stacks.{leaves, has_room, top, stack}
use Rattle.user_model.specs.Refusals.{refuse}
use Rattle.user_model.specs.ReplySends.{left_inside, leave_from, deadline, blocks, has_come}
use Rattle.user_model.specs.Places.{clock}
use Rattle.user_model.specs.Replies.{row, stack_reply, thread_reply}
use Rattle.user_model.specs.Idle.{clock_row, reply}
use Rattle.user_model.proofs.SendReplies.{Tells, row_told}
use Rattle.user_model.specs.Deeds.{SendParts, parts_of, is_serving}
use Rattle.script_tree.specs.Tree.{Tree}
use Rattle.script_tree.specs.Pieces.{Trace, End, Cut}
use Rattle.script_tree.specs.Steps.{is_last}
use Rattle.script_tree.specs.Traces.{IsTrace, GoesOn, trace_of}
use Rattle.script_tree.specs.Stacks.{serves, sends, dispatches, awaits, is_listed, AreListed}
use Rattle.script_tree.proofs.PastLaws.{trace_of-own, trace_of-other}
use Rattle.script_tree.proofs.TraceLaws.{front}
use Rattle.script_tree.proofs.EndLaws.{cut_goes_on}
use Rattle.script_tree.proofs.StackLaws.{thread_fits}
use Rattle.script_tree.proofs.StackPasts.{fits_past, allowed}

-- ---- the answers of rows

left_inside_listed : (x : SentMsg) (kind : Kind) (v : ℕ) → is_listed (Leave v) (left_inside x kind v) ≡ true
left_inside_listed x (WithCallback proc_no extra) v = refl
left_inside_listed x kind v = refl

left_listed : (o : Option SentMsg) (s : SendId) (v : ℕ) → is_listed (Leave v) (elim o [ Some x ↦ left_inside x x.kind v | None ↦ Left s ]) ≡ true
left_listed (Some x) s v = left_inside_listed x x.kind v
left_listed None s v = refl

leave_listed : (past : Past) (o : Option Frame) (v : ℕ) → is_listed (Leave v) (leave_from past o v) ≡ true
leave_listed past (Some (InsideFrame s)) v = left_listed (send past s.0) s v
leave_listed past (Some (Entered s)) v = refl
leave_listed past o v = refl

await_listed : (past : Past) (s : ℕ) (o : Option Outcome) (late blocked room : Bool) (r : Option ReadyMsg) → is_listed (Await s) (elim o [ Some x ↦ Done x.result x.cause | None ↦ (if late then Done 0 ByTimeout else (if blocked then Wait else unwrap_or (if room then option_map (run_for past) r else None) Wait)) ]) ≡ true
await_listed past s (Some x) late blocked room r = refl
await_listed past s None true blocked room r = refl
await_listed past s None false true room r = refl
await_listed past s None false false false r = refl
await_listed past s None false false true None = refl
await_listed past s None false false true (Some (to_enter x)) = refl
await_listed past s None false false true (Some (to_call_back x proc_no extra place)) = refl

serves_so : (call : Call) → is_serving call ≡ true → serves call ≡ true
serves_so (Peek w min max flags) h = refl
serves_so (Get w min max) h = refl
serves_so (Await s) h = refl
serves_so call h = absurd cc

sends_so : (call : Call) (p : SendParts) → parts_of call ≡ Some p → sends call ≡ true
sends_so (Send w m a b) p h = refl
sends_so (SendTimeout w m a b flags ms) p h = refl
sends_so (SendNotify w m a b) p h = refl
sends_so (SendCallback w m a b proc_no extra) p h = refl
sends_so call p h = absurd cc

no_leave : (call : Call) (v : ℕ) → call ≡ Leave v → leaves call ≡ false → ⊥
no_leave call v e h = absurd (subst (λ c. leaves c ≡ false → ⊥) (sym e) (λ g. absurd cc) h)

told_listed : (past : Past) (who : ℕ) (call : Call) (a : Answer) → leaves call ≡ false → awaits call ≡ false → Tells past who call a → is_listed call a ≡ true
told_listed past who call (Enter s proc_no w number p q) l h t = serves_so call t.serves
told_listed past who call (Callback s proc_no w number p q) l h (inl t) = ap (λ b. b || leaves call) (serves_so call t.serves)
told_listed past who call (Callback s proc_no w number p q) l h (inr t) = absurd (no_leave call q t.is_call l)
told_listed past who call (Inside s proc_no) l h t = sends_so call t.made.of t.made.is_call
told_listed past who call (Begun s) l h t = sends_so call t.of t.is_call
told_listed past who call (Called proc_no) l h t = ap dispatches t.is_call
told_listed past who call (Left s) l h t = ap leaves t.is_call
told_listed past who call (Done result cause) l h t = ap awaits t.is_call
told_listed past who call Ended l h t = ap is_last t
told_listed past who call Wait l h t = ap not l
told_listed past who call a l h t = ap (λ b. not (b || awaits call)) l ∙ ap not h

row_listed : (setup : Setup) (past : Past) (who : ℕ) (call : Call) → is_listed call (row setup past who call) ≡ true
row_listed setup past who (Leave v) = leave_listed past (top past who) v
row_listed setup past who (Await s) = await_listed past s (answer past s) (has_come (deadline past s) (clock past)) (blocks past s) (has_room past who) (ready_head past who)
row_listed setup past who call = told_listed past who call (row setup past who call) refl refl (row_told setup past who call).tells

-- ---- lists of entries

listed_more : (tr : Trace) (x : Call × Answer) → AreListed tr → is_listed x.0 x.1 ≡ true → AreListed (tr ++ x ∷ [])
listed_more [] x h l = (l, tt)
listed_more (y ∷ tr) x h l = (h.0, listed_more tr x h.1 l)

listed_last : (tr : Trace) (x : Call × Answer) → AreListed (tr ++ x ∷ []) → AreListed tr × (is_listed x.0 x.1 ≡ true)
listed_last [] x h = (tt, h.0)
listed_last (y ∷ tr) x h = let r = listed_last tr x h.1 in ((h.0, r.0), r.1)

mismatch : {b : Bool} → b ≡ false → b ≡ true → ⊥
mismatch e f = absurd cc

never : Ended ≡ Wait → ⊥
never e = absurd cc

not_full : (past : Past) → length past < 2097152 → is_full past ≡ false
not_full past h = lt-leb 2097152 (length past) h

some_thread : (setup : Setup) (t : ℕ) → is_thread setup t ≡ true → (t == 0) ≡ false
some_thread setup zero h = absurd cc
some_thread setup (suc t) h = ne_eqb (suc t) 0 (λ e. absurd cc)

by_owner : (x y : ℕ) (P : Type 0) (b : Bool) → (x == y) ≡ b → (x ≡ y → P) → (x ≢ y → (x == y) ≡ false → P) → P
by_owner x y P true h own other = own (eqb-true x y h)
by_owner x y P false h own other = other (λ g. absurd (mismatch h (eq-eqb x y g))) h

-- ---- threads that have ended

ended_so : (r old new : Bool) → old ≡ false → new ≡ false → elim r [ true ↦ old | false ↦ elim old [ true ↦ true | false ↦ new ] ] ≡ false
ended_so true old new h g = h
ended_so false false new h g = g
ended_so false true new h g = absurd cc

last_so : (call : Call) → is_last call ≡ true → call ≡ EndThread
last_so EndThread h = refl
last_so call h = absurd cc

no_end : (call : Call) (a : Answer) → is_listed call a ≡ true → GoesOn (call, a) → is_end a ≡ false
no_end call Ended l g = absurd (never (g (last_so call l)))
no_end call a l g = refl

and_no : (b : Bool) → (b && false) ≡ false
and_no true = refl
and_no false = refl

module _ (s : Tree) (setup : Setup) (t : ℕ) where
  -- what a trace with one entry more tells of that entry and of the trace before
  before_own : (past : Past) (e : Entry) (end : End) → e.who.0 ≡ t → IsTrace s t (trace_of (e ∷ past) t) end → IsTrace s t (trace_of past t) (Cut e.call)
  before_own past e end own m =
      front s (trace_of past t) e.call e.answer [] (subst (λ tr. IsTrace s t tr end) (trace_of-own past e t own) m) refl

  before_other : (past : Past) (e : Entry) (end : End) → e.who.0 ≢ t → IsTrace s t (trace_of (e ∷ past) t) end → IsTrace s t (trace_of past t) end
  before_other past e end other m = subst (λ tr. IsTrace s t tr end) (trace_of-other past e t other) m

  -- a thread with a next call hasn't ended
  not_ended : (past : Past) (call : Call) → AreListed (trace_of past t) → IsTrace s t (trace_of past t) (Cut call) → has_ended past t ≡ false
  not_ended [] call l m = refl
  not_ended (e ∷ past) call l m =
      by_owner e.who.0 t (has_ended (e ∷ past) t ≡ false) (e.who.0 == t) refl
      (λ own.
      let same = trace_of-own past e t own in
      let listed = listed_last (trace_of past t) (e.call, e.answer) (subst AreListed same l) in
      let goes = All-pop GoesOn (trace_of past t ++ (e.call, e.answer) ∷ []) (trace_of past t) (Some (e.call, e.answer)) refl (subst (All GoesOn) same (cut_goes_on s t (trace_of (e ∷ past) t) call m)) in
      ended_so (is_refusal e.answer) (has_ended past t) (is_end e.answer && (e.who.0 == t)) (not_ended past e.call listed.0 (before_own past e (Cut call) own m)) (ap (λ b. b && (e.who.0 == t)) (no_end e.call e.answer listed.1 goes.1)))
      (λ other no.
      let same = trace_of-other past e t other in
      ended_so (is_refusal e.answer) (has_ended past t) (is_end e.answer && (e.who.0 == t)) (not_ended past call (subst AreListed same l) (before_other past e (Cut call) other m)) (ap (λ b. is_end e.answer && b) no ∙ and_no (is_end e.answer)))

  -- the next call is answered by its row
  pub by_its_row : (past : Past) (call : Call) → is_thread setup t ≡ true → is_full past ≡ false → AreListed (trace_of past t) → IsTrace s t (trace_of past t) (Cut call) → reply setup past t call ≡ row setup past t call
  unfolding reply
  by_its_row past call thread room l m =
      let some = some_thread setup t thread in
      let runs : is_running setup past t ≡ true = ap (λ b. b && not (has_ended past t)) thread ∙ ap not (not_ended past call l m) in
      let fits = allowed call (stack past t) (fits_past past t call (thread_fits s t (trace_of past t) call m l)) in
      ap (λ b. refuse b Full (if t == 0 then clock_row setup past call else thread_reply setup past t call)) room
      ∙ ap (λ b. if b then clock_row setup past call else thread_reply setup past t call) some
      ∙ ap (λ b. refuse (not b) NotNow (stack_reply setup past t call)) runs
      ∙ ap (λ b. refuse b NotNow (row setup past t call)) fits

  -- the answers of a lawful past may stand behind the calls of the thread's program
  pub past_listed : (past : Past) (end : End) → is_thread setup t ≡ true → IsLawful setup past → length past ≤ 2097152 → IsTrace s t (trace_of past t) end → AreListed (trace_of past t)
  past_listed [] end thread lawful short m = tt
  past_listed (e ∷ past) end thread lawful short m =
      let shorter : length past ≤ 2097152 = omega (arith, short) in
      let room : is_full past ≡ false = not_full past (omega (arith, short)) in
      by_owner e.who.0 t (AreListed (trace_of (e ∷ past) t)) (e.who.0 == t) refl
      (λ own.
      let k = before_own past e end own m in
      let before = past_listed past (Cut e.call) thread lawful.0 shorter k in
      let is_row : e.answer ≡ row setup past t e.call = lawful.1 ∙ ap (λ w. reply setup past w e.call) own ∙ by_its_row past e.call thread room before k in
      let listed : is_listed e.call e.answer ≡ true = ap (is_listed e.call) is_row ∙ row_listed setup past t e.call in
      subst AreListed (sym (trace_of-own past e t own)) (listed_more (trace_of past t) (e.call, e.answer) before listed))
      (λ other no. subst AreListed (sym (trace_of-other past e t other)) (past_listed past end thread lawful.0 shorter (before_other past e end other m)))

  -- and its next call is answered by its row
  pub next_by_row : (past : Past) (call : Call) → is_thread setup t ≡ true → IsLawful setup past → length past < 2097152 → IsTrace s t (trace_of past t) (Cut call) → reply setup past t call ≡ row setup past t call
  next_by_row past call thread lawful short m =
      by_its_row past call thread (not_full past short) (past_listed past (Cut call) thread lawful (omega (arith, short)) m) m
