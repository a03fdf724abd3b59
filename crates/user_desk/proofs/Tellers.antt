-- What a turn at a desk came to is what a teller tells.
use Rattle.std.proofs.Common.{◌≡◌, inl, inr, ◌∷◌, ◌++◌, sym, ap, ◌∙◌}
use Rattle.std.specs.Prelude.{Result, Ok, Err, IfOk}
use Rattle.std.specs.declared.alloc.AllocError.{AllocError}
use Rattle.win_num.specs.declared.message.Thread.{Thread}
use Rattle.user_model.specs.declared.call.Call.{Call}
use Rattle.user_model.specs.declared.entry.Answer.{Answer}
use Rattle.user_model.specs.declared.entry.Setup.{Setup}
use Rattle.user_model.specs.declared.teller.Told.{Told}
use Rattle.user_model.specs.declared.teller.Told.TheVariants.{Answered, Barred}
use Rattle.user_model.specs.Past.{Past}
use Rattle.user_model.specs.Idle.{reply, is_barred}
use Rattle.user_model.specs.Machines.{entry_of}
use Rattle.user_model.specs.Tellers.{CameTo}
use Rattle.turn_lock.specs.Seats.{Sitting}
use Rattle.user_desk.specs.Desks.{thread, seen_by, made_by, TurnCameTo}
use Rattle.user_desk.specs.Tellers.{desk_view}
use Rattle.user_desk.proofs.Seats.{refused_full}

module _ {S : Type 0} (setup : Setup) (opening : Past) (old new : Sitting S (Thread × Call) Answer) (who : Thread) (call : Call) (is : new.number ≡ who.0) where
  came : (told : Told) → TurnCameTo setup opening old new call told → CameTo (desk_view setup opening old) (desk_view setup opening new) who call told
  came (Answered answer) (inl made) = inl (record {
    since = made.0.since;
    before = made.0.before;
    room = made.0.room;
    free = ap (λ n. is_barred setup (made.0.since ++ opening) n) (sym is) ∙ made.1;
    is_reply = made.0.is_reply ∙ ap (λ n. reply setup (made.0.since ++ opening) n call) is;
    seen = made.0.seen ∙ ap (λ n. entry_of (thread n) call answer ∷ made.0.since) is;
    mine = made.0.made ∙ ap (λ n. entry_of (thread n) call answer ∷ made_by old) is;
  })
  came (Answered answer) (inr full) = inr (record {
    full = full.0.full;
    free = ap (λ n. is_barred setup (seen_by new ++ opening) n) (sym is) ∙ full.1;
    is_reply = full.0.is_refusal ∙ sym (refused_full setup (seen_by new ++ opening) who.0 call full.0.full);
    mine = full.0.made;
  })
  came Barred none = record { barred = ap (λ n. is_barred setup (seen_by new ++ opening) n) (sym is) ∙ none.0; mine = none.1 }

  -- where the turn was told
  pub if_came : (r : Result Told AllocError) → IfOk r (λ told. TurnCameTo setup opening old new call told) → IfOk r (CameTo (desk_view setup opening old) (desk_view setup opening new) who call)
  if_came (Ok told) turn = came told turn
  if_came (Err e) turn = tt
