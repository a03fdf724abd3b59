-- The owner of a board stays its owner, whatever call it makes.
use Rattle.std.proofs.Common.{◌≡◌, ◌<◌, ℕ, false, sym, ◌∙◌, subst, List, [], length}
use Rattle.std.specs.Prelude.{Result, Ok, Err, IfOk, OnErr}
use Rattle.std.specs.declared.alloc.AllocError.{AllocError}
use Rattle.win_num.specs.declared.message.Thread.{Thread}
use Rattle.user_model.specs.declared.call.Call.{Call}
use Rattle.user_model.specs.declared.entry.Answer.{Answer}
use Rattle.user_model.specs.declared.entry.Setup.{Setup}
use Rattle.user_model.specs.Past.{Past}
use Rattle.turn_lock.specs.Seats.{Lock, Sitting, IsSameSeat}
use Rattle.user_desk.specs.Desks.{IsDeskSeat, made_by, CameTo}
use Rattle.status_board.specs.declared.shown.Shown.{Shown}
use Rattle.status_board.specs.Boards.{Writing}
use Rattle.status_board.specs.Owners.{is_status, HasCounted, IsCounted}
use Rattle.status_board.proofs.Statuses.{none_counted, other_counts}
use Rattle.board_examples.specs.Owners.{IsOwner}

module _ {S : Type 0} where
  -- a seat whose board is new
  pub first_owner : (desk : Lock S) (seat : Sitting S (Thread × Call) Answer) (writer : Writing) → IsDeskSeat desk seat → writer.owner ≡ seat.number → writer.list ≡ [] → IsOwner desk seat writer
  first_owner desk seat writer sits owner none = (sits, sym owner, (made_by seat, subst (λ (l : List Shown). HasCounted (made_by seat) (made_by seat) (length l)) (sym none) (none_counted (made_by seat))))

  -- the same seat at the same board, which was told as many statuses as there are published ones
  pub still_owner : (desk : Lock S) (old new : Sitting S (Thread × Call) Answer) (before after : Writing) → IsSameSeat old new → after.owner ≡ before.owner → IsOwner desk old before → IsCounted (made_by new) after.list → IsOwner desk new after
  still_owner desk old new before after same kept owner counted = (
    ((same.0 ∙ owner.0.0.0, same.1 ∙ owner.0.0.1), subst (λ (n : ℕ). n < desk.seats) (sym same.2) owner.0.1),
    same.2 ∙ owner.1 ∙ sym kept,
    counted,
  )

  -- any other call leaves the count, also one that finds no memory
  pub call_counts : (setup : Setup) (opening : Past) (old new : Sitting S (Thread × Call) Answer) (call : Call) (r : Result Answer AllocError) (n : ℕ) (start : Past)
      → is_status call ≡ false → IfOk r (λ answer. CameTo setup opening old new call answer) → OnErr r (made_by new ≡ made_by old) → HasCounted start (made_by old) n → HasCounted start (made_by new) n
  call_counts setup opening old new call (Ok answer) n start other came none has = other_counts setup opening old new call answer other came start n has
  call_counts setup opening old new call (Err error) n start other came none has = subst (λ (l : Past). HasCounted start l n) (sym none) has
