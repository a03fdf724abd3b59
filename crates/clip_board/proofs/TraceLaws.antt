-- Where a state at the clipboard is led.
use Rattle.std.proofs.Common.{◌≡◌, ℕ, List, Option, Some, None, refl, sym, ap, ◌∙◌, subst}
use Rattle.user_model.specs.declared.call.Call.{Call}
use Rattle.script_tree.specs.Tree.{Tree}
use Rattle.script_tree.specs.Pieces.{Piece, State, Going}
use Rattle.script_tree.specs.declared.variables.Variables.{Variables}
use Rattle.win_calls.specs.declared.compound.Next.{Next}
use Rattle.win_calls.specs.declared.compound.Next.TheVariants.{Make, Run as RunOf, Done as DoneOf}
use Rattle.win_calls.specs.declared.compound.Got.{Got}
use Rattle.win_calls.specs.declared.compound.Got.TheVariants.{Start, Answered, Returned}
use Rattle.win_calls.specs.declared.call_state.CallState.{CallState}
use Rattle.win_calls.specs.Table.{made, Handed as HandedIn}
use Rattle.win_calls.specs.States.{StandsFor, Accepts as AcceptsIn, Awaits as AwaitsOf, Leads as LeadsIn}
use Rattle.win_calls.specs.declared.stage.Stage.{Stage as SendStage}
use Rattle.clip_board.specs.declared.entry.ClipCall.{ClipCall}
use Rattle.clip_board.specs.declared.entry.ClipCall.TheVariants.{Get}
use Rattle.clip_board.specs.declared.entry.ClipAnswer.{ClipAnswer}
use Rattle.clip_board.specs.declared.moves.ClipNext.{ClipNext}
use Rattle.clip_board.specs.declared.moves.ClipNext.TheVariants.{Clip, User}
use Rattle.clip_board.specs.declared.moves.ClipGot.{ClipGot}
use Rattle.clip_board.specs.declared.moves.ClipGot.TheVariants.{Clip as ClipAnswered, User as UserGot}
use Rattle.clip_board.specs.declared.errand.Errand.{Errand}
use Rattle.clip_board.specs.declared.errand.Errand.TheVariants.{Getting, Emptying}
use Rattle.clip_board.specs.declared.errand.Stage.{Stage}
use Rattle.clip_board.specs.declared.errand.Stage.TheVariants.{Fresh, First, Sending, Again, Over}
use Rattle.clip_board.specs.declared.errand.Move.{Move}
use Rattle.clip_board.specs.Traces.{Point, calling, called, sending, calling_again, told, over, IsOn, calls, sends, ends_at_once, asks, gets_again, emptied, ends, Handed, started as begun, answered, went_on, answered_again, StandsAt, is_fresh, is_first, is_sending, is_again, is_over, Leads, Awaits, Accepts, call_of, send_after, end_of, behind_of}

-- where the stages stand
abbrev SendingAt : Errand → CallState → Point → Type 0
SendingAt e send p = (ps : List Piece) × (st : State) × StandsFor send.stage ps st × (p ≡ sending e ps st)

abbrev At : Stage → Point → Type 0
At (Fresh e) p = p ≡ calling e
At (First e) p = p ≡ calling e
At (Sending e send) p = SendingAt e send p
At (Again f) p = p ≡ calling_again f
At Over p = Unit {0}

stands_at : {stage : Stage} {p : Point} → StandsAt stage p → At stage p
stands_at (is_fresh e) = refl
stands_at (is_first e) = refl
stands_at (is_sending e send {ps = ps} {st = st} h) = (ps, st, h, refl)
stands_at (is_again f) = refl
stands_at is_over = tt

at_stage : {stage other : Stage} {p : Point} → stage ≡ other → StandsAt stage p → At other p
at_stage {stage} {other} {p} e h = let P : Stage → Type 0 = λ x. At x p in subst P e (stands_at h)

accepts_start : (e : Errand) (g : ClipGot) → Accepts (Fresh e) g → g ≡ UserGot Start
accepts_start e (UserGot Start) h = refl
accepts_start e (UserGot (Answered a)) h = absurd h
accepts_start e (UserGot (Returned x)) h = absurd h
accepts_start e (ClipAnswered a) h = absurd h

-- a send at work accepts what it awaits
pub sending_accepts : (e : Errand) (send : CallState) (next : Next) (g : ClipGot) → ((x : Got) → AwaitsOf next x → AcceptsIn send.stage x) → Awaits (User next) g → Accepts (Sending e send) g
sending_accepts e send next (UserGot x) h k = h x k
sending_accepts e send next (ClipAnswered a) h k = absurd k

module _ (s : Tree) (n : ℕ) where
  -- the same for a move that is equal
  pub carry : (p : Point) (m r : Move) → r ≡ m → Leads s n p m.stage m.next → Leads s n p r.stage r.next
  carry p m r e l = subst (λ (x : Move). Leads s n p x.stage x.next) (sym e) l

  -- a send that goes on
  sending_leads : (e : Errand) (send : CallState) (next : Next) (ps : List Piece) (st : State) → IsOn next → LeadsIn s n ps st send.stage next → Leads s n (sending e ps st) (Sending e send) (User next)
  sending_leads e send next ps st h l = record { at = sending e l.left l.state; comes = asks e next h l.comes; stands = is_sending e send l.stands }

  -- a send that is over
  behind_leads : (e : Errand) (stage : SendStage) (ps : List Piece) (st : State) (r err : ℕ) → LeadsIn s n ps st stage (DoneOf r err) → Leads s n (sending e ps st) (behind_of e).stage (behind_of e).next
  behind_leads (Getting f) stage ps st r err l = record { at = calling_again f; comes = gets_again f r err l.comes; stands = is_again f }
  behind_leads Emptying stage ps st r err l = record { at = over; comes = emptied r err l.comes; stands = is_over }

  -- an answer that leads to a send
  pub called_sends : (e : Errand) (a : ClipAnswer) (call : Call) (v : Variables) (stage : Stage) (next : ClipNext) → send_after e a ≡ Some call → Leads s n (sending e (made call) (Going v)) stage next → Leads s n (called e a) stage next
  called_sends e a call v stage next h l = record { at = l.at; comes = sends e a call v h l.comes; stands = l.stands }

  -- an answer that is the last
  pub called_ends : (e : Errand) (a : ClipAnswer) → send_after e a ≡ None → Leads s n (called e a) Over (end_of e a)
  called_ends e a h = record { at = over; comes = ends_at_once e a h; stands = is_over }

  pub told_ends : (e : Errand) (a : ClipAnswer) → Leads s n (told e a) Over (end_of e a)
  told_ends e a = record { at = over; comes = ends e a; stands = is_over }

  -- what a send asks for where it is over
  pub sends_done : (e : Errand) (stage : SendStage) (next : Next) (ps : List Piece) (st : State) (r err : ℕ) → next ≡ DoneOf r err → LeadsIn s n ps st stage next → Leads s n (sending e ps st) (behind_of e).stage (behind_of e).next
  sends_done e stage next ps st r err h l = behind_leads e stage ps st r err (subst (λ x. LeadsIn s n ps st stage x) h l)

  is_on : (next : Next) → ((r err : ℕ) → next ≡ DoneOf r err → ⊥) → IsOn next
  is_on (Make call) h = tt
  is_on (RunOf proc_no w number wparam lparam callback) h = tt
  is_on (DoneOf r err) h = absurd (h r err refl)

  -- and where it isn't
  pub sends_on : (e : Errand) (send : CallState) (next : Next) (ps : List Piece) (st : State) → ((r err : ℕ) → next ≡ DoneOf r err → ⊥) → LeadsIn s n ps st send.stage next → Leads s n (sending e ps st) (Sending e send) (User next)
  sends_on e send next ps st h l = sending_leads e send next ps st (is_on next h) l

  handed_start : {e : Errand} {q : Point} {g : ClipGot} → Handed s n (calling e) g q → g ≡ UserGot Start → q ≡ calling e
  handed_start (begun e) h = refl
  handed_start (answered e a) h = absurd cc

  handed_answer : {e : Errand} {q : Point} {g : ClipGot} (a : ClipAnswer) → Handed s n (calling e) g q → g ≡ ClipAnswered a → q ≡ called e a
  handed_answer a (begun e) h = absurd cc
  handed_answer a (answered e b) h = let same : b ≡ a = cc in ap (called e) same

  handed_sending : {e : Errand} {ps : List Piece} {st : State} {q : Point} {g : ClipGot} (x : Got) → Handed s n (sending e ps st) g q → g ≡ UserGot x → (qs : List Piece) × (sq : State) × HandedIn s n ps st x qs sq × (q ≡ sending e qs sq)
  handed_sending {ps = ps} {st = st} x (went_on e {qs = qs} {sq = sq} {g = y} m) h = let same : y ≡ x = cc in (qs, sq, subst (λ z. HandedIn s n ps st z qs sq) same m, refl)

  handed_again : {f : ℕ} {q : Point} {g : ClipGot} (a : ClipAnswer) → Handed s n (calling_again f) g q → g ≡ ClipAnswered a → q ≡ told (Getting f) a
  handed_again a (answered_again f b) h = let same : b ≡ a = cc in ap (told (Getting f)) same

  -- from an equal point
  from_point : (p q : Point) (stage : Stage) (next : ClipNext) → q ≡ p → Leads s n p stage next → Leads s n q stage next
  from_point p q stage next e l = subst (λ x. Leads s n x stage next) (sym e) l

  at_point : (p r q : Point) (g : ClipGot) → p ≡ r → Handed s n p g q → Handed s n r g q
  at_point p r q g e m = subst (λ x. Handed s n x g q) e m

  pub fresh_leads : (stage : Stage) (g : ClipGot) (e : Errand) (p q : Point) (call : ClipCall) → stage ≡ Fresh e → Accepts stage g → StandsAt stage p → Handed s n p g q → call ≡ call_of e → Leads s n q (First e) (Clip call)
  fresh_leads stage g e p q call h a st m c =
      let k : p ≡ calling e = at_stage h st in
      let begins : Accepts (Fresh e) g = subst (λ x. Accepts x g) h a in
      let l : Leads s n (calling e) (First e) (Clip (call_of e)) = record { at = calling e; comes = calls e; stands = is_first e } in
      from_point (calling e) q (First e) (Clip call) (handed_start (at_point p (calling e) q g k m) (accepts_start e g begins)) (subst (λ x. Leads s n (calling e) (First e) (Clip x)) (sym c) l)

  pub first_leads : (stage : Stage) (g : ClipGot) (e : Errand) (a : ClipAnswer) (p q : Point) (new : Stage) (next : ClipNext) → stage ≡ First e → g ≡ ClipAnswered a → StandsAt stage p → Handed s n p g q → Leads s n (called e a) new next → Leads s n q new next
  first_leads stage g e a p q new next h f st m l =
      let k : p ≡ calling e = at_stage h st in
      from_point (called e a) q new next (handed_answer a (at_point p (calling e) q g k m) f) l

  pub again_leads : (stage : Stage) (g : ClipGot) (f : ℕ) (a : ClipAnswer) (p q : Point) (new : Stage) (next : ClipNext) → stage ≡ Again f → g ≡ ClipAnswered a → StandsAt stage p → Handed s n p g q → Leads s n (told (Getting f) a) new next → Leads s n q new next
  again_leads stage g f a p q new next h d st m l =
      let k : p ≡ calling_again f = at_stage h st in
      from_point (told (Getting f) a) q new next (handed_again a (at_point p (calling_again f) q g k m) d) l

  pub send_leads : (stage : Stage) (g : ClipGot) (e : Errand) (send : CallState) (x : Got) (p q : Point) (new : Stage) (next : ClipNext) → stage ≡ Sending e send → g ≡ UserGot x → StandsAt stage p → Handed s n p g q
      → ((ps qs : List Piece) (st sq : State) → StandsFor send.stage ps st → HandedIn s n ps st x qs sq → Leads s n (sending e qs sq) new next) → Leads s n q new next
  send_leads stage g e send x p q new next h d st m l =
      let k : SendingAt e send p = at_stage h st in
      let i = handed_sending x (at_point p (sending e k.0 k.1) q g k.3 m) d in
      from_point (sending e i.0 i.1) q new next i.3 (l k.0 i.0 k.1 i.1 k.2 i.2)
