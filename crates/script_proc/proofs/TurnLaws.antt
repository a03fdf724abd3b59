-- Turns: a trace ends in one way, and nothing happens where no teller is asked.
use Rattle.std.proofs.Common.{◌≡◌, ℕ, ◌+◌, [], Option, Some, None, Result, Ok, Err, IfOk, OnErr, refl, ap, ◌∙◌, subst, sym, arith}
use Rattle.win_num.specs.declared.message.Thread.{Thread}
use Rattle.user_model.specs.declared.call.Call.{Call}
use Rattle.user_model.specs.declared.teller.Told.{Told}
use Rattle.user_model.specs.declared.teller.Told.TheVariants.{Answered, Barred}
use Rattle.user_model.specs.Tellers.{TellerView, GoesOn, HasNotFallen, HasLooked, CameTo}
use Rattle.script_tree.specs.Tree.{Tree}
use Rattle.script_tree.specs.Pieces.{Trace, Whole, Cut}
use Rattle.script_tree.specs.Traces.{IsTrace}
use Rattle.script_tree.proofs.TraceLaws.{one_end}
use Rattle.script_proc.specs.declared.program.Program.{Program}
use Rattle.script_proc.specs.declared.worker.Worker.{Worker}
use Rattle.script_proc.specs.declared.turn.Turn.{Turn}
use Rattle.script_proc.specs.declared.turn.Turn.TheVariants.{Went, Idle, Ended, Spent}
use Rattle.script_proc.specs.Workers.{thread_of}
use Rattle.script_proc.specs.Turns.{caller, Stays, CanCall, Asked, Did, AsksNobody}

not_fallen : (o : Option ℕ) → HasNotFallen o o
not_fallen None = refl
not_fallen (Some n) = (n, refl, omega arith)

-- where nothing happens, all goes on
pub goes_on_itself : (v : TellerView) (serves : ℕ → Type 0) (who : ℕ) → GoesOn v v serves who
goes_on_itself v serves who = record {
  setup = refl;
  opening = refl;
  others = λ t other served. refl;
  remembers = λ t served. record { seen = ([], refl); looks = not_fallen (v.looks t); faithful = λ h. h; lawful = λ h. h };
}

-- no trace is whole that has a next call
pub not_both : (s : Tree) (t : ℕ) (tr : Trace) (call : Call) → IsTrace s t tr Whole → IsTrace s t tr (Cut call) → ⊥
not_both s t tr call whole next = let e : Whole ≡ Cut call = one_end s whole next in absurd cc

pub if_any : {X E : Type 0} (Q : X → Type 0) (r : Result X E) → ((x : X) → Q x) → IfOk r Q
if_any Q (Ok x) h = h x
if_any Q (Err e) h = tt

pub on_err : {X E : Type 0} (P Q : Type 0) (r : Result X E) → (P → Q) → OnErr r P → OnErr r Q
on_err P Q (Ok x) f h = tt
on_err P Q (Err e) f h = f h

caller_is : (who : Thread) (n : ℕ) → who.0 ≡ n → (let here : Thread = record { 0 = n } in who ≡ here)
caller_is who n e = ap (λ (k : ℕ). let x : Thread = record { 0 = k } in x) e

-- what a turn of a thread came to, where the thread and what was told are equal to others
pub came_to : (before after : TellerView) (who : Thread) (n : ℕ) (call : Call) (told other : Told) → who.0 ≡ n → told ≡ other → CameTo before after who call told → (let here : Thread = record { 0 = n } in CameTo before after here call other)
came_to before after who n call told other w e h =
    subst (λ x. CameTo before after x call other) (caller_is who n w) (subst (λ x. CameTo before after who call x) e h)

pub looked_of : (before after : TellerView) (m n : ℕ) → m ≡ n → HasLooked before after m → HasLooked before after n
looked_of before after m n e h = subst (λ t. HasLooked before after t) e h

module _ (s : Tree) (p : Program) (old mid new : Worker) (before after : TellerView) (call : Call) where
  -- what came of the next call is what the turn did
  pub asked_did : CanCall s p old call → Stays s p old mid → thread_of mid ≡ thread_of old → (turn : Turn) → Asked mid new before after call turn → Did s p old new before after turn
  asked_did can stays same Went h = record {
    call = call;
    can = can;
    answer = h.answer;
    told = came_to before after (caller mid) (thread_of old) call (Answered h.answer) (Answered h.answer) same refl h.told;
    looked = looked_of before after (thread_of mid) (thread_of old) same h.looked;
    worker = λ t tr w. h.worker s p t tr (stays.worker t tr w);
    used = h.used ∙ ap (λ n. n + 1) stays.used;
  }
  asked_did can stays same Idle h = record {
    call = call;
    can = can;
    idle = record {
      told = came_to before after (caller mid) (thread_of old) call Barred Barred same refl h.0.told;
      looked = looked_of before after (thread_of mid) (thread_of old) same h.0.looked;
    };
    stays = subst (λ w. Stays s p old w) (sym h.1) stays;
  }
  asked_did can stays same Ended h = absurd h
  asked_did can stays same Spent h = absurd h

module _ (mid new : Worker) (before after : TellerView) (call : Call) where
  pub asks_somebody : (turn : Turn) → Asked mid new before after call turn → AsksNobody turn → ⊥
  asks_somebody Went h nobody = nobody
  asks_somebody Idle h nobody = nobody
  asks_somebody Ended h nobody = h
  asks_somebody Spent h nobody = h
