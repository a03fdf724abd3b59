-- How a check ends.
use Rattle.std.proofs.Common.{◌≡◌, ℕ, List, ◌++◌, length, Option, ap, sym, ◌∙◌, subst, inl, inr}
use Rattle.std.specs.Prelude.{IfOk, IfErr, Result, Ok, Err}
use Rattle.std.specs.Result.{IsErrOf}
use Rattle.std.specs.Io.KnownBytes.{Consumes}
use Rattle.user_model.specs.Past.{Past}
use Rattle.script_tree.specs.Tree.{Tree}
use Rattle.script_text.specs.declared.fault.Refusal.{Refusal}
use Rattle.script_text.specs.Spelling.{spelling}
use Rattle.log_text.specs.Logs.{log}
use Rattle.log_read.specs.Logs.{LogTree, spelling as log_spelling}
use Rattle.log_read.proofs.RunLogs.{run_text}
use Rattle.user_app.specs.declared.status.Status.{Status}
use Rattle.user_app.specs.declared.status.Status.TheVariants as statuses
use Rattle.user_app.specs.Refusals.{Refuses}
use Rattle.user_app.specs.Inputs.{IsInput, ReadNoPair}
use Rattle.illegal_text.specs.declared.illegal.Illegal.{Illegal}
use Rattle.log_replay.specs.Replays.{IsRunLog, IsNoRunLog, IsFirstBad}
use Rattle.user_app.specs.Checks.{LegalEnds, IllegalEnds, LogChecks, ReadLegal, CheckEnds, WasLegal}

-- ---- what is told of a result

pub at_ok : {X E : Type 0} {r : Result X E} {x : X} (P : X → Type 0) → r ≡ Ok x → IfOk r P → P x
at_ok P is told = subst (λ q. IfOk q P) is told

pub at_err : {X E : Type 0} {r : Result X E} {e : E} (P : E → Type 0) → r ≡ Err e → IfErr r P → P e
at_err P is told = subst (λ q. IfErr q P) is told

pub error_is : {X E : Type 0} {r : Result X E} {e e' : E} → r ≡ Err e → e ≡ e' → IsErrOf r e'
error_is {X} {E} is same = is ∙ ap (λ (x : E). let q : Result X E = Err x in q) same

-- ---- how a check ends

module _ (left left' : Option (List ℕ)) (missed missed' : ℕ) (holds holds' : Option (List ℕ)) (faults faults' : ℕ) where
  legal_of : (s : Tree) (l : LogTree) → IsInput left left' s l → WasLegal s l holds holds' faults faults' statuses.Done → ReadLegal left left' holds holds'
  legal_of s l input was =
      let back : log_spelling s l ≡ log s was.history = ap (log_spelling s) was.log.log ∙ sym (run_text s was.history) in
      record {
        script = s;
        is_script = input.is_script;
        history = was.history;
        run = was.log.run;
        input = subst (Consumes left left') (ap (λ (x : List ℕ). spelling s ++ x) back) input.input;
        read_out = input.read_out;
        written = was.ends;
      }

  -- of a script with a log
  pub pair_told : (s : Tree) (l : LogTree) (status : Status) → IsInput left left' s l → LogChecks s l holds holds' faults faults' status → CheckEnds left left' missed missed' holds holds' faults faults' status
  pair_told s l statuses.Done input ends = legal_of s l input ends
  pair_told s l statuses.Illegal input ends = record { script = s; log = l; input = input; ends = ends }
  pair_told s l statuses.WriteFault input ends = inl (record { script = s; log = l; input = input; ends = ends })
  pair_told s l statuses.Memory input ends = inr (record { script = s; log = l; input = input; ends = ends })
  pair_told s l statuses.Script input ends = absurd ends
  pair_told s l statuses.ReadFault input ends = absurd ends
  pair_told s l statuses.Words input ends = absurd ends
  pair_told s l statuses.Stuck input ends = absurd ends
  pair_told s l statuses.Spent input ends = absurd ends
  pair_told s l statuses.WrongCall input ends = absurd ends

  -- of another text
  pub none_told : (refusal : Refusal) (status : Status) → ReadNoPair left left' refusal → Refuses refusal holds holds' faults faults' status → CheckEnds left left' missed missed' holds holds' faults faults' status
  none_told refusal statuses.Script none told = record { refusal = refusal; cause = none; written = told }
  none_told refusal statuses.WriteFault none told = inr (record { refusal = refusal; cause = none; written = told.0 }, told.1)
  none_told refusal statuses.Memory none told = inl told
  none_told refusal statuses.Done none told = absurd told
  none_told refusal statuses.Illegal none told = absurd told
  none_told refusal statuses.ReadFault none told = absurd told
  none_told refusal statuses.Words none told = absurd told
  none_told refusal statuses.Stuck none told = absurd told
  none_told refusal statuses.Spent none told = absurd told
  none_told refusal statuses.WrongCall none told = absurd told

-- ---- how the check of a log ends

module _ (s : Tree) (l : LogTree) (holds holds' : Option (List ℕ)) (faults faults' : ℕ) where
  pub legal_told : (history : Past) (status : Status) → IsRunLog s l history → LegalEnds (length history) holds holds' faults faults' status → LogChecks s l holds holds' faults faults' status
  legal_told history statuses.Done log ends = record { history = history; log = log; ends = ends }
  legal_told history statuses.WriteFault log ends = inl (record { history = history; log = log; ends = ends })
  legal_told history statuses.Memory log ends = inl ends
  legal_told history statuses.Illegal log ends = absurd ends
  legal_told history statuses.Script log ends = absurd ends
  legal_told history statuses.ReadFault log ends = absurd ends
  legal_told history statuses.Words log ends = absurd ends
  legal_told history statuses.Stuck log ends = absurd ends
  legal_told history statuses.Spent log ends = absurd ends
  legal_told history statuses.WrongCall log ends = absurd ends

  pub illegal_told : (past : Past) (found : Illegal) (status : Status) → IsNoRunLog s l → IsFirstBad s l past found → IllegalEnds s past l found holds holds' faults faults' status → LogChecks s l holds holds' faults faults' status
  illegal_told past found statuses.Illegal none first ends = record { no_run = none; found = found; past = past; first = first; ends = ends }
  illegal_told past found statuses.WriteFault none first ends = inr (record { no_run = none; found = found; past = past; first = first; ends = ends })
  illegal_told past found statuses.Memory none first ends = inr (record { no_run = none; found = found; past = past; first = first; ends = ends })
  illegal_told past found statuses.Done none first ends = absurd ends
  illegal_told past found statuses.Script none first ends = absurd ends
  illegal_told past found statuses.ReadFault none first ends = absurd ends
  illegal_told past found statuses.Words none first ends = absurd ends
  illegal_told past found statuses.Stuck none first ends = absurd ends
  illegal_told past found statuses.Spent none first ends = absurd ends
  illegal_told past found statuses.WrongCall none first ends = absurd ends
