-- In a run each entry of a thread is answered by its row, and none is refused as not now.
use Rattle.std.proofs.Common.{◌≡◌, ◌≢◌, ℕ, ◌<◌, Bool, false, [], ◌∷◌, Option, Some, None, refl, sym, ap, ◌∙◌, inl, inr, arith}
use Rattle.std.specs.Prelude.{All}
use Rattle.std.proofs.lemmas.Bool.{cases_lt, false≢true}
use Rattle.std.proofs.lemmas.List.Elements.{All-nil, All-cons}
use Rattle.win_num.specs.declared.code.Code.TheVariants.{NotNow}
use Rattle.user_model.specs.declared.call.Call.{Call}
use Rattle.user_model.specs.declared.call.Call.TheVariants.{Tick, Advance}
use Rattle.user_model.specs.declared.entry.Answer.{Answer}
use Rattle.user_model.specs.declared.entry.Answer.TheVariants as answers
use Rattle.user_model.specs.declared.entry.Entry.{Entry}
use Rattle.user_model.specs.declared.entry.Setup.{Setup}
use Rattle.user_model.specs.Past.{Past}
use Rattle.user_model.specs.Replies.{row}
use Rattle.user_model.specs.Idle.{advanced, soonest}
use Rattle.user_model.proofs.AnswerFacts.{is_not_now as is_not_now_code, Says}
use Rattle.user_model.proofs.ReplyLaws.{is_of_clock as is_of_clock_call}
use Rattle.user_model.proofs.RowFacts.{row_said}
use Rattle.script_tree.specs.Tree.{Tree}
use Rattle.script_tree.specs.Traces.{trace_of}
use Rattle.log_text.specs.Ends.{setup_of}
use Rattle.user_pool.specs.Runs.{IsRun}
use Rattle.user_pool.specs.InTurn.{AreByRow}
use Rattle.user_pool.proofs.ClockCalls.{is_of_clock, none_of_clock}
use Rattle.user_pool.proofs.NeverFull.{clock_answer}
use Rattle.user_pool.proofs.Programs.{by_row, next_of}
use Rattle.user_pool.proofs.Turns.{move_can}

-- ---- answers that aren't the refusal as not now

abbrev is_not_now : Answer → Bool
is_not_now (answers.Refused code) = is_not_now_code code
is_not_now a = false

record Fine (a : Answer) : Type 0 where
  so : is_not_now a ≡ false

same_clock : (call : Call) → is_of_clock_call call ≡ is_of_clock call
same_clock (Tick ms) = refl
same_clock Advance = refl
same_clock call = refl

said_fine : (setup : Setup) (past : Past) (who : ℕ) (call : Call) (a : Answer) → is_of_clock call ≡ false → Says setup past who call a → is_not_now a ≡ false
said_fine setup past who call (answers.Refused code) h (inl proper) = proper
said_fine setup past who call (answers.Refused code) h (inr clock) = absurd (false≢true (sym h ∙ sym (same_clock call) ∙ clock))
said_fine setup past who call a h s = refl

row_fine : (setup : Setup) (past : Past) (who : ℕ) (call : Call) → is_of_clock call ≡ false → Fine (row setup past who call)
row_fine setup past who call h = record { so = said_fine setup past who call (row setup past who call) h (row_said setup past who call).says }

-- ---- runs

-- each entry of a thread
pub thread_by_row : (s : Tree) (past : Past) (e : Entry) → IsRun s (e ∷ past) → 0 < e.who.0 → e.answer ≡ row (setup_of s) past e.who.0 e.call
thread_by_row s past e run positive =
    run.0.answer ∙ by_row s past e.who.0 e.call run.1 positive (move_can s past e run.0 positive) run.0.room run.0.call

pub all_by_row : (s : Tree) (past : Past) → IsRun s past → AreByRow s past
all_by_row s [] run = tt
all_by_row s (e ∷ past) run = (thread_by_row s past e run, all_by_row s past run.1)

fine_advanced : (o : Option ℕ) → Fine (advanced o)
fine_advanced (Some time) = record { so = refl }
fine_advanced None = record { so = refl }

entry_fine : (s : Tree) (past : Past) (e : Entry) → IsRun s (e ∷ past) → Fine e.answer
entry_fine s past e run = record {
  so = elim (cases_lt 0 e.who.0) [
    | inl positive ↦
        let call = none_of_clock s e.who.0 (trace_of past e.who.0) e.call (next_of s past e.who.0 e.call positive run.0.call) in
        ap is_not_now (thread_by_row s past e run positive) ∙ (row_fine (setup_of s) past e.who.0 e.call call).so
    | inr none ↦ ap is_not_now (clock_answer s past e run.0 (omega (arith, none))) ∙ (fine_advanced (soonest (setup_of s) past)).so
  ];
}

so_no_refusal : (a : Answer) → Fine a → a ≢ answers.Refused NotNow
so_no_refusal a f e = absurd (false≢true (sym f.so ∙ ap is_not_now e))

-- no entry at all
pub none_not_now : (s : Tree) (past : Past) → IsRun s past → All (λ (e : Entry). e.answer ≢ answers.Refused NotNow) past
none_not_now s [] run = All-nil (λ (e : Entry). e.answer ≢ answers.Refused NotNow)
none_not_now s (e ∷ past) run = All-cons (λ (e : Entry). e.answer ≢ answers.Refused NotNow) e past (so_no_refusal e.answer (entry_fine s past e run)) (none_not_now s past run.1)
