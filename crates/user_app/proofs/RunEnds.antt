-- How a run ends.
use Rattle.std.proofs.Common.{◌≡◌, ◌≢◌, ℕ, List, Option, refl, sym, ◌∙◌, subst, inr}
use Rattle.std.specs.Prelude.{OnErr, OnOk, Result, Ok, Err}
use Rattle.std.specs.Result.{IsErrOf}
use Rattle.std.specs.Io.KnownBytes.{Appends}
use Rattle.user_io.specs.Outside.{AppendsPart, Rose}
use Rattle.log_text.specs.declared.writer.WriteFault.{WriteFault}
use Rattle.log_text.specs.declared.writer.WriteFault.TheVariants.{Write, Memory as OutOfMemory}
use Rattle.user_model.specs.Past.{Past}
use Rattle.user_model.specs.Counts.{send_count}
use Rattle.user_model.specs.SendStories.{IsSendStory, IsSettled}
use Rattle.script_tree.specs.Tree.{Tree}
use Rattle.log_text.specs.declared.end.End.{End}
use Rattle.log_text.specs.declared.end.End.TheVariants.{Done, Stuck, Spent, Cut}
use Rattle.log_text.specs.Ends.{end_of}
use Rattle.log_text.specs.Summaries.{summary}
use Rattle.user_pool.specs.Runs.{IsListed}
use Rattle.user_app.specs.declared.status.Status.{Status}
use Rattle.user_app.specs.declared.request.LogForm.{LogForm}
use Rattle.user_app.specs.Histories.{history_text}
use Rattle.user_app.specs.Made.{IsMade}
use Rattle.user_app.specs.Outcomes.{IsWhole, SummedPart, RunEnds, MakeEnds}
use Rattle.user_app.specs.Statuses.{status_of, written_status}

-- the log was written, and the status is that of the end
pub logged : (Runs : Tree → Past → Type 0) (form : LogForm) (s : Tree) (holds holds' : Option (List ℕ)) (faults faults' : ℕ) (past : Past) (end : End) (status : Status) → Runs s past → end ≡ end_of s past → end ≢ Cut → Appends holds holds' (history_text form s past) → status ≡ status_of end
    → ((send : ℕ) → IsSendStory past send) → (end_of s past ≡ Done → IsSettled past (send_count past)) → RunEnds Runs form s holds holds' faults faults' status
logged Runs form s holds holds' faults faults' past Done status run ended over written is stories settled =
    subst (RunEnds Runs form s holds holds' faults faults') (sym is) (record { history = past; run = run; ended = sym ended; written = written; stories = stories; settled = λ e. settled (sym ended) })
logged Runs form s holds holds' faults faults' past Stuck status run ended over written is stories settled =
    subst (RunEnds Runs form s holds holds' faults faults') (sym is) (record { history = past; run = run; ended = sym ended; written = written; stories = stories; settled = λ e. settled (sym ended ∙ e) })
logged Runs form s holds holds' faults faults' past Spent status run ended over written is stories settled =
    subst (RunEnds Runs form s holds holds' faults faults') (sym is) (record { history = past; run = run; ended = sym ended; written = written; stories = stories; settled = λ e. settled (sym ended ∙ e) })
logged Runs form s holds holds' faults faults' past Cut status run ended over written is stories settled = absurd (over refl)

-- the summary was written, and the status is that of the end
pub summed : (n : ℕ) (holds holds' : Option (List ℕ)) (faults faults' : ℕ) (s : Tree) (past : Past) (end : End) (status : Status)
    → IsMade n s → IsListed s past → end ≡ end_of s past → end ≢ Cut → Appends holds holds' (summary n past end) → status ≡ status_of end → MakeEnds n holds holds' faults faults' status
summed n holds holds' faults faults' s past Done status made listed ended over written is =
    subst (MakeEnds n holds holds' faults faults') (sym is) (record { script = s; is_made = made; history = past; listed = listed; ended = sym ended; written = written })
summed n holds holds' faults faults' s past Stuck status made listed ended over written is =
    subst (MakeEnds n holds holds' faults faults') (sym is) (record { script = s; is_made = made; history = past; listed = listed; ended = sym ended; written = written })
summed n holds holds' faults faults' s past Spent status made listed ended over written is =
    subst (MakeEnds n holds holds' faults faults') (sym is) (record { script = s; is_made = made; history = past; listed = listed; ended = sym ended; written = written })
summed n holds holds' faults faults' s past Cut status made listed ended over written is = absurd (over refl)

-- a front of it was written
pub summed_part : (n : ℕ) (holds holds' : Option (List ℕ)) (s : Tree) (past : Past) (end : End) → IsMade n s → IsListed s past → end ≡ end_of s past → AppendsPart holds holds' (summary n past end) → SummedPart n holds holds'
summed_part n holds holds' s past end made listed ended written =
    record { script = s; is_made = made; history = past; listed = listed; written = subst (λ x. AppendsPart holds holds' (summary n past x)) ended written }

-- the log was written, whole or in part
pub log_told : (Runs : Tree → Past → Type 0) (r : Result (Unit {0}) WriteFault) (form : LogForm) (s : Tree) (holds holds' : Option (List ℕ)) (faults faults' : ℕ) (past : Past) (end : End) (status : Status) → Runs s past → end ≡ end_of s past → end ≢ Cut
    → OnOk r (Appends holds holds' (history_text form s past)) → OnErr r (AppendsPart holds holds' (history_text form s past)) → (IsErrOf r Write → Rose faults faults') → status ≡ written_status r end
    → ((send : ℕ) → IsSendStory past send) → (end_of s past ≡ Done → IsSettled past (send_count past)) → RunEnds Runs form s holds holds' faults faults' status
log_told Runs (Ok u) form s holds holds' faults faults' past end status run ended over whole part failed is stories settled = logged Runs form s holds holds' faults faults' past end status run ended over whole is stories settled
log_told Runs (Err Write) form s holds holds' faults faults' past end status run ended over whole part failed is stories settled = subst (RunEnds Runs form s holds holds' faults faults') (sym is) (record { history = past; run = run; written = part }, failed refl)
log_told Runs (Err OutOfMemory) form s holds holds' faults faults' past end status run ended over whole part failed is stories settled = subst (RunEnds Runs form s holds holds' faults faults') (sym is) (inr (record { history = past; run = run; written = part }))

-- the summary was written, whole or in part
pub summary_told : (r : Result (Unit {0}) WriteFault) (n : ℕ) (holds holds' : Option (List ℕ)) (faults faults' : ℕ) (s : Tree) (past : Past) (end : End) (status : Status) → IsMade n s → IsListed s past → end ≡ end_of s past → end ≢ Cut
    → OnOk r (Appends holds holds' (summary n past end)) → OnErr r (AppendsPart holds holds' (summary n past end)) → (IsErrOf r Write → Rose faults faults') → status ≡ written_status r end → MakeEnds n holds holds' faults faults' status
summary_told (Ok u) n holds holds' faults faults' s past end status made listed ended over whole part failed is = summed n holds holds' faults faults' s past end status made listed ended over whole is
summary_told (Err Write) n holds holds' faults faults' s past end status made listed ended over whole part failed is = subst (MakeEnds n holds holds' faults faults') (sym is) (summed_part n holds holds' s past end made listed ended part, failed refl)
summary_told (Err OutOfMemory) n holds holds' faults faults' s past end status made listed ended over whole part failed is = subst (MakeEnds n holds holds' faults faults') (sym is) (inr (summed_part n holds holds' s past end made listed ended part))

-- all was written exactly where no fault came
pub whole_told : (r : Result (Unit {0}) WriteFault) (end : End) (status : Status) (P : Type 0) → status ≡ written_status r end → IsWhole status → OnOk r P → P
whole_told (Ok u) end status P is whole p = p
whole_told (Err Write) end status P is whole p = absurd (subst IsWhole is whole)
whole_told (Err OutOfMemory) end status P is whole p = absurd (subst IsWhole is whole)
