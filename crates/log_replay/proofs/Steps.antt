-- What the calls of a replay come to, by their results.
use Rattle.std.proofs.Common.{◌≡◌, ℕ, ◌-◌, ◌<◌, ◌≤◌, List, [], ◌∷◌, length, set, Option, Some, None, refl, ap, sym, ◌∙◌, subst, Ok, Err}
use Rattle.std.specs.Prelude.{Result, IfOk, IsNone}
use Rattle.user_model.specs.declared.entry.Entry.{Entry}
use Rattle.user_model.specs.Past.{Past}
use Rattle.user_model.specs.Legal.{IsLawful}
use Rattle.script_tree.specs.Tree.{Tree}
use Rattle.script_tree.specs.Traces.{trace_of}
use Rattle.script_proc.specs.declared.program.Program.{Program}
use Rattle.script_proc.specs.declared.worker.Worker.{Worker}
use Rattle.script_proc.specs.Workers.{IsWorkerOf}
use Rattle.log_text.specs.Ends.{setup_of}
use Rattle.log_text.specs.Frames.{shown}
use Rattle.log_read.specs.Logs.{LogEntryTree, LogTree, log_entries_of, log_of}
use Rattle.illegal_text.specs.declared.illegal.Illegal.{Illegal}
use Rattle.illegal_text.specs.declared.illegal.Why.{Why}
use Rattle.illegal_text.specs.declared.illegal.Why.TheVariants as reasons
use Rattle.illegal_text.specs.EndingLines.{ending_lines}
use Rattle.user_pool.specs.Runs.{IsRun}
use Rattle.user_pool.proofs.OneRun.{run_lawful}
use Rattle.log_replay.specs.Replays.{WasRight, WasWrong, WasWhole, WasBad, MoveTold, FrameTold, EntryTold, DifferAt, IsStoppedAt, IsFirstBad}
use Rattle.log_replay.specs.Workers.{WorkersStand}
use Rattle.log_replay.proofs.Loops.{run_more}
use Rattle.log_replay.proofs.NoRuns.{stopped_bad}
use Rattle.log_replay.proofs.Telling.{workers_clock, workers_thread}

-- the workers after a right entry of the clock
pub clock_done : {E : Type 0} (s : Tree) (p : Program) (past now : Past) (e : Entry) (workers : List Worker) (r : Result (Option Why) E) → e.who.0 ≡ 0 → WorkersStand s p past workers → IfOk r (MoveTold s past now e) → IfOk r (λ fault. IsNone fault → WorkersStand s p now workers)
clock_done s p past now e workers (Ok None) clock stands told = λ none. workers_clock s p past now e workers told clock stands
clock_done s p past now e workers (Ok (Some why)) clock stands told = λ none. absurd cc
clock_done s p past now e workers (Err error) clock stands told = tt

-- and after one of a thread
pub thread_done : {E : Type 0} (s : Tree) (p : Program) (past now : Past) (e : Entry) (workers : List Worker) (w : Worker) (r : Result (Option Why) E) → 0 < e.who.0 → e.who.0 ≤ length s.threads → WorkersStand s p past workers
    → IfOk r (MoveTold s past now e) → IfOk r (λ fault. IsNone fault → IsWorkerOf s p e.who.0 (trace_of now e.who.0) w) → IfOk r (λ fault. IsNone fault → WorkersStand s p now (set workers (e.who.0 - 1) w))
thread_done s p past now e workers w (Ok None) some known stands told own = λ none. workers_thread s p past now e workers w told some known stands (own none)
thread_done s p past now e workers w (Ok (Some why)) some known stands told own = λ none. absurd cc
thread_done s p past now e workers w (Err error) some known stands told own = tt

-- a wrong entry
pub bad_move : (s : Tree) (past now : Past) (e : LogEntryTree) (why : Why) → IsRun s past → WasWrong s past now e.entry why → WasBad s past now e why
bad_move s past now e (reasons.Over over) run was = record { wrong = was.wrong; made = (was.newer, was.made); lawful = was.lawful (run_lawful s past run) }
bad_move s past now e (reasons.Barred t) run was = record { wrong = was.wrong; made = (was.newer, was.made); lawful = was.lawful (run_lawful s past run) }
bad_move s past now e (reasons.Call call) run was = record { wrong = was.wrong; made = (was.newer, was.made); lawful = was.lawful (run_lawful s past run) }
bad_move s past now e (reasons.Answer a) run was = record { wrong = was.wrong; made = (was.newer, was.made); lawful = was.lawful (run_lawful s past run) }
bad_move s past now e (reasons.Frame row) run was = absurd was.wrong
bad_move s past now e (reasons.EndLine k) run was = absurd was.wrong

-- what was made with a right entry is lawful
pub right_lawful : (s : Tree) (past now : Past) (e : Entry) → IsRun s past → WasRight s past now e → IsLawful (setup_of s) now
right_lawful s past now e run right = subst (IsLawful (setup_of s)) (sym right.made) (run_lawful s (e ∷ past) (right.move, run))

-- a right entry with its frame
pub entry_done : (s : Tree) (past now : Past) (e : LogEntryTree) (fault : Option Why) → IsRun s past → WasRight s past now e.entry → FrameTold s e (shown (setup_of s) past e.entry.answer) fault → EntryTold s past now e fault
entry_done s past now e None run right told = record { right = right; frame = told }
entry_done s past now e (Some (reasons.Frame row)) run right told = record { wrong = (right.move, told); made = right.made; lawful = right_lawful s past now e.entry run right }
entry_done s past now e (Some (reasons.Over over)) run right told = absurd told
entry_done s past now e (Some (reasons.Barred t)) run right told = absurd told
entry_done s past now e (Some (reasons.Call call)) run right told = absurd told
entry_done s past now e (Some (reasons.Answer a)) run right told = absurd told
entry_done s past now e (Some (reasons.EndLine k)) run right told = absurd told

-- a log whose entries stop is bad
pub stopped_first : (s : Tree) (l : LogTree) (now : Past) (found : Illegal) → IsStoppedAt s l.entries now found → IsFirstBad s l now found
stopped_first s l now found stopped = record { before = stopped.before; run = stopped.run; place = stopped.place; bad = stopped_bad s l now stopped.before found.why stopped.wrong }

-- and one whose ending differs
pub ending_first : (s : Tree) (l : LogTree) (past : Past) (place k : ℕ) → IsRun s past → place ≡ length past → l.entries ≡ log_entries_of s past → DifferAt (ending_lines l) (ending_lines (log_of s past)) k → IsFirstBad s l past (record { place = place; why = reasons.EndLine k })
ending_first s l past place k run is entries differ = record { before = past; run = run; place = is; bad = record { entries = entries; line = differ; made = refl } }
