-- Two trees that say the same have the same logs.
use Rattle.std.proofs.Common.{◌≡◌, ℕ, zero, suc, not, List, [], ◌∷◌, ◌++◌, length, Option, Some, None, refl, sym, ap, ◌∙◌}
use Rattle.std.specs.Prelude.{◌==◌, ◌&&◌, if◌then◌else◌, is_none, codes, decimal, slice_get, unwrap_or}
use Rattle.std.specs.List.{flat_map}
use Rattle.user_model.specs.declared.call.Call.{Call}
use Rattle.user_model.specs.declared.entry.Answer.{Answer}
use Rattle.user_model.specs.declared.entry.Entry.{Entry}
use Rattle.user_model.specs.declared.entry.Setup.{Setup}
use Rattle.user_model.specs.Past.{Past}
use Rattle.user_model.specs.Places.{has_ended}
use Rattle.user_model.specs.Threads.{lowest, from_each}
use Rattle.user_model.specs.Idle.{is_idle, is_quiet, have_all_ended, ends_stuck, is_barred}
use Rattle.call_fields.specs.declared.value.Value.{Value}
use Rattle.call_fields.specs.declared.value.Value.TheVariants as values
use Rattle.call_table.specs.Calls.{call_row, call_name, call_parts}
use Rattle.answer_table.specs.Answers.{answer_row, answer_name, answer_parts}
use Rattle.user_io.specs.Text.{operand}
use Rattle.script_tree.specs.Tree.{ProcedureTree, Tree}
use Rattle.script_text.specs.Lines.{names_of}
use Rattle.log_text.specs.declared.end.End.{End}
use Rattle.log_text.specs.declared.end.End.TheVariants.{Done, Stuck, Spent, Cut}
use Rattle.log_text.specs.Ends.{setup_of, used, end_of}
use Rattle.log_text.specs.Entries.{procedure_name, procedure_text, value_text, call_text, answer_text, entry_line, entry_text, entries_text}
use Rattle.log_text.specs.Frames.{frame_text, shown, frame_lines}
use Rattle.log_text.specs.Endings.{end_line, last_call, waits_line, spent_line, extra, sends_line, ending}
use Rattle.log_text.specs.Logs.{log}
use Rattle.user_app.proofs.SameRuns.{SameMoves}

-- procedures with these names and nothing else
abbrev bare : List (List ℕ) → List ProcedureTree
bare [] = []
bare (name ∷ names) = record { name = name; body = [] } ∷ bare names

-- a tree with these names, procedures of these names, and nothing else
abbrev named : List (List ℕ) → List (List ℕ) → Tree
named names procedures = record { width = 0; height = 0; budget = 0; order = []; names = names; procedures = bare procedures; threads = [] }

bare_name : (ps : List ProcedureTree) (k : ℕ) → procedure_name (slice_get ps k) ≡ procedure_name (slice_get (bare (names_of ps)) k)
bare_name [] k = refl
bare_name (p ∷ ps) zero = refl
bare_name (p ∷ ps) (suc k) = bare_name ps k

by_name : (s : Tree) (k : ℕ) → procedure_text s k ≡ procedure_text (named s.names (names_of s.procedures)) k
by_name s k = ap (λ (o : Option (List ℕ)). 32 ∷ unwrap_or o (decimal k)) (bare_name s.procedures k)

-- the text of a value takes only the names
value_by_names : (s : Tree) (v : Value) → value_text s v ≡ value_text (named s.names (names_of s.procedures)) v
value_by_names s (values.Procedure procedure) = by_name s procedure
value_by_names s (values.Number n) = refl
value_by_names s v = refl

values_by_names : (s : Tree) (vs : List Value) → flat_map (value_text s) vs ≡ flat_map (value_text (named s.names (names_of s.procedures))) vs
values_by_names s [] = refl
values_by_names s (v ∷ vs) =
    ap (λ (x : List ℕ). x ++ flat_map (value_text s) vs) (value_by_names s v)
    ∙ ap (λ (x : List ℕ). value_text (named s.names (names_of s.procedures)) v ++ x) (values_by_names s vs)

-- an end by what it takes of a tree
abbrev ends_so : Setup → ℕ → ℕ → Past → End
ends_so setup budget count past =
    if have_all_ended setup past then Done else if ends_stuck past then Stuck else
    if not (is_quiet setup past) && is_none (lowest (λ t. not (is_idle setup past t) && not (used past t == budget)) count) then Spent else Cut

module _ (s t : Tree) (h : SameMoves s t) where
  same_names : named s.names (names_of s.procedures) ≡ named t.names (names_of t.procedures)
  same_names = ap (λ (x : List (List ℕ)). named x (names_of s.procedures)) h.names ∙ ap (named t.names) h.procedure_names

  same_values : (vs : List Value) → flat_map (value_text s) vs ≡ flat_map (value_text t) vs
  same_values vs = values_by_names s vs ∙ ap (λ (x : Tree). flat_map (value_text x) vs) same_names ∙ sym (values_by_names t vs)

  pub same_call_text : (call : Call) → call_text s call ≡ call_text t call
  same_call_text call = ap (λ (x : List ℕ). (call_row (call_name call)).word ++ x) (same_values (call_parts call))

  pub same_answer_text : (a : Answer) → answer_text s a ≡ answer_text t a
  same_answer_text a = ap (λ (x : List ℕ). (answer_row (answer_name a)).word ++ x) (same_values (answer_parts a))

  same_line : (e : Entry) → entry_line s e ≡ entry_line t e
  same_line e =
      ap (λ (x : List ℕ). decimal e.who.0 ++ (codes " " ++ (x ++ (codes " = " ++ (answer_text s e.answer ++ codes "\n"))))) (same_call_text e.call)
      ∙ ap (λ (x : List ℕ). decimal e.who.0 ++ (codes " " ++ (call_text t e.call ++ (codes " = " ++ (x ++ codes "\n"))))) (same_answer_text e.answer)

  -- the lines of a frame take only the screen
  same_frame : (o : Option (List ℕ)) → frame_lines s o ≡ frame_lines t o
  same_frame None = refl
  same_frame (Some colours) = ap (λ (x : Setup). frame_text x.width x.height colours) h.setup

  same_entry : (past : Past) (e : Entry) → entry_text s past e ≡ entry_text t past e
  same_entry past e =
      ap (λ (x : List ℕ). x ++ frame_lines s (shown (setup_of s) past e.answer)) (same_line e)
      ∙ ap (λ (x : List ℕ). entry_line t e ++ x) (same_frame (shown (setup_of s) past e.answer) ∙ ap (λ (x : Setup). frame_lines t (shown x past e.answer)) h.setup)

  same_entries : (past : Past) → entries_text s past ≡ entries_text t past
  same_entries [] = refl
  same_entries (e ∷ past) =
      ap (λ (x : List ℕ). x ++ entry_text s past e) (same_entries past) ∙ ap (λ (x : List ℕ). entries_text t past ++ x) (same_entry past e)

  -- how a past ends
  pub same_end : (past : Past) → end_of s past ≡ end_of t past
  same_end past =
      ap (λ (x : Setup). ends_so x s.budget (length s.threads) past) h.setup
      ∙ ap (λ (n : ℕ). ends_so (setup_of t) n (length s.threads) past) h.budget
      ∙ ap (λ (n : ℕ). ends_so (setup_of t) t.budget n past) h.count

  same_waits : (u : ℕ) (o : Option Call) → waits_line s u o ≡ waits_line t u o
  same_waits u None = refl
  same_waits u (Some call) = ap (λ (x : List ℕ). codes "waits" ++ (operand u ++ (codes " " ++ (x ++ codes "\n")))) (same_call_text call)

  same_extra : (past : Past) (end : End) (u : ℕ) → extra s past end u ≡ extra t past end u
  same_extra past Done u = refl
  same_extra past Stuck u = ap (λ (x : List ℕ). let ls : List ℕ = if has_ended past u then [] else x in ls) (same_waits u (last_call past u))
  same_extra past Spent u = ap (λ (x : Setup). let ls : List ℕ = if is_barred x past u then [] else spent_line u in ls) h.setup
  same_extra past Cut u = refl

  each_extra : (past : Past) (end : End) (n : ℕ) → from_each (extra s past end) n ≡ from_each (extra t past end) n
  each_extra past end zero = refl
  each_extra past end (suc n) =
      ap (λ (x : List ℕ). x ++ extra s past end (suc n)) (each_extra past end n)
      ∙ ap (λ (x : List ℕ). from_each (extra t past end) n ++ x) (same_extra past end (suc n))

  same_ending : (past : Past) (end : End) → ending s past end ≡ ending t past end
  same_ending past end =
      ap (λ (x : List ℕ). end_line end ++ (x ++ sends_line past)) (each_extra past end (length s.threads) ∙ ap (from_each (extra t past end)) h.count)

  -- the text of a past
  pub same_log : (past : Past) → log s past ≡ log t past
  unfolding log
  same_log past =
      ap (λ (x : List ℕ). codes "log 1\n" ++ (x ++ ending s past (end_of s past))) (same_entries past)
      ∙ ap (λ (x : List ℕ). codes "log 1\n" ++ (entries_text t past ++ x)) (same_ending past (end_of s past))
      ∙ ap (λ (e : End). codes "log 1\n" ++ (entries_text t past ++ ending t past e)) (same_end past)
