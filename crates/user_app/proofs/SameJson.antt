-- Two trees that say the same have the same JSON.
use Rattle.std.proofs.Common.{◌≡◌, ℕ, zero, suc, List, [], ◌∷◌, ◌++◌, length, Option, Some, None, refl, ap, ◌∙◌}
use Rattle.std.specs.Prelude.{if◌then◌else◌, codes, decimal}
use Rattle.serde_json.specs.Data.{string, number, unsigned, object, member, no_members}
use Rattle.user_model.specs.declared.call.Call.{Call}
use Rattle.user_model.specs.declared.entry.Entry.{Entry}
use Rattle.user_model.specs.declared.entry.Setup.{Setup}
use Rattle.user_model.specs.Past.{Past}
use Rattle.user_model.specs.Counts.{send_count}
use Rattle.user_model.specs.Places.{has_ended}
use Rattle.user_model.specs.Threads.{from_each}
use Rattle.user_model.specs.Idle.{is_barred}
use Rattle.script_tree.specs.Tree.{Tree}
use Rattle.log_text.specs.declared.end.End.{End}
use Rattle.log_text.specs.declared.end.End.TheVariants.{Done, Stuck, Spent, Cut}
use Rattle.log_text.specs.Ends.{setup_of, end_of}
use Rattle.log_text.specs.Entries.{call_text, answer_text}
use Rattle.log_text.specs.Endings.{last_call}
use Rattle.log_text.specs.Frames.{shown}
use Rattle.log_json.specs.Logs.{entry_json, entries_json, json}
use Rattle.log_json.specs.Objects.{line, one_member, entry_object, frame_object, frame_line, end_object, waits_line, spent_object, counts_object, extra, ending}
use Rattle.user_app.proofs.SameRuns.{SameMoves}
use Rattle.user_app.proofs.SameLogs.{same_call_text, same_answer_text, same_end}

-- the line of an entry by its texts
abbrev entry_by : List ℕ → List ℕ → ℕ → List ℕ
entry_by answer call who = line (object (member (codes "answer") (string answer) (member (codes "call") (string call) (member (codes "who") (number (unsigned who)) no_members))))

module _ (s t : Tree) (h : SameMoves s t) where
  same_line : (e : Entry) → line (entry_object s e) ≡ line (entry_object t e)
  same_line e =
      ap (λ (x : List ℕ). entry_by x (call_text s e.call) e.who.0) (same_answer_text s t h e.answer)
      ∙ ap (λ (x : List ℕ). entry_by (answer_text t e.answer) x e.who.0) (same_call_text s t h e.call)

  same_frame : (o : Option (List ℕ)) → frame_line s o ≡ frame_line t o
  same_frame None = refl
  same_frame (Some colours) = ap (λ (x : Setup). line (frame_object x.width x.height colours)) h.setup

  same_entry : (past : Past) (e : Entry) → entry_json s past e ≡ entry_json t past e
  same_entry past e =
      ap (λ (x : List ℕ). x ++ frame_line s (shown (setup_of s) past e.answer)) (same_line e)
      ∙ ap (λ (x : List ℕ). line (entry_object t e) ++ x) (same_frame (shown (setup_of s) past e.answer) ∙ ap (λ (x : Setup). frame_line t (shown x past e.answer)) h.setup)

  same_entries : (past : Past) → entries_json s past ≡ entries_json t past
  same_entries [] = refl
  same_entries (e ∷ past) =
      ap (λ (x : List ℕ). x ++ entry_json s past e) (same_entries past) ∙ ap (λ (x : List ℕ). entries_json t past ++ x) (same_entry past e)

  same_waits : (u : ℕ) (o : Option Call) → waits_line s u o ≡ waits_line t u o
  same_waits u None = refl
  same_waits u (Some call) = ap (λ (x : List ℕ). line (one_member (codes "waits") (string (decimal u ++ (codes " " ++ x))))) (same_call_text s t h call)

  same_extra : (past : Past) (end : End) (u : ℕ) → extra s past end u ≡ extra t past end u
  same_extra past Done u = refl
  same_extra past Stuck u = ap (λ (x : List ℕ). let ls : List ℕ = if has_ended past u then [] else x in ls) (same_waits u (last_call past u))
  same_extra past Spent u = ap (λ (x : Setup). let ls : List ℕ = if is_barred x past u then [] else line (spent_object u) in ls) h.setup
  same_extra past Cut u = refl

  each_extra : (past : Past) (end : End) (n : ℕ) → from_each (extra s past end) n ≡ from_each (extra t past end) n
  each_extra past end zero = refl
  each_extra past end (suc n) =
      ap (λ (x : List ℕ). x ++ extra s past end (suc n)) (each_extra past end n)
      ∙ ap (λ (x : List ℕ). from_each (extra t past end) n ++ x) (same_extra past end (suc n))

  same_ending : (past : Past) (end : End) → ending s past end ≡ ending t past end
  same_ending past end =
      ap (λ (x : List ℕ). line (end_object end) ++ (x ++ line (counts_object (send_count past)))) (each_extra past end (length s.threads) ∙ ap (from_each (extra t past end)) h.count)

  -- the JSON of a past
  pub same_json : (past : Past) → json s past ≡ json t past
  unfolding json
  same_json past =
      ap (λ (x : List ℕ). x ++ ending s past (end_of s past)) (same_entries past)
      ∙ ap (λ (x : List ℕ). entries_json t past ++ x) (same_ending past (end_of s past))
      ∙ ap (λ (e : End). entries_json t past ++ ending t past e) (same_end s t h past)
