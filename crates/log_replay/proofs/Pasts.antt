-- The entries of a log and those of a past.
use Rattle.std.proofs.Common.{◌≡◌, ℕ, List, [], ◌∷◌, ◌++◌, length, refl, ap, sym, ◌∙◌, append_assoc, append-nil, reverse, map}
use Rattle.std.proofs.lemmas.List.{map-append, reverse-append, reverse-reverse, append_cancel_left}
use Rattle.user_model.specs.declared.entry.Entry.{Entry}
use Rattle.user_model.specs.Past.{Past}
use Rattle.script_tree.specs.Tree.{Tree}
use Rattle.log_read.specs.Logs.{LogEntryTree, log_entry_of, log_entries_of}
use Rattle.log_read.proofs.RunLogs.{run_history}

-- the entry without its frame
abbrev pub entry_in : LogEntryTree → Entry
entry_in x = x.entry

-- a past is known by the entries of its log
pub same_past : (s : Tree) (past before : Past) → log_entries_of s past ≡ log_entries_of s before → past ≡ before
same_past s past before e =
    sym (reverse-reverse past)
    ∙ ap (λ (h : Past). reverse h) (sym (run_history s past) ∙ ap (map entry_in) e ∙ run_history s before)
    ∙ reverse-reverse before

turned : (before xs : Past) (x : Entry) → reverse (reverse before ++ x ∷ xs) ≡ reverse xs ++ x ∷ before
turned before xs x =
    reverse-append (reverse before) (x ∷ xs)
    ∙ ap (λ (h : Past). reverse (x ∷ xs) ++ h) (reverse-reverse before)
    ∙ ap (λ (h : Past). h ++ before) (reverse-append (x ∷ []) xs)
    ∙ append_assoc (reverse xs) (x ∷ []) before

-- what is behind a past in the log of another was made after it
pub behind_past : (s : Tree) (past before : Past) (e : LogEntryTree) (rest : List LogEntryTree) → log_entries_of s past ≡ log_entries_of s before ++ e ∷ rest → past ≡ reverse (map entry_in rest) ++ e.entry ∷ before
behind_past s past before e rest is =
    sym (reverse-reverse past)
    ∙ ap (λ (h : Past). reverse h)
    (sym (run_history s past) ∙ ap (map entry_in) is ∙ map-append entry_in (log_entries_of s before) (e ∷ rest)
    ∙ ap (λ (h : Past). h ++ e.entry ∷ map entry_in rest) (run_history s before))
    ∙ turned before (map entry_in rest) e.entry

-- the log of a past begins with that of what was before
front_entries : (s : Tree) (newer past : List Entry) → (more : List LogEntryTree) × (log_entries_of s (newer ++ past) ≡ log_entries_of s past ++ more)
front_entries s [] past = ([], sym (append-nil (log_entries_of s past)))
front_entries s (x ∷ newer) past =
    let front = front_entries s newer past in
    let last : List LogEntryTree = log_entry_of s (newer ++ past) x ∷ [] in
    (front.0 ++ last, ap (λ (l : List LogEntryTree). l ++ last) front.1 ∙ append_assoc (log_entries_of s past) front.0 last)

first_same : {A : Type 0} (x y : A) (xs ys : List A) → x ∷ xs ≡ y ∷ ys → x ≡ y
first_same x y xs ys e = cc

-- the entry there has the frame that it kept
pub entry_there : (s : Tree) (newer before : Past) (e : LogEntryTree) (rest : List LogEntryTree) → log_entries_of s (newer ++ e.entry ∷ before) ≡ log_entries_of s before ++ e ∷ rest → e ≡ log_entry_of s before e.entry
entry_there s newer before e rest is =
    let front = front_entries s newer (e.entry ∷ before) in
    let whole : log_entries_of s before ++ e ∷ rest ≡ log_entries_of s before ++ (log_entry_of s before e.entry ∷ front.0) =
    sym is ∙ front.1 ∙ append_assoc (log_entries_of s before) (log_entry_of s before e.entry ∷ []) front.0 in
    first_same e (log_entry_of s before e.entry) rest front.0 (append_cancel_left (log_entries_of s before) (e ∷ rest) (log_entry_of s before e.entry ∷ front.0) whole)
