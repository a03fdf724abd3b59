-- The texts of entries that went on into a sink one after the other.
use Rattle.std.proofs.Common.{◌≡◌, ℕ, ◌+◌, ◌<◌, ◌≤◌, List, [], ◌∷◌, ◌++◌, length, get_or, take, drop, reverse, ap, ◌∙◌, sym, subst, append_assoc, append-nil, take-append-drop}
use Rattle.std.specs.Prelude.{Option}
use Rattle.std.proofs.lemmas.List.{reverse-append, reverse-reverse, take_all, take_more}
use Rattle.user_io.specs.Outside.{AppendsPart}
use Rattle.user_io.proofs.Written.{part_longer}
use Rattle.user_model.specs.declared.entry.Entry.{Entry}
use Rattle.user_model.specs.declared.entry.Setup.{Setup}
use Rattle.user_model.specs.Legal.{IsLawful}
use Rattle.user_model.specs.Past.{Past}
use Rattle.script_tree.specs.Tree.{Tree}
use Rattle.log_text.specs.Ends.{setup_of}
use Rattle.log_text.specs.Entries.{entry_line, entry_text, entries_text}
use Rattle.log_text.specs.Frames.{shown, frame_lines}
use Rattle.log_text.specs.Passing.{Passes}
use Rattle.log_text.proofs.Passed.{both, part_then}

-- the past of the first entries of a history
abbrev pub past_at : List Entry → ℕ → Past
past_at h i = reverse (take i h)

next_past : (h : List Entry) (i : ℕ) (d : Entry) → i < length h → past_at h (i + 1) ≡ get_or h i d ∷ past_at h i
next_past h i d lt = ap reverse (take_more h i d lt) ∙ reverse-append (take i h) (get_or h i d ∷ [])

-- the texts up to an entry, and its own after the past before it
entries_more : (s : Tree) (h : List Entry) (i : ℕ) (d : Entry) → i < length h → entries_text s (past_at h i) ++ entry_text s (past_at h i) (get_or h i d) ≡ entries_text s (past_at h (i + 1))
entries_more s h i d lt = ap (entries_text s) (sym (next_past h i d lt))

-- the texts of a past go on with those of later entries
longer : (s : Tree) (later past : Past) → (rest : List ℕ) × (entries_text s past ++ rest ≡ entries_text s (later ++ past))
longer s [] past = ([], append-nil (entries_text s past))
longer s (e ∷ later) past =
    let more = longer s later past in
    (more.0 ++ entry_text s (later ++ past) e, sym (append_assoc (entries_text s past) more.0 (entry_text s (later ++ past) e)) ∙ ap (λ (l : List ℕ). l ++ entry_text s (later ++ past) e) more.1)

front : (s : Tree) (h : List Entry) (i : ℕ) → (rest : List ℕ) × (entries_text s (past_at h i) ++ rest ≡ entries_text s (reverse h))
front s h i =
    let more = longer s (reverse (drop i h)) (past_at h i) in
    (more.0, more.1 ∙ ap (entries_text s) (sym (reverse-append (take i h) (drop i h)) ∙ ap reverse (take-append-drop i h)))

-- a history around one of its entries
pub around : (h : List Entry) (i : ℕ) (d : Entry) → i < length h → reverse h ≡ reverse (drop (i + 1) h) ++ get_or h i d ∷ past_at h i
around h i d lt =
    sym (sym (reverse-append (take (i + 1) h) (drop (i + 1) h)) ∙ ap reverse (take-append-drop (i + 1) h))
    ∙ ap (λ (p : Past). reverse (drop (i + 1) h) ++ p) (next_past h i d lt)

-- the frame that a machine has of an entry is the one that stands behind it
pub entry_shown : (s : Tree) (setup : Setup) (past : Past) (h : List Entry) (i : ℕ) (d : Entry) (frame : Option (List ℕ)) → setup ≡ setup_of s → IsLawful setup past → h ≡ reverse past → i < length h
    → ((later before : Past) → IsLawful setup past → past ≡ later ++ get_or h i d ∷ before → frame ≡ shown setup before (get_or h i d).answer)
    → entry_line s (get_or h i d) ++ frame_lines s frame ≡ entry_text s (past_at h i) (get_or h i d)
entry_shown s setup past h i d frame same lawful is lt has =
    ap (λ o. entry_line s (get_or h i d) ++ frame_lines s o)
    (has (reverse (drop (i + 1) h)) (past_at h i) lawful (sym (ap reverse is ∙ reverse-reverse past) ∙ around h i d lt)
    ∙ ap (λ x. shown x (past_at h i) (get_or h i d).answer) same)

-- the past behind the last entry is the whole
pub all_past : (h : List Entry) (past : Past) (i : ℕ) → h ≡ reverse past → length h ≤ i → past_at h i ≡ past
all_past h past i is le = ap reverse (take_all i h le ∙ is) ∙ reverse-reverse past

-- one more entry was passed on
pub entry_passed : (a b c : Option (List ℕ)) (x y z : List ℕ) (s : Tree) (h : List Entry) (i : ℕ) (d : Entry) → i < length h → Passes a b x y (entries_text s (past_at h i)) → Passes b c y z (entry_text s (past_at h i) (get_or h i d)) → Passes a c x z (entries_text s (past_at h (i + 1)))
entry_passed a b c x y z s h i d lt p q = subst (λ (l : List ℕ). Passes a c x z l) (entries_more s h i d lt) (both a b c x y z (entries_text s (past_at h i)) (entry_text s (past_at h i) (get_or h i d)) p q)

-- an entry that failed on the way
pub part_of_entries : (a b c : Option (List ℕ)) (x y : List ℕ) (s : Tree) (h : List Entry) (i : ℕ) (d : Entry) → i < length h → Passes a b x y (entries_text s (past_at h i)) → AppendsPart b c (y ++ entry_text s (past_at h i) (get_or h i d)) → AppendsPart a c (x ++ entries_text s (reverse h))
part_of_entries a b c x y s h i d lt p k =
    let up_to : AppendsPart a c (x ++ entries_text s (past_at h (i + 1))) = subst (λ (l : List ℕ). AppendsPart a c (x ++ l)) (entries_more s h i d lt) (part_then a b c x y (entries_text s (past_at h i)) (entry_text s (past_at h i) (get_or h i d)) p k) in
    let rest = front s h (i + 1) in
    subst (AppendsPart a c) (append_assoc x (entries_text s (past_at h (i + 1))) rest.0 ∙ ap (λ (l : List ℕ). x ++ l) rest.1) (part_longer a c (x ++ entries_text s (past_at h (i + 1))) rest.0 up_to)
