-- The line of an entry, byte for byte.
use Rattle.std.proofs.Common.{◌≡◌, ℕ, List, ◌++◌, refl, ap, append_assoc, codes, decimal}
use Rattle.serde_json.specs.Data.{string}
use Rattle.serde_json.specs.Written.{compact_text}
use Rattle.serde_json.proofs.OnLiterals.{serde_json_on_literals}
use Rattle.user_model.specs.declared.entry.Entry.{Entry}
use Rattle.script_tree.specs.Tree.{Tree}
use Rattle.log_text.specs.Entries.{call_text, answer_text}
use Rattle.log_json.specs.Objects.{line, entry_object}

regroup : (a x c y d z w : List ℕ) → (a ++ (x ++ (c ++ (y ++ (d ++ z))))) ++ w ≡ a ++ (x ++ (c ++ (y ++ (d ++ (z ++ w)))))
regroup a x c y d z w = simp append_assoc refl

pub entry_line_is : (s : Tree) (e : Entry) → line (entry_object s e) ≡ codes "{\"answer\":" ++ (compact_text (string (answer_text s e.answer)) ++ (codes ",\"call\":" ++ (compact_text (string (call_text s e.call)) ++ (codes ",\"who\":" ++ (decimal e.who.0 ++ codes "}\n")))))
unfolding serde_json_on_literals
entry_line_is s e =
    ap (λ (l : List ℕ). codes "{\"answer\":" ++ l)
    (regroup (compact_text (string (answer_text s e.answer))) (codes ",\"call\":") (compact_text (string (call_text s e.call))) (codes ",\"who\":") (decimal e.who.0) (codes "}") (codes "\n"))
