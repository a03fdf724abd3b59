-- A thread's trace in a past with one more entry.
use Rattle.std.proofs.Common.{◌≡◌, ◌≢◌, ℕ, cond, [], ◌∷◌, ◌++◌, ap, ◌∙◌, eq-eqb}
use Rattle.std.specs.Prelude.{map, reverse}
use Rattle.std.proofs.lemmas.Bool.{ne_eqb}
use Rattle.std.proofs.lemmas.List.{reverse-append}
use Rattle.user_model.specs.declared.entry.Entry.{Entry}
use Rattle.user_model.specs.Past.{Past}
use Rattle.user_model.specs.Places.{mine}
use Rattle.script_tree.specs.Traces.{trace_of, told}

-- its own entry comes last
pub trace_of-own : (past : Past) (e : Entry) (t : ℕ) → e.who.0 ≡ t → trace_of (e ∷ past) t ≡ trace_of past t ++ (e.call, e.answer) ∷ []
trace_of-own past e t h =
    ap (λ b. reverse (map told (cond b (e ∷ mine past t) (mine past t)))) (eq-eqb e.who.0 t h) ∙ reverse-append (told e ∷ []) (map told (mine past t))

-- another's entry is no part of it
pub trace_of-other : (past : Past) (e : Entry) (t : ℕ) → e.who.0 ≢ t → trace_of (e ∷ past) t ≡ trace_of past t
trace_of-other past e t h =
    ap (λ b. reverse (map told (cond b (e ∷ mine past t) (mine past t)))) (ne_eqb e.who.0 t h)
