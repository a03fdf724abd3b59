-- Runs that read the same text write the same.
use Rattle.std.proofs.Common.{◌≡◌, ℕ, List, ◌++◌, Option, Some, None, refl, sym, ap, ◌∙◌, append-nil}
use Rattle.std.specs.Io.KnownBytes.{Consumes, IsAtEnd}
use Rattle.user_model.specs.Past.{Past}
use Rattle.script_tree.specs.Tree.{Tree}
use Rattle.script_text.specs.Limits.{IsScript}
use Rattle.script_text.specs.Spelling.{spelling}
use Rattle.script_text.proofs.PartsAgain.{one_tree}
use Rattle.log_text.specs.declared.end.End.{End}
use Rattle.log_text.specs.declared.end.End.TheVariants.{Done, Stuck, Spent, Cut}
use Rattle.log_text.specs.Ends.{end_of}
use Rattle.user_pool.specs.Runs.{IsListed}
use Rattle.user_app.specs.declared.request.LogForm.{LogForm}
use Rattle.user_app.specs.declared.request.LogForm.TheVariants.{Plain, Json}
use Rattle.user_app.specs.Histories.{history_text}
use Rattle.user_app.specs.Outcomes.{Logged, RunEnds, Ran}
use Rattle.user_app.specs.Statuses.{status_of}
use Rattle.user_app.proofs.SameRuns.{SameMoves, SameRules, same_rules, same_run}
use Rattle.user_app.proofs.SameLogs.{same_log, same_end}
use Rattle.user_app.proofs.SameJson.{same_json}

-- two trees of one text say the same
pub one_text : (s t : Tree) → IsScript s → IsScript t → spelling s ≡ spelling t → SameRules s t
one_text s t h k e = same_rules s t (one_tree s t h k e)

-- what was read to its end is the text of the script
read_whole : (text bytes : List ℕ) (left : Option (List ℕ)) → Consumes (Some text) left bytes → IsAtEnd left → text ≡ bytes
read_whole text bytes None h e = absurd h
read_whole text bytes (Some rest) h e = h ∙ ap (λ (l : List ℕ). bytes ++ l) e ∙ append-nil bytes

-- the end that a status tells
abbrev told : End → End
told Done = Done
told Stuck = Stuck
told Spent = Spent
told Cut = Spent

same_status : (x : End) → status_of x ≡ status_of (told x)
same_status Done = refl
same_status Stuck = refl
same_status Spent = refl
same_status Cut = refl

logged : (form : LogForm) (s : Tree) (held new : Option (List ℕ)) (f g : ℕ) (x : End) → RunEnds IsListed form s held new f g (status_of x) → Logged IsListed form s held new (told x)
logged form s held new f g Done r = r
logged form s held new f g Stuck r = r
logged form s held new f g Spent r = r
logged form s held new f g Cut r = r

-- the text of a past, in either form
pub same_text : (form : LogForm) (s t : Tree) → SameMoves s t → (past : Past) → history_text form s past ≡ history_text form t past
same_text Plain s t h past = same_log s t h past
same_text Json s t h past = same_json s t h past

same_logged : (form : LogForm) (s t : Tree) (held a b : List ℕ) (x y : End) → SameRules s t → Logged IsListed form s (Some held) (Some a) x → Logged IsListed form t (Some held) (Some b) y → (a ≡ b) × (x ≡ y)
same_logged form s t held a b x y h p q =
    let runs : p.history ≡ q.history = same_run s t h p.history q.history p.run q.run in (
      p.written ∙ ap (λ (l : List ℕ). held ++ l) (same_text form s t h.moves p.history ∙ ap (λ (c : Past). history_text form t c) runs) ∙ sym q.written,
      sym p.ended ∙ same_end s t h.moves p.history ∙ ap (λ (c : Past). end_of t c) runs ∙ q.ended,
    )

pub same_output : (form : LogForm) (text held a b : List ℕ) (l m : Option (List ℕ)) (f f' g g' : ℕ) (x y : End)
    → Ran IsListed form (Some text) l (Some held) (Some a) f f' (status_of x) → Ran IsListed form (Some text) m (Some held) (Some b) g g' (status_of y) → (a ≡ b) × (status_of x ≡ status_of y)
same_output form text held a b l m f f' g g' x y p q =
    let one : text ≡ spelling p.script = read_whole text (spelling p.script) l p.input p.read_out in
    let other : text ≡ spelling q.script = read_whole text (spelling q.script) m q.input q.read_out in
    let h : SameRules p.script q.script = one_text p.script q.script p.is_script q.is_script (sym one ∙ other) in
    let r = same_logged form p.script q.script held a b (told x) (told y) h (logged form p.script (Some held) (Some a) f f' x p.ends) (logged form q.script (Some held) (Some b) g g' y q.ends) in
    (r.0, same_status x ∙ ap (λ (z : End). status_of z) r.1 ∙ sym (same_status y))
