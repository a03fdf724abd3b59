-- Which frame a snap keeps, and that it stays.
use Rattle.std.proofs.Common.{◌≡◌, ℕ, false, List, [], ◌∷◌, ◌++◌, length, Some, refl, ap, ◌∙◌, sym, inl, inr, append_assoc, append-nil}
use Rattle.std.specs.Prelude.{option_map}
use Rattle.std.proofs.lemmas.Bool.{cases_Bool}
use Rattle.user_model.specs.declared.call.Call.{Call}
use Rattle.user_model.specs.declared.entry.Answer.TheVariants as answers
use Rattle.user_model.specs.declared.entry.Entry.{Entry}
use Rattle.user_model.specs.declared.entry.Setup.{Setup}
use Rattle.user_model.specs.Past.{Past, is_refused, is_refusal}
use Rattle.user_model.specs.Colours.{frame, frame_of, past_at, snaps, snapped}
use Rattle.user_model.specs.Idle.{reply}
use Rattle.user_model.specs.Legal.{IsLawful}
use Rattle.user_model.proofs.PastLaws.{first_way}
use Rattle.user_model.proofs.ColourLaws.{snapped-next}
use Rattle.user_model.proofs.ReplyLaws.{by_row}
use Rattle.user_model.proofs.AnswerFacts.{IsSnap}
use Rattle.user_model.proofs.RowFacts.{says_of}

-- the answer of a snap comes for that call alone, and has the next number
pub snap_told : (setup : Setup) (past : Past) (who : ℕ) (call : Call) (k : ℕ) → reply setup past who call ≡ answers.Snap k → IsSnap past call k
snap_told setup past who call k e = says_of setup past who call (answers.Snap k) (by_row setup past who call (answers.Snap k) e refl).is_row

-- the pasts of frames stay, and later ones come behind them
pub snapped_longer : (later past : Past) → (rest : List Past) × (snapped (later ++ past) ≡ snapped past ++ rest)
snapped_longer [] past = ([], sym (append-nil (snapped past)))
snapped_longer (e ∷ later) past =
    let more = snapped_longer later past in
    elim (cases_Bool (is_refused e)) as (λ _. (rest : List Past) × (snapped (e ∷ (later ++ past)) ≡ snapped past ++ rest)) [
      | inl hit ↦ (more.0, first_way (is_refused e) (snapped (later ++ past)) (snapped (later ++ past) ++ snaps e.call (later ++ past)) hit ∙ more.1)
      | inr miss ↦ (more.0 ++ snaps e.call (later ++ past), snapped-next e (later ++ past) miss ∙ ap (λ l. l ++ snaps e.call (later ++ past)) more.1 ∙ append_assoc (snapped past) more.0 (snaps e.call (later ++ past)))
    ]

-- the past behind so many others
at_behind : (before : List Past) (past : Past) (rest : List Past) → past_at (before ++ past ∷ rest) (length before) ≡ Some past
at_behind [] past rest = refl
at_behind (p ∷ before) past rest = at_behind before past rest

answered : (e : Entry) (k : ℕ) → e.answer ≡ answers.Snap k → is_refused e ≡ false
answered e k h = ap is_refusal h

-- the frame of the number that an entry of a lawful past was answered is that of the past before it, however the past went on
pub frame_kept : (setup : Setup) (later : Past) (e : Entry) (past : Past) (k : ℕ) → IsLawful setup (e ∷ past) → e.answer ≡ answers.Snap k → frame_of setup (later ++ e ∷ past) k ≡ Some (frame setup past)
frame_kept setup later e past k lawful h =
    let told = snap_told setup past e.who.0 e.call k (sym lawful.1 ∙ h) in
    let here : snapped (e ∷ past) ≡ snapped past ++ past ∷ [] = snapped-next e past (answered e k h) ∙ ap (λ c. snapped past ++ snaps c past) told.is_call in
    let more = snapped_longer later (e ∷ past) in
    let all : snapped (later ++ e ∷ past) ≡ snapped past ++ past ∷ more.0 = more.1 ∙ ap (λ l. l ++ more.0) here ∙ append_assoc (snapped past) (past ∷ []) more.0 in
    ap (frame_of setup (later ++ e ∷ past)) told.is_next
    ∙ ap (λ l. option_map (frame setup) (past_at l (length (snapped past)))) all
    ∙ ap (option_map (frame setup)) (at_behind (snapped past) past more.0)
