-- What an entry does to the table of windows is what it does to the live windows.
use Rattle.std.proofs.Common.{◌≡◌, ℕ, Bool, true, false, eqb, ◌∷◌, refl, ap, sym, subst}
use Rattle.std.proofs.lemmas.Bool.{true≢false}
use Rattle.win_num.specs.PixelSets.{box}
use Rattle.win_num.specs.declared.message.Hwnd.{Hwnd}
use Rattle.win_num.specs.declared.message.Thread.{Thread}
use Rattle.win_rows.specs.declared.row.Unmade.{Unmade}
use Rattle.win_rows.specs.declared.row.Unmade.TheVariants as unmade_as
use Rattle.win_rows.specs.Windows.{Windows}
use Rattle.win_rows.specs.Destruction.{unmade, given}
use Rattle.user_model.specs.declared.call.Call.{Call}
use Rattle.user_model.specs.declared.call.Call.TheVariants as calls
use Rattle.user_model.specs.declared.entry.Answer.{Answer}
use Rattle.user_model.specs.declared.entry.Answer.TheVariants as answers
use Rattle.user_model.specs.declared.entry.Entry.{Entry}
use Rattle.user_model.specs.declared.entry.Setup.{Setup}
use Rattle.user_model.specs.Past.{Past}
use Rattle.user_model.specs.Idle.{reply}
use Rattle.user_model.specs.Legal.{IsLawful}
use Rattle.user_model.specs.Machines.{entry_of}
use Rattle.user_model.proofs.ReplyLaws.{by_row}
use Rattle.user_model.proofs.DeliveryReplies.{end_told}
use Rattle.user_model.proofs.WindowReplies.{IsUnmade}
use Rattle.user_model.proofs.StepReplies.{step_told}
use Rattle.window_state.specs.Trees.{IsTreeAt}
use Rattle.user_model.specs.Looks.{placed, shown_look, enabled_look}
use Rattle.window_state.specs.Effects.{IsAddedBy, IsAffected, IsRelooked, affected_tree}
use Rattle.window_state.proofs.LookSteps.{tree_place, tree_show, tree_enable}
use Rattle.window_state.proofs.TreeFacts.{as_answer, unmade_is}
use Rattle.window_state.proofs.TreeLaws.{tree_rest, tree_doom, tree_drop, tree_tell, tree_last, tree_end}
use Rattle.window_state.proofs.NewWindows.{tree_new}

-- the table after an answer to a call of who
abbrev Follows : Past → Thread → Windows → Answer → Call → Type 0
Follows past who mid a call = IsTreeAt (entry_of who call a ∷ past) (affected_tree who.0 a call mid)

tell_is : (u : Unmade) (v : Hwnd) → as_answer u ≡ answers.Tell v → u ≡ unmade_as.Tell v
tell_is (unmade_as.Tell w) v e = let same : w ≡ v = cc in ap (λ (h : Hwnd). unmade_as.Tell h) same
tell_is (unmade_as.Last w) v e = absurd cc
tell_is unmade_as.Gone v e = absurd cc
tell_is unmade_as.NotDoomed v e = absurd cc

last_is : (u : Unmade) (v : Hwnd) → as_answer u ≡ answers.Last v → u ≡ unmade_as.Last v
last_is (unmade_as.Tell w) v e = absurd cc
last_is (unmade_as.Last w) v e = let same : w ≡ v = cc in ap (λ (h : Hwnd). unmade_as.Last h) same
last_is unmade_as.Gone v e = absurd cc
last_is unmade_as.NotDoomed v e = absurd cc

told : (setup : Setup) (past : Past) (t : Windows) (who : Thread) (w : ℕ) (v : Hwnd) → IsTreeAt past t → IsUnmade setup past who.0 w (answers.Tell v) → Follows past who t (answers.Tell v) (calls.Unmake w)
told setup past t who w v at u =
    let same : unmade t.live w ≡ unmade_as.Tell v = tell_is (unmade t.live w) v (unmade_is past t at setup who.0 w (answers.Tell v) u) in
    subst (λ (s : Unmade). IsTreeAt (entry_of who (calls.Unmake w) (answers.Tell v) ∷ past) (record t { live = given s t.live })) (sym same) (tree_tell past t who w v at)

ended : (setup : Setup) (past : Past) (t : Windows) (who : Thread) (w : ℕ) (v : Hwnd) → IsTreeAt past t → IsUnmade setup past who.0 w (answers.Last v) → Follows past who t (answers.Last v) (calls.Unmake w)
ended setup past t who w v at u =
    let same : unmade t.live w ≡ unmade_as.Last v = last_is (unmade t.live w) v (unmade_is past t at setup who.0 w (answers.Last v) u) in
    subst (λ (s : Unmade). IsTreeAt (entry_of who (calls.Unmake w) (answers.Last v) ∷ past) (record t { live = given s t.live })) (sym same) (tree_last past t who w v at)

-- whether an answered call makes another look of a window
abbrev is_looking : Answer → Call → Bool
is_looking (answers.Value n) (calls.Place w after l top r b flags) = true
is_looking (answers.Value n) (calls.Show w on) = true
is_looking (answers.Value n) (calls.Enable w on) = true
is_looking _ _ = false

follows : (setup : Setup) (past : Past) (t mid : Windows) (who : Thread) (a : Answer) (call : Call) → IsLawful setup past → IsTreeAt past t → a ≡ reply setup past who.0 call → IsAddedBy who.0 a call t mid → is_looking a call ≡ false → Follows past who mid a call
follows setup past t mid who (answers.Tell v) call lawful at right grown keeps =
    let by = step_told setup past who.0 call (answers.Tell v) (sym right) refl in
    subst (λ (m : Windows). Follows past who m (answers.Tell v) call) (sym grown)
    (subst (λ (c : Call). Follows past who t (answers.Tell v) c) (sym by.1) (told setup past t who by.0 v at by.2))
follows setup past t mid who (answers.Last v) call lawful at right grown keeps =
    let by = step_told setup past who.0 call (answers.Last v) (sym right) refl in
    subst (λ (m : Windows). Follows past who m (answers.Last v) call) (sym grown)
    (subst (λ (c : Call). Follows past who t (answers.Last v) c) (sym by.1) (ended setup past t who by.0 v at by.2))
follows setup past t mid who answers.Ended call lawful at right grown keeps =
    let is_end : call ≡ calls.EndThread = end_told setup past who.0 call (by_row setup past who.0 call answers.Ended (sym right) refl).is_row in
    subst (λ (m : Windows). Follows past who m answers.Ended call) (sym grown)
    (subst (λ (c : Call). Follows past who t answers.Ended c) (sym is_end) (tree_end past t who at))
follows setup past t mid who (answers.Window w) (calls.NewWindow name title parent style ex l top r b) lawful at right grown keeps =
    subst (IsTreeAt (entry_of who (calls.NewWindow name title parent style ex l top r b) (answers.Window w) ∷ past)) (sym grown.3)
    (tree_new setup past t who name title parent style ex l top r b w grown.0 lawful at (sym right) grown.1 grown.2)
follows setup past t mid who answers.Okay (calls.Doom v) lawful at right grown keeps =
    subst (λ (m : Windows). Follows past who m answers.Okay (calls.Doom v)) (sym grown) (tree_doom past t who v at)
follows setup past t mid who answers.Okay (calls.Drop v) lawful at right grown keeps =
    subst (λ (m : Windows). Follows past who m answers.Okay (calls.Drop v)) (sym grown) (tree_drop past t who v at)
follows setup past t mid who (answers.Window w) call lawful at right grown keeps =
    subst (IsTreeAt (entry_of who call (answers.Window w) ∷ past)) (sym grown) (tree_rest setup past (entry_of who call (answers.Window w)) t at right refl)
follows setup past t mid who answers.Okay call lawful at right grown keeps =
    subst (IsTreeAt (entry_of who call answers.Okay ∷ past)) (sym grown) (tree_rest setup past (entry_of who call answers.Okay) t at right refl)
follows setup past t mid who (answers.Value n) (calls.Place w after l top r b flags) lawful at right grown keeps = absurd (true≢false keeps)
follows setup past t mid who (answers.Value n) (calls.Show w on) lawful at right grown keeps = absurd (true≢false keeps)
follows setup past t mid who (answers.Value n) (calls.Enable w on) lawful at right grown keeps = absurd (true≢false keeps)
follows setup past t mid who a call lawful at right grown keeps =
    subst (IsTreeAt (entry_of who call a ∷ past)) (sym grown) (tree_rest setup past (entry_of who call a) t at right refl)

affected : (setup : Setup) (past : Past) (t mid new : Windows) (who : Thread) (a : Answer) (call : Call) → IsLawful setup past → IsTreeAt past t → a ≡ reply setup past who.0 call → IsAddedBy who.0 a call t mid → IsAffected who.0 a call mid new → IsTreeAt (entry_of who call a ∷ past) new
affected setup past t mid new who (answers.Value n) (calls.Place w after l top r b flags) lawful at right grown is =
    tree_place setup past t new who w after l top r b flags n at (sym right) (subst (λ (m : Windows). IsRelooked w (placed flags after (box l top r b)) m new) grown is)
affected setup past t mid new who (answers.Value n) (calls.Show w on) lawful at right grown is =
    tree_show past t new who w on n at (subst (λ (m : Windows). IsRelooked w (shown_look (eqb on 1)) m new) grown is)
affected setup past t mid new who (answers.Value n) (calls.Enable w on) lawful at right grown is =
    tree_enable past t new who w on n at (subst (λ (m : Windows). IsRelooked w (enabled_look (eqb on 1)) m new) grown is)
affected setup past t mid new who (answers.Value n) call lawful at right grown is =
    subst (IsTreeAt (entry_of who call (answers.Value n) ∷ past)) (sym is) (follows setup past t mid who (answers.Value n) call lawful at right grown refl)
affected setup past t mid new who a call lawful at right grown is =
    subst (IsTreeAt (entry_of who call a ∷ past)) (sym is) (follows setup past t mid who a call lawful at right grown refl)

-- the table that an entry leaves is the table of the past with the entry
pub tree_after : (setup : Setup) (past : Past) (e : Entry) (t mid new : Windows) → IsLawful setup past → IsTreeAt past t → e.answer ≡ reply setup past e.who.0 e.call → IsAddedBy e.who.0 e.answer e.call t mid → IsAffected e.who.0 e.answer e.call mid new → IsTreeAt (e ∷ past) new
tree_after setup past e t mid new lawful at right grown is = affected setup past t mid new e.who e.answer e.call lawful at right grown is
