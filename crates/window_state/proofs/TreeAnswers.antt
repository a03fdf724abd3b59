-- Answers that the table of windows gives.
use Rattle.std.proofs.Common.{◌≡◌, ℕ, ◌+◌, ◌^◌, ◌<◌, ◌≤◌, true, cond, eqb, List, [], ◌∷◌, map, length, Option, Some, None, refl, ap, ◌∙◌, sym, arith}
use Rattle.std.specs.Prelude.{◌&&◌, find, option_map, unwrap_or, is_some}
use Rattle.std.specs.List.{AllByRecursion}
use Rattle.std.proofs.Math.Dec.{ltb}
use Rattle.std.proofs.lemmas.Bool.{le-ltb, false≢true, and_right}
use Rattle.std.proofs.lemmas.List.{length-map}
use Rattle.win_num.specs.declared.message.Hwnd.{Hwnd}
use Rattle.win_rows.specs.declared.row.Unmade.{Unmade}
use Rattle.win_rows.specs.declared.row.Unmade.TheVariants as unmade_as
use Rattle.win_rows.specs.declared.window.Window.{Window as KeptWindow}
use Rattle.win_rows.specs.Windows.{Windows, number_of}
use Rattle.win_rows.specs.Windows as kept
use Rattle.win_rows.specs.Destruction as kept_steps
use Rattle.user_model.specs.declared.entry.Answer.{Answer}
use Rattle.user_model.specs.declared.entry.Answer.TheVariants as answers
use Rattle.user_model.specs.declared.entry.Setup.{Setup}
use Rattle.user_model.specs.Past.{Past}
use Rattle.user_model.specs.Windows.{Window, live, window, is_live, up, windows_made}
use Rattle.user_model.specs.Destruction.{is_marked, next_step}
use Rattle.user_model.specs.Legal.{IsLawful}
use Rattle.user_model.specs.ReplyWindows.{next_window, child_told, window_told, step_answer}
use Rattle.user_model.proofs.ListLaws.{all_weaker}
use Rattle.user_model.proofs.Forests.{IsBetween, all_between}
use Rattle.user_model.proofs.LiveWindows.{sound}
use Rattle.user_model.proofs.WindowFacts.{made_bounded}
use Rattle.window_state.specs.Trees.{as_made, IsTreeAt}
use Rattle.window_state.specs.Steps.{destruction_answer, told_of, up_of}
use Rattle.window_state.proofs.Bridges.{up_made}
use Rattle.window_state.proofs.TreeFacts.{as_answer, window_at, is_live_at, length_at, next_step_at, found_at}

up_some : (o : Option KeptWindow) → option_map up (option_map as_made o) ≡ option_map (λ (x : KeptWindow). (up_of x.row).0) o
up_some None = refl
up_some (Some x) = ap (λ (n : ℕ). let p : Option ℕ = Some n in p) (up_made x)

told_same : (x : KeptWindow) (o : Option kept_steps.Step) → told_of (elim o as (λ p. Unmade) [ Some step ↦ kept_steps.answer_of step | None ↦ unmade_as.Last x.number ]) ≡ as_answer (elim o as (λ p. Unmade) [ Some step ↦ kept_steps.answer_of step | None ↦ unmade_as.Last x.number ])
told_same x (Some (kept_steps.told y)) = refl
told_same x (Some (kept_steps.ended y)) = refl
told_same x None = refl

none_over : (parent w : ℕ) (ws : List Window) → AllByRecursion (λ x. x.number ≤ w) ws → find (λ x. eqb x.parent parent && ltb w x.number) ws ≡ None
none_over parent w [] h = refl
none_over parent w (x ∷ ws) h = ap (λ b. cond b (Some x) (find (λ x. eqb x.parent parent && ltb w x.number) ws)) (and_right (eqb x.parent parent) (ltb w x.number) (le-ltb w x.number h.0)) ∙ none_over parent w ws h.1

-- no window is above a number that none reaches
pub next_child_great : (setup : Setup) (past : Past) (parent w : ℕ) → IsLawful setup past → 4294967296 ≤ w → child_told past parent w ≡ answers.Window (record { 0 = 0 })
next_child_great setup past parent w lawful great =
    let few = made_bounded setup past lawful in
    ap (λ (o : Option Window). window_told (unwrap_or (option_map (λ (x : Window). x.number) o) 0))
    (none_over parent w (live past) (all_weaker (IsBetween 15 (15 + length (windows_made past))) (λ x. x.number ≤ w) (λ x b. (let le = b.within in omega (arith, le, few, great))) (live past) (all_between 15 (15 + length (windows_made past)) (live past) (sound setup past lawful).rising)))

module _ (past : Past) (t : Windows) (at : IsTreeAt past t) where
  -- what stands above a window, or owns it
  pub up_at : (w : ℕ) → option_map up (window past w) ≡ option_map (λ (x : KeptWindow). (up_of x.row).0) (kept.window_of t.live w)
  up_at w = ap (option_map up) (window_at past t at w) ∙ up_some (kept.window_of t.live w)

  -- how many numbers the table lists
  pub window_count_at : length (map number_of t.live) ≡ length (live past)
  window_count_at = length-map t.live number_of ∙ sym (length_at past t at)

  -- the number of the next window
  pub next_window_at : next_window past ≡ record { 0 = t.last + 1 }
  next_window_at = let last = at.last in ap (λ (n : ℕ). let w : Hwnd = record { 0 = n } in w) (omega (arith, last))

  -- which fits in 32 bits
  pub last_small : (setup : Setup) → IsLawful setup past → t.last + 1 < 2 ^ 32
  last_small setup lawful = let last = at.last in let few = made_bounded setup past lawful in omega (arith, last, few)

  -- the next step of the destruction of a marked window
  pub destruction_at : (w : ℕ) → is_live past w ≡ true → is_marked past w ≡ true → told_of (kept_steps.unmade t.live w) ≡ destruction_answer past w
  destruction_at w lives marked = pick (kept.window_of t.live w) refl
    where
      pick : (o : Option KeptWindow) → kept.window_of t.live w ≡ o → told_of (kept_steps.unmade t.live w) ≡ destruction_answer past w
      pick None e = absurd (false≢true (sym (is_live_at past t at w ∙ ap (λ (o : Option KeptWindow). is_some o) e) ∙ lives))
      pick (Some x) e =
          let found = found_at past t at w x e in
          let so : x.marked ≡ true = found.0.marked ∙ (ap (is_marked past) found.1 ∙ marked) in
          ap (λ (o : Option KeptWindow). told_of (elim o as (λ p. Unmade) [ None ↦ unmade_as.Gone | Some y ↦ cond y.marked (kept_steps.next_step t.live y) unmade_as.NotDoomed ])) e
          ∙ (ap (λ b. told_of (cond b (kept_steps.next_step t.live x) unmade_as.NotDoomed)) so
          ∙ (told_same x (find kept_steps.is_left (kept_steps.destruction (length t.live) t.live x))
          ∙ (sym (next_step_at past t at w x e)
          ∙ sym (ap (λ (o : Option Window). let a : Answer = elim o [ None ↦ answers.Gone | Some y ↦ step_answer w (next_step past y) ] in a) (window_at past t at w ∙ ap (option_map as_made) e)))))
