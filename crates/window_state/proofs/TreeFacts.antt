-- What the table of windows tells of the past.
use Rattle.std.proofs.Common.{◌≡◌, ℕ, Bool, true, false, not, cond, eqb, List, [], ◌∷◌, map, length, Option, Some, None, refl, ap, ◌∙◌, sym}
use Rattle.std.specs.Prelude.{◌&&◌, find, option_map, unwrap_or, is_some}
use Rattle.std.specs.List.{list_any}
use Rattle.std.proofs.Math.Dec.{ltb}
use Rattle.std.proofs.lemmas.Bool.{eqb-true, false≢true, true≢false, and_right}
use Rattle.std.proofs.lemmas.List.{length-map}
use Rattle.win_num.specs.declared.message.Hwnd.{Hwnd}
use Rattle.win_rows.specs.declared.row.Unmade.{Unmade}
use Rattle.win_rows.specs.declared.row.Unmade.TheVariants as unmade_as
use Rattle.win_rows.specs.declared.window.Window.{Window as KeptWindow}
use Rattle.win_rows.specs.Windows.{Windows, no_windows}
use Rattle.win_rows.specs.Windows as kept
use Rattle.win_tree.specs.Kin as kept_kin
use Rattle.win_rows.specs.Destruction as kept_steps
use Rattle.user_model.specs.declared.entry.Answer.{Answer}
use Rattle.user_model.specs.declared.entry.Answer.TheVariants as answers
use Rattle.user_model.specs.declared.entry.Setup.{Setup}
use Rattle.user_model.specs.Past.{Past}
use Rattle.user_model.specs.Windows.{Window, find_window, live, window, is_live, thread_of, is_kin, is_below, top_of}
use Rattle.user_model.specs.Destruction.{Step, ended, is_marked, was_given, next_step, destruction, destruction_of}
use Rattle.user_model.specs.Classes.{is_used}
use Rattle.user_model.specs.Refusals.{refuse, invalid_parameter, access_denied}
use Rattle.user_model.specs.ReplyWindows.{step_answer, unmake_reply, unmake_step, child_told, window_told}
use Rattle.user_model.proofs.ListLaws.{all_found}
use Rattle.user_model.proofs.WindowReplies.{IsUnmade}
use Rattle.window_state.specs.Trees.{as_made, HasMarks, IsTreeAt}
use Rattle.window_state.proofs.Bridges.{window_made, live_made, kin_made, below_made, top_made, next_child_made, any_made}
use Rattle.window_state.proofs.Destructions.{as_step, destruction_made, destruction_all, find_left}

-- the table of no past
pub tree_empty : IsTreeAt [] no_windows
tree_empty = record { last = refl; windows = refl; marks = tt; looks = tt }

-- what is found passes
pub found_passes : {X : Type 0} (p : X → Bool) (xs : List X) (x : X) → find p xs ≡ Some x → p x ≡ true
found_passes p [] x e = absurd cc
found_passes {X = X} p (y ∷ xs) x e = pick (λ k. found_passes p xs x k) (p y) refl e
  where
    pick : (find p xs ≡ Some x → p x ≡ true) → (b : Bool) → p y ≡ b → cond b (Some y) (find p xs) ≡ Some x → p x ≡ true
    pick rest true k e = let same : y ≡ x = cc in ap p (sym same) ∙ k
    pick rest false k e = rest e

-- what the table answers for a step, as the machine answers it
abbrev pub as_answer : Unmade → Answer
as_answer (unmade_as.Tell w) = answers.Tell w
as_answer (unmade_as.Last w) = answers.Last w
as_answer unmade_as.Gone = answers.Gone
as_answer unmade_as.NotDoomed = answers.Refused invalid_parameter

-- whether a marked window is another thread's
abbrev pub is_foreign : Past → ℕ → ℕ → Bool
is_foreign past who w = (is_live past w && is_marked past w) && not (eqb (thread_of past w) who)

steps_as : (w : ℕ) (x : KeptWindow) (o : Option kept_steps.Step) → x.number.0 ≡ w → step_answer w (option_map as_step o) ≡ as_answer (elim o as (λ p. Unmade) [ Some step ↦ kept_steps.answer_of step | None ↦ unmade_as.Last x.number ])
steps_as w x (Some (kept_steps.told y)) e = refl
steps_as w x (Some (kept_steps.ended y)) e = refl
steps_as w x None e = ap (λ (n : ℕ). answers.Last (record { 0 = n })) (sym e)

module _ (past : Past) (t : Windows) (at : IsTreeAt past t) where
  -- the window of a number
  pub window_at : (w : ℕ) → window past w ≡ option_map as_made (kept.window_of t.live w)
  window_at w = ap (λ (ws : List Window). find_window ws w) (sym at.windows) ∙ window_made t.live w

  -- whether it is live
  pub is_live_at : (w : ℕ) → is_live past w ≡ kept.is_live t.live w
  is_live_at w = ap (λ (ws : List Window). is_some (find_window ws w)) (sym at.windows) ∙ live_made t.live w

  -- how many are live
  pub length_at : length (live past) ≡ length t.live
  length_at = ap (λ (ws : List Window). length ws) (sym at.windows) ∙ length-map t.live as_made

  -- whether w is of v's kin
  pub is_kin_at : (v w : ℕ) → is_kin (live past) v w ≡ kept_kin.is_kin t.live v w
  is_kin_at v w = ap (λ (ws : List Window). is_kin ws v w) (sym at.windows) ∙ kin_made t.live v w

  -- whether w stands below v
  pub is_below_at : (v w : ℕ) → is_below (live past) v w ≡ kept_kin.is_below t.live v w
  is_below_at v w = ap (λ (ws : List Window). is_below ws v w) (sym at.windows) ∙ below_made t.live v w

  -- the top-level ancestor
  pub top_of_at : (w : Hwnd) → top_of (live past) w.0 ≡ (kept_kin.top_of t.live w).0
  top_of_at w = ap (λ (ws : List Window). top_of ws w.0) (sym at.windows) ∙ top_made t.live w

  -- the next child of a window, or for 0 the next top-level window
  pub next_child_at : (parent v : ℕ) → child_told past parent v ≡ answers.Window (kept.next_child t.live parent v)
  next_child_at parent v =
      ap (λ n. window_told n) (ap (λ (ws : List Window). unwrap_or (option_map (λ (x : Window). x.number) (find (λ x. eqb x.parent parent && ltb v x.number) ws)) 0) (sym at.windows) ∙ next_child_made t.live parent v)

  -- whether a window has the class
  pub is_used_at : (class : ℕ) → is_used past class ≡ kept_kin.has_class t.live class
  is_used_at class = ap (λ (ws : List Window). list_any (λ x. eqb x.class class) ws) (sym at.windows) ∙ any_made (λ x. eqb x.class class) (λ x. eqb x.row.class class) (λ x. refl) t.live

  -- what a window of the table is
  pub found_at : (w : ℕ) (x : KeptWindow) → kept.window_of t.live w ≡ Some x → HasMarks past x × (x.number.0 ≡ w)
  found_at w x e = (all_found (HasMarks past) (λ y. eqb y.number.0 w) t.live x at.marks e, eqb-true x.number.0 w (found_passes (λ y. eqb y.number.0 w) t.live x e))

  -- whether it is live and marked
  pub is_marked_at : (w : ℕ) → kept.is_marked t.live w ≡ (is_live past w && is_marked past w)
  is_marked_at w = pick (kept.window_of t.live w) refl ∙ ap (λ b. b && is_marked past w) (sym (is_live_at w))
    where
      pick : (o : Option KeptWindow) → kept.window_of t.live w ≡ o → unwrap_or (option_map (λ (x : KeptWindow). x.marked) (kept.window_of t.live w)) false ≡ (is_some (kept.window_of t.live w) && is_marked past w)
      pick None e = ap (λ (o : Option KeptWindow). unwrap_or (option_map (λ (x : KeptWindow). x.marked) o) false) e ∙ sym (ap (λ (o : Option KeptWindow). is_some o && is_marked past w) e)
      pick (Some x) e = ap (λ (o : Option KeptWindow). unwrap_or (option_map (λ (x : KeptWindow). x.marked) o) false) e ∙ ((found_at w x e).0.marked ∙ ap (is_marked past) (found_at w x e).1) ∙ sym (ap (λ (o : Option KeptWindow). is_some o && is_marked past w) e)

  -- whether it is live and got its last message
  pub is_ended_at : (w : ℕ) → kept.is_ended t.live w ≡ (is_live past w && was_given past (ended w))
  is_ended_at w = pick (kept.window_of t.live w) refl ∙ ap (λ b. b && was_given past (ended w)) (sym (is_live_at w))
    where
      pick : (o : Option KeptWindow) → kept.window_of t.live w ≡ o → unwrap_or (option_map (λ (x : KeptWindow). x.ended) (kept.window_of t.live w)) false ≡ (is_some (kept.window_of t.live w) && was_given past (ended w))
      pick None e = ap (λ (o : Option KeptWindow). unwrap_or (option_map (λ (x : KeptWindow). x.ended) o) false) e ∙ sym (ap (λ (o : Option KeptWindow). is_some o && was_given past (ended w)) e)
      pick (Some x) e = ap (λ (o : Option KeptWindow). unwrap_or (option_map (λ (x : KeptWindow). x.ended) o) false) e ∙ ((found_at w x e).0.ended ∙ ap (λ n. was_given past (ended n)) (found_at w x e).1) ∙ sym (ap (λ (o : Option KeptWindow). is_some o && was_given past (ended w)) e)

  -- the thread of a window
  pub thread_at : (w : ℕ) (x : KeptWindow) → kept.window_of t.live w ≡ Some x → thread_of past w ≡ x.row.thread.0
  thread_at w x e = ap (λ (o : Option Window). unwrap_or (option_map (λ (y : Window). y.thread) o) 0) (window_at w ∙ ap (option_map as_made) e)

  -- the next step of a destruction
  pub next_step_at : (w : ℕ) (x : KeptWindow) → kept.window_of t.live w ≡ Some x → step_answer w (next_step past (as_made x)) ≡ as_answer (kept_steps.next_step t.live x)
  next_step_at w x e =
      let order : destruction_of (live past) (as_made x) ≡ map as_step (kept_steps.destruction (length t.live) t.live x) =
      ap (λ (ws : List Window). destruction (length ws) ws (as_made x)) (sym at.windows)
      ∙ (ap (λ n. destruction n (map as_made t.live) (as_made x)) (length-map t.live as_made)
      ∙ destruction_made (length t.live) t.live x) in
      ap (λ (l : List Step). step_answer w (find (λ i. not (was_given past i)) l)) order
      ∙ (ap (step_answer w) (find_left past (kept_steps.destruction (length t.live) t.live x) (destruction_all (HasMarks past) t.live at.marks (length t.live) x (found_at w x e).0))
      ∙ steps_as w x (find kept_steps.is_left (kept_steps.destruction (length t.live) t.live x)) (found_at w x e).1)

  reply_of : (who w : ℕ) (x : KeptWindow) → kept.window_of t.live w ≡ Some x → unmake_reply past who w ≡ unmake_step past who w (as_made x)
  reply_of who w x e = ap (λ (o : Option Window). let a : Answer = elim o [ None ↦ answers.Gone | Some y ↦ unmake_step past who w y ] in a) (window_at w ∙ ap (option_map as_made) e)

  unmade_of : (w : ℕ) (x : KeptWindow) → kept.window_of t.live w ≡ Some x → kept_steps.unmade t.live w ≡ cond x.marked (kept_steps.next_step t.live x) unmade_as.NotDoomed
  unmade_of w x e = ap (λ (o : Option KeptWindow). let u : Unmade = elim o [ None ↦ unmade_as.Gone | Some y ↦ cond y.marked (kept_steps.next_step t.live y) unmade_as.NotDoomed ] in u) e

  foreign_of : (who w : ℕ) (x : KeptWindow) → kept.window_of t.live w ≡ Some x → is_foreign past who w ≡ (x.marked && not (eqb x.row.thread.0 who))
  foreign_of who w x e =
      ap (λ b. b && not (eqb (thread_of past w) who)) (ap (λ b. b && is_marked past w) (is_live_at w ∙ ap (λ (o : Option KeptWindow). is_some o) e) ∙ sym ((found_at w x e).0.marked ∙ ap (is_marked past) (found_at w x e).1))
      ∙ ap (λ n. x.marked && not (eqb n who)) (thread_at w x e)

  answered : (who w : ℕ) (x : KeptWindow) → kept.window_of t.live w ≡ Some x → (marked own : Bool) → is_marked past w ≡ marked → eqb x.row.thread.0 who ≡ own → (marked && not own) ≡ false → unmake_step past who w (as_made x) ≡ as_answer (cond marked (kept_steps.next_step t.live x) unmade_as.NotDoomed)
  answered who w x e true true m o f =
      ap (λ b. refuse (not b) invalid_parameter (refuse (not (eqb x.row.thread.0 who)) access_denied (step_answer w (next_step past (as_made x))))) m
      ∙ (ap (λ b. refuse (not b) access_denied (step_answer w (next_step past (as_made x)))) o ∙ next_step_at w x e)
  answered who w x e true false m o f = absurd (true≢false f)
  answered who w x e false own m o f = ap (λ b. refuse (not b) invalid_parameter (refuse (not (eqb x.row.thread.0 who)) access_denied (step_answer w (next_step past (as_made x))))) m

  -- the answer of an unmake is the table's, but for a marked window of another thread
  pub unmake_own : (who w : ℕ) → is_foreign past who w ≡ false → unmake_reply past who w ≡ as_answer (kept_steps.unmade t.live w)
  unmake_own who w f = pick (kept.window_of t.live w) refl
    where
      pick : (o : Option KeptWindow) → kept.window_of t.live w ≡ o → unmake_reply past who w ≡ as_answer (kept_steps.unmade t.live w)
      pick None e =
          ap (λ (o : Option Window). let a : Answer = elim o [ None ↦ answers.Gone | Some y ↦ unmake_step past who w y ] in a) (window_at w ∙ ap (option_map as_made) e)
          ∙ sym (ap (λ (o : Option KeptWindow). as_answer (elim o as (λ p. Unmade) [ None ↦ unmade_as.Gone | Some y ↦ cond y.marked (kept_steps.next_step t.live y) unmade_as.NotDoomed ])) e)
      pick (Some x) e =
          let marked : is_marked past w ≡ x.marked = sym ((found_at w x e).0.marked ∙ ap (is_marked past) (found_at w x e).1) in
          reply_of who w x e
          ∙ (answered who w x e x.marked (eqb x.row.thread.0 who) marked refl (sym (foreign_of who w x e) ∙ f)
          ∙ sym (ap as_answer (unmade_of w x e)))

  foreign_answer : (who w : ℕ) (x : KeptWindow) (marked own : Bool) → is_marked past w ≡ marked → eqb x.row.thread.0 who ≡ own → (marked && not own) ≡ true → unmake_step past who w (as_made x) ≡ answers.Refused access_denied
  foreign_answer who w x true false m o f =
      ap (λ b. refuse (not b) invalid_parameter (refuse (not (eqb x.row.thread.0 who)) access_denied (step_answer w (next_step past (as_made x))))) m
      ∙ ap (λ b. refuse (not b) access_denied (step_answer w (next_step past (as_made x)))) o
  foreign_answer who w x true true m o f = absurd (false≢true f)
  foreign_answer who w x false own m o f = absurd (false≢true f)

  -- a marked window of another thread
  pub unmake_foreign : (who w : ℕ) → is_foreign past who w ≡ true → unmake_reply past who w ≡ answers.Refused access_denied
  unmake_foreign who w f = pick (kept.window_of t.live w) refl
    where
      none : kept.window_of t.live w ≡ None → is_foreign past who w ≡ false
      none e = ap (λ b. (b && is_marked past w) && not (eqb (thread_of past w) who)) (is_live_at w ∙ ap (λ (o : Option KeptWindow). is_some o) e)

      pick : (o : Option KeptWindow) → kept.window_of t.live w ≡ o → unmake_reply past who w ≡ answers.Refused access_denied
      pick None e = absurd (false≢true (sym (none e) ∙ f))
      pick (Some x) e =
          reply_of who w x e
          ∙ foreign_answer who w x x.marked (eqb x.row.thread.0 who) (sym ((found_at w x e).0.marked ∙ ap (is_marked past) (found_at w x e).1)) refl (sym (foreign_of who w x e) ∙ f)

  -- a step that was given is the table's
  pub unmade_is : (setup : Setup) (who w : ℕ) (a : Answer) → IsUnmade setup past who w a → as_answer (kept_steps.unmade t.live w) ≡ a
  unmade_is setup who w a u =
      let of_thread : thread_of past w ≡ (u.x).thread = ap (λ (o : Option Window). unwrap_or (option_map (λ (y : Window). y.thread) o) 0) u.is_window in
      let own : is_foreign past who w ≡ false = ap (λ n. (is_live past w && is_marked past w) && not (eqb n who)) of_thread ∙ (ap (λ b. (is_live past w && is_marked past w) && not b) u.own ∙ and_right _ _ refl) in
      sym (unmake_own who w own)
      ∙ (ap (λ (o : Option Window). let b : Answer = elim o [ None ↦ answers.Gone | Some y ↦ unmake_step past who w y ] in b) u.is_window
      ∙ (ap (λ b. refuse (not b) invalid_parameter (refuse (not (eqb (u.x).thread who)) access_denied (step_answer w (next_step past u.x)))) u.marked
      ∙ (ap (λ b. refuse (not b) access_denied (step_answer w (next_step past u.x))) u.own
      ∙ u.is_step)))
