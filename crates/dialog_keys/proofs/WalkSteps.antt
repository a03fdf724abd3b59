-- What is kept of a walk stands for the open children with one more.
use Rattle.std.proofs.Common.{◌≡◌, ℕ, Bool, true, false, not, cond, eqb, List, [], ◌∷◌, ◌++◌, Option, Some, None, refl, sym, ap, ◌∙◌, subst, arith}
use Rattle.std.specs.Prelude.{filter}
use Rattle.std.proofs.lemmas.List.{append-nil}
use Rattle.std.proofs.lemmas.List.Elements.{filter-append}
use Rattle.user_model.specs.Past.{or_else}
use Rattle.user_model.specs.Idle.{least_of, least_with}
use Rattle.dialog_keys.specs.declared.key.DialogKey.{DialogKey}
use Rattle.dialog_keys.specs.declared.walk.Walk.{Walk}
use Rattle.dialog_keys.specs.Controls.{greatest_of, greatest_with, foremost, first_with, is_behind, those_behind, next_control}
use Rattle.dialog_keys.specs.Traces.{seen}
use Rattle.dialog_keys.specs.States.{Sums, nearer, farther}

lesser_last : (n w : ℕ) (o : Option ℕ) → least_with n (Some (least_with w o)) ≡ least_with w (Some (least_with n o))
lesser_last n w None = omega arith
lesser_last n w (Some m) = omega arith

greater_last : (n w : ℕ) (o : Option ℕ) → greatest_with n (Some (greatest_with w o)) ≡ greatest_with w (Some (greatest_with n o))
greater_last n w None = omega arith
greater_last n w (Some m) = omega arith

least_last : (ws : List ℕ) (w : ℕ) → least_of (ws ++ w ∷ []) ≡ Some (least_with w (least_of ws))
least_last [] w = refl
least_last (n ∷ ns) w = ap (λ o. Some (least_with n o)) (least_last ns w) ∙ ap (λ l. Some l) (lesser_last n w (least_of ns))

greatest_last : (ws : List ℕ) (w : ℕ) → greatest_of (ws ++ w ∷ []) ≡ Some (greatest_with w (greatest_of ws))
greatest_last [] w = refl
greatest_last (n ∷ ns) w = ap (λ o. Some (greatest_with n o)) (greatest_last ns w) ∙ ap (λ l. Some l) (greater_last n w (greatest_of ns))

foremost_last : (forwards : Bool) (ws : List ℕ) (w : ℕ) → foremost forwards (ws ++ w ∷ []) ≡ Some (first_with forwards w (foremost forwards ws))
foremost_last true ws w = least_last ws w
foremost_last false ws w = greatest_last ws w

foremost_none : (forwards : Bool) → None ≡ foremost forwards []
foremost_none true = refl
foremost_none false = refl

-- the foremost of those that pass, with one more that may
with_last : (forwards : Bool) (test : ℕ → Bool) (ws : List ℕ) (w : ℕ) (b : Bool) → test w ≡ b → cond b (Some (first_with forwards w (foremost forwards (filter test ws)))) (foremost forwards (filter test ws)) ≡ foremost forwards (filter test (ws ++ w ∷ []))
with_last forwards test ws w true h =
    sym (ap (foremost forwards) (filter-append test ws (w ∷ []) ∙ ap (λ b. filter test ws ++ cond b (w ∷ []) []) h) ∙ foremost_last forwards (filter test ws) w)
with_last forwards test ws w false h =
    sym (ap (foremost forwards) (filter-append test ws (w ∷ []) ∙ ap (λ b. filter test ws ++ cond b (w ∷ []) []) h ∙ append-nil (filter test ws)))

turned : {A : Type 0} (b : Bool) (x y : A) → cond b x y ≡ cond (not b) y x
turned true x y = refl
turned false x y = refl

-- a walk from its parts
abbrev pub walk_of : ℕ → ℕ → Bool → ℕ → Option ℕ → Option ℕ → Walk
walk_of dialog focus forwards child near far = record { dialog = dialog; focus = focus; forwards = forwards; child = child; near = near; far = far }

-- before the first child
pub begun_sums : (k : DialogKey) (forwards : Bool) (dialog focus : ℕ) → dialog ≡ k.dialog.0 → focus ≡ k.focus.0 → Sums (walk_of dialog focus forwards 0 None None) k forwards [] 0
begun_sums k forwards dialog focus d f = record { dialog = d; focus = f; direction = refl; child = refl; near = foremost_none forwards; far = foremost_none forwards }

-- at another child
pub moved_sums : (walk : Walk) (child : ℕ) (k : DialogKey) (forwards : Bool) (ws : List ℕ) (v : ℕ) → Sums walk k forwards ws v → Sums (walk_of walk.dialog walk.focus walk.forwards child walk.near walk.far) k forwards ws child
moved_sums walk child k forwards ws v s = record { dialog = s.dialog; focus = s.focus; direction = s.direction; child = refl; near = s.near; far = s.far }

-- where its child is open
pub opened_sums : (walk : Walk) (near far : Option ℕ) (k : DialogKey) (forwards : Bool) (ws : List ℕ) (w : ℕ) → near ≡ nearer walk.forwards walk.focus walk.child walk.near → far ≡ farther walk.forwards walk.focus walk.child walk.far → Sums walk k forwards ws w → Sums (walk_of walk.dialog walk.focus walk.forwards walk.child near far) k forwards (seen ws w true) w
opened_sums walk near far k forwards ws w e g s = record {
  dialog = s.dialog;
  focus = s.focus;
  direction = s.direction;
  child = s.child;
  near = e
      ∙ ap (λ d. nearer d walk.focus walk.child walk.near) s.direction
      ∙ ap (λ f. nearer forwards f walk.child walk.near) s.focus
      ∙ ap (λ c. nearer forwards k.focus.0 c walk.near) s.child
      ∙ ap (nearer forwards k.focus.0 w) s.near
      ∙ with_last forwards (is_behind forwards k.focus.0) ws w (is_behind forwards k.focus.0 w) refl;
  far = g
      ∙ ap (λ d. farther d walk.focus walk.child walk.far) s.direction
      ∙ ap (λ f. farther forwards f walk.child walk.far) s.focus
      ∙ ap (λ c. farther forwards k.focus.0 c walk.far) s.child
      ∙ ap (farther forwards k.focus.0 w) s.far
      ∙ turned (eqb w k.focus.0) _ _
      ∙ with_last forwards (λ x. not (eqb x k.focus.0)) ws w (not (eqb w k.focus.0)) refl;
}

-- whatever is told of the child
pub seen_sums : (walk : Walk) (k : DialogKey) (forwards : Bool) (ws : List ℕ) (w : ℕ) (a b : Bool) → a ≡ b → Sums walk k forwards (seen ws w b) w → Sums walk k forwards (seen ws w a) w
seen_sums walk k forwards ws w a b e s = subst (λ x. Sums walk k forwards (seen ws w x) w) (sym e) s

-- the next control
pub sums_next : (walk : Walk) (k : DialogKey) (forwards : Bool) (ws : List ℕ) (v : ℕ) → Sums walk k forwards ws v → or_else walk.near walk.far ≡ next_control forwards k.focus.0 ws
sums_next walk k forwards ws v s = ap (λ o. or_else o walk.far) s.near ∙ ap (or_else (foremost forwards (those_behind forwards k.focus.0 ws))) s.far
