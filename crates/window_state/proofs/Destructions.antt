-- The order of destruction over the table, and over the windows that it stands for.
use Rattle.std.proofs.Common.{◌≡◌, ℕ, zero, suc, Bool, true, false, not, cond, eqb, List, [], ◌∷◌, ◌++◌, map, Some, refl, ap, ◌∙◌, sym}
use Rattle.std.specs.Prelude.{find, option_map}
use Rattle.std.specs.List.{AllByRecursion, flat_map}
use Rattle.std.proofs.lemmas.List.{map-append}
use Rattle.win_rows.specs.declared.window.Window.{Window as KeptWindow}
use Rattle.win_rows.specs.Destruction as kept
use Rattle.user_model.specs.Past.{Past}
use Rattle.user_model.specs.Windows.{Window}
use Rattle.user_model.specs.Destruction.{Step, told, ended, told_step, ended_step, owned_by, children_of, preorder, postorder, destruction, was_given}
use Rattle.user_model.proofs.ListLaws.{all_append, all_filter}
use Rattle.user_model.proofs.Steps.{all_flat_map, all_map}
use Rattle.window_state.specs.Trees.{as_made, HasMarks}
use Rattle.window_state.proofs.Bridges.{filter_made}

-- a step, as the definitions name it
abbrev pub as_step : kept.Step → Step
as_step (kept.told x) = told x.number.0
as_step (kept.ended x) = ended x.number.0

flat_made : {X : Type 0} (f : Window → List X) (g : KeptWindow → List X) → ((x : KeptWindow) → f (as_made x) ≡ g x) → (ws : List KeptWindow) → flat_map f (map as_made ws) ≡ flat_map g ws
flat_made f g h [] = refl
flat_made f g h (x ∷ ws) = ap (λ l. l ++ flat_map f (map as_made ws)) (h x) ∙ ap (λ l. g x ++ l) (flat_made f g h ws)

map_flat : {X Y : Type 0} (v : X → Y) (g : KeptWindow → List X) (ws : List KeptWindow) → flat_map (λ x. map v (g x)) ws ≡ map v (flat_map g ws)
map_flat v g [] = refl
map_flat v g (x ∷ ws) = ap (λ l. map v (g x) ++ l) (map_flat v g ws) ∙ sym (map-append v (g x) (flat_map g ws))

-- the windows that x owns
pub owned_made : (ws : List KeptWindow) (x : KeptWindow) → owned_by (map as_made ws) (as_made x) ≡ map as_made (kept.owned_by ws x)
owned_made ws x = filter_made (λ y. eqb y.owner x.number.0) (λ y. eqb y.row.owner.0 x.number.0) (λ y. refl) ws

-- the children of x
pub children_made : (ws : List KeptWindow) (x : KeptWindow) → children_of (map as_made ws) (as_made x) ≡ map as_made (kept.children_of ws x)
children_made ws x = filter_made (λ y. eqb y.parent x.number.0) (λ y. eqb y.row.parent.0 x.number.0) (λ y. refl) ws

-- a walk over the windows below
below_all : (f : Window → List Window) (g : KeptWindow → List KeptWindow) → ((y : KeptWindow) → f (as_made y) ≡ map as_made (g y)) → (ws : List KeptWindow) (x : KeptWindow) → flat_map f (children_of (map as_made ws) (as_made x)) ≡ map as_made (flat_map g (kept.children_of ws x))
below_all f g h ws x =
    ap (flat_map f) (children_made ws x)
    ∙ (flat_made f (λ y. map as_made (g y)) h (kept.children_of ws x)
    ∙ map_flat as_made g (kept.children_of ws x))

pub preorder_made : (n : ℕ) (ws : List KeptWindow) (x : KeptWindow) → preorder n (map as_made ws) (as_made x) ≡ map as_made (kept.preorder n ws x)
preorder_made zero ws x = refl
preorder_made (suc n) ws x = ap (λ (l : List Window). as_made x ∷ l) (below_all (preorder n (map as_made ws)) (kept.preorder n ws) (λ y. preorder_made n ws y) ws x)

pub postorder_made : (n : ℕ) (ws : List KeptWindow) (x : KeptWindow) → postorder n (map as_made ws) (as_made x) ≡ map as_made (kept.postorder n ws x)
postorder_made zero ws x = refl
postorder_made (suc n) ws x =
    ap (λ (l : List Window). l ++ as_made x ∷ []) (below_all (postorder n (map as_made ws)) (kept.postorder n ws) (λ y. postorder_made n ws y) ws x)
    ∙ sym (map-append as_made (flat_map (kept.postorder n ws) (kept.children_of ws x)) (x ∷ []))

steps_made : (s : Window → Step) (k : KeptWindow → kept.Step) → ((x : KeptWindow) → s (as_made x) ≡ as_step (k x)) → (ws : List KeptWindow) → map s (map as_made ws) ≡ map as_step (map k ws)
steps_made s k h [] = refl
steps_made s k h (x ∷ ws) = ap (λ i. i ∷ map s (map as_made ws)) (h x) ∙ ap (λ (l : List Step). as_step (k x) ∷ l) (steps_made s k h ws)

-- the order of destruction
pub destruction_made : (n : ℕ) (ws : List KeptWindow) (x : KeptWindow) → destruction n (map as_made ws) (as_made x) ≡ map as_step (kept.destruction n ws x)
destruction_made zero ws x = refl
destruction_made (suc n) ws x =
    let owned : flat_map (destruction n (map as_made ws)) (owned_by (map as_made ws) (as_made x)) ≡ map as_step (flat_map (kept.destruction n ws) (kept.owned_by ws x)) =
    ap (flat_map (destruction n (map as_made ws))) (owned_made ws x)
    ∙ (flat_made (destruction n (map as_made ws)) (λ y. map as_step (kept.destruction n ws y)) (λ y. destruction_made n ws y) (kept.owned_by ws x)
    ∙ map_flat as_step (kept.destruction n ws) (kept.owned_by ws x)) in
    let tells : map told_step (preorder (suc n) (map as_made ws) (as_made x)) ≡ map as_step (map kept.told (kept.preorder (suc n) ws x)) =
    ap (map told_step) (preorder_made (suc n) ws x) ∙ steps_made told_step kept.told (λ y. refl) (kept.preorder (suc n) ws x) in
    let ends : map ended_step (postorder (suc n) (map as_made ws) (as_made x)) ≡ map as_step (map kept.ended (kept.postorder (suc n) ws x)) =
    ap (map ended_step) (postorder_made (suc n) ws x) ∙ steps_made ended_step kept.ended (λ y. refl) (kept.postorder (suc n) ws x) in
    ap (λ (l : List Step). l ++ (map told_step (preorder (suc n) (map as_made ws) (as_made x)) ++ map ended_step (postorder (suc n) (map as_made ws) (as_made x)))) owned
    ∙ (ap (λ (l : List Step). map as_step (flat_map (kept.destruction n ws) (kept.owned_by ws x)) ++ (l ++ map ended_step (postorder (suc n) (map as_made ws) (as_made x)))) tells
    ∙ (ap (λ (l : List Step). map as_step (flat_map (kept.destruction n ws) (kept.owned_by ws x)) ++ (map as_step (map kept.told (kept.preorder (suc n) ws x)) ++ l)) ends
    ∙ (ap (λ (l : List Step). map as_step (flat_map (kept.destruction n ws) (kept.owned_by ws x)) ++ l) (sym (map-append as_step (map kept.told (kept.preorder (suc n) ws x)) (map kept.ended (kept.postorder (suc n) ws x))))
    ∙ sym (map-append as_step (flat_map (kept.destruction n ws) (kept.owned_by ws x)) (map kept.told (kept.preorder (suc n) ws x) ++ map kept.ended (kept.postorder (suc n) ws x))))))

-- what a step's window has
abbrev pub StepHas : (KeptWindow → Type 0) → kept.Step → Type 0
StepHas P (kept.told x) = P x
StepHas P (kept.ended x) = P x

module _ (P : KeptWindow → Type 0) (ws : List KeptWindow) (h : AllByRecursion P ws) where
  preorder_all : (n : ℕ) (x : KeptWindow) → P x → AllByRecursion P (kept.preorder n ws x)
  preorder_all zero x p = tt
  preorder_all (suc n) x p = (p, all_flat_map P P (kept.preorder n ws) (λ y q. preorder_all n y q) (kept.children_of ws x) (all_filter P _ ws h))

  postorder_all : (n : ℕ) (x : KeptWindow) → P x → AllByRecursion P (kept.postorder n ws x)
  postorder_all zero x p = tt
  postorder_all (suc n) x p = all_append P (flat_map (kept.postorder n ws) (kept.children_of ws x)) (x ∷ []) (all_flat_map P P (kept.postorder n ws) (λ y q. postorder_all n y q) (kept.children_of ws x) (all_filter P _ ws h)) (p, tt)

  -- what all windows have, the window of each step has
  pub destruction_all : (n : ℕ) (x : KeptWindow) → P x → AllByRecursion (StepHas P) (kept.destruction n ws x)
  destruction_all zero x p = tt
  destruction_all (suc n) x p =
      all_append (StepHas P) (flat_map (kept.destruction n ws) (kept.owned_by ws x)) (map kept.told (kept.preorder (suc n) ws x) ++ map kept.ended (kept.postorder (suc n) ws x))
      (all_flat_map (StepHas P) P (kept.destruction n ws) (λ y q. destruction_all n y q) (kept.owned_by ws x) (all_filter P _ ws h))
      (all_append (StepHas P) (map kept.told (kept.preorder (suc n) ws x)) (map kept.ended (kept.postorder (suc n) ws x))
      (all_map (StepHas P) P kept.told (λ y q. q) (kept.preorder (suc n) ws x) (preorder_all (suc n) x p))
      (all_map (StepHas P) P kept.ended (λ y q. q) (kept.postorder (suc n) ws x) (postorder_all (suc n) x p)))

left_same : (past : Past) (i : kept.Step) → StepHas (HasMarks past) i → not (was_given past (as_step i)) ≡ kept.is_left i
left_same past (kept.told x) h = ap not (sym h.told)
left_same past (kept.ended x) h = ap not (sym h.ended)

-- the first step that wasn't given
pub find_left : (past : Past) (steps : List kept.Step) → AllByRecursion (StepHas (HasMarks past)) steps → find (λ i. not (was_given past i)) (map as_step steps) ≡ option_map as_step (find kept.is_left steps)
find_left past [] h = refl
find_left past (i ∷ steps) h =
    ap (λ b. cond b (Some (as_step i)) (find (λ i. not (was_given past i)) (map as_step steps))) (left_same past i h.0)
    ∙ pick (find_left past steps h.1) (kept.is_left i)
  where
    pick : find (λ i. not (was_given past i)) (map as_step steps) ≡ option_map as_step (find kept.is_left steps) → (b : Bool) → cond b (Some (as_step i)) (find (λ i. not (was_given past i)) (map as_step steps)) ≡ option_map as_step (cond b (Some i) (find kept.is_left steps))
    pick rest true = refl
    pick rest false = rest
