-- Plans of windows that change, and what they answer.
use Rattle.std.proofs.Common.{◌≡◌, ◌∙◌, inl, inr, ℕ, ◌<◌, suc, zero, List, [], ◌∷◌, ◌++◌, length, get_or, set, cond, map, filter, find, Bool, true, false, not, ◌&&◌, ◌||◌, eqb, is_some, Option, Some, None, option_map, unwrap_or, refl, sym, ap, subst, arith}
use Rattle.std.specs.List.{flat_map, AllByRecursion}
use Rattle.std.proofs.lemmas.Bool.{cases_Bool, eqb-true}
use Rattle.std.proofs.lemmas.List.{map-append, length-map}
use Rattle.win_num.specs.declared.message.Hwnd.{Hwnd}
use Rattle.win_num.specs.declared.shapes.Rect.{Rect}
use Rattle.win_rows.specs.declared.row.Unmade.{Unmade}
use Rattle.win_rows.specs.declared.row.Unmade.TheVariants.{Tell, Last, Gone, NotDoomed}
use Rattle.win_tree.specs.declared.plan.Plan.{Plan}
use Rattle.win_rows.specs.declared.window.Window.{Window}
use Rattle.win_rows.specs.Windows.{number_of, window_of, is_live, is_told, is_ended, up, told_if, ended_if, set_if, IsOrdered}
use Rattle.win_tree.specs.Kin.{doomed_if, is_alone}
use Rattle.win_rows.specs.Destruction.{Step, told, ended, children_of, owned_by, preorder, postorder, destruction, destruction_of, is_left, answer_of, given, next_step, unmade}
use Rattle.win_tree.specs.Plans.{is_given, is_open, IsReached, HasOlderOwner, IsPlan, EachPlan}
use Rattle.win_rows.proofs.Alls.{all_so, all_filter, all_append, all_flat, all_map, all_set, filter_alike}
use Rattle.win_tree.proofs.Alone.{none_under}
use Rattle.win_rows.proofs.Leaves.{IsYoungest, is_other, order_left, found_still, found_none}
use Rattle.win_rows.proofs.Ones.{number_is}
use Rattle.win_tree.proofs.ThreadDrops.{IsFound, all_found}

-- a change that keeps whose child and owned window each is, and what was given
pub record Keeps (f : Window → Window) : Type 0 where
  pub number : (x : Window) → (f x).number ≡ x.number
  pub parent : (x : Window) → (f x).row.parent ≡ x.row.parent
  pub owner : (x : Window) → (f x).row.owner ≡ x.row.owner
  pub was_told : (x : Window) → x.told ≡ true → (f x).told ≡ true
  pub was_ended : (x : Window) → x.ended ≡ true → (f x).ended ≡ true

answers_told : (xs : List Window) → map answer_of (map told xs) ≡ map Tell (map number_of xs)
answers_told [] = refl
answers_told (x ∷ xs) = ap (λ (us : List Unmade). Tell x.number ∷ us) (answers_told xs)

answers_ended : (xs : List Window) → map answer_of (map ended xs) ≡ map Last (map number_of xs)
answers_ended [] = refl
answers_ended (x ∷ xs) = ap (λ (us : List Unmade). Last x.number ∷ us) (answers_ended xs)

module _ (f : Window → Window) (keeps : Keeps f) where
  window_map : (ws : List Window) (w : ℕ) → window_of (map f ws) w ≡ option_map f (window_of ws w)
  window_map [] w = refl
  window_map (x ∷ ws) w =
      let same : eqb (f x).number.0 w ≡ eqb x.number.0 w = ap (λ (v : Hwnd). eqb v.0 w) (keeps.number x) in
      elim (cases_Bool (eqb x.number.0 w)) [
        | inl k ↦ rw (same ∙ k, k, window_of, find) refl
        | inr k ↦ rw (same ∙ k, k, window_of, find) (window_map ws w)
      ]

  filter_map_keep : (test test' : Window → Bool) → ((x : Window) → test' (f x) ≡ test x) → (ws : List Window) → filter test' (map f ws) ≡ map f (filter test ws)
  filter_map_keep test test' h [] = refl
  filter_map_keep test test' h (x ∷ ws) = elim (cases_Bool (test x)) [
    | inl k ↦ rw (h x ∙ k, k, filter) (ap (λ (us : List Window). f x ∷ us) (filter_map_keep test test' h ws))
    | inr k ↦ rw (h x ∙ k, k, filter) (filter_map_keep test test' h ws)
  ]

  flat_agree : {A B : Type 0} (h : A → B) (g g' : Window → List A) → ((x : Window) → map h (g' (f x)) ≡ map h (g x)) → (xs : List Window) → map h (flat_map g' (map f xs)) ≡ map h (flat_map g xs)
  flat_agree h g g' same [] = refl
  flat_agree h g g' same (x ∷ xs) =
      map-append h (g' (f x)) (flat_map g' (map f xs))
      ∙ ap (λ bs. bs ++ map h (flat_map g' (map f xs))) (same x)
      ∙ ap (λ bs. map h (g x) ++ bs) (flat_agree h g g' same xs)
      ∙ sym (map-append h (g x) (flat_map g xs))

  children_same : (ws : List Window) (x : Window) → children_of (map f ws) (f x) ≡ map f (children_of ws x)
  children_same ws x = filter_map_keep (λ y. eqb y.row.parent.0 x.number.0) (λ y. eqb y.row.parent.0 (f x).number.0)
      (λ y. ap (λ (v : Hwnd). eqb v.0 (f x).number.0) (keeps.parent y) ∙ ap (λ (v : Hwnd). eqb y.row.parent.0 v.0) (keeps.number x)) ws

  owned_same : (ws : List Window) (x : Window) → owned_by (map f ws) (f x) ≡ map f (owned_by ws x)
  owned_same ws x = filter_map_keep (λ y. eqb y.row.owner.0 x.number.0) (λ y. eqb y.row.owner.0 (f x).number.0)
      (λ y. ap (λ (v : Hwnd). eqb v.0 (f x).number.0) (keeps.owner y) ∙ ap (λ (v : Hwnd). eqb y.row.owner.0 v.0) (keeps.number x)) ws

  pre_same : (n : ℕ) (ws : List Window) (x : Window) → map number_of (preorder n (map f ws) (f x)) ≡ map number_of (preorder n ws x)
  pre_same zero ws x = refl
  pre_same (suc n) ws x =
      ap (λ (v : Hwnd). v ∷ map number_of (flat_map (preorder n (map f ws)) (children_of (map f ws) (f x)))) (keeps.number x)
      ∙ ap (λ (us : List Window). x.number ∷ map number_of (flat_map (preorder n (map f ws)) us)) (children_same ws x)
      ∙ ap (λ (vs : List Hwnd). x.number ∷ vs) (flat_agree number_of (preorder n ws) (preorder n (map f ws)) (λ y. pre_same n ws y) (children_of ws x))

  post_same : (n : ℕ) (ws : List Window) (x : Window) → map number_of (postorder n (map f ws) (f x)) ≡ map number_of (postorder n ws x)
  post_same zero ws x = refl
  post_same (suc n) ws x =
      map-append number_of (flat_map (postorder n (map f ws)) (children_of (map f ws) (f x))) (f x ∷ [])
      ∙ ap (λ (v : Hwnd). map number_of (flat_map (postorder n (map f ws)) (children_of (map f ws) (f x))) ++ v ∷ []) (keeps.number x)
      ∙ ap (λ (us : List Window). map number_of (flat_map (postorder n (map f ws)) us) ++ x.number ∷ []) (children_same ws x)
      ∙ ap (λ (vs : List Hwnd). vs ++ x.number ∷ []) (flat_agree number_of (postorder n ws) (postorder n (map f ws)) (λ y. post_same n ws y) (children_of ws x))
      ∙ sym (map-append number_of (flat_map (postorder n ws) (children_of ws x)) (x ∷ []))

  own_same : (n : ℕ) (ws : List Window) (x : Window) → map answer_of (map told (preorder n (map f ws) (f x)) ++ map ended (postorder n (map f ws) (f x))) ≡ map answer_of (map told (preorder n ws x) ++ map ended (postorder n ws x))
  own_same n ws x =
      map-append answer_of (map told (preorder n (map f ws) (f x))) (map ended (postorder n (map f ws) (f x)))
      ∙ ap (λ (us : List Unmade). us ++ map answer_of (map ended (postorder n (map f ws) (f x)))) (answers_told (preorder n (map f ws) (f x)) ∙ ap (map Tell) (pre_same n ws x) ∙ sym (answers_told (preorder n ws x)))
      ∙ ap (λ (us : List Unmade). map answer_of (map told (preorder n ws x)) ++ us) (answers_ended (postorder n (map f ws) (f x)) ∙ ap (map Last) (post_same n ws x) ∙ sym (answers_ended (postorder n ws x)))
      ∙ sym (map-append answer_of (map told (preorder n ws x)) (map ended (postorder n ws x)))

  order_same : (n : ℕ) (ws : List Window) (x : Window) → map answer_of (destruction n (map f ws) (f x)) ≡ map answer_of (destruction n ws x)
  order_same zero ws x = refl
  order_same (suc n) ws x =
      let own = λ (vs : List Window) (y : Window). map told (preorder (suc n) vs y) ++ map ended (postorder (suc n) vs y) in
      map-append answer_of (flat_map (destruction n (map f ws)) (owned_by (map f ws) (f x))) (own (map f ws) (f x))
      ∙ ap (λ (us : List Window). map answer_of (flat_map (destruction n (map f ws)) us) ++ map answer_of (own (map f ws) (f x))) (owned_same ws x)
      ∙ ap (λ (us : List Unmade). us ++ map answer_of (own (map f ws) (f x))) (flat_agree answer_of (destruction n ws) (destruction n (map f ws)) (λ y. order_same n ws y) (owned_by ws x))
      ∙ ap (λ (us : List Unmade). map answer_of (flat_map (destruction n ws) (owned_by ws x)) ++ us) (own_same (suc n) ws x)
      ∙ sym (map-append answer_of (flat_map (destruction n ws) (owned_by ws x)) (own ws x))

  -- what was given stays given
  given_still : (ws : List Window) (step : Unmade) → is_given ws step ≡ true → is_given (map f ws) step ≡ true
  given_still ws (Tell w) h = ap (λ (o : Option Window). not (is_some o) || unwrap_or (option_map (λ x. x.told) o) false) (window_map ws w.0) ∙ still (window_of ws w.0) h
    where
      still : (o : Option Window) → (not (is_some o) || unwrap_or (option_map (λ x. x.told) o) false) ≡ true → (not (is_some (option_map f o)) || unwrap_or (option_map (λ x. x.told) (option_map f o)) false) ≡ true
      still None e = e
      still (Some x) e = keeps.was_told x e
  given_still ws (Last w) h = ap (λ (o : Option Window). not (is_some o) || unwrap_or (option_map (λ x. x.ended) o) false) (window_map ws w.0) ∙ still (window_of ws w.0) h
    where
      still : (o : Option Window) → (not (is_some o) || unwrap_or (option_map (λ x. x.ended) o) false) ≡ true → (not (is_some (option_map f o)) || unwrap_or (option_map (λ x. x.ended) (option_map f o)) false) ≡ true
      still None e = e
      still (Some x) e = keeps.was_ended x e
  given_still ws Gone h = refl
  given_still ws NotDoomed h = refl

  live_still : (ws : List Window) (w : ℕ) → is_live (map f ws) w ≡ is_live ws w
  live_still ws w = ap is_some (window_map ws w) ∙ same (window_of ws w)
    where
      same : (o : Option Window) → is_some (option_map f o) ≡ is_some o
      same None = refl
      same (Some x) = refl

  open_still : (ws : List Window) (step : Unmade) → is_open (map f ws) step ≡ is_open ws step
  open_still ws (Tell w) = live_still ws w.0
  open_still ws (Last w) = live_still ws w.0
  open_still ws Gone = refl
  open_still ws NotDoomed = refl

  order_kept : (ws : List Window) (p : Plan) (x : Window) (o : Option Window) → window_of ws p.root.0 ≡ o → option_map f o ≡ Some x → ((y : Window) → window_of ws p.root.0 ≡ Some y → filter (is_open ws) p.steps.items ≡ map answer_of (destruction_of ws y)) → filter (is_open (map f ws)) p.steps.items ≡ map answer_of (destruction_of (map f ws) x)
  order_kept ws p x None was is order = absurd (cc is)
  order_kept ws p x (Some y) was is order =
      let same : f y ≡ x = cc is in
      filter_alike (is_open (map f ws)) (is_open ws) (open_still ws) p.steps.items
      ∙ order y was
      ∙ sym (order_same (length ws) ws y)
      ∙ ap (λ k. map answer_of (destruction k (map f ws) (f y))) (sym (length-map ws f))
      ∙ ap (λ (z : Window). map answer_of (destruction_of (map f ws) z)) same

  plan_kept : (ws : List Window) (p : Plan) → IsPlan ws p → IsPlan (map f ws) p
  plan_kept ws p plan = record {
    order = λ x found. order_kept ws p x (window_of ws p.root.0) refl (sym (window_map ws p.root.0) ∙ found) plan.order;
    given = λ k below lt. given_still ws (get_or p.steps.items k Gone) (plan.given k below lt);
  }

  owner_kept : (x : Window) → HasOlderOwner x → HasOlderOwner (f x)
  owner_kept x h = omega (arith, h, ap (λ (v : Hwnd). v.0) (keeps.owner x), ap (λ (v : Hwnd). v.0) (keeps.number x))

  pub plans_kept : (ws : List Window) (plans : List Plan) → EachPlan ws plans → EachPlan (map f ws) plans
  plans_kept ws plans each = record {
    owners = all_map HasOlderOwner HasOlderOwner f owner_kept ws each.owners;
    each = all_so (IsPlan ws) (IsPlan (map f ws)) (plan_kept ws) plans each.each;
  }

or_still : (a b : Bool) → a ≡ true → (a || b) ≡ true
or_still true b h = refl
or_still false b h = absurd (cc h)

keeps_told : (w : ℕ) → Keeps (told_if w)
keeps_told w = record { number = λ x. refl; parent = λ x. refl; owner = λ x. refl; was_told = λ x h. or_still x.told (eqb x.number.0 w) h; was_ended = λ x h. h }

keeps_ended : (w : ℕ) → Keeps (ended_if w)
keeps_ended w = record { number = λ x. refl; parent = λ x. refl; owner = λ x. refl; was_told = λ x h. h; was_ended = λ x h. or_still x.ended (eqb x.number.0 w) h }

keeps_doomed : (ws : List Window) (w : ℕ) → Keeps (doomed_if ws w)
keeps_doomed ws w = record { number = λ x. refl; parent = λ x. refl; owner = λ x. refl; was_told = λ x h. h; was_ended = λ x h. h }

keeps_set : (w style ex : ℕ) (place : Rect) → Keeps (set_if w style ex place)
keeps_set w style ex place = record {
  number = λ x. elim (cases_Bool (eqb x.number.0 w)) [ inl k ↦ rw k refl | inr k ↦ rw k refl ];
  parent = λ x. elim (cases_Bool (eqb x.number.0 w)) [ inl k ↦ rw k refl | inr k ↦ rw k refl ];
  owner = λ x. elim (cases_Bool (eqb x.number.0 w)) [ inl k ↦ rw k refl | inr k ↦ rw k refl ];
  was_told = λ x h. elim (cases_Bool (eqb x.number.0 w)) [ inl k ↦ rw k h | inr k ↦ rw k h ];
  was_ended = λ x h. elim (cases_Bool (eqb x.number.0 w)) [ inl k ↦ rw k h | inr k ↦ rw k h ];
}

pub plans_given : (step : Unmade) (ws : List Window) (plans : List Plan) → EachPlan ws plans → EachPlan (given step ws) plans
plans_given (Tell w) ws plans each = plans_kept (told_if w.0) (keeps_told w.0) ws plans each
plans_given (Last w) ws plans each = plans_kept (ended_if w.0) (keeps_ended w.0) ws plans each
plans_given Gone ws plans each = each
plans_given NotDoomed ws plans each = each

pub plans_doomed : (ws : List Window) (w : ℕ) (plans : List Plan) → EachPlan ws plans → EachPlan (map (doomed_if ws w) ws) plans
plans_doomed ws w plans each = plans_kept (doomed_if ws w) (keeps_doomed ws w) ws plans each

pub plans_set : (w style ex : ℕ) (place : Rect) (ws : List Window) (plans : List Plan) → EachPlan ws plans → EachPlan (map (set_if w style ex place) ws) plans
plans_set w style ex place ws plans each = plans_kept (set_if w style ex place) (keeps_set w style ex place) ws plans each

pub no_plans : (ws : List Window) → AllByRecursion HasOlderOwner ws → EachPlan ws []
no_plans ws owners = record { owners = owners; each = tt }

-- it is live, as it stands
abbrev IsLive : List Window → Window → Type 0
IsLive ws x = window_of ws x.number.0 ≡ Some x

all_live : (from : ℕ) (ws us : List Window) → AllByRecursion (IsFound from ws) us → AllByRecursion (IsLive ws) us
all_live from ws [] h = tt
all_live from ws (x ∷ us) h = (h.0.1, all_live from ws us h.1)

-- the step is of a live window, and left where it wasn't given
abbrev Agrees : List Window → Step → Type 0
Agrees ws s = (is_left s ≡ not (is_given ws (answer_of s))) × (is_open ws (answer_of s) ≡ true)

all_told : (ws xs : List Window) → AllByRecursion (IsLive ws) xs → AllByRecursion (Agrees ws) (map told xs)
all_told ws [] h = tt
all_told ws (x ∷ xs) h = ((sym (ap (λ (o : Option Window). not (not (is_some o) || unwrap_or (option_map (λ y. y.told) o) false)) h.0), ap (λ (o : Option Window). is_some o) h.0), all_told ws xs h.1)

all_ended : (ws xs : List Window) → AllByRecursion (IsLive ws) xs → AllByRecursion (Agrees ws) (map ended xs)
all_ended ws [] h = tt
all_ended ws (x ∷ xs) h = ((sym (ap (λ (o : Option Window). not (not (is_some o) || unwrap_or (option_map (λ y. y.ended) o) false)) h.0), ap (λ (o : Option Window). is_some o) h.0), all_ended ws xs h.1)

module _ (ws : List Window) (live : AllByRecursion (IsLive ws) ws) where
  pre_live : (n : ℕ) (x : Window) → IsLive ws x → AllByRecursion (IsLive ws) (preorder n ws x)
  pre_live zero x h = tt
  pre_live (suc n) x h = (h, all_flat (IsLive ws) (IsLive ws) (preorder n ws) (λ y k. pre_live n y k) (children_of ws x) (all_filter (IsLive ws) (λ y. eqb y.row.parent.0 x.number.0) ws live))

  post_live : (n : ℕ) (x : Window) → IsLive ws x → AllByRecursion (IsLive ws) (postorder n ws x)
  post_live zero x h = tt
  post_live (suc n) x h = all_append (IsLive ws) (flat_map (postorder n ws) (children_of ws x)) (x ∷ []) (all_flat (IsLive ws) (IsLive ws) (postorder n ws) (λ y k. post_live n y k) (children_of ws x) (all_filter (IsLive ws) (λ y. eqb y.row.parent.0 x.number.0) ws live)) (h, tt)

  steps_agree : (n : ℕ) (x : Window) → IsLive ws x → AllByRecursion (Agrees ws) (destruction n ws x)
  steps_agree zero x h = tt
  steps_agree (suc n) x h =
      all_append (Agrees ws) (flat_map (destruction n ws) (owned_by ws x)) (map told (preorder (suc n) ws x) ++ map ended (postorder (suc n) ws x))
      (all_flat (IsLive ws) (Agrees ws) (destruction n ws) (λ y k. steps_agree n y k) (owned_by ws x) (all_filter (IsLive ws) (λ y. eqb y.row.owner.0 x.number.0) ws live))
      (all_append (Agrees ws) (map told (preorder (suc n) ws x)) (map ended (postorder (suc n) ws x)) (all_told ws (preorder (suc n) ws x) (pre_live (suc n) x h)) (all_ended ws (postorder (suc n) ws x) (post_live (suc n) x h)))

-- the first of some answers, or another
abbrev first_or : Unmade → Option Unmade → Unmade
first_or last o = unwrap_or o last

-- the first step that is left is the first that wasn't given
first_left : (ws : List Window) (steps : List Step) → AllByRecursion (Agrees ws) steps → option_map answer_of (find is_left steps) ≡ find (λ s. not (is_given ws s)) (map answer_of steps)
first_left ws [] h = refl
first_left ws (s ∷ steps) h = elim (cases_Bool (is_left s)) [
  | inl k ↦ rw (k, sym h.0.0 ∙ k, find) refl
  | inr k ↦ rw (k, sym h.0.0 ∙ k, find) (first_left ws steps h.1)
]

-- of windows that have gone no step is left
closed_given : (ws : List Window) (s : Unmade) → is_open ws s ≡ false → is_given ws s ≡ true
closed_given ws (Tell w) h = ap (λ b. not b || is_told ws w.0) h
closed_given ws (Last w) h = ap (λ b. not b || is_ended ws w.0) h
closed_given ws Gone h = refl
closed_given ws NotDoomed h = refl

first_open : (ws : List Window) (steps : List Unmade) → find (λ s. not (is_given ws s)) (filter (is_open ws) steps) ≡ find (λ s. not (is_given ws s)) steps
first_open ws [] = refl
first_open ws (s ∷ steps) = elim (cases_Bool (is_open ws s)) [
  | inl k ↦ ap (λ b. find (λ r. not (is_given ws r)) (cond b (s ∷ filter (is_open ws) steps) (filter (is_open ws) steps))) k ∙ ap (λ (o : Option Unmade). cond (not (is_given ws s)) (Some s) o) (first_open ws steps)
  | inr k ↦ ap (λ b. find (λ r. not (is_given ws r)) (cond b (s ∷ filter (is_open ws) steps) (filter (is_open ws) steps))) k ∙ first_open ws steps ∙ sym (ap (λ b. cond (not b) (Some s) (find (λ r. not (is_given ws r)) steps)) (closed_given ws s k))
]

-- the step that is reached is the first that wasn't given
first_reached : (ws : List Window) (steps : List Unmade) (k : ℕ) (last : Unmade) → IsReached ws steps k → first_or last (find (λ s. not (is_given ws s)) steps) ≡ get_or steps k last
first_reached ws [] k last reached = refl
first_reached ws (s ∷ steps) zero last reached = ap (λ b. first_or last (cond (not b) (Some s) (find (λ r. not (is_given ws r)) steps))) (reached.here (omega arith))
first_reached ws (s ∷ steps) (suc k) last reached =
    ap (λ b. first_or last (cond (not b) (Some s) (find (λ r. not (is_given ws r)) steps))) (reached.before 0 (omega arith) (omega arith))
    ∙ first_reached ws steps k last (record {
      within = omega (arith, reached.within);
      before = λ j below lt. reached.before (suc j) (omega (arith, below)) (omega (arith, lt));
      here = λ lt. reached.here (omega (arith, lt));
    })

answered : (last : Unmade) (o : Option Step) → (let r : Unmade = elim o [ Some s ↦ answer_of s | None ↦ last ] in r) ≡ first_or last (option_map answer_of o)
answered last None = refl
answered last (Some s) = refl

-- what a plan answers
pub planned_step : (last : ℕ) (ws : List Window) (p : Plan) (x : Window) (k : ℕ) → IsOrdered 15 last ws → IsPlan ws p → window_of ws p.root.0 ≡ Some x → x.number ≡ p.root → IsReached ws p.steps.items k → (let r : Unmade = elim (find is_left (destruction_of ws x)) [ Some s ↦ answer_of s | None ↦ Last x.number ] in r) ≡ get_or p.steps.items k (Last p.root)
planned_step last ws p x k ordered plan found number reached =
    let live = all_live 15 ws ws (all_found 15 last ws ordered) in
    let here : IsLive ws x = ap (λ (v : Hwnd). window_of ws v.0) number ∙ found in
    answered (Last x.number) (find is_left (destruction_of ws x))
    ∙ ap (first_or (Last x.number)) (first_left ws (destruction_of ws x) (steps_agree ws live (length ws) x here) ∙ ap (find (λ s. not (is_given ws s))) (sym (plan.order x found)) ∙ first_open ws p.steps.items)
    ∙ first_reached ws p.steps.items k (Last x.number) reached
    ∙ ap (λ (v : Hwnd). get_or p.steps.items k (Last v)) number

-- one plan more
pub plans_pushed : (ws : List Window) (b : Bool) (plans plans' : List Plan) (p : Plan) → EachPlan ws plans → IsPlan ws p → plans' ≡ cond b (plans ++ p ∷ []) plans → EachPlan ws plans'
plans_pushed ws true plans plans' p each plan put = subst (EachPlan ws) (sym put) (record { owners = each.owners; each = all_append (IsPlan ws) plans (p ∷ []) each.each (plan, tt) })
plans_pushed ws false plans plans' p each plan put = subst (EachPlan ws) (sym put) each

-- another plan in the place of one
pub plans_changed : (ws : List Window) (plans : List Plan) (i : ℕ) (p : Plan) → EachPlan ws plans → IsPlan ws p → EachPlan ws (set plans i p)
plans_changed ws plans i p each plan = record { owners = each.owners; each = all_set (IsPlan ws) plans i p each.each plan }

-- a plan that has come further
pub plan_further : (ws : List Window) (p : Plan) (n : ℕ) → IsPlan ws p → IsReached ws p.steps.items n → IsPlan ws (record p { next = n })
plan_further ws p n plan reached = record { order = plan.order; given = reached.before }

-- all steps of a destruction are of live windows
all_open : (ws : List Window) (steps : List Step) → AllByRecursion (Agrees ws) steps → filter (is_open ws) (map answer_of steps) ≡ map answer_of steps
all_open ws [] h = refl
all_open ws (s ∷ steps) h = ap (λ b. cond b (answer_of s ∷ filter (is_open ws) (map answer_of steps)) (filter (is_open ws) (map answer_of steps))) h.0.1 ∙ ap (λ (us : List Unmade). answer_of s ∷ us) (all_open ws steps h.1)

-- a plan that begins
pub plan_begun : (last : ℕ) (ws : List Window) (w : Hwnd) (x : Window) (p : Plan) → IsOrdered 15 last ws → p.root ≡ w → p.next ≡ 0 → window_of ws w.0 ≡ Some x → p.steps.items ≡ map answer_of (destruction_of ws x) → IsPlan ws p
plan_begun last ws w x p ordered root next found steps = record {
  order = λ y there.
      let same : y ≡ x = some_same y x (sym there ∙ ap (λ (v : Hwnd). window_of ws v.0) root ∙ found) in
      ap (filter (is_open ws)) steps
      ∙ all_open ws (destruction_of ws x) (steps_agree ws (all_live 15 ws ws (all_found 15 last ws ordered)) (length ws) x (ap (window_of ws) (number_is ws w.0 x found) ∙ found))
      ∙ ap (λ (z : Window). map answer_of (destruction_of ws z)) (sym same);
  given = λ k below lt. absurd (omega (arith, below, next));
}
  where
    some_same : (a c : Window) → Some a ≡ Some c → a ≡ c
    some_same a c e = cc e

-- what stands above each window is older, by both links
rooted : (from last : ℕ) (ws : List Window) → IsOrdered from last ws → AllByRecursion HasOlderOwner ws → AllByRecursion IsYoungest ws
rooted from last [] h owners = tt
rooted from last (x ∷ ws) h owners = ((parent_older x (omega (arith, h.0)) h.1, owners.0), rooted x.number.0 last ws h.2 owners.1)
  where
    parent_older : (y : Window) → 0 < y.number.0 → (up y).0 < y.number.0 → y.row.parent.0 < y.number.0
    parent_older y some older = elim (cases_Bool (eqb y.row.parent.0 0)) [
      | inl k ↦ omega (arith, some, eqb-true y.row.parent.0 0 k)
      | inr k ↦ subst (λ (u : Hwnd). u.0 < y.number.0) (rw (k, up) refl) older
    ]

-- without a window that nothing stands under
module _ (w : ℕ) (ws : List Window) (last : ℕ) (ordered : IsOrdered 15 last ws) (owners : AllByRecursion HasOlderOwner ws) (alone : is_alone ws w ≡ true) where
  young : AllByRecursion IsYoungest ws
  young = rooted 15 last ws ordered owners

  none : AllByRecursion (λ y. (eqb y.row.parent.0 w ≡ false) × (eqb y.row.owner.0 w ≡ false)) ws
  none = none_under ws w alone

  abbrev left : List Window
  left = filter (λ x. not (eqb x.number.0 w)) ws

  and_false : (b : Bool) → (b && false) ≡ false
  and_false true = refl
  and_false false = refl

  and_true : (b : Bool) → (b && true) ≡ b
  and_true true = refl
  and_true false = refl

  live_left : (v : ℕ) → is_live left v ≡ (is_live ws v && not (eqb v w))
  live_left v = elim (cases_Bool (eqb v w)) [
    | inl k ↦ ap is_some (found_none w ws young none v k) ∙ sym (ap (λ b. is_live ws v && not b) k ∙ and_false (is_live ws v))
    | inr k ↦ ap is_some (found_still w ws young none v k) ∙ sym (ap (λ b. is_live ws v && not b) k ∙ and_true (is_live ws v))
  ]

  open_left : (s : Unmade) → is_open left s ≡ (is_open ws s && is_other w ws young none s)
  open_left (Tell v) = live_left v.0
  open_left (Last v) = live_left v.0
  open_left Gone = refl
  open_left NotDoomed = refl

  given_left : (s : Unmade) → is_given ws s ≡ true → is_given left s ≡ true
  given_left (Tell v) h = elim (cases_Bool (eqb v.0 w)) [
    | inl k ↦ ap (λ (o : Option Window). not (is_some o) || unwrap_or (option_map (λ x. x.told) o) false) (found_none w ws young none v.0 k)
    | inr k ↦ ap (λ (o : Option Window). not (is_some o) || unwrap_or (option_map (λ x. x.told) o) false) (found_still w ws young none v.0 k) ∙ h
  ]
  given_left (Last v) h = elim (cases_Bool (eqb v.0 w)) [
    | inl k ↦ ap (λ (o : Option Window). not (is_some o) || unwrap_or (option_map (λ x. x.ended) o) false) (found_none w ws young none v.0 k)
    | inr k ↦ ap (λ (o : Option Window). not (is_some o) || unwrap_or (option_map (λ x. x.ended) o) false) (found_still w ws young none v.0 k) ∙ h
  ]
  given_left Gone h = refl
  given_left NotDoomed h = refl

  was : (r : ℕ) (x : Window) → window_of left r ≡ Some x → window_of ws r ≡ Some x
  was r x found = elim (cases_Bool (eqb r w)) [
    | inl k ↦ absurd (cc (sym found ∙ found_none w ws young none r k))
    | inr k ↦ sym (found_still w ws young none r k) ∙ found
  ]

  both_filters : {A : Type 0} (p q r : A → Bool) → ((x : A) → r x ≡ (p x && q x)) → (xs : List A) → filter r xs ≡ filter q (filter p xs)
  both_filters p q r h [] = refl
  both_filters p q r h (x ∷ xs) = elim (cases_Bool (p x)) [
    | inl k ↦ rw (k, filter) (ap (λ b. cond b (x ∷ filter r xs) (filter r xs)) (h x ∙ ap (λ b. b && q x) k) ∙ ap (λ ys. cond (q x) (x ∷ ys) ys) (both_filters p q r h xs))
    | inr k ↦ rw (k, filter) (ap (λ b. cond b (x ∷ filter r xs) (filter r xs)) (h x ∙ ap (λ b. b && q x) k) ∙ both_filters p q r h xs)
  ]

  plan_left : (p : Plan) → IsPlan ws p → IsPlan left p
  plan_left p plan = record {
    order = λ x found.
        both_filters (is_open ws) (is_other w ws young none) (is_open left) open_left p.steps.items
        ∙ ap (filter (is_other w ws young none)) (plan.order x (was p.root.0 x found))
        ∙ sym (order_left w ws young none p.root.0 x found);
    given = λ k below lt. given_left (get_or p.steps.items k Gone) (plan.given k below lt);
  }

  pub plans_left : (test : Plan → Bool) (plans : List Plan) → AllByRecursion (IsPlan ws) plans → EachPlan (filter (λ x. not (eqb x.number.0 w)) ws) (filter test plans)
  plans_left test plans each = record {
    owners = all_filter HasOlderOwner (λ x. not (eqb x.number.0 w)) ws owners;
    each = all_filter (IsPlan left) test plans (all_so (IsPlan ws) (IsPlan left) plan_left plans each);
  }

-- what is answered for a marked window
pub unmade_marked : (ws : List Window) (w : ℕ) (x : Window) → window_of ws w ≡ Some x → x.marked ≡ true → unmade ws w ≡ next_step ws x
unmade_marked ws w x found marked =
    ap (λ (o : Option Window). let r : Unmade = elim o [ None ↦ Gone | Some y ↦ cond y.marked (next_step ws y) NotDoomed ] in r) found
    ∙ ap (λ (b : Bool). cond b (next_step ws x) NotDoomed) marked

pub same_hwnd : (v w : Hwnd) → v.0 ≡ w.0 → v ≡ w
same_hwnd v w e = ap (λ (n : ℕ). let u : Hwnd = record { 0 = n } in u) e
