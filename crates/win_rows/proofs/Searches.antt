-- Searches on the walk round a window, and the order of destruction.
use Rattle.std.proofs.Common.{◌≡◌, ◌∙◌, inl, inr, ℕ, suc, zero, List, [], ◌∷◌, ◌++◌, map, cond, Bool, true, false, find, Option, Some, None, option_map, is_some, append-nil, refl, sym, ap}
use Rattle.std.specs.List.{flat_map}
use Rattle.std.specs.Option.{option_or}
use Rattle.std.proofs.lemmas.Bool.{cases_Bool}
use Rattle.std.proofs.lemmas.List.Folds.{find-append}
use Rattle.std.proofs.lemmas.Grind.{flat_map-append}
use Rattle.win_num.specs.declared.message.Hwnd.{Hwnd}
use Rattle.win_rows.specs.declared.links.Link.{Link}
use Rattle.win_rows.specs.declared.links.Link.TheVariants.{Parent, Owner}
use Rattle.win_rows.specs.declared.row.Unmade.TheVariants.{Tell, Last}
use Rattle.win_rows.specs.declared.tour.Way.{Way}
use Rattle.win_rows.specs.declared.tour.Way.TheVariants.{Enter, Leave}
use Rattle.win_rows.specs.declared.tour.Visit.{Visit}
use Rattle.win_rows.specs.declared.window.Window.{Window}
use Rattle.win_rows.specs.Windows.{number_of}
use Rattle.win_rows.specs.Links.{under}
use Rattle.win_rows.specs.Destruction.{Step, told, ended, preorder, postorder, destruction, children_of, owned_by, is_untold, is_unended, is_left, answer_of}
use Rattle.win_rows.specs.Tours.{visit, tour, visited, is_due, own_steps, visit_steps}

-- what the visits of a walk give, put together
each_tour : {A : Type 0} (link : Link) (ws : List Window) (n : ℕ) (g : Visit → List A) (h : Window → List A) → ((y : Window) → flat_map g (tour link n ws y) ≡ h y) → (us : List Window) → flat_map g (flat_map (tour link n ws) us) ≡ flat_map h us
each_tour link ws n g h same [] = refl
each_tour link ws n g h same (y ∷ us) =
    flat_map-append g (tour link n ws y) (flat_map (tour link n ws) us)
    ∙ ap (λ zs. zs ++ flat_map g (flat_map (tour link n ws) us)) (same y)
    ∙ ap (λ zs. h y ++ zs) (each_tour link ws n g h same us)

around : {A : Type 0} (link : Link) (ws : List Window) (n : ℕ) (g : Visit → List A) (h : Window → List A) (x : Window) → ((y : Window) → flat_map g (tour link n ws y) ≡ h y) → flat_map g (tour link (suc n) ws x) ≡ g (visit Enter x (suc n)) ++ (flat_map h (under link ws x.number.0) ++ (g (visit Leave x (suc n)) ++ []))
around link ws n g h x same =
    ap (λ zs. g (visit Enter x (suc n)) ++ zs)
    (flat_map-append g (flat_map (tour link n ws) (under link ws x.number.0)) (visit Leave x (suc n) ∷ [])
    ∙ ap (λ zs. zs ++ (g (visit Leave x (suc n)) ++ [])) (each_tour link ws n g h same (under link ws x.number.0)))

-- the window, where it is entered
abbrev enters : Visit → List Window
enters v = elim v.way [ Enter ↦ v.window ∷ [] | Leave ↦ [] ]

-- the window, where it is left
abbrev leaves : Visit → List Window
leaves v = elim v.way [ Enter ↦ [] | Leave ↦ v.window ∷ [] ]

pre_tour : (n : ℕ) (ws : List Window) (x : Window) → flat_map enters (tour Parent n ws x) ≡ preorder n ws x
pre_tour zero ws x = refl
pre_tour (suc n) ws x = around Parent ws n enters (preorder n ws) x (pre_tour n ws) ∙ ap (λ (us : List Window). x ∷ us) (append-nil (flat_map (preorder n ws) (children_of ws x)))

post_tour : (n : ℕ) (ws : List Window) (x : Window) → flat_map leaves (tour Parent n ws x) ≡ postorder n ws x
post_tour zero ws x = refl
post_tour (suc n) ws x = around Parent ws n leaves (postorder n ws) x (post_tour n ws)

-- a walk round the owners gives the order of destruction
pub own_tour : (n : ℕ) (ws : List Window) (x : Window) → flat_map (visit_steps ws) (tour Owner n ws x) ≡ destruction n ws x
own_tour zero ws x = refl
own_tour (suc n) ws x = around Owner ws n (visit_steps ws) (destruction n ws) x (own_tour n ws) ∙ ap (λ (ss : List Step). flat_map (destruction n ws) (owned_by ws x) ++ ss) (append-nil (own_steps (suc n) ws x))

-- the first that is due, among the windows that are entered
due_told : (vs : List Visit) → option_map visited (find (is_due Enter) vs) ≡ option_map number_of (find is_untold (flat_map enters vs))
due_told [] = refl
due_told (v ∷ vs) = pick (due_told vs) v.way refl
  where
    first : (option_map visited (find (is_due Enter) vs) ≡ option_map number_of (find is_untold (flat_map enters vs))) → (b : Bool) → option_map visited (cond b (Some (visit Enter v.window v.depth)) (find (is_due Enter) vs)) ≡ option_map number_of (cond b (Some v.window) (find is_untold (flat_map enters vs)))
    first later true = refl
    first later false = later

    pick : (option_map visited (find (is_due Enter) vs) ≡ option_map number_of (find is_untold (flat_map enters vs))) → (w : Way) → v.way ≡ w → option_map visited (find (is_due Enter) (v ∷ vs)) ≡ option_map number_of (find is_untold (flat_map enters (v ∷ vs)))
    pick later Enter e = rw (e, is_due, enters, find) (first later (is_untold v.window))
    pick later Leave e = rw (e, is_due, enters, find) later

-- the same among those that are left
due_ended : (vs : List Visit) → option_map visited (find (is_due Leave) vs) ≡ option_map number_of (find is_unended (flat_map leaves vs))
due_ended [] = refl
due_ended (v ∷ vs) = pick (due_ended vs) v.way refl
  where
    first : (option_map visited (find (is_due Leave) vs) ≡ option_map number_of (find is_unended (flat_map leaves vs))) → (b : Bool) → option_map visited (cond b (Some (visit Leave v.window v.depth)) (find (is_due Leave) vs)) ≡ option_map number_of (cond b (Some v.window) (find is_unended (flat_map leaves vs)))
    first later true = refl
    first later false = later

    pick : (option_map visited (find (is_due Leave) vs) ≡ option_map number_of (find is_unended (flat_map leaves vs))) → (w : Way) → v.way ≡ w → option_map visited (find (is_due Leave) (v ∷ vs)) ≡ option_map number_of (find is_unended (flat_map leaves (v ∷ vs)))
    pick later Leave e = rw (e, is_due, leaves, find) (first later (is_unended v.window))
    pick later Enter e = rw (e, is_due, leaves, find) later

-- the first of two, where it is there
first_some : {A B : Type 0} (g : A → B) (a b : Option A) → is_some (option_map g a) ≡ true → option_map g (option_or a b) ≡ option_map g a
first_some g None b h = absurd (cc h)
first_some g (Some a) b h = refl

-- the second of two, where the first isn't there
first_none : {A B : Type 0} (g : A → B) (a b : Option A) → is_some (option_map g a) ≡ false → option_or a b ≡ b
first_none g None b h = refl
first_none g (Some a) b h = absurd (cc h)

-- the first of those told
find_told : (xs : List Window) → option_map answer_of (find is_left (map told xs)) ≡ option_map Tell (option_map number_of (find is_untold xs))
find_told [] = refl
find_told (x ∷ xs) = elim (cases_Bool x.told) [ inl h ↦ rw (h, find) (find_told xs) | inr h ↦ rw (h, find) refl ]

-- the first of those that got their last message
find_ended : (xs : List Window) → option_map answer_of (find is_left (map ended xs)) ≡ option_map Last (option_map number_of (find is_unended xs))
find_ended [] = refl
find_ended (x ∷ xs) = elim (cases_Bool x.ended) [ inl h ↦ rw (h, find) (find_ended xs) | inr h ↦ rw (h, find) refl ]

module _ (n : ℕ) (ws : List Window) (x : Window) where
  abbrev tells : Option Hwnd
  tells = option_map visited (find (is_due Enter) (tour Parent n ws x))

  first_told : option_map answer_of (find is_left (map told (preorder n ws x))) ≡ option_map Tell tells
  first_told = find_told (preorder n ws x) ∙ ap (option_map Tell) (ap (λ (us : List Window). option_map number_of (find is_untold us)) (sym (pre_tour n ws x)) ∙ sym (due_told (tour Parent n ws x)))

  both : find is_left (own_steps n ws x) ≡ option_or (find is_left (map told (preorder n ws x))) (find is_left (map ended (postorder n ws x)))
  both = find-append is_left (map told (preorder n ws x)) (map ended (postorder n ws x))

  -- a window of its subtree is to be told
  pub own_told : (w : Hwnd) → option_map visited (find (is_due Enter) (tour Parent n ws x)) ≡ Some w → option_map answer_of (find is_left (own_steps n ws x)) ≡ Some (Tell w)
  own_told w h =
      let first : option_map answer_of (find is_left (map told (preorder n ws x))) ≡ Some (Tell w) = first_told ∙ ap (option_map Tell) h in
      ap (option_map answer_of) both ∙ first_some answer_of (find is_left (map told (preorder n ws x))) (find is_left (map ended (postorder n ws x))) (ap is_some first) ∙ first

  -- all of its subtree was told
  pub own_ended : option_map visited (find (is_due Enter) (tour Parent n ws x)) ≡ None → option_map answer_of (find is_left (own_steps n ws x)) ≡ option_map Last (option_map visited (find (is_due Leave) (tour Parent n ws x)))
  own_ended h =
      let first : option_map answer_of (find is_left (map told (preorder n ws x))) ≡ None = first_told ∙ ap (option_map Tell) h in
      ap (option_map answer_of) (both ∙ first_none answer_of (find is_left (map told (preorder n ws x))) (find is_left (map ended (postorder n ws x))) (ap is_some first))
      ∙ find_ended (postorder n ws x)
      ∙ ap (option_map Last) (ap (λ (us : List Window). option_map number_of (find is_unended us)) (sym (post_tour n ws x)) ∙ sym (due_ended (tour Parent n ws x)))

-- a visit that isn't due is passed
pub not_due : (way : Way) (v : Visit) (all vs : List Visit) (r : Option Hwnd) → all ≡ v ∷ vs → is_due way v ≡ false → option_map visited (find (is_due way) all) ≡ r → option_map visited (find (is_due way) vs) ≡ r
not_due way v all vs r next stays so = sym (ap (λ (us : List Visit). option_map visited (find (is_due way) us)) next ∙ ap (λ (b : Bool). option_map visited (cond b (Some v) (find (is_due way) vs))) stays) ∙ so

-- a visit that is due
pub due : (way : Way) (v : Visit) (all vs : List Visit) (r : Option Hwnd) → all ≡ v ∷ vs → is_due way v ≡ true → option_map visited (find (is_due way) all) ≡ r → Some (visited v) ≡ r
due way v all vs r next holds so = sym (ap (λ (us : List Visit). option_map visited (find (is_due way) us)) next ∙ ap (λ (b : Bool). option_map visited (cond b (Some v) (find (is_due way) vs))) holds) ∙ so

module _ (ws : List Window) (v : Visit) (all vs : List Visit) (next : all ≡ v ∷ vs) where
  parted : find is_left (flat_map (visit_steps ws) all) ≡ option_or (find is_left (visit_steps ws v)) (find is_left (flat_map (visit_steps ws) vs))
  parted = ap (λ (us : List Visit). find is_left (flat_map (visit_steps ws) us)) next ∙ find-append is_left (visit_steps ws v) (flat_map (visit_steps ws) vs)

  -- a visit without a step that is left is passed
  pub none_left_here : is_some (option_map answer_of (find is_left (visit_steps ws v))) ≡ false → option_map answer_of (find is_left (flat_map (visit_steps ws) vs)) ≡ option_map answer_of (find is_left (flat_map (visit_steps ws) all))
  none_left_here h = sym (ap (option_map answer_of) (parted ∙ first_none answer_of (find is_left (visit_steps ws v)) (find is_left (flat_map (visit_steps ws) vs)) h))

  -- a visit with one
  pub some_left_here : is_some (option_map answer_of (find is_left (visit_steps ws v))) ≡ true → option_map answer_of (find is_left (visit_steps ws v)) ≡ option_map answer_of (find is_left (flat_map (visit_steps ws) all))
  some_left_here h = sym (ap (option_map answer_of) parted ∙ first_some answer_of (find is_left (visit_steps ws v)) (find is_left (flat_map (visit_steps ws) vs)) h)
