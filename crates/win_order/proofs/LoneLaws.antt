-- A window that goes alone: what is left is what is left without it.
use Rattle.std.proofs.Common.{◌≡◌, ◌∙◌, ◌⊎◌, inl, inr, ℕ, ◌+◌, ◌<◌, List, [], ◌∷◌, ◌++◌, length, get_or, take, drop, map, Bool, true, false, cond, not, ◌&&◌, ◌||◌, eqb, nat_eq, ◌-◌, add-one, drop-cons, length-drop, refl, sym, ap, subst, arith}
use Rattle.std.specs.List.{filter, list_any, list_all, IsDistinct, AllByRecursion}
use Rattle.std.specs.Map.{keys_of}
use Rattle.std.proofs.lemmas.Bool.{false≢true, true≢false, eqb-true, eq-eqb, not-true}
use Rattle.std.proofs.lemmas.List.{map-append, take-append-drop, take_all}
use Rattle.std.proofs.lemmas.List.Folds.{list_any-append}
use Rattle.std.proofs.lemmas.Map.Keys.{IsDistinct-head, IsDistinct-tail}
use Rattle.win_num.specs.declared.message.Hwnd.{Hwnd}
use Rattle.win_order.specs.declared.standings.Known.{Known}
use Rattle.win_order.specs.Entries.{newest_first, standing}
use Rattle.win_order.specs.Families.{without_window}
use Rattle.win_order.specs.Kept.{AllCameNew, IsKept, is_child, is_family}
use Rattle.win_order.specs.Layers.{Layers, goes_along_with, is_among, is_gone, kept, may_stay, removed, staying_in}
use Rattle.win_order.specs.Lone.{GoesAlone}
use Rattle.win_order.specs.Siblings.{Siblings}
use Rattle.win_order.specs.Standing.{Standing}
use Rattle.win_order.proofs.Booleans.{all_both, and_left, and_right, and_true, any_over, or_first, or_rest, or_second}
use Rattle.win_order.proofs.EntryLaws.{new_stands, newest_cons, stands_apart}
use Rattle.win_order.proofs.KeptLaws.{nobody_stands}
use Rattle.win_order.proofs.MarkLaws.{same_way}
use Rattle.win_order.proofs.StandingLaws.{among, child_among}

-- ---- what stays and goes

filter_alike : {X : Type 0} (r p q : X → Bool) → ((x : X) → r x ≡ true → p x ≡ q x) → (xs : List X) → list_all r xs ≡ true → filter p xs ≡ filter q xs
filter_alike r p q same [] all = refl
filter_alike r p q same (x ∷ xs) all =
    ap (λ b. cond b (x ∷ filter p xs) (filter p xs)) (same x (and_left (r x) (list_all r xs) all))
    ∙ ap (λ l. cond (q x) (x ∷ l) l) (filter_alike r p q same xs (and_right (r x) (list_all r xs) all))

pub map_alike : {X Y : Type 0} (r : X → Bool) (f g : X → Y) → ((x : X) → r x ≡ true → f x ≡ g x) → (xs : List X) → list_all r xs ≡ true → map f xs ≡ map g xs
map_alike r f g same [] all = refl
map_alike r f g same (x ∷ xs) all = ap (λ y. y ∷ map f xs) (same x (and_left (r x) (list_all r xs) all)) ∙ ap (λ l. g x ∷ l) (map_alike r f g same xs (and_right (r x) (list_all r xs) all))

pub all_kept_of : {X : Type 0} (r p : X → Bool) (xs : List X) → list_all r xs ≡ true → list_all r (filter p xs) ≡ true
all_kept_of r p [] all = refl
all_kept_of r p (x ∷ xs) all = by (p x) (all_kept_of r p xs (and_right (r x) (list_all r xs) all))
  where
    by : (b : Bool) → list_all r (filter p xs) ≡ true → list_all r (cond b (x ∷ filter p xs) (filter p xs)) ≡ true
    by true ih = and_true (r x) (list_all r (filter p xs)) (and_left (r x) (list_all r xs) all) ih
    by false ih = ih

each_among : (front ss : List Standing) → list_all (λ s. among s.window.0 (front ++ ss)) ss ≡ true
each_among front [] = refl
each_among front (s ∷ ss) =
    and_true (among s.window.0 (front ++ s ∷ ss)) (list_all (λ u. among u.window.0 (front ++ s ∷ ss)) ss)
    (list_any-append (λ u. eqb u.window.0 s.window.0) front (s ∷ ss) ∙ or_second (among s.window.0 front) (among s.window.0 (s ∷ ss)) (or_first (eqb s.window.0 s.window.0) (among s.window.0 ss) (eq-eqb s.window.0 s.window.0 refl)))
    (subst (λ (l : List Standing). list_all (λ u. among u.window.0 l) ss ≡ true) (shifted front) (each_among (front ++ s ∷ []) ss))
  where
    shifted : (xs : List Standing) → (xs ++ s ∷ []) ++ ss ≡ xs ++ s ∷ ss
    shifted [] = refl
    shifted (x ∷ xs) = ap (λ (l : List Standing). x ∷ l) (shifted xs)

zero_apart : (staying : List Hwnd) (w : ℕ) (ss : List Standing) → AllCameNew ss → GoesAlone staying w ss → eqb 0 w ≡ false
zero_apart staying w ss n g = by (eqb 0 w) refl
  where
    by : (b : Bool) → eqb 0 w ≡ b → eqb 0 w ≡ false
    by true is = absurd (false≢true (sym (nobody_stands ss n) ∙ (ap (λ v. among v ss) (eqb-true 0 w is) ∙ g.stands)))
    by false is = is

module _ (staying : List Hwnd) (w : ℕ) (ss : List Standing) (n : AllCameNew ss) (g : GoesAlone staying w ss) where
  parent_goes : (p : ℕ) → (eqb p 0 || among p ss) ≡ true → is_gone staying p ≡ eqb p w
  parent_goes p stands = by (eqb p 0) refl
    where
      by : (b : Bool) → eqb p 0 ≡ b → is_gone staying p ≡ eqb p w
      by true is = ap (is_gone staying) (eqb-true p 0 is) ∙ sym (ap (λ v. eqb v w) (eqb-true p 0 is) ∙ zero_apart staying w ss n g)
      by false is = g.alone p (or_rest (eqb p 0) (among p ss) stands is)

  family_goes : (f : Siblings) → is_family ss f ≡ true → staying_in staying f ≡ without_window w f
  family_goes f is =
      let p = f.parent.0 in
      let windows = and_right (eqb p 0 || among p ss) (list_all (λ v. is_child v.0 p ss) f.windows) is in
      ap (λ (ws : List Hwnd). let h : Siblings = record { parent = f.parent; windows = ws } in h)
      (filter_alike (λ (v : Hwnd). is_child v.0 p ss) (λ v. not (is_gone staying v.0)) (λ v. not (eqb v.0 w)) (λ v c. ap not (g.alone v.0 (child_among v.0 p ss c))) f.windows windows)

  families_go : (fs : List Siblings) → list_all (is_family ss) fs ≡ true → map (staying_in staying) (filter (λ f. not (is_gone staying f.parent.0)) fs) ≡ map (without_window w) (filter (λ f. not (eqb f.parent.0 w)) fs)
  families_go fs all =
      ap (map (staying_in staying)) (filter_alike (is_family ss) (λ f. not (is_gone staying f.parent.0)) (λ f. not (eqb f.parent.0 w)) (λ f is. ap not (parent_goes f.parent.0 (and_left (eqb f.parent.0 0 || among f.parent.0 ss) (list_all (λ v. is_child v.0 f.parent.0 ss) f.windows) is))) fs all)
      ∙ map_alike (is_family ss) (staying_in staying) (without_window w) family_goes (filter (λ f. not (eqb f.parent.0 w)) fs) (all_kept_of (is_family ss) (λ f. not (eqb f.parent.0 w)) fs all)

  it_goes : is_gone staying w ≡ true
  it_goes = g.alone w g.stands ∙ eq-eqb w w refl

-- all others stay
pub kept_is_removed : (staying : List Hwnd) (w : ℕ) (z : Layers) → IsKept z → GoesAlone staying w z.standings → kept staying z ≡ removed w z
kept_is_removed staying w z k g =
    ap (λ (ss : List Standing). let y : Layers = record { standings = ss; families = (kept staying z).families } in y) (filter_alike (λ (s : Standing). among s.window.0 z.standings) (λ s. not (is_gone staying s.window.0)) (λ s. not (eqb s.window.0 w)) (λ s there. ap not (g.alone s.window.0 there)) z.standings (each_among [] z.standings))
    ∙ ap (λ (fs : List Siblings). let y : Layers = record { standings = (removed w z).standings; families = fs } in y) (families_go staying w z.standings k.older g z.families k.families)

-- ---- it has no children and owns nothing

-- neither its parent nor its owner is the window itself
abbrev not_own : Standing → Bool
not_own s = not (eqb s.parent.0 s.window.0) && not (eqb s.owner.0 s.window.0)

none_own : (ss : List Standing) → AllCameNew ss → list_all not_own ss ≡ true
none_own [] n = refl
none_own (s ∷ ss) n =
    and_true (not_own s) (list_all not_own ss)
    (and_true (not (eqb s.parent.0 s.window.0)) (not (eqb s.owner.0 s.window.0))
    (ap not (same_way s.window.0 s.parent.0 false (stands_apart s ss n.0 s.parent.0 (parent (eqb s.parent.0 0) refl))))
    (ap not (same_way s.window.0 s.owner.0 false (stands_apart s ss n.0 s.owner.0 (new_stands s ss n.0)))))
    (none_own ss n.1)
  where
    parent : (b : Bool) → eqb s.parent.0 0 ≡ b → (eqb s.parent.0 0 ≡ true) ⊎ (among s.parent.0 ss ≡ true)
    parent true is = inl is
    parent false is = inr (or_rest (eqb s.parent.0 0) (among s.parent.0 ss) n.0.parent is)

none_under_by : (staying : List Hwnd) (w : ℕ) (s : Standing) (b : Bool) → eqb s.window.0 w ≡ b → is_gone staying w ≡ true → is_gone staying s.window.0 ≡ eqb s.window.0 w → goes_along_with staying s ≡ true → not_own s ≡ true → (not (eqb s.parent.0 w) && not (eqb s.owner.0 w)) ≡ true
none_under_by staying w s true is goes alone along own = subst (λ u. (not (eqb s.parent.0 u) && not (eqb s.owner.0 u)) ≡ true) (eqb-true s.window.0 w is) own
none_under_by staying w s false is goes alone along own =
    let both = or_rest (is_gone staying s.window.0) (not (is_gone staying s.parent.0) && not (is_gone staying s.owner.0)) along (alone ∙ is) in
    and_true (not (eqb s.parent.0 w)) (not (eqb s.owner.0 w)) (far s.parent.0 (eqb s.parent.0 w) refl (and_left (not (is_gone staying s.parent.0)) (not (is_gone staying s.owner.0)) both)) (far s.owner.0 (eqb s.owner.0 w) refl (and_right (not (is_gone staying s.parent.0)) (not (is_gone staying s.owner.0)) both))
  where
    far : (p : ℕ) (b : Bool) → eqb p w ≡ b → not (is_gone staying p) ≡ true → not (eqb p w) ≡ true
    far p true same stays = absurd (true≢false (sym goes ∙ (ap (is_gone staying) (sym (eqb-true p w same)) ∙ not-true (is_gone staying p) stays)))
    far p false differs stays = ap not differs

-- who goes alone is no parent and no owner
pub none_under : (staying : List Hwnd) (w : ℕ) (ss : List Standing) → AllCameNew ss → may_stay staying ss ≡ true → GoesAlone staying w ss → list_all (λ s. not (eqb s.parent.0 w) && not (eqb s.owner.0 w)) ss ≡ true
none_under staying w ss n along g =
    all_both (λ (s : Standing). among s.window.0 ss) (λ s. goes_along_with staying s && not_own s) (λ s. not (eqb s.parent.0 w) && not (eqb s.owner.0 w))
    (λ s there both. none_under_by staying w s (eqb s.window.0 w) refl (it_goes staying w ss n g) (g.alone s.window.0 there) (and_left (goes_along_with staying s) (not_own s) both) (and_right (goes_along_with staying s) (not_own s) both))
    ss (each_among [] ss) (all_both (goes_along_with staying) not_own (λ s. goes_along_with staying s && not_own s) (λ s a b. and_true (goes_along_with staying s) (not_own s) a b) ss along (none_own ss n))

-- ---- how it is found

abbrev is_in : ℕ → List ℕ → Bool
is_in v ks = list_any (λ k. eqb k v) ks

or_swap : (a b : Bool) → (a || b) ≡ (b || a)
or_swap true true = refl
or_swap true false = refl
or_swap false true = refl
or_swap false false = refl

or_last : (a b : Bool) → (a || (b || false)) ≡ (b || a)
or_last true true = refl
or_last true false = refl
or_last false true = refl
or_last false false = refl

among_keys : (es : List (ℕ × Known)) (v : ℕ) → among v (newest_first es) ≡ is_in v (keys_of es)
among_keys [] v = refl
among_keys (e ∷ es) v = ap (among v) (newest_cons e es) ∙ (list_any-append (λ s. eqb s.window.0 v) (newest_first es) (standing e ∷ []) ∙ (or_last (among v (newest_first es)) (eqb e.0 v) ∙ ap (λ b. eqb e.0 v || b) (among_keys es v)))

far_from : (w : ℕ) (ks : List ℕ) → AllByRecursion (λ k. nat_eq w k ≡ false) ks → is_in w ks ≡ false
far_from w [] far = refl
far_from w (k ∷ ks) far = ap (λ b. b || is_in w ks) (same_way w k false far.0) ∙ far_from w ks far.1

at_seam : (P : ℕ → Type 0) (a b : List ℕ) (w : ℕ) → AllByRecursion P (a ++ w ∷ b) → P w
at_seam P [] b w all = all.0
at_seam P (x ∷ a) b w all = at_seam P a b w all.1

once : (a b : List ℕ) (w : ℕ) → IsDistinct nat_eq (a ++ w ∷ b) → is_in w (a ++ b) ≡ false
once [] b w d = far_from w b (IsDistinct-head nat_eq w b d)
once (x ∷ a) b w d = ap (λ t. t || is_in w (a ++ b)) (at_seam (λ k. nat_eq x k ≡ false) a b w (IsDistinct-head nat_eq x (a ++ w ∷ b) d)) ∙ once a b w (IsDistinct-tail nat_eq x (a ++ w ∷ b) d)

others : (a b : List ℕ) (w v : ℕ) → eqb w v ≡ false → is_in v (a ++ w ∷ b) ≡ is_in v (a ++ b)
others [] b w v differs = ap (λ t. t || is_in v b) differs
others (x ∷ a) b w v differs = ap (λ t. eqb x v || t) (others a b w v differs)

found_by : (es : List (ℕ × Known)) (staying : List Hwnd) (a b : List ℕ) (w : ℕ) → IsDistinct nat_eq (keys_of es) → AllCameNew (newest_first es) → keys_of es ≡ a ++ w ∷ b → map (λ (v : Hwnd). v.0) staying ≡ a ++ b → GoesAlone staying w (newest_first es)
found_by es staying a b w d n keys numbers = record { stands = stands; alone = λ v there. by v there (eqb v w) refl }
  where
    here : (a : List ℕ) → is_in w (a ++ w ∷ b) ≡ true
    here [] = or_first (eqb w w) (is_in w b) (eq-eqb w w refl)
    here (x ∷ a) = or_second (eqb x w) (is_in w (a ++ w ∷ b)) (here a)

    stands : among w (newest_first es) ≡ true
    stands = among_keys es w ∙ (ap (is_in w) keys ∙ here a)

    stay : (v : ℕ) → is_among staying v ≡ is_in v (a ++ b)
    stay v = sym (any_over (λ (u : Hwnd). u.0) (λ k. eqb k v) staying) ∙ ap (is_in v) numbers

    some : (v : ℕ) → among v (newest_first es) ≡ true → (b : Bool) → eqb v 0 ≡ b → b ≡ false
    some v there true is = absurd (false≢true (sym (nobody_stands (newest_first es) n) ∙ (ap (λ u. among u (newest_first es)) (sym (eqb-true v 0 is)) ∙ there)))
    some v there false is = refl

    not_false : (c : Bool) → c ≡ false → (not c && not false) ≡ true
    not_false c is = ap (λ t. not t && true) is

    no_more : (c : Bool) → (not c && not true) ≡ false
    no_more true = refl
    no_more false = refl

    by : (v : ℕ) → among v (newest_first es) ≡ true → (c : Bool) → eqb v w ≡ c → is_gone staying v ≡ eqb v w
    by v there true is =
        ap (λ t. not (eqb v 0) && not t) (stay v ∙ (ap (λ u. is_in u (a ++ b)) (eqb-true v w is) ∙ once a b w (subst (IsDistinct nat_eq) keys d)))
        ∙ (not_false (eqb v 0) (some v there (eqb v 0) refl) ∙ sym is)
    by v there false is =
        ap (λ t. not (eqb v 0) && not t) (stay v ∙ (sym (others a b w v (same_way v w false is)) ∙ (sym (ap (is_in v) keys) ∙ (sym (among_keys es v) ∙ there))))
        ∙ (no_more (eqb v 0) ∙ sym is)

rest_of : {X : Type 0} (n : ℕ) (xs : List X) → take (length xs - n) (drop n xs) ≡ drop n xs
rest_of n xs = take_all (length xs - n) (drop n xs) (omega (arith, length-drop n xs))

-- from the place where the numbers part
pub found_alone : (es : List (ℕ × Known)) (ws : List ℕ) (staying : List Hwnd) (at : ℕ) → IsDistinct nat_eq (keys_of es) → AllCameNew (newest_first es) → ws ≡ keys_of es → at < length ws → take at ws ≡ map (λ (v : Hwnd). v.0) (take at staying) → take (length ws - (at + 1)) (drop (at + 1) ws) ≡ map (λ (v : Hwnd). v.0) (take (length staying - at) (drop at staying)) → GoesAlone staying (get_or ws at 0) (newest_first es)
found_alone es ws staying at d n same within front back =
    let w = get_or ws at 0 in
    let rest : drop (at + 1) ws ≡ map (λ (v : Hwnd). v.0) (drop at staying) = sym (rest_of (at + 1) ws) ∙ (back ∙ ap (map (λ (v : Hwnd). v.0)) (rest_of at staying)) in
    found_by es staying (take at ws) (drop (at + 1) ws) w d n
    (sym same ∙ (sym (take-append-drop at ws) ∙ ap (λ (l : List ℕ). take at ws ++ l) (drop-cons ws at 0 within ∙ ap (λ m. w ∷ drop m ws) (sym (add-one at)))))
    (ap (map (λ (v : Hwnd). v.0)) (sym (take-append-drop at staying)) ∙ (map-append (λ (v : Hwnd). v.0) (take at staying) (drop at staying) ∙ (ap (λ (l : List ℕ). l ++ map (λ (v : Hwnd). v.0) (drop at staying)) (sym front) ∙ ap (λ (l : List ℕ). take at ws ++ l) (sym rest))))
