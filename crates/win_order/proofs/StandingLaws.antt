-- Windows that stand, each of which came new to the older ones: their owners, and who stays who he is when others come, go or are flagged.
use Rattle.std.proofs.Common.{◌≡◌, ◌∙◌, ◌⊎◌, ℕ, ◌<◌, List, [], ◌∷◌, length, map, Bool, true, false, cond, not, ◌&&◌, ◌||◌, eqb, refl, sym, ap, subst, arith, inl, inr}
use Rattle.std.specs.List.{filter, list_any, list_all}
use Rattle.std.proofs.lemmas.Bool.{false≢true, eqb-true, ne_eqb, not-true}
use Rattle.std.proofs.lemmas.Map.Views.{any-filter_same}
use Rattle.win_num.specs.declared.message.Hwnd.{Hwnd}
use Rattle.win_order.specs.Standing.{Standing}
use Rattle.win_order.specs.Kept.{AllCameNew, is_child, age_in}
use Rattle.win_order.specs.Layers.{IsNew}
use Rattle.win_order.specs.Standings.{owner_of, is_topmost, top_level, flagged}
use Rattle.win_order.proofs.Booleans.{and_left, and_right, and_true, or_rest, or_right_false, or_second, any_one, keep_first, skip_first}

abbrev pub among : ℕ → List Standing → Bool
among w ss = list_any (λ s. eqb s.window.0 w) ss

abbrev pub CameNew : Standing → List Standing → Type 0
CameNew s ss = IsNew s.window.0 s.parent.0 s.owner.0 (record { standings = ss; families = [] })

pub child_among : (w p : ℕ) (ss : List Standing) → is_child w p ss ≡ true → among w ss ≡ true
child_among w p ss e = any_one (λ (s : Standing). eqb s.window.0 w && eqb s.parent.0 p) (λ s. eqb s.window.0 w) (λ s a. and_left (eqb s.window.0 w) (eqb s.parent.0 p) a) ss e

pub apart : (ss : List Standing) (u w : ℕ) → not (among u ss) ≡ true → among w ss ≡ true → eqb u w ≡ false
apart ss u w fresh there = ne_eqb u w (λ e. false≢true (sym (not-true (among u ss) fresh) ∙ (ap (λ n. among n ss) e ∙ there)))

pub owner_first : (s : Standing) (ss : List Standing) (w : ℕ) → eqb s.window.0 w ≡ true → owner_of (s ∷ ss) w ≡ s.owner
owner_first s ss w e = rw (e, owner_of) refl

owner_next : (s : Standing) (ss : List Standing) (w : ℕ) → eqb s.window.0 w ≡ false → owner_of (s ∷ ss) w ≡ owner_of ss w
owner_next s ss w e = rw (e, owner_of) refl

age_first : (s : Standing) (ss : List Standing) (w : ℕ) → eqb s.window.0 w ≡ true → age_in (s ∷ ss) w ≡ length ss
age_first s ss w e = rw (e, age_in) refl

age_next : (s : Standing) (ss : List Standing) (w : ℕ) → eqb s.window.0 w ≡ false → age_in (s ∷ ss) w ≡ age_in ss w
age_next s ss w e = rw (e, age_in) refl

pub topmost_first : (s : Standing) (ss : List Standing) (w : ℕ) → eqb s.window.0 w ≡ true → is_topmost (s ∷ ss) w ≡ elim s.topmost [ true ↦ true | false ↦ elim (eqb s.owner.0 0) [ true ↦ false | false ↦ is_topmost ss s.owner.0 ] ]
topmost_first s ss w e = rw (e, is_topmost) refl

pub topmost_next : (s : Standing) (ss : List Standing) (w : ℕ) → eqb s.window.0 w ≡ false → is_topmost (s ∷ ss) w ≡ is_topmost ss w
topmost_next s ss w e = rw (e, is_topmost) refl

age_below_by : (s : Standing) (ss : List Standing) (w : ℕ) (b : Bool) → eqb s.window.0 w ≡ b → (b || among w ss) ≡ true → (among w ss ≡ true → age_in ss w < length ss) → age_in (s ∷ ss) w < length (s ∷ ss)
age_below_by s ss w true is e ih = omega (arith, age_first s ss w is)
age_below_by s ss w false is e ih = let lt = ih e in omega (arith, age_next s ss w is, lt)

age_below : (ss : List Standing) (w : ℕ) → among w ss ≡ true → age_in ss w < length ss
age_below [] w e = absurd (false≢true e)
age_below (s ∷ ss) w e = age_below_by s ss w (eqb s.window.0 w) refl e (age_below ss w)

-- an owner that isn't 0 is a top-level window, older than what it owns, and topmost only where that is
pub record OwnerStands (ss : List Standing) (w o : ℕ) : Type 0 where
  pub there : is_child o 0 ss ≡ true
  pub older : age_in ss o < age_in ss w
  pub ordinary : is_topmost ss w ≡ false → is_topmost ss o ≡ false

abbrev pub Owner : List Standing → ℕ → ℕ → Type 0
Owner ss w o = (eqb o 0 ≡ true) ⊎ OwnerStands ss w o

ordinary_by : (t b rest : Bool) → b ≡ false → elim t [ true ↦ true | false ↦ elim b [ true ↦ false | false ↦ rest ] ] ≡ false → rest ≡ false
ordinary_by true b rest f e = absurd (false≢true (sym e))
ordinary_by false true rest f e = absurd (false≢true (sym f))
ordinary_by false false rest f e = e

new_owner : (s : Standing) (ss : List Standing) → CameNew s ss → (w : ℕ) → eqb s.window.0 w ≡ true → (b : Bool) → eqb s.owner.0 0 ≡ b → Owner (s ∷ ss) w s.owner.0
new_owner s ss n w is true none = inl none
new_owner s ss n w is false some =
    let o = s.owner.0 in
    let there : is_child o 0 ss ≡ true = and_right (eqb s.parent.0 0) (is_child o 0 ss) (or_rest (eqb o 0) (eqb s.parent.0 0 && is_child o 0 ss) n.owner some) in
    let differs : eqb s.window.0 o ≡ false = apart ss s.window.0 o n.fresh (child_among o 0 ss there) in
    inr (record {
      there = or_second (eqb s.window.0 o && eqb s.parent.0 0) (is_child o 0 ss) there;
      older = omega (arith, age_next s ss o differs, age_first s ss w is, age_below ss o (child_among o 0 ss there));
      ordinary = λ e. topmost_next s ss o differs ∙ ordinary_by s.topmost (eqb o 0) (is_topmost ss o) some (sym (topmost_first s ss w is) ∙ e);
    })

older_owner : (s : Standing) (ss : List Standing) → CameNew s ss → (w o : ℕ) → eqb s.window.0 w ≡ false → Owner ss w o → Owner (s ∷ ss) w o
older_owner s ss n w o is (inl none) = inl none
older_owner s ss n w o is (inr k) =
    let differs : eqb s.window.0 o ≡ false = apart ss s.window.0 o n.fresh (child_among o 0 ss k.there) in
    inr (record {
      there = or_second (eqb s.window.0 o && eqb s.parent.0 0) (is_child o 0 ss) k.there;
      older = omega (arith, age_next s ss o differs, age_next s ss w is, k.older);
      ordinary = λ e. topmost_next s ss o differs ∙ k.ordinary (sym (topmost_next s ss w is) ∙ e);
    })

owner_stands_by : (s : Standing) (ss : List Standing) → CameNew s ss → (w : ℕ) (b : Bool) → eqb s.window.0 w ≡ b → ((b && eqb s.parent.0 0) || is_child w 0 ss) ≡ true → (is_child w 0 ss ≡ true → Owner ss w (owner_of ss w).0) → Owner (s ∷ ss) w (owner_of (s ∷ ss) w).0
owner_stands_by s ss n w true is e ih = subst (λ (h : Hwnd). Owner (s ∷ ss) w h.0) (sym (owner_first s ss w is)) (new_owner s ss n w is (eqb s.owner.0 0) refl)
owner_stands_by s ss n w false is e ih = subst (λ (h : Hwnd). Owner (s ∷ ss) w h.0) (sym (owner_next s ss w is)) (older_owner s ss n w (owner_of ss w).0 is (ih e))

pub owner_stands : (ss : List Standing) → AllCameNew ss → (w : ℕ) → is_child w 0 ss ≡ true → Owner ss w (owner_of ss w).0
owner_stands [] n w e = absurd (false≢true e)
owner_stands (s ∷ ss) n w e = owner_stands_by s ss n.0 w (eqb s.window.0 w) refl e (owner_stands ss n.1 w)

-- A newer window changes nothing of the others.

pub newer_stays : (s : Standing) (ss : List Standing) (v : Hwnd) → eqb s.window.0 v.0 ≡ false → top_level (s ∷ ss) v ≡ top_level ss v
newer_stays s ss v differs = rw (owner_next s ss v.0 differs, topmost_next s ss v.0 differs) refl

-- A flag of a window changes no place, and of a child no top-level window.

abbrev with_flag : Bool → Bool → Standing → Standing
with_flag b flag s = cond b (record s { topmost = flag }) s

any_flagged_by : (t : Standing → Bool) (flag : Bool) (s : Standing) (b : Bool) → ((s : Standing) (flag : Bool) → t (record s { topmost = flag }) ≡ t s) → t (with_flag b flag s) ≡ t s
any_flagged_by t flag s true same = same s flag
any_flagged_by t flag s false same = refl

any_flagged : (t : Standing → Bool) → ((s : Standing) (flag : Bool) → t (record s { topmost = flag }) ≡ t s) → (w : ℕ) (flag : Bool) (ss : List Standing) → list_any t (map (flagged w flag) ss) ≡ list_any t ss
any_flagged t same w flag [] = refl
any_flagged t same w flag (s ∷ ss) = ap (λ b. b || list_any t (map (flagged w flag) ss)) (any_flagged_by t flag s (eqb s.window.0 w) same) ∙ ap (λ b. t s || b) (any_flagged t same w flag ss)

pub child_flagged : (w : ℕ) (flag : Bool) (ss : List Standing) (v p : ℕ) → is_child v p (map (flagged w flag) ss) ≡ is_child v p ss
child_flagged w flag ss v p = any_flagged (λ s. eqb s.window.0 v && eqb s.parent.0 p) (λ s f. refl) w flag ss

pub among_flagged : (w : ℕ) (flag : Bool) (ss : List Standing) (v : ℕ) → among v (map (flagged w flag) ss) ≡ among v ss
among_flagged w flag ss v = any_flagged (λ s. eqb s.window.0 v) (λ s f. refl) w flag ss

new_over : (s : Standing) (ss us : List Standing) → ((v : ℕ) → among v us ≡ among v ss) → ((v : ℕ) → is_child v 0 us ≡ is_child v 0 ss) → CameNew s ss → CameNew s us
new_over s ss us same child n = record {
  window = n.window;
  fresh = ap not (same s.window.0) ∙ n.fresh;
  parent = ap (λ b. eqb s.parent.0 0 || b) (same s.parent.0) ∙ n.parent;
  owner = ap (λ b. eqb s.owner.0 0 || (eqb s.parent.0 0 && b)) (child s.owner.0) ∙ n.owner;
}

new_flagged_by : (s : Standing) (us : List Standing) (flag b : Bool) → CameNew s us → CameNew (with_flag b flag s) us
new_flagged_by s us flag true n = record { window = n.window; fresh = n.fresh; parent = n.parent; owner = n.owner }
new_flagged_by s us flag false n = n

pub new_flagged : (w : ℕ) (flag : Bool) (ss : List Standing) → AllCameNew ss → AllCameNew (map (flagged w flag) ss)
new_flagged w flag [] n = n
new_flagged w flag (s ∷ ss) n = (new_flagged_by s (map (flagged w flag) ss) flag (eqb s.window.0 w) (new_over s ss (map (flagged w flag) ss) (among_flagged w flag ss) (λ v. child_flagged w flag ss v 0) n.0), new_flagged w flag ss n.1)

owner_flagged_by : (s : Standing) (ss us : List Standing) (flag : Bool) (v : ℕ) (b : Bool) → owner_of us v ≡ owner_of ss v → owner_of (with_flag b flag s ∷ us) v ≡ owner_of (s ∷ ss) v
owner_flagged_by s ss us flag v true ih = ap (λ (h : Hwnd). elim (eqb s.window.0 v) [ true ↦ s.owner | false ↦ h ]) ih
owner_flagged_by s ss us flag v false ih = ap (λ (h : Hwnd). elim (eqb s.window.0 v) [ true ↦ s.owner | false ↦ h ]) ih

owner_flagged : (w : ℕ) (flag : Bool) (ss : List Standing) (v : ℕ) → owner_of (map (flagged w flag) ss) v ≡ owner_of ss v
owner_flagged w flag [] v = refl
owner_flagged w flag (s ∷ ss) v = owner_flagged_by s ss (map (flagged w flag) ss) flag v (eqb s.window.0 w) (owner_flagged w flag ss v)

abbrev topmost_from : Standing → List Standing → Bool
topmost_from s ss = elim s.topmost [ true ↦ true | false ↦ elim (eqb s.owner.0 0) [ true ↦ false | false ↦ is_topmost ss s.owner.0 ] ]

topmost_by : (t b x y : Bool) → (b ≡ false → x ≡ y) → ◌≡◌ {A = Bool} (elim t [ true ↦ true | false ↦ elim b [ true ↦ false | false ↦ x ] ]) (elim t [ true ↦ true | false ↦ elim b [ true ↦ false | false ↦ y ] ])
topmost_by true b x y same = refl
topmost_by false true x y same = refl
topmost_by false false x y same = same refl

topmost_flagged_here : (s : Standing) (ss us : List Standing) → (eqb s.owner.0 0 ≡ false → is_topmost us s.owner.0 ≡ is_topmost ss s.owner.0) → topmost_from s us ≡ topmost_from s ss
topmost_flagged_here s ss us same = topmost_by s.topmost (eqb s.owner.0 0) (is_topmost us s.owner.0) (is_topmost ss s.owner.0) same

topmost_flagged_by : (s : Standing) (ss us : List Standing) → CameNew s ss → (flag : Bool) (w v : ℕ) (a b : Bool) → eqb s.window.0 v ≡ a → eqb s.window.0 w ≡ b → ((b && eqb s.parent.0 0) || is_child w 0 ss) ≡ false → ((a && eqb s.parent.0 0) || is_child v 0 ss) ≡ true → (is_child w 0 ss ≡ false → (u : ℕ) → is_child u 0 ss ≡ true → is_topmost us u ≡ is_topmost ss u) → is_topmost (with_flag b flag s ∷ us) v ≡ is_topmost (s ∷ ss) v
topmost_flagged_by s ss us n flag w v true true isv isw lone there ih =
    let same : w ≡ v = sym (eqb-true s.window.0 w isw) ∙ eqb-true s.window.0 v isv in
    absurd (false≢true (sym lone ∙ (ap (λ u. eqb s.parent.0 0 || is_child u 0 ss) same ∙ there)))
topmost_flagged_by s ss us n flag w v true false isv isw lone there ih =
    topmost_first s us v isv ∙ (topmost_flagged_here s ss us (λ some. ih lone s.owner.0 (and_right (eqb s.parent.0 0) (is_child s.owner.0 0 ss) (or_rest (eqb s.owner.0 0) (eqb s.parent.0 0 && is_child s.owner.0 0 ss) n.owner some))) ∙ sym (topmost_first s ss v isv))
topmost_flagged_by s ss us n flag w v false true isv isw lone there ih =
    topmost_next (record s { topmost = flag }) us v isv ∙ (ih (or_right_false (eqb s.parent.0 0) (is_child w 0 ss) lone) v there ∙ sym (topmost_next s ss v isv))
topmost_flagged_by s ss us n flag w v false false isv isw lone there ih =
    topmost_next s us v isv ∙ (ih lone v there ∙ sym (topmost_next s ss v isv))

topmost_flagged : (w : ℕ) (flag : Bool) (ss : List Standing) → AllCameNew ss → is_child w 0 ss ≡ false → (v : ℕ) → is_child v 0 ss ≡ true → is_topmost (map (flagged w flag) ss) v ≡ is_topmost ss v
topmost_flagged w flag [] n lone v there = refl
topmost_flagged w flag (s ∷ ss) n lone v there = topmost_flagged_by s ss (map (flagged w flag) ss) n.0 flag w v (eqb s.window.0 v) (eqb s.window.0 w) refl refl lone there (λ other u there. topmost_flagged w flag ss n.1 other u there)

pub flagged_stays : (w : ℕ) (flag : Bool) (ss : List Standing) → AllCameNew ss → is_child w 0 ss ≡ false → (v : Hwnd) → is_child v.0 0 ss ≡ true → top_level (map (flagged w flag) ss) v ≡ top_level ss v
flagged_stays w flag ss n lone v there = rw (owner_flagged w flag ss v.0, topmost_flagged w flag ss n lone v.0 there) refl

-- A window that goes with all that have it as their parent or owner changes nothing of the others.

abbrev pub goes_with : (ℕ → Bool) → Standing → Bool
goes_with gone s = gone s.window.0 || (not (gone s.parent.0) && not (gone s.owner.0))

abbrev pub left : (ℕ → Bool) → List Standing → List Standing
left gone ss = filter (λ s. not (gone s.window.0)) ss

pub among_left : (gone : ℕ → Bool) (ss : List Standing) (w : ℕ) → gone w ≡ false → among w (left gone ss) ≡ among w ss
among_left gone ss w stays = any-filter_same (λ s. eqb s.window.0 w) (λ s. not (gone s.window.0)) true (λ s e. ap (λ n. not (gone n)) (eqb-true s.window.0 w e) ∙ ap not stays) ss

pub child_left : (gone : ℕ → Bool) (ss : List Standing) (w p : ℕ) → is_child w p (left gone ss) ≡ (not (gone w) && is_child w p ss)
child_left gone ss w p = any-filter_same (λ s. eqb s.window.0 w && eqb s.parent.0 p) (λ s. not (gone s.window.0)) (not (gone w)) (λ s e. ap (λ n. not (gone n)) (eqb-true s.window.0 w (and_left (eqb s.window.0 w) (eqb s.parent.0 p) e))) ss

or_of : (b c d : Bool) → (b || c) ≡ true → (c ≡ true → d ≡ true) → (b || d) ≡ true
or_of true c d e f = refl
or_of false c d e f = f e

new_left_head : (gone : ℕ → Bool) (s : Standing) (ss : List Standing) → gone s.window.0 ≡ false → goes_with gone s ≡ true → CameNew s ss → CameNew s (left gone ss)
new_left_head gone s ss stays along n =
    let both = or_rest (gone s.window.0) (not (gone s.parent.0) && not (gone s.owner.0)) along stays in
    let parent = not-true (gone s.parent.0) (and_left (not (gone s.parent.0)) (not (gone s.owner.0)) both) in
    let owner = and_right (not (gone s.parent.0)) (not (gone s.owner.0)) both in
    record {
      window = n.window;
      fresh = ap not (among_left gone ss s.window.0 stays) ∙ n.fresh;
      parent = ap (λ b. eqb s.parent.0 0 || b) (among_left gone ss s.parent.0 parent) ∙ n.parent;
      owner = or_of (eqb s.owner.0 0) (eqb s.parent.0 0 && is_child s.owner.0 0 ss) (eqb s.parent.0 0 && is_child s.owner.0 0 (left gone ss)) n.owner (λ e. and_true (eqb s.parent.0 0) (is_child s.owner.0 0 (left gone ss)) (and_left (eqb s.parent.0 0) (is_child s.owner.0 0 ss) e) (child_left gone ss s.owner.0 0 ∙ and_true (not (gone s.owner.0)) (is_child s.owner.0 0 ss) owner (and_right (eqb s.parent.0 0) (is_child s.owner.0 0 ss) e)));
    }

new_left_by : (gone : ℕ → Bool) (s : Standing) (ss : List Standing) (b : Bool) → gone s.window.0 ≡ b → goes_with gone s ≡ true → CameNew s ss → AllCameNew (left gone ss) → AllCameNew (left gone (s ∷ ss))
new_left_by gone s ss true is along n ih = subst AllCameNew (sym (skip_first (λ u. not (gone u.window.0)) s ss (ap not is))) ih
new_left_by gone s ss false is along n ih = subst AllCameNew (sym (keep_first (λ u. not (gone u.window.0)) s ss (ap not is))) (new_left_head gone s ss is along n, ih)

pub new_left : (gone : ℕ → Bool) (ss : List Standing) → list_all (goes_with gone) ss ≡ true → AllCameNew ss → AllCameNew (left gone ss)
new_left gone [] along n = n
new_left gone (s ∷ ss) along n = new_left_by gone s ss (gone s.window.0) refl (and_left (goes_with gone s) (list_all (goes_with gone) ss) along) n.0 (new_left gone ss (and_right (goes_with gone s) (list_all (goes_with gone) ss) along) n.1)

child_along_by : (gone : ℕ → Bool) (s : Standing) (w p : ℕ) → gone w ≡ false → gone p ≡ true → goes_with gone s ≡ true → (eqb s.window.0 w && eqb s.parent.0 p) ≡ true → true ≡ false
child_along_by gone s w p stays goes along e =
    let window = eqb-true s.window.0 w (and_left (eqb s.window.0 w) (eqb s.parent.0 p) e) in
    let parent = eqb-true s.parent.0 p (and_right (eqb s.window.0 w) (eqb s.parent.0 p) e) in
    let both = or_rest (gone s.window.0) (not (gone s.parent.0) && not (gone s.owner.0)) along (ap gone window ∙ stays) in
    sym (ap gone parent ∙ goes) ∙ not-true (gone s.parent.0) (and_left (not (gone s.parent.0)) (not (gone s.owner.0)) both)

-- who stays has no parent that goes
pub child_along : (gone : ℕ → Bool) (ss : List Standing) (w p : ℕ) → list_all (goes_with gone) ss ≡ true → gone p ≡ true → gone w ≡ false → is_child w p ss ≡ false
child_along gone [] w p along goes stays = refl
child_along gone (s ∷ ss) w p along goes stays = child_along_head (eqb s.window.0 w && eqb s.parent.0 p) (is_child w p ss) (child_along_by gone s w p stays goes (and_left (goes_with gone s) (list_all (goes_with gone) ss) along)) (child_along gone ss w p (and_right (goes_with gone s) (list_all (goes_with gone) ss) along) goes stays)
  where
    child_along_head : (a b : Bool) → (a ≡ true → true ≡ false) → b ≡ false → (a || b) ≡ false
    child_along_head true b lone rest = lone refl
    child_along_head false b lone rest = rest

owner_along_by : (gone : ℕ → Bool) (s : Standing) (ss : List Standing) (w : ℕ) (b : Bool) → eqb s.window.0 w ≡ b → goes_with gone s ≡ true → gone w ≡ false → gone (owner_of ss w).0 ≡ false → gone (owner_of (s ∷ ss) w).0 ≡ false
owner_along_by gone s ss w true is along stays ih =
    let both = or_rest (gone s.window.0) (not (gone s.parent.0) && not (gone s.owner.0)) along (ap gone (eqb-true s.window.0 w is) ∙ stays) in
    ap (λ (h : Hwnd). gone h.0) (owner_first s ss w is) ∙ not-true (gone s.owner.0) (and_right (not (gone s.parent.0)) (not (gone s.owner.0)) both)
owner_along_by gone s ss w false is along stays ih = ap (λ (h : Hwnd). gone h.0) (owner_next s ss w is) ∙ ih

-- who stays has no owner that goes
pub owner_along : (gone : ℕ → Bool) (ss : List Standing) (w : ℕ) → gone 0 ≡ false → list_all (goes_with gone) ss ≡ true → gone w ≡ false → gone (owner_of ss w).0 ≡ false
owner_along gone [] w nobody along stays = nobody
owner_along gone (s ∷ ss) w nobody along stays = owner_along_by gone s ss w (eqb s.window.0 w) refl (and_left (goes_with gone s) (list_all (goes_with gone) ss) along) stays (owner_along gone ss w nobody (and_right (goes_with gone s) (list_all (goes_with gone) ss) along) stays)

owner_left_by : (gone : ℕ → Bool) (s : Standing) (ss : List Standing) (w : ℕ) (b c : Bool) → gone s.window.0 ≡ b → eqb s.window.0 w ≡ c → gone w ≡ false → owner_of (left gone ss) w ≡ owner_of ss w → owner_of (left gone (s ∷ ss)) w ≡ owner_of (s ∷ ss) w
owner_left_by gone s ss w true true is isw stays ih = absurd (false≢true (sym stays ∙ (sym (ap gone (eqb-true s.window.0 w isw)) ∙ is)))
owner_left_by gone s ss w true false is isw stays ih = ap (λ l. owner_of l w) (skip_first (λ u. not (gone u.window.0)) s ss (ap not is)) ∙ (ih ∙ sym (owner_next s ss w isw))
owner_left_by gone s ss w false c is isw stays ih = ap (λ l. owner_of l w) (keep_first (λ u. not (gone u.window.0)) s ss (ap not is)) ∙ ap (λ (h : Hwnd). elim (eqb s.window.0 w) [ true ↦ s.owner | false ↦ h ]) ih

owner_left : (gone : ℕ → Bool) (ss : List Standing) (w : ℕ) → gone w ≡ false → owner_of (left gone ss) w ≡ owner_of ss w
owner_left gone [] w stays = refl
owner_left gone (s ∷ ss) w stays = owner_left_by gone s ss w (gone s.window.0) (eqb s.window.0 w) refl refl stays (owner_left gone ss w stays)

topmost_left_by : (gone : ℕ → Bool) (s : Standing) (ss : List Standing) (w : ℕ) (b c : Bool) → gone s.window.0 ≡ b → eqb s.window.0 w ≡ c → goes_with gone s ≡ true → gone w ≡ false → ((u : ℕ) → gone u ≡ false → is_topmost (left gone ss) u ≡ is_topmost ss u) → is_topmost (left gone (s ∷ ss)) w ≡ is_topmost (s ∷ ss) w
topmost_left_by gone s ss w true true is isw along stays ih = absurd (false≢true (sym stays ∙ (sym (ap gone (eqb-true s.window.0 w isw)) ∙ is)))
topmost_left_by gone s ss w true false is isw along stays ih = ap (λ l. is_topmost l w) (skip_first (λ u. not (gone u.window.0)) s ss (ap not is)) ∙ (ih w stays ∙ sym (topmost_next s ss w isw))
topmost_left_by gone s ss w false true is isw along stays ih =
    let both = or_rest (gone s.window.0) (not (gone s.parent.0) && not (gone s.owner.0)) along is in
    let owner = not-true (gone s.owner.0) (and_right (not (gone s.parent.0)) (not (gone s.owner.0)) both) in
    ap (λ l. is_topmost l w) (keep_first (λ u. not (gone u.window.0)) s ss (ap not is)) ∙ (topmost_first s (left gone ss) w isw ∙ (topmost_flagged_here s ss (left gone ss) (λ _. ih s.owner.0 owner) ∙ sym (topmost_first s ss w isw)))
topmost_left_by gone s ss w false false is isw along stays ih =
    ap (λ l. is_topmost l w) (keep_first (λ u. not (gone u.window.0)) s ss (ap not is)) ∙ (topmost_next s (left gone ss) w isw ∙ (ih w stays ∙ sym (topmost_next s ss w isw)))

pub topmost_left : (gone : ℕ → Bool) (ss : List Standing) → list_all (goes_with gone) ss ≡ true → (w : ℕ) → gone w ≡ false → is_topmost (left gone ss) w ≡ is_topmost ss w
topmost_left gone [] along w stays = refl
topmost_left gone (s ∷ ss) along w stays = topmost_left_by gone s ss w (gone s.window.0) (eqb s.window.0 w) refl refl (and_left (goes_with gone s) (list_all (goes_with gone) ss) along) stays (λ u there. topmost_left gone ss (and_right (goes_with gone s) (list_all (goes_with gone) ss) along) u there)

pub left_stays : (gone : ℕ → Bool) (ss : List Standing) → list_all (goes_with gone) ss ≡ true → (v : Hwnd) → gone v.0 ≡ false → top_level (left gone ss) v ≡ top_level ss v
left_stays gone ss along v stays = rw (owner_left gone ss v.0 stays, topmost_left gone ss along v.0 stays) refl
