-- The walk in painting order.
use Rattle.std.proofs.Common.{◌≡◌, ◌≢◌, ◌<◌, ◌≤◌, ℕ, zero, suc, ◌+◌, ◌-◌, Bool, true, false, cond, eqb, List, [], ◌∷◌, ◌++◌, length, take, get_or, reverse, Option, Some, None, refl, ap, ◌∙◌, sym, arith}
use Rattle.std.specs.Prelude.{◌&&◌, ◌||◌, ◌↔◌, IsTrue, find, is_some, option_map, unwrap_or}
use Rattle.std.specs.Option.{option_or}
use Rattle.std.specs.List.{flat_map}
use Rattle.std.proofs.lemmas.Bool.{false≢true, true≢false}
use Rattle.std.proofs.lemmas.List.{get_or_default, reverse-append, take_all, take_more}
use Rattle.std.proofs.lemmas.List.Folds.{find-append}
use Rattle.win_num.specs.declared.message.Filter.{Filter}
use Rattle.win_num.specs.declared.message.Hwnd.{Hwnd}
use Rattle.win_num.specs.declared.names.TheConstants.{NO_WINDOW, WM_PAINT}
use Rattle.win_num.specs.Numbers.{passes_range}
use Rattle.win_rows.specs.declared.window.Window.{Window as KeptWindow}
use Rattle.win_rows.specs.Windows.{Windows}
use Rattle.win_rows.specs.Windows as kept
use Rattle.win_tree.specs.Kin as kept_kin
use Rattle.user_model.specs.declared.entry.Setup.{Setup}
use Rattle.user_model.specs.Past.{Past}
use Rattle.user_model.specs.Windows.{Window, is_live, thread_of}
use Rattle.user_model.specs.Filters.{passes_window}
use Rattle.user_model.specs.ZOrder.{siblings}
use Rattle.user_model.specs.Dirty.{has_dirty}
use Rattle.user_model.specs.Painting.{painted_below, wants_paint}
use Rattle.thread_state.specs.Passing.{passes_window_in}
use Rattle.window_state.specs.Trees.{as_made, thread_in, IsTreeAt}
use Rattle.screen_state.specs.Walks.{first_painted}
use Rattle.window_state.proofs.TreeFacts.{is_below_at, is_live_at, window_at}

-- ---- what a window wants

thread_made : (o : Option KeptWindow) → unwrap_or (option_map (λ (x : KeptWindow). x.row.thread.0) o) 0 ≡ unwrap_or (option_map (λ (x : Window). x.thread) (option_map as_made o)) 0
thread_made None = refl
thread_made (Some x) = refl

-- the thread of a window
pub thread_same : (past : Past) (t : Windows) → IsTreeAt past t → (w : ℕ) → thread_in t.live w ≡ thread_of past w
thread_same past t at w = thread_made (kept.window_of t.live w) ∙ ap (λ (o : Option Window). unwrap_or (option_map (λ (x : Window). x.thread) o) 0) (sym (window_at past t at w))

-- whether a filter's window lets a window pass
pub passes_same : (past : Past) (t : Windows) → IsTreeAt past t → (wanted w : ℕ) → passes_window_in t.live wanted w ≡ passes_window past wanted w
passes_same past t at wanted w =
    ap (λ b. eqb wanted 0 || eqb wanted NO_WINDOW && eqb w 0 || b && (eqb w wanted || kept_kin.is_below t.live wanted w)) (sym (is_live_at past t at wanted))
    ∙ ap (λ b. eqb wanted 0 || eqb wanted NO_WINDOW && eqb w 0 || is_live past wanted && (eqb w wanted || b)) (sym (is_below_at past t at wanted w))

pub told_same : (a b : Bool) → IsTrue a ↔ IsTrue b → b ≡ a
told_same true true h = refl
told_same true false h = absurd (false≢true (h.0 refl))
told_same false true h = absurd (false≢true (h.1 refl))
told_same false false h = refl

last_no : (x : Bool) → (x && false) ≡ false
last_no true = refl
last_no false = refl

last_yes : (x : Bool) → (x && true) ≡ x
last_yes true = refl
last_yes false = refl

pub clean_no : (a b c d : Bool) → d ≡ false → false ≡ ((a && (b && c)) && d)
clean_no a b c d h = sym (ap (λ x. (a && (b && c)) && x) h ∙ last_no (a && (b && c)))

pub foreign_no : (a b c d : Bool) → a ≡ false → false ≡ ((a && (b && c)) && d)
foreign_no a b c d h = sym (ap (λ x. (x && (b && c)) && d) h)

pub window_told : (a b c d : Bool) → a ≡ true → b ≡ true → d ≡ true → c ≡ ((a && (b && c)) && d)
window_told a b c d ha hb hd = sym (ap (λ x. (x && (b && c)) && d) ha ∙ (ap (λ x. (x && c) && d) hb ∙ (ap (λ x. c && x) hd ∙ last_yes c)))

-- ---- the walk

module _ (setup : Setup) (past : Past) (t : ℕ) (f : Filter) where
  -- the first to paint of these windows and what stands below them
  abbrev pub walked : ℕ → List Hwnd → Option Hwnd
  walked n vs = find (wants_paint setup past t f) (flat_map (λ v. v ∷ painted_below n past v.0) vs)

  -- the first of them wants it
  walked_self : (n : ℕ) (v : Hwnd) (vs : List Hwnd) → wants_paint setup past t f v ≡ true → walked n (v ∷ vs) ≡ Some v
  walked_self n v vs h = ap (λ b. cond b (Some v) (find (wants_paint setup past t f) (painted_below n past v.0 ++ flat_map (λ v. v ∷ painted_below n past v.0) vs))) h

  -- it doesn't, so the next are those below it, and then the others
  walked_on : (n : ℕ) (v : Hwnd) (vs : List Hwnd) → wants_paint setup past t f v ≡ false → walked n (v ∷ vs) ≡ option_or (find (wants_paint setup past t f) (painted_below n past v.0)) (walked n vs)
  walked_on n v vs h =
      ap (λ b. cond b (Some v) (find (wants_paint setup past t f) (painted_below n past v.0 ++ flat_map (λ v. v ∷ painted_below n past v.0) vs))) h
      ∙ find-append (wants_paint setup past t f) (painted_below n past v.0) (flat_map (λ v. v ∷ painted_below n past v.0) vs)

  walked_below : (n : ℕ) (v u : Hwnd) (vs : List Hwnd) → wants_paint setup past t f v ≡ false → find (wants_paint setup past t f) (painted_below n past v.0) ≡ Some u → walked n (v ∷ vs) ≡ Some u
  walked_below n v u vs h k = walked_on n v vs h ∙ ap (λ o. option_or o (walked n vs)) k

  walked_past : (n : ℕ) (v : Hwnd) (vs : List Hwnd) → wants_paint setup past t f v ≡ false → find (wants_paint setup past t f) (painted_below n past v.0) ≡ None → walked n (v ∷ vs) ≡ walked n vs
  walked_past n v vs h k = walked_on n v vs h ∙ ap (λ o. option_or o (walked n vs)) k

  -- from the top down, the last of the siblings first
  turned : (ss : List Hwnd) (i : ℕ) (v : Hwnd) → i < length ss → v ≡ get_or ss i v → reverse (take (i + 1) ss) ≡ v ∷ reverse (take i ss)
  turned ss i v lt e = ap (λ (xs : List Hwnd). reverse xs) (take_more ss i v lt ∙ ap (λ x. take i ss ++ x ∷ []) (sym e)) ∙ reverse-append (take i ss) (v ∷ [])

  -- the last of the first i wants it not: where there is one below it, it is found, else what is found stands before
  turned_on : (ss : List Hwnd) (i : ℕ) (d : Hwnd) → 0 < i → i ≤ length ss → reverse (take i ss) ≡ get_or ss (i - 1) d ∷ reverse (take (i - 1) ss)
  turned_on ss i d some le =
      let same : i - 1 + 1 ≡ i = omega arith in
      let lt : i - 1 < length ss = omega arith in
      ap (λ m. reverse (take m ss)) (sym same) ∙ turned ss (i - 1) (get_or ss (i - 1) d) lt (get_or_default ss (i - 1) d (get_or ss (i - 1) d) lt)

  pub found_below : (n : ℕ) (ss : List Hwnd) (i : ℕ) (d : Hwnd) → 0 < i → i ≤ length ss → wants_paint setup past t f (get_or ss (i - 1) d) ≡ false → (o : Option Hwnd) → is_some o ≡ true → o ≡ find (wants_paint setup past t f) (painted_below n past (get_or ss (i - 1) d).0) → o ≡ walked n (reverse (take i ss))
  found_below n ss i d some le h None s e = absurd (false≢true s)
  found_below n ss i d some le h (Some u) s e = sym (ap (walked n) (turned_on ss i d some le) ∙ walked_below n (get_or ss (i - 1) d) u (reverse (take (i - 1) ss)) h (sym e))

  pub left_before : (n : ℕ) (ss : List Hwnd) (i : ℕ) (d : Hwnd) → 0 < i → i ≤ length ss → wants_paint setup past t f (get_or ss (i - 1) d) ≡ false → (o : Option Hwnd) → is_some o ≡ false → o ≡ find (wants_paint setup past t f) (painted_below n past (get_or ss (i - 1) d).0) → walked n (reverse (take (i - 1) ss)) ≡ walked n (reverse (take i ss))
  left_before n ss i d some le h None s e = sym (ap (walked n) (turned_on ss i d some le) ∙ walked_past n (get_or ss (i - 1) d) (reverse (take (i - 1) ss)) h (sym e))
  left_before n ss i d some le h (Some u) s e = absurd (true≢false s)

  -- what is found among all siblings is what is found below their parent
  pub walked_all : (n : ℕ) (w : ℕ) (ss : List Hwnd) → n ≢ 0 → ss ≡ siblings past w → walked (n - 1) (reverse (take (length ss) ss)) ≡ first_painted setup past t f n w
  walked_all zero w ss some e = absurd (some refl)
  walked_all (suc n) w ss some e =
      let less : suc n - 1 ≡ n = omega arith in
      ap (λ m. walked m (reverse (take (length ss) ss))) less
      ∙ (ap (λ (xs : List Hwnd). walked n (reverse xs)) (take_all (length ss) ss (omega arith) ∙ e))

  pub none_painted : (vs : List Hwnd) → ((v : Hwnd) → has_dirty setup past v.0 ≡ false) → find (wants_paint setup past t f) vs ≡ None
  none_painted [] h = refl
  none_painted (v ∷ vs) h =
      ap (λ b. cond b (Some v) (find (wants_paint setup past t f) vs)) (sym (clean_no (eqb (thread_of past v.0) t) (passes_range f.min f.max WM_PAINT) (passes_window past f.hwnd v.0) (has_dirty setup past v.0) (h v)))
      ∙ none_painted vs h
