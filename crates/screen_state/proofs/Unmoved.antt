-- No call but Place gives a window that stays another rectangle on the screen.
use Rattle.std.proofs.Common.{◌≡◌, ◌∙◌, ℕ, zero, suc, ◌+◌, Bool, true, false, not, cond, eqb, List, [], ◌∷◌, ◌++◌, length, filter, Some, None, append-nil, refl, sym, ap, inl, inr, arith}
use Rattle.std.specs.Prelude.{ℤ, pos, is_some}
use Rattle.std.proofs.lemmas.Bool.{eqb-true, eq-eqb, ne_eqb, false≢true}
use Rattle.win_num.specs.declared.message.Hwnd.{Hwnd}
use Rattle.win_num.specs.declared.message.Thread.{Thread}
use Rattle.win_num.specs.declared.shapes.Point.{Point}
use Rattle.win_num.specs.PixelSets.{Box, same_box}
use Rattle.win_rows.specs.Windows.{Windows}
use Rattle.win_order.specs.Layers.{Layers}
use Rattle.user_model.specs.declared.call.Call.{Call}
use Rattle.user_model.specs.declared.call.Call.TheVariants as calls
use Rattle.user_model.specs.declared.entry.Answer.{Answer}
use Rattle.user_model.specs.declared.entry.Answer.TheVariants as answers
use Rattle.user_model.specs.declared.entry.Entry.{Entry}
use Rattle.user_model.specs.declared.entry.Setup.{Setup}
use Rattle.user_model.specs.Past.{Past, is_refused}
use Rattle.user_model.specs.Dirty.{moves}
use Rattle.user_model.specs.Legal.{IsLawful}
use Rattle.user_model.specs.Looks.{Look, look, place_of, set_look, shown_look}
use Rattle.user_model.specs.Machines.{entry_of}
use Rattle.user_model.specs.Pixels.{box_of, corner_from, origin, origin_within, point, shifted}
use Rattle.user_model.specs.Windows.{Window, drops, find_window, is_live, live, parent_in, up, window, windows_made}
use Rattle.user_model.proofs.Forests.{IsUnder, thread_found}
use Rattle.user_model.proofs.KeptWindows.{window-kept}
use Rattle.user_model.proofs.LiveWindows.{makes, sound}
use Rattle.user_model.proofs.WindowFacts.{live_under, live_window, live_within}
use Rattle.user_model.proofs.WindowLaws.{live-next, live-refused}
use Rattle.user_model.proofs.WindowLooks.{look-other, look-same, shape-same}
use Rattle.window_state.specs.Boxes.{AreMoved}
use Rattle.window_state.proofs.BoxLaws.{IsKnown, are_moved}
use Rattle.window_state.proofs.Standings.{found_out, parent_found}
use Rattle.window_state.proofs.TreeFacts.{is_live_at}
use Rattle.window_state.proofs.TreeSteps.{tree_after}
use Rattle.screen_state.specs.Entries.{IsEntered, IsMade}
use Rattle.screen_state.specs.Owned.{IsNext}
use Rattle.screen_state.proofs.Screens.{same_box-self}

-- whether the call puts a window at a place
abbrev pub is_place : Call → Bool
is_place (calls.Place w after l t r b flags) = true
is_place _ = false

pub unlike_place : (call : Call) → ((w : ℕ) (after l t r b : ℤ) (flags : ℕ) → call ≡ calls.Place w after l t r b flags → ⊥) → is_place call ≡ false
unlike_place (calls.Place w after l t r b flags) other = absurd (other w after l t r b flags refl)
unlike_place _ other = refl

-- ---- a window that stays

-- a window that is live before an entry and after it is the same window
pub same_window : (setup : Setup) (past : Past) (e : Entry) (v : ℕ) (x : Window) → IsLawful setup (e ∷ past) → window past v ≡ Some x → is_live (e ∷ past) v ≡ true → window (e ∷ past) v ≡ Some x
same_window setup past e v x lawful found lives = by (drops e (live past) x) refl
  where
    left_out : drops e (live past) x ≡ true → (b : Bool) → is_refused e ≡ b → window (e ∷ past) v ≡ Some x
    left_out k true h = ap (λ (ws : List Window). find_window ws v) (live-refused e past h) ∙ found
    left_out k false h = elim (makes setup past e.who e.call e.answer lawful.1 (sound setup past lawful.0).under) [
      | inl none ↦ (
          let left : live (e ∷ past) ≡ filter (λ y. not (drops e (live past) y)) (live past) =
          live-next e past h ∙ (ap (λ us. filter (λ y. not (drops e (live past) y)) (live past) ++ us) none.none ∙ append-nil (filter (λ y. not (drops e (live past) y)) (live past))) in
          let gone : window (e ∷ past) v ≡ None =
          ap (λ (ws : List Window). find_window ws v) left ∙ found_out (λ y. not (drops e (live past) y)) 15 (15 + length (windows_made past)) (live past) v x (sound setup past lawful.0).rising found (ap not k) in
          absurd (false≢true (sym (ap is_some gone) ∙ lives)))
      | inr one ↦ absurd (false≢true (sym (one.keeps x) ∙ k))
    ]

    by : (b : Bool) → drops e (live past) x ≡ b → window (e ∷ past) v ≡ Some x
    by true k = left_out k (is_refused e) refl
    by false k = window-kept e past v x found k

-- a new window has another number
new_other : (setup : Setup) (past : Past) (who : Thread) (name title parent style ex : ℕ) (l t r b : ℤ) (u : Hwnd) (v : ℕ)
    → IsLawful setup (entry_of who (calls.NewWindow name title parent style ex l t r b) (answers.Window u) ∷ past) → is_live past v ≡ true → eqb u.0 v ≡ false
new_other setup past who name title parent style ex l t r b u v lawful lives = elim (makes setup past who (calls.NewWindow name title parent style ex l t r b) (answers.Window u) lawful.1 (sound setup past lawful.0).under) [
  | inl none ↦ (let made : u.0 ∷ [] ≡ [] = none.no_number in absurd cc)
  | inr one ↦ (
      let made : u.0 ∷ [] ≡ one.z.number ∷ [] = one.number in
      let same : u.0 ≡ one.z.number = cc in
      ne_eqb u.0 v (λ (is : u.0 ≡ v). absurd (omega (arith, is, same, one.is_next, (live_within setup past v lawful.0 lives).1))))
]

set_place : (v w : ℕ) (a : Answer) (on : Bool) (old : Look) → (set_look v w a (shown_look on old) old).place ≡ old.place
set_place v w (answers.Value n) on old = by (eqb v w)
  where
    by : (c : Bool) → (cond c (shown_look on old) old).place ≡ old.place
    by true = refl
    by false = refl
set_place v w _ on old = refl

place_by : (setup : Setup) (past : Past) (who : Thread) (call : Call) (a : Answer) (v : ℕ) → IsLawful setup (entry_of who call a ∷ past) → is_place call ≡ false → is_live past v ≡ true → place_of (entry_of who call a ∷ past) v ≡ place_of past v
place_by setup past who (calls.Place w after l t r b flags) a v lawful other lives = absurd (false≢true (sym other))
place_by setup past who (calls.NewWindow name title parent style ex l t r b) (answers.Window u) v lawful other lives =
    ap (λ (k : Look). k.place) (look-other past who name title parent style ex l t r b u v (new_other setup past who name title parent style ex l t r b u v lawful lives))
place_by setup past who (calls.NewWindow name title parent style ex l t r b) a v lawful other lives = ap (λ (k : Look). k.place) (look-same (entry_of who (calls.NewWindow name title parent style ex l t r b) a) past v refl)
place_by setup past who (calls.Show w on) a v lawful other lives = by (is_refused (entry_of who (calls.Show w on) a))
  where
    by : (c : Bool) → (elim c as (λ q. Look) [ true ↦ look past v | false ↦ set_look w v a (shown_look (eqb on 1) (look past v)) (look past v) ]).place ≡ place_of past v
    by true = refl
    by false = set_place w v a (eqb on 1) (look past v)
place_by setup past who call a v lawful other lives = (shape-same (entry_of who call a) past v refl).place

-- ---- no window that stays moves

-- what a live window stands in is 0, or is live
pub parent_known : (setup : Setup) (past : Past) (v : ℕ) (x : Window) → IsLawful setup past → window past v ≡ Some x → IsKnown past x.parent
parent_known setup past v x lawful found = pick (eqb x.parent 0) refl (live_under setup past v x lawful found)
  where
    pick : (b : Bool) → eqb x.parent 0 ≡ b → IsUnder (live past) x → IsKnown past x.parent
    pick true h under = inl (eqb-true x.parent 0 h)
    pick false h under =
        let is : up x ≡ x.parent = ap (λ b. cond b x.owner x.parent) h in
        elim under [
          | inl none ↦ inl (sym is ∙ none)
          | inr same ↦ (let over = thread_found (live past) (up x) x.thread same in inr (ap (is_live past) (sym is) ∙ ap is_some over.1))
        ]

-- one step up
abbrev pub stepped : ℕ → Point → Box → Point
stepped v o b = elim (eqb v 0) as (λ q. Point) [ true ↦ point (pos 0) (pos 0) | false ↦ corner_from o b ]

pub at_zero : (n : ℕ) (past : Past) (v : ℕ) → v ≡ 0 → origin_within n past v ≡ point (pos 0) (pos 0)
at_zero zero past v none = refl
at_zero (suc n) past v none = ap (λ b. elim b as (λ q. Point) [ true ↦ point (pos 0) (pos 0) | false ↦ corner_from (origin_within n past (parent_in (live past) v)) (place_of past v) ]) (eq-eqb v 0 none)

module _ (setup : Setup) (past : Past) (e : Entry) (lawful : IsLawful setup (e ∷ past)) (other : is_place e.call ≡ false) where
  abbrev later : Past
  later = e ∷ past

  same_place : (v : ℕ) → is_live past v ≡ true → place_of later v ≡ place_of past v
  same_place v lives = place_by setup past e.who e.call e.answer v lawful other lives

  -- how far a window that stays stands from what it stands in
  same_origin : (n v : ℕ) → IsKnown past v → IsKnown later v → origin_within n later v ≡ origin_within n past v
  same_origin n v (inl none) there = at_zero n later v none ∙ sym (at_zero n past v none)
  same_origin n v (inr lives) (inl none) = at_zero n later v none ∙ sym (at_zero n past v none)
  same_origin zero v (inr lives) (inr left) = refl
  same_origin (suc n) v (inr lives) (inr left) =
      let found = live_window past v lives in
      let x = found.0 in
      let there = same_window setup past e v x lawful found.1 left in
      ap (λ q. stepped v (origin_within n later q) (place_of later v)) (parent_found later v x there)
      ∙ (ap (λ o. stepped v o (place_of later v)) (same_origin n x.parent (parent_known setup past v x lawful.0 found.1) (parent_known setup later v x lawful there))
      ∙ (ap (stepped v (origin_within n past x.parent)) (same_place v lives)
      ∙ sym (ap (λ q. stepped v (origin_within n past q) (place_of past v)) (parent_found past v x found.1))))

  same_rectangle : (w : ℕ) → is_live past w ≡ true → is_live later w ≡ true → box_of later w ≡ box_of past w
  same_rectangle w lives left =
      let found = live_window past w lives in
      let x = found.0 in
      let there = same_window setup past e w x lawful found.1 left in
      ap (λ q. shifted (origin later q) (place_of later w)) (parent_found later w x there)
      ∙ (ap (λ o. shifted o (place_of later w)) (same_origin x.parent x.parent (parent_known setup past w x lawful.0 found.1) (parent_known setup later w x lawful there))
      ∙ (ap (shifted (origin past x.parent)) (same_place w lives)
      ∙ sym (ap (λ q. shifted (origin past q) (place_of past w)) (parent_found past w x found.1))))

  pub unmoved : (w : ℕ) → is_live past w ≡ true → is_live later w ≡ true → moves e past w ≡ false
  unmoved w lives left = ap (λ (b : Box). not (same_box b (box_of past w))) (same_rectangle w lives left) ∙ ap not (same_box-self (box_of past w))

-- ---- tables

-- the table that an entry makes
pub made_of : (setup : Setup) (t t2 : Windows) (z z2 : Layers) (e : Entry) → IsNext setup t z e → IsEntered e.who.0 e.answer e.call t t2 z z2 → IsMade t t2 e
made_of setup t t2 z z2 e n made = record {
  setup = setup;
  past = n.past;
  lawful = (n.lawful, n.right);
  before = n.tree;
  after = tree_after setup n.past e t made.grown t2 n.lawful n.tree n.right made.added made.settled;
}

-- where no call but Place made one of another, no window that is in both has moved
pub none_moved : (t t2 : Windows) (e : Entry) → IsMade t t2 e → is_place e.call ≡ false → AreMoved t t2 []
none_moved t t2 e made other setup past f lawful before after w was is =
    let lives : is_live made.past w ≡ true = is_live_at made.past t made.before w ∙ (sym (is_live_at past t before w) ∙ was) in
    let left : is_live (e ∷ made.past) w ≡ true = is_live_at (e ∷ made.past) t2 made.after w ∙ (sym (is_live_at (f ∷ past) t2 after w) ∙ is) in
    sym (unmoved made.setup made.past e made.lawful other w lives left)
    ∙ (sym (are_moved t t2 made.setup made.past e made.lawful made.before made.after w lives left)
    ∙ are_moved t t2 setup past f lawful before after w was is)
