-- Outcomes that aren't refused, and edges that are handed on.
use Rattle.std.proofs.Common.{◌≡◌, ◌↔◌, ℕ, Bool, true, false, arith, Option, Some, None, Result, Ok, Err, IsTrue, IsOk, IsErr, refl, ◌∙◌, rules}
use Rattle.win_num.specs.declared.code.Code.{Code}
use Rattle.win_num.specs.declared.code.Fault.{Fault}
use Rattle.win_num.specs.declared.code.Fault.TheVariants.{Refused, Memory}
use Rattle.std.specs.Prelude.{ℤ, IfOk, OnOk}
use Rattle.std.proofs.lemmas.Int.{ints, to_z-of_z}
use mir.Val.{SFits, of_z, to_z}
use mir.Syntax.{w32, w64}
use Rattle.win_num.specs.PixelSets.{box, is_bad_rect}
use Rattle.win_num.specs.declared.shapes.BadRect.{BadRect}
use Rattle.win_num.specs.declared.shapes.Rect.{Rect}
use Rattle.win_num.specs.Rects.{box_in}
use Rattle.win_rows.specs.declared.row.WindowRow.{WindowRow}
use Rattle.win_rows.specs.Windows.{Windows}
use Rattle.win_tree.specs.Kin.{with_window}
use Rattle.user_model.specs.declared.call.Call.TheVariants.{NewWindow}
use Rattle.window_state.specs.Effects.{IsMadeBy, IsRowOf}
use Rattle.window_state.specs.Needs.{IsAnswered}

-- where there is no reason for a refusal, none comes
pub answered : {A : Type 0} (r : Result A Fault) (o : Option Code) → ((code : Code) → (r ≡ Err (Refused code)) ↔ (o ≡ Some code)) → o ≡ None → IsAnswered r
answered (Ok a) o told none = tt
answered (Err Memory) o told none = tt
answered (Err (Refused code)) o told none = absurd (let why : o ≡ Some code = (told code).0 refl in cc)

pub done : {A : Type 0} (r : Result A Code) (o : Option Code) → ((code : Code) → (r ≡ Err code) ↔ (o ≡ Some code)) → o ≡ None → IsOk r
done (Ok a) o told none = search rules
done (Err code) o told none = absurd (let why : o ≡ Some code = (told code).0 refl in cc)

-- a test that tells an error and doesn't hold
pub fine : {A E : Type 0} (r : Result A E) (b : Bool) → (IsErr r ↔ IsTrue b) → b ≡ false → IsOk r
fine (Ok a) b told off = search rules
fine (Err e) true told off = absurd cc
fine (Err e) false told off = absurd (search (rules, told.0))

-- a window was made with its row
pub made : {E : Type 0} (r : Result (Unit {0}) E) (who class title parent style ex : ℕ) (l t r' b : ℤ) (old new : Windows) (row : WindowRow) → IsRowOf who class title parent style ex row → box_in row.place ≡ box l t r' b → OnOk r (new ≡ with_window old row) → OnOk r (IsMadeBy who (NewWindow class title parent style ex l t r' b) old new)
made (Ok u) who class title parent style ex l t r' b old new row is place now = (row, is, place, now)
made (Err e) who class title parent style ex l t r' b old new row is place now = tt

-- edges that are a rectangle, as they were passed
pub fine_rect : (o : Result Rect BadRect) (l' t' r' b' l t r b : ℤ) → (IsErr o ↔ IsTrue (is_bad_rect l' t' r' b')) → l' ≡ l → t' ≡ t → r' ≡ r → b' ≡ b → is_bad_rect l t r b ≡ false → IsOk o
fine_rect o l' t' r' b' l t r b told el et er eb off = fine o (is_bad_rect l' t' r' b') told (rw (el, et, er, eb) off)

-- the rectangle has these edges
pub has_edges : (o : Result Rect BadRect) (x : Rect) (l' t' r' b' l t r b : ℤ) → o ≡ Ok x → IfOk o (λ x. box_in x ≡ box l' t' r' b') → l' ≡ l → t' ≡ t → r' ≡ r → b' ≡ b → box_in x ≡ box l t r b
has_edges o x l' t' r' b' l t r b is told el et er eb = (rw is at told) ∙ rw (el, et, er, eb) refl

-- an edge as it was passed on
pub passed_on : (l r : ℤ) → SFits w64 l → SFits w32 r → r ≡ to_z w64 (of_z w64 l) → to_z w32 (of_z w32 r) ≡ l
passed_on l r wide fits e = to_z-of_z w32 r fits ∙ e ∙ to_z-of_z w64 l wide

-- the edges of a rectangle are handed on as they are
pub same_box : (l t r b : ℤ) → is_bad_rect l t r b ≡ false → box (to_z w64 (of_z w64 l)) (to_z w64 (of_z w64 t)) (to_z w64 (of_z w64 r)) (to_z w64 (of_z w64 b)) ≡ box l t r b
same_box l t r b off =
    let fl : SFits w64 l = grind (arith, ints) in
    let ft : SFits w64 t = grind (arith, ints) in
    let fr : SFits w64 r = grind (arith, ints) in
    let fb : SFits w64 b = grind (arith, ints) in
    rw (to_z-of_z w64 l fl, to_z-of_z w64 t ft, to_z-of_z w64 r fr, to_z-of_z w64 b fb) refl
