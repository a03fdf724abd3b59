-- The pieces of the default procedure: those of the compound inside of it, if there is one, or its result alone.
use Rattle.std.proofs.Common.{◌≡◌, ◌≢◌, ℕ, Bool, true, false, List, [], ◌∷◌, ◌++◌, refl, sym, ap, ◌∙◌, subst, arith}
use Rattle.std.specs.Prelude.{◌==◌, not, ◌&&◌, if◌then◌else◌, Option, Some, None}
use Rattle.user_model.specs.declared.call.Call.TheVariants.{SetFocus, ReleaseCapture}
use Rattle.user_model.specs.declared.entry.Answer.TheVariants.{Value}
use Rattle.script_tree.specs.declared.messages.TheConstants.{WM_PAINT, WM_ERASEBKGND, WM_CLOSE, WM_ACTIVATE, WM_CANCELMODE}
use Rattle.script_tree.specs.declared.frame.Begin.{Begin}
use Rattle.script_tree.specs.declared.frame.Place.TheVariants.{Defaulting}
use Rattle.script_tree.specs.declared.variables.Parameters.{Parameters}
use Rattle.script_tree.specs.Compounds.{destruction, cleaning, erasing, notifying, activates, default_begin, default_result}
use Rattle.script_tree.specs.Pieces.{Piece, Giving, Feed}
use Rattle.script_tree.specs.Steps.{begun_over, default_over, default_pieces}
use Rattle.script_tree.proofs.Numbers.{same_number, other_number, number_is}

over_either : (P : List Piece → Type 0) (o : Option Begin) (x : ℕ) (ps : List Piece) → ((b : Begin) → Some b ≡ o → P (begun_over b (Feed (Defaulting x) ∷ ps))) → (None ≡ o → P (Giving (Value x) ∷ ps)) → P (default_over o x ps)
over_either P (Some b) x ps f g = f b refl
over_either P None x ps f g = g refl

-- what holds of the pieces of each compound that it begins with, and of its result alone, holds of those that come
pub default_either : (P : List Piece → Type 0) (p : Parameters) (ps : List Piece) → ((b : Begin) → Some b ≡ default_begin p → P (begun_over b (Feed (Defaulting (default_result p)) ∷ ps))) → (None ≡ default_begin p → P (Giving (Value (default_result p)) ∷ ps)) → P (default_pieces p ps)
default_either P p ps f g = over_either P (default_begin p) (default_result p) ps f g

-- the compound inside of it by the tests that the message passes
abbrev begin_by : Parameters → Bool → Bool → Bool → Bool → Bool → Option Begin
begin_by p a b c d e = if a then Some (destruction p.hwnd) else if b then Some (cleaning p.hwnd) else if c then Some (erasing p.hwnd) else if d then Some (notifying (SetFocus p.hwnd)) else if e then Some (notifying ReleaseCapture) else None

by_tests : (P : Begin → Type 0) (p : Parameters) (a b c d e : Bool) (begin : Begin) → Some begin ≡ begin_by p a b c d e → (a ≡ true → P (destruction p.hwnd)) → (b ≡ true → P (cleaning p.hwnd)) → (c ≡ true → P (erasing p.hwnd)) → (d ≡ true → P (notifying (SetFocus p.hwnd))) → (e ≡ true → P (notifying ReleaseCapture)) → P begin
by_tests P p true b c d e begin h f1 f2 f3 f4 f5 = let same : begin ≡ destruction p.hwnd = cc in subst P (sym same) (f1 refl)
by_tests P p false true c d e begin h f1 f2 f3 f4 f5 = let same : begin ≡ cleaning p.hwnd = cc in subst P (sym same) (f2 refl)
by_tests P p false false true d e begin h f1 f2 f3 f4 f5 = let same : begin ≡ erasing p.hwnd = cc in subst P (sym same) (f3 refl)
by_tests P p false false false true e begin h f1 f2 f3 f4 f5 = let same : begin ≡ notifying (SetFocus p.hwnd) = cc in subst P (sym same) (f4 refl)
by_tests P p false false false false true begin h f1 f2 f3 f4 f5 = let same : begin ≡ notifying ReleaseCapture = cc in subst P (sym same) (f5 refl)
by_tests P p false false false false false begin h f1 f2 f3 f4 f5 = absurd cc

-- what holds of each of them holds of the one that comes
pub each_begin : (P : Begin → Type 0) (p : Parameters) (b : Begin) → Some b ≡ default_begin p → ((p.number == WM_CLOSE) ≡ true → P (destruction p.hwnd)) → ((p.number == WM_PAINT) ≡ true → P (cleaning p.hwnd)) → ((p.number == WM_ERASEBKGND) ≡ true → P (erasing p.hwnd)) → (activates p ≡ true → P (notifying (SetFocus p.hwnd))) → ((p.number == WM_CANCELMODE) ≡ true → P (notifying ReleaseCapture)) → P b
each_begin P p b h = by_tests P p (p.number == WM_CLOSE) (p.number == WM_PAINT) (p.number == WM_ERASEBKGND) (activates p) (p.number == WM_CANCELMODE) b h

-- none comes where the message passes no test
abbrev pub PassesNone : Parameters → Type 0
PassesNone p = ((p.number == WM_CLOSE) ≡ false) × ((p.number == WM_PAINT) ≡ false) × ((p.number == WM_ERASEBKGND) ≡ false) × (activates p ≡ false) × ((p.number == WM_CANCELMODE) ≡ false)

none_by : (p : Parameters) (a b c d e : Bool) → None ≡ begin_by p a b c d e → (a ≡ false) × (b ≡ false) × (c ≡ false) × (d ≡ false) × (e ≡ false)
none_by p true b c d e h = absurd cc
none_by p false true c d e h = absurd cc
none_by p false false true d e h = absurd cc
none_by p false false false true e h = absurd cc
none_by p false false false false true h = absurd cc
none_by p false false false false false h = (refl, refl, refl, refl, refl)

pub no_begin : (p : Parameters) → None ≡ default_begin p → PassesNone p
no_begin p h = none_by p (p.number == WM_CLOSE) (p.number == WM_PAINT) (p.number == WM_ERASEBKGND) (activates p) (p.number == WM_CANCELMODE) h

-- which comes for which message
begins_by : (p : Parameters) (a b c d e : Bool) → (p.number == WM_CLOSE) ≡ a → (p.number == WM_PAINT) ≡ b → (p.number == WM_ERASEBKGND) ≡ c → activates p ≡ d → (p.number == WM_CANCELMODE) ≡ e → default_begin p ≡ begin_by p a b c d e
begins_by p a b c d e h1 h2 h3 h4 h5 =
    ap (λ z. begin_by p z (p.number == WM_PAINT) (p.number == WM_ERASEBKGND) (activates p) (p.number == WM_CANCELMODE)) h1
    ∙ ap (λ z. begin_by p a z (p.number == WM_ERASEBKGND) (activates p) (p.number == WM_CANCELMODE)) h2
    ∙ ap (λ z. begin_by p a b z (activates p) (p.number == WM_CANCELMODE)) h3
    ∙ ap (λ z. begin_by p a b c z (p.number == WM_CANCELMODE)) h4
    ∙ ap (λ z. begin_by p a b c d z) h5

pub close_begins : (p : Parameters) → p.number ≡ WM_CLOSE → default_begin p ≡ Some (destruction p.hwnd)
close_begins p h = begins_by p true (p.number == WM_PAINT) (p.number == WM_ERASEBKGND) (activates p) (p.number == WM_CANCELMODE) (same_number p.number WM_CLOSE h) refl refl refl refl

pub paint_begins : (p : Parameters) → p.number ≡ WM_PAINT → default_begin p ≡ Some (cleaning p.hwnd)
paint_begins p h = begins_by p false true (p.number == WM_ERASEBKGND) (activates p) (p.number == WM_CANCELMODE) (other_number p.number WM_CLOSE (λ e. absurd (omega arith))) (same_number p.number WM_PAINT h) refl refl refl

pub erase_begins : (p : Parameters) → p.number ≡ WM_ERASEBKGND → default_begin p ≡ Some (erasing p.hwnd)
erase_begins p h = begins_by p false false true (activates p) (p.number == WM_CANCELMODE) (other_number p.number WM_CLOSE (λ e. absurd (omega arith))) (other_number p.number WM_PAINT (λ e. absurd (omega arith))) (same_number p.number WM_ERASEBKGND h) refl refl

activates_so : (p : Parameters) → p.number ≡ WM_ACTIVATE → p.wparam ≢ 0 → activates p ≡ true
activates_so p h g = ap (λ z. z && not (p.wparam == 0)) (same_number p.number WM_ACTIVATE h) ∙ ap not (other_number p.wparam 0 g)

pub activate_begins : (p : Parameters) → p.number ≡ WM_ACTIVATE → p.wparam ≢ 0 → default_begin p ≡ Some (notifying (SetFocus p.hwnd))
activate_begins p h g = begins_by p false false false true (p.number == WM_CANCELMODE) (other_number p.number WM_CLOSE (λ e. absurd (omega arith))) (other_number p.number WM_PAINT (λ e. absurd (omega arith))) (other_number p.number WM_ERASEBKGND (λ e. absurd (omega arith))) (activates_so p h g) refl

pub cancel_begins : (p : Parameters) → p.number ≡ WM_CANCELMODE → default_begin p ≡ Some (notifying ReleaseCapture)
cancel_begins p h =
    begins_by p false false false false true (other_number p.number WM_CLOSE (λ e. absurd (omega arith))) (other_number p.number WM_PAINT (λ e. absurd (omega arith))) (other_number p.number WM_ERASEBKGND (λ e. absurd (omega arith)))
    (ap (λ z. z && not (p.wparam == 0)) (other_number p.number WM_ACTIVATE (λ e. absurd (omega arith)))) (same_number p.number WM_CANCELMODE h)

quiet_by : (p : Parameters) (b : Bool) → (p.number == WM_ACTIVATE) ≡ b → (p.number ≡ WM_ACTIVATE → p.wparam ≡ 0) → activates p ≡ false
quiet_by p true h g = ap (λ z. z && not (p.wparam == 0)) h ∙ ap not (same_number p.wparam 0 (g (number_is p.number WM_ACTIVATE h)))
quiet_by p false h g = ap (λ z. z && not (p.wparam == 0)) h

pub other_begins : (p : Parameters) → p.number ≢ WM_CLOSE → p.number ≢ WM_PAINT → p.number ≢ WM_ERASEBKGND → (p.number ≡ WM_ACTIVATE → p.wparam ≡ 0) → p.number ≢ WM_CANCELMODE → default_begin p ≡ None
other_begins p f g e a c =
    begins_by p false false false false false (other_number p.number WM_CLOSE f) (other_number p.number WM_PAINT g) (other_number p.number WM_ERASEBKGND e)
    (quiet_by p (p.number == WM_ACTIVATE) refl a) (other_number p.number WM_CANCELMODE c)

-- and the other way round
and_first : (b c : Bool) → (b && c) ≡ true → b ≡ true
and_first true c h = refl
and_first false c h = absurd cc

and_second : (b c : Bool) → (b && c) ≡ true → c ≡ true
and_second true c h = h
and_second false c h = absurd cc

and_not : (b c : Bool) → (b && c) ≡ false → b ≡ true → c ≡ false
and_not true c h k = h
and_not false c h k = absurd cc

not_true : (b : Bool) → not b ≡ true → b ≡ false
not_true true h = absurd cc
not_true false h = refl

not_false : (b : Bool) → not b ≡ false → b ≡ true
not_false true h = refl
not_false false h = absurd cc

pub activates_number : (p : Parameters) → activates p ≡ true → p.number ≡ WM_ACTIVATE
activates_number p h = number_is p.number WM_ACTIVATE (and_first (p.number == WM_ACTIVATE) (not (p.wparam == 0)) h)

pub activates_some : (p : Parameters) → activates p ≡ true → (p.wparam == 0) ≡ false
activates_some p h = not_true (p.wparam == 0) (and_second (p.number == WM_ACTIVATE) (not (p.wparam == 0)) h)

pub activates_not : (p : Parameters) → activates p ≡ false → p.number ≡ WM_ACTIVATE → p.wparam ≡ 0
activates_not p h e = number_is p.wparam 0 (not_false (p.wparam == 0) (and_not (p.number == WM_ACTIVATE) (not (p.wparam == 0)) h (same_number p.number WM_ACTIVATE e)))

-- the pieces where one comes, and where none does
pub default_is : (p : Parameters) (b : Begin) (x : ℕ) (ps : List Piece) → default_begin p ≡ Some b → default_result p ≡ x → default_pieces p ps ≡ begun_over b (Feed (Defaulting x) ∷ ps)
default_is p b x ps h g = ap (λ o. default_over o (default_result p) ps) h ∙ ap (λ y. default_over (Some b) y ps) g

pub default_none : (p : Parameters) (x : ℕ) (ps : List Piece) → default_begin p ≡ None → default_result p ≡ x → default_pieces p ps ≡ Giving (Value x) ∷ ps
default_none p x ps h g = ap (λ o. default_over o (default_result p) ps) h ∙ ap (λ y. default_over None y ps) g

-- the pieces behind the default procedure
default_over_append : (b : Option Begin) (x : ℕ) (ps : List Piece) → default_over b x [] ++ ps ≡ default_over b x ps
default_over_append (Some b) x ps = refl
default_over_append None x ps = refl

pub default_append : (p : Parameters) (ps : List Piece) → default_pieces p [] ++ ps ≡ default_pieces p ps
default_append p ps = default_over_append (default_begin p) (default_result p) ps
