-- What windows take along that are moved.
use Rattle.std.proofs.Common.{◌≡◌, ◌∙◌, ℕ, Bool, true, false, not, ◌∷◌, Option, Some, None, refl, ap}
use Rattle.std.specs.Prelude.{◌&&◌, ◌||◌, unwrap_or}
use Rattle.std.proofs.lemmas.Bool.{and_parts, false≢true}
use Rattle.win_num.specs.declared.shapes.Point.{Point}
use Rattle.user_model.specs.declared.call.Call.{Call}
use Rattle.user_model.specs.declared.call.Call.TheVariants.{Place}
use Rattle.user_model.specs.declared.entry.Entry.{Entry}
use Rattle.user_model.specs.declared.entry.Setup.{Setup}
use Rattle.user_model.specs.Past.{Past, is_refused}
use Rattle.user_model.specs.Dirty.{came_from, carries, cleans, copies_bits, exposes_some, flag_told, invalidates, is_dirty, moves, must_erase, owns}
use Rattle.user_model.proofs.DirtyLaws.{dirty-next, flag-next}

-- a placing makes no pixel dirty of itself
uninvalid : (setup : Setup) (call : Call) (past : Past) (w : ℕ) (p : Point) → copies_bits call ≡ true → invalidates setup call past w p ≡ false
uninvalid setup (Place v after l t r b flags) past w p h = refl
uninvalid setup _ past w p h = absurd (false≢true h)

-- nor does it say anything of the erase flag
untold : (setup : Setup) (call : Call) (later : Past) (w : ℕ) → copies_bits call ≡ true → flag_told setup call later w ≡ None
untold setup (Place v after l t r b flags) later w h = refl
untold setup _ later w h = absurd (false≢true h)

never : (a b : Bool) → (a && ((b && false || false) || false)) ≡ false
never true true = refl
never true false = refl
never false b = refl

-- a carried pixel is clean then
pub clean : (setup : Setup) (past : Past) (e : Entry) (w : ℕ) (p : Point) → is_refused e ≡ false → carries setup e past w p ≡ true → is_dirty setup (e ∷ past) w p ≡ false
clean setup past e w p h is =
    let own = owns setup (e ∷ past) w p in
    let come = own && (moves e past w || not (owns setup past w p)) in
    let source = owns setup past w (came_from e past w p) && not (is_dirty setup past w (came_from e past w p)) in
    let copies : copies_bits e.call ≡ true = (and_parts (copies_bits e.call) (moves e past w) (and_parts (copies_bits e.call && moves e past w) (own && source) is).0).0 in
    dirty-next setup e past w p h
    ∙ ap (λ c. own && ((come && not c || invalidates setup e.call past w p) || (not (c || cleans e.call past w p) && is_dirty setup past w p))) is
    ∙ ap (λ i. own && ((come && false || i) || false)) (uninvalid setup e.call past w p copies)
    ∙ never own come

-- an entry that exposes a pixel sets the flag
pub flagged : (setup : Setup) (past : Past) (e : Entry) (w : ℕ) → is_refused e ≡ false → exposes_some setup e past w ≡ true → must_erase setup (e ∷ past) w ≡ true
flagged setup past e w h some =
    flag-next setup e past w h
    ∙ ap (λ b. unwrap_or (elim b as (λ c. Option Bool) [ true ↦ Some true | false ↦ flag_told setup e.call (e ∷ past) w ]) (must_erase setup past w)) some

-- and a placing that exposes none leaves it
pub unflagged : (setup : Setup) (past : Past) (e : Entry) (w : ℕ) → is_refused e ≡ false → copies_bits e.call ≡ true → exposes_some setup e past w ≡ false → must_erase setup (e ∷ past) w ≡ must_erase setup past w
unflagged setup past e w h copies none =
    flag-next setup e past w h
    ∙ ap (λ b. unwrap_or (elim b as (λ c. Option Bool) [ true ↦ Some true | false ↦ flag_told setup e.call (e ∷ past) w ]) (must_erase setup past w)) none
    ∙ ap (λ o. unwrap_or o (must_erase setup past w)) (untold setup e.call (e ∷ past) w copies)
