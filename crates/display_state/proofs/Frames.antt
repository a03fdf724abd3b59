-- The list of all colours of a screen, and the frames in a list.
use Rattle.std.proofs.Common.{◌≡◌, ◌∙◌, ℕ, zero, suc, ◌+◌, ◌*◌, ◌<◌, ◌≤◌, List, [], ◌∷◌, ◌++◌, map, take, get_or, length, Option, Some, None, append_assoc, append-nil, refl, sym, ap, arith}
use Rattle.std.specs.Prelude.{true, false, nat_lt, pos, option_map, slice_get}
use Rattle.std.proofs.lemmas.List.{map-append, take_all}
use Rattle.std.proofs.Math.Seq.{take-suc}
use Rattle.win_num.specs.declared.shapes.Point.{Point}
use Rattle.user_model.specs.declared.entry.Setup.{Setup}
use Rattle.user_model.specs.Past.{Past}
use Rattle.user_model.specs.Colours.{frame, frame_of, past_at, snapped}
use Rattle.region_box.specs.Screens.{row_points, screen_points}
use Rattle.screen_buf.specs.Pictures.{pixel}
use Rattle.std.proofs.lemmas.Nat.{mul-le}

-- one row ends where or before a lower one begins
row_below : (a b w : ℕ) → a < b → a * w + w ≤ b * w
row_below a b w h = let k : (a + 1) * w ≤ b * w = mul-le (a + 1) w b w (omega arith) (omega arith) in omega (arith, k)

-- so many colours of a row
row_listed : (f : Point → ℕ) (xs : List ℕ) (w y x : ℕ) → take (y * w) xs ≡ map f (screen_points w y) → y * w + w ≤ length xs → ((x : ℕ) → x < w → get_or xs (y * w + x) 0 ≡ f (pixel x y)) → x ≤ w
    → take (y * w + x) xs ≡ map f (screen_points w y ++ row_points (pos y) x)
unfolding row_points
row_listed f xs w y zero above long at few =
    let same : y * w + 0 ≡ y * w = omega arith in
    ap (λ n. take n xs) same ∙ (above ∙ ap (map f) (sym (append-nil (screen_points w y))))
row_listed f xs w y (suc x) above long at few =
    let here : x < w = omega arith in
    let fewer : x ≤ w = omega arith in
    let within : y * w + x < length xs = omega (arith, long, here) in
    let before = row_listed f xs w y x above long at fewer in
    let same : y * w + suc x ≡ suc (y * w + x) = omega arith in
    ap (λ n. take n xs) same
    ∙ (take-suc xs (y * w + x) 0 within
    ∙ (ap (λ (us : List ℕ). us ++ get_or xs (y * w + x) 0 ∷ []) before
    ∙ (ap (λ n. map f (screen_points w y ++ row_points (pos y) x) ++ n ∷ []) (at x here)
    ∙ (sym (map-append f (screen_points w y ++ row_points (pos y) x) (pixel x y ∷ []))
    ∙ ap (map f) (append_assoc (screen_points w y) (row_points (pos y) x) (pixel x y ∷ []))))))

-- so many rows
rows_listed : (f : Point → ℕ) (xs : List ℕ) (w h y : ℕ) → length xs ≡ h * w → ((x y : ℕ) → x < w → y < h → get_or xs (y * w + x) 0 ≡ f (pixel x y)) → y ≤ h → take (y * w) xs ≡ map f (screen_points w y)
unfolding screen_points
rows_listed f xs w h zero size at few =
    let none : 0 * w ≡ 0 = omega arith in
    ap (λ n. take n xs) none
rows_listed f xs w h (suc y) size at few =
    let lower : y < h = omega arith in
    let below = row_below y h w lower in
    let next : suc y * w ≡ y * w + w = omega arith in
    let upper : y < h = omega arith in
    let fewer : y ≤ h = omega arith in
    let long : y * w + w ≤ length xs = omega (arith, below, size) in
    let all : w ≤ w = omega arith in
    ap (λ n. take n xs) next ∙ row_listed f xs w y w (rows_listed f xs w h y size at fewer) long (λ x k. at x y k upper) all

-- all colours, told at each pixel
pub all_listed : (f : Point → ℕ) (xs : List ℕ) (w h : ℕ) → length xs ≡ h * w → ((x y : ℕ) → x < w → y < h → get_or xs (y * w + x) 0 ≡ f (pixel x y)) → xs ≡ map f (screen_points w h)
all_listed f xs w h size at =
    let whole : length xs ≤ length xs = omega arith in
    let all : h ≤ h = omega arith in
    sym (ap (λ n. take n xs) (sym size) ∙ take_all (length xs) xs whole) ∙ rows_listed f xs w h h size at all

-- ---- the frame of a number

-- where the lists are the frames of pasts, the one at this place is that of the past at this place
pub frame_listed : (setup : Setup) (pasts : List Past) (n : ℕ) → slice_get (map (frame setup) pasts) n ≡ option_map (frame setup) (past_at pasts n)
frame_listed setup [] n = refl
frame_listed setup (past ∷ pasts) zero = refl
frame_listed setup (past ∷ pasts) (suc n) = frame_listed setup pasts n

pub mapped_get : {X Y : Type 0} (f : X → Y) (xs : List X) (n : ℕ) → slice_get (map f xs) n ≡ option_map f (slice_get xs n)
mapped_get f [] n = refl
mapped_get f (x ∷ xs) zero = refl
mapped_get f (x ∷ xs) (suc n) = mapped_get f xs n

-- what a look-up at a place has found
below : (a b : ℕ) → true ≡ nat_lt a b → a < b
below a b h = grind arith

above : (a b : ℕ) → false ≡ nat_lt a b → b ≤ a
above a b h = grind arith

found_within : {X : Type 0} (xs : List X) (i : ℕ) (d : X) → i < length xs → d ≡ get_or xs i d → Some d ≡ slice_get xs i
found_within [] i d lt e = absurd (omega (arith, lt))
found_within (x ∷ xs) zero d lt e = ap Some e
found_within (x ∷ xs) (suc i) d lt e = let less : i < length xs = omega (arith, lt) in found_within xs i d less e

none_beyond : {X : Type 0} (xs : List X) (i : ℕ) → length xs ≤ i → None ≡ slice_get xs i
none_beyond [] i le = refl
none_beyond (x ∷ xs) zero le = absurd (omega (arith, le))
none_beyond (x ∷ xs) (suc i) le = let less : length xs ≤ i = omega (arith, le) in none_beyond xs i less

pub got_some : {X : Type 0} (xs : List X) (i : ℕ) (d : X) → true ≡ nat_lt i (length xs) → d ≡ get_or xs i d → Some d ≡ slice_get xs i
got_some xs i d lt e = found_within xs i d (below i (length xs) lt) e

pub got_none : {X : Type 0} (xs : List X) (i : ℕ) → false ≡ nat_lt i (length xs) → None ≡ slice_get xs i
got_none xs i le = none_beyond xs i (above i (length xs) le)

pub frame_told : {X : Type 0} (setup : Setup) (past : Past) (items : X → List ℕ) (xs ys : List X) (n number : ℕ) (o : Option X) → ys ≡ xs → o ≡ slice_get ys n → number ≡ suc n → map items xs ≡ map (frame setup) (snapped past) → option_map items o ≡ frame_of setup past number
frame_told {X = X} setup past items xs ys n number o all got is same =
    ap (option_map items) (got ∙ ap (λ (zs : List X). slice_get zs n) all)
    ∙ (sym (mapped_get items xs n)
    ∙ (ap (λ (fs : List (List ℕ)). slice_get fs n) same
    ∙ (frame_listed setup (snapped past) n
    ∙ ap (frame_of setup past) (sym is))))
