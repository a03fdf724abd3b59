-- What a group's threads set last is what the one set that set last. The same holds of all that entries tell of the threads that made them.
use Rattle.std.proofs.Common.{◌≡◌, ◌≢◌, ◌⊎◌, ℕ, zero, suc, ◌+◌, ◌<◌, ◌≤◌, Bool, true, false, cond, eqb, List, [], ◌∷◌, length, Option, Some, None, get_or, refl, ap, ◌∙◌, sym, subst, inl, inr, arith}
use Rattle.std.specs.Prelude.{◌&&◌, nat_lt, option_map, unwrap_or}
use Rattle.std.proofs.lemmas.Bool.{and_parts, cases_eq, eq-eqb, false≢true, le-ltb, lt-ltb, ne_eqb}
use Rattle.input_state.specs.Groups.{has_bit}
use Rattle.input_state.specs.State.{cell, later, latest_below}
use Rattle.user_model.specs.declared.entry.Entry.{Entry}
use Rattle.user_model.specs.declared.entry.Setup.{Setup}
use Rattle.user_model.specs.Past.{Past, is_refused, last_of}
use Rattle.user_model.specs.Focus.{if_among}
use Rattle.user_model.specs.Idle.{reply}
use Rattle.user_model.specs.Legal.{IsLawful}
use Rattle.user_model.proofs.DirtyLaws.{last_says, last_refused}
use Rattle.group_state.specs.GroupTables.{place_told}

-- ---- the latest of some

-- of the numbers below n that pass, the one with the greatest order, or 0 where none has one
abbrev pub best : (ℕ → Bool) → (ℕ → ℕ) → ℕ → ℕ
best P o zero = 0
best P o (suc n) = cond (P n && nat_lt (o (best P o n)) (o n)) n (best P o n)

pub latest_is : (group : ℕ) (orders : List ℕ) (row n : ℕ) → latest_below group orders row n ≡ best (has_bit group) (λ t. get_or orders (cell row t) 0) n
unfolding latest_below
latest_is group orders row zero = refl
latest_is group orders row (suc n) = ap (λ b. later group orders row n b) (latest_is group orders row n)

-- it is not above those that were looked at
best_within : (P : ℕ → Bool) (o : ℕ → ℕ) (n : ℕ) → best P o n ≤ n
best_within P o zero = omega arith
best_within P o (suc n) = by (P n && nat_lt (o (best P o n)) (o n)) (best_within P o n)
  where
    by : (b : Bool) → best P o n ≤ n → cond b n (best P o n) ≤ suc n
    by true h = omega arith
    by false h = omega (arith, h)

pub best_less : (P : ℕ → Bool) (o : ℕ → ℕ) (n : ℕ) → best P o (suc n) < suc n
best_less P o n = by (P n && nat_lt (o (best P o n)) (o n)) (best_within P o n)
  where
    by : (b : Bool) → best P o n ≤ n → cond b n (best P o n) < suc n
    by true h = omega arith
    by false h = omega (arith, h)

-- it is 0, or passes
pub best_member : (P : ℕ → Bool) (o : ℕ → ℕ) (n : ℕ) → (best P o n ≡ 0) ⊎ (P (best P o n) ≡ true)
best_member P o zero = inl refl
best_member P o (suc n) = by (P n && nat_lt (o (best P o n)) (o n)) refl (best_member P o n)
  where
    by : (b : Bool) → (P n && nat_lt (o (best P o n)) (o n)) ≡ b → (best P o n ≡ 0) ⊎ (P (best P o n) ≡ true) → (cond b n (best P o n) ≡ 0) ⊎ (P (cond b n (best P o n)) ≡ true)
    by true e h = inr (and_parts (P n) (nat_lt (o (best P o n)) (o n)) e).0
    by false e h = h

-- tests that agree, and orders that agree where the test passes and at 0, have the same
pub best_same : (P Q : ℕ → Bool) (o q : ℕ → ℕ) (m n : ℕ) → n ≤ m → ((t : ℕ) → t < m → P t ≡ Q t) → ((t : ℕ) → t < m → (t ≡ 0) ⊎ (P t ≡ true) → o t ≡ q t) → best P o n ≡ best Q q n
best_same P Q o q m zero high tests orders = refl
best_same P Q o q m (suc n) high tests orders = by (P n) refl (best_same P Q o q m n (omega (arith, high)) tests orders)
  where
    at : best P o n ≡ best Q q n → o (best P o n) ≡ q (best Q q n)
    at before = orders (best P o n) (let within : best P o n ≤ n = best_within P o n in omega (arith, high, within)) (best_member P o n) ∙ ap q before

    by : (b : Bool) → P n ≡ b → best P o n ≡ best Q q n → cond (P n && nat_lt (o (best P o n)) (o n)) n (best P o n) ≡ cond (Q n && nat_lt (q (best Q q n)) (q n)) n (best Q q n)
    by true h before =
        ap (λ b. cond (b && nat_lt (o (best P o n)) (o n)) n (best P o n)) (tests n (omega (arith, high)))
        ∙ ap (λ k. cond (Q n && nat_lt k (o n)) n (best P o n)) (at before)
        ∙ ap (λ k. cond (Q n && nat_lt (q (best Q q n)) k) n (best P o n)) (orders n (omega (arith, high)) (inr h))
        ∙ ap (λ k. cond (Q n && nat_lt (q (best Q q n)) (q n)) n k) before
    by false h before =
        ap (λ b. cond (b && nat_lt (o (best P o n)) (o n)) n (best P o n)) h
        ∙ before
        ∙ sym (ap (λ b. cond (b && nat_lt (q (best Q q n)) (q n)) n (best Q q n)) (sym (tests n (omega (arith, high))) ∙ h))

-- one that passes and has a greater order than all others is it
pub best_is : (P : ℕ → Bool) (o : ℕ → ℕ) (t n : ℕ) → P t ≡ true → ((u : ℕ) → u ≢ t → o u < o t) → t < n → best P o n ≡ t
best_is P o t zero passes above low = absurd (omega (arith, low))
best_is P o t (suc n) passes above low = by (cases_eq t n) (λ less. best_is P o t n passes above less)
  where
    last : t ≡ n → (best P o n ≡ t) ⊎ (best P o n ≢ t) → best P o (suc n) ≡ t
    last e (inl same) = pick (P n && nat_lt (o (best P o n)) (o n))
      where
        pick : (b : Bool) → cond b n (best P o n) ≡ t
        pick true = sym e
        pick false = same
    last e (inr other) =
        let P_n : P n ≡ true = ap P (sym e) ∙ passes in
        let less : o (best P o n) < o n = subst (λ k. o (best P o n) < o k) e (above (best P o n) other) in
        ap (λ b. cond (b && nat_lt (o (best P o n)) (o n)) n (best P o n)) P_n
        ∙ ap (λ b. cond b n (best P o n)) (lt-ltb (o (best P o n)) (o n) less)
        ∙ sym e

    earlier : t ≢ n → best P o n ≡ t → best P o (suc n) ≡ t
    earlier ne is =
        let less : o n < o t = above n (λ e. ne (sym e)) in
        let none : nat_lt (o (best P o n)) (o n) ≡ false = ap (λ k. nat_lt (o k) (o n)) is ∙ le-ltb (o t) (o n) (omega (arith, less)) in
        both_false (P n) none ∙ is
      where
        both_false : (b : Bool) → nat_lt (o (best P o n)) (o n) ≡ false → cond (b && nat_lt (o (best P o n)) (o n)) n (best P o n) ≡ best P o n
        both_false true e = ap (λ c. cond c n (best P o n)) e
        both_false false e = refl

    by : (t ≡ n) ⊎ (t ≡ n → ⊥) → (t < n → best P o n ≡ t) → best P o (suc n) ≡ t
    by (inl e) before = last e (cases_eq (best P o n) t)
    by (inr ne) before = earlier ne (before (omega (arith, low, ne)))

-- ---- what entries tell

-- what an entry of one of these threads tells
abbrev pub told_among : {A : Type 0} → (Entry → Option A) → (ℕ → Bool) → Entry → Past → Option A
told_among tells among e before = if_among among e.who.0 (tells e)

-- what the last of them told, or d
abbrev pub last_told : {A : Type 0} → (Entry → Option A) → A → (ℕ → Bool) → Past → A
last_told tells d among past = unwrap_or (last_of (told_among tells among) past) d

-- one above the place of the last entry of t that tells, or 0
abbrev pub place_of : {A : Type 0} → (Entry → Option A) → ℕ → Past → ℕ
place_of tells t past = unwrap_or (last_of (place_told (told_among tells (λ u. eqb u t))) past) 0

-- the one of these threads that told last
abbrev pub teller : {A : Type 0} → (Entry → Option A) → (ℕ → Bool) → Past → ℕ
teller tells P past = best P (λ t. place_of tells t past) 16

-- what this one told last
abbrev by_one : {A : Type 0} → (Entry → Option A) → A → ℕ → Past → A
by_one tells d k past = last_told tells d (λ u. eqb u k) past

-- who tells is a thread
abbrev pub AreKnown : {A : Type 0} → (Entry → Option A) → Setup → Type 0
AreKnown {A} tells setup = (past : Past) (e : Entry) (a : A) → e.answer ≡ reply setup past e.who.0 e.call → is_refused e ≡ false → tells e ≡ Some a → (1 ≤ e.who.0) × (e.who.0 ≤ setup.threads)

module _ {A : Type 0} (tells : Entry → Option A) where
  -- ---- places

  place-next : (t : ℕ) (e : Entry) (past : Past) → is_refused e ≡ false → place_of tells t (e ∷ past) ≡ unwrap_or (option_map (λ a. length past + 1) (if_among (λ u. eqb u t) e.who.0 (tells e))) (place_of tells t past)
  place-next t e past h = last_says (place_told (told_among tells (λ u. eqb u t))) e past 0 h

  pub place-refused : (t : ℕ) (e : Entry) (past : Past) → is_refused e ≡ true → place_of tells t (e ∷ past) ≡ place_of tells t past
  place-refused t e past h = ap (λ o. unwrap_or o 0) (last_refused (place_told (told_among tells (λ u. eqb u t))) e past h)

  -- what is told by a thread, where it is t
  pub place-told : (t : ℕ) (e : Entry) (past : Past) (a : A) → is_refused e ≡ false → tells e ≡ Some a → place_of tells t (e ∷ past) ≡ cond (eqb e.who.0 t) (length past + 1) (place_of tells t past)
  place-told t e past a fine told =
      place-next t e past fine
      ∙ ap (λ o. unwrap_or (option_map (λ a. length past + 1) (if_among (λ u. eqb u t) e.who.0 o)) (place_of tells t past)) told
      ∙ by (eqb e.who.0 t)
    where
      by : (b : Bool) → unwrap_or (option_map (λ (k : A). length past + 1) (cond b (Some a) None)) (place_of tells t past) ≡ cond b (length past + 1) (place_of tells t past)
      by true = refl
      by false = refl

  pub place-untold : (t : ℕ) (e : Entry) (past : Past) → is_refused e ≡ false → tells e ≡ None → place_of tells t (e ∷ past) ≡ place_of tells t past
  place-untold t e past fine none =
      place-next t e past fine
      ∙ ap (λ o. unwrap_or (option_map (λ a. length past + 1) (if_among (λ u. eqb u t) e.who.0 o)) (place_of tells t past)) none

  -- places are not above the length of the past
  place_low : (t : ℕ) (past : Past) → place_of tells t past ≤ length past
  place_low t [] = omega arith
  place_low t (e ∷ past) = by (is_refused e) refl (tells e) refl (place_low t past)
    where
      cut : (b : Bool) → place_of tells t past ≤ length past → cond b (length past + 1) (place_of tells t past) ≤ suc (length past)
      cut true h = omega arith
      cut false h = omega (arith, h)

      by : (b : Bool) → is_refused e ≡ b → (o : Option A) → tells e ≡ o → place_of tells t past ≤ length past → place_of tells t (e ∷ past) ≤ suc (length past)
      by true h o k low = subst (λ n. n ≤ suc (length past)) (sym (place-refused t e past h)) (omega (arith, low))
      by false h None k low = subst (λ n. n ≤ suc (length past)) (sym (place-untold t e past h k)) (omega (arith, low))
      by false h (Some a) k low = subst (λ n. n ≤ suc (length past)) (sym (place-told t e past a h k)) (cut (eqb e.who.0 t) low)

  module _ (d : A) where
    -- ---- what was told last

    told-next : (among : ℕ → Bool) (e : Entry) (past : Past) → is_refused e ≡ false → last_told tells d among (e ∷ past) ≡ unwrap_or (if_among among e.who.0 (tells e)) (last_told tells d among past)
    told-next among e past h = last_says (told_among tells among) e past d h

    pub told-refused : (among : ℕ → Bool) (e : Entry) (past : Past) → is_refused e ≡ true → last_told tells d among (e ∷ past) ≡ last_told tells d among past
    told-refused among e past h = ap (λ o. unwrap_or o d) (last_refused (told_among tells among) e past h)

    pub told-told : (among : ℕ → Bool) (e : Entry) (past : Past) (a : A) → is_refused e ≡ false → tells e ≡ Some a → last_told tells d among (e ∷ past) ≡ cond (among e.who.0) a (last_told tells d among past)
    told-told among e past a fine told =
        told-next among e past fine
        ∙ ap (λ o. unwrap_or (if_among among e.who.0 o) (last_told tells d among past)) told
        ∙ by (among e.who.0)
      where
        by : (b : Bool) → unwrap_or (cond b (Some a) None) (last_told tells d among past) ≡ cond b a (last_told tells d among past)
        by true = refl
        by false = refl

    pub told-untold : (among : ℕ → Bool) (e : Entry) (past : Past) → is_refused e ≡ false → tells e ≡ None → last_told tells d among (e ∷ past) ≡ last_told tells d among past
    told-untold among e past fine none =
        told-next among e past fine
        ∙ ap (λ o. unwrap_or (if_among among e.who.0 o) (last_told tells d among past)) none

    -- what these threads told last is what that one told last
    pub last_teller : (setup : Setup) (past : Past) (P : ℕ → Bool) → AreKnown tells setup → IsLawful setup past → setup.threads ≤ 15 → by_one tells d (teller tells P past) past ≡ last_told tells d P past
    last_teller setup [] P known lawful few = refl
    last_teller setup (e ∷ past) P known lawful few = by (last_teller setup past P known lawful.0 few) (is_refused e) refl (tells e) refl
      where
        same_teller : ((t : ℕ) → t < 16 → (t ≡ 0) ⊎ (P t ≡ true) → place_of tells t (e ∷ past) ≡ place_of tells t past) → teller tells P (e ∷ past) ≡ teller tells P past
        same_teller places = best_same P P (λ t. place_of tells t (e ∷ past)) (λ t. place_of tells t past) 16 16 (omega arith) (λ t l. refl) places

        told_by : by_one tells d (teller tells P past) past ≡ last_told tells d P past → (a : A) → is_refused e ≡ false → tells e ≡ Some a → (b : Bool) → P e.who.0 ≡ b → by_one tells d (teller tells P (e ∷ past)) (e ∷ past) ≡ last_told tells d P (e ∷ past)
        told_by before a fine told true passes =
            let bounds = known past e a lawful.1 fine told in
            let high : e.who.0 ≤ setup.threads = bounds.1 in
            let low : e.who.0 < 16 = omega (arith, high, few) in
            let own : place_of tells e.who.0 (e ∷ past) ≡ length past + 1 = place-told e.who.0 e past a fine told ∙ ap (λ b. cond b (length past + 1) (place_of tells e.who.0 past)) (eq-eqb e.who.0 e.who.0 refl) in
            let is : teller tells P (e ∷ past) ≡ e.who.0 = best_is P (λ t. place_of tells t (e ∷ past)) e.who.0 16 passes (λ u ne. less u ne own) low in
            ap (λ k. by_one tells d k (e ∷ past)) is
            ∙ told-told (λ u. eqb u e.who.0) e past a fine told
            ∙ ap (λ b. cond b a (by_one tells d e.who.0 past)) (eq-eqb e.who.0 e.who.0 refl)
            ∙ sym (told-told P e past a fine told ∙ ap (λ b. cond b a (last_told tells d P past)) passes)
          where
            less : (u : ℕ) → u ≢ e.who.0 → place_of tells e.who.0 (e ∷ past) ≡ length past + 1 → place_of tells u (e ∷ past) < place_of tells e.who.0 (e ∷ past)
            less u ne own =
                let other : place_of tells u (e ∷ past) ≡ place_of tells u past = place-told u e past a fine told ∙ ap (λ b. cond b (length past + 1) (place_of tells u past)) (ne_eqb e.who.0 u (λ k. ne (sym k))) in
                let low : place_of tells u past ≤ length past = place_low u past in
                omega (arith, other, own, low)
        told_by before a fine told false passes_not =
            let bounds = known past e a lawful.1 fine told in
            let same : teller tells P (e ∷ past) ≡ teller tells P past = same_teller (λ t l k. place-told t e past a fine told ∙ ap (λ b. cond b (length past + 1) (place_of tells t past)) (ne_eqb e.who.0 t (apart t k bounds.0))) in
            ap (λ k. by_one tells d k (e ∷ past)) same
            ∙ told-told (λ u. eqb u (teller tells P past)) e past a fine told
            ∙ ap (λ b. cond b a (by_one tells d (teller tells P past) past)) (ne_eqb e.who.0 (teller tells P past) (apart (teller tells P past) (best_member P (λ t. place_of tells t past) 16) bounds.0))
            ∙ before
            ∙ sym (told-told P e past a fine told ∙ ap (λ b. cond b a (last_told tells d P past)) passes_not)
          where
            apart : (t : ℕ) → (t ≡ 0) ⊎ (P t ≡ true) → 1 ≤ e.who.0 → e.who.0 ≡ t → ⊥
            apart t (inl zero_is) some e_is = omega (arith, zero_is, some, e_is)
            apart t (inr passes) some e_is = false≢true (sym passes_not ∙ ap P e_is ∙ passes)

        by : by_one tells d (teller tells P past) past ≡ last_told tells d P past → (b : Bool) → is_refused e ≡ b → (o : Option A) → tells e ≡ o → by_one tells d (teller tells P (e ∷ past)) (e ∷ past) ≡ last_told tells d P (e ∷ past)
        by before true refused o k =
            let same = same_teller (λ t l m. place-refused t e past refused) in
            ap (λ k. by_one tells d k (e ∷ past)) same ∙ told-refused (λ u. eqb u (teller tells P past)) e past refused ∙ before ∙ sym (told-refused P e past refused)
        by before false fine None none =
            let same = same_teller (λ t l m. place-untold t e past fine none) in
            ap (λ k. by_one tells d k (e ∷ past)) same ∙ told-untold (λ u. eqb u (teller tells P past)) e past fine none ∙ before ∙ sym (told-untold P e past fine none)
        by before false fine (Some a) told = told_by before a fine told (P e.who.0) refl
