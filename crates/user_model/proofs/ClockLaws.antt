-- The clock, the cursor and the last entries at a past with one entry more.
use Rattle.std.proofs.Common.{◌≡◌, ℕ, eqb, Bool, true, false, cond, List, [], ◌∷◌, ◌++◌, reverse, Option, Some, None, refl, ap, ◌∙◌}
use Rattle.std.specs.Prelude.{unwrap_or}
use Rattle.std.proofs.lemmas.List.{reverse-append}
use Rattle.win_num.specs.declared.shapes.Point.{Point}
use Rattle.user_model.specs.declared.entry.Entry.{Entry}
use Rattle.user_model.specs.Past.{Past, is_refused, or_else, unless_refused, last_of, first}
use Rattle.user_model.specs.Places.{clock, corner_of_screen, cursor, cursor_told, if_clock, moved_to, time_told, mine}
use Rattle.user_model.specs.Idle.{last_entry}

last_pick : {A : Type 0} (b : Bool) (o rest : Option A) → (elim b [ true ↦ rest | false ↦ elim o [ Some a ↦ Some a | None ↦ rest ] ]) ≡ or_else (elim b [ true ↦ None | false ↦ o ]) rest
last_pick true o rest = refl
last_pick false None rest = refl
last_pick false (Some a) rest = refl

-- the last entry that says something is this one, or one before it
pub last_of-next : {A : Type 0} (says : Entry → Past → Option A) (e : Entry) (past : Past) → last_of says (e ∷ past) ≡ or_else (unless_refused e (says e past)) (last_of says past)
last_of-next says e past = last_pick (is_refused e) (says e past) (last_of says past)

pub unwrap_or-or_else : {A : Type 0} (o p : Option A) (d : A) → unwrap_or (or_else o p) d ≡ unwrap_or o (unwrap_or p d)
unwrap_or-or_else None p d = refl
unwrap_or-or_else (Some a) p d = refl

-- the clock is what the entry told actor 0, or what it was
pub clock-next : (e : Entry) (past : Past) → clock (e ∷ past) ≡ unwrap_or (unless_refused e (if_clock e.who.0 (time_told e.answer))) (clock past)
clock-next e past = ap (λ o. unwrap_or o 0) (last_of-next (λ (e : Entry) (before : Past). if_clock e.who.0 (time_told e.answer)) e past) ∙ unwrap_or-or_else (unless_refused e (if_clock e.who.0 (time_told e.answer))) (last_of (λ (e : Entry) (before : Past). if_clock e.who.0 (time_told e.answer)) past) 0

-- the cursor is where the entry puts it, or where it was
pub cursor-next : (e : Entry) (past : Past) → cursor (e ∷ past) ≡ unwrap_or (unless_refused e (cursor_told e past)) (cursor past)
cursor-next e past = ap (λ o. unwrap_or o corner_of_screen) (last_of-next cursor_told e past) ∙ unwrap_or-or_else (unless_refused e (cursor_told e past)) (last_of cursor_told past) corner_of_screen

-- an entry whose call puts the cursor nowhere leaves it
pub cursor-same : (e : Entry) (past : Past) → moved_to e.call ≡ None → cursor (e ∷ past) ≡ cursor past
cursor-same e past stays = cursor-next e past ∙ ap (λ o. unwrap_or (unless_refused e o) (cursor past)) stays ∙ pick (is_refused e)
  where
    pick : (b : Bool) → unwrap_or (elim b as (λ _. Option Point) [ true ↦ None | false ↦ None ]) (cursor past) ≡ cursor past
    pick true = refl
    pick false = refl

-- and so does one that was refused
pub cursor-refused : (e : Entry) (past : Past) → is_refused e ≡ true → cursor (e ∷ past) ≡ cursor past
cursor-refused e past h = cursor-next e past ∙ ap (λ b. unwrap_or (elim b as (λ _. Option Point) [ true ↦ None | false ↦ cursor_told e past ]) (cursor past)) h

-- the thread's last entry is this one where it made it
pub last_entry-next : (e : Entry) (past : Past) (t : ℕ) → last_entry (e ∷ past) t ≡ cond (eqb e.who.0 t) (Some e) (last_entry past t)
last_entry-next e past t = pick (eqb e.who.0 t)
  where
    pick : (b : Bool) → first (cond b (e ∷ mine past t) (mine past t)) ≡ cond b (Some e) (first (mine past t))
    pick true = refl
    pick false = refl

-- the past of a history with one entry more
pub past_more : (h : List Entry) (e : Entry) → reverse (h ++ e ∷ []) ≡ e ∷ reverse h
past_more h e = reverse-append h (e ∷ [])
