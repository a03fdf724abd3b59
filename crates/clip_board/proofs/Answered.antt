-- What the answers of a lawful past say of who had the clipboard.
use Rattle.std.proofs.Common.{◌≡◌, ◌⊎◌, inl, inr, ◌<◌, ℕ, Bool, true, false, cond, length, Option, Some, None, refl, sym, ap, ◌∙◌, subst, arith}
use Rattle.std.specs.Prelude.{if◌then◌else◌, ◌==◌, ◌&&◌, not, nat_le, is_some}
use Rattle.std.proofs.lemmas.Bool.{eqb-true, lt-leb, and_cases, and_parts, not-false}
use Rattle.win_num.specs.declared.message.Thread.{Thread}
use Rattle.win_num.specs.declared.message.Hwnd.{Hwnd}
use Rattle.win_num.specs.declared.code.Code.TheVariants.{Full}
use Rattle.clip_board.specs.declared.entry.ClipCall.{ClipCall}
use Rattle.clip_board.specs.declared.entry.ClipCall.TheVariants.{Open, Set, Get}
use Rattle.clip_board.specs.declared.entry.ClipAnswer.{ClipAnswer}
use Rattle.clip_board.specs.declared.entry.ClipAnswer.TheVariants.{Done, Was, Value, Ask, Nothing, Refused}
use Rattle.clip_board.specs.declared.entry.Holder.{Holder}
use Rattle.clip_board.specs.declared.entry.Kept.{Kept}
use Rattle.clip_board.specs.declared.entry.Kept.TheVariants.{Data, Delayed}
use Rattle.clip_board.specs.Clipboards.{ClipPast, is_refusal, format_of, holder, is_by, opened, owner, kept, is_asked, formats, standing, error, is_format, has_open, renders, answer_to_open, answer_to_set, answer_to_get, answer_from, answer_of, is_full, clip_reply}
use Rattle.clip_board.proofs.Steps.{reply_room}

-- a short past isn't full
pub room : (past : ClipPast) → length past < 2097152 → is_full past ≡ false
room past h = lt-leb 2097152 (length past) h

-- the answer in a lawful past, as the clipboard stood
pub answered_so : (past : ClipPast) (who : Thread) (call : ClipCall) (a : ClipAnswer) → length past < 2097152 → a ≡ clip_reply past who call → a ≡ answer_of who call (standing past (format_of call))
answered_so past who call a h e = e ∙ reply_room past who call (room past h)

-- one who is by that thread has its number
pub by_thread : (who : Thread) (o : Option Holder) → is_by who o ≡ true → (h : Holder) × (o ≡ Some h) × (h.who ≡ who)
by_thread who (Some h) e = (h, refl, ap (λ n. record { 0 = n }) (eqb-true h.who.0 who.0 e))
by_thread who None e = absurd cc

-- the answers to `Set`, by its four tests
abbrev chosen : Bool → Bool → Bool → Bool → ClipAnswer
chosen a b c d = if a then error 87 else if b then error 1418 else if c then error 5 else if d then Refused Full else Done

-- one that isn't a refusal is `Done`, and then the second test failed
chosen_done : (a b c d : Bool) → is_refusal (chosen a b c d) ≡ false → (chosen a b c d ≡ Done) × (b ≡ false)
chosen_done true b c d h = absurd cc
chosen_done false true c d h = absurd cc
chosen_done false false true d h = absurd cc
chosen_done false false false true h = absurd cc
chosen_done false false false false h = (refl, refl)

-- a `Set` that wasn't refused was done by one who has it open, or by the owner's thread
pub set_by : (past : ClipPast) (who : Thread) (f v : ℕ) (a : ClipAnswer) → length past < 2097152 → a ≡ clip_reply past who (Set f v) → is_refusal a ≡ false → (a ≡ Done) × ((is_by who (opened past) ≡ true) ⊎ (is_by who (owner past) ≡ true))
set_by past who f v a h e r =
    let s = standing past f in
    let same : a ≡ answer_to_set who f s = answered_so past who (Set f v) a h e in
    let k = chosen_done (not (is_format f)) (not (has_open who s) && not (renders who s)) (is_asked f past && not (is_by who (owner past))) (not (is_some (kept f past)) && nat_le 64 (formats past)) (subst (λ x. is_refusal x ≡ false) same r) in
    (same ∙ k.0, by_case (and_cases (not (has_open who s)) (not (renders who s)) k.1))
  where
    by_case : (not (has_open who (standing past f)) ≡ false) ⊎ (not (renders who (standing past f)) ≡ false) → (is_by who (opened past) ≡ true) ⊎ (is_by who (owner past) ≡ true)
    by_case (inl x) = inl (not-false (is_by who (opened past)) x)
    by_case (inr y) = inr (and_parts (is_asked f past) (is_by who (owner past)) (not-false (is_asked f past && is_by who (owner past)) y)).1

-- the answers to `Get`, by its two tests
abbrev got : Bool → Bool → ClipAnswer → ClipAnswer
got a b x = if a then error 87 else if b then x else error 1418

got_asked : (a b : Bool) (x : ClipAnswer) (w : Hwnd) → got a b x ≡ Ask w → (x ≡ Ask w) × (b ≡ true)
got_asked true b x w h = absurd cc
got_asked false false x w h = absurd cc
got_asked false true x w h = (h, refl)

got_value : (a b : Bool) (x : ClipAnswer) (v : ℕ) → got a b x ≡ Value v → x ≡ Value v
got_value true b x v h = absurd cc
got_value false false x v h = absurd cc
got_value false true x v h = h

asked_from : (k : Option Kept) (o : Option Holder) (w : Hwnd) → answer_from k o ≡ Ask w → k ≡ Some Delayed
asked_from (Some (Data v)) o w h = absurd cc
asked_from (Some Delayed) o w h = refl
asked_from None o w h = absurd cc

value_from : (k : Option Kept) (o : Option Holder) (v : ℕ) → answer_from k o ≡ Value v → k ≡ Some (Data v)
value_from (Some (Data u)) o v h = let same : u ≡ v = cc in ap (λ x. Some (Data x)) same
value_from (Some Delayed) (Some x) v h = absurd cc
value_from (Some Delayed) None v h = absurd cc
value_from None o v h = absurd cc

-- a `Get` that was told to ask: the format was delayed, and it was open by who asked
pub ask_says : (past : ClipPast) (who : Thread) (f : ℕ) (w : Hwnd) → length past < 2097152 → Ask w ≡ clip_reply past who (Get f) → (kept f past ≡ Some Delayed) × (is_by who (opened past) ≡ true)
ask_says past who f w h e =
    let same : Ask w ≡ answer_to_get who f (standing past f) = answered_so past who (Get f) (Ask w) h e in
    let k = got_asked (not (is_format f)) (is_by who (opened past)) (answer_from (kept f past) (owner past)) w (sym same) in
    (asked_from (kept f past) (owner past) w k.0, k.1)

-- a `Get` that was told the data: they were kept
pub value_says : (past : ClipPast) (who : Thread) (f v : ℕ) → length past < 2097152 → Value v ≡ clip_reply past who (Get f) → kept f past ≡ Some (Data v)
value_says past who f v h e =
    let same : Value v ≡ answer_to_get who f (standing past f) = answered_so past who (Get f) (Value v) h e in
    value_from (kept f past) (owner past) v (got_value (not (is_format f)) (is_by who (opened past)) (answer_from (kept f past) (owner past)) v (sym same))

open_refused : (o : Option Holder) (h : Holder) (a : ClipAnswer) → a ≡ (if is_some o then error 5 else Done) → o ≡ Some h → is_refusal a ≡ true
open_refused (Some x) h a e k = ap is_refusal e
open_refused None h a e k = absurd cc

-- an `Open` where it is open is refused
pub open_says : (past : ClipPast) (who : Thread) (w : Hwnd) (h : Holder) (a : ClipAnswer) → length past < 2097152 → a ≡ clip_reply past who (Open w) → opened past ≡ Some h → is_refusal a ≡ true
open_says past who w h a short e k = open_refused (opened past) h a (answered_so past who (Open w) a short e) k
