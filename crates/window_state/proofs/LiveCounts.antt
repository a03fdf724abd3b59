-- How many windows are live, and how many have no greater number than one.
use Rattle.std.proofs.Common.{◌≡◌, ℕ, suc, ◌+◌, ◌<◌, ◌≤◌, Bool, true, false, not, cond, eqb, List, [], ◌∷◌, length, filter, Some, refl, sym, subst, arith}
use Rattle.std.proofs.Math.Dec.{leb}
use Rattle.std.proofs.lemmas.Bool.{eqb-true, false≢true, leb-false, leb-true}
use Rattle.std.proofs.lemmas.List.{length-append}
use Rattle.win_num.specs.declared.message.Thread.{Thread}
use Rattle.win_rows.specs.declared.window.Window.{Window as KeptWindow}
use Rattle.win_rows.specs.Windows.{window_of}
use Rattle.user_model.specs.declared.call.Call.{Call}
use Rattle.user_model.specs.declared.call.Call.TheVariants as calls
use Rattle.user_model.specs.declared.entry.Answer.{Answer}
use Rattle.user_model.specs.declared.entry.Answer.TheVariants as answers
use Rattle.user_model.specs.declared.entry.Entry.{Entry}
use Rattle.user_model.specs.declared.entry.Setup.{Setup}
use Rattle.user_model.specs.Idle.{reply}
use Rattle.user_model.specs.Legal.{IsLawful}
use Rattle.user_model.specs.Past.{Past, is_refused}
use Rattle.user_model.specs.Windows.{Window, drops, live, made_by}
use Rattle.user_model.proofs.LiveWindows.{made_by-other}
use Rattle.user_model.proofs.WindowLaws.{live-next, live-refused}
use Rattle.user_model.proofs.WindowReplies.{new_window_told}

-- what is left is no more
left_less : {X : Type 0} (p : X → Bool) (xs : List X) → length (filter p xs) ≤ length xs
left_less p [] = omega arith
left_less p (x ∷ xs) = pick (left_less p xs) (p x)
  where
    pick : length (filter p xs) ≤ length xs → (b : Bool) → length (cond b (x ∷ filter p xs) (filter p xs)) ≤ length (x ∷ xs)
    pick rest true = omega (arith, rest)
    pick rest false = omega (arith, rest)

-- ---- at most 1,024 windows are live

with_made : (setup : Setup) (past : Past) (who : Thread) (call : Call) (a : Answer) → a ≡ reply setup past who.0 call → (n : ℕ) → n ≤ length (live past) → length (live past) ≤ 1024 → n + length (made_by who.0 a call (live past)) ≤ 1024
with_made setup past who (calls.NewWindow name title parent style ex l t r b) (answers.Window w) right n less few =
    let short = leb-false 1024 (length (live past)) (new_window_told setup past who.0 name title parent style ex l t r b w (sym right)).short in
    omega (arith, less, short)
with_made setup past who (calls.NewWindow name title parent style ex l t r b) _ right n less few = omega (arith, less, few)
with_made setup past who call a right n less few = subst (λ ws. n + length ws ≤ 1024) (sym (made_by-other who.0 a call (live past) refl)) (omega (arith, less, few))

few_next : (setup : Setup) (past : Past) (e : Entry) → e.answer ≡ reply setup past e.who.0 e.call → length (live past) ≤ 1024 → length (live (e ∷ past)) ≤ 1024
few_next setup past e right few = pick (is_refused e) refl
  where
    stay : Window → Bool
    stay x = not (drops e (live past) x)

    pick : (b : Bool) → is_refused e ≡ b → length (live (e ∷ past)) ≤ 1024
    pick true h = subst (λ (ws : List Window). length ws ≤ 1024) (sym (live-refused e past h)) few
    pick false h =
        let both = length-append (filter stay (live past)) (made_by e.who.0 e.answer e.call (live past)) in
        let most = with_made setup past e.who e.call e.answer right (length (filter stay (live past))) (left_less stay (live past)) few in
        subst (λ (ws : List Window). length ws ≤ 1024) (sym (live-next e past h)) (omega (arith, both, most))

pub few_live : (setup : Setup) (past : Past) → IsLawful setup past → length (live past) ≤ 1024
few_live setup [] h = omega arith
few_live setup (e ∷ past) h = few_next setup past e h.1 (few_live setup past h.0)

-- ---- those up to a number

-- how many have no greater number
abbrev pub count_to : ℕ → List KeptWindow → ℕ
count_to w ws = length (filter (λ x. leb x.number.0 w) ws)

pub count_within : (w : ℕ) (ws : List KeptWindow) → count_to w ws ≤ length ws
count_within w ws = left_less (λ (x : KeptWindow). leb x.number.0 w) ws

one_more : (b c : Bool) (m n : ℕ) → (b ≡ true → c ≡ true) → m ≤ n → cond b (suc m) m ≤ cond c (suc n) n
one_more true true m n h le = omega (arith, le)
one_more true false m n h le = absurd (false≢true (h refl))
one_more false true m n h le = omega (arith, le)
one_more false false m n h le = le

count_step : (w : ℕ) (x : KeptWindow) (ws : List KeptWindow) → count_to w (x ∷ ws) ≡ cond (leb x.number.0 w) (suc (count_to w ws)) (count_to w ws)
count_step w x ws = pick (leb x.number.0 w)
  where
    pick : (b : Bool) → length (cond b (x ∷ filter (λ (y : KeptWindow). leb y.number.0 w) ws) (filter (λ (y : KeptWindow). leb y.number.0 w) ws)) ≡ cond b (suc (count_to w ws)) (count_to w ws)
    pick true = refl
    pick false = refl

-- a greater number has no fewer
more : (p w : ℕ) (ws : List KeptWindow) → p < w → count_to p ws ≤ count_to w ws
more p w [] lt = omega arith
more p w (x ∷ ws) lt =
    subst (λ n. n ≤ count_to w (x ∷ ws)) (sym (count_step p x ws)) (subst (λ n. cond (leb x.number.0 p) (suc (count_to p ws)) (count_to p ws) ≤ n) (sym (count_step w x ws))
    (one_more (leb x.number.0 p) (leb x.number.0 w) (count_to p ws) (count_to w ws) (λ h. higher x.number.0 h) (more p w ws lt)))
  where
    higher : (n : ℕ) → leb n p ≡ true → leb n w ≡ true
    higher n h = grind (arith, lt, leb-true n p h)

-- and one more where a window has it
pub count_more : (p w : ℕ) (ws : List KeptWindow) (x : KeptWindow) → p < w → window_of ws w ≡ Some x → suc (count_to p ws) ≤ count_to w ws
count_more p w [] x lt e = absurd cc
count_more p w (y ∷ ws) x lt e = pick (λ k. count_more p w ws x lt k) (eqb y.number.0 w) refl e
  where
    here : (b c : Bool) → leb y.number.0 p ≡ b → leb y.number.0 w ≡ c → y.number.0 ≡ w → suc (cond b (suc (count_to p ws)) (count_to p ws)) ≤ cond c (suc (count_to w ws)) (count_to w ws)
    here b c h k same = grind (arith, more p w ws lt, lt, same)

    joined : suc (cond (leb y.number.0 p) (suc (count_to p ws)) (count_to p ws)) ≤ cond (leb y.number.0 w) (suc (count_to w ws)) (count_to w ws) → suc (count_to p (y ∷ ws)) ≤ count_to w (y ∷ ws)
    joined h = subst (λ n. suc n ≤ count_to w (y ∷ ws)) (sym (count_step p y ws)) (subst (λ n. suc (cond (leb y.number.0 p) (suc (count_to p ws)) (count_to p ws)) ≤ n) (sym (count_step w y ws)) h)

    higher : (b c : Bool) → leb y.number.0 p ≡ b → leb y.number.0 w ≡ c → suc (count_to p ws) ≤ count_to w ws → suc (cond b (suc (count_to p ws)) (count_to p ws)) ≤ cond c (suc (count_to w ws)) (count_to w ws)
    higher true true h k rest = omega (arith, rest)
    higher true false h k rest = absurd (omega (arith, lt, leb-true y.number.0 p h, leb-false y.number.0 w k))
    higher false true h k rest = omega (arith, rest)
    higher false false h k rest = rest

    pick : (window_of ws w ≡ Some x → suc (count_to p ws) ≤ count_to w ws) → (b : Bool) → eqb y.number.0 w ≡ b → cond b (Some y) (window_of ws w) ≡ Some x → suc (count_to p (y ∷ ws)) ≤ count_to w (y ∷ ws)
    pick rest true h k = joined (here (leb y.number.0 p) (leb y.number.0 w) refl refl (eqb-true y.number.0 w h))
    pick rest false h k = joined (higher (leb y.number.0 p) (leb y.number.0 w) refl refl (rest k))
