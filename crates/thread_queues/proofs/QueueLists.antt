-- Queues of posted messages and the lists that they stand for.
use Rattle.std.proofs.Common.{◌≡◌, ℕ, ◌<◌, Bool, true, false, not, cond, eqb, List, [], ◌∷◌, ◌++◌, length, refl, ap, ◌∙◌, sym, inl, inr, arith}
use Rattle.std.specs.Prelude.{map, filter, All, ◌||◌, ◌&&◌, is_some}
use Rattle.std.specs.List.{AllByRecursion, list_any}
use Rattle.std.proofs.lemmas.Bool.Decides.{nat_tests, eqb_tells}
use Rattle.std.proofs.lemmas.List.{map-append, length-map}
use Rattle.std.proofs.lemmas.List.Elements.{All-from_recursion}
use Rattle.win_num.specs.declared.message.Msg.{Msg}
use Rattle.post_queue.specs.Queue.{Posted, post_of, without_number, without_window, is_for}
use Rattle.user_model.specs.declared.entry.Setup.{Setup}
use Rattle.user_model.specs.Past.{Past}
use Rattle.user_model.specs.Windows.{Window, live, find_window, is_kin}
use Rattle.user_model.specs.Posts.{PostedMsg, post_after, posted}
use Rattle.user_model.specs.ReplyDelivery.{next_post_number}
use Rattle.user_model.specs.Legal.{IsLawful}
use Rattle.user_model.proofs.ListLaws.{filter_same, filter_every, filter_twice}
use Rattle.user_model.proofs.PostLaws.{goes_with, all_below}
use Rattle.thread_state.specs.Threads.{as_kept, queue_at}
use Rattle.thread_queues.specs.Changes.{without_windows, kin_of}

-- a test of what a queue holds is one of what it stands for
pub map_filter : {A B : Type 0} (h : A → B) (f : B → Bool) (g : A → Bool) → ((x : A) → f (h x) ≡ g x) → (xs : List A) → filter f (map h xs) ≡ map h (filter g xs)
map_filter h f g e [] = refl
map_filter h f g e (x ∷ xs) = ap (λ b. cond b (h x ∷ filter f (map h xs)) (filter f (map h xs))) (e x) ∙ pick (g x) (map_filter h f g e xs)
  where
    pick : (b : Bool) → filter f (map h xs) ≡ map h (filter g xs) → cond b (h x ∷ filter f (map h xs)) (filter f (map h xs)) ≡ map h (cond b (x ∷ filter g xs) (filter g xs))
    pick true rest = ap (λ l. h x ∷ l) rest
    pick false rest = rest

pub same_number : (a b : ℕ) → eqb a b ≡ eqb b a
same_number a b = elim (eqb_tells a b) [
  | inl x ↦ let other : eqb b a ≡ true = grind (arith, nat_tests, x.1) in x.0 ∙ sym other
  | inr x ↦ let other : eqb b a ≡ false = grind (arith, nat_tests, x.1) in x.0 ∙ sym other
]

-- taking out a number
pub without_number-kept : (xs : List PostedMsg) (n : ℕ) → without_number (map as_kept xs) n ≡ map as_kept (filter (λ x. not (eqb n x.number)) xs)
without_number-kept xs n = map_filter as_kept (λ p. not (eqb p.number n)) (λ x. not (eqb n x.number)) (λ x. ap not (same_number x.number n)) xs

none_of : (a b : Bool) → (not b && not a) ≡ not (a || b)
none_of true true = refl
none_of true false = refl
none_of false true = refl
none_of false false = refl

-- taking out window after window is one test
pub without_windows-is : (ws : List ℕ) (ps : List Posted) → without_windows ps ws ≡ filter (λ p. not (list_any (λ w. eqb p.msg.hwnd.0 w) ws)) ps
without_windows-is [] ps = sym (filter_every (λ p. not (list_any (λ w. eqb p.msg.hwnd.0 w) [])) (λ p. refl) ps)
without_windows-is (w ∷ ws) ps =
    without_windows-is ws (without_window ps w)
    ∙ filter_twice (λ p. not (list_any (λ w. eqb p.msg.hwnd.0 w) ws)) (λ p. not (is_for w p)) ps
    ∙ filter_same (λ p. not (list_any (λ w. eqb p.msg.hwnd.0 w) ws) && not (is_for w p)) (λ p. not (list_any (λ w. eqb p.msg.hwnd.0 w) (w ∷ ws))) (λ p. none_of (is_for w p) (list_any (λ w. eqb p.msg.hwnd.0 w) ws)) ps

and_none : (a : Bool) → (a && false) ≡ false
and_none true = refl
and_none false = refl

-- the number of a live window that passes is among those of the live windows that pass
numbers_that : (test : ℕ → Bool) (ws : List Window) (w : ℕ) → list_any (λ v. eqb w v) (map (λ x. x.number) (filter (λ x. test x.number) ws)) ≡ (is_some (find_window ws w) && test w)
numbers_that test [] w = refl
numbers_that test (x ∷ ws) w =
    elim (eqb_tells x.number w) [
      | inl s ↦ here (test w) refl s.0 s.1 (numbers_that test ws w)
      | inr s ↦ other (test x.number) s.0 (numbers_that test ws w)
    ]
  where
    here : (b : Bool) → test w ≡ b → eqb x.number w ≡ true → x.number ≡ w → list_any (λ v. eqb w v) (map (λ y. y.number) (filter (λ y. test y.number) ws)) ≡ (is_some (find_window ws w) && test w) → list_any (λ v. eqb w v) (map (λ y. y.number) (filter (λ y. test y.number) (x ∷ ws))) ≡ (is_some (find_window (x ∷ ws) w) && test w)
    here true t same is rest = rw (ap test is ∙ t, same, t) (ap (λ b. b || list_any (λ v. eqb w v) (map (λ y. y.number) (filter (λ y. test y.number) ws))) (same_number w x.number ∙ same))
    here false t same is rest = rw (ap test is ∙ t, same) (rest ∙ ap (λ b. is_some (find_window ws w) && b) t ∙ and_none (is_some (find_window ws w)) ∙ sym t)

    other : (b : Bool) → eqb x.number w ≡ false → list_any (λ v. eqb w v) (map (λ y. y.number) (filter (λ y. test y.number) ws)) ≡ (is_some (find_window ws w) && test w) → list_any (λ v. eqb w v) (map (λ y. y.number) (cond b (x ∷ filter (λ y. test y.number) ws) (filter (λ y. test y.number) ws))) ≡ (is_some (find_window (x ∷ ws) w) && test w)
    other true differs rest = rw differs (ap (λ b. b || list_any (λ v. eqb w v) (map (λ y. y.number) (filter (λ y. test y.number) ws))) (same_number w x.number ∙ differs) ∙ rest)
    other false differs rest = rw differs rest

-- a window goes with v where its number is among those of v's kin
pub kin_numbers : (past : Past) (v w : ℕ) → list_any (λ u. eqb w u) (kin_of past v) ≡ goes_with past v w
kin_numbers past v w = numbers_that (is_kin (live past) v) (live past) w

-- taking out the windows that go with v, one after another
pub without_kin : (past : Past) (v : ℕ) (xs : List PostedMsg) → without_windows (map as_kept xs) (kin_of past v) ≡ map as_kept (filter (λ x. not (goes_with past v x.msg.hwnd.0)) xs)
without_kin past v xs =
    without_windows-is (kin_of past v) (map as_kept xs)
    ∙ map_filter as_kept (λ p. not (list_any (λ w. eqb p.msg.hwnd.0 w) (kin_of past v))) (λ x. not (goes_with past v x.msg.hwnd.0)) (λ x. ap not (kin_numbers past v x.msg.hwnd.0)) xs

-- one message more
pub kept_more : (past : Past) (xs : List PostedMsg) (k : ℕ) (m : Msg) → map as_kept (xs ++ post_after past k m ∷ []) ≡ map as_kept xs ++ post_of k m ∷ []
kept_more past xs k m = map-append as_kept xs (post_after past k m ∷ [])

-- a queue is as long as its list
pub queue_length : (past : Past) (t : ℕ) → length (queue_at past t).posted ≡ length (posted past t)
queue_length past t = length-map (posted past t) as_kept

all_mapped : (n : ℕ) (xs : List PostedMsg) → AllByRecursion (λ x. x.number < n) xs → AllByRecursion (λ p. p.number < n) (map as_kept xs)
all_mapped n [] h = tt
all_mapped n (x ∷ xs) h = (h.0, all_mapped n xs h.1)

-- the numbers of a queue are below that of the next post
pub queue_below : (setup : Setup) (past : Past) (t : ℕ) → IsLawful setup past → All (λ p. p.number < next_post_number past) (queue_at past t).posted
queue_below setup past t lawful = All-from_recursion (λ p. p.number < next_post_number past) (map as_kept (posted past t)) (all_mapped (next_post_number past) (posted past t) (all_below setup past t lawful))
