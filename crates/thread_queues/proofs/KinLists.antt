-- The numbers of the windows that go with one.
use Rattle.std.proofs.Common.{◌≡◌, ℕ, eqb, Bool, true, false, not, cond, List, [], ◌∷◌, map, refl, ap, sym, ◌∙◌, arith, inl, inr}
use Rattle.std.specs.Prelude.{filter, ◌||◌, ◌&&◌}
use Rattle.std.specs.List.{list_any}
use Rattle.std.proofs.lemmas.Bool.Decides.{nat_tests, eqb_tells}
use Rattle.win_rows.specs.declared.window.Window.{Window}
use Rattle.win_rows.specs.Windows.{is_live}
use Rattle.win_tree.specs.Kin.{is_kin}
use Rattle.post_queue.specs.Queue.{Posted, queue}
use Rattle.thread_queues.specs.Changes.{without_windows}
use Rattle.thread_queues.specs.Deliveries.{kin_in}
use Rattle.thread_state.specs.Threads.{ThreadView}
use Rattle.thread_queues.proofs.QueueLists.{without_windows-is}

same_number : (a b : ℕ) → eqb a b ≡ eqb b a
same_number a b = elim (eqb_tells a b) [
  | inl x ↦ let other : eqb b a ≡ true = grind (arith, nat_tests, x.1) in x.0 ∙ sym other
  | inr x ↦ let other : eqb b a ≡ false = grind (arith, nat_tests, x.1) in x.0 ∙ sym other
]

and_none : (a : Bool) → (a && false) ≡ false
and_none true = refl
and_none false = refl

-- the number of a window that passes is among those of the windows that pass
numbers_that : (test : ℕ → Bool) (ws : List Window) (w : ℕ) → list_any (λ v. eqb w v) (map (λ x. x.number.0) (filter (λ x. test x.number.0) ws)) ≡ (is_live ws w && test w)
numbers_that test [] w = refl
numbers_that test (x ∷ ws) w =
    elim (eqb_tells x.number.0 w) [
      | inl s ↦ here (test w) refl s.0 s.1 (numbers_that test ws w)
      | inr s ↦ other (test x.number.0) s.0 (numbers_that test ws w)
    ]
  where
    here : (b : Bool) → test w ≡ b → eqb x.number.0 w ≡ true → x.number.0 ≡ w → list_any (λ v. eqb w v) (map (λ y. y.number.0) (filter (λ y. test y.number.0) ws)) ≡ (is_live ws w && test w) → list_any (λ v. eqb w v) (map (λ y. y.number.0) (filter (λ y. test y.number.0) (x ∷ ws))) ≡ (is_live (x ∷ ws) w && test w)
    here true t same is rest = rw (ap test is ∙ t, same, t) (ap (λ b. b || list_any (λ v. eqb w v) (map (λ y. y.number.0) (filter (λ y. test y.number.0) ws))) (same_number w x.number.0 ∙ same))
    here false t same is rest = rw (ap test is ∙ t, same) (rest ∙ ap (λ b. is_live ws w && b) t ∙ and_none (is_live ws w) ∙ sym t)

    other : (b : Bool) → eqb x.number.0 w ≡ false → list_any (λ v. eqb w v) (map (λ y. y.number.0) (filter (λ y. test y.number.0) ws)) ≡ (is_live ws w && test w) → list_any (λ v. eqb w v) (map (λ y. y.number.0) (cond b (x ∷ filter (λ y. test y.number.0) ws) (filter (λ y. test y.number.0) ws))) ≡ (is_live (x ∷ ws) w && test w)
    other true differs rest = rw differs (ap (λ b. b || list_any (λ v. eqb w v) (map (λ y. y.number.0) (filter (λ y. test y.number.0) ws))) (same_number w x.number.0 ∙ differs) ∙ rest)
    other false differs rest = rw differs rest

-- whether w is among the windows that go with v
pub kin_any : (ws : List Window) (v w : ℕ) → list_any (λ u. eqb w u) (kin_in ws v) ≡ (is_live ws w && is_kin ws v w)
kin_any ws v w = numbers_that (is_kin ws v) ws w

-- one test takes out what window after window does
pub purged : (ws : List Window) (v : ℕ) (t : ThreadView) → record t { queue = queue t.queue.limit (filter (λ p. not (list_any (λ u. eqb p.msg.hwnd.0 u) (kin_in ws v))) t.queue.posted) } ≡ record t { queue = queue t.queue.limit (without_windows t.queue.posted (kin_in ws v)) }
purged ws v t = ap (λ (ps : List Posted). let r : ThreadView = record t { queue = queue t.queue.limit ps } in r) (sym (without_windows-is (kin_in ws v) t.queue.posted))
