-- One thread's part that is changed.
use Rattle.std.proofs.Common.{◌≡◌, ℕ, ◌+◌, ◌-◌, ◌<◌, eqb, Bool, true, false, cond, List, length, arith, inl, inr, length-set, get_or-set_same, get_or-set_other, refl, ap, sym, ◌∙◌, get_or, set}
use Rattle.std.proofs.lemmas.Bool.{eq-eqb}
use Rattle.std.proofs.lemmas.Bool.Decides.{nat_tests, eqb_tells}
use Rattle.std.proofs.lemmas.List.{get_or_read}
use Rattle.post_queue.specs.Queue.{queue}
use Rattle.thread_queues.specs.Changes.{changed, purges, without_windows}
use Rattle.thread_queues.specs.Queues.{IsOne}
use Rattle.thread_state.specs.Threads.{ThreadView}
use Rattle.thread_queues.specs.Queues.{EachBy}

-- a change of one thread's part, which leaves all others
pub one_changed : (f : ℕ → ThreadView → ThreadView) (threads : List ThreadView) (who i : ℕ) (old new : ThreadView) → IsOne threads who → i ≡ who - 1 → old ≡ get_or threads i old → new ≡ f who old → ((t : ℕ) (v : ThreadView) → eqb who t ≡ false → f t v ≡ v) → EachBy f threads (set threads i new)
one_changed f threads who i old new one place here now others = record {
  same_length = length-set threads i new;
  at = λ j d lt. elim (eqb_tells j i) [
    | inl s ↦
        let is_who : j + 1 ≡ who = omega (arith, s.1, place, one.some) in
        let same : get_or threads j d ≡ old = ap (λ (n : ℕ). get_or threads n d) s.1 ∙ sym (get_or_read threads i old (omega (arith, place, one.some, one.known)) here d) in
        let within : i < length threads = omega (arith, place, one.some, one.known) in
        ap (λ (n : ℕ). get_or (set threads i new) n d) s.1 ∙ get_or-set_same threads i new d within ∙ now ∙ ap (λ (v : ThreadView). f who v) (sym same) ∙ ap (λ (n : ℕ). f n (get_or threads j d)) (sym is_who)
    | inr s ↦
        let differs : eqb who (j + 1) ≡ false = grind (arith, nat_tests, s.1, place, one.some) in
        get_or-set_other threads i j new d s.1 ∙ sym (others (j + 1) (get_or threads j d) differs)
  ];
}

kept_by_others : (b : Bool) (x y : ThreadView) → b ≡ false → cond b x y ≡ y
kept_by_others true x y off = absurd cc
kept_by_others false x y off = refl

-- one thread without the messages for some windows
pub one_purged : (threads : List ThreadView) (who i : ℕ) (ws : List ℕ) (old new : ThreadView) → IsOne threads who → i ≡ who - 1 → old ≡ get_or threads i old → new ≡ record old { queue = queue old.queue.limit (without_windows old.queue.posted ws) } → EachBy (λ t. changed t (purges who ws)) threads (set threads i new)
one_purged threads who i ws old new one place here now =
    one_changed (λ t. changed t (purges who ws)) threads who i old new one place here
    (now ∙ ap (λ (b : Bool). cond b (record old { queue = queue old.queue.limit (without_windows old.queue.posted ws) }) old) (sym (eq-eqb who who refl)))
    (λ t v off. kept_by_others (eqb who t) (record v { queue = queue v.queue.limit (without_windows v.queue.posted ws) }) v off)
