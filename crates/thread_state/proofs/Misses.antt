-- A search that is known to find nothing.
use Rattle.std.proofs.Common.{◌≡◌, ℕ, Bool, false, cond, List, [], ◌∷◌, All, Option, Some, None, find, refl, ap, ◌∙◌}
use Rattle.std.specs.Prelude.{◌&&◌, option_map}
use Rattle.std.specs.List.{AllByRecursion}
use Rattle.std.proofs.lemmas.List.Elements.{All-filter, All-weaker, recursion_from_All}
use Rattle.win_num.specs.declared.message.Filter.{Filter}
use Rattle.win_rows.specs.declared.window.Window.{Window}
use Rattle.post_queue.specs.Queue.{Posted, pair_of, without_number}
use Rattle.thread_state.specs.Passing.{IsMissed, IsMissedBy, passes_in, passes_number_here, passes_window_in}

find_none : (test : Posted → Bool) (ps : List Posted) → AllByRecursion (λ p. test p ≡ false) ps → find test ps ≡ None
find_none test [] a = refl
find_none test (p ∷ ps) a = ap (λ b. cond b (Some p) (find test ps)) a.0 ∙ find_none test ps a.1

-- where no number passes, no message does
pub none_passes : (ws : List Window) (f : Filter) (ps : List Posted) → IsMissed f ps → option_map pair_of (find (passes_in ws f) ps) ≡ None
none_passes ws f ps missed =
    let misses : All (λ p. passes_in ws f p ≡ false) ps = All-weaker (λ p. passes_number_here f p.msg ≡ false) (λ p. passes_in ws f p ≡ false) (λ p out. ap (λ b. b && passes_window_in ws f.hwnd p.msg.hwnd.0) out) ps missed in
    ap (option_map pair_of) (find_none (passes_in ws f) ps (recursion_from_All (λ p. passes_in ws f p ≡ false) ps misses))

-- the same once a message is taken out
pub missed_without : (kept : Option Filter) (ps : List Posted) (number : ℕ) → IsMissedBy kept ps → IsMissedBy kept (without_number ps number)
missed_without None ps number missed = missed
missed_without (Some f) ps number missed = All-filter _ (λ p. passes_number_here f p.msg ≡ false) ps missed
