-- How many posted messages a search reads.
use Rattle.std.proofs.Common.{◌≡◌, ℕ, suc, Bool, cond, List, [], ◌∷◌, refl, ap, ◌∙◌}
use Rattle.std.specs.Prelude.{map}
use Rattle.win_num.specs.declared.message.Filter.{Filter}
use Rattle.post_queue.specs.Queue.{Posted}
use Rattle.win_rows.specs.declared.window.Window.{Window as KeptWindow}
use Rattle.user_model.specs.Past.{Past}
use Rattle.user_model.specs.Posts.{PostedMsg, posted, passes}
use Rattle.user_model.specs.Windows.{live}
use Rattle.window_state.specs.Trees.{as_made}
use Rattle.thread_state.specs.Passing.{passes_in}
use Rattle.thread_state.specs.Reads.{reads}
use Rattle.thread_state.specs.Threads.{as_kept, queue_at}
use Rattle.core_state.proofs.Deliveries.{passes_here-is}

reads_mapped : (test : Posted → Bool) (g : PostedMsg → Bool) → ((x : PostedMsg) → test (as_kept x) ≡ g x) → (xs : List PostedMsg) → reads test (map as_kept xs) ≡ reads g xs
reads_mapped test g e [] = refl
reads_mapped test g e (x ∷ xs) = ap (λ b. cond b 1 (suc (reads test (map as_kept xs)))) (e x) ∙ ap (λ n. cond (g x) 1 (suc n)) (reads_mapped test g e xs)

-- how many messages of a queue a search reads
pub reads_kept : (past : Past) (ws : List KeptWindow) (t : ℕ) (f : Filter) → map as_made ws ≡ live past → reads (passes_in ws f) (queue_at past t).posted ≡ reads (passes past f) (posted past t)
reads_kept past ws t f e = reads_mapped (passes_in ws f) (passes past f) (λ x. passes_here-is past ws f x e) (posted past t)
