-- How many posted messages a retrieval reads at most.
use Rattle.std.proofs.Common.{◌≡◌, ◌≤◌, ℕ, suc, Bool, true, false, cond, List, [], ◌∷◌, length, refl, arith}
use Rattle.std.specs.Prelude.{◌==◌, ◌&&◌, ◌||◌}
use Rattle.user_model.specs.declared.call.Call.{Call}
use Rattle.user_model.specs.declared.call.Call.TheVariants.{Get, Peek}
use Rattle.user_model.specs.Past.{Past}
use Rattle.user_model.specs.Filters.{filter_of}
use Rattle.user_model.specs.Posts.{PostedMsg, passes, posted}
use Rattle.thread_state.specs.Reads.{reads}
use Rattle.core_deliver.specs.Reads.{reads_by, is_unfiltered}

reads_at_most : {A : Type 0} (test : A → Bool) (xs : List A) → reads test xs ≤ length xs
reads_at_most test [] = search arith
reads_at_most test (x ∷ xs) = pick (test x) (reads_at_most test xs)
  where
    pick : (b : Bool) → reads test xs ≤ length xs → cond b 1 (suc (reads test xs)) ≤ suc (length xs)
    pick true h = omega (arith, h)
    pick false h = omega (arith, h)

reads_one : {A : Type 0} (test : A → Bool) (xs : List A) → ((x : A) → test x ≡ true) → reads test xs ≤ 1
reads_one test [] h = search arith
reads_one test (x ∷ xs) h = rw (h x) (search arith)

open_bits : (w min max p q r u : Bool) → (w && min && max) ≡ true → (((min && max) || p || q) && (w || r || u)) ≡ true
open_bits true true true p q r u h = refl
open_bits true true false p q r u h = absurd cc
open_bits true false max p q r u h = absurd cc
open_bits false min max p q r u h = absurd cc

open_filter : (past : Past) (w min max : ℕ) → ((w == 0) && (min == 0) && (max == 0)) ≡ true → (x : PostedMsg) → passes past (filter_of w min max) x ≡ true
open_filter past w min max h x = open_bits (w == 0) (min == 0) (max == 0) _ _ _ _ h

-- with a filter that lets every message pass at most one is read
pub reads_unfiltered : (past : Past) (t : ℕ) (call : Call) → is_unfiltered call ≡ true → reads_by past t call ≤ 1
reads_unfiltered past t (Get w min max) h = reads_one (passes past (filter_of w min max)) (posted past t) (open_filter past w min max h)
reads_unfiltered past t (Peek w min max flags) h = reads_one (passes past (filter_of w min max)) (posted past t) (open_filter past w min max h)
reads_unfiltered past t _ h = absurd cc

-- no more are read than are posted
pub reads_of_posted : (past : Past) (t : ℕ) (call : Call) → reads_by past t call ≤ length (posted past t)
reads_of_posted past t (Get w min max) = reads_at_most (passes past (filter_of w min max)) (posted past t)
reads_of_posted past t (Peek w min max flags) = reads_at_most (passes past (filter_of w min max)) (posted past t)
reads_of_posted past t _ = search arith
