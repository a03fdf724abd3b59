-- Two trees that say the same have the same runs.
use Rattle.std.proofs.Common.{◌≡◌, ℕ, zero, suc, Bool, not, List, [], ◌∷◌, length, Option, Some, None, sym, ap, ◌∙◌, arith}
use Rattle.std.specs.Prelude.{◌==◌, ◌&&◌, nat_lt, if◌then◌else◌, find}
use Rattle.user_model.specs.declared.call.Call.{Call}
use Rattle.user_model.specs.declared.entry.Entry.{Entry}
use Rattle.user_model.specs.declared.entry.Setup.{Setup}
use Rattle.user_model.specs.Past.{Past, or_else}
use Rattle.user_model.specs.Setups.{setup_from}
use Rattle.user_model.specs.Threads.{lowest, is_thread}
use Rattle.user_model.specs.Idle.{reply, is_idle, is_barred}
use Rattle.script_tree.specs.Tree.{Tree}
use Rattle.script_tree.specs.Pieces.{Cut}
use Rattle.script_tree.specs.Traces.{trace_of}
use Rattle.script_text.specs.Lines.{names_of, bodies_of, script_lines}
use Rattle.script_text.specs.Refusals.{IsSame}
use Rattle.log_text.specs.Ends.{setup_of, used}
use Rattle.user_pool.specs.Runs.{is_runnable, behind_first, left, last_thread, choice, ComesNext, HasEntriesLeft, IsMove, IsRun, IsByChoice, IsListed}
use Rattle.user_pool.proofs.OneRun.{one_listed}
use Rattle.user_app.proofs.SameBodies.{SameBodies, procedures_apart, bodies_apart, same_count}
use Rattle.user_app.proofs.SameTraces.{same_trace}

-- all that moves and logs take of a tree is the same
pub record SameMoves (s t : Tree) : Type 0 where
  pub setup : setup_of s ≡ setup_of t
  pub budget : s.budget ≡ t.budget
  pub names : s.names ≡ t.names
  pub procedure_names : names_of s.procedures ≡ names_of t.procedures
  pub procedures : SameBodies (bodies_of s.procedures) (bodies_of t.procedures)
  pub count : length s.threads ≡ length t.threads
  pub bodies : SameBodies s.threads t.threads

-- and so is the order list
pub record SameRules (s t : Tree) : Type 0 where
  pub moves : SameMoves s t
  pub order : s.order ≡ t.order

same_bodies : (s t : Tree) → script_lines s ≡ script_lines t → SameBodies (bodies_of s.procedures) (bodies_of t.procedures) × SameBodies s.threads t.threads
unfolding script_lines
same_bodies s t e =
    let apart = procedures_apart 0 (bodies_of s.procedures) (bodies_of t.procedures) s.threads t.threads e in
    (apart.0, bodies_apart s.threads t.threads apart.1)

pub same_rules : (s t : Tree) → IsSame s t → SameRules s t
same_rules s t h =
    let both = same_bodies s t h.lines in
    let bodies : SameBodies s.threads t.threads = both.1 in
    let count : length s.threads ≡ length t.threads = same_count s.threads t.threads bodies in
    record {
      moves = record {
        setup = ap (λ (n : ℕ). setup_from n s.width s.height) count ∙ ap (λ (n : ℕ). setup_from (length t.threads) n s.height) h.width ∙ ap (λ (n : ℕ). setup_from (length t.threads) t.width n) h.height;
        budget = h.budget;
        names = h.names;
        procedure_names = h.procedures;
        procedures = both.0;
        count = count;
        bodies = bodies;
      };
      order = h.order;
    }

-- a choice by what it takes of a tree
abbrev can_run : Setup → ℕ → Past → ℕ → Bool
can_run setup budget past t = is_thread setup t && (not (is_idle setup past t) && nat_lt (used past t) budget)

abbrev above : Setup → ℕ → ℕ → Past → ℕ → Option ℕ
above setup budget count past low = lowest (λ t. nat_lt low t && can_run setup budget past t) count

abbrev chosen : Setup → ℕ → ℕ → Past → List ℕ → Option ℕ
chosen setup budget count past numbers =
    or_else (find (can_run setup budget past) numbers)
    (or_else (or_else (above setup budget count past (last_thread past)) (above setup budget count past 0)) (if is_barred setup past 0 then None else Some 0))

module _ (s t : Tree) (h : SameMoves s t) where
  same_test : (past : Past) → is_runnable s past ≡ is_runnable t past
  same_test past = ap (λ (x : Setup). can_run x s.budget past) h.setup ∙ ap (λ (n : ℕ). can_run (setup_of t) n past) h.budget

  next_too : (past : Past) (who : ℕ) (call : Call) → ComesNext s past who call → ComesNext t past who call
  next_too past zero call k = k
  next_too past (suc n) call k = same_trace s t h.procedures (suc n) (trace_of past (suc n)) (Cut call) h.bodies k

  left_too : (past : Past) (who : ℕ) → HasEntriesLeft s past who → HasEntriesLeft t past who
  left_too past zero k = tt
  left_too past (suc n) k = (omega (arith, k.0, h.count), omega (arith, k.1, h.budget))

  move_too : (past : Past) (e : Entry) → IsMove s past e → IsMove t past e
  move_too past e m = record {
    free = ap (λ (x : Setup). is_barred x past e.who.0) (sym h.setup) ∙ m.free;
    remains = left_too past e.who.0 m.remains;
    call = next_too past e.who.0 e.call m.call;
    answer = m.answer ∙ ap (λ (x : Setup). reply x past e.who.0 e.call) h.setup;
    room = m.room;
  }

  -- a run of the one is one of the other
  pub run_too : (past : Past) → IsRun s past → IsRun t past
  run_too [] r = tt
  run_too (e ∷ past) r = (move_too past e r.0, run_too past r.1)

module _ (s t : Tree) (h : SameRules s t) where
  -- what is left of the order list
  same_left : (past : Past) → left s past ≡ left t past
  same_left [] = h.order
  same_left (e ∷ past) =
      ap (λ (xs : List ℕ). if e.who.0 == 0 then xs else behind_first (is_runnable s past) xs) (same_left past)
      ∙ ap (λ (f : ℕ → Bool). if e.who.0 == 0 then left t past else behind_first f (left t past)) (same_test s t h.moves past)

  -- who moves next
  same_choice : (past : Past) → choice s past ≡ choice t past
  same_choice past =
      ap (λ (x : Setup). chosen x s.budget (length s.threads) past (left s past)) h.moves.setup
      ∙ ap (λ (n : ℕ). chosen (setup_of t) n (length s.threads) past (left s past)) h.moves.budget
      ∙ ap (λ (n : ℕ). chosen (setup_of t) t.budget n past (left s past)) h.moves.count
      ∙ ap (chosen (setup_of t) t.budget (length t.threads) past) (same_left past)

  chosen_too : (past : Past) → IsByChoice s past → IsByChoice t past
  chosen_too [] r = tt
  chosen_too (e ∷ past) r = (sym (same_choice past) ∙ r.0, chosen_too past r.1)

  listed_too : (past : Past) → IsListed s past → IsListed t past
  listed_too past l = record { run = run_too s t h.moves past l.run; chosen = chosen_too past l.chosen; over = sym (same_choice past) ∙ l.over }

  -- the listed run of the one is that of the other
  pub same_run : (a b : Past) → IsListed s a → IsListed t b → a ≡ b
  same_run a b k l = one_listed t a b (listed_too a k) l
