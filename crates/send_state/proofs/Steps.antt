-- What single changes do to the parts.
use Rattle.std.proofs.Common.{◌≡◌, ℕ, ◌-◌, ◌<◌, ◌≤◌, Bool, true, false, cond, ◌&&◌, ◌||◌, List, [], ◌∷◌, length, get_or, set, Option, Some, None, refl, sym, ap, subst, ◌∙◌, arith}
use Rattle.std.specs.Prelude.{IfSome, is_none, nat_lt}
use Rattle.std.specs.List.{slice_get}
use Rattle.std.specs.Cmp.{nat_cmp_total, eq_by_cmp_equiv}
use Rattle.std.specs.Ordering.{nat_cmp, eq_by_cmp}
use Rattle.std.specs.FinMap as map
use Rattle.std.specs.FinMap.{get-insert}
use Rattle.std.proofs.lemmas.Bool.{false≢true}
use Rattle.std.proofs.lemmas.List.{get_or-set_same}
use Rattle.win_num.specs.declared.send.Cause.{Cause}
use Rattle.win_num.specs.declared.send.Frame.{Frame}
use Rattle.send_frames.specs.Book.{Book, IsThread, KnownSend, answered_as, answered_by, count_on, is_open, is_owing, named_by, names, popped, popped_from, settled, settled_as, stack_of, with_send, with_stack}
use Rattle.send_variants.specs.Lists.{Entry}
use Rattle.send_state.specs.Parts.{CanAnswerAs, CanJoin, lists_answered_as, lists_joined, runs_callback}

-- a number is the same as itself
same_key : (s : ℕ) → eq_by_cmp nat_cmp s s ≡ true
same_key s = (eq_by_cmp_equiv nat_cmp_total).refl s

pub get_inserted : {X : Type 0} (m : map.FinMap nat_cmp X) (s : ℕ) (v : X) → map.get (map.insert m s v) s ≡ Some v
get_inserted m s v = get-insert nat_cmp_total m s v s ∙ ap (λ b. cond b (Some v) (map.get m s)) (same_key s)

-- a send that is owed stays known with its first answer
pub owed_stays : (b : Book) (s : ℕ) (a : ℕ × Cause) (k : KnownSend) → map.get b.known s ≡ Some k → is_none k.answer ≡ true → k.owed ≡ true → map.get (answered_by b s a).known s ≡ Some (record k { answer = Some a })
owed_stays b s a k e fresh owed =
    ap (λ o. map.get (answered_as b s a o).known s) e
    ∙ ap (λ c. map.get (cond c (with_send b s (record k { answer = Some a })) b).known s) fresh
    ∙ ap (λ c. map.get (cond (false || c || nat_lt 0 (count_on (names s) b.stacks)) (map.insert b.known s (record k { answer = Some a })) (map.remove b.known s)) s) owed
    ∙ get_inserted b.known s (record k { answer = Some a })

both : (a b : Bool) → a ≡ true → b ≡ true → (a && b) ≡ true
both true true e f = refl
both true false e f = f
both false b e f = e

-- the first answer of a send that is owed lets its result join
pub joins : (lists : List (List Entry)) (b : Book) (s n : ℕ) (a : ℕ × Cause) → is_open (map.get b.known s) ≡ true → is_owing (map.get b.known s) ≡ true
    → CanAnswerAs lists s n (map.get b.known s) → IfSome (map.get (answered_by b s a).known s) (λ k. CanJoin lists k.row.from.0 n s)
joins lists b s n a = go (map.get b.known s) refl where
  go : (o : Option KnownSend) → map.get b.known s ≡ o → is_open o ≡ true → is_owing o ≡ true → CanAnswerAs lists s n o → IfSome (map.get (answered_by b s a).known s) (λ k. CanJoin lists k.row.from.0 n s)
  go None e fresh owed can = absurd (false≢true fresh)
  go (Some k) e fresh owed can = subst (λ o. IfSome o (λ (q : KnownSend). CanJoin lists q.row.from.0 n s)) (sym (owed_stays b s a k e fresh owed)) (can (both (is_none k.answer) k.owed fresh owed))

pub joined : (lists : List (List Entry)) (b : Book) (s n : ℕ) (a : ℕ × Cause) → is_open (map.get b.known s) ≡ true → is_owing (map.get b.known s) ≡ true
    → lists_joined lists s n (map.get (answered_by b s a).known s) ≡ lists_answered_as lists s n (map.get b.known s)
joined lists b s n a = go (map.get b.known s) refl where
  go : (o : Option KnownSend) → map.get b.known s ≡ o → is_open o ≡ true → is_owing o ≡ true → lists_joined lists s n (map.get (answered_by b s a).known s) ≡ lists_answered_as lists s n o
  go None e fresh owed = absurd (false≢true fresh)
  go (Some k) e fresh owed =
      ap (lists_joined lists s n) (owed_stays b s a k e fresh owed)
      ∙ sym (ap (λ c. cond c (lists_joined lists s n (Some (record k { answer = Some a }))) lists) (both (is_none k.answer) k.owed fresh owed))

-- a send that is no longer known, or another, leaves the stacks
pub stacks-settled : (b : Book) (o : Option ℕ) → (settled b o).stacks ≡ b.stacks
stacks-settled b None = refl
stacks-settled b (Some s) = go (map.get b.known s) where
  go : (o : Option KnownSend) → (settled_as b s o).stacks ≡ b.stacks
  go None = refl
  go (Some k) = refl

pub stacks-popped : (b : Book) (t : ℕ) (f : Frame) (fs : List Frame) → stack_of b t ≡ f ∷ fs → (popped b t).stacks ≡ set b.stacks (t - 1) fs
stacks-popped b t f fs e = ap (λ l. (popped_from b t l).stacks) e ∙ stacks-settled (with_stack b t fs) (named_by f)

-- a stack from which a frame is taken has room
pub room_after : (b : Book) (t : ℕ) (f : Frame) → IsThread b t → slice_get (stack_of b t) 0 ≡ Some f → length (stack_of b t) ≤ 64 → length (stack_of (popped b t) t) < 64
room_after b t f thread top few = go (stack_of b t) refl top few where
  within : t - 1 < length b.stacks
  within = omega (arith, thread.0, thread.1)

  go : (l : List Frame) → stack_of b t ≡ l → slice_get l 0 ≡ Some f → length l ≤ 64 → length (stack_of (popped b t) t) < 64
  go [] e h n = absurd cc
  go (g ∷ fs) e h n =
      let same : stack_of (popped b t) t ≡ fs = ap (λ l. get_or l (t - 1) []) (stacks-popped b t g fs e) ∙ get_or-set_same b.stacks (t - 1) fs [] within in
      omega (arith, ap length same, n)

-- where a callback takes the place of the newest frame, there is room for it
pub room_left : (b c d : Book) (t : ℕ) → c.stacks ≡ b.stacks → IsThread b t → length (stack_of b t) ≤ 64 → runs_callback d (slice_get (stack_of b t) 0) ≡ true → length (stack_of (popped c t) t) < 64
room_left b c d t same thread few = go (slice_get (stack_of b t) 0) refl where
  go : (o : Option Frame) → slice_get (stack_of b t) 0 ≡ o → runs_callback d o ≡ true → length (stack_of (popped c t) t) < 64
  go None e h = absurd (false≢true h)
  go (Some f) e h =
      room_after c t f (subst (λ (l : List (List Frame)). (1 ≤ t) × (t ≤ length l)) (sym same) thread)
      (ap (λ (l : List (List Frame)). slice_get (get_or l (t - 1) []) 0) same ∙ e)
      (subst (λ (l : List (List Frame)). length (get_or l (t - 1) []) ≤ 64) (sym same) few)
