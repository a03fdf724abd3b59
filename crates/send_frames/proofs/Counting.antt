-- How many frames of all stacks pass a test, after a change of one stack.
use Rattle.std.proofs.Common.{◌≡◌, ℕ, zero, suc, ◌+◌, ◌*◌, ◌<◌, ◌≤◌, Bool, true, false, cond, List, [], ◌∷◌, length, get_or, set, replicate, refl, arith}
use Rattle.win_num.specs.declared.send.Frame.{Frame}
use Rattle.send_frames.specs.Book.{count_in, count_on}

-- another stack in one place
pub count_on-set : (test : Frame → Bool) (stacks : List (List Frame)) (i : ℕ) (fs : List Frame) → i < length stacks
    → count_on test (set stacks i fs) + count_in test (get_or stacks i []) ≡ count_on test stacks + count_in test fs
count_on-set test [] i fs h = absurd (omega arith)
count_on-set test (gs ∷ stacks) zero fs h = omega arith
count_on-set test (gs ∷ stacks) (suc i) fs h =
    let rest = count_on-set test stacks i fs (omega arith) in omega (arith, rest)

-- the empty stacks
pub count_on-empty : (test : Frame → Bool) (n : ℕ) → count_on test (replicate n []) ≡ 0
count_on-empty test zero = refl
count_on-empty test (suc n) = omega (arith, count_on-empty test n)

count_in-length : (test : Frame → Bool) (fs : List Frame) → count_in test fs ≤ length fs
count_in-length test [] = omega arith
count_in-length test (f ∷ fs) =
    let rest = count_in-length test fs in
    elim (test f) as (λ b. cond b 1 0 + count_in test fs ≤ length (f ∷ fs)) [ true ↦ omega (arith, rest) | false ↦ omega (arith, rest) ]

-- no more frames than the stacks may hold
pub count_on-bound : (test : Frame → Bool) (stacks : List (List Frame)) → ((i : ℕ) → length (get_or stacks i []) ≤ 64) → count_on test stacks ≤ 64 * length stacks
count_on-bound test [] h = omega arith
count_on-bound test (fs ∷ stacks) h =
    let first : length fs ≤ 64 = h 0 in
    let rest = count_on-bound test stacks (λ i. h (suc i)) in
    omega (arith, first, rest, count_in-length test fs)

-- no stack is too long after a change of one
pub depth-set : (stacks : List (List Frame)) (j : ℕ) (fs : List Frame) → length fs ≤ 64
    → ((i : ℕ) → length (get_or stacks i []) ≤ 64) → (i : ℕ) → length (get_or (set stacks j fs) i []) ≤ 64
depth-set [] j fs s h i = h i
depth-set (gs ∷ stacks) zero fs s h zero = s
depth-set (gs ∷ stacks) zero fs s h (suc i) = h (suc i)
depth-set (gs ∷ stacks) (suc j) fs s h zero = h 0
depth-set (gs ∷ stacks) (suc j) fs s h (suc i) = depth-set stacks j fs s (λ k. h (suc k)) i

-- the empty stacks are short
pub depth-empty : (n i : ℕ) → length (get_or (replicate n (let fs : List Frame = [] in fs)) i []) ≤ 64
depth-empty zero i = omega arith
depth-empty (suc n) zero = omega arith
depth-empty (suc n) (suc i) = depth-empty n i
