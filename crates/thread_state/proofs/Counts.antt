-- The count of posted messages and quit as they come and go.
use Rattle.std.proofs.Common.{◌≡◌, ◌∙◌, ℕ, suc, ◌<◌, ◌≤◌, Bool, true, false, cond, eqb, List, [], ◌∷◌, ◌++◌, filter, find, length, not, Option, Some, None, refl, sym, ap, subst, arith}
use Rattle.std.specs.Prelude.{◌&&◌, ◌||◌, is_some, nat_lt, option_map}
use Rattle.std.specs.List.{AllByRecursion, list_any}
use Rattle.std.proofs.lemmas.Bool.{eqb-true}
use Rattle.std.proofs.lemmas.Bool.Decides.{nat_tests}
use Rattle.std.proofs.lemmas.List.{length-append}
use Rattle.std.proofs.lemmas.List.Sums.{count_by-le-length, length-filter}
use Rattle.win_num.specs.declared.message.Msg.{Msg}
use Rattle.post_queue.specs.Queue.{Posted, Rises, message_of, without_number}
use Rattle.queue_status.specs.Counting.{both, counted}
use Rattle.queue_status.specs.Counts.{MayGo, is_fresh, is_there, none_fresh, one_less, one_more}
use Rattle.queue_status.proofs.Counting.{both_fresh, both_there, comes_beside, fresh_told, goes_beside, looks, may_go_beside, sound_beside, there_told}
use Rattle.thread_state.specs.Counts.{is_newer, posts_counted, quit_counted, quit_listed}

pub fewer : (test : Posted → Bool) (ps : List Posted) → length ps ≤ 10000 → length (filter test ps) ≤ 10000
fewer test ps few = omega (arith, few, length-filter test ps, count_by-le-length test ps)

pub one_more_fits : (ps : List Posted) (p : Posted) → length ps < 10000 → length (ps ++ p ∷ []) ≤ 10000
one_more_fits ps p few = omega (arith, few, length-append ps (p ∷ []))

-- ---- the message of a number

-- it stands at one place
pub record IsTaken (ps : List Posted) (n : ℕ) : Type 0 where
  pub before : List Posted
  pub after : List Posted
  pub one : Posted
  pub is : ps ≡ before ++ one ∷ after
  pub left : without_number ps n ≡ before ++ after
  pub number : one.number ≡ n

above_stays : (from number : ℕ) (ps : List Posted) → Rises from ps → number < from → without_number ps number ≡ ps
above_stays from number [] h lt = refl
above_stays from number (p ∷ ps) h lt =
    let other : eqb p.number number ≡ false = grind (arith, nat_tests, h.0, lt) in
    ap (λ b. cond (not b) (p ∷ without_number ps number) (without_number ps number)) other
    ∙ ap (λ qs. p ∷ qs) (above_stays (suc p.number) number ps h.1 (omega (arith, h.0, lt)))

-- where there is none, all stay
none_taken : (number : ℕ) (ps : List Posted) → message_of ps number ≡ None → without_number ps number ≡ ps
none_taken number [] e = refl
none_taken number (p ∷ ps) e = pick (eqb p.number number) refl (none_taken number ps)
  where
    pick : (b : Bool) → eqb p.number number ≡ b → (message_of ps number ≡ None → without_number ps number ≡ ps) → without_number (p ∷ ps) number ≡ p ∷ ps
    pick true is rest = absurd (cc (sym e ∙ ap (λ b. option_map (λ (q : Posted). q.msg) (cond b (Some p) (find (λ q. eqb q.number number) ps))) is))
    pick false is rest =
        let later : message_of ps number ≡ None = sym (ap (λ b. option_map (λ (q : Posted). q.msg) (cond b (Some p) (find (λ q. eqb q.number number) ps))) is) ∙ e in
        ap (λ b. cond (not b) (p ∷ without_number ps number) (without_number ps number)) is ∙ ap (λ qs. p ∷ qs) (rest later)

taken : (from number : ℕ) (m : Msg) (ps : List Posted) → Rises from ps → message_of ps number ≡ Some m → IsTaken ps number
taken from number m [] h e = absurd (cc e)
taken from number m (p ∷ ps) h e = pick (eqb p.number number) refl (taken (suc p.number) number m ps h.1)
  where
    pick : (b : Bool) → eqb p.number number ≡ b → (message_of ps number ≡ Some m → IsTaken ps number) → IsTaken (p ∷ ps) number
    pick true is rest =
        let same : p.number ≡ number = eqb-true p.number number is in
        record {
          before = [];
          after = ps;
          one = p;
          is = refl;
          left = ap (λ b. cond (not b) (p ∷ without_number ps number) (without_number ps number)) is ∙ above_stays (suc p.number) number ps h.1 (omega (arith, same));
          number = same;
        }
    pick false is rest =
        let later : message_of ps number ≡ Some m = sym (ap (λ b. option_map (λ (q : Posted). q.msg) (cond b (Some p) (find (λ q. eqb q.number number) ps))) is) ∙ e in
        let t = rest later in
        record {
          before = p ∷ t.before;
          after = t.after;
          one = t.one;
          is = ap (λ qs. p ∷ qs) t.is;
          left = ap (λ b. cond (not b) (p ∷ without_number ps number) (without_number ps number)) is ∙ ap (λ qs. p ∷ qs) t.left;
          number = t.number;
        }

is_none : (o : Option Msg) → is_some o ≡ false → o ≡ None
is_none None h = refl
is_none (Some m) h = absurd (cc h)

one_of : (o : Option Msg) → is_some o ≡ true → (m : Msg) × (o ≡ Some m)
one_of None h = absurd (cc h)
one_of (Some m) h = (m, refl)

pub none_left : (number : ℕ) (ps : List Posted) → is_some (message_of ps number) ≡ false → without_number ps number ≡ ps
none_left number ps h = none_taken number ps (is_none (message_of ps number) h)

pub one_taken : (number : ℕ) (ps : List Posted) → Rises 0 ps → is_some (message_of ps number) ≡ true → IsTaken ps number
one_taken number ps h e = let f = one_of (message_of ps number) e in taken 0 number f.0 ps h f.1

-- ---- counts

few_quits : (quit : Option ℕ) → length (quit_listed quit) ≤ 1
few_quits None = omega arith
few_quits (Some code) = omega arith

quit_sound : (quit : Option ℕ) (is_new : Bool) → (quit_counted quit is_new).fresh ≤ (quit_counted quit is_new).there
quit_sound quit is_new = count_by-le-length (λ code. is_new) (quit_listed quit)

module _ (seen : ℕ) (ps : List Posted) (quit : Option ℕ) (is_new : Bool) where
  -- no more came since than are there
  pub is_sound : (posts_counted seen ps quit is_new).fresh ≤ (posts_counted seen ps quit is_new).there
  is_sound = sound_beside (is_newer seen) ps (quit_counted quit is_new) (quit_sound quit is_new)

  -- a number has room for all of them
  pub has_room : length ps ≤ 10000 → (posts_counted seen ps quit is_new).there ≤ 10001
  has_room few = omega (arith, few, few_quits quit)

  -- a message comes last
  pub posted_more : (p : Posted) → posts_counted seen (ps ++ p ∷ []) quit is_new ≡ one_more (nat_lt seen p.number) (posts_counted seen ps quit is_new)
  posted_more p = comes_beside (is_newer seen) ps p (quit_counted quit is_new)

  -- the message of a number goes
  pub posted_less : (number : ℕ) → Rises 0 ps → is_some (message_of ps number) ≡ true → one_less (nat_lt seen number) (posts_counted seen ps quit is_new) ≡ posts_counted seen (without_number ps number) quit is_new
  posted_less number h e =
      let t = one_taken number ps h e in
      ap (λ n. one_less (nat_lt seen n) (posts_counted seen ps quit is_new)) (sym t.number)
      ∙ ap (λ qs. one_less (nat_lt seen t.one.number) (posts_counted seen qs quit is_new)) t.is
      ∙ goes_beside (is_newer seen) t.before t.after t.one (quit_counted quit is_new)
      ∙ ap (λ qs. posts_counted seen qs quit is_new) (sym t.left)

  pub may_go : (number : ℕ) → Rises 0 ps → is_some (message_of ps number) ≡ true → MayGo (nat_lt seen number) (posts_counted seen ps quit is_new)
  may_go number h e =
      let t = one_taken number ps h e in
      subst (λ n. MayGo (nat_lt seen n) (posts_counted seen ps quit is_new)) t.number
      (subst (λ qs. MayGo (nat_lt seen t.one.number) (posts_counted seen qs quit is_new)) (sym t.is)
      (may_go_beside (is_newer seen) t.before t.after t.one (quit_counted quit is_new) (quit_sound quit is_new)))

  -- whether one is there, and whether one came since the look
  pub is_told : is_there (posts_counted seen ps quit is_new) ≡ (list_any (λ p. true) ps || is_some quit)
  is_told = both_there (counted (is_newer seen) ps) (quit_counted quit is_new) ∙ ap (λ b. b || is_there (quit_counted quit is_new)) (there_told (is_newer seen) ps) ∙ ap (λ b. list_any (λ (p : Posted). true) ps || b) (by quit)
    where
      by : (o : Option ℕ) → is_there (quit_counted o is_new) ≡ is_some o
      by None = there_told {A = ℕ} (λ code. is_new) []
      by (Some code) = there_told {A = ℕ} (λ code. is_new) (code ∷ [])

  pub new_told : is_fresh (posts_counted seen ps quit is_new) ≡ (list_any (λ p. nat_lt seen p.number) ps || (is_some quit && is_new))
  new_told = both_fresh (counted (is_newer seen) ps) (quit_counted quit is_new) ∙ ap (λ b. b || is_fresh (quit_counted quit is_new)) (fresh_told (is_newer seen) ps) ∙ ap (λ b. list_any (is_newer seen) ps || b) (by quit)
    where
      alone : (b : Bool) → (b || false) ≡ b
      alone true = refl
      alone false = refl

      by : (o : Option ℕ) → is_fresh (quit_counted o is_new) ≡ (is_some o && is_new)
      by None = fresh_told {A = ℕ} (λ code. is_new) []
      by (Some code) = fresh_told {A = ℕ} (λ code. is_new) (code ∷ []) ∙ alone is_new

-- ---- a look

all_old : (test : Posted → Bool) (ps : List Posted) → list_any test ps ≡ false → AllByRecursion (λ p. test p ≡ false) ps
all_old test [] h = tt
all_old test (p ∷ ps) h = pick (test p) refl h (all_old test ps)
  where
    pick : (b : Bool) → test p ≡ b → (b || list_any test ps) ≡ false → (list_any test ps ≡ false → AllByRecursion (λ p. test p ≡ false) ps) → (test p ≡ false) × AllByRecursion (λ p. test p ≡ false) ps
    pick true is k rest = absurd (cc k)
    pick false is k rest = (is, rest k)

-- none came since
pub looked : (seen number : ℕ) (ps : List Posted) (quit : Option ℕ) (is_new : Bool) → list_any (λ p. nat_lt number p.number) ps ≡ false → none_fresh (posts_counted seen ps quit is_new) ≡ posts_counted number ps quit false
looked seen number ps quit is_new old =
    ap (λ c. both c (none_fresh (quit_counted quit is_new))) (sym (looks (is_newer number) (is_newer seen) ps (all_old (is_newer number) ps old)))
    ∙ ap (both (counted (is_newer number) ps)) (sym (by quit))
  where
    by : (o : Option ℕ) → quit_counted o false ≡ none_fresh (quit_counted o is_new)
    by None = refl
    by (Some code) = refl
