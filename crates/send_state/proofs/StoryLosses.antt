-- The stories of sends while those that are lost are noted, one after another.
use Rattle.std.proofs.Common.{◌≡◌, ℕ, ◌+◌, ◌<◌, ◌≤◌, Bool, true, false, cond, eqb, List, get_or, Some, None, refl, ap, ◌∙◌, sym, arith}
use Rattle.std.specs.Prelude.{nat_le}
use Rattle.std.specs.FinMap as map
use Rattle.std.proofs.lemmas.Bool.Decides.{nat_tests}
use Rattle.send_frames.specs.Book.{IsNextAbove}
use Rattle.send_state.specs.Parts.{SendParts, is_losable}
use Rattle.send_state.specs.Stories.{EachStory, noted, noted_loss, told}
use Rattle.user_model.specs.declared.story.SendStory.{SendStory}
use Rattle.send_state.specs.declared.story.Event.TheVariants.{Lost}

abbrev pub Noting : Type 0
Noting = ℕ → SendStory → SendStory

-- what is noted up to send n
abbrev pub so_far : Noting → ℕ → Noting
so_far change n s x = cond (nat_le s n) (change s x) x

pub none_noted : (change : Noting) (l : List SendStory) → EachStory (so_far change 0) l l
none_noted change l = record {
  same_length = refl;
  at = λ i d lt. let none : nat_le (i + 1) 0 ≡ false = grind (arith, nat_tests) in sym (ap (λ b. cond b (change (i + 1) (get_or l i d)) (get_or l i d)) none);
}

-- what is noted up to a later send, with what is noted from there
module _ (change next : Noting) (n m : ℕ) (low : n ≤ m) (here : (k : ℕ) (x : SendStory) → n < k → k ≤ m → next k x ≡ change k x) (before : (k : ℕ) (x : SendStory) → k ≤ n → next k x ≡ x) (after : (k : ℕ) (x : SendStory) → m < k → next k x ≡ x) where
  by : (k : ℕ) (x : SendStory) (a b : Bool) → nat_le k n ≡ a → nat_le k m ≡ b → next k (cond a (change k x) x) ≡ cond b (change k x) x
  by k x true true e f = before k (change k x) (grind (arith, nat_tests, e))
  by k x true false e f = absurd (grind (arith, nat_tests, e, f, low))
  by k x false true e f = here k x (grind (arith, nat_tests, e)) (grind (arith, nat_tests, f))
  by k x false false e f = after k x (grind (arith, nat_tests, f))

  pub noted_more : (old mid new : List SendStory) → EachStory (so_far change n) old mid → EachStory next mid new → EachStory (so_far change m) old new
  noted_more old mid new so more = record {
    same_length = more.same_length ∙ so.same_length;
    at = λ i d lt.
        more.at i d (omega (arith, lt, so.same_length)) ∙ ap (next (i + 1)) (so.at i d lt)
        ∙ by (i + 1) (get_or old i d) (nat_le (i + 1) n) (nat_le (i + 1) m) refl refl;
  }

-- from the last send on nothing is to be noted
pub all_noted : (change : Noting) (n : ℕ) (old new : List SendStory) → ((k : ℕ) (x : SendStory) → n < k → change k x ≡ x) → EachStory (so_far change n) old new → EachStory change old new
all_noted change n old new rest so = record {
  same_length = so.same_length;
  at = λ i d lt. so.at i d lt ∙ by (i + 1) (get_or old i d) (nat_le (i + 1) n) refl;
}
  where
    by : (k : ℕ) (x : SendStory) (b : Bool) → nat_le k n ≡ b → cond b (change k x) x ≡ change k x
    by k x true e = refl
    by k x false e = sym (rest k x (grind (arith, nat_tests, e)))

-- ---- the sends that are known

module _ (test : ℕ → Bool) (p : SendParts) (place n : ℕ) where
  unknown : (k : ℕ) (x : SendStory) → map.get p.book.known k ≡ None → noted_loss test p place k x ≡ x
  unknown k x none = ap (λ o. cond (is_losable test o) (told Lost place x) x) none

  apart : (s k : ℕ) (x : SendStory) → eqb s k ≡ false → noted s Lost place k x ≡ x
  apart s k x e = ap (λ b. cond b (told Lost place x) x) e

  module _ (s : ℕ) (next : IsNextAbove p.book.known n (Some s)) where
    at_send : (k : ℕ) (x : SendStory) (b : Bool) → eqb s k ≡ b → is_losable test (map.get p.book.known s) ≡ true → n < k → k ≤ s → noted s Lost place k x ≡ noted_loss test p place k x
    at_send k x true e lost above low =
        let same : s ≡ k = grind (arith, nat_tests, e) in
        ap (λ b. cond b (told Lost place x) x) (e ∙ sym lost ∙ ap (λ j. is_losable test (map.get p.book.known j)) same)
    at_send k x false e lost above low = apart s k x e ∙ sym (unknown k x (next.2 k above (grind (arith, nat_tests, e, low))))

    -- a send that is lost is noted
    pub noted_at : (old mid new : List SendStory) → is_losable test (map.get p.book.known s) ≡ true → EachStory (so_far (noted_loss test p place) n) old mid → EachStory (noted s Lost place) mid new → EachStory (so_far (noted_loss test p place) s) old new
    noted_at old mid new lost so more = noted_more (noted_loss test p place) (noted s Lost place) n s (omega (arith, next.0))
        (λ k x above low. at_send k x (eqb s k) refl lost above low)
        (λ k x low. apart s k x (grind (arith, nat_tests, low, next.0)))
        (λ k x above. apart s k x (grind (arith, nat_tests, above)))
        old mid new so more

    kept_at : (k : ℕ) (x : SendStory) (b : Bool) → eqb s k ≡ b → is_losable test (map.get p.book.known s) ≡ false → n < k → k ≤ s → x ≡ noted_loss test p place k x
    kept_at k x true e kept above low =
        let same : s ≡ k = grind (arith, nat_tests, e) in
        ap (λ b. cond b (told Lost place x) x) (sym kept ∙ ap (λ j. is_losable test (map.get p.book.known j)) same)
    kept_at k x false e kept above low = sym (unknown k x (next.2 k above (grind (arith, nat_tests, e, low))))

    -- one that stays isn't
    pub kept_so : (old mid : List SendStory) → is_losable test (map.get p.book.known s) ≡ false → EachStory (so_far (noted_loss test p place) n) old mid → EachStory (so_far (noted_loss test p place) s) old mid
    kept_so old mid kept so = noted_more (noted_loss test p place) (λ k x. x) n s (omega (arith, next.0))
        (λ k x above low. kept_at k x (eqb s k) refl kept above low)
        (λ k x low. refl)
        (λ k x above. refl)
        old mid mid so (record { same_length = refl; at = λ i d lt. refl })

  -- where no more is known, all are noted
  pub losses_noted : (old new : List SendStory) → IsNextAbove p.book.known n None → EachStory (so_far (noted_loss test p place) n) old new → EachStory (noted_loss test p place) old new
  losses_noted old new none so = all_noted (noted_loss test p place) n old new (λ k x above. unknown k x (none k above)) so
