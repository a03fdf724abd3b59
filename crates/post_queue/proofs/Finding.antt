-- What a search of a queue finds.
use Rattle.std.proofs.Common.{◌≡◌, ℕ, zero, suc, Bool, true, false, List, [], ◌∷◌, take, Option, Some, None, refl, ap, sym, ◌∙◌}
use Rattle.std.specs.Prelude.{find, slice_get, option_map}
use Rattle.std.specs.List.{AllByRecursion}
use Rattle.std.proofs.lemmas.List.Elements.{recursion_from_All}
use Rattle.win_num.specs.declared.message.Msg.{Msg}
use Rattle.post_queue.specs.Queue.{Posted, FindsFirst, pair_of, post_of}

find_none : (test : Posted → Bool) (ps : List Posted) → AllByRecursion (λ p. test p ≡ false) ps → find test ps ≡ None
find_none test [] h = refl
find_none test (p ∷ ps) h = rw h.0 (find_none test ps h.1)

find_first : (test : Posted → Bool) (ps : List Posted) (place : ℕ) (p : Posted) → slice_get ps place ≡ Some p → test p ≡ true → AllByRecursion (λ q. test q ≡ false) (take place ps) → find test ps ≡ Some p
find_first test [] place p here passes before = absurd cc
find_first test (x ∷ ps) zero p here passes before =
    let same : x ≡ p = cc in
    rw (ap test same ∙ passes) here
find_first test (x ∷ ps) (suc n) p here passes before = rw before.0 (find_first test ps n p here passes before.1)

all_miss : (R : Msg → Bool → Type 0) (test : Msg → Bool) → ((m : Msg) (b : Bool) → R m b → b ≡ test m) → (ps : List Posted) → AllByRecursion (λ p. R p.msg false) ps → AllByRecursion (λ p. test p.msg ≡ false) ps
all_miss R test tells [] h = tt
all_miss R test tells (p ∷ ps) h = (sym (tells p.msg false h.0), all_miss R test tells ps h.1)

-- what is answered is the first message that passes the test
pub finds : (R : Msg → Bool → Type 0) (ps : List Posted) (r : Option (ℕ × Msg)) (before after : ℕ) → FindsFirst R ps r before after → (test : Msg → Bool) → ((m : Msg) (b : Bool) → R m b → b ≡ test m) → r ≡ option_map pair_of (find (λ p. test p.msg) ps)
finds R ps None before after h test tells = sym (ap (option_map pair_of) (find_none (λ p. test p.msg) ps (all_miss R test tells ps (recursion_from_All (λ p. R p.msg false) ps h.0))))
finds R ps (Some found) before after h test tells =
    sym (ap (option_map pair_of) (find_first (λ p. test p.msg) ps h.0 (post_of found.0 found.1) h.1.here (sym (tells found.1 true h.1.passing)) (all_miss R test tells (take h.0 ps) (recursion_from_All (λ p. R p.msg false) (take h.0 ps) h.1.earlier))))
