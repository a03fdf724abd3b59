-- How many messages a search reads.
use Rattle.std.proofs.Common.{◌≡◌, ◌+◌, ℕ, zero, suc, Bool, true, false, List, [], ◌∷◌, length, take, Option, Some, None, refl, ap, sym, ◌∙◌, arith}
use Rattle.std.specs.Prelude.{IfSome, slice_get}
use Rattle.std.specs.List.{AllByRecursion}
use Rattle.std.proofs.lemmas.List.Elements.{recursion_from_All}
use Rattle.win_num.specs.declared.message.Msg.{Msg}
use Rattle.post_queue.specs.Queue.{Posted, FindsFirst, post_of}
use Rattle.thread_state.specs.Reads.{reads}

reads_all : (test : Posted → Bool) (ps : List Posted) → AllByRecursion (λ p. test p ≡ false) ps → reads test ps ≡ length ps
reads_all test [] h = refl
reads_all test (p ∷ ps) h = rw h.0 (ap suc (reads_all test ps h.1))

reads_up_to : (test : Posted → Bool) (ps : List Posted) (place : ℕ) (p : Posted) → slice_get ps place ≡ Some p → test p ≡ true → AllByRecursion (λ q. test q ≡ false) (take place ps) → reads test ps ≡ suc place
reads_up_to test [] place p here passes before = absurd cc
reads_up_to test (x ∷ ps) zero p here passes before =
    let same : x ≡ p = cc in
    rw (ap test same ∙ passes) refl
reads_up_to test (x ∷ ps) (suc n) p here passes before = rw before.0 (ap suc (reads_up_to test ps n p here passes before.1))

all_miss : (R : Msg → Bool → Type 0) (test : Msg → Bool) → ((m : Msg) (b : Bool) → R m b → b ≡ test m) → (ps : List Posted) → AllByRecursion (λ p. R p.msg false) ps → AllByRecursion (λ p. test p.msg ≡ false) ps
all_miss R test tells [] h = tt
all_miss R test tells (p ∷ ps) h = (sym (tells p.msg false h.0), all_miss R test tells ps h.1)

-- a search reads the messages up to the one that it answers
pub counts : (R : Msg → Bool → Type 0) (ps : List Posted) (r : Option (ℕ × Msg)) (before after : ℕ) → FindsFirst R ps r before after → (test : Msg → Bool) → ((m : Msg) (b : Bool) → R m b → b ≡ test m) → after ≡ before + reads (λ p. test p.msg) ps
counts R ps None before after h test tells = h.1 ∙ ap (λ n. before + n) (sym (reads_all (λ p. test p.msg) ps (all_miss R test tells ps (recursion_from_All (λ p. R p.msg false) ps h.0))))
counts R ps (Some found) before after h test tells =
    let n : reads (λ (p : Posted). test p.msg) ps ≡ suc h.0 = reads_up_to (λ p. test p.msg) ps h.0 (post_of found.0 found.1) h.1.here (sym (tells found.1 true h.1.passing)) (all_miss R test tells (take h.0 ps) (recursion_from_All (λ p. R p.msg false) (take h.0 ps) h.1.earlier)) in
    omega (arith, n, h.2)

-- what holds anyway holds where something is found
pub where_some : {A P : Type 0} (o : Option A) → P → IfSome o (λ x. P)
where_some None h = tt
where_some (Some x) h = h
