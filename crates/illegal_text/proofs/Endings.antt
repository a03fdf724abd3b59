-- The ending of a past.
use Rattle.std.proofs.Common.{◌≡◌, ℕ, suc, ◌+◌, ◌-◌, ◌<◌, ◌≤◌, Bool, true, false, eqb, List, length, take, drop, not, reverse, refl, ap, sym, ◌∙◌, arith}
use Rattle.std.specs.Prelude.{◌&&◌, ◌==◌}
use Rattle.std.proofs.lemmas.List.{reverse-reverse}
use Rattle.std.proofs.lemmas.Bool.Decides.{nat_tests}
use Rattle.user_model.specs.declared.entry.Setup.{Setup}
use Rattle.user_model.specs.Past.{Past}
use Rattle.user_model.specs.Idle.{is_idle, is_barred}
use Rattle.user_model.specs.Places.{has_ended}
use Rattle.script_tree.specs.Tree.{Tree}
use Rattle.log_text.specs.Ends.{setup_of, used, could_go_on}
use Rattle.illegal_text.specs.Texts.{row_at}

-- a thread is barred exactly where it is idle
pub barred_is_idle : (setup : Setup) (past : Past) (t : ℕ) → 0 < t → is_barred setup past t ≡ is_idle setup past t
unfolding is_barred
barred_is_idle setup past t positive = let miss : eqb t 0 ≡ false = grind (arith, nat_tests) in rw miss refl

one_less : (n i : ℕ) → i < n → n - i ≡ suc (n - (i + 1))
one_less n i lt = omega arith

-- a row further down is one row less far below
pub row_below : (width n i : ℕ) (rest below whole : List ℕ) → i < n → row_at width (n - i) rest ≡ whole → below ≡ drop width rest → row_at width (n - (i + 1)) below ≡ whole
row_below width n i rest below whole lt so_far is =
    ap (row_at width (n - (i + 1))) is ∙ ap (λ k. row_at width k rest) (sym (one_less n i lt)) ∙ so_far

none_left : (n i : ℕ) → n ≤ i → n - i ≡ 0
none_left n i le = omega arith

-- and the first of what is left is the row
pub row_here : (width n i : ℕ) (rest whole : List ℕ) → n ≤ i → row_at width (n - i) rest ≡ whole → take width rest ≡ whole
row_here width n i rest whole le so_far = ap (λ k. row_at width k rest) (sym (none_left n i le)) ∙ so_far

-- ---- what a machine and its history tell

pub back_again : (past history : Past) → history ≡ reverse past → reverse history ≡ past
back_again past history is = ap (λ (h : Past). reverse h) is ∙ reverse-reverse past

pub idle_told : (s : Tree) (past : Past) (setup : Setup) (t : ℕ) (b : Bool) → setup ≡ setup_of s → 0 < t → is_barred setup past t ≡ b → is_idle (setup_of s) past t ≡ b
idle_told s past setup t b same some told = sym (barred_is_idle (setup_of s) past t some) ∙ ap (λ (x : Setup). is_barred x past t) (sym same) ∙ told

pub ended_told : (past history : Past) (t : ℕ) (b : Bool) → history ≡ reverse past → b ≡ has_ended (reverse history) t → has_ended past t ≡ b
ended_told past history t b is told = ap (λ (h : Past). has_ended h t) (sym (back_again past history is)) ∙ sym told

pub used_told : (past history : Past) (t n : ℕ) → history ≡ reverse past → n ≡ used (reverse history) t → used past t ≡ n
used_told past history t n is told = ap (λ (h : Past). used h t) (sym (back_again past history is)) ∙ sym told

pub goes_is : (s : Tree) (past : Past) (setup : Setup) (t : ℕ) → setup ≡ setup_of s → 0 < t → could_go_on s past t ≡ (not (is_barred setup past t) && not (used past t == s.budget))
goes_is s past setup t same some = ap (λ b. not b && not (used past t == s.budget)) (idle_told s past setup t (is_barred setup past t) same some refl)

pub and_false : (b : Bool) → (b && false) ≡ false
and_false true = refl
and_false false = refl
