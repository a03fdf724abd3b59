-- The keys of untaken input, and of what a retrieval hands out, are among the numbers of keys.
use Rattle.std.proofs.Common.{◌≡◌, ℕ, zero, suc, ◌≤◌, Bool, true, false, not, cond, eqb, List, [], ◌∷◌, take, refl, sym, subst, arith}
use Rattle.std.specs.Prelude.{filter, nat_lt, take_while}
use Rattle.std.specs.List.{AllByRecursion}
use Rattle.std.proofs.lemmas.Bool.{or_parts}
use Rattle.std.proofs.lemmas.Bool.Decides.{nat_tests}
use Rattle.win_num.specs.declared.message.Msg.{Msg}
use Rattle.user_model.specs.declared.call.Call.{Call}
use Rattle.user_model.specs.declared.call.Call.TheVariants as calls
use Rattle.user_model.specs.declared.entry.Answer.{Answer}
use Rattle.user_model.specs.declared.entry.Answer.TheVariants as answers
use Rattle.user_model.specs.declared.entry.Origin.TheVariants as origins
use Rattle.user_model.specs.declared.entry.Setup.{Setup}
use Rattle.user_model.specs.Past.{Past}
use Rattle.user_model.specs.Groups.{is_in_group}
use Rattle.user_model.specs.Retrievals.{removes, is_number}
use Rattle.user_model.specs.Inputs.{Element, elements_by, injection, of_group, replaced_by, untaken}
use Rattle.user_model.specs.Posts.{message}
use Rattle.user_model.specs.Targets.{is_of_mouse, message_for, packed, passes_input, taker, target}
use Rattle.user_model.specs.ReplyInput.{is_no_key}
use Rattle.user_model.specs.Idle.{reply}
use Rattle.user_model.specs.Legal.{IsLawful}
use Rattle.user_model.proofs.AnswerFacts.{IsInput}
use Rattle.user_model.proofs.ListLaws.{all_append, all_filter, all_found}
use Rattle.user_model.proofs.InputLaws.{untaken-any, untaken_after}
use Rattle.user_model.proofs.InputReplies.{key_told}

abbrev HasKey : Element → Type 0
HasKey x = x.key ≤ 254

low_key : (key : ℕ) → is_no_key key ≡ false → key ≤ 254
low_key key h = let parts = or_parts (eqb key 0) (nat_lt 254 key) h in grind (arith, nat_tests, parts.1)

new_key : (setup : Setup) (past : Past) (who k : ℕ) (call : Call) → reply setup past who call ≡ answers.Input k → AllByRecursion HasKey (elements_by setup past k (injection call))
new_key setup past who k (calls.Mouse number x y) e = (omega arith, tt)
new_key setup past who k (calls.Key down key) e = (low_key key (key_told setup past who down key (answers.Input k) e refl).1.1, tt)
new_key setup past who k _ e = tt

-- each untaken element has a key of at most 254, or 0
pub untaken_keys : (setup : Setup) (past : Past) → IsLawful setup past → AllByRecursion HasKey (untaken setup past)
untaken_keys setup [] lawful = tt
untaken_keys setup (e ∷ past) lawful = subst (AllByRecursion HasKey) (sym (untaken-any setup e past)) (by e.answer lawful.1 (untaken_keys setup past lawful.0))
  where
    taken : (n : ℕ) (b : Bool) → AllByRecursion HasKey (untaken setup past) → AllByRecursion HasKey (cond b (filter (λ x. not (eqb n x.number)) (untaken setup past)) (untaken setup past))
    taken n true all = all_filter HasKey (λ x. not (eqb n x.number)) (untaken setup past) all
    taken n false all = all

    by : (a : Answer) → a ≡ reply setup past e.who.0 e.call → AllByRecursion HasKey (untaken setup past) → AllByRecursion HasKey (untaken_after setup past e.who.0 e.call a (untaken setup past))
    by (answers.Input k) right all =
        let keeps : Element → Bool = λ x. not (is_number (replaced_by setup past (untaken setup past) (injection e.call)) x.number) in
        all_append HasKey (filter keeps (untaken setup past)) (elements_by setup past k (injection e.call)) (all_filter HasKey keeps (untaken setup past) all) (new_key setup past e.who.0 k e.call (sym right))
    by (answers.Got origins.Input n m) right all = taken n (removes e.call) all
    by answers.Ended right all = all_filter HasKey (λ x. not (eqb e.who.0 x.home)) (untaken setup past) all
    by _ right all = all

all_first : {X : Type 0} (P : X → Type 0) (n : ℕ) (xs : List X) → AllByRecursion P xs → AllByRecursion P (take n xs)
all_first P zero [] h = tt
all_first P zero (x ∷ xs) h = tt
all_first P (suc n) [] h = tt
all_first P (suc n) (x ∷ xs) h = (h.0, all_first P n xs h.1)

low_wparam : (past : Past) (x : Element) (w : ℕ) → x.key ≤ 254 → (message_for past x w).wparam ≤ 254
low_wparam past x w h = by (is_of_mouse x.message)
  where
    by : (b : Bool) → (cond b (message w x.message 0 (packed past w x.point) x.time x.point) (message w x.message x.key 1 x.time x.point)).wparam ≤ 254
    by true = omega arith
    by false = h

-- the wParam of an input that is handed out is a key, or 0
pub input_key : (setup : Setup) (past : Past) (who : ℕ) (call : Call) (n : ℕ) (m : Msg) → IsLawful setup past → IsInput setup past who call n m → m.wparam ≤ 254
input_key setup past who call n m lawful got =
    let mine : List Element = of_group past who (untaken setup past) in
    let all : AllByRecursion HasKey mine = all_filter HasKey (λ x. is_in_group past who x.home) (untaken setup past) (untaken_keys setup past lawful) in
    let first : AllByRecursion HasKey (take_while (λ x. eqb (taker setup past x) who) mine) = all_first HasKey _ mine all in
    let low : got.of.key ≤ 254 = all_found HasKey (passes_input setup past got.pass) (take_while (λ x. eqb (taker setup past x) who) mine) got.of first got.is_first in
    subst (λ (k : Msg). k.wparam ≤ 254) (sym got.is_message) (low_wparam past got.of (target setup past got.of) low)
