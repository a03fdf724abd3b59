-- A script has one run, and it is lawful.
use Rattle.std.proofs.Common.{◌≡◌, ℕ, zero, suc, ◌+◌, ◌-◌, ◌<◌, ◌≤◌, List, [], ◌∷◌, length, drop, get_or, Option, Some, None, refl, sym, ap, ◌∙◌, subst, inl, inr, arith}
use Rattle.std.specs.Prelude.{map}
use Rattle.std.proofs.lemmas.Bool.{cases_lt}
use Rattle.std.proofs.lemmas.List.{drop_more, length-drop}
use Rattle.user_model.specs.declared.call.Call.{Call}
use Rattle.user_model.specs.declared.entry.Answer.{Answer}
use Rattle.user_model.specs.declared.entry.Entry.{Entry}
use Rattle.user_model.specs.Idle.{reply}
use Rattle.user_model.specs.Legal.{IsLawful}
use Rattle.script_tree.specs.Tree.{Tree}
use Rattle.script_tree.specs.Pieces.{Cut}
use Rattle.script_tree.proofs.TraceLaws.{one_end}
use Rattle.log_text.specs.Ends.{setup_of}
use Rattle.user_pool.specs.Runs.{ComesNext, choice, IsMove, IsRun, IsByChoice, IsListed}

some_is : {X : Type 0} (o : Option X) (x y : X) → o ≡ Some x → o ≡ Some y → x ≡ y
some_is o x y e f = let both : Some x ≡ Some y = sym e ∙ f in cc

-- one call comes next
next_same : (s : Tree) (past : List Entry) (who : ℕ) (c d : Call) → ComesNext s past who c → ComesNext s past who d → c ≡ d
next_same s past zero c d a b = a ∙ sym b
next_same s past (suc n) c d a b = let same : Cut c ≡ Cut d = one_end s a b in cc

-- two moves of one actor after the same past are the same
pub move_same : (s : Tree) (h : List Entry) (e f : Entry) → e.who.0 ≡ f.who.0 → IsMove s h e → IsMove s h f → e ≡ f
move_same s h e f who a b =
    let call : e.call ≡ f.call = next_same s h e.who.0 e.call f.call a.call (subst (λ w. ComesNext s h w f.call) (sym who) b.call) in
    let answer : e.answer ≡ f.answer = a.answer ∙ ap (λ (w : ℕ). reply (setup_of s) h w e.call) who ∙ ap (reply (setup_of s) h f.who.0) call ∙ sym b.answer in
    ap (λ (w : ℕ). let x : Entry = record { who = record { 0 = w }; call = e.call; answer = e.answer } in x) who
    ∙ ap (λ (c : Call). let x : Entry = record { who = f.who; call = c; answer = e.answer } in x) call
    ∙ ap (λ (a : Answer). let x : Entry = record { who = f.who; call = f.call; answer = a } in x) answer

one_more : (s : Tree) (h k : List Entry) (x y : Entry) → h ≡ k → x.who.0 ≡ y.who.0 → IsMove s h x → IsMove s k y → x ∷ h ≡ y ∷ k
one_more s h k x y below who a b =
    let moved : IsMove s h y = subst (λ l. IsMove s l y) (sym below) b in
    ap (λ (l : List Entry). x ∷ l) below ∙ ap (λ (z : Entry). z ∷ k) (move_same s h x y who a moved)

-- who made the entries
abbrev movers : List Entry → List ℕ
movers past = map (λ e. e.who.0) past

head_same : {x y : ℕ} {xs ys : List ℕ} → x ∷ xs ≡ y ∷ ys → x ≡ y
head_same e = cc

tail_same : {x y : ℕ} {xs ys : List ℕ} → x ∷ xs ≡ y ∷ ys → xs ≡ ys
tail_same e = cc

-- the order in which actors move decides the run
pub same_movers : (s : Tree) (h k : List Entry) → IsRun s h → IsRun s k → movers h ≡ movers k → h ≡ k
same_movers s [] [] a b e = refl
same_movers s [] (y ∷ k) a b e = absurd cc
same_movers s (x ∷ h) [] a b e = absurd cc
same_movers s (x ∷ h) (y ∷ k) a b e = one_more s h k x y (same_movers s h k a.1 b.1 (tail_same e)) (head_same e) a.0 b.0

-- a run of those that were chosen
record Chosen (s : Tree) (past : List Entry) : Type 0 where
  run : IsRun s past
  chosen : IsByChoice s past

chosen_of : (s : Tree) (past : List Entry) → IsListed s past → Chosen s past
chosen_of s past listed = record { run = listed.run; chosen = listed.chosen }

chosen_below : (s : Tree) (e : Entry) (past : List Entry) → Chosen s (e ∷ past) → Chosen s past
chosen_below s e past c = record { run = c.run.1; chosen = c.chosen.1 }

same_length : (s : Tree) (h k : List Entry) → Chosen s h → Chosen s k → length h ≡ length k → h ≡ k
same_length s [] [] a b e = refl
same_length s [] (y ∷ k) a b e = absurd (omega arith)
same_length s (x ∷ h) [] a b e = absurd (omega arith)
same_length s (x ∷ h) (y ∷ k) a b e =
    let below : h ≡ k = same_length s h k (chosen_below s x h a) (chosen_below s y k b) (omega arith) in
    let who : x.who.0 ≡ y.who.0 = some_is (choice s h) x.who.0 y.who.0 a.chosen.0 (ap (choice s) below ∙ b.chosen.0) in
    one_more s h k x y below who a.run.0 b.run.0

chosen_drop : (s : Tree) (n : ℕ) (h : List Entry) → Chosen s h → Chosen s (drop n h)
chosen_drop s zero h c = c
chosen_drop s (suc n) [] c = c
chosen_drop s (suc n) (x ∷ h) c = chosen_drop s n h (chosen_below s x h c)

-- a run that is over is no past of a longer one
not_shorter : (s : Tree) (h k : List Entry) (d : Entry) → IsListed s h → Chosen s k → length h < length k → ⊥
not_shorter s h k d a b lt =
    let n = length k - length h - 1 in
    let past : List Entry = drop (n + 1) k in
    let same : h ≡ past = same_length s h past (chosen_of s h a) (chosen_drop s (n + 1) k b) (omega (arith, length-drop (n + 1) k)) in
    let there : n < length k = omega arith in
    let longer : Chosen s (get_or k n d ∷ past) = subst (Chosen s) (drop_more k n d there) (chosen_drop s n k b) in
    let clash : None ≡ Some (get_or k n d).who.0 = sym a.over ∙ ap (choice s) same ∙ longer.chosen.0 in
    absurd cc

shorter_nil : (s : Tree) (h : List Entry) → IsListed s h → IsListed s [] → 1 ≤ length h → h ≡ []
shorter_nil s [] a b le = refl
shorter_nil s (x ∷ h) a b le = absurd (not_shorter s [] (x ∷ h) x b (chosen_of s (x ∷ h) a) (omega arith))

pub one_listed : (s : Tree) (h k : List Entry) → IsListed s h → IsListed s k → h ≡ k
one_listed s h [] a b =
    elim (cases_lt (length h) 1) [
      | inl lt ↦ same_length s h [] (chosen_of s h a) (chosen_of s [] b) (omega (arith, lt))
      | inr le ↦ shorter_nil s h a b le
    ]
one_listed s h (y ∷ k) a b =
    elim (cases_lt (length h) (length (y ∷ k))) [
      | inl lt ↦ absurd (not_shorter s h (y ∷ k) y a (chosen_of s (y ∷ k) b) lt)
      | inr le ↦ elim (cases_lt (length (y ∷ k)) (length h)) [
        | inl lt ↦ absurd (not_shorter s (y ∷ k) h y b (chosen_of s h a) lt)
        | inr ge ↦ same_length s h (y ∷ k) (chosen_of s h a) (chosen_of s (y ∷ k) b) (omega (arith, le, ge))
      ]
    ]

-- each move has the answer that the past gives it
pub run_lawful : (s : Tree) (past : List Entry) → IsRun s past → IsLawful (setup_of s) past
run_lawful s [] run = tt
run_lawful s (e ∷ past) run = (run_lawful s past run.1, run.0.answer)
