-- Packed and unpacked are inverse.
use Rattle.std.proofs.Common.{◌≡◌, ℕ, ◌%◌, ◌^◌, ◌<◌, eqb, cond, Bool, true, false, Option, Some, None, refl, sym, ap, ◌∙◌, subst, arith, lit<, eq-eqb, eqb-true}
use Rattle.win_num.specs.declared.message.Hwnd.{Hwnd}
use Rattle.dde_talk.specs.declared.message.Ask.TheVariants.{Request, Poke, Execute}
use Rattle.dde_talk.specs.declared.message.Reply.TheVariants.{Value, Ack}
use Rattle.dde_talk.specs.declared.message.Message.{Message}
use Rattle.dde_talk.specs.declared.message.Message.TheVariants.{Asks, Replies, Terminate}
use Rattle.dde_talk.specs.declared.message.Post.{Post}
use Rattle.dde_talk.specs.Packing.{packed, unpacked, Fits, item_part, value_part, lparam_of, word_of, lparam_in, number_in, guessed, if_packed_so}

item_back : (word item value : ℕ) → word < 2 ^ 16 → item < 2 ^ 16 → item_part (lparam_of word item value) ≡ item
item_back word item value l h = omega arith

value_back : (word item value : ℕ) → word < 2 ^ 16 → item < 2 ^ 16 → value_part (lparam_of word item value) ≡ value
value_back word item value l h = omega arith

word_back : (good : Bool) (item : ℕ) → eqb (lparam_of (word_of good) item 0 % 65536) 32768 ≡ good
word_back true item = eq-eqb _ _ (omega arith)
word_back false item = not_good (lparam_of 0 item 0 % 65536) (omega arith)
  where
    not_good : (n : ℕ) → n ≡ 0 → eqb n 32768 ≡ false
    not_good n e = ap (λ n. eqb n 32768) e

-- where the message is packed into this lParam, it is told
told : (lparam : ℕ) (g m : Message) → g ≡ m → lparam_in m ≡ lparam → if_packed_so lparam (Some g) ≡ Some m
told lparam g m e l = subst (λ x. if_packed_so lparam (Some x) ≡ Some m) (sym e) (ap (λ t. cond t (Some m) None) (eq-eqb _ _ l))

-- a message is what its post tells
pub unpacked-packed : (w : Hwnd) (m : Message) → Fits m → unpacked (packed w m) ≡ Some m
unpacked-packed w (Asks (Request item)) h = told _ _ _ (ap (λ i. Asks (Request i)) (item_back 1 item 0 (lit< tt) h)) refl
unpacked-packed w (Asks (Poke item value)) h = told _ _ _ (ap (λ i. Asks (Poke i (value_part (lparam_of 1 item value)))) (item_back 1 item value (lit< tt) h.0) ∙ ap (λ v. Asks (Poke item v)) (value_back 1 item value (lit< tt) h.0)) refl
unpacked-packed w (Asks (Execute command)) h = told _ _ _ (ap (λ i. Asks (Execute i)) (item_back 0 command 0 (lit< tt) h)) refl
unpacked-packed w (Replies (Value item value)) h = told _ _ _ (ap (λ i. Replies (Value i (value_part (lparam_of 1 item value)))) (item_back 1 item value (lit< tt) h.0) ∙ ap (λ v. Replies (Value item v)) (value_back 1 item value (lit< tt) h.0)) refl
unpacked-packed w (Replies (Ack item good)) h = told _ _ _ (ap (λ i. Replies (Ack i (eqb (lparam_of (word_of good) item 0 % 65536) 32768))) (item_back (word_of good) item 0 (word_fits good) h) ∙ ap (λ g. Replies (Ack item g)) (word_back good item)) refl
  where
    word_fits : (good : Bool) → word_of good < 2 ^ 16
    word_fits true = lit< tt
    word_fits false = lit< tt
unpacked-packed w Terminate h = refl

-- what is told is packed so
told_so : (lparam : ℕ) (o : Option Message) (m : Message) → if_packed_so lparam o ≡ Some m → (o ≡ Some m) × (lparam_in m ≡ lparam)
told_so lparam None m h = (h, cc)
told_so lparam (Some g) m h = at (eqb (lparam_in g) lparam) refl h
  where
    at : (b : Bool) → eqb (lparam_in g) lparam ≡ b → cond b (Some g) None ≡ Some m → (Some g ≡ Some m) × (lparam_in m ≡ lparam)
    at true t h = let e : g ≡ m = cc in (h, ap lparam_in (sym e) ∙ eqb-true _ _ t)
    at false t h = (cc, cc)

-- one of the messages that a number may stand for
picked : (n k : ℕ) (x : Message) (rest : Option Message) (m : Message) → number_in x ≡ k → (rest ≡ Some m → number_in m ≡ n) → cond (eqb n k) (Some x) rest ≡ Some m → number_in m ≡ n
picked n k x rest m e later h = at (eqb n k) refl h
  where
    at : (b : Bool) → eqb n k ≡ b → cond b (Some x) rest ≡ Some m → number_in m ≡ n
    at true t h = let same : x ≡ m = cc in ap number_in (sym same) ∙ (e ∙ sym (eqb-true n k t))
    at false t h = later h

numbered : (n l : ℕ) (m : Message) → guessed n l ≡ Some m → number_in m ≡ n
numbered n l m h =
    picked n 993 Terminate _ m refl
    (picked n 996 _ _ m refl
    (picked n 997 _ _ m refl
    (picked n 998 _ _ m refl
    (picked n 999 _ _ m refl
    (picked n 1000 _ None m refl (λ none. cc)))))) h

-- a post that tells a message is that message's own
pub packed-unpacked : (p : Post) (m : Message) → unpacked p ≡ Some m → p ≡ packed (record { 0 = p.wparam }) m
packed-unpacked p m h =
    let so = told_so p.lparam (guessed p.number p.lparam) m h in
    let n : number_in m ≡ p.number = numbered p.number p.lparam m so.0 in
    subst (λ k. p ≡ record { number = k; wparam = p.wparam; lparam = lparam_in m }) (sym n) (subst (λ l. p ≡ record { number = p.number; wparam = p.wparam; lparam = l }) (sym so.1) refl)
