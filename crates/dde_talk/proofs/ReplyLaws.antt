-- The right replies to asks, one ask more.
use Rattle.std.proofs.Common.{◌≡◌, ℕ, List, [], ◌∷◌, ◌++◌, true, eqb, Option, Some, None, refl, ap, eq-eqb}
use Rattle.dde_talk.specs.declared.message.Ask.{Ask}
use Rattle.dde_talk.specs.declared.message.Ask.TheVariants.{Request, Poke, Execute}
use Rattle.dde_talk.specs.Replies.{item_of, reply_by, suits, value_after}
use Rattle.dde_talk.specs.Worlds.{right_replies, values_after}

-- the values after one ask more
pub values_more : (f : ℕ → Option ℕ) (asks : List Ask) (a : Ask) → values_after f (asks ++ a ∷ []) ≡ (λ i. value_after a i (values_after f asks i))
values_more f [] a = refl
values_more f (x ∷ asks) a = values_more (λ i. value_after x i (f i)) asks a

-- the values after asks, and after more asks
pub values_on : (f : ℕ → Option ℕ) (asks more : List Ask) → values_after f (asks ++ more) ≡ values_after (values_after f asks) more
values_on f [] more = refl
values_on f (x ∷ asks) more = values_on (λ i. value_after x i (f i)) asks more

-- the replies with one more
pub replies_more : (f : ℕ → Option ℕ) (commands : List ℕ) (asks : List Ask) (a : Ask) → right_replies f commands (asks ++ a ∷ []) ≡ right_replies f commands asks ++ reply_by (values_after f asks (item_of a)) commands a ∷ []
replies_more f commands [] a = refl
replies_more f commands (x ∷ asks) a = ap (λ rs. reply_by (f (item_of x)) commands x ∷ rs) (replies_more (λ i. value_after x i (f i)) commands asks a)

same_number : (n : ℕ) → eqb n n ≡ true
same_number n = eq-eqb n n refl

-- the right reply suits its ask
pub right_suits : (value : Option ℕ) (commands : List ℕ) (a : Ask) → suits a (reply_by value commands a) ≡ true
right_suits (Some v) commands (Request item) = same_number item
right_suits None commands (Request item) = same_number item
right_suits value commands (Poke item new) = same_number item
right_suits value commands (Execute command) = same_number command
