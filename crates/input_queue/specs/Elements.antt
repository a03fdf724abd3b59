-- Input elements that no thread has taken yet, in the order of their injection.
use Rattle.std.specs.Prelude.{if◌then◌else◌, ◌≡◌, ℕ, suc, ◌<◌, ◌==◌, Bool, not, ◌&&◌, nat_le, List, [], ◌∷◌, ◌++◌, filter, find, length, take_while, AllPairs, Option, Some, None, is_none}
use Rattle.std.specs.Int.{bit_at}
use Rattle.std.specs.Fn.{Shared}
use denote.Ref.{Bor}
use Rattle.win_num.specs.declared.message.Thread.{Thread}
use Rattle.win_num.specs.declared.names.TheConstants.{WM_MOUSEMOVE}
use Rattle.input_queue.specs.declared.element.Element.{Element}

-- the numbers rise from each element to the later ones
abbrev pub AreRising : List Element → Type 0
AreRising elements = AllPairs (λ x y. x.number < y.number) elements

-- whether the group has the thread: a group has bit t for thread t
abbrev pub is_in : ℕ → Thread → Bool
is_in group t = bit_at group t.0 == 1

-- the elements of a group
abbrev pub of_group : ℕ → List Element → List Element
of_group group elements = filter (λ x. is_in group x.home) elements

-- the elements but that of a number
abbrev pub without : ℕ → List Element → List Element
without number elements = filter (λ x. not (x.number == number)) elements

-- the elements but those with this home
abbrev pub without_home : Thread → List Element → List Element
without_home home elements = filter (λ x. not (x.home.0 == home.0)) elements

-- whether the element is a mouse move
abbrev pub is_move : Element → Bool
is_move x = x.message == WM_MOUSEMOVE

-- the last of a list
abbrev pub last_of : List Element → Option Element
last_of [] = None
last_of (x ∷ []) = Some x
last_of (x ∷ y ∷ elements) = last_of (y ∷ elements)

-- the number of the element, if it is a move
abbrev pub move_number : Option Element → Option ℕ
move_number None = None
move_number (Some x) = if is_move x then Some x.number else None

-- the number of the element that a new one with this message replaces: of two moves with none of the group between them the first
abbrev pub replaced_in : ℕ → ℕ → List Element → Option ℕ
replaced_in message group elements = if message == WM_MOUSEMOVE then move_number (last_of (of_group group elements)) else None

-- the same of the new one
abbrev pub replaced : Element → ℕ → List Element → Option ℕ
replaced e group elements = replaced_in e.message group elements

-- whether a new element with this message has no place: it replaces none, and the group has 512
abbrev pub lacks_place : ℕ → ℕ → List Element → Bool
lacks_place message group elements = is_none (replaced_in message group elements) && nat_le 512 (length (of_group group elements))

-- the elements but the one that is replaced
abbrev pub without_replaced : Option ℕ → List Element → List Element
without_replaced None elements = elements
without_replaced (Some number) elements = without number elements

-- the elements with a new one of the group
abbrev pub with_element : Element → ℕ → List Element → List Element
with_element e group elements = without_replaced (replaced e group elements) elements ++ e ∷ []

-- the first element that passes, among those before which the whole group's are the thread's too
abbrev pub first_takeable : Thread → (Element → Thread) → (Element → Bool) → List Element → Option Element
first_takeable t target test elements = find test (take_while (λ x. (target x).0 == t.0) elements)

-- how many elements are read: those up to the first one with another target, or the first one that passes
abbrev pub reads_of : Thread → (Element → Thread) → (Element → Bool) → List Element → ℕ
reads_of t target test [] = 0
reads_of t target test (x ∷ elements) = if ((target x).0 == t.0) && not (test x) then suc (reads_of t target test elements) else 1

-- each call of the closure answers what the function says of the element
abbrev pub Answers : {F K : Type 0} → Shared F (Bor Element × Unit {0}) K → (Element → K) → F → Type 0
Answers {F} {K} g answer_of f = (x : Bor Element) (answer : K) → g.post f (x, tt) answer → answer ≡ answer_of x.now
