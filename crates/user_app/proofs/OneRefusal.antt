-- A text is refused in one way.
use Rattle.std.proofs.Common.{◌≡◌, ◌⊎◌, ℕ, zero, suc, ◌+◌, ◌≤◌, ◌<◌, List, [], ◌∷◌, ◌++◌, length, take, drop, Option, Some, None, refl, sym, ap, ◌∙◌, arith, append_assoc, append-nil, length-append, subst, inl, inr, take-append-drop}
use Rattle.std.specs.Prelude.{slice_index_or}
use Rattle.std.specs.Io.KnownBytes.{Consumes, IsAtEnd}
use Rattle.std.proofs.lemmas.Option.{same_Some}
use Rattle.script_lines.specs.declared.line.Line.{Line}
use Rattle.script_lines.specs.Known.{Known}
use Rattle.script_lines.specs.LineReading.{texts_of}
use Rattle.script_text.specs.declared.fault.Reason.{Reason}
use Rattle.script_text.specs.declared.fault.Refusal.{Refusal}
use Rattle.script_text.specs.declared.fault.ReadFault.TheVariants as faults
use Rattle.script_text.specs.Grammar.{IsText, Begins, Front, Stood}
use Rattle.script_text.specs.Nesting.{Nest, nested_all, start}
use Rattle.script_text.specs.Reasons.{line_reason}
use Rattle.script_text.specs.Refusals.{HasCause, IsFirstBad, IsBadText, IsCutOff, IsTooShort}
use Rattle.script_text.proofs.Steps.{stood_read}
use Rattle.user_app.specs.Outcomes.{ReadNoScript}
use Rattle.user_app.specs.Refusals.{Refused, refusal_text, too_long}

-- ---- numbers and fronts

ordered : (a b : ℕ) → (a < b) ⊎ ((b < a) ⊎ (a ≡ b))
ordered zero zero = inr (inr refl)
ordered zero (suc b) = inl (omega arith)
ordered (suc a) zero = inr (inl (omega arith))
ordered (suc a) (suc b) = elim (ordered a b) [
  | inl lt ↦ inl (omega (arith, lt))
  | inr (inl gt) ↦ inr (inl (omega (arith, gt)))
  | inr (inr same) ↦ inr (inr (ap (λ (n : ℕ). suc n) same))
]

take_front : (n m : ℕ) (xs : List (List ℕ)) → n ≤ m → take n (take m xs) ≡ take n xs
take_front zero m xs le = refl
take_front (suc n) zero xs le = absurd (omega (arith, le))
take_front (suc n) (suc m) [] le = refl
take_front (suc n) (suc m) (x ∷ xs) le = ap (λ (l : List (List ℕ)). x ∷ l) (take_front n m xs (omega (arith, le)))

-- ---- one first bad line

-- what begins a script does so with fewer lines
begins_front : (texts : List (List ℕ)) (n m : ℕ) → n ≤ m → Begins (take m texts) → Begins (take n texts)
begins_front texts n m le b =
    let front : take n (take m texts) ≡ take n texts = take_front n m texts le in
    let parts : take n texts ++ drop n (take m texts) ≡ take m texts = ap (λ (l : List (List ℕ)). l ++ drop n (take m texts)) (sym front) ∙ take-append-drop n (take m texts) in
    let whole : take m texts ++ b.0 ≡ take n texts ++ (drop n (take m texts) ++ b.0) = ap (λ (l : List (List ℕ)). l ++ b.0) (sym parts) ∙ append_assoc (take n texts) (drop n (take m texts)) b.0 in
    (drop n (take m texts) ++ b.0, subst IsText whole b.1)

-- why a line is the first bad one
abbrev Why : List ℕ → ℕ → Known → Nest → Reason → Type 0
Why bytes before known nest reason = IsBadText (texts_of bytes) before known nest reason ⊎ (IsCutOff bytes before reason ⊎ IsTooShort bytes before reason)

within : (bytes : List ℕ) (before : ℕ) (known : Known) (nest : Nest) (reason : Reason) → Why bytes before known nest reason → before ≤ length (texts_of bytes)
within bytes before known nest reason (inl h) = omega (arith, h.there)
within bytes before known nest reason (inr (inl h)) = omega (arith, h.all)
within bytes before known nest reason (inr (inr h)) = omega (arith, h.all)

-- no later line is the first bad one
not_later : (bytes : List ℕ) (a b : ℕ) (known other : Known) (nest below : Nest) (reason why : Reason) → Why bytes a known nest reason → Why bytes b other below why → Begins (take b (texts_of bytes)) → a < b → ⊥
not_later bytes a b known other nest below reason why (inl h) w good lt = h.bad (begins_front (texts_of bytes) (a + 1) b (omega (arith, lt)) good)
not_later bytes a b known other nest below reason why (inr (inl h)) w good lt = absurd (omega (arith, h.all, lt, within bytes b other below why w))
not_later bytes a b known other nest below reason why (inr (inr h)) w good lt = absurd (omega (arith, h.all, lt, within bytes b other below why w))

-- ---- one reason

-- lines that stood leave the same names and the same open
pair_names : (a c : List Line) (b d : Known) → (let x : Option (List Line × Known) = Some (a, b) in let y : Option (List Line × Known) = Some (c, d) in x ≡ y) → (a ≡ c) × (b ≡ d)
pair_names a c b d e = let p = same_Some (a, b) (c, d) e in (ap (λ (q : List Line × Known). q.0) p, ap (λ (q : List Line × Known). q.1) p)

one_stood : (texts : List (List ℕ)) (known other : Known) (nest below : Nest) (m n : ℕ) → Stood texts known nest m → Stood texts other below n → (known ≡ other) × (nest ≡ below)
one_stood texts known other nest below m n h k =
    let same = pair_names h.said k.said known other (sym (stood_read texts known nest m h) ∙ stood_read texts other below n k) in
    (same.1, same_Some nest below (sym h.nested ∙ ap (nested_all (Some start)) same.0 ∙ k.nested))

one_reason : (bytes : List ℕ) (before : ℕ) (known other : Known) (nest below : Nest) (reason why : Reason) → known ≡ other → nest ≡ below → Why bytes before known nest reason → Why bytes before other below why → reason ≡ why
one_reason bytes before known other nest below reason why e f (inl h) (inl k) =
    h.why ∙ ap (λ (x : Known). line_reason before x nest (slice_index_or (texts_of bytes) before [])) e ∙ ap (λ (x : Nest). line_reason before other x (slice_index_or (texts_of bytes) before [])) f ∙ sym k.why
one_reason bytes before known other nest below reason why e f (inl h) (inr (inl k)) = absurd (omega (arith, h.there, k.all))
one_reason bytes before known other nest below reason why e f (inl h) (inr (inr k)) = absurd (omega (arith, h.there, k.all))
one_reason bytes before known other nest below reason why e f (inr (inl h)) (inl k) = absurd (omega (arith, k.there, h.all))
one_reason bytes before known other nest below reason why e f (inr (inl h)) (inr (inl k)) = h.why ∙ sym k.why
one_reason bytes before known other nest below reason why e f (inr (inl h)) (inr (inr k)) = absurd (h.cut k.ended)
one_reason bytes before known other nest below reason why e f (inr (inr h)) (inl k) = absurd (omega (arith, k.there, h.all))
one_reason bytes before known other nest below reason why e f (inr (inr h)) (inr (inl k)) = absurd (k.cut h.ended)
one_reason bytes before known other nest below reason why e f (inr (inr h)) (inr (inr k)) = h.why ∙ sym k.why

same_place : (bytes : List ℕ) (a b : Refusal) (h : IsFirstBad bytes a) (k : IsFirstBad bytes b) → h.before ≡ k.before
same_place bytes a b h k = elim (ordered h.before k.before) [
  | inl lt ↦ absurd (not_later bytes h.before k.before h.known k.known h.nest k.nest a.reason b.reason h.bad k.bad k.good lt)
  | inr (inl gt) ↦ absurd (not_later bytes k.before h.before k.known h.known k.nest h.nest b.reason a.reason k.bad h.bad h.good gt)
  | inr (inr same) ↦ same
]

same_both : (a b : Refusal) → a.line ≡ b.line → a.reason ≡ b.reason → a ≡ b
same_both a b e f =
    let at : ℕ → Reason → Refusal = λ n r. record { line = n; reason = r } in
    ap (λ (n : ℕ). at n a.reason) e ∙ ap (λ (r : Reason). at b.line r) f

one_first : (bytes : List ℕ) (a b : Refusal) → IsFirstBad bytes a → IsFirstBad bytes b → a ≡ b
one_first bytes a b h k =
    let place = same_place bytes a b h k in
    let F : ℕ → Type 0 = λ n. Front (take n (texts_of bytes)) k.known k.nest k.threads in
    let W : ℕ → Type 0 = λ n. Why bytes n k.known k.nest b.reason in
    let front = subst F (sym place) k.front in
    let same = one_stood (drop 4 (take h.before (texts_of bytes))) h.known k.known h.nest k.nest h.threads k.threads h.front.stood front.stood in
    same_both a b (h.number ∙ ap (λ (n : ℕ). n + 1) place ∙ sym k.number) (one_reason bytes h.before h.known k.known h.nest k.nest a.reason b.reason same.0 same.1 h.bad (subst W (sym place) k.bad))

-- a text that isn't too long
short_cause : (bytes : List ℕ) (a : Refusal) → length bytes ≤ 1048576 → HasCause bytes (faults.Refused a) → IsFirstBad bytes a
short_cause bytes a short (none, inl long) = absurd (omega (arith, short, long.many))
short_cause bytes a short (none, inr first) = first

-- ---- one line written

read_whole : (text bytes : List ℕ) (left : Option (List ℕ)) → Consumes (Some text) left bytes → IsAtEnd left → text ≡ bytes
read_whole text bytes None h e = absurd h
read_whole text bytes (Some rest) h e = h ∙ ap (λ (l : List ℕ). bytes ++ l) e ∙ append-nil bytes

read_part : (text bytes : List ℕ) (left : Option (List ℕ)) → Consumes (Some text) left bytes → length bytes ≤ length text
read_part text bytes None h = absurd h
read_part text bytes (Some rest) h = omega (arith, ap (λ (l : List ℕ). length l) h, length-append bytes rest)

-- how a text that was read is refused
abbrev Told : List ℕ → Option (List ℕ) → Refusal → Type 0
Told bytes left a = (IsAtEnd left × ((length bytes ≤ 1048576) × HasCause bytes (faults.Refused a))) ⊎ ((length bytes ≡ 1048577) × (a ≡ too_long))

one_told : (text bytes other : List ℕ) (l m : Option (List ℕ)) (a b : Refusal) → Consumes (Some text) l bytes → Consumes (Some text) m other → Told bytes l a → Told other m b → a ≡ b
one_told text bytes other l m a b c d (inl x) (inl y) =
    let e : bytes ≡ other = sym (read_whole text bytes l c x.0) ∙ read_whole text other m d y.0 in
    one_first bytes a b (short_cause bytes a x.1.0 x.1.1) (subst (λ (t : List ℕ). IsFirstBad t b) (sym e) (short_cause other b y.1.0 y.1.1))
one_told text bytes other l m a b c d (inl x) (inr y) = absurd (omega (arith, x.1.0, y.0, read_part text other m d, ap (λ (t : List ℕ). length t) (read_whole text bytes l c x.0)))
one_told text bytes other l m a b c d (inr x) (inl y) = absurd (omega (arith, y.1.0, x.0, read_part text bytes l c, ap (λ (t : List ℕ). length t) (read_whole text other m d y.0)))
one_told text bytes other l m a b c d (inr x) (inr y) = x.1 ∙ sym y.1

pub one_refusal : (text held a b : List ℕ) (l m : Option (List ℕ)) → Refused (ReadNoScript (Some text) l) (Some held) (Some a) → Refused (ReadNoScript (Some text) m) (Some held) (Some b) → a ≡ b
one_refusal text held a b l m h k =
    h.written ∙ ap (λ (r : Refusal). held ++ refusal_text r) (one_told text h.cause.text k.cause.text l m h.refusal k.refusal h.cause.input k.cause.input h.cause.refused k.cause.refused) ∙ sym k.written
