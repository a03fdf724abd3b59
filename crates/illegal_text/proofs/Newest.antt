-- The frame of the newest entry.
use Rattle.std.proofs.Common.{◌≡◌, ℕ, zero, suc, ◌-◌, ◌+◌, List, [], ◌∷◌, ◌++◌, length, reverse, Option, Some, None, refl, ap, sym, ◌∙◌, arith}
use Rattle.std.specs.Prelude.{slice_get}
use Rattle.std.proofs.lemmas.List.{length-append, reverse-append}
use Rattle.user_model.specs.declared.entry.Entry.{Entry}
use Rattle.user_model.specs.declared.entry.Setup.{Setup}
use Rattle.user_model.specs.Legal.{IsLawful}
use Rattle.user_model.specs.Past.{Past}
use Rattle.log_text.specs.Frames.{shown}
use Rattle.illegal_text.specs.Texts.{newest_frame}

last_push : (xs : List Entry) (e : Entry) → slice_get (xs ++ e ∷ []) (length xs) ≡ Some e
last_push [] e = refl
last_push (x ∷ xs) e = last_push xs e

last_is : (xs : List Entry) (e : Entry) → slice_get (xs ++ e ∷ []) (length (xs ++ e ∷ []) - 1) ≡ Some e
last_is xs e =
    let place : length (xs ++ e ∷ []) - 1 ≡ length xs = omega (arith, length-append xs (e ∷ [])) in
    ap (slice_get (xs ++ e ∷ [])) place ∙ last_push xs e

some_is : (x y : Entry) → (let o : Option Entry = Some x in let p : Option Entry = Some y in o ≡ p) → x ≡ y
some_is x y e = cc

none_last : (history : List Entry) (e : Entry) → history ≡ [] → slice_get history (length history - 1) ≡ Some e → ⊥
none_last history e none last = let here : slice_get [] (length history - 1) ≡ Some e = ap (λ (h : List Entry). slice_get h (length history - 1)) (sym none) ∙ last in absurd cc

-- the last entry of a history is the newest of its past
pub newest_told : (setup : Setup) (past : Past) (history : List Entry) (entry : Entry) (frame : Option (List ℕ)) → history ≡ reverse past → slice_get history (length history - 1) ≡ Some entry
    → ((later before : Past) → IsLawful setup past → past ≡ later ++ entry ∷ before → frame ≡ shown setup before entry.answer) → IsLawful setup past → frame ≡ newest_frame setup past
newest_told setup [] history entry frame is last told lawful = absurd (none_last history entry is last)
newest_told setup (e ∷ past) history entry frame is last told lawful =
    let whole : history ≡ reverse past ++ e ∷ [] = is ∙ reverse-append (e ∷ []) past in
    let same : e ≡ entry = some_is e entry (sym (last_is (reverse past) e) ∙ ap (λ (h : List Entry). slice_get h (length h - 1)) (sym whole) ∙ last) in
    told [] past lawful (ap (λ (x : Entry). x ∷ past) same) ∙ ap (λ (x : Entry). shown setup past x.answer) (sym same)
