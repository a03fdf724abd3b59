-- Controls by rising number: those up to one, and the next above it.
use Rattle.std.proofs.Common.{◌≡◌, ℕ, ◌≤◌, ◌<◌, Bool, true, false, cond, leb, ltb, List, [], ◌∷◌, ◌++◌, Option, Some, None, refl, sym, ap, ◌∙◌, subst, arith, le-leb, ltb-true, ltb-false}
use Rattle.std.specs.Prelude.{filter, find}
use Rattle.std.proofs.lemmas.Bool.{lt-leb}
use Rattle.dialog_keys.specs.Controls.{Control}

-- numbers rise from above that one
abbrev pub AreRising : ℕ → List Control → Type 0
AreRising from [] = Unit {0}
AreRising from (c ∷ cs) = (from < c.number) × AreRising c.number cs

-- the controls up to that number
abbrev pub up_to : ℕ → List Control → List Control
up_to v cs = filter (λ (c : Control). leb c.number v) cs

-- the first control above that number
abbrev pub next_above : ℕ → List Control → Option Control
next_above v cs = find (λ (c : Control). ltb v c.number) cs

pub none_up_to : (v from : ℕ) (cs : List Control) → AreRising from cs → v ≤ from → up_to v cs ≡ []
none_up_to v from [] h le = refl
none_up_to v from (c ∷ cs) h le =
    let above : leb c.number v ≡ false = lt-leb c.number v (omega (arith, h.0, le)) in
    ap (λ b. cond b (c ∷ up_to v cs) (up_to v cs)) above ∙ none_up_to v c.number cs h.1 (omega (arith, h.0, le))

pub next_is_above : (v : ℕ) (cs : List Control) (c : Control) → next_above v cs ≡ Some c → v < c.number
next_is_above v [] c e = absurd cc
next_is_above v (d ∷ cs) c e = here (ltb v d.number) refl e (next_is_above v cs c)
  where
    here : (b : Bool) → ltb v d.number ≡ b → cond b (Some d) (next_above v cs) ≡ Some c → (next_above v cs ≡ Some c → v < c.number) → v < c.number
    here true h e rest = let same : d ≡ c = cc in subst (λ (x : Control). v < x.number) same (ltb-true v d.number h)
    here false h e rest = rest e

-- the next above a number is what comes behind those up to it
pub up_to_next : (v from : ℕ) (cs : List Control) (c : Control) → AreRising from cs → next_above v cs ≡ Some c → up_to c.number cs ≡ up_to v cs ++ c ∷ []
up_to_next v from [] c h e = absurd cc
up_to_next v from (d ∷ cs) c h e = here (ltb v d.number) refl e (up_to_next v d.number cs c h.1)
  where
    here : (b : Bool) → ltb v d.number ≡ b → cond b (Some d) (next_above v cs) ≡ Some c → (next_above v cs ≡ Some c → up_to c.number cs ≡ up_to v cs ++ c ∷ []) → up_to c.number (d ∷ cs) ≡ up_to v (d ∷ cs) ++ c ∷ []
    here true b e rest =
        let same : d ≡ c = cc in
        let over = ltb-true v d.number b in
        let last : up_to d.number (d ∷ cs) ≡ d ∷ [] = ap (λ b. cond b (d ∷ up_to d.number cs) (up_to d.number cs)) (le-leb d.number d.number (omega arith)) ∙ ap (λ l. d ∷ l) (none_up_to d.number d.number cs h.1 (omega arith)) in
        let none : up_to v (d ∷ cs) ≡ [] = ap (λ b. cond b (d ∷ up_to v cs) (up_to v cs)) (lt-leb d.number v over) ∙ none_up_to v d.number cs h.1 (omega (arith, over)) in
        subst (λ (x : Control). up_to x.number (d ∷ cs) ≡ up_to v (d ∷ cs) ++ x ∷ []) same (last ∙ sym (ap (λ l. l ++ d ∷ []) none))
    here false b e rest =
        let under = ltb-false v d.number b in
        let over = next_is_above v cs c e in
        ap (λ b. cond b (d ∷ up_to c.number cs) (up_to c.number cs)) (le-leb d.number c.number (omega (arith, under, over)))
        ∙ ap (λ l. d ∷ l) (rest e)
        ∙ sym (ap (λ b. cond b (d ∷ up_to v cs) (up_to v cs) ++ c ∷ []) (le-leb d.number v (omega (arith, under))))

-- where none is above a number, all are up to it
pub up_to_all : (v : ℕ) (cs : List Control) → next_above v cs ≡ None → up_to v cs ≡ cs
up_to_all v [] e = refl
up_to_all v (d ∷ cs) e = here (ltb v d.number) refl e (up_to_all v cs)
  where
    here : (b : Bool) → ltb v d.number ≡ b → cond b (Some d) (next_above v cs) ≡ None → (next_above v cs ≡ None → up_to v cs ≡ cs) → up_to v (d ∷ cs) ≡ d ∷ cs
    here true b e rest = absurd cc
    here false b e rest = ap (λ b. cond b (d ∷ up_to v cs) (up_to v cs)) (le-leb d.number v (omega (arith, ltb-false v d.number b))) ∙ ap (λ l. d ∷ l) (rest e)
