use Rattle.std.proofs.Common.{ℕ, List, [], ◌∷◌, ◌++◌, Bor, ap, ◌∙◌, arith}
use Rattle.std.specs.Prelude.{map}
use Rattle.script_text.proofs.FirstBad.{parted, never_none}
use Rattle.log_read.proofs.LogParts.{ok_then}
use Rattle.log_read.proofs.judge.first_refusal.Goals as goal

pub returns-in-Some : goal.returns-in-Some
returns-in-Some c =
    let read : Bor (List ℕ) → List ℕ = λ w. w.now in
    let p = parted read c.args.bytes.now c.in_ok-texts.texts.items c.pop.new.self.items c.deref.result.now c.in-Some.rest c.in_ok-texts.ensures c.in-Some.ensures.items c.deref.ensures.value in
    ok_then _ _ c.refusal_of.result (λ refusal first. first c.args.bytes.now (ap (λ (l : List (Bor (List ℕ))). map read l ++ read c.in-Some.rest ∷ []) p.same ∙ p.split)) c.refusal_of.ensures

pub returns : goal.returns
returns c = absurd (never_none (λ w. w.now) c.args.bytes.now c.in_ok-texts.texts.items c.in_ok-texts.ensures (omega (arith, c.in-None.ensures.cases)))
