use Rattle.std.proofs.Common.{ℕ, List, Bor, refl, sym, ◌∙◌}
use Rattle.log_read.proofs.FirstBad.{bad_there, cut_there, ends_there}
use Rattle.log_read.proofs.judge.refusal_of.Goals as goal

pub returns-in-Some : goal.returns-in-Some
returns-in-Some c bytes split =
    let read : Bor (List ℕ) → List ℕ = λ w. w.now in
    let bad = rw c.in-Some.is at c.in_ok-before.ensures.bad in
    bad_there read c.args.words.now.script.now c.requires.named bytes c.args.texts.now c.args.texts.now c.args.rest (record { split = split; same = refl }) c.refusal_at.result c.in-Some.before c.in-Some.reason bad c.refusal_at.ensures

pub returns-then-is_empty : goal.returns-then-is_empty
returns-then-is_empty c bytes split =
    let read : Bor (List ℕ) → List ℕ = λ w. w.now in
    let refusal = c.refusal_at-then-is_empty in
    ends_there read c.args.words.now.script.now c.requires.named bytes c.args.texts.now c.args.texts.now c.args.rest (record { split = split; same = refl }) refusal.result (c.in_ok-before.ensures.good c.in_default.is) refusal.ensures.0 (sym c.is_empty.ensures ∙ c.if-is_empty.true) refusal.ensures.1

pub returns-else-is_empty : goal.returns-else-is_empty
returns-else-is_empty c bytes split =
    let read : Bor (List ℕ) → List ℕ = λ w. w.now in
    let refusal = c.refusal_at-else-is_empty in
    cut_there read c.args.words.now.script.now c.requires.named bytes c.args.texts.now c.args.texts.now c.args.rest (record { split = split; same = refl }) refusal.result (c.in_ok-before.ensures.good c.in_default.is) refusal.ensures.0 (sym c.is_empty.ensures ∙ c.if-is_empty.false) refusal.ensures.1
