use Rattle.std.proofs.Common.{◌≡◌, ℕ, ◌+◌, List, Bor, length, sym, ◌∙◌, arith}
use Rattle.script_text.proofs.FirstBad.{parted, never_none, few_parted, few_before, bad_there, cut_there, ends_there}
use Rattle.script_text.proofs.judge.first_refusal.Goals as goal

pub returns-in_default : goal.returns-in_default
returns-in_default c = absurd (never_none (λ w. w.now) c.args.bytes.now c.in_ok-texts.texts.items c.in_ok-texts.ensures (omega (arith, c.in_default.ensures.cases)))

pub refusal_at-requires-in-Some-2 : goal.refusal_at-requires-in-Some-2
refusal_at-requires-in-Some-2 c =
    let read : Bor (List ℕ) → List ℕ = λ w. w.now in
    let p = parted read c.args.bytes.now c.in_ok-texts.texts.items c.pop.new.self.items c.deref.result.now c.in-Some.rest c.in_ok-texts.ensures c.in-Some.ensures.items c.deref.ensures.value in
    let bad = rw c.in-Some-2.is at c.in_ok-before.ensures.bad in
    omega (arith, few_before read c.args.bytes.now c.pop.new.self.items c.deref.result.now c.in-Some.rest p c.in-Some-2.before c.in-Some-2.reason bad, c.requires.short)

pub returns-in-Some-2 : goal.returns-in-Some-2
returns-in-Some-2 c =
    let read : Bor (List ℕ) → List ℕ = λ w. w.now in
    let p = parted read c.args.bytes.now c.in_ok-texts.texts.items c.pop.new.self.items c.deref.result.now c.in-Some.rest c.in_ok-texts.ensures c.in-Some.ensures.items c.deref.ensures.value in
    let bad = rw c.in-Some-2.is at c.in_ok-before.ensures.bad in
    bad_there read c.args.bytes.now c.pop.new.self.items c.deref.result.now c.in-Some.rest p c.in-Some-2.before c.in-Some-2.reason c.refusal_at-in-Some-2.result bad c.refusal_at-in-Some-2.ensures

pub refusal_at-requires-then-is_empty : goal.refusal_at-requires-then-is_empty
refusal_at-requires-then-is_empty c =
    let read : Bor (List ℕ) → List ℕ = λ w. w.now in
    let lines = c.pop.new.self.items in
    let p = parted read c.args.bytes.now c.in_ok-texts.texts.items lines c.deref.result.now c.in-Some.rest c.in_ok-texts.ensures c.in-Some.ensures.items c.deref.ensures.value in
    omega (arith, few_parted read c.args.bytes.now lines c.deref.result.now c.in-Some.rest p, c.len.ensures, c.pop.new.self.ok.0, c.requires.short)

pub returns-then-is_empty : goal.returns-then-is_empty
returns-then-is_empty c =
    let read : Bor (List ℕ) → List ℕ = λ w. w.now in
    let lines = c.pop.new.self.items in
    let p = parted read c.args.bytes.now c.in_ok-texts.texts.items lines c.deref.result.now c.in-Some.rest c.in_ok-texts.ensures c.in-Some.ensures.items c.deref.ensures.value in
    let line : c.refusal_at-then-is_empty.result.line ≡ length lines + 1 = omega (arith, c.refusal_at-then-is_empty.ensures.0, c.len.ensures, c.pop.new.self.ok.0) in
    ends_there read c.args.bytes.now lines c.deref.result.now c.in-Some.rest p c.first_bad.new.reading (c.in_ok-before.ensures.good c.in_default-2.is) c.refusal_at-then-is_empty.result line (sym c.is_empty.ensures ∙ c.if-is_empty.true) c.requires.other c.refusal_at-then-is_empty.ensures.1

pub refusal_at-requires-else-is_empty : goal.refusal_at-requires-else-is_empty
refusal_at-requires-else-is_empty c =
    let read : Bor (List ℕ) → List ℕ = λ w. w.now in
    let lines = c.pop.new.self.items in
    let p = parted read c.args.bytes.now c.in_ok-texts.texts.items lines c.deref.result.now c.in-Some.rest c.in_ok-texts.ensures c.in-Some.ensures.items c.deref.ensures.value in
    omega (arith, few_parted read c.args.bytes.now lines c.deref.result.now c.in-Some.rest p, c.len-else-is_empty.ensures, c.pop.new.self.ok.0, c.requires.short)

pub returns : goal.returns
returns c =
    let read : Bor (List ℕ) → List ℕ = λ w. w.now in
    let lines = c.pop.new.self.items in
    let p = parted read c.args.bytes.now c.in_ok-texts.texts.items lines c.deref.result.now c.in-Some.rest c.in_ok-texts.ensures c.in-Some.ensures.items c.deref.ensures.value in
    let line : c.refusal_at-else-is_empty.result.line ≡ length lines + 1 = omega (arith, c.refusal_at-else-is_empty.ensures.0, c.len-else-is_empty.ensures, c.pop.new.self.ok.0) in
    cut_there read c.args.bytes.now lines c.deref.result.now c.in-Some.rest p c.first_bad.new.reading (c.in_ok-before.ensures.good c.in_default-2.is) c.refusal_at-else-is_empty.result line (sym c.is_empty.ensures ∙ c.if-is_empty.false) c.refusal_at-else-is_empty.ensures.1
