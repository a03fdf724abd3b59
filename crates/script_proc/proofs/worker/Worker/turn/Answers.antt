use Rattle.std.proofs.Common.{◌≡◌, ◌<◌, OnErr, sym, subst, arith}
use Rattle.user_model.specs.Tellers.{GoesOn}
use Rattle.script_tree.specs.Tree.{Tree}
use Rattle.script_tree.specs.Pieces.{Cut, Whole}
use Rattle.script_tree.specs.Traces.{IsTrace}
use Rattle.script_proc.specs.Programs.{IsProgramOf}
use Rattle.script_proc.specs.Workers.{uses, call_of, next_of, end_of}
use Rattle.script_proc.specs.Turns.{Asked, IsCut, Stays}
use Rattle.script_proc.proofs.WorkerLaws.{if_ok}
use Rattle.script_proc.proofs.TurnLaws.{goes_on_itself, not_both, if_any, on_err, asked_did, asks_somebody}
use Rattle.script_proc.proofs.worker.Worker.turn.Goals as goal

pub returns-then-not-branch-clause-did : goal.returns-then-not-branch-clause-did
returns-then-not-branch-clause-did g c s of =
    let whole : IsCut s c.args.program.now c.args.self.now Whole = λ t tr w. subst (λ b. IsTrace s t tr (end_of (next_of c.go_on.new.self b))) c.if-not-branch.true (c.in_ok-go_on.ensures.next s t tr w) in
    record { whole = whole; stays = record { worker = c.go_on.ensures.worker s; used = c.go_on.ensures.used } }

pub returns-then-not-branch-clause-spent : goal.returns-then-not-branch-clause-spent
returns-then-not-branch-clause-spent g c s t tr call w next full =
    absurd (not_both s t tr call (subst (λ b. IsTrace s t tr (end_of (next_of c.go_on.new.self b))) c.if-not-branch.true (c.in_ok-go_on.ensures.next s t tr w)) next)

pub returns-then-not-branch-clause-goes_on : goal.returns-then-not-branch-clause-goes_on
returns-then-not-branch-clause-goes_on g c = goes_on_itself _ _ _

pub returns-then-not-branch-clause-still : goal.returns-then-not-branch-clause-still
returns-then-not-branch-clause-still g c = g.met.T.Teller.still_itself c.args.teller.now

pub returns-then-spent-clause-did : goal.returns-then-spent-clause-did
returns-then-spent-clause-did g c s of =
    let next : IsCut s c.args.program.now c.args.self.now (Cut (call_of c.go_on.new.self)) = λ t tr w. subst (λ b. IsTrace s t tr (end_of (next_of c.go_on.new.self b))) c.if-not-branch.false (c.in_ok-go_on.ensures.next s t tr w) in
    record { call = call_of c.go_on.new.self; next = next; spent = omega (arith, c.if-spent.true, c.budget.ensures, of.budget, c.used.ensures.used, c.go_on.ensures.used); stays = record { worker = c.go_on.ensures.worker s; used = c.go_on.ensures.used } }

pub returns-then-spent-clause-ended : goal.returns-then-spent-clause-ended
returns-then-spent-clause-ended g c s t tr w whole =
    absurd (not_both s t tr (call_of c.go_on.new.self) whole (subst (λ b. IsTrace s t tr (end_of (next_of c.go_on.new.self b))) c.if-not-branch.false (c.in_ok-go_on.ensures.next s t tr w)))

pub returns-then-spent-clause-goes_on : goal.returns-then-spent-clause-goes_on
returns-then-spent-clause-goes_on g c = goes_on_itself _ _ _

pub returns-then-spent-clause-still : goal.returns-then-spent-clause-still
returns-then-spent-clause-still g c = g.met.T.Teller.still_itself c.args.teller.now

pub returns-clause-did : goal.returns-clause-did
returns-clause-did g c =
    let p = c.args.program.now in
    let stays : (s : Tree) → Stays s p c.args.self.now c.go_on.new.self = λ s. record { worker = c.go_on.ensures.worker s; used = c.go_on.ensures.used } in
    let next : (s : Tree) → IsCut s p c.args.self.now (Cut (call_of c.go_on.new.self)) = λ s t tr w. subst (λ b. IsTrace s t tr (end_of (next_of c.go_on.new.self b))) c.if-not-branch.false (c.in_ok-go_on.ensures.next s t tr w) in
    let left : (s : Tree) → IsProgramOf s p → uses c.args.self.now < s.budget = λ s of. omega (arith, c.if-spent.false, c.budget.ensures, of.budget, c.used.ensures.used, c.go_on.ensures.used) in
    if_ok (Asked c.go_on.new.self c.ask.new.worker (g.T.Teller.view c.args.teller.now) (g.T.Teller.view c.ask.new.teller) (call_of c.go_on.new.self)) _ c.ask.result
    (λ turn asked s of. asked_did s p c.args.self.now c.go_on.new.self c.ask.new.worker (g.T.Teller.view c.args.teller.now) (g.T.Teller.view c.ask.new.teller) (call_of c.go_on.new.self) (record { next = next s; left = left s of }) (stays s) c.go_on.ensures.thread turn asked)
    c.ask.ensures.asked

pub returns-clause-ended : goal.returns-clause-ended
returns-clause-ended g c =
    if_any _ c.ask.result (λ turn s t tr w whole. absurd (not_both s t tr (call_of c.go_on.new.self) whole (subst (λ b. IsTrace s t tr (end_of (next_of c.go_on.new.self b))) c.if-not-branch.false (c.in_ok-go_on.ensures.next s t tr w))))

pub returns-clause-spent : goal.returns-clause-spent
returns-clause-spent g c =
    if_any _ c.ask.result (λ turn s t tr call w next full. absurd (omega (arith, full, c.if-spent.false, c.budget.ensures, w.program.budget, c.used.ensures.used, c.go_on.ensures.used)))

pub returns-clause-untouched : goal.returns-clause-untouched
returns-clause-untouched g c =
    if_ok (Asked c.go_on.new.self c.ask.new.worker (g.T.Teller.view c.args.teller.now) (g.T.Teller.view c.ask.new.teller) (call_of c.go_on.new.self)) _ c.ask.result (λ turn h nobody. absurd (asks_somebody c.go_on.new.self c.ask.new.worker (g.T.Teller.view c.args.teller.now) (g.T.Teller.view c.ask.new.teller) (call_of c.go_on.new.self) turn h nobody)) c.ask.ensures.asked

pub returns-clause-no_memory : goal.returns-clause-no_memory
returns-clause-no_memory g c =
    let p = c.args.program.now in
    let stays : (s : Tree) → Stays s p c.args.self.now c.go_on.new.self = λ s. record { worker = c.go_on.ensures.worker s; used = c.go_on.ensures.used } in
    on_err (c.ask.new.worker ≡ c.go_on.new.self) _ c.ask.result (λ e s. subst (λ w. Stays s p c.args.self.now w) (sym e) (stays s)) c.ask.ensures.no_memory

pub returns-clause-no_entry : goal.returns-clause-no_entry
returns-clause-no_entry g c =
    let before = g.T.Teller.view c.args.teller.now in
    let after = g.T.Teller.view c.ask.new.teller in
    subst (λ n. OnErr c.ask.result (after.mine n ≡ before.mine n)) c.go_on.ensures.thread c.ask.ensures.no_entry

pub returns-clause-goes_on : goal.returns-clause-goes_on
returns-clause-goes_on g c =
    let before = g.T.Teller.view c.args.teller.now in
    let after = g.T.Teller.view c.ask.new.teller in
    subst (λ n. GoesOn before after (g.T.Teller.serves c.args.teller.now) n) c.go_on.ensures.thread c.ask.ensures.goes_on
