use Rattle.std.proofs.Common.{ap, sym, subst, ◌∙◌}
use Rattle.std.specs.Prelude.{IfSome}
use Rattle.std.specs.FinMap as map
use Rattle.send_frames.specs.Book.{Book}
use Rattle.send_state.specs.Parts.{CanAnswer, CanJoin, SendParts, answered, lists_joined}
use Rattle.send_state.proofs.Steps.{joins, joined}
use Rattle.send_state.proofs.state.SendState.answer.Goals as goal

pub join-requires : goal.join-requires
join-requires c =
    subst (λ (b : Book). IfSome (map.get b.known c.args.send.0) (λ k. CanJoin c.self.inside.ready.lists k.row.from.0 c.args.rank c.args.send.0)) (sym c.answer-is_first.ensures.kept)
    (joins c.self.inside.ready.lists c.self.inside.sends c.args.send.0 c.args.rank (c.args.value, c.args.cause)
    (sym c.answer-is_first.ensures.told ∙ c.if-is_first.true) (sym c.owes-owes.ensures ∙ c.if-owes.true)
    (subst (λ (p : SendParts). CanAnswer p c.args.send.0 c.args.rank) (sym c.self.view_is) c.requires))

pub returns-then-owes-clause-answered : goal.returns-then-owes-clause-answered
returns-then-owes-clause-answered c =
    let book = c.join.ensures.book ∙ c.answer-is_first.ensures.kept in
    let lists =
    c.join.ensures.lists ∙ ap (λ (b : Book). lists_joined c.self.inside.ready.lists c.args.send.0 c.args.rank (map.get b.known c.args.send.0)) c.answer-is_first.ensures.kept
    ∙ joined c.self.inside.ready.lists c.self.inside.sends c.args.send.0 c.args.rank (c.args.value, c.args.cause) (sym c.answer-is_first.ensures.told ∙ c.if-is_first.true) (sym c.owes-owes.ensures ∙ c.if-owes.true) in
    (λ i. record { book = book i; lists = lists i; marks = c.join.ensures.marks i }) ∙ ap (λ p. answered p c.args.send.0 c.args.value c.args.cause c.args.rank) c.self.view_is
