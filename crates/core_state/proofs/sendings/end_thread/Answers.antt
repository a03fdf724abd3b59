use Rattle.std.proofs.Common.{◌≤◌, ℕ, List, ap, ◌∙◌, sym, subst}
use Rattle.std.specs.Prelude.{length}
use Rattle.win_num.specs.declared.send.Frame.{Frame}
use Rattle.send_state.specs.Parts.{SendParts}
use Rattle.core_state.specs.Sendings.{is_of}
use Rattle.core_state.proofs.SendStacks.{lost-stacks}
use Rattle.core_state.proofs.sendings.end_thread.Goals as goal

pub lose-lost-requires-clause-joins : goal.lose-lost-requires-clause-joins
lose-lost-requires-clause-joins c = (is_of c.args.tree.now.live c.args.who.0, λ w b p. p.1, c.requires.losing.joins)

pub end-requires : goal.end-requires
end-requires c =
    let test = is_of c.args.tree.now.live c.args.who.0 in
    let same = ap (λ (p : SendParts). length p.book.stacks) (c.lose-lost.ensures.lost test (λ w b p. p.1)) ∙ ap (λ (l : List (List Frame)). length l) (lost-stacks test c.args.sends.now c.args.place) in
    (c.requires.thread.0, subst (λ (n : ℕ). c.args.who.0 ≤ n) (sym same) c.requires.thread.1)

pub returns-clause-stories : goal.returns-clause-stories
returns-clause-stories c = c.note_losses.ensures (is_of c.args.tree.now.live c.args.who.0) (λ w b p. p.1)
