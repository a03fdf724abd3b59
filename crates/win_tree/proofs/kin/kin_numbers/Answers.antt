use Rattle.std.proofs.Common.{◌≡◌, ◌<◌, ◌∙◌, ◌++◌, ◌∷◌, [], List, length, false, eqb, sym, ap, arith, rules, tests}
use Rattle.std.proofs.lemmas.List.{take_all}
use Rattle.win_num.specs.declared.message.Hwnd.{Hwnd}
use Rattle.win_rows.specs.declared.window.Window.{Window}
use Rattle.win_tree.specs.Kin.{is_more, kin_of}
use Rattle.win_tree.proofs.KinLists.{kin_put, kin_passed, kin_rise}
use Rattle.win_tree.proofs.kin.kin_numbers.Goals as goal
use Rattle.win_tree.proofs.kin.kin_numbers.Goals.{else-is_more-via-then-is_more+else-is_err, else-is_more-via-else-is_more}

pub is_more-requires : goal.is_more-requires
is_more-requires c = kin_rise c.requires.0 c.args.windows.now c.args.w.0 c.loop-i.i _ c.requires.1 (c.deref.ensures.value ∙ c.loop-i.invariant)

pub loop-i-preserved : goal.loop-i-preserved
loop-i-preserved c =
    let ws = c.args.windows.now in
    let w = c.args.w.0 in
    let x = c.at-x.result.now in
    let kin = c.loop-i.kin.items in
    let some : eqb w 0 ≡ false = search (rules, tests) in
    let lt : c.loop-i.i < length ws = search (rules, tests) in
    let same : c.is_more.result ≡ is_more kin w x = c.is_more.ensures ∙ ap (λ (vs : List Hwnd). is_more vs w x) c.deref.ensures.value in
    elim c.else-is_more.branch [
      | else-is_more-via-then-is_more+else-is_err b ↦
          let put : b.push.new.self.items ≡ kin ++ x.number ∷ [] = search (rules, tests) in
          ap (λ v. v.items) b.kin-is ∙ kin_put c.requires.0 ws w c.loop-i.i x c.requires.1 some lt c.at-x.ensures kin b.push.new.self.items c.loop-i.invariant (sym same ∙ b.if-is_more.true) put
      | else-is_more-via-else-is_more b ↦
          ap (λ v. v.items) b.kin-is ∙ kin_passed c.requires.0 ws w c.loop-i.i x c.requires.1 some lt c.at-x.ensures kin c.loop-i.invariant (sym same ∙ b.if-is_more.false)
    ]

pub returns : goal.returns
returns c = c.loop-i.invariant ∙ ap (λ (us : List Window). kin_of c.args.windows.now us c.args.w.0) (take_all c.loop-i.i c.args.windows.now (omega arith))
