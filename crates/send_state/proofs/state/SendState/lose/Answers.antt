use Rattle.std.proofs.Common.{◌≡◌, ◌+◌, ◌^◌, ◌<◌, ◌≤◌, ℕ, Bool, true, false, List, ap, sym, subst, ◌∙◌, arith, rules}
use Rattle.std.specs.Prelude.{Option, is_some}
use Rattle.std.specs.FinMap as map
use Rattle.win_num.specs.declared.message.Hwnd.{Hwnd}
use Rattle.win_num.specs.declared.send.Cause.TheVariants.{Loss}
use Rattle.send_frames.specs.Book.{Book}
use Rattle.send_variants.specs.Lists.{Entry, ReadyView, place_on}
use Rattle.send_state.specs.Parts.{CanAnswer, Ranked, SendParts, answered, is_losable, is_lost, lost_to, rank}
use Rattle.send_state.proofs.Losing.{all_without-place, begun-answered, both_true, can-lose, kept-here, known-within, left_false, lost-all, lost-at, lost-here, none_there, rank-grows, right_false}
use Rattle.send_state.proofs.state.SendState.lose.Goals as goal
use Rattle.send_state.proofs.state.SendState.lose.Goals.{else-is_losable-via-then-is_losable+else-is_some, else-is_losable-via-else-is_losable}

-- the parts of a book and ready lists
abbrev parts : Book → ReadyView → SendParts
parts b r = record { book = b; lists = r.lists; marks = r.marks }

pub answer-requires : goal.answer-requires
answer-requires g c =
    let test = c.requires.joins.0 in
    let s = c.in-Some.send.0 in
    let far = c.loop-send.invariant.so_far test c.requires.joins.1 ∙ ap (λ (p : SendParts). (p, c.loop-send.rank)) (sym c.self.view_is) in
    let lost : is_lost test (parts c.self.inside.sends c.self.inside.ready) s ≡ true =
    both_true (is_losable test (map.get c.self.inside.sends.known s)) (is_some (place_on s c.self.inside.ready.lists))
    (ap (λ (p : SendParts). is_losable test (map.get p.book.known s)) c.self.view_is ∙ sym (c.is_losable.ensures test c.requires.joins.1) ∙ c.if-is_losable.true)
    (ap (λ (o : Option ℕ). is_some o) (sym c.withdraw.ensures.place) ∙ sym c.is_some.ensures ∙ c.if-is_some.true) in
    let can = can-lose test (c.args.self.now, rank c.args.place 0) (parts c.self.inside.sends c.self.inside.ready, c.loop-send.rank) c.loop-send.last.0 s far c.in-Some.ensures.next c.requires.joins.2 lost in
    subst (λ (l : ReadyView). CanAnswer (parts c.self.inside.sends l) s c.loop-send.rank) (sym c.withdraw.ensures.rest) can.0

pub overflow_add-rank : goal.overflow_add-rank
overflow_add-rank g c =
    let test = c.requires.joins.0 in
    let s = c.in-Some.send.0 in
    let far = c.loop-send.invariant.so_far test c.requires.joins.1 ∙ ap (λ (p : SendParts). (p, c.loop-send.rank)) (sym c.self.view_is) in
    let lost : is_lost test (parts c.self.inside.sends c.self.inside.ready) s ≡ true =
    both_true (is_losable test (map.get c.self.inside.sends.known s)) (is_some (place_on s c.self.inside.ready.lists))
    (ap (λ (p : SendParts). is_losable test (map.get p.book.known s)) c.self.view_is ∙ sym (c.is_losable.ensures test c.requires.joins.1) ∙ c.if-is_losable.true)
    (ap (λ (o : Option ℕ). is_some o) (sym c.withdraw.ensures.place) ∙ sym c.is_some.ensures ∙ c.if-is_some.true) in
    let can = can-lose test (c.args.self.now, rank c.args.place 0) (parts c.self.inside.sends c.self.inside.ready, c.loop-send.rank) c.loop-send.last.0 s far c.in-Some.ensures.next c.requires.joins.2 lost in
    let small : c.loop-send.rank + 1 < 2 ^ 32 = can.1 in
    search rules

pub loop-send-preserved-then-is_some : goal.loop-send-preserved-then-is_some
loop-send-preserved-then-is_some g c =
    let s = c.in-Some.send.0 in
    let begun = ap (λ (p : SendParts). p.book.begun) c.answer.ensures.answered ∙ begun-answered c.self.inside.sends s (0, Loss) in
    let same = ap (λ (p : SendParts). p.book.begun) c.self.view_is in
    let within : s ≤ c.self.inside.sends.begun = known-within c.self.inside.sends s c.in-Some.ensures.sound c.in-Some.ensures.next.1 in
    record {
      so_far = λ test computes.
          let far = c.loop-send.invariant.so_far test computes ∙ ap (λ (p : SendParts). (p, c.loop-send.rank)) (sym c.self.view_is) in
          let lost : is_lost test (parts c.self.inside.sends c.self.inside.ready) s ≡ true =
          both_true (is_losable test (map.get c.self.inside.sends.known s)) (is_some (place_on s c.self.inside.ready.lists))
          (ap (λ (p : SendParts). is_losable test (map.get p.book.known s)) c.self.view_is ∙ sym (c.is_losable.ensures test computes) ∙ c.if-is_losable.true)
          (ap (λ (o : Option ℕ). is_some o) (sym c.withdraw.ensures.place) ∙ sym c.is_some.ensures ∙ c.if-is_some.true) in
          lost-at test (c.args.self.now, rank c.args.place 0) (parts c.self.inside.sends c.self.inside.ready, c.loop-send.rank) c.loop-send.last.0 s far c.in-Some.ensures.next
          ∙ lost-here test (parts c.self.inside.sends c.self.inside.ready, c.loop-send.rank) s lost
          ∙ ap (λ (p : SendParts). (p, c.loop-send.rank + 1)) (sym (c.answer.ensures.answered ∙ ap (λ (l : ReadyView). answered (parts c.self.inside.sends l) s 0 Loss c.loop-send.rank) c.withdraw.ensures.rest));
      begun = begun ∙ same ∙ c.loop-send.invariant.begun;
      within = omega (arith, within, begun);
    }

pub loop-send-preserved : goal.loop-send-preserved
loop-send-preserved g c =
    let s = c.in-Some.send.0 in
    let kept : c.else-is_losable.self ≡ c.loop-send.self = elim c.else-is_losable.branch [
      | else-is_losable-via-then-is_losable+else-is_some w ↦
          let none = none_there (place_on s c.self.inside.ready.lists) (ap (λ (o : Option ℕ). is_some o) (sym w.withdraw.ensures.place) ∙ sym w.is_some.ensures ∙ w.if-is_some.false) in
          w.self-is ∙ ap (parts c.self.inside.sends) (w.withdraw.ensures.rest ∙ ap (λ (l : List (List Entry)). let v : ReadyView = record c.self.inside.ready { lists = l } in v) (all_without-place s c.self.inside.ready.lists none)) ∙ c.self.view_is
      | else-is_losable-via-else-is_losable w ↦ w.self-is
    ] in
    let within : s ≤ c.self.inside.sends.begun = known-within c.self.inside.sends s c.in-Some.ensures.sound c.in-Some.ensures.next.1 in
    let same = ap (λ (p : SendParts). p.book.begun) c.self.view_is in
    let now = ap (λ (p : SendParts). p.book.begun) kept in
    record {
      so_far = λ test computes.
          let far = c.loop-send.invariant.so_far test computes ∙ ap (λ (p : SendParts). (p, c.loop-send.rank)) (sym c.self.view_is) in
          let not_lost : is_lost test (parts c.self.inside.sends c.self.inside.ready) s ≡ false = elim c.else-is_losable.branch [
            | else-is_losable-via-then-is_losable+else-is_some w ↦
                right_false (is_losable test (map.get c.self.inside.sends.known s)) (is_some (place_on s c.self.inside.ready.lists))
                (ap (λ (o : Option ℕ). is_some o) (sym w.withdraw.ensures.place) ∙ sym w.is_some.ensures ∙ w.if-is_some.false)
            | else-is_losable-via-else-is_losable w ↦
                left_false (is_losable test (map.get c.self.inside.sends.known s)) (is_some (place_on s c.self.inside.ready.lists))
                (ap (λ (p : SendParts). is_losable test (map.get p.book.known s)) c.self.view_is ∙ sym (c.is_losable.ensures test computes) ∙ w.if-is_losable.false)
          ] in
          lost-at test (c.args.self.now, rank c.args.place 0) (parts c.self.inside.sends c.self.inside.ready, c.loop-send.rank) c.loop-send.last.0 s far c.in-Some.ensures.next
          ∙ kept-here test (parts c.self.inside.sends c.self.inside.ready, c.loop-send.rank) s not_lost
          ∙ ap (λ (p : SendParts). (p, c.loop-send.rank)) (c.self.view_is ∙ sym kept);
      begun = now ∙ c.loop-send.invariant.begun;
      within = omega (arith, within, same, now);
    }

pub overflow_sub-result : goal.overflow_sub-result
overflow_sub-result g c =
    let test = c.requires.joins.0 in
    let far = c.loop-send.invariant.so_far test c.requires.joins.1 in
    let grows : rank c.args.place 0 ≤ c.loop-send.rank = subst (λ (r : Ranked). rank c.args.place 0 ≤ r.1) far (rank-grows test (c.args.self.now, rank c.args.place 0) c.loop-send.last.0) in
    omega (arith, grows)

pub returns : goal.returns
returns g c =
    let low : c.loop-send.last.0 ≤ c.args.self.now.book.begun = omega (arith, c.loop-send.invariant.within, c.loop-send.invariant.begun) in
    let all : (test : ℕ → Bool) → ((w : Hwnd) (b : Bool) → goal.F-post g c.args.goes w b → b ≡ test w.0) → lost_to test (c.args.self.now, rank c.args.place 0) c.args.self.now.book.begun ≡ (parts c.self.inside.sends c.self.inside.ready, c.loop-send.rank) =
    λ test computes.
    let far = c.loop-send.invariant.so_far test computes ∙ ap (λ (p : SendParts). (p, c.loop-send.rank)) (sym c.self.view_is) in
    lost-all test (c.args.self.now, rank c.args.place 0) (parts c.self.inside.sends c.self.inside.ready, c.loop-send.rank) c.loop-send.last.0 c.args.self.now.book.begun far low c.in_default.ensures.next in
    record {
      lost = λ test computes. sym (ap (λ (r : Ranked). r.0) (all test computes) ∙ c.self.view_is);
      count = λ test computes. let last = ap (λ (r : Ranked). r.1) (all test computes) in omega (arith, last);
    }
