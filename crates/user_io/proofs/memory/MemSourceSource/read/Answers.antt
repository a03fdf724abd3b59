use Rattle.std.proofs.Common.{◌≡◌, ◌+◌, ◌++◌, List, ℕ, length, min, take, drop, sym, ap, ◌∙◌, take-append-drop}
use Rattle.user_io.specs.declared.traits.Took.{Took as TookType}
use Rattle.user_io.specs.declared.traits.Took.TheVariants as tooks
use Rattle.user_io.specs.Memory.{MemReading, after_read}
use Rattle.std.proofs.lemmas.List.{drop-drop}
use Rattle.user_io.proofs.Listed.{not_listed}
use Rattle.user_io.proofs.memory.MemSourceSource.read.Goals as goal

pub returns-clause-taken : goal.returns-clause-taken
returns-clause-taken c =
    let n = c.give-count.result in
    let at = c.self.inside.at in
    let bytes : List ℕ = c.self.inside.bytes.items in
    let all : List ℕ = drop at bytes in
    let rest : c.split_at.result.1.now ≡ all = c.split_at.ensures.back ∙ ap (drop at) c.deref-2.ensures.value in
    let front : take n all ≡ take n c.give-count.new.buf = ap (take n) (sym rest) ∙ sym c.give-count.ensures.bytes in
    let left : c.args.self.now.left ≡ all = ap (λ m. m.left) (sym c.self.view_is) in
    record {
      within = c.give-count.ensures.within;
      some = c.give-count.ensures.some;
      bytes = left ∙ sym (take-append-drop n all) ∙ ap (λ (l : List ℕ). l ++ drop n all) front ∙ ap (λ (l : List ℕ). take n c.give-count.new.buf ++ l) (drop-drop n at bytes);
    }

pub returns-clause-exact : goal.returns-clause-exact
returns-clause-exact c =
    let n = c.give-count.result in
    let at = c.self.inside.at in
    let piece = c.self.inside.piece in
    let fail : List ℕ = c.self.inside.fail.items in
    let faults = c.self.inside.faults in
    let bytes : List ℕ = c.self.inside.bytes.items in
    let called = c.saturating_add-self-inside.result in
    let took : TookType = tooks.Took n in
    let rest : c.split_at.result.1.now ≡ drop at bytes = c.split_at.ensures.back ∙ ap (drop at) c.deref-2.ensures.value in
    let left : drop (at + n) bytes ≡ drop n (drop at bytes) = sym (drop-drop n at bytes) in
    record {
      next =
          ap (λ (l : List ℕ). let m : MemReading = record { left = l; piece = piece; fail = fail; calls = called; faults = faults } in m) left
          ∙ ap (λ (k : ℕ). let m : MemReading = record { left = drop n (drop at bytes); piece = piece; fail = fail; calls = k; faults = faults } in m) c.saturating_add-self-inside.ensures
          ∙ ap (λ (m : MemReading). after_read m took) c.self.view_is;
      fails = rw (← c.self.view_is) (λ e. absurd cc, λ h. absurd (not_listed c.deref.result.now fail c.self.inside.calls c.deref.ensures.value c.if-contains.ensures.cases h));
      most = rw (← c.self.view_is) (c.give-count.ensures.most ∙ ap (λ (l : List ℕ). min (min (length l) piece) (length c.give-count.new.buf)) rest);
    }
