use Rattle.std.proofs.Common.{◌≡◌, ◌++◌, List, ℕ, Option, Some, ap, sym, ◌∙◌, subst}
use Rattle.std.specs.Prelude.{map, IfSome}
use Rattle.user_model.specs.declared.entry.Entry.{Entry}
use Rattle.script_lines.specs.LineReading.{split_at}
use Rattle.script_lines.specs.LineTexts.{joined}
use Rattle.script_lines.proofs.TextsAgain.{line_split}
use Rattle.log_read.specs.Limits.{keeps_frame, IsFrame}
use Rattle.log_read.specs.Logs.{LogEntryTree}
use Rattle.log_read.specs.Words.{entry_words, frame_words}
use Rattle.log_read.proofs.FrameRows.{none_there, some_there}
use Rattle.log_read.proofs.LineWords.{entry_is_words}
use Rattle.log_read.proofs.OneLog.{some_same, log_entry_from}
use Rattle.log_read.proofs.entries.log_entry_at.Goals as goal

pub returns-in_default-clause-again : goal.returns-in_default-clause-again
returns-in_default-clause-again c e rest fits text below =
    let s = c.args.words.now.script.now in
    let words = line_split (entry_words s e.entry) (entry_is_words s e.entry c.requires.named fits.entry) in
    absurd (c.in_default.not-Some e.entry (c.entry_at.ensures.again e.entry fits.entry (ap (map (λ w. w.now)) c.deref.ensures.value ∙ c.in_ok-line.ensures ∙ ap (split_at 32) text ∙ words)))

pub returns-then-not-keeps_frame-clause-fits : goal.returns-then-not-keeps_frame-clause-fits
returns-then-not-keeps_frame-clause-fits c =
    rw c.new.ensures (record { entry = c.in-Some.ensures.fits; kept = sym (sym c.keeps_frame.ensures ∙ c.if-not-keeps_frame.true); frame = tt })

pub returns-then-not-keeps_frame-clause-again : goal.returns-then-not-keeps_frame-clause-again
returns-then-not-keeps_frame-clause-again c e rest fits text below =
    let s = c.args.words.now.script.now in
    let words = line_split (entry_words s e.entry) (entry_is_words s e.entry c.requires.named fits.entry) in
    let read = c.entry_at.ensures.again e.entry fits.entry (ap (map (λ w. w.now)) c.deref.ensures.value ∙ c.in_ok-line.ensures ∙ ap (split_at 32) text ∙ words) in
    let entry = some_same e.entry c.in-Some.entry (sym read ∙ c.in-Some.is) in
    let none = none_there e.frame (fits.kept ∙ ap (λ (x : Entry). keeps_frame x.answer) entry ∙ sym c.keeps_frame.ensures ∙ c.if-not-keeps_frame.true) in
    ap (λ (x : LogEntryTree). let o : Option LogEntryTree = Some x in o) (c.new.ensures ∙ log_entry_from _ e (sym entry) none)

pub returns-in_default-2-clause-again : goal.returns-in_default-2-clause-again
returns-in_default-2-clause-again c e rest fits text below =
    let s = c.args.words.now.script.now in
    let words = line_split (entry_words s e.entry) (entry_is_words s e.entry c.requires.named fits.entry) in
    let read = c.entry_at.ensures.again e.entry fits.entry (ap (map (λ w. w.now)) c.deref.ensures.value ∙ c.in_ok-line.ensures ∙ ap (split_at 32) text ∙ words) in
    let entry = some_same e.entry c.in-Some.entry (sym read ∙ c.in-Some.is) in
    let some = some_there e.frame (fits.kept ∙ ap (λ (x : Entry). keeps_frame x.answer) entry ∙ sym c.keeps_frame.ensures ∙ c.if-not-keeps_frame.false) in
    let frame = subst (λ (o : Option (List ℕ)). IfSome o (IsFrame s)) some.1 fits.frame in
    let lines = subst (λ (o : Option (List ℕ)). map (λ w. w.now) c.args.below.now ≡ map joined (frame_words s o) ++ rest) some.1 below in
    absurd (cc (rw c.in_default-2.is at (c.in_ok-colours.ensures.again some.0 rest frame lines)))

pub returns-clause-fits : goal.returns-clause-fits
returns-clause-fits c =
    let frame = rw c.in-Some-2.is at c.in_ok-colours.ensures.fits in
    rw c.new-2.ensures (record { entry = c.in-Some.ensures.fits; kept = sym (sym c.keeps_frame.ensures ∙ c.if-not-keeps_frame.false); frame = frame })

pub returns-clause-again : goal.returns-clause-again
returns-clause-again c e rest fits text below =
    let s = c.args.words.now.script.now in
    let words = line_split (entry_words s e.entry) (entry_is_words s e.entry c.requires.named fits.entry) in
    let read = c.entry_at.ensures.again e.entry fits.entry (ap (map (λ w. w.now)) c.deref.ensures.value ∙ c.in_ok-line.ensures ∙ ap (split_at 32) text ∙ words) in
    let entry = some_same e.entry c.in-Some.entry (sym read ∙ c.in-Some.is) in
    let some = some_there e.frame (fits.kept ∙ ap (λ (x : Entry). keeps_frame x.answer) entry ∙ sym c.keeps_frame.ensures ∙ c.if-not-keeps_frame.false) in
    let frame = subst (λ (o : Option (List ℕ)). IfSome o (IsFrame s)) some.1 fits.frame in
    let lines = subst (λ (o : Option (List ℕ)). map (λ w. w.now) c.args.below.now ≡ map joined (frame_words s o) ++ rest) some.1 below in
    let colours = rw c.in-Some-2.is at (c.in_ok-colours.ensures.again some.0 rest frame lines) in
    ap (λ (x : LogEntryTree). let o : Option LogEntryTree = Some x in o) (c.new-2.ensures ∙ log_entry_from _ e (sym entry) (colours ∙ sym some.1))
