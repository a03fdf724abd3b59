use Rattle.std.proofs.lemmas.Grind.{common_steps}
use Rattle.std.proofs.Common.{◌≡◌, ℕ, ◌+◌, List, Bor, length, sym, ◌∙◌, arith}
use Rattle.std.specs.Prelude.{map}
use Rattle.std.proofs.lemmas.Bool.{false≢true}
use Rattle.script_lines.specs.LineParts.{line_parts}
use Rattle.script_lines.specs.LineReading.{split_at}
use Rattle.script_lines.specs.LineTexts.{joined}
use Rattle.script_lines.specs.Words.{line_words}
use Rattle.script_text.specs.Judging.{nest_in, lines_in}
use Rattle.script_text.proofs.BuildLemmas.{sound_last}
use Rattle.script_text.proofs.Judging.{none_read, added_last, seen_told, begun_told, spelled_told, not_spelled, not_in_order, not_begun, too_many, finished, unfinished}
use Rattle.script_text.proofs.reading.Reading.take_words.Goals as goal
use Rattle.script_text.proofs.reading.Reading.take_words.Goals.{then-not-names_go_on-via-then-not-names_go_on, then-not-names_go_on-via-else-not-names_go_on+then-not-procedures_go_on, then-not-names_go_on-via-else-not-names_go_on+else-not-procedures_go_on+then-self-thread_of-gt-THREAD_LIMIT}

pub returns-in_default-clause-refused : goal.returns-in_default-clause-refused
returns-in_default-clause-refused c = λ e.
    let read : Bor (List ℕ) → List ℕ = λ w. w.now in
    let words : map read c.args.words.now ≡ split_at 32 c.args.text.now = c.requires.split in
    none_read c.args.self.now.known (map read c.args.words.now) c.args.text.now (nest_in c.args.self.now.builder) c.args.self.now.threads (rw c.in_default.is at c.in_ok-line.ensures.found) words

pub returns-then-not-branch-clause-refused : goal.returns-then-not-branch-clause-refused
returns-then-not-branch-clause-refused c = λ e.
    let read : Bor (List ℕ) → List ℕ = λ w. w.now in
    let words : map read c.args.words.now ≡ split_at 32 c.args.text.now = c.requires.split in
    not_spelled c.args.self.now.known c.line_at.new.known (map read c.args.words.now) c.args.text.now c.in-Some.line (rw c.in-Some.is at c.in_ok-line.ensures.found) words (nest_in c.args.self.now.builder) c.args.self.now.threads
    (sym c.in_ok-is_text_of.ensures ∙ c.if-not-branch.true)

pub returns-then-not-names_go_on-clause-refused : goal.returns-then-not-names_go_on-clause-refused
returns-then-not-names_go_on-clause-refused c = λ e.
    let read : Bor (List ℕ) → List ℕ = λ w. w.now in
    let old = c.args.self.now in
    let k = c.line_at.new.known in
    let l = c.in-Some.line in
    let ws = map read c.args.words.now in
    let words : ws ≡ split_at 32 c.args.text.now = c.requires.split in
    let found = rw c.in-Some.is at c.in_ok-line.ensures.found in
    elim c.then-not-names_go_on.branch [
      | then-not-names_go_on-via-then-not-names_go_on w ↦
          not_in_order old.known k ws c.args.text.now l found words (nest_in old.builder) old.threads (λ h.
          false≢true (sym w.if-not-names_go_on.true ∙ c.names_go_on.ensures.1 (seen_told (length k.names) (length old.known.names) c.name_count.result c.name_count-names.result (line_parts l) c.deref.result.now (sym c.name_count.ensures) (sym c.name_count-names.ensures) (sym (c.deref.ensures.0 ∙ c.line_parts-parts.ensures)) h)))
      | then-not-names_go_on-via-else-not-names_go_on+then-not-procedures_go_on w ↦
          not_begun old.known k ws c.args.text.now l found words (nest_in old.builder) old.threads (λ h.
          false≢true (sym w.if-not-procedures_go_on.true ∙ w.procedures_go_on.ensures.1 (begun_told (length k.procedures) (length old.known.procedures) w.procedure_count.result c.procedure_count-procedures.result (line_parts l) w.deref-else-not-names_go_on.result.now (sym w.procedure_count.ensures) (sym c.procedure_count-procedures.ensures) (sym (w.deref-else-not-names_go_on.ensures.0 ∙ c.line_parts-parts.ensures)) h)))
      | then-not-names_go_on-via-else-not-names_go_on+else-not-procedures_go_on+then-self-thread_of-gt-THREAD_LIMIT w ↦
          too_many old.known k ws c.args.text.now l found words (nest_in old.builder) old.threads (omega (arith, w.thread_of.ensures.value))
    ]

pub returns-clause-taken : goal.returns-clause-taken
returns-clause-taken c =
    let read : Bor (List ℕ) → List ℕ = λ w. w.now in
    let old = c.args.self.now in
    let k = c.line_at.new.known in
    let l = c.in-Some.line in
    let ws = map read c.args.words.now in
    let words : ws ≡ split_at 32 c.args.text.now = c.requires.split in
    let found = rw c.in-Some.is at c.in_ok-line.ensures.found in
    let fits = rw c.in-Some.is at c.in_ok-line.ensures.fits in
    let spelled = spelled_told (joined (line_words k l)) c.args.text.now (sym c.in_ok-is_text_of.ensures ∙ c.if-not-branch.false) in
    let seen = seen_told c.name_count.result c.name_count-names.result (length k.names) (length old.known.names) c.deref.result.now (line_parts l) c.name_count.ensures c.name_count-names.ensures (c.deref.ensures.0 ∙ c.line_parts-parts.ensures) (c.names_go_on.ensures.0 c.if-not-names_go_on.false) in
    let had = begun_told c.procedure_count.result c.procedure_count-procedures.result (length k.procedures) (length old.known.procedures) c.deref-else-not-names_go_on.result.now (line_parts l) c.procedure_count.ensures c.procedure_count-procedures.ensures (c.deref-else-not-names_go_on.ensures.0 ∙ c.line_parts-parts.ensures) (c.procedures_go_on.ensures.0 c.if-not-procedures_go_on.false) in
    finished old.known k ws c.args.text.now l found words (nest_in old.builder) old.threads c.take.result (nest_in c.take.new.self) (old.threads + c.thread_of-2.result) fits spelled seen had (omega (arith, c.thread_of-2.ensures.value)) (omega (arith, c.thread_of.ensures.value, c.thread_of-2.ensures.value)) c.take.ensures.nest

pub returns-clause-refused : goal.returns-clause-refused
returns-clause-refused c =
    let read : Bor (List ℕ) → List ℕ = λ w. w.now in
    let words : map read c.args.words.now ≡ split_at 32 c.args.text.now = c.requires.split in
    let found = rw c.in-Some.is at c.in_ok-line.ensures.found in
    unfinished c.args.self.now.known c.line_at.new.known (map read c.args.words.now) c.args.text.now c.in-Some.line found words (nest_in c.args.self.now.builder) c.args.self.now.threads c.take.result (nest_in c.take.new.self) c.take.ensures.nest

pub returns-clause-sound : goal.returns-clause-sound
returns-clause-sound c =
    let old = c.args.self.now.builder in
    let new = c.take.new.self in
    sound_last c.take.result old.procedures.items old.threads.items new.procedures.items new.threads.items old.blocks.items new.blocks.items c.in-Some.line c.requires.sound c.take.ensures.nest

pub returns-clause-added : goal.returns-clause-added
returns-clause-added c =
    let read : Bor (List ℕ) → List ℕ = λ w. w.now in
    let old = c.args.self.now in
    let found = rw c.in-Some.is at c.in_ok-line.ensures.found in
    added_last c.take.result old.known c.line_at.new.known (map read c.args.words.now) c.args.text.now c.in-Some.line found c.requires.split (lines_in old.builder) (lines_in c.take.new.self) c.take.ensures.lines

pub returns-in_err-line-clause-taken : goal.returns-in_err-line-clause-taken
returns-in_err-line-clause-taken c = grind (arith, common_steps)

pub returns-in_err-line-clause-refused : goal.returns-in_err-line-clause-refused
returns-in_err-line-clause-refused c = grind (arith, common_steps)

pub returns-in_err-line-clause-added : goal.returns-in_err-line-clause-added
returns-in_err-line-clause-added c = grind (arith, common_steps)

pub returns-in_err-line-clause-sound : goal.returns-in_err-line-clause-sound
returns-in_err-line-clause-sound c = grind (arith, common_steps)

pub returns-in_default-clause-taken : goal.returns-in_default-clause-taken
returns-in_default-clause-taken c = grind (arith, common_steps)

pub returns-in_default-clause-added : goal.returns-in_default-clause-added
returns-in_default-clause-added c = grind (arith, common_steps)

pub returns-in_err-is_text_of-clause-taken : goal.returns-in_err-is_text_of-clause-taken
returns-in_err-is_text_of-clause-taken c = grind (arith, common_steps)

pub returns-in_err-is_text_of-clause-refused : goal.returns-in_err-is_text_of-clause-refused
returns-in_err-is_text_of-clause-refused c = grind (arith, common_steps)

pub returns-in_err-is_text_of-clause-added : goal.returns-in_err-is_text_of-clause-added
returns-in_err-is_text_of-clause-added c = grind (arith, common_steps)

pub returns-in_err-is_text_of-clause-sound : goal.returns-in_err-is_text_of-clause-sound
returns-in_err-is_text_of-clause-sound c = grind (arith, common_steps)

pub returns-then-not-branch-clause-taken : goal.returns-then-not-branch-clause-taken
returns-then-not-branch-clause-taken c = grind (arith, common_steps)

pub returns-then-not-branch-clause-added : goal.returns-then-not-branch-clause-added
returns-then-not-branch-clause-added c = grind (arith, common_steps)

pub returns-then-not-names_go_on-clause-taken : goal.returns-then-not-names_go_on-clause-taken
returns-then-not-names_go_on-clause-taken c = grind (arith, common_steps)

pub returns-then-not-names_go_on-clause-added : goal.returns-then-not-names_go_on-clause-added
returns-then-not-names_go_on-clause-added c = grind (arith, common_steps)
