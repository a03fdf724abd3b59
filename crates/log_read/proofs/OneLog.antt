-- A text is that of one log at most.
use Rattle.std.proofs.Common.{◌≡◌, ℕ, ◌^◌, ◌<◌, true, List, [], ◌∷◌, ◌++◌, length, Some, refl, ap, sym, ◌∙◌, append_assoc, arith, subst}
use Rattle.std.specs.Prelude.{codes, decimal, map, Option, is_some}
use Rattle.std.specs.List.{list_all, AllByRecursion}
use Rattle.std.specs.Int.{IsInRange}
use Rattle.std.specs.Str.Parse.{AllDigits}
use Rattle.std.proofs.lemmas.Bool.{and_parts}
use Rattle.std.proofs.lemmas.Fmt.{decimal_is_IsNumeral, decimal_injective}
use Rattle.std.proofs.lemmas.List.{append_cancel_right, map-append, length-append}
use Rattle.std.proofs.lemmas.Str.Parse.{digit_from_value}
use Rattle.user_model.specs.declared.call.Call.{Call}
use Rattle.user_model.specs.declared.entry.Answer.{Answer}
use Rattle.user_model.specs.declared.entry.Entry.{Entry}
use Rattle.user_model.specs.declared.entry.SendCount.{SendCount}
use Rattle.answer_table.specs.declared.answers.AnswerName.{AnswerName}
use Rattle.call_table.specs.declared.calls.CallName.{CallName}
use Rattle.call_fields.specs.declared.form.Field.{Field}
use Rattle.call_fields.specs.declared.value.Value.{Value}
use Rattle.answer_table.specs.Answers.{answer_row, answer_name, answer_parts, answer_named, made_answer}
use Rattle.call_table.specs.Calls.{call_row, call_name, call_parts, call_named, made_call}
use Rattle.call_fields.specs.Values.{field_of}
use Rattle.answer_table.proofs.AnswerLaws as answer_laws
use Rattle.call_table.proofs.CallLaws as call_laws
use Rattle.script_tree.specs.Tree.{Tree}
use Rattle.script_lines.specs.Known.{known_of}
use Rattle.script_lines.specs.LineReading.{split_at}
use Rattle.script_lines.specs.LineTexts.{joined}
use Rattle.script_lines.specs.NameLimits.{AreKnown}
use Rattle.script_lines.proofs.TextsAgain.{is_line_of_words, line_split}
use Rattle.log_text.specs.declared.end.End.{End}
use Rattle.log_text.specs.Endings.{end_word}
use Rattle.log_read.specs.declared.log.Extra.{Extra}
use Rattle.log_read.specs.declared.log.Extra.TheVariants as extras
use Rattle.log_read.specs.Limits.{keeps_frame, IsValue, IsCall, IsAnswer, IsEntry, IsLogEntry, IsExtra, AreCounts, IsLog}
use Rattle.log_read.specs.Logs.{LogEntryTree, LogTree, spelling}
use Rattle.log_read.specs.Reading.{value_at, end_at}
use Rattle.log_read.specs.Words.{value_word, call_words, answer_words, entry_words, frame_words, entries_words, end_words, extra_words, counts_words, inner_words, log_words}
use Rattle.log_read.proofs.FrameRows.{frame_same}
use Rattle.log_read.proofs.LineWords.{Words, log_are_words, log_split}
use Rattle.log_read.proofs.ListLaws.{first_same, rest_same}
use Rattle.log_read.proofs.ValuesAgain.{value_again, end_again}

-- ---- lists that are equal

module _ {A : Type 0} where
  last_same : (xs ys : List A) (x y : A) → xs ++ x ∷ [] ≡ ys ++ y ∷ [] → (xs ≡ ys) × (x ≡ y)
  last_same [] [] x y e = (refl, first_same x y [] [] e)
  last_same [] (b ∷ ys) x y e = absurd (omega (arith, ap length e, length-append ys (y ∷ [])))
  last_same (a ∷ xs) [] x y e = absurd (omega (arith, ap length e, length-append xs (x ∷ [])))
  last_same (a ∷ xs) (b ∷ ys) x y e =
      let more = last_same xs ys x y (rest_same a b (xs ++ x ∷ []) (ys ++ y ∷ []) e) in
      (ap (λ (z : A). z ∷ xs) (first_same a b (xs ++ x ∷ []) (ys ++ y ∷ []) e) ∙ ap (λ (l : List A). b ∷ l) more.0, more.1)

  pub some_same : (x y : A) → Some x ≡ Some y → x ≡ y
  some_same x y e = cc e

-- ---- entries, counts and logs by their parts

pub entry_of : (e f : Entry) → e.who.0 ≡ f.who.0 → e.call ≡ f.call → e.answer ≡ f.answer → e ≡ f
entry_of e f who call answer =
    ap (λ (n : ℕ). let r : Entry = record { who = record { 0 = n }; call = e.call; answer = e.answer } in r) who
    ∙ ap (λ (c : Call). let r : Entry = record { who = f.who; call = c; answer = e.answer } in r) call
    ∙ ap (λ (a : Answer). let r : Entry = record { who = f.who; call = f.call; answer = a } in r) answer

pub counts_of : (c d : SendCount) → c.begun ≡ d.begun → c.entered ≡ d.entered → c.by_proc ≡ d.by_proc → c.by_reply ≡ d.by_reply → c.by_loss ≡ d.by_loss → c.by_timeout ≡ d.by_timeout → c.unfinished ≡ d.unfinished → c ≡ d
counts_of c d e1 e2 e3 e4 e5 e6 e7 =
    ap (λ (n : ℕ). let r : SendCount = record c { begun = n } in r) e1
    ∙ ap (λ (n : ℕ). let r : SendCount = record c { begun = d.begun; entered = n } in r) e2
    ∙ ap (λ (n : ℕ). let r : SendCount = record c { begun = d.begun; entered = d.entered; by_proc = n } in r) e3
    ∙ ap (λ (n : ℕ). let r : SendCount = record d { by_reply = n; by_loss = c.by_loss; by_timeout = c.by_timeout; unfinished = c.unfinished } in r) e4
    ∙ ap (λ (n : ℕ). let r : SendCount = record d { by_loss = n; by_timeout = c.by_timeout; unfinished = c.unfinished } in r) e5
    ∙ ap (λ (n : ℕ). let r : SendCount = record d { by_timeout = n; unfinished = c.unfinished } in r) e6
    ∙ ap (λ (n : ℕ). let r : SendCount = record d { unfinished = n } in r) e7

pub log_entry_from : (e f : LogEntryTree) → e.entry ≡ f.entry → e.frame ≡ f.frame → e ≡ f
log_entry_from e f entry frame =
    ap (λ (x : Entry). let r : LogEntryTree = record { entry = x; frame = e.frame } in r) entry
    ∙ ap (λ (o : Option (List ℕ)). let r : LogEntryTree = record { entry = f.entry; frame = o } in r) frame

pub log_from : (l m : LogTree) → l.entries ≡ m.entries → l.end ≡ m.end → l.extras ≡ m.extras → l.sends ≡ m.sends → l ≡ m
log_from l m e1 e2 e3 e4 =
    ap (λ (x : List LogEntryTree). let r : LogTree = record l { entries = x } in r) e1
    ∙ ap (λ (x : End). let r : LogTree = record l { entries = m.entries; end = x } in r) e2
    ∙ ap (λ (x : List Extra). let r : LogTree = record m { extras = x; sends = l.sends } in r) e3
    ∙ ap (λ (x : SendCount). let r : LogTree = record m { sends = x } in r) e4

-- ---- calls and answers

module _ (s : Tree) (h : AreKnown (known_of s)) where
  value_same : (v w : Value) → IsValue s v → IsValue s w → field_of v ≡ field_of w → value_word s v ≡ value_word s w → v ≡ w
  value_same v w fits fits' same e =
      some_same v w (sym (value_again s v h fits) ∙ ap (λ (f : Field). value_at s f (value_word s v)) same ∙ ap (value_at s (field_of w)) e ∙ value_again s w h fits')

  values_same : (vs ws : List Value) (a b : Words) → AllByRecursion (IsValue s) vs → AllByRecursion (IsValue s) ws → map field_of vs ≡ map field_of ws → map (value_word s) vs ++ a ≡ map (value_word s) ws ++ b → (vs ≡ ws) × (a ≡ b)
  values_same [] [] a b fits fits' same e = (refl, e)
  values_same [] (w ∷ ws) a b fits fits' same e = absurd (omega (arith, ap length same))
  values_same (v ∷ vs) [] a b fits fits' same e = absurd (omega (arith, ap length same))
  values_same (v ∷ vs) (w ∷ ws) a b fits fits' same e =
      let first = value_same v w fits.0 fits'.0 (first_same (field_of v) (field_of w) (map field_of vs) (map field_of ws) same) (first_same (value_word s v) (value_word s w) (map (value_word s) vs ++ a) (map (value_word s) ws ++ b) e) in
      let more = values_same vs ws a b fits.1 fits'.1 (rest_same (field_of v) (field_of w) (map field_of vs) (map field_of ws) same) (rest_same (value_word s v) (value_word s w) (map (value_word s) vs ++ a) (map (value_word s) ws ++ b) e) in
      (ap (λ (x : Value). x ∷ vs) first ∙ ap (λ (l : List Value). w ∷ l) more.0, more.1)

  call_of : (c d : Call) → call_name c ≡ call_name d → call_parts c ≡ call_parts d → c ≡ d
  call_of c d named parts = sym (call_laws.made_again c) ∙ ap (λ (n : CallName). made_call n (call_parts c)) named ∙ ap (made_call (call_name d)) parts ∙ call_laws.made_again d

  call_same : (c d : Call) (a b : Words) → IsCall s c → IsCall s d → call_words s c a ≡ call_words s d b → (c ≡ d) × (a ≡ b)
  call_same c d a b fits fits' e =
      let word : (call_row (call_name c)).word ≡ (call_row (call_name d)).word = first_same _ _ (map (value_word s) (call_parts c) ++ a) (map (value_word s) (call_parts d) ++ b) e in
      let named : call_name c ≡ call_name d = some_same _ _ (sym (call_laws.named_again (call_name c)) ∙ ap call_named word ∙ call_laws.named_again (call_name d)) in
      let fields : map field_of (call_parts c) ≡ map field_of (call_parts d) = call_laws.parts_fit c ∙ ap (λ (n : CallName). (call_row n).fields) named ∙ sym (call_laws.parts_fit d) in
      let both = values_same (call_parts c) (call_parts d) a b fits fits' fields (rest_same _ _ (map (value_word s) (call_parts c) ++ a) (map (value_word s) (call_parts d) ++ b) e) in
      (call_of c d named both.0, both.1)

  answer_of : (c d : Answer) → answer_name c ≡ answer_name d → answer_parts c ≡ answer_parts d → c ≡ d
  answer_of c d named parts = sym (answer_laws.made_again c) ∙ ap (λ (n : AnswerName). made_answer n (answer_parts c)) named ∙ ap (made_answer (answer_name d)) parts ∙ answer_laws.made_again d

  answer_same : (c d : Answer) → IsAnswer s c → IsAnswer s d → answer_words s c ≡ answer_words s d → c ≡ d
  answer_same c d fits fits' e =
      let word : (answer_row (answer_name c)).word ≡ (answer_row (answer_name d)).word = first_same _ _ (map (value_word s) (answer_parts c)) (map (value_word s) (answer_parts d)) e in
      let named : answer_name c ≡ answer_name d = some_same _ _ (sym (answer_laws.named_again (answer_name c)) ∙ ap answer_named word ∙ answer_laws.named_again (answer_name d)) in
      let fields : map field_of (answer_parts c) ≡ map field_of (answer_parts d) = answer_laws.parts_fit c ∙ ap (λ (n : AnswerName). (answer_row n).fields) named ∙ sym (answer_laws.parts_fit d) in
      let more : map (value_word s) (answer_parts c) ++ [] ≡ map (value_word s) (answer_parts d) ++ [] = ap (λ (l : Words). l ++ []) (rest_same _ _ (map (value_word s) (answer_parts c)) (map (value_word s) (answer_parts d)) e) in
      answer_of c d named (values_same (answer_parts c) (answer_parts d) [] [] fits fits' fields more).0

  -- ---- entries

  pub entry_same : (e f : Entry) → IsEntry s e → IsEntry s f → entry_words s e ≡ entry_words s f → e ≡ f
  entry_same e f fits fits' same =
      let mine : Words = call_words s e.call (codes "=" ∷ answer_words s e.answer) in
      let other : Words = call_words s f.call (codes "=" ∷ answer_words s f.answer) in
      let who : e.who.0 ≡ f.who.0 = decimal_injective e.who.0 f.who.0 (omega (arith, fits.who)) (omega (arith, fits'.who)) (first_same _ _ mine other same) in
      let call = call_same e.call f.call (codes "=" ∷ answer_words s e.answer) (codes "=" ∷ answer_words s f.answer) fits.call fits'.call (rest_same _ _ mine other same) in
      entry_of e f who call.0 (answer_same e.answer f.answer fits.answer fits'.answer (rest_same _ _ (answer_words s e.answer) (answer_words s f.answer) call.1))

  digits_no_end : (ds : List ℕ) → AllDigits 10 ds → codes "end" ≡ ds → ⊥
  digits_no_end [] all e = cc e
  digits_no_end (c ∷ cs) all e =
      let range : IsInRange 48 57 c = digit_from_value c all.0 in
      let first : 101 ≡ c = first_same 101 c (codes "nd") cs e in
      omega (arith, first, range.1)

  no_end : (e : Entry) (x : End) → IsEntry s e → end_words x ≡ entry_words s e → ⊥
  no_end e x fits same =
      digits_no_end (decimal e.who.0) (decimal_is_IsNumeral e.who.0 (omega (arith, fits.who))).0.1 (first_same _ _ (end_word x ∷ []) (call_words s e.call (codes "=" ∷ answer_words s e.answer)) same)

  log_entry_same : (e f : LogEntryTree) (a b : List Words) → IsLogEntry s e → IsLogEntry s f → entry_words s e.entry ∷ (frame_words s e.frame ++ a) ≡ entry_words s f.entry ∷ (frame_words s f.frame ++ b) → (e ≡ f) × (a ≡ b)
  log_entry_same e f a b fits fits' same =
      let mine : List Words = frame_words s e.frame ++ a in
      let other : List Words = frame_words s f.frame ++ b in
      let entry : e.entry ≡ f.entry = entry_same e.entry f.entry fits.entry fits'.entry (first_same (entry_words s e.entry) (entry_words s f.entry) mine other same) in
      let kept : is_some e.frame ≡ is_some f.frame = fits.kept ∙ ap (λ (x : Entry). keeps_frame x.answer) entry ∙ sym fits'.kept in
      let frame = frame_same s e.frame f.frame a b kept fits.frame fits'.frame (rest_same (entry_words s e.entry) (entry_words s f.entry) mine other same) in
      (log_entry_from e f entry frame.0, frame.1)

  entries_same : (es fs : List LogEntryTree) (x y : End) (a b : List Words) → AllByRecursion (IsLogEntry s) es → AllByRecursion (IsLogEntry s) fs → entries_words s es ++ (end_words x ∷ a) ≡ entries_words s fs ++ (end_words y ∷ b) → (es ≡ fs) × (end_words x ∷ a ≡ end_words y ∷ b)
  entries_same [] [] x y a b fits fits' e = (refl, e)
  entries_same [] (f ∷ fs) x y a b fits fits' e = absurd (no_end f.entry x fits'.0.entry (first_same (end_words x) (entry_words s f.entry) a ((frame_words s f.frame ++ entries_words s fs) ++ (end_words y ∷ b)) e))
  entries_same (g ∷ es) [] x y a b fits fits' e = absurd (no_end g.entry y fits.0.entry (sym (first_same (entry_words s g.entry) (end_words y) ((frame_words s g.frame ++ entries_words s es) ++ (end_words x ∷ a)) b e)))
  entries_same (g ∷ es) (f ∷ fs) x y a b fits fits' e =
      let mine : List Words = entries_words s es ++ (end_words x ∷ a) in
      let other : List Words = entries_words s fs ++ (end_words y ∷ b) in
      let grouped : entry_words s g.entry ∷ (frame_words s g.frame ++ mine) ≡ entry_words s f.entry ∷ (frame_words s f.frame ++ other) =
      ap (λ (l : List Words). entry_words s g.entry ∷ l) (sym (append_assoc (frame_words s g.frame) (entries_words s es) (end_words x ∷ a)))
      ∙ e ∙ ap (λ (l : List Words). entry_words s f.entry ∷ l) (append_assoc (frame_words s f.frame) (entries_words s fs) (end_words y ∷ b)) in
      let first = log_entry_same g f mine other fits.0 fits'.0 grouped in
      let more = entries_same es fs x y a b fits.1 fits'.1 first.1 in
      (ap (λ (z : LogEntryTree). z ∷ es) first.0 ∙ ap (λ (l : List LogEntryTree). f ∷ l) more.0, more.1)

  -- ---- the ending

  pub end_same : (x y : End) → end_words x ≡ end_words y → x ≡ y
  end_same x y e =
      let word : end_word x ≡ end_word y = first_same _ _ [] [] (rest_same (codes "end") (codes "end") (end_word x ∷ []) (end_word y ∷ []) e) in
      some_same x y (sym (end_again x) ∙ ap end_at word ∙ end_again y)

  extra_same : (end : End) (x y : Extra) → IsExtra s end x → IsExtra s end y → extra_words s x ≡ extra_words s y → x ≡ y
  extra_same end (extras.Waits t c) (extras.Waits u d) fits fits' e =
      let more : Words = call_words s c [] in
      let others : Words = call_words s d [] in
      let numbers = rest_same (codes "waits") (codes "waits") (decimal t.0 ∷ more) (decimal u.0 ∷ others) e in
      let who : t.0 ≡ u.0 = decimal_injective t.0 u.0 (omega (arith, fits.1.0)) (omega (arith, fits'.1.0)) (first_same _ _ more others numbers) in
      let call : c ≡ d = (call_same c d [] [] fits.1.1 fits'.1.1 (rest_same _ _ more others numbers)).0 in
      ap (λ n. extras.Waits (record { 0 = n }) c) who ∙ ap (λ z. extras.Waits u z) call
  extra_same end (extras.Waits t c) (extras.Spent u) fits fits' e = absurd (cc (first_same _ _ (decimal t.0 ∷ call_words s c []) (decimal u.0 ∷ []) e))
  extra_same end (extras.Spent t) (extras.Waits u d) fits fits' e = absurd (cc (first_same _ _ (decimal t.0 ∷ []) (decimal u.0 ∷ call_words s d []) e))
  extra_same end (extras.Spent t) (extras.Spent u) fits fits' e =
      let numbers = rest_same (codes "spent") (codes "spent") (decimal t.0 ∷ []) (decimal u.0 ∷ []) e in
      ap (λ n. extras.Spent (record { 0 = n })) (decimal_injective t.0 u.0 (omega (arith, fits.1)) (omega (arith, fits'.1)) (first_same _ _ [] [] numbers))

  extras_same : (end : End) (xs ys : List Extra) → AllByRecursion (IsExtra s end) xs → AllByRecursion (IsExtra s end) ys → map (extra_words s) xs ≡ map (extra_words s) ys → xs ≡ ys
  extras_same end [] [] fits fits' e = refl
  extras_same end [] (y ∷ ys) fits fits' e = absurd (omega (arith, ap length e))
  extras_same end (x ∷ xs) [] fits fits' e = absurd (omega (arith, ap length e))
  extras_same end (x ∷ xs) (y ∷ ys) fits fits' e =
      let first = extra_same end x y fits.0 fits'.0 (first_same _ _ (map (extra_words s) xs) (map (extra_words s) ys) e) in
      let more = extras_same end xs ys fits.1 fits'.1 (rest_same _ _ (map (extra_words s) xs) (map (extra_words s) ys) e) in
      ap (λ (z : Extra). z ∷ xs) first ∙ ap (λ (l : List Extra). y ∷ l) more

  word_value : (c d : ℕ) (a b : Words) → c < 2 ^ 32 → d < 2 ^ 32 → decimal c ∷ a ≡ decimal d ∷ b → (c ≡ d) × (a ≡ b)
  word_value c d a b small small' e = (decimal_injective c d (omega (arith, small)) (omega (arith, small')) (first_same _ _ a b e), rest_same _ _ a b e)

  counts_same : (c d : SendCount) → AreCounts c → AreCounts d → counts_words c ≡ counts_words d → c ≡ d
  counts_same c d f g e =
      let a = word_value c.begun d.begun _ _ f.begun g.begun (rest_same _ _ _ _ (rest_same _ _ _ _ e)) in
      let b = word_value c.entered d.entered _ _ f.entered g.entered (rest_same _ _ _ _ a.1) in
      let p = word_value c.by_proc d.by_proc _ _ f.by_proc g.by_proc (rest_same _ _ _ _ b.1) in
      let r = word_value c.by_reply d.by_reply _ _ f.by_reply g.by_reply (rest_same _ _ _ _ p.1) in
      let l = word_value c.by_loss d.by_loss _ _ f.by_loss g.by_loss (rest_same _ _ _ _ r.1) in
      let t = word_value c.by_timeout d.by_timeout _ _ f.by_timeout g.by_timeout (rest_same _ _ _ _ l.1) in
      let u = word_value c.unfinished d.unfinished _ _ f.unfinished g.unfinished (rest_same _ _ _ _ t.1) in
      counts_of c d a.0 b.0 p.0 r.0 l.0 t.0 u.0

  -- ---- logs

  lines_back : (ls : List Words) → list_all is_line_of_words ls ≡ true → map (split_at 32) (map joined ls) ≡ ls
  lines_back [] all = refl
  lines_back (l ∷ ls) all =
      let two = and_parts (is_line_of_words l) (list_all is_line_of_words ls) all in
      ap (λ (x : Words). x ∷ map (split_at 32) (map joined ls)) (line_split l two.0) ∙ ap (λ (x : List Words). l ∷ x) (lines_back ls two.1)

  words_back : (l : LogTree) → IsLog s l → map (split_at 32) (split_at 10 (spelling s l)) ≡ log_words s l ++ split_at 32 [] ∷ []
  words_back l fits =
      ap (map (split_at 32)) (log_split s l h fits) ∙ map-append (split_at 32) (map joined (log_words s l)) ([] ∷ [])
      ∙ ap (λ (x : List Words). x ++ split_at 32 [] ∷ []) (lines_back (log_words s l) (log_are_words s l h fits))

  lines_same : (l m : LogTree) → IsLog s l → IsLog s m → log_words s l ≡ log_words s m → l ≡ m
  lines_same l m fits fits' e =
      let whole = last_same (inner_words s l) (inner_words s m) (counts_words l.sends) (counts_words m.sends) (rest_same _ _ (inner_words s l ++ counts_words l.sends ∷ []) (inner_words s m ++ counts_words m.sends ∷ []) e) in
      let parts = entries_same l.entries m.entries l.end m.end (map (extra_words s) l.extras) (map (extra_words s) m.extras) fits.entries fits'.entries whole.0 in
      let end : l.end ≡ m.end = end_same l.end m.end (first_same _ _ (map (extra_words s) l.extras) (map (extra_words s) m.extras) parts.1) in
      let more : map (extra_words s) l.extras ≡ map (extra_words s) m.extras = rest_same _ _ (map (extra_words s) l.extras) (map (extra_words s) m.extras) parts.1 in
      let also : AllByRecursion (IsExtra s l.end) m.extras = subst (λ (x : End). AllByRecursion (IsExtra s x) m.extras) (sym end) fits'.extras in
      log_from l m parts.0 end (extras_same l.end l.extras m.extras fits.extras also more) (counts_same l.sends m.sends fits.sends fits'.sends whole.1)

  pub one_log : (l m : LogTree) → IsLog s l → IsLog s m → spelling s l ≡ spelling s m → l ≡ m
  one_log l m fits fits' e =
      lines_same l m fits fits'
      (append_cancel_right (log_words s l) (log_words s m) (split_at 32 [] ∷ [])
      (sym (words_back l fits) ∙ ap (λ (x : List ℕ). map (split_at 32) (split_at 10 x)) e ∙ words_back m fits'))
