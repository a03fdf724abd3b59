-- The words of a call, an answer, an entry and an extra line stand where they are looked for.
use Rattle.std.proofs.Common.{◌≡◌, ℕ, ◌+◌, ◌^◌, ◌≤◌, ◌<◌, List, [], ◌∷◌, ◌++◌, length, Option, Some, refl, ap, sym, ◌∙◌, append_assoc, append-nil, arith}
use Rattle.std.specs.Prelude.{codes, decimal, map}
use Rattle.std.proofs.lemmas.List.{length-append}
use Rattle.win_num.specs.declared.message.Thread.{Thread}
use Rattle.user_model.specs.declared.call.Call.{Call}
use Rattle.user_model.specs.declared.entry.Answer.{Answer}
use Rattle.user_model.specs.declared.entry.Entry.{Entry}
use Rattle.answer_table.specs.declared.answers.AnswerName.{AnswerName}
use Rattle.call_table.specs.declared.calls.CallName.{CallName}
use Rattle.call_fields.specs.declared.form.Field.{Field}
use Rattle.call_fields.specs.declared.value.Value.{Value}
use Rattle.answer_table.specs.Answers.{answer_row, answer_name, answer_parts}
use Rattle.call_table.specs.Calls.{call_row, call_name, call_parts}
use Rattle.call_fields.specs.Values.{field_of}
use Rattle.answer_table.proofs.AnswerLaws as answer_laws
use Rattle.call_table.proofs.CallLaws as call_laws
use Rattle.script_tree.specs.Tree.{Tree}
use Rattle.script_lines.specs.Known.{known_of}
use Rattle.script_lines.specs.LineReading.{word_at}
use Rattle.script_lines.specs.NameLimits.{AreKnown}
use Rattle.log_text.specs.declared.end.End.{End}
use Rattle.log_text.specs.declared.end.End.TheVariants as ends
use Rattle.log_read.specs.declared.log.Extra.{Extra}
use Rattle.log_read.specs.declared.log.Extra.TheVariants as extras
use Rattle.log_read.specs.Limits.{IsCall, IsAnswer, IsExtra}
use Rattle.log_read.specs.Reading.{small_at, actor_at, values_from}
use Rattle.log_read.specs.Words.{value_word, call_words, answer_words, entry_words, extra_words}
use Rattle.log_read.proofs.LineWords.{Words}
use Rattle.log_read.proofs.ListLaws.{same_length}
use Rattle.log_read.proofs.ValuesAgain.{small_number, actor_again, word_here, one_further, values_again}

module _ (s : Tree) where
  -- ---- calls

  pub call_here : (x : Call) (words front rest : Words) (at : ℕ) → words ≡ front ++ call_words s x rest → at ≡ length front → word_at words at ≡ (call_row (call_name x)).word
  call_here x words front rest at e n = word_here words front (map (value_word s) (call_parts x) ++ rest) (call_row (call_name x)).word at e n

  pub call_read : (x : Call) (words front rest : Words) (at : ℕ) (name : CallName) (fs : List Field) (o : Option (List Value)) → AreKnown (known_of s) → IsCall s x → words ≡ front ++ call_words s x rest → at ≡ length front
      → name ≡ call_name x → fs ≡ (call_row name).fields → o ≡ values_from s fs words (at + 1) → o ≡ Some (call_parts x)
  call_read x words front rest at name fs o h fits e n named fields found =
      let word : List ℕ = (call_row (call_name x)).word in
      let next = one_further words front (map (value_word s) (call_parts x) ++ rest) word at e n in
      found
      ∙ ap (λ (l : List Field). values_from s l words (at + 1)) (fields ∙ ap (λ (m : CallName). (call_row m).fields) named ∙ sym (call_laws.parts_fit x))
      ∙ values_again s (call_parts x) words (front ++ word ∷ []) rest (at + 1) h fits next.0 next.1

  -- ---- answers

  pub answer_here : (x : Answer) (words front : Words) (at : ℕ) → words ≡ front ++ answer_words s x → at ≡ length front → word_at words at ≡ (answer_row (answer_name x)).word
  answer_here x words front at e n = word_here words front (map (value_word s) (answer_parts x)) (answer_row (answer_name x)).word at e n

  pub answer_read : (x : Answer) (words front : Words) (at : ℕ) (name : AnswerName) (fs : List Field) (o : Option (List Value)) → AreKnown (known_of s) → IsAnswer s x → words ≡ front ++ answer_words s x → at ≡ length front
      → name ≡ answer_name x → fs ≡ (answer_row name).fields → o ≡ values_from s fs words (at + 1) → o ≡ Some (answer_parts x)
  answer_read x words front at name fs o h fits e n named fields found =
      let word : List ℕ = (answer_row (answer_name x)).word in
      let next = one_further words front (map (value_word s) (answer_parts x)) word at e n in
      let whole : words ≡ (front ++ word ∷ []) ++ (map (value_word s) (answer_parts x) ++ []) = next.0 ∙ ap (λ (l : Words). (front ++ word ∷ []) ++ l) (sym (append-nil (map (value_word s) (answer_parts x)))) in
      found
      ∙ ap (λ (l : List Field). values_from s l words (at + 1)) (fields ∙ ap (λ (m : AnswerName). (answer_row m).fields) named ∙ sym (answer_laws.parts_fit x))
      ∙ values_again s (answer_parts x) words (front ++ word ∷ []) [] (at + 1) h fits whole next.1

  -- ---- entries

  -- what stands before an entry's answer
  abbrev pub before_answer : Entry → Words
  before_answer e = decimal e.who.0 ∷ (call_row (call_name e.call)).word ∷ (map (value_word s) (call_parts e.call) ++ codes "=" ∷ [])

  pub answer_behind : (e : Entry) (words : Words) → words ≡ entry_words s e → words ≡ before_answer e ++ answer_words s e.answer
  answer_behind e words same =
      same ∙ ap (λ (l : Words). decimal e.who.0 ∷ (call_row (call_name e.call)).word ∷ l) (sym (append_assoc (map (value_word s) (call_parts e.call)) (codes "=" ∷ []) (answer_words s e.answer)))

  pub answer_place : (e : Entry) (at : ℕ) → at ≡ 3 + length (call_row (call_name e.call)).fields → at ≡ length (before_answer e)
  answer_place e at n =
      let parts : length (map (value_word s) (call_parts e.call)) ≡ length (call_parts e.call) = same_length (value_word s) (call_parts e.call) in
      let fields : length (call_parts e.call) ≡ length (call_row (call_name e.call)).fields = sym (same_length field_of (call_parts e.call)) ∙ ap length (call_laws.parts_fit e.call) in
      omega (arith, n, parts, fields, length-append (map (value_word s) (call_parts e.call)) (codes "=" ∷ []))

  pub actor_here : (t : Thread) (words front more : Words) (k : ℕ) → t.0 ≤ 15 → words ≡ front ++ decimal t.0 ∷ more → k ≡ length front → actor_at (word_at words k) ≡ Some t
  actor_here t words front more k small e n = ap actor_at (word_here words front more (decimal t.0) k e n) ∙ actor_again t small

  -- ---- extra lines

  -- the actor of an extra line
  pub extra_actor : (end : End) (x : Extra) (words : Words) → IsExtra s end x → words ≡ extra_words s x → (t : Thread) × (actor_at (word_at words 1) ≡ Some t)
  extra_actor end (extras.Waits t call) words fits e = (t, actor_here t words (codes "waits" ∷ []) (call_words s call []) 1 fits.1.0 e refl)
  extra_actor end (extras.Spent t) words fits e = (t, actor_here t words (codes "spent" ∷ []) [] 1 fits.1 e refl)

  -- the line of a thread that waits
  pub record IsWaits (x : Extra) (words : Words) : Type 0 where
    pub thread : Thread
    pub call : Call
    pub is : x ≡ extras.Waits thread call
    pub actor : actor_at (word_at words 1) ≡ Some thread
    pub fits : IsCall s call
    pub line : words ≡ (codes "waits" ∷ decimal thread.0 ∷ []) ++ call_words s call []

  pub waits_line : (end : End) (x : Extra) (words : Words) → IsExtra s end x → end ≡ ends.Stuck → words ≡ extra_words s x → IsWaits x words
  waits_line end (extras.Waits t call) words fits stuck e = record {
    thread = t;
    call = call;
    is = refl;
    actor = actor_here t words (codes "waits" ∷ []) (call_words s call []) 1 fits.1.0 e refl;
    fits = fits.1.1;
    line = e;
  }
  waits_line end (extras.Spent t) words fits stuck e = absurd (cc (stuck, fits.0))

  pub spent_line : (end : End) (x : Extra) (words : Words) → IsExtra s end x → end ≡ ends.Spent → words ≡ extra_words s x → (t : Thread) × (x ≡ extras.Spent t) × (actor_at (word_at words 1) ≡ Some t)
  spent_line end (extras.Waits t call) words fits spent e = absurd (cc (spent, fits.0))
  spent_line end (extras.Spent t) words fits spent e = (t, refl, actor_here t words (codes "spent" ∷ []) [] 1 fits.1 e refl)

-- ---- counts

pub count_read : (words whole : Words) (k n r : ℕ) (word : List ℕ) → words ≡ whole → word_at whole k ≡ decimal n → n < 2 ^ 32 → word ≡ word_at words k → r ≡ small_at 32 word → r ≡ n
count_read words whole k n r word e at small here read =
    read ∙ ap (small_at 32) (here ∙ ap (λ (l : Words). word_at l k) e ∙ at) ∙ small_number 32 n (omega (arith, small)) small
