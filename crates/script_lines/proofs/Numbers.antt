-- Lines of which each operand is a number, from their text.
use Rattle.std.proofs.Common.{◌≡◌, ℕ, ◌^◌, ◌<◌, true, List, [], ◌∷◌, ◌++◌, refl, ap, sym, ◌∙◌, subst, arith}
use Rattle.std.specs.Prelude.{codes, decimal}
use Rattle.std.specs.List.{flat_map}
use Rattle.script_tree.specs.declared.operand.Operand.TheVariants.{Number}
use Rattle.script_tree.specs.declared.statement.CallStatement.{CallStatement}
use Rattle.script_tree.specs.declared.statement.CallStatement.TheVariants as calls
use Rattle.script_lines.specs.declared.line.Line.{Line}
use Rattle.script_lines.specs.declared.line.Line.TheVariants.{Call}
use Rattle.script_lines.specs.Frequent.{IsFrequent}
use Rattle.script_lines.specs.Known.{nothing_known}
use Rattle.script_lines.specs.LineReading.{split_at}
use Rattle.script_lines.specs.LineTexts.{blank_word, joined}
use Rattle.script_lines.specs.NameLimits.{AreKnown}
use Rattle.script_lines.proofs.TextsAgain.{is_line_of_words, line_is_words, line_split}

none_known : AreKnown nothing_known
none_known = record {
  names = record { spelled = refl; distinct = refl; few = omega arith };
  procedures = record { spelled = refl; distinct = refl; few = omega arith };
}

-- a text that is spelled as such a line has its words
frequent_text : (words : List (List ℕ)) (text : List ℕ) (l : Line) → IsFrequent words l → text ≡ joined words → IsFrequent (split_at 32 text) l
frequent_text words text l h is =
    let visible : is_line_of_words words ≡ true = ap is_line_of_words (sym (h.spelled nothing_known)) ∙ line_is_words nothing_known l h.fits none_known in
    subst (λ w. IsFrequent w l) (sym (ap (split_at 32) is ∙ line_split words visible)) h

pub get_told : (text : List ℕ) (window min max : ℕ) → window < 2 ^ 64 → min < 2 ^ 64 → max < 2 ^ 64 → text ≡ flat_map blank_word (decimal window ∷ decimal min ∷ decimal max ∷ []) → IsFrequent (split_at 32 (codes "get" ++ text)) (Call (calls.Get (Number window) (Number min) (Number max)))
get_told text window min max w a b is =
    let call : CallStatement = calls.Get (Number window) (Number min) (Number max) in
    frequent_text (codes "get" ∷ decimal window ∷ decimal min ∷ decimal max ∷ []) (codes "get" ++ text) (Call call)
    (record { call = call; is = refl; spelled = λ known. refl; fits = (w, (a, (b, tt))); unnamed = λ count o. refl; unbegun = λ count o. refl })
    (ap (λ (t : List ℕ). codes "get" ++ t) is)

module _ (text : List ℕ) (target message wparam lparam : ℕ) (t : target < 2 ^ 64) (m : message < 2 ^ 64) (w : wparam < 2 ^ 64) (l : lparam < 2 ^ 64) (is : text ≡ flat_map blank_word (decimal target ∷ decimal message ∷ decimal wparam ∷ decimal lparam ∷ [])) where
  pub post_told : IsFrequent (split_at 32 (codes "post" ++ text)) (Call (calls.Post (Number target) (Number message) (Number wparam) (Number lparam)))
  post_told =
      let call : CallStatement = calls.Post (Number target) (Number message) (Number wparam) (Number lparam) in
      frequent_text (codes "post" ∷ decimal target ∷ decimal message ∷ decimal wparam ∷ decimal lparam ∷ []) (codes "post" ++ text) (Call call)
      (record { call = call; is = refl; spelled = λ known. refl; fits = (t, (m, (w, (l, tt)))); unnamed = λ count o. refl; unbegun = λ count o. refl })
      (ap (λ (rest : List ℕ). codes "post" ++ rest) is)

  pub post_thread_told : IsFrequent (split_at 32 (codes "post_thread" ++ text)) (Call (calls.PostThread (Number target) (Number message) (Number wparam) (Number lparam)))
  post_thread_told =
      let call : CallStatement = calls.PostThread (Number target) (Number message) (Number wparam) (Number lparam) in
      frequent_text (codes "post_thread" ∷ decimal target ∷ decimal message ∷ decimal wparam ∷ decimal lparam ∷ []) (codes "post_thread" ++ text) (Call call)
      (record { call = call; is = refl; spelled = λ known. refl; fits = (t, (m, (w, (l, tt)))); unnamed = λ count o. refl; unbegun = λ count o. refl })
      (ap (λ (rest : List ℕ). codes "post_thread" ++ rest) is)

  pub send_told : IsFrequent (split_at 32 (codes "send" ++ text)) (Call (calls.Send (Number target) (Number message) (Number wparam) (Number lparam)))
  send_told =
      let call : CallStatement = calls.Send (Number target) (Number message) (Number wparam) (Number lparam) in
      frequent_text (codes "send" ∷ decimal target ∷ decimal message ∷ decimal wparam ∷ decimal lparam ∷ []) (codes "send" ++ text) (Call call)
      (record { call = call; is = refl; spelled = λ known. refl; fits = (t, (m, (w, (l, tt)))); unnamed = λ count o. refl; unbegun = λ count o. refl })
      (ap (λ (rest : List ℕ). codes "send" ++ rest) is)
