-- What the call `status` is answered, and how many values were told.
use Rattle.std.proofs.Common.{◌≡◌, ◌≢◌, ◌⊎◌, inl, inr, ℕ, suc, ◌+◌, ◌-◌, ◌<◌, ◌≤◌, Bool, true, false, List, [], ◌∷◌, ◌++◌, length, refl, ap, sym, ◌∙◌, subst, ⊎_elim, arith, length-append}
use Rattle.std.specs.Prelude.{if◌then◌else◌, ◌==◌, slice_get, Option, Some, None}
use Rattle.std.proofs.lemmas.List.{append-nil}
use Rattle.std.proofs.lemmas.Nat.{and_le_r}
use Rattle.win_num.specs.declared.message.Thread.{Thread}
use Rattle.win_num.specs.declared.code.Code.{Code}
use Rattle.win_num.specs.declared.code.Code.TheVariants.{Full, NotNow}
use Rattle.user_model.specs.declared.call.Call.{Call}
use Rattle.user_model.specs.declared.call.Call.TheVariants.{Status}
use Rattle.user_model.specs.declared.entry.Answer.{Answer}
use Rattle.user_model.specs.declared.entry.Answer.TheVariants.{Value, Refused}
use Rattle.user_model.specs.declared.entry.Entry.{Entry}
use Rattle.user_model.specs.declared.entry.Setup.{Setup}
use Rattle.user_model.specs.Past.{Past}
use Rattle.user_model.specs.Places.{mine as entries_of}
use Rattle.user_model.specs.Idle.{reply}
use Rattle.user_model.specs.Machines.{entry_of}
use Rattle.user_model.specs.Refusals.{refuse}
use Rattle.user_model.specs.Status.{status, bits_since, last_look}
use Rattle.turn_lock.specs.Seats.{Sitting}
use Rattle.user_desk.specs.Desks.{thread, seen_by, made_by, HasLooked, HasMade, CameTo}
use Rattle.status_board.specs.declared.shown.Shown.{Shown}
use Rattle.status_board.specs.Lists.{shown}
use Rattle.status_board.specs.Owners.{is_status, value_told, one_of, told_by, values, HasCounted, IsPublished, HasShown, HasDenied}

-- the answer of a status: its value, or a refusal by one of two causes
abbrev pub IsStatusAnswer : Setup → Past → ℕ → Answer → Type 0
IsStatusAnswer setup past who a = (a ≡ Value (status setup past who 127)) ⊎ ((code : Code) × (a ≡ Refused code) × ((code ≡ NotNow) ⊎ (code ≡ Full)))

either_way : (P : Answer → Type 0) (b : Bool) (code : Code) (x : Answer) → P (Refused code) → P x → P (refuse b code x)
either_way P true code x p q = p
either_way P false code x p q = q

if_either : (P : Answer → Type 0) (b : Bool) (x y : Answer) → P x → P y → P (if b then x else y)
if_either P true x y p q = p
if_either P false x y p q = q

-- a status is answered so
pub status_answer : (setup : Setup) (past : Past) (who : ℕ) → IsStatusAnswer setup past who (reply setup past who (Status 127))
unfolding reply
status_answer setup past who =
    let P = IsStatusAnswer setup past who in
    let full : P (Refused Full) = inr (Full, refl, inr refl) in
    let late : P (Refused NotNow) = inr (NotNow, refl, inl refl) in
    either_way P _ Full _ full (if_either P _ _ _ late (either_way P _ NotNow _ late (either_way P _ NotNow _ late (inl refl))))

-- a status of all kinds is a number of 32 bits
pub status_small : (setup : Setup) (past : Past) (who : ℕ) → status setup past who 127 < 4294967296
status_small setup past who = omega (arith, and_le_r (bits_since setup past who []) 127, and_le_r (bits_since setup past who (last_look past who)) 127)

one_short : (o : Option ℕ) → length (one_of o) ≤ 1
one_short None = omega arith
one_short (Some v) = omega arith

if_short : (b : Bool) (xs : List ℕ) → length xs ≤ 1 → length (if b then xs else []) ≤ 1
if_short true xs short = short
if_short false xs short = omega arith

-- an entry tells one value at most
values_short : (past : Past) → length (values past) ≤ length past
values_short [] = omega arith
values_short (e ∷ past) = omega (arith, length-append (values past) (told_by e), values_short past, if_short (is_status e.call) (one_of (value_told e.answer)) (one_short (value_told e.answer)))

-- no more values were told than entries made
pub counted_short : (start mine : Past) (n : ℕ) → HasCounted start mine n → n ≤ length mine
counted_short start mine n has = omega (arith, sym has.count, values_short has.since, ap (λ (l : Past). length l) has.whole ∙ length-append has.since start)

kept_short : (t : ℕ) (past : Past) → length (entries_of past t) ≤ length past
kept_short t [] = omega arith
kept_short t (e ∷ past) = kept_or t (e.who.0 == t) e past (kept_short t past)
  where
    kept_or : (t : ℕ) (b : Bool) (e : Entry) (past : Past) → length (entries_of past t) ≤ length past → length (if b then e ∷ entries_of past t else entries_of past t) ≤ suc (length past)
    kept_or t true e past short = omega arith
    kept_or t false e past short = omega arith

-- the value that was told last comes last
value_last : (xs : List ℕ) (v : ℕ) → slice_get (xs ++ v ∷ []) (length xs) ≡ Some v
value_last [] v = refl
value_last (x ∷ xs) v = value_last xs v

-- an entry that tells a value is counted
counted_one : (start mine : Past) (e : Entry) (n v : ℕ) → told_by e ≡ v ∷ [] → HasCounted start mine n → HasCounted start (e ∷ mine) (n + 1)
counted_one start mine e n v tells has = record {
  since = e ∷ has.since;
  whole = ap (λ (l : Past). e ∷ l) has.whole;
  count = length-append (values has.since) (told_by e) ∙ ap (λ (l : List ℕ). length (values has.since) + length l) tells ∙ ap (λ (k : ℕ). k + 1) has.count;
}

-- one that tells none isn't
counted_none : (start mine : Past) (e : Entry) (n : ℕ) → told_by e ≡ [] → HasCounted start mine n → HasCounted start (e ∷ mine) n
counted_none start mine e n tells has = record {
  since = e ∷ has.since;
  whole = ap (λ (l : Past). e ∷ l) has.whole;
  count = ap (λ (l : List ℕ). length (values has.since ++ l)) tells ∙ ap (λ (l : List ℕ). length l) (append-nil (values has.since)) ∙ has.count;
}

-- it is the one of that number
published_one : (start mine : Past) (e : Entry) (n v : ℕ) → told_by e ≡ v ∷ [] → HasCounted start mine n → IsPublished start (e ∷ mine) (shown (n + 1) v)
published_one start mine e n v tells has =
    let place : n + 1 - 1 ≡ length (values has.since) = omega (arith, has.count) in record {
      since = e ∷ has.since;
      whole = ap (λ (l : Past). e ∷ l) has.whole;
      value = ap (λ (l : List ℕ). slice_get (values has.since ++ l) (n + 1 - 1)) tells ∙ ap (λ (k : ℕ). slice_get (values has.since ++ v ∷ []) k) place ∙ value_last (values has.since) v;
    }

module _ {S : Type 0} (setup : Setup) (opening : Past) (old new : Sitting S (Thread × Call) Answer) where
  value_made : (v : ℕ) → CameTo setup opening old new (Status 127) (Value v) → HasMade setup opening old new (Status 127) (Value v)
  value_made v (inl made) = made
  value_made v (inr full) = absurd (cc (full.is_refusal))

  value_is : (v : ℕ) (made : HasMade setup opening old new (Status 127) (Value v)) → v ≡ status setup (made.since ++ opening) new.number 127
  value_is v made = ⊎_elim (λ (is : reply setup (made.since ++ opening) new.number (Status 127) ≡ Value (status setup (made.since ++ opening) new.number 127)). cc (made.is_reply, is))
      (λ (r : (code : Code) × (reply setup (made.since ++ opening) new.number (Status 127) ≡ Refused code) × ((code ≡ NotNow) ⊎ (code ≡ Full))). absurd (cc (made.is_reply, r.1))) (status_answer setup (made.since ++ opening) new.number)

  -- a status fits
  pub value_fits : (v : ℕ) → CameTo setup opening old new (Status 127) (Value v) → v < 4294967296
  value_fits v came = let made = value_made v came in subst (λ (k : ℕ). k < 4294967296) (sym (value_is v made)) (status_small setup (made.since ++ opening) new.number)

  -- and its number
  pub number_fits : (v : ℕ) → HasLooked setup opening old new → CameTo setup opening old new (Status 127) (Value v) → (start : Past) (n : ℕ) → HasCounted start (made_by old) n → n < 4294967295
  number_fits v looked came start n has =
      let made = value_made v came in
      omega (
        arith,
        counted_short start (made_by old) n has,
        ap (λ (l : Past). length l) made.made,
        ap (λ (l : Past). length l) looked.own,
        kept_short new.number (seen_by new),
        length-append (seen_by new) opening,
        looked.short,
      )

  -- a status is answered nothing else
  pub no_other : (a : Answer) → CameTo setup opening old new (Status 127) a → ((v : ℕ) → a ≢ Value v) → ((code : Code) → a ≢ Refused code) → ⊥
  no_other a (inr full) no_value no_refusal = no_refusal Full full.is_refusal
  no_other a (inl made) no_value no_refusal = ⊎_elim (λ (is : reply setup (made.since ++ opening) new.number (Status 127) ≡ Value (status setup (made.since ++ opening) new.number 127)). no_value _ (made.is_reply ∙ is))
      (λ (r : (code : Code) × (reply setup (made.since ++ opening) new.number (Status 127) ≡ Refused code) × ((code ≡ NotNow) ⊎ (code ≡ Full))). no_refusal r.0 (made.is_reply ∙ r.1)) (status_answer setup (made.since ++ opening) new.number)

  -- a value was published
  pub has_shown : (v : ℕ) → CameTo setup opening old new (Status 127) (Value v) → (before after : List Shown) (n : ℕ) → n ≡ length before + 1 → after ≡ before ++ shown n v ∷ [] → HasShown setup opening old new before after n
  has_shown v came before after n next list = let made = value_made v came in record {
    value = v;
    made = made;
    is_status = value_is v made;
    number = next;
    list = list;
    is_published = λ start has. subst (λ (l : Past). IsPublished start l (shown n v)) (sym made.made) (subst (λ (k : ℕ). IsPublished start (entry_of (thread new.number) (Status 127) (Value v) ∷ made_by old) (shown k v)) (sym next) (published_one start (made_by old) (entry_of (thread new.number) (Status 127) (Value v)) (length before) v refl has));
  }

  pub shown_counts : (v : ℕ) → CameTo setup opening old new (Status 127) (Value v) → (start : Past) (n : ℕ) → HasCounted start (made_by old) n → HasCounted start (made_by new) (n + 1)
  shown_counts v came start n has = let made = value_made v came in subst (λ (l : Past). HasCounted start l (n + 1)) (sym made.made) (counted_one start (made_by old) (entry_of (thread new.number) (Status 127) (Value v)) n v refl has)

  -- or the call was refused
  causes : (code : Code) → CameTo setup opening old new (Status 127) (Refused code) → (code ≡ NotNow) ⊎ (code ≡ Full)
  causes code (inr full) = inr (cc (full.is_refusal))
  causes code (inl made) = ⊎_elim (λ (is : reply setup (made.since ++ opening) new.number (Status 127) ≡ Value (status setup (made.since ++ opening) new.number 127)). absurd (cc (made.is_reply, is)))
      (λ (r : (other : Code) × (reply setup (made.since ++ opening) new.number (Status 127) ≡ Refused other) × ((other ≡ NotNow) ⊎ (other ≡ Full))). let same : r.0 ≡ code = cc (made.is_reply, r.1) in subst (λ (k : Code). (k ≡ NotNow) ⊎ (k ≡ Full)) same r.2) (status_answer setup (made.since ++ opening) new.number)

  pub has_denied : (code : Code) → CameTo setup opening old new (Status 127) (Refused code) → (before after : List Shown) → after ≡ before → HasDenied setup opening old new before after code
  has_denied code came before after same = record { came_to = came; causes = causes code came; list = same }

  pub denied_counts : (code : Code) → CameTo setup opening old new (Status 127) (Refused code) → (start : Past) (n : ℕ) → HasCounted start (made_by old) n → HasCounted start (made_by new) n
  denied_counts code (inr full) start n has = subst (λ (l : Past). HasCounted start l n) (sym full.made) has
  denied_counts code (inl made) start n has = subst (λ (l : Past). HasCounted start l n) (sym made.made) (counted_none start (made_by old) (entry_of (thread new.number) (Status 127) (Refused code)) n refl has)

  -- any other call of the owner leaves the count
  pub other_counts : (call : Call) (answer : Answer) → is_status call ≡ false → CameTo setup opening old new call answer → (start : Past) (n : ℕ) → HasCounted start (made_by old) n → HasCounted start (made_by new) n
  other_counts call answer other (inr full) start n has = subst (λ (l : Past). HasCounted start l n) (sym full.made) has
  other_counts call answer other (inl made) start n has =
      let e = entry_of (thread new.number) call answer in
      let none : told_by e ≡ [] = ap (λ (b : Bool). if b then one_of (value_told answer) else []) other in
      subst (λ (l : Past). HasCounted start l n) (sym made.made) (counted_none start (made_by old) e n none has)

-- nothing is told since now
pub none_counted : (mine : Past) → HasCounted mine mine 0
none_counted mine = record { since = []; whole = refl; count = refl }
