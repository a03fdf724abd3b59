-- What a thread has ready stands in order of place, and of number at one place.
use Rattle.std.proofs.Common.{◌≡◌, ◌<◌, ℕ, suc, Bool, true, false, not, cond, eqb, List, [], ◌∷◌, ◌++◌, length, Option, Some, None, refl, sym, ap, ◌∙◌, subst, arith, inl, inr}
use Rattle.std.specs.Prelude.{◌⊎◌, ◌&&◌, filter, is_some, option_map, unwrap_or}
use Rattle.std.specs.List.{AllByRecursion, flat_map}
use Rattle.std.proofs.lemmas.Bool.{and_right}
use Rattle.win_num.specs.declared.message.Thread.{Thread}
use Rattle.win_num.specs.declared.send.Cause.TheVariants.{Loss}
use Rattle.win_num.specs.declared.send.Kind.{Kind}
use Rattle.win_num.specs.declared.send.Kind.TheVariants.{Callback as WithCallback}
use Rattle.user_model.specs.declared.call.Call.{Call}
use Rattle.user_model.specs.declared.call.Call.TheVariants as calls
use Rattle.user_model.specs.declared.entry.Answer.{Answer}
use Rattle.user_model.specs.declared.entry.Answer.TheVariants as answered
use Rattle.user_model.specs.declared.entry.Entry.{Entry}
use Rattle.user_model.specs.declared.entry.Setup.{Setup}
use Rattle.user_model.specs.Past.{Past, is_refused}
use Rattle.user_model.specs.Places.{has_ended}
use Rattle.user_model.specs.Deeds.{SendParts, parts_of}
use Rattle.user_model.specs.Windows.{Window, live, window, drops, drops_window}
use Rattle.user_model.specs.Sends.{SentMsg, Outcome, sends, send, sends_by, sends_with, sent_as, is_answered, is_entered, outcome, answers_in}
use Rattle.user_model.specs.Ready.{ReadyMsg, to_enter, place_of, begun, result, result_in, is_answered_by, arrives, departs, ready}
use Rattle.user_model.specs.Machines.{entry_of}
use Rattle.user_model.specs.Legal.{IsLawful}
use Rattle.user_model.proofs.ListLaws.{all_weaker, all_append, all_filter, filter_none}
use Rattle.user_model.proofs.SendNext.{all_flat}
use Rattle.user_model.proofs.SendStanding.{CountsFrom}
use Rattle.user_model.proofs.SendLawful.{lawful_standing}
use Rattle.user_laws.specs.Stands.{number_ready, IsReadyBefore, RisesByPlace}

-- ---- lists in order

rises_filter : (p : ReadyMsg → Bool) (rs : List ReadyMsg) → RisesByPlace rs → RisesByPlace (filter p rs)
rises_filter p [] h = tt
rises_filter p (r ∷ rs) h = pick (p r) (all_filter (IsReadyBefore r) p rs h.0) (rises_filter p rs h.1)
  where
    pick : (b : Bool) → AllByRecursion (IsReadyBefore r) (filter p rs) → RisesByPlace (filter p rs) → RisesByPlace (cond b (r ∷ filter p rs) (filter p rs))
    pick true a k = (a, k)
    pick false a k = k

rises_append : (rs bs : List ReadyMsg) → RisesByPlace rs → RisesByPlace bs → AllByRecursion (λ a. AllByRecursion (IsReadyBefore a) bs) rs → RisesByPlace (rs ++ bs)
rises_append [] bs ha hb k = hb
rises_append (a ∷ rs) bs ha hb k = (all_append (IsReadyBefore a) rs bs ha.0 k.0, rises_append rs bs ha.1 hb k.1)

-- ---- what one entry adds

sent_placed : (a : Answer) (e : Entry) (past : Past) (w m p q : ℕ) (kind : Kind) → AllByRecursion (λ x. x.place ≡ length past) (sent_as a e past w m p q kind)
sent_placed (answered.Inside s proc_no) e past w m p q kind = (refl, tt)
sent_placed (answered.Begun s) e past w m p q kind = (refl, tt)
sent_placed _ e past w m p q kind = tt

sends_placed : (o : Option SendParts) (e : Entry) (past : Past) → AllByRecursion (λ x. x.place ≡ length past) (sends_with o e past)
sends_placed (Some of) e past = sent_placed e.answer e past of.hwnd of.message of.wparam of.lparam of.kind
sends_placed None e past = tt

begun_placed : (n : ℕ) (x : SentMsg) → x.place ≡ n → AllByRecursion (λ r. place_of r ≡ n) (begun x)
begun_placed n x h = pick x.is_inside
  where
    pick : (b : Bool) → AllByRecursion (λ r. place_of r ≡ n) (cond b [] (to_enter x ∷ []))
    pick true = tt
    pick false = (h, tt)

-- a result that is ready has this place, and its send's number
abbrev IsResultOf : ℕ → SentMsg → ReadyMsg → Type 0
IsResultOf n x r = (place_of r ≡ n) × (number_ready r ≡ x.number)

result_placed : (past : Past) (x : SentMsg) → AllByRecursion (IsResultOf (length past) x) (result past x)
result_placed past x = pick x.is_inside
  where
    by : (k : Kind) → AllByRecursion (IsResultOf (length past) x) (result_in past x k)
    by (WithCallback proc_no extra) = ((refl, refl), tt)
    by _ = tt

    pick : (b : Bool) → AllByRecursion (IsResultOf (length past) x) (cond b [] (result_in past x x.kind))
    pick true = tt
    pick false = by x.kind

result_one : (past : Past) (x : SentMsg) → RisesByPlace (result past x)
result_one past x = pick x.is_inside
  where
    by : (k : Kind) → RisesByPlace (result_in past x k)
    by (WithCallback proc_no extra) = (tt, tt)
    by _ = tt

    pick : (b : Bool) → RisesByPlace (cond b [] (result_in past x x.kind))
    pick true = tt
    pick false = by x.kind

arrivals_placed : (t : ℕ) (e : Entry) (past : Past) → AllByRecursion (λ r. place_of r ≡ length past) (arrives t e past)
arrivals_placed t e past =
    all_append (λ r. place_of r ≡ length past) (flat_map begun (filter (λ x. eqb x.to t) (sends_by e.call e past))) (flat_map (λ x. result past x) (filter (λ x. eqb x.from t && not (has_ended past t) && is_answered_by e past x) (sends past)))
    (all_flat (λ x. x.place ≡ length past) (λ r. place_of r ≡ length past) begun (filter (λ x. eqb x.to t) (sends_by e.call e past)) (begun_placed (length past)) (all_filter (λ x. x.place ≡ length past) (λ x. eqb x.to t) (sends_by e.call e past) (sends_placed (parts_of e.call) e past)))
    (results_placed (filter (λ x. eqb x.from t && not (has_ended past t) && is_answered_by e past x) (sends past)))
  where
    results_placed : (xs : List SentMsg) → AllByRecursion (λ r. place_of r ≡ length past) (flat_map (λ x. result past x) xs)
    results_placed [] = tt
    results_placed (x ∷ xs) = all_append (λ r. place_of r ≡ length past) (result past x) (flat_map (λ x. result past x) xs) (all_weaker (IsResultOf (length past) x) (λ r. place_of r ≡ length past) (λ r h. h.0) (result past x) (result_placed past x)) (results_placed xs)

-- results of sends in order of number
abbrev IsAbove : Past → ℕ → ReadyMsg → Type 0
IsAbove past n r = (place_of r ≡ length past) × (n < number_ready r)

results_above : (past : Past) (q : SentMsg → Bool) (n : ℕ) (xs : List SentMsg) → CountsFrom n xs → AllByRecursion (IsAbove past n) (flat_map (λ x. result past x) (filter q xs))
results_above past q n [] h = tt
results_above past q n (x ∷ xs) h =
    pick (q x)
    (all_weaker (IsResultOf (length past) x) (IsAbove past n) (λ r k. (k.0, (let a = k.1 in let b = h.0 in omega (arith, a, b)))) (result past x) (result_placed past x))
    (all_weaker (IsAbove past (suc n)) (IsAbove past n) (λ r k. (k.0, (let b = k.1 in omega (arith, b)))) (flat_map (λ x. result past x) (filter q xs)) (results_above past q (suc n) xs h.1))
  where
    pick : (b : Bool) → AllByRecursion (IsAbove past n) (result past x) → AllByRecursion (IsAbove past n) (flat_map (λ x. result past x) (filter q xs)) → AllByRecursion (IsAbove past n) (flat_map (λ x. result past x) (cond b (x ∷ filter q xs) (filter q xs)))
    pick true a k = all_append (IsAbove past n) (result past x) (flat_map (λ x. result past x) (filter q xs)) a k
    pick false a k = k

results_rise : (past : Past) (q : SentMsg → Bool) (n : ℕ) (xs : List SentMsg) → CountsFrom n xs → RisesByPlace (flat_map (λ x. result past x) (filter q xs))
results_rise past q n [] h = tt
results_rise past q n (x ∷ xs) h = pick (q x) (results_rise past q (suc n) xs h.1)
  where
    rest : List ReadyMsg
    rest = flat_map (λ x. result past x) (filter q xs)

    before : (r : ReadyMsg) → IsResultOf (length past) x r → AllByRecursion (IsReadyBefore r) rest
    before r is = all_weaker (IsAbove past (suc n)) (IsReadyBefore r) (λ y k. inr (is.0 ∙ sym k.0, (let a = is.1 in let b = h.0 in let c = k.1 in omega (arith, a, b, c)))) rest (results_above past q (suc n) xs h.1)

    pick : (b : Bool) → RisesByPlace rest → RisesByPlace (flat_map (λ x. result past x) (cond b (x ∷ filter q xs) (filter q xs)))
    pick true k = rises_append (result past x) rest (result_one past x) k (all_weaker (IsResultOf (length past) x) (λ a. AllByRecursion (IsReadyBefore a) rest) before (result past x) (result_placed past x))
    pick false k = k

begun_one : (p : SentMsg → Bool) (x : SentMsg) → RisesByPlace (flat_map begun (filter p (x ∷ [])))
begun_one p x = pick (p x)
  where
    one : (c : Bool) → RisesByPlace (cond c [] (to_enter x ∷ []) ++ [])
    one true = tt
    one false = (tt, tt)

    pick : (b : Bool) → RisesByPlace (flat_map begun (cond b (x ∷ []) []))
    pick true = one x.is_inside
    pick false = tt

-- an entry that drops nothing and answers no send by name answers none
quiet : (e : Entry) (past : Past) → ((x : Window) → drops e (live past) x ≡ false) → ((s : ℕ) → answers_in e.call e past s ≡ None) → (x : SentMsg) → is_answered_by e past x ≡ false
quiet e past none named x =
    ap (λ b. is_some (cond b (Some (outcome past 0 Loss)) (answers_in e.call e past x.number)) && not (is_answered past x.number)) (lost (send past x.number))
    ∙ ap (λ (o : Option Outcome). is_some o && not (is_answered past x.number)) (named x.number)
  where
    dropped : (o : Option Window) → unwrap_or (option_map (drops e (live past)) o) false ≡ false
    dropped None = refl
    dropped (Some y) = none y

    lost : (o : Option SentMsg) → elim o as (λ _. Bool) [ Some y ↦ drops_window e past y.hwnd && not (is_entered past x.number) | None ↦ false ] ≡ false
    lost None = refl
    lost (Some y) = ap (λ b. b && not (is_entered past x.number)) (dropped (window past y.hwnd))

-- an entry sends nothing, or it answers nothing and sends one
record SendsOne (e : Entry) (past : Past) : Type 0 where
  silent : (x : SentMsg) → is_answered_by e past x ≡ false
  one : (t : ℕ) → RisesByPlace (flat_map begun (filter (λ x. eqb x.to t) (sends_by e.call e past)))

exclusive : (who : Thread) (call : Call) (a : Answer) (past : Past) → (sends_by call (entry_of who call a) past ≡ []) ⊎ SendsOne (entry_of who call a) past
exclusive who (calls.Send w m p q) (answered.Inside s proc_no) past = inr record { silent = quiet (entry_of who (calls.Send w m p q) (answered.Inside s proc_no)) past (λ x. refl) (λ s. refl); one = λ t. begun_one (λ x. eqb x.to t) _ }
exclusive who (calls.Send w m p q) (answered.Begun s) past = inr record { silent = quiet (entry_of who (calls.Send w m p q) (answered.Begun s)) past (λ x. refl) (λ s. refl); one = λ t. begun_one (λ x. eqb x.to t) _ }
exclusive who (calls.Send w m p q) _ past = inl refl
exclusive who (calls.SendTimeout w m p q flags ms) (answered.Inside s proc_no) past = inr record { silent = quiet (entry_of who (calls.SendTimeout w m p q flags ms) (answered.Inside s proc_no)) past (λ x. refl) (λ s. refl); one = λ t. begun_one (λ x. eqb x.to t) _ }
exclusive who (calls.SendTimeout w m p q flags ms) (answered.Begun s) past = inr record { silent = quiet (entry_of who (calls.SendTimeout w m p q flags ms) (answered.Begun s)) past (λ x. refl) (λ s. refl); one = λ t. begun_one (λ x. eqb x.to t) _ }
exclusive who (calls.SendTimeout w m p q flags ms) _ past = inl refl
exclusive who (calls.SendNotify w m p q) (answered.Inside s proc_no) past = inr record { silent = quiet (entry_of who (calls.SendNotify w m p q) (answered.Inside s proc_no)) past (λ x. refl) (λ s. refl); one = λ t. begun_one (λ x. eqb x.to t) _ }
exclusive who (calls.SendNotify w m p q) (answered.Begun s) past = inr record { silent = quiet (entry_of who (calls.SendNotify w m p q) (answered.Begun s)) past (λ x. refl) (λ s. refl); one = λ t. begun_one (λ x. eqb x.to t) _ }
exclusive who (calls.SendNotify w m p q) _ past = inl refl
exclusive who (calls.SendCallback w m p q proc_no extra) (answered.Inside s called) past = inr record { silent = quiet (entry_of who (calls.SendCallback w m p q proc_no extra) (answered.Inside s called)) past (λ x. refl) (λ s. refl); one = λ t. begun_one (λ x. eqb x.to t) _ }
exclusive who (calls.SendCallback w m p q proc_no extra) (answered.Begun s) past = inr record { silent = quiet (entry_of who (calls.SendCallback w m p q proc_no extra) (answered.Begun s)) past (λ x. refl) (λ s. refl); one = λ t. begun_one (λ x. eqb x.to t) _ }
exclusive who (calls.SendCallback w m p q proc_no extra) _ past = inl refl
exclusive who _ a past = inl refl

-- before nothing each comes first
before_none : (rs bs : List ReadyMsg) → bs ≡ [] → AllByRecursion (λ a. AllByRecursion (IsReadyBefore a) bs) rs
before_none [] bs none = tt
before_none (a ∷ rs) bs none = (subst (AllByRecursion (IsReadyBefore a)) (sym none) tt, before_none rs bs none)

arrivals_rise : (t : ℕ) (e : Entry) (past : Past) → CountsFrom 0 (sends past) → RisesByPlace (arrives t e past)
arrivals_rise t e past counted = by (exclusive e.who e.call e.answer past)
  where
    first : List ReadyMsg
    first = flat_map begun (filter (λ x. eqb x.to t) (sends_by e.call e past))

    answers_to : SentMsg → Bool
    answers_to x = eqb x.from t && not (has_ended past t) && is_answered_by e past x

    second : List ReadyMsg
    second = flat_map (λ x. result past x) (filter answers_to (sends past))

    by : (sends_by e.call e past ≡ []) ⊎ SendsOne e past → RisesByPlace (first ++ second)
    by (inl none) = subst (λ xs. RisesByPlace (flat_map begun (filter (λ x. eqb x.to t) xs) ++ second)) (sym none) (results_rise past answers_to 0 (sends past) counted)
    by (inr one) =
        let empty : second ≡ [] = ap (λ xs. flat_map (λ x. result past x) xs) (filter_none answers_to (λ x. ap (λ b. eqb x.from t && not (has_ended past t) && b) (one.silent x) ∙ and_right (eqb x.from t && not (has_ended past t)) false refl) (sends past)) in
        rises_append first second (one.one t) (subst RisesByPlace (sym empty) tt) (before_none first second empty)

-- ---- what is ready

ready_below : (past : Past) (t : ℕ) → AllByRecursion (λ r. place_of r < length past) (ready past t)
ready_below [] t = tt
ready_below (e ∷ past) t = pick (is_refused e) (all_weaker (λ r. place_of r < length past) (λ r. place_of r < suc (length past)) (λ r h. omega (arith, h)) (ready past t) (ready_below past t))
  where
    pick : (b : Bool) → AllByRecursion (λ r. place_of r < suc (length past)) (ready past t) → AllByRecursion (λ r. place_of r < suc (length past)) (elim b as (λ _. List ReadyMsg) [ true ↦ ready past t | false ↦ filter (λ r. not (departs t e past r)) (ready past t) ++ arrives t e past ])
    pick true k = k
    pick false k = all_append (λ r. place_of r < suc (length past)) (filter (λ r. not (departs t e past r)) (ready past t)) (arrives t e past) (all_filter (λ r. place_of r < suc (length past)) (λ r. not (departs t e past r)) (ready past t) k)
        (all_weaker (λ r. place_of r ≡ length past) (λ r. place_of r < suc (length past)) (λ r h. omega (arith, h)) (arrives t e past) (arrivals_placed t e past))

pub ready_rises : (setup : Setup) (past : Past) (t : ℕ) → IsLawful setup past → RisesByPlace (ready past t)
ready_rises setup [] t lawful = tt
ready_rises setup (e ∷ past) t lawful = pick (is_refused e) (ready_rises setup past t lawful.0)
  where
    stays : ReadyMsg → Bool
    stays r = not (departs t e past r)

    later : (r : ReadyMsg) → place_of r < length past → AllByRecursion (IsReadyBefore r) (arrives t e past)
    later r h = all_weaker (λ q. place_of q ≡ length past) (IsReadyBefore r) (λ q k. inl (omega (arith, h, k))) (arrives t e past) (arrivals_placed t e past)

    pick : (b : Bool) → RisesByPlace (ready past t) → RisesByPlace (elim b as (λ _. List ReadyMsg) [ true ↦ ready past t | false ↦ filter stays (ready past t) ++ arrives t e past ])
    pick true k = k
    pick false k =
        rises_append (filter stays (ready past t)) (arrives t e past) (rises_filter stays (ready past t) k) (arrivals_rise t e past (lawful_standing setup past lawful.0).counted)
        (all_weaker (λ r. place_of r < length past) (λ r. AllByRecursion (IsReadyBefore r) (arrives t e past)) later (filter stays (ready past t)) (all_filter (λ r. place_of r < length past) stays (ready past t) (ready_below past t)))
