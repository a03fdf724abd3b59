-- Who set what a get was told.
use Rattle.std.proofs.Common.{◌≡◌, ◌⊎◌, inl, inr, ◌<◌, ◌≤◌, ℕ, Bool, true, false, List, [], ◌∷◌, length, reverse, Option, Some, None, refl, sym, ap, ◌∙◌, subst, arith}
use Rattle.std.specs.List.{slice_get}
use Rattle.std.proofs.lemmas.Option.{slice_get_within}
use Rattle.std.proofs.lemmas.List.{length-take-le}
use Rattle.std.specs.Prelude.{if◌then◌else◌, ◌==◌, ◌&&◌, not, nat_lt, take}
use Rattle.std.proofs.lemmas.Bool.{eqb-true, eqb-false, eq-eqb, ltb-true, lt-ltb, and_parts, not-true, false≢true}
use Rattle.win_num.specs.declared.message.Thread.{Thread}
use Rattle.win_num.specs.declared.message.Hwnd.{Hwnd}
use Rattle.clip_board.specs.declared.entry.ClipCall.{ClipCall}
use Rattle.clip_board.specs.declared.entry.ClipCall.TheVariants.{Open, Empty, Set, Delay, Get, Close}
use Rattle.clip_board.specs.declared.entry.ClipAnswer.{ClipAnswer}
use Rattle.clip_board.specs.declared.entry.ClipAnswer.TheVariants.{Done, Value, Ask, Refused}
use Rattle.clip_board.specs.declared.entry.ClipEntry.{ClipEntry}
use Rattle.clip_board.specs.declared.entry.Holder.{Holder}
use Rattle.clip_board.specs.declared.entry.Kept.{Kept}
use Rattle.clip_board.specs.declared.entry.Kept.TheVariants.{Data, Delayed}
use Rattle.clip_board.specs.Clipboards.{ClipPast, is_refusal, is_refused, clip_entry, is_by, opened, owner, kept, opened_after, owner_after, kept_after, clip_reply, IsLawful}
use Rattle.clip_board.specs.Laws.{entry_at, before, sets_it, sets, ends_it, ends, last_set, asks, gets, one_format, format_told, told_at, IsLastSet, GetsAfterAsk, HasEnded, MayHaveSet, by_owner, by_itself, after_end, WasSet, WasLastSet}
use Rattle.clip_board.proofs.Answered.{by_thread, set_by, ask_says, value_says, open_says}
use Rattle.clip_board.proofs.Places.{entry_get, before_take, newest, earlier, older, is_newest, within, before_earlier, before_all, entry_before, before_before, length_before, lawful_at, last_within}

-- a call that doesn't set the format leaves data only where they were
keeps_data : (f : ℕ) (call : ClipCall) (k : Option Kept) (v : ℕ) → sets_it f call ≡ false → kept_after f call k ≡ Some (Data v) → k ≡ Some (Data v)
keeps_data f (Set g u) k v h e = sym (ap (λ b. if b then Some (Data u) else k) h) ∙ e
keeps_data f (Delay g) k v h e = by_case (g == f) e
  where
    by_case : (b : Bool) → (if b then Some Delayed else k) ≡ Some (Data v) → k ≡ Some (Data v)
    by_case true x = absurd cc
    by_case false x = x
keeps_data f Empty k v h e = absurd cc
keeps_data f (Open w) k v h e = e
keeps_data f (Get g) k v h e = e
keeps_data f Close k v h e = e

-- and one that sets it leaves what it sets
sets_data : (f : ℕ) (call : ClipCall) (k : Option Kept) (v : ℕ) → sets_it f call ≡ true → kept_after f call k ≡ Some (Data v) → call ≡ Set f v
sets_data f (Set g u) k v h e =
    let same : Some (Data u) ≡ Some (Data v) = sym (ap (λ b. if b then Some (Data u) else k) h) ∙ e in
    let value : u ≡ v = cc in
    ap (λ x. Set x u) (eqb-true g f h) ∙ ap (Set f) value
sets_data f (Delay g) k v h e = absurd (false≢true h)
sets_data f Empty k v h e = absurd (false≢true h)
sets_data f (Open w) k v h e = absurd (false≢true h)
sets_data f (Get g) k v h e = absurd (false≢true h)
sets_data f Close k v h e = absurd (false≢true h)

-- The last `Set` of a format whose data are kept.
record Found (past : ClipPast) (f v : ℕ) : Type 0 where
  pub place : ℕ
  pub setter : Thread
  pub set : entry_at past place ≡ Some (clip_entry setter (Set f v) Done)
  pub last : last_set f past ≡ Some place
  pub below : place < length past

module _ (e : ClipEntry) (past : ClipPast) where
  -- one more that doesn't set the format
  found_earlier : (f v : ℕ) → sets f e ≡ false → Found past f v → Found (e ∷ past) f v
  found_earlier f v h x =
      let below = x.below in
      record { place = x.place; setter = x.setter; set = earlier e past x.place below ∙ x.set; last = ap (λ b. if b then Some (length past) else last_set f past) h ∙ x.last; below = omega (arith, below) }

  -- what the newest entry leaves of a format, where it wasn't refused
  kept_then : (f : ℕ) → is_refused e ≡ false → kept f (e ∷ past) ≡ kept_after f e.call (kept f past)
  kept_then f h = ap (λ r. if r then kept f past else kept_after f e.call (kept f past)) h

  kept_still : (f : ℕ) → is_refused e ≡ true → kept f (e ∷ past) ≡ kept f past
  kept_still f h = ap (λ r. if r then kept f past else kept_after f e.call (kept f past)) h

  sets_not : (f : ℕ) → is_refused e ≡ true → sets f e ≡ false
  sets_not f h = ap (λ r. not r && sets_it f e.call) h

  sets_then : (f : ℕ) (b : Bool) → is_refused e ≡ false → sets_it f e.call ≡ b → sets f e ≡ b
  sets_then f b h k = ap (λ r. not r && sets_it f e.call) h ∙ k

  -- one more that isn't a `Set` of the format leaves data only where they were
  data_earlier : (f v : ℕ) → sets f e ≡ false → kept f (e ∷ past) ≡ Some (Data v) → kept f past ≡ Some (Data v)
  data_earlier f v h k = by_case (is_refused e) refl
    where
      by_case : (r : Bool) → is_refused e ≡ r → kept f past ≡ Some (Data v)
      by_case true r = sym (kept_still f r) ∙ k
      by_case false r = keeps_data f e.call (kept f past) v (sym (sets_then f (sets_it f e.call) r refl) ∙ h) (sym (kept_then f r) ∙ k)

  -- and one that is says them itself
  data_set : (f v : ℕ) → IsLawful (e ∷ past) → sets f e ≡ true → kept f (e ∷ past) ≡ Some (Data v) → (is_refused e ≡ false) × (e.call ≡ Set f v)
  data_set f v l h k =
      let parts = and_parts (not (is_refused e)) (sets_it f e.call) h in
      let done = not-true (is_refused e) parts.0 in
      (done, sets_data f e.call (kept f past) v parts.1 (sym (kept_then f done) ∙ k))

  -- by one who had it open, or the owner's thread
  set_so : (f v : ℕ) → IsLawful (e ∷ past) → is_refused e ≡ false → e.call ≡ Set f v → (e.answer ≡ Done) × ((is_by e.who (opened past) ≡ true) ⊎ (is_by e.who (owner past) ≡ true))
  set_so f v l r c = set_by past e.who f v e.answer l.1 (l.2 ∙ ap (clip_reply past e.who) c) r

  set_entry : (f v : ℕ) → e.call ≡ Set f v → e.answer ≡ Done → e ≡ clip_entry e.who (Set f v) Done
  set_entry f v c d = ap (λ x. clip_entry e.who x e.answer) c ∙ ap (clip_entry e.who (Set f v)) d

  found_here : (f v : ℕ) → IsLawful (e ∷ past) → sets f e ≡ true → kept f (e ∷ past) ≡ Some (Data v) → Found (e ∷ past) f v
  found_here f v l h k =
      let says = data_set f v l h k in
      let done = set_so f v l says.0 says.1 in
      record { place = length past; setter = e.who; set = newest e past ∙ ap (λ x. Some x) (set_entry f v says.1 done.0); last = ap (λ b. if b then Some (length past) else last_set f past) h; below = omega arith }

-- data that are kept were set
found : (past : ClipPast) → IsLawful past → (f v : ℕ) → kept f past ≡ Some (Data v) → Found past f v
found [] l f v k = absurd cc
found (e ∷ past) l f v k = by_case (found past l.0 f v) (sets f e) refl
  where
    by_case : (kept f past ≡ Some (Data v) → Found past f v) → (b : Bool) → sets f e ≡ b → Found (e ∷ past) f v
    by_case rest true h = found_here e past f v l h k
    by_case rest false h = found_earlier e past f v h (rest (data_earlier e past f v h k))

-- Who had it open at an ask still has, and its owner is the same.
record Holds (past : ClipPast) (first : ℕ) (who : Thread) : Type 0 where
  pub by : Holder
  pub stands : opened past ≡ Some by
  pub itself : by.who ≡ who
  pub owned : owner past ≡ owner (before past first)

ended_earlier : (e : ClipEntry) (past : ClipPast) (first place : ℕ) → place ≤ length past → HasEnded past first place → HasEnded (e ∷ past) first place
ended_earlier e past first place short x =
    let b = x.below in
    record { between = x.between; entry = x.entry; stands = earlier e past x.between (omega (arith, short, b)) ∙ x.stands; ends_there = x.ends_there; above = x.above; below = x.below }

ended_later : (past : ClipPast) (first place later : ℕ) → place ≤ later → HasEnded past first place → HasEnded past first later
ended_later past first place later h x = let b = x.below in record { between = x.between; entry = x.entry; stands = x.stands; ends_there = x.ends_there; above = x.above; below = omega (arith, h, b) }

opened_call : (who : Thread) (call : ClipCall) (o : Option Holder) → ends_it call ≡ false → ((w : Hwnd) → call ≡ Open w → ⊥) → opened_after who call o ≡ o
opened_call who (Open w) o h k = absurd (k w refl)
opened_call who Close o h k = absurd (false≢true (sym h))
opened_call who Empty o h k = refl
opened_call who (Set f v) o h k = refl
opened_call who (Delay f) o h k = refl
opened_call who (Get f) o h k = refl

owner_call : (who : Thread) (call : ClipCall) (o former : Option Holder) → ends_it call ≡ false → owner_after who call o former ≡ former
owner_call who Empty o former h = absurd (false≢true (sym h))
owner_call who (Open w) o former h = refl
owner_call who Close o former h = refl
owner_call who (Set f v) o former h = refl
owner_call who (Delay f) o former h = refl
owner_call who (Get f) o former h = refl

module _ (e : ClipEntry) (past : ClipPast) (first : ℕ) (who : Thread) where
  -- the ask itself
  holds_first : (f : ℕ) (w : Hwnd) → IsLawful (e ∷ past) → e ≡ clip_entry who (Get f) (Ask w) → length past ≡ first → Holds (e ∷ past) first who
  holds_first f w l same here =
      let Told : ClipEntry → Type 0 = λ x. x.answer ≡ clip_reply past x.who x.call in
      let said : (kept f past ≡ Some Delayed) × (is_by who (opened past) ≡ true) = ask_says past who f w l.1 (subst Told same l.2) in
      let held = by_thread who (opened past) said.1 in
      let Opens : ClipEntry → Type 0 = λ x. opened (x ∷ past) ≡ opened past in
      let Owns : ClipEntry → Type 0 = λ x. owner (x ∷ past) ≡ owner past in
      record {
        by = held.0;
        stands = subst Opens (sym same) refl ∙ held.1;
        itself = held.2;
        owned = subst Owns (sym same) refl ∙ sym (ap owner (before_earlier e past first (omega (arith, here)) ∙ before_all past first (omega (arith, here))));
      }

  -- an entry that was refused, or neither opens nor ends it
  holds_later : first ≤ length past → opened (e ∷ past) ≡ opened past → owner (e ∷ past) ≡ owner past → Holds past first who → Holds (e ∷ past) first who
  holds_later short o w x = record { by = x.by; stands = o ∙ x.stands; itself = x.itself; owned = w ∙ x.owned ∙ sym (ap owner (before_earlier e past first short)) }

  not_opened : IsLawful (e ∷ past) → is_refused e ≡ false → Holds past first who → (w : Hwnd) → e.call ≡ Open w → ⊥
  not_opened l r x w c = false≢true (sym r ∙ open_says past e.who w x.by e.answer l.1 (l.2 ∙ ap (clip_reply past e.who) c) x.stands)

  holds_next : first < length past → IsLawful (e ∷ past) → Holds past first who → HasEnded (e ∷ past) first (length (e ∷ past)) ⊎ Holds (e ∷ past) first who
  holds_next short l x = by_refusal (is_refused e) refl
    where
      Either : Type 0
      Either = HasEnded (e ∷ past) first (length (e ∷ past)) ⊎ Holds (e ∷ past) first who

      by_end : (b : Bool) → ends_it e.call ≡ b → is_refused e ≡ false → Either
      by_end true h r = inl (record { between = length past; entry = e; stands = newest e past; ends_there = ap (λ q. not q && ends_it e.call) r ∙ h; above = short; below = omega arith })
      by_end false h r =
          inr (holds_later (omega (arith, short))
          (ap (λ q. if q then opened past else opened_after e.who e.call (opened past)) r ∙ opened_call e.who e.call (opened past) h (not_opened l r x))
          (ap (λ q. if q then owner past else owner_after e.who e.call (opened past) (owner past)) r ∙ owner_call e.who e.call (opened past) (owner past) h) x)

      by_refusal : (r : Bool) → is_refused e ≡ r → Either
      by_refusal true r =
          inr (holds_later (omega (arith, short)) (ap (λ q. if q then opened past else opened_after e.who e.call (opened past)) r) (ap (λ q. if q then owner past else owner_after e.who e.call (opened past) (owner past)) r) x)
      by_refusal false r = by_end (ends_it e.call) refl r

-- behind an ask an `Empty` or a `Close` stands, or it is held still
held : (past : ClipPast) → IsLawful past → (first f : ℕ) (who : Thread) (w : Hwnd) → entry_at past first ≡ Some (clip_entry who (Get f) (Ask w)) → HasEnded past first (length past) ⊎ Holds past first who
held [] l first f who w h = absurd cc
held (e ∷ past) l first f who w h = by_case (held past l.0 first f who w) (length past == first) refl
  where
    Either : Type 0
    Either = HasEnded (e ∷ past) first (length (e ∷ past)) ⊎ Holds (e ∷ past) first who

    later : first < length past → HasEnded past first (length past) ⊎ Holds past first who → Either
    later short (inl x) = inl (ended_later (e ∷ past) first (length past) (length (e ∷ past)) (omega arith) (ended_earlier e past first (length past) (omega arith) x))
    later short (inr x) = holds_next e past first who short l x

    by_case : (entry_at past first ≡ Some (clip_entry who (Get f) (Ask w)) → HasEnded past first (length past) ⊎ Holds past first who) → (b : Bool) → (length past == first) ≡ b → Either
    by_case rest true d = inr (holds_first e past first who f w l (is_newest e past first (clip_entry who (Get f) (Ask w)) h d) (eqb-true (length past) first d))
    by_case rest false d = let there = older e past first (clip_entry who (Get f) (Ask w)) h d in later (within past first (clip_entry who (Get f) (Ask w)) there) (rest there)

-- who may set where it is held still
allowed_held : (past : ClipPast) (e : ClipEntry) (first : ℕ) (who : Thread) → first < length past → Holds past first who → (is_by e.who (opened past) ≡ true) ⊎ (is_by e.who (owner past) ≡ true) → MayHaveSet (e ∷ past) first (length past) who e.who
allowed_held past e first who short x (inl o) =
    let other = by_thread e.who (opened past) o in
    let same : Some other.0 ≡ Some x.by = sym other.1 ∙ x.stands in
    let one : other.0 ≡ x.by = cc in
    by_itself (sym other.2 ∙ ap (λ (h : Holder). h.who) one ∙ x.itself)
allowed_held past e first who short x (inr o) =
    let other = by_thread e.who (owner past) o in
    by_owner other.0 (ap owner (before_earlier e past first (omega (arith, short))) ∙ sym x.owned ∙ other.1) (sym other.2)

allowed_earlier : (e : ClipEntry) (past : ClipPast) (first place : ℕ) (who setter : Thread) → first ≤ length past → place ≤ length past → MayHaveSet past first place who setter → MayHaveSet (e ∷ past) first place who setter
allowed_earlier e past first place who setter short fits (by_owner h o s) = by_owner h (ap owner (before_earlier e past first short) ∙ o) s
allowed_earlier e past first place who setter short fits (by_itself s) = by_itself s
allowed_earlier e past first place who setter short fits (after_end x) = after_end (ended_earlier e past first place fits x)

-- the newest entry is no ask where data are kept
no_ask : (e : ClipEntry) (past : ClipPast) (f v : ℕ) (who : Thread) (w : Hwnd) → IsLawful (e ∷ past) → e ≡ clip_entry who (Get f) (Ask w) → kept f (e ∷ past) ≡ Some (Data v) → ⊥
no_ask e past f v who w l same k =
    let Told : ClipEntry → Type 0 = λ x. x.answer ≡ clip_reply past x.who x.call in
    let Keeps : ClipEntry → Type 0 = λ x. kept f (x ∷ past) ≡ Some (Data v) in
    let said : (kept f past ≡ Some Delayed) × (is_by who (opened past) ≡ true) = ask_says past who f w l.1 (subst Told same l.2) in
    let there : kept f past ≡ Some (Data v) = subst Keeps same k in
    let both : Some Delayed ≡ Some (Data v) = sym said.0 ∙ there in absurd cc

-- The last `Set` behind an ask, whose data are kept, and who may have made it.
abbrev FoundBehind : ClipPast → ℕ → ℕ → ℕ → Thread → Type 0
FoundBehind past first f v who = (x : Found past f v) × (first < x.place) × MayHaveSet past first x.place who x.setter

found_behind : (past : ClipPast) → IsLawful past → (first f v : ℕ) (who : Thread) (w : Hwnd) → entry_at past first ≡ Some (clip_entry who (Get f) (Ask w)) → kept f past ≡ Some (Data v) → FoundBehind past first f v who
unfolding found_here found_earlier
found_behind [] l first f v who w h k = absurd cc
found_behind (e ∷ past) l first f v who w h k = by_place (found_behind past l.0 first f v who w) (length past == first) refl
  where
    ask : ClipEntry
    ask = clip_entry who (Get f) (Ask w)

    allowed_here : first < length past → HasEnded past first (length past) ⊎ Holds past first who → (is_by e.who (opened past) ≡ true) ⊎ (is_by e.who (owner past) ≡ true) → MayHaveSet (e ∷ past) first (length past) who e.who
    allowed_here short (inl x) o = after_end (ended_earlier e past first (length past) (omega arith) x)
    allowed_here short (inr x) o = allowed_held past e first who short x o

    here : (there : entry_at past first ≡ Some ask) → sets f e ≡ true → FoundBehind (e ∷ past) first f v who
    here there b =
        let says = data_set e past f v l b k in
        let done = set_so e past f v l says.0 says.1 in
        let short = within past first ask there in
        (found_here e past f v l b k, short, allowed_here short (held past l.0 first f who w there) done.1)

    below : (there : entry_at past first ≡ Some ask) → sets f e ≡ false → FoundBehind past first f v who → FoundBehind (e ∷ past) first f v who
    below there b x =
        let short = within past first ask there in
        let fits = x.0.below in
        (found_earlier e past f v b x.0, x.1, allowed_earlier e past first x.0.place who x.0.setter (omega (arith, short)) (omega (arith, fits)) x.2)

    Rest : Type 0
    Rest = entry_at past first ≡ Some ask → kept f past ≡ Some (Data v) → FoundBehind past first f v who

    by_set : Rest → (there : entry_at past first ≡ Some ask) → (b : Bool) → sets f e ≡ b → FoundBehind (e ∷ past) first f v who
    by_set rest there true b = here there b
    by_set rest there false b = below there b (rest there (data_earlier e past f v b k))

    by_place : Rest → (b : Bool) → (length past == first) ≡ b → FoundBehind (e ∷ past) first f v who
    by_place rest true d = absurd (no_ask e past f v who w l (is_newest e past first ask h d) k)
    by_place rest false d = by_set rest (older e past first ask h d) (sets f e) refl

module _ (past : ClipPast) (l : IsLawful past) where
  -- at a `Get` that was told data they were kept
  kept_there : (place f v : ℕ) (who : Thread) → entry_at past place ≡ Some (clip_entry who (Get f) (Value v)) → kept f (before past place) ≡ Some (Data v)
  kept_there place f v who h =
      let at = lawful_at past l place (clip_entry who (Get f) (Value v)) h in
      value_says (before past place) who f v at.1 at.2

  -- and were set last by the last `Set` before
  pub one_get : (place f v : ℕ) (who : Thread) → entry_at past place ≡ Some (clip_entry who (Get f) (Value v)) → WasLastSet past f v place
  one_get place f v who h =
      let at = lawful_at past l place (clip_entry who (Get f) (Value v)) h in
      let x = found (before past place) at.0 f v (kept_there place f v who h) in
      let short = within past place (clip_entry who (Get f) (Value v)) h in
      let fits : x.place < place = subst (λ n. x.place < n) (length_before past place (omega (arith, short))) x.below in
      (x.place, x.setter, record { set = sym (entry_before past place x.place fits) ∙ x.set; last = x.last; below = fits })

  ended_before : (first second place : ℕ) → place ≤ second → HasEnded (before past second) first place → HasEnded past first place
  ended_before first second place fits x = let b = x.below in record { between = x.between; entry = x.entry; stands = sym (entry_before past second x.between (omega (arith, fits, b))) ∙ x.stands; ends_there = x.ends_there; above = x.above; below = x.below }

  allowed_before : (first second place : ℕ) (who setter : Thread) → first ≤ second → place ≤ second → MayHaveSet (before past second) first place who setter → MayHaveSet past first place who setter
  allowed_before first second place who setter early fits (by_owner h o s) = by_owner h (sym (ap owner (before_before past second first early)) ∙ o) s
  allowed_before first second place who setter early fits (by_itself s) = by_itself s
  allowed_before first second place who setter early fits (after_end x) = after_end (ended_before first second place fits x)

  -- a get that comes after an ask was told what one set who may have
  was_set : (first second : ℕ) → (g : GetsAfterAsk past first second) → (place : ℕ) × (last_set g.format (before past second) ≡ Some place) × WasSet past first second place
  was_set first second g =
      let e = clip_entry g.who (Get g.format) (Value g.value) in
      let at = lawful_at past l second e g.got in
      let early = g.below in
      let x = found_behind (before past second) at.0 first g.format g.value g.who g.window (entry_before past second first early ∙ g.asked) (kept_there second g.format g.value g.who g.got) in
      let short = within past second e g.got in
      let fits : x.0.place < second = subst (λ n. x.0.place < n) (length_before past second (omega (arith, short))) x.0.below in (
        x.0.place,
        x.0.last,
        record {
          gets = g;
          setter = x.0.setter;
          set = record { set = sym (entry_before past second x.0.place fits) ∙ x.0.set; last = x.0.last; below = fits };
          above = x.1;
          allowed = allowed_before first second x.0.place g.who x.0.setter (omega (arith, early)) (omega (arith, fits)) x.2;
        },
      )

asks_so : (call : ClipCall) (a : ClipAnswer) (f : ℕ) → asks call a ≡ Some f → (w : Hwnd) × (call ≡ Get f) × (a ≡ Ask w)
asks_so (Get g) (Ask w) f h = let same : g ≡ f = cc in (w, ap Get same, refl)
asks_so call a f h = absurd cc

gets_so : (call : ClipCall) (a : ClipAnswer) (f : ℕ) → gets call a ≡ Some f → (v : ℕ) × (call ≡ Get f) × (a ≡ Value v)
gets_so (Get g) (Value v) f h = let same : g ≡ f = cc in (v, ap Get same, refl)
gets_so call a f h = absurd cc

one_so : (o p : Option ℕ) (b : Bool) (f : ℕ) → one_format o p b ≡ Some f → (o ≡ Some f) × (p ≡ Some f) × (b ≡ true)
one_so (Some g) (Some h) b f e = by_case ((g == h) && b) refl e
  where
    by_case : (t : Bool) → ((g == h) && b) ≡ t → (if t then Some g else None) ≡ Some f → (Some g ≡ Some f) × (Some h ≡ Some f) × (b ≡ true)
    by_case true d x = let parts = and_parts (g == h) b d in (x, sym (ap (λ y. Some y) (eqb-true g h parts.0)) ∙ x, parts.1)
    by_case false d x = absurd cc
one_so (Some g) None b f e = absurd cc
one_so None p b f e = absurd cc

one_thread : (a b : Thread) → (a.0 == b.0) ≡ true → a ≡ b
one_thread a b h = ap (λ n. record { 0 = n }) (eqb-true a.0 b.0 h)

told_parts : (a g : Option ClipEntry) (b : Bool) (f : ℕ) → told_at a g b ≡ Some f → (x : ClipEntry) × (y : ClipEntry) × (a ≡ Some x) × (g ≡ Some y) × (b ≡ true) × (format_told x y ≡ Some f)
told_parts (Some x) (Some y) true f h = (x, y, refl, refl, refl, h)
told_parts (Some x) (Some y) false f h = absurd cc
told_parts (Some x) None b f h = absurd cc
told_parts None g b f h = absurd cc

entry_so : (e : ClipEntry) (who : Thread) (call : ClipCall) (a : ClipAnswer) → e.who ≡ who → e.call ≡ call → e.answer ≡ a → e ≡ clip_entry who call a
entry_so e who call a w c d = ap (λ x. clip_entry x e.call e.answer) w ∙ ap (λ x. clip_entry who x e.answer) c ∙ ap (clip_entry who call) d

-- what the code finds at two places is a get that comes after an ask
pub told_sound : (past : ClipPast) (first second f : ℕ) → told_at (entry_at past first) (entry_at past second) (nat_lt first second) ≡ Some f → (g : GetsAfterAsk past first second) × (g.format ≡ f)
told_sound past first second f h =
    let p = told_parts (entry_at past first) (entry_at past second) (nat_lt first second) f h in
    let x = p.0 in
    let y = p.1 in
    let one = one_so (asks x.call x.answer) (gets y.call y.answer) (x.who.0 == y.who.0) f p.5 in
    let a = asks_so x.call x.answer f one.0 in
    let b = gets_so y.call y.answer f one.1 in (
      record {
        who = x.who;
        format = f;
        window = a.0;
        value = b.0;
        asked = p.2 ∙ ap (λ e. Some e) (entry_so x x.who (Get f) (Ask a.0) refl a.1 a.2);
        got = p.3 ∙ ap (λ e. Some e) (entry_so y x.who (Get f) (Value b.0) (sym (one_thread x.who y.who one.2)) b.1 b.2);
        below = ltb-true first second p.4;
      },
      refl,
    )

-- and each is found
pub told_complete : (past : ClipPast) (first second : ℕ) (g : GetsAfterAsk past first second) → told_at (entry_at past first) (entry_at past second) (nat_lt first second) ≡ Some g.format
told_complete past first second g =
    let a = clip_entry g.who (Get g.format) (Ask g.window) in
    let b = clip_entry g.who (Get g.format) (Value g.value) in
    ap (λ o. told_at o (entry_at past second) (nat_lt first second)) g.asked ∙ ap (λ o. told_at (Some a) o (nat_lt first second)) g.got ∙ ap (told_at (Some a) (Some b)) (lt-ltb first second g.below)
    ∙ ap (λ t. if t && (g.who.0 == g.who.0) then Some g.format else None) (eq-eqb g.format g.format refl) ∙ ap (λ t. if true && t then Some g.format else None) (eq-eqb g.who.0 g.who.0 refl)

module _ (past : ClipPast) (history : List ClipEntry) (same : history ≡ reverse past) (first second : ℕ) where
  -- what stands in the history stands in its past
  get_same : (k : ℕ) → slice_get history k ≡ entry_at past k
  get_same k = ap (λ l. slice_get l k) same ∙ entry_get past k

  told_same : told_at (slice_get history first) (slice_get history second) (nat_lt first second) ≡ told_at (entry_at past first) (entry_at past second) (nat_lt first second)
  told_same = ap (λ o. told_at o (slice_get history second) (nat_lt first second)) (get_same first) ∙ ap (λ o. told_at (entry_at past first) o (nat_lt first second)) (get_same second)

  -- where nothing is found, no such gets are there
  pub none_found : (r : Option ℕ) → r ≡ told_at (slice_get history first) (slice_get history second) (nat_lt first second) → r ≡ None → GetsAfterAsk past first second → ⊥
  none_found r e n g = let both : None ≡ Some g.format = sym n ∙ e ∙ told_same ∙ told_complete past first second g in absurd cc

  -- and where a format is found, the place of its last `Set` is that of one who may have made it
  pub place_found : IsLawful past → (f : ℕ) (r s : Option ℕ) → r ≡ told_at (slice_get history first) (slice_get history second) (nat_lt first second) → r ≡ Some f → s ≡ last_set f (reverse (take second history))
      → (place : ℕ) × (s ≡ Some place) × WasSet past first second place × GetsAfterAsk past first second
  place_found l f r s e n t =
      let g = told_sound past first second f (sym told_same ∙ sym e ∙ n) in
      let w = was_set past l first second g.0 in
      (w.0, t ∙ ap (λ y. last_set f (reverse (take second y))) same ∙ ap (last_set f) (before_take past second) ∙ ap (λ y. last_set y (before past second)) (sym g.1) ∙ w.1, w.2, g.0)

  -- the second place is one of the history
  pub second_fits : (f : ℕ) (r : Option ℕ) → r ≡ told_at (slice_get history first) (slice_get history second) (nat_lt first second) → r ≡ Some f → second ≡ length (take second history)
  second_fits f r e n =
      let p = told_parts (slice_get history first) (slice_get history second) (nat_lt first second) f (sym e ∙ n) in
      let fits = slice_get_within history second p.1 p.3 in
      sym (length-take-le second history (omega (arith, fits)))
