-- What may still stand behind good lines of a log, and that something always may.
use Rattle.std.proofs.Common.{◌≡◌, ℕ, zero, suc, ◌+◌, ◌*◌, Bool, true, false, List, [], ◌∷◌, ◌++◌, length, Option, Some, None, refl, ap, sym, ◌∙◌, append_assoc, drop, subst, arith, inl, inr}
use Rattle.std.specs.Prelude.{codes, map, is_some, if◌then◌else◌, IfSome}
use Rattle.std.specs.List.{flat_map, AllByRecursion}
use Rattle.std.proofs.lemmas.List.{length-append, length-drop, length-take, map-append, take_at, drop_at}
use Rattle.user_model.specs.declared.entry.Entry.{Entry}
use Rattle.user_model.specs.declared.entry.SendCount.{SendCount}
use Rattle.script_tree.specs.Tree.{Tree}
use Rattle.script_lines.specs.Known.{known_of}
use Rattle.script_lines.specs.LineReading.{texts_of}
use Rattle.script_lines.specs.LineTexts.{joined}
use Rattle.script_lines.specs.NameLimits.{AreKnown}
use Rattle.log_text.specs.declared.end.End.{End}
use Rattle.log_text.specs.declared.end.End.TheVariants as ends
use Rattle.log_text.specs.Frames.{rows}
use Rattle.log_read.specs.declared.log.Extra.{Extra}
use Rattle.log_read.specs.declared.phase.Phase.{Phase}
use Rattle.log_read.specs.declared.phase.Phase.TheVariants as phases
use Rattle.log_read.specs.Grammar.{Begins, with_rows, below_entry, IsRowLine, IsStep, Leads}
use Rattle.log_read.specs.Limits.{keeps_frame, IsColour, IsFrame, IsEntry, IsLogEntry, IsExtra, AreCounts, IsLog}
use Rattle.log_read.specs.Logs.{LogEntryTree, LogTree, spelling}
use Rattle.log_read.specs.Words.{entry_words, row_words, frame_words, entries_words, end_words, extra_words, counts_words, inner_words, log_words}
use Rattle.log_read.proofs.LineWords.{Words}
use Rattle.log_read.proofs.ListLaws.{first_same, rest_same, all_append, all_take, all_drop}
use Rattle.log_read.proofs.LogParts.{log_texts}
use Rattle.log_read.proofs.OneLog.{some_same}

abbrev pub Lines : Type 0
Lines = List (List ℕ)

-- ---- what is left of a log

-- the colours of a row
pub record IsRow (s : Tree) (colours : List ℕ) : Type 0 where
  pub size : length colours ≡ s.width
  pub below : AllByRecursion IsColour colours

-- the extra lines, and the counts of sends
pub record ExtrasRest (s : Tree) (end : End) (texts : Lines) : Type 0 where
  pub extras : List Extra
  pub sends : SendCount
  pub fits : AllByRecursion (IsExtra s end) extras
  pub counts : AreCounts sends
  pub lines : texts ≡ map joined (map (extra_words s) extras ++ counts_words sends ∷ [])

-- all lines behind the entries
abbrev behind_words : Tree → End → List Extra → SendCount → List Words
behind_words s end extras sends = end_words end ∷ (map (extra_words s) extras ++ counts_words sends ∷ [])

-- entries, the end, and what is behind it
pub record EntriesRest (s : Tree) (texts : Lines) : Type 0 where
  pub entries : List LogEntryTree
  pub end : End
  pub extras : List Extra
  pub sends : SendCount
  pub fits : AllByRecursion (IsLogEntry s) entries
  pub extras_fit : AllByRecursion (IsExtra s end) extras
  pub counts : AreCounts sends
  pub lines : texts ≡ map joined (entries_words s entries ++ behind_words s end extras sends)

-- so many rows of a frame, and then that
pub record RowsRest (s : Tree) (n : ℕ) (texts : Lines) : Type 0 where
  pub colours : Lines
  pub many : length colours ≡ n
  pub fits : AllByRecursion (IsRow s) colours
  pub rest : Lines
  pub behind : EntriesRest s rest
  pub lines : texts ≡ map joined (map row_words colours) ++ rest

pub record LogRest (s : Tree) (texts : Lines) : Type 0 where
  pub log : LogTree
  pub is_log : IsLog s log
  pub lines : texts ≡ map joined (log_words s log)

abbrev pub Rest : Tree → Phase → Lines → Type 0
Rest s phases.First texts = LogRest s texts
Rest s phases.Entries texts = EntriesRest s texts
Rest s (phases.Rows more) texts = RowsRest s (suc more) texts
Rest s (phases.Extras end) texts = ExtrasRest s end texts
Rest s phases.Over texts = texts ≡ []

-- ---- rows

no_rows : (s : Tree) (texts colours rest : Lines) → length colours ≡ 0 → texts ≡ map joined (map row_words colours) ++ rest → EntriesRest s rest → EntriesRest s texts
no_rows s texts [] rest n e behind = subst (EntriesRest s) (sym e) behind
no_rows s texts (x ∷ colours) rest n e behind = absurd (omega (arith, n))

to_rows : (s : Tree) (n : ℕ) (texts : Lines) → RowsRest s n texts → Rest s (with_rows n) texts
to_rows s zero texts r = no_rows s texts r.colours r.rest r.many r.lines r.behind
to_rows s (suc n) texts r = r

from_rows : (s : Tree) (n : ℕ) (texts : Lines) → Rest s (with_rows n) texts → RowsRest s n texts
from_rows s zero texts behind = record { colours = []; many = refl; fits = tt; rest = texts; behind = behind; lines = refl }
from_rows s (suc n) texts r = r

-- rows one behind the other
abbrev flat : Lines → List ℕ
flat rs = flat_map (λ (r : List ℕ). r) rs

module _ (s : Tree) where
  flat_size : (h : ℕ) (rs : Lines) → length rs ≡ h → AllByRecursion (IsRow s) rs → length (flat rs) ≡ h * s.width
  flat_size zero [] n fits = omega arith
  flat_size zero (r ∷ rs) n fits = absurd (omega (arith, n))
  flat_size (suc h) [] n fits = absurd (omega (arith, n))
  flat_size (suc h) (r ∷ rs) n fits =
      let more : suc h * s.width ≡ h * s.width + s.width = omega arith in
      omega (arith, more, flat_size h rs (omega (arith, n)) fits.1, length-append r (flat rs), fits.0.size)

  flat_below : (rs : Lines) → AllByRecursion (IsRow s) rs → AllByRecursion IsColour (flat rs)
  flat_below [] fits = tt
  flat_below (r ∷ rs) fits = all_append IsColour r (flat rs) fits.0.below (flat_below rs fits.1)

  flat_rows : (h : ℕ) (rs : Lines) → length rs ≡ h → AllByRecursion (IsRow s) rs → rows s.width h (flat rs) ≡ rs
  flat_rows zero [] n fits = refl
  flat_rows zero (r ∷ rs) n fits = absurd (omega (arith, n))
  flat_rows (suc h) [] n fits = absurd (omega (arith, n))
  flat_rows (suc h) (r ∷ rs) n fits =
      ap (λ (l : List ℕ). l ∷ rows s.width h (drop s.width (r ++ flat rs))) (take_at r (flat rs) s.width fits.0.size)
      ∙ ap (λ (l : List ℕ). r ∷ rows s.width h l) (drop_at r (flat rs) s.width fits.0.size)
      ∙ ap (λ (l : Lines). r ∷ l) (flat_rows h rs (omega (arith, n)) fits.1)

  rows_many : (w h : ℕ) (xs : List ℕ) → length (rows w h xs) ≡ h
  rows_many w zero xs = refl
  rows_many w (suc h) xs = ap suc (rows_many w h (drop w xs))

  rows_fit : (h : ℕ) (xs : List ℕ) → length xs ≡ h * s.width → AllByRecursion IsColour xs → AllByRecursion (IsRow s) (rows s.width h xs)
  rows_fit zero xs size all = tt
  rows_fit (suc h) xs size all =
      let more : suc h * s.width ≡ h * s.width + s.width = omega arith in (
        record { size = omega (arith, length-take s.width xs, size, more); below = all_take IsColour s.width xs all },
        rows_fit h (drop s.width xs) (omega (arith, length-drop s.width xs, size, more)) (all_drop IsColour s.width xs all),
      )

-- ---- one line more before what is left

module _ (s : Tree) where
  -- the lines of a frame before those of other entries
  framed : (frame entries behind : List Words) → map joined ((frame ++ entries) ++ behind) ≡ map joined frame ++ map joined (entries ++ behind)
  framed frame entries behind = ap (map joined) (append_assoc frame entries behind) ∙ map-append joined frame (entries ++ behind)

  entry_before : (b : Bool) (e : Entry) (ts : Lines) → IsEntry s e → keeps_frame e.answer ≡ b → Rest s (if b then with_rows s.height else phases.Entries) ts → EntriesRest s (joined (entry_words s e) ∷ ts)
  entry_before true e ts fits kept rest =
      let r = from_rows s s.height ts rest in
      let old = r.behind in
      let behind : List Words = behind_words s old.end old.extras old.sends in
      let same : frame_words s (Some (flat r.colours)) ≡ map row_words r.colours = ap (map row_words) (flat_rows s s.height r.colours r.many r.fits) in
      record {
        entries = record { entry = e; frame = Some (flat r.colours) } ∷ old.entries;
        end = old.end;
        extras = old.extras;
        sends = old.sends;
        fits = (record { entry = fits; kept = sym kept; frame = record { size = flat_size s s.height r.colours r.many r.fits; below = flat_below s r.colours r.fits } }, old.fits);
        extras_fit = old.extras_fit;
        counts = old.counts;
        lines = ap (λ (l : Lines). joined (entry_words s e) ∷ l)
            (r.lines ∙ ap (λ (l : Lines). map joined (map row_words r.colours) ++ l) old.lines
            ∙ ap (λ (l : List Words). map joined l ++ map joined (entries_words s old.entries ++ behind)) (sym same)
            ∙ sym (framed (frame_words s (Some (flat r.colours))) (entries_words s old.entries) behind));
      }
  entry_before false e ts fits kept old = record {
    entries = record { entry = e; frame = None } ∷ old.entries;
    end = old.end;
    extras = old.extras;
    sends = old.sends;
    fits = (record { entry = fits; kept = sym kept; frame = tt }, old.fits);
    extras_fit = old.extras_fit;
    counts = old.counts;
    lines = ap (λ (l : Lines). joined (entry_words s e) ∷ l) old.lines;
  }

  end_before : (end : End) (ts : Lines) → ExtrasRest s end ts → EntriesRest s (joined (end_words end) ∷ ts)
  end_before end ts r = record {
    entries = [];
    end = end;
    extras = r.extras;
    sends = r.sends;
    fits = tt;
    extras_fit = r.fits;
    counts = r.counts;
    lines = ap (λ (l : Lines). joined (end_words end) ∷ l) r.lines;
  }

  row_before : (n : ℕ) (text : List ℕ) (ts : Lines) → IsRowLine s text → RowsRest s n ts → RowsRest s (suc n) (text ∷ ts)
  row_before n text ts row r = record {
    colours = row.colours ∷ r.colours;
    many = ap suc r.many;
    fits = (record { size = row.size; below = row.below }, r.fits);
    rest = r.rest;
    behind = r.behind;
    lines = ap (λ (t : List ℕ). t ∷ ts) row.line ∙ ap (λ (l : Lines). joined (row_words row.colours) ∷ l) r.lines;
  }

  extra_before : (end : End) (x : Extra) (ts : Lines) → IsExtra s end x → ExtrasRest s end ts → ExtrasRest s end (joined (extra_words s x) ∷ ts)
  extra_before end x ts fits r = record {
    extras = x ∷ r.extras;
    sends = r.sends;
    fits = (fits, r.fits);
    counts = r.counts;
    lines = ap (λ (l : Lines). joined (extra_words s x) ∷ l) r.lines;
  }

  counts_before : (end : End) (c : SendCount) (ts : Lines) → AreCounts c → ts ≡ [] → ExtrasRest s end (joined (counts_words c) ∷ ts)
  counts_before end c ts fits none = record { extras = []; sends = c; fits = tt; counts = fits; lines = ap (λ (l : Lines). joined (counts_words c) ∷ l) none }

  -- the lines of a log behind its first one
  inner_same : (es : List LogEntryTree) (end : End) (xs : List Extra) (c : SendCount) → (entries_words s es ++ (end_words end ∷ map (extra_words s) xs)) ++ counts_words c ∷ [] ≡ entries_words s es ++ behind_words s end xs c
  inner_same es end xs c = append_assoc (entries_words s es) (end_words end ∷ map (extra_words s) xs) (counts_words c ∷ [])

  log_before : (ts : Lines) → EntriesRest s ts → LogRest s (codes "log 1" ∷ ts)
  log_before ts r = record {
    log = record { entries = r.entries; end = r.end; extras = r.extras; sends = r.sends };
    is_log = record { entries = r.fits; extras = r.extras_fit; sends = r.counts };
    lines = ap (λ (l : Lines). codes "log 1" ∷ l) (r.lines ∙ ap (map joined) (sym (inner_same r.entries r.end r.extras r.sends)));
  }

  -- the text of a line, and what may stand behind it
  told : (p q next : Phase) (text line : List ℕ) (ts : Lines) → text ≡ line → next ≡ q → Rest s next ts → (Rest s q ts → Rest s p (line ∷ ts)) → Rest s p (text ∷ ts)
  told p q next text line ts e n r f = subst (λ (t : List ℕ). Rest s p (t ∷ ts)) (sym e) (f (subst (λ (x : Phase). Rest s x ts) n r))

  pub before : (p : Phase) (text : List ℕ) (next : Phase) (ts : Lines) → IsStep s p text next → Rest s next ts → Rest s p (text ∷ ts)
  before phases.First text next ts (e, n) r = told phases.First phases.Entries next text (codes "log 1") ts e n r (log_before ts)
  before phases.Entries text next ts (inl x) r = told phases.Entries (below_entry s x.entry.answer) next text (joined (entry_words s x.entry)) ts x.line x.opens r (entry_before (keeps_frame x.entry.answer) x.entry ts x.fits refl)
  before phases.Entries text next ts (inr x) r = told phases.Entries (phases.Extras x.end) next text (joined (end_words x.end)) ts x.line x.opens r (end_before x.end ts)
  before (phases.Rows more) text next ts (row, n) r = row_before more text ts row (from_rows s more ts (subst (λ (x : Phase). Rest s x ts) n r))
  before (phases.Extras end) text next ts (inl x) r = told (phases.Extras end) (phases.Extras end) next text (joined (extra_words s x.extra)) ts x.line x.opens r (extra_before end x.extra ts x.fits)
  before (phases.Extras end) text next ts (inr x) r = told (phases.Extras end) phases.Over next text (joined (counts_words x.sends)) ts x.line x.opens r (counts_before end x.sends ts x.fits)
  before phases.Over text next ts none r = absurd none

  -- ---- the first line of what is left

  abbrev pub Goes : Phase → List ℕ → Lines → Type 0
  Goes p text ts = (next : Phase) × IsStep s p text next × Rest s next ts

  log_opened : (text : List ℕ) (ts : Lines) → LogRest s (text ∷ ts) → Goes phases.First text ts
  log_opened text ts r =
      let l = r.log in
      let first : List ℕ = joined (codes "log" ∷ codes "1" ∷ []) in
      let inner : Lines = map joined (inner_words s l ++ counts_words l.sends ∷ []) in (
        phases.Entries,
        (first_same text first ts inner r.lines, refl),
        record {
          entries = l.entries;
          end = l.end;
          extras = l.extras;
          sends = l.sends;
          fits = r.is_log.entries;
          extras_fit = r.is_log.extras;
          counts = r.is_log.sends;
          lines = rest_same text first ts inner r.lines ∙ ap (map joined) (inner_same l.entries l.end l.extras l.sends);
        },
      )

  frame_opened : (o : Option (List ℕ)) (b : Bool) (ts : Lines) (entries behind : List Words) → is_some o ≡ b → IfSome o (IsFrame s) → ts ≡ map joined ((frame_words s o ++ entries) ++ behind) → EntriesRest s (map joined (entries ++ behind)) → Rest s (if b then with_rows s.height else phases.Entries) ts
  frame_opened None true ts entries behind kept fits e rest = absurd (cc kept)
  frame_opened None false ts entries behind kept fits e rest = subst (EntriesRest s) (sym e) rest
  frame_opened (Some colours) true ts entries behind kept fits e rest = to_rows s s.height ts (record {
    colours = rows s.width s.height colours;
    many = rows_many s s.width s.height colours;
    fits = rows_fit s s.height colours fits.size fits.below;
    rest = map joined (entries ++ behind);
    behind = rest;
    lines = e ∙ framed (frame_words s (Some colours)) entries behind;
  })
  frame_opened (Some colours) false ts entries behind kept fits e rest = absurd (cc kept)

  entries_opened : (text : List ℕ) (ts : Lines) (es : List LogEntryTree) (end : End) (xs : List Extra) (c : SendCount) → AllByRecursion (IsLogEntry s) es → AllByRecursion (IsExtra s end) xs → AreCounts c → text ∷ ts ≡ map joined (entries_words s es ++ behind_words s end xs c) → Goes phases.Entries text ts
  entries_opened text ts [] end xs c fits extras_fit counts e =
      let last : Lines = map joined (map (extra_words s) xs ++ counts_words c ∷ []) in (
        phases.Extras end,
        inr (record { end = end; line = first_same text (joined (end_words end)) ts last e; opens = refl }),
        record {
          extras = xs;
          sends = c;
          fits = extras_fit;
          counts = counts;
          lines = rest_same text (joined (end_words end)) ts last e;
        },
      )
  entries_opened text ts (x ∷ es) end xs c fits extras_fit counts e =
      let behind : List Words = behind_words s end xs c in
      let line : List ℕ = joined (entry_words s x.entry) in
      let more : Lines = map joined ((frame_words s x.frame ++ entries_words s es) ++ behind) in
      let rest : EntriesRest s (map joined (entries_words s es ++ behind)) = record { entries = es; end = end; extras = xs; sends = c; fits = fits.1; extras_fit = extras_fit; counts = counts; lines = refl } in (
        below_entry s x.entry.answer,
        inl (record { entry = x.entry; fits = fits.0.entry; line = first_same text line ts more e; opens = refl }),
        frame_opened x.frame (keeps_frame x.entry.answer) ts (entries_words s es) behind fits.0.kept fits.0.frame (rest_same text line ts more e) rest,
      )

  rows_opened : (n : ℕ) (text : List ℕ) (ts colours rest : Lines) → length colours ≡ suc n → AllByRecursion (IsRow s) colours → EntriesRest s rest → text ∷ ts ≡ map joined (map row_words colours) ++ rest → Goes (phases.Rows n) text ts
  rows_opened n text ts [] rest many fits behind e = absurd (omega (arith, many))
  rows_opened n text ts (r ∷ colours) rest many fits behind e =
      let more : Lines = map joined (map row_words colours) ++ rest in (
        with_rows n,
        (record { colours = r; size = fits.0.size; below = fits.0.below; line = first_same text (joined (row_words r)) ts more e }, refl),
        to_rows s n ts (record {
          colours = colours;
          many = omega (arith, many);
          fits = fits.1;
          rest = rest;
          behind = behind;
          lines = rest_same text (joined (row_words r)) ts more e;
        }),
      )

  extras_opened : (end : End) (text : List ℕ) (ts : Lines) (xs : List Extra) (c : SendCount) → AllByRecursion (IsExtra s end) xs → AreCounts c → text ∷ ts ≡ map joined (map (extra_words s) xs ++ counts_words c ∷ []) → Goes (phases.Extras end) text ts
  extras_opened end text ts [] c fits counts e = (phases.Over, inr (record { sends = c; fits = counts; line = first_same text (joined (counts_words c)) ts [] e; opens = refl }), rest_same text (joined (counts_words c)) ts [] e)
  extras_opened end text ts (x ∷ xs) c fits counts e =
      let more : Lines = map joined (map (extra_words s) xs ++ counts_words c ∷ []) in (
        phases.Extras end,
        inl (record { extra = x; fits = fits.0; line = first_same text (joined (extra_words s x)) ts more e; opens = refl }),
        record {
          extras = xs;
          sends = c;
          fits = fits.1;
          counts = counts;
          lines = rest_same text (joined (extra_words s x)) ts more e;
        },
      )

  pub opened : (p : Phase) (text : List ℕ) (ts : Lines) → Rest s p (text ∷ ts) → Goes p text ts
  opened phases.First text ts r = log_opened text ts r
  opened phases.Entries text ts r = entries_opened text ts r.entries r.end r.extras r.sends r.fits r.extras_fit r.counts r.lines
  opened (phases.Rows more) text ts r = rows_opened more text ts r.colours r.rest r.many r.fits r.behind r.lines
  opened (phases.Extras end) text ts r = extras_opened end text ts r.extras r.sends r.fits r.counts r.lines
  opened phases.Over text ts r = absurd (cc r)

  -- ---- something always may stand

  abbrev no_sends : SendCount
  no_sends = record { begun = 0; entered = 0; by_proc = 0; by_reply = 0; by_loss = 0; by_timeout = 0; unfinished = 0 }

  no_counts : AreCounts no_sends
  no_counts = record { begun = omega arith; entered = omega arith; by_proc = omega arith; by_reply = omega arith; by_loss = omega arith; by_timeout = omega arith; unfinished = omega arith }

  abbrev zeros : ℕ → List ℕ
  zeros zero = []
  zeros (suc n) = 0 ∷ zeros n

  zeros_size : (n : ℕ) → length (zeros n) ≡ n
  zeros_size zero = refl
  zeros_size (suc n) = ap suc (zeros_size n)

  zeros_below : (n : ℕ) → AllByRecursion IsColour (zeros n)
  zeros_below zero = tt
  zeros_below (suc n) = (omega arith, zeros_below n)

  abbrev Ends : Phase → Type 0
  Ends p = (texts : Lines) × Rest s p texts

  extras_end : (end : End) → Ends (phases.Extras end)
  extras_end end = (joined (counts_words no_sends) ∷ [], counts_before end no_sends [] no_counts refl)

  entries_end : Ends phases.Entries
  entries_end = (joined (end_words ends.Done) ∷ (extras_end ends.Done).0, end_before ends.Done (extras_end ends.Done).0 (extras_end ends.Done).1)

  blank : IsRowLine s (joined (row_words (zeros s.width)))
  blank = record { colours = zeros s.width; size = zeros_size s.width; below = zeros_below s.width; line = refl }

  rows_end : (n : ℕ) → Ends (with_rows n)
  rows_end zero = entries_end
  rows_end (suc n) = (joined (row_words (zeros s.width)) ∷ (rows_end n).0, row_before n (joined (row_words (zeros s.width))) (rows_end n).0 blank (from_rows s n (rows_end n).0 (rows_end n).1))

  some_end : (p : Phase) → Ends p
  some_end phases.First = (codes "log 1" ∷ entries_end.0, log_before entries_end.0 entries_end.1)
  some_end phases.Entries = entries_end
  some_end (phases.Rows more) = rows_end (suc more)
  some_end (phases.Extras end) = extras_end end
  some_end phases.Over = ([], refl)

  -- ---- lines in a row

  all_before : (p q : Phase) (texts more : Lines) → Leads s p texts q → Rest s q more → Rest s p (texts ++ more)
  all_before p q [] more h r = subst (λ (x : Phase). Rest s x more) (sym h) r
  all_before p q (text ∷ texts) more h r = before p text h.0 (texts ++ more) h.1 (all_before h.0 q texts more h.2 r)

  leads_on : (p q next : Phase) (texts : Lines) (text : List ℕ) → Leads s p texts q → IsStep s q text next → Leads s p (texts ++ text ∷ []) next
  leads_on p q next [] text h step = (next, subst (λ (x : Phase). IsStep s x text next) (sym h) step, refl)
  leads_on p q next (t ∷ texts) text h step = (h.0, h.1, leads_on h.0 q next texts text h.2 step)

  -- ---- the fold

  -- the lines are good, and of a log that begins with them this is left
  pub record IsRead (texts : Lines) (p : Phase) : Type 0 where
    pub front : Leads s phases.First texts p
    pub rest : (more : Lines) → Rest s phases.First (texts ++ more) → Rest s p more

  pub nothing_read : IsRead [] phases.First
  nothing_read = record { front = refl; rest = λ more r. r }

  next_line : (texts : Lines) (text : List ℕ) (p : Phase) (more : Lines) → IsRead texts p → Rest s phases.First ((texts ++ text ∷ []) ++ more) → Goes p text more
  next_line texts text p more read r = opened p text more (read.rest (text ∷ more) (subst (λ (l : Lines). Rest s phases.First l) (append_assoc texts (text ∷ []) more) r))

  pub one_read : (texts : Lines) (text : List ℕ) (p next : Phase) → IsRead texts p → IsStep s p text next → ((other : Phase) → IsStep s p text other → Some next ≡ Some other) → IsRead (texts ++ text ∷ []) next
  one_read texts text p next read step again = record {
    front = leads_on phases.First p next texts text read.front step;
    rest = λ more r.
        let g = next_line texts text p more read r in
        subst (λ (x : Phase). Rest s x more) (sym (some_same next g.0 (again g.0 g.1))) g.2;
  }

  module _ (known : AreKnown (known_of s)) where
    log_lines : (l : LogTree) → IsLog s l → texts_of (spelling s l) ≡ map joined (log_words s l)
    log_lines l fits = log_texts s l (spelling s l) known fits refl

    -- a log begins with good lines
    pub begins : (texts : Lines) (p : Phase) → Leads s phases.First texts p → Begins s texts
    begins texts p h =
        let end = some_end p in
        let whole = all_before phases.First p texts end.0 h end.1 in
        record { log = whole.log; is_log = whole.is_log; more = end.0; lines = log_lines whole.log whole.is_log ∙ sym whole.lines }

    -- what is left of a log that begins so
    left : (texts : Lines) (b : Begins s texts) → LogRest s (texts ++ b.more)
    left texts b = record { log = b.log; is_log = b.is_log; lines = sym b.lines ∙ log_lines b.log b.is_log }

    pub none_begins : (texts : Lines) (text : List ℕ) (p : Phase) (o : Option Phase) → IsRead texts p → None ≡ o → ((other : Phase) → IsStep s p text other → o ≡ Some other) → Begins s (texts ++ text ∷ []) → ⊥
    none_begins texts text p o read none again b =
        let g = next_line texts text p b.more read (left (texts ++ text ∷ []) b) in
        let f : None ≡ Some g.0 = none ∙ again g.0 g.1 in
        cc f
