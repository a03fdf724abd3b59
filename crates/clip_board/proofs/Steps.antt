-- What is kept of a clipboard, at a past with one entry more.
use Rattle.std.proofs.Common.{◌≡◌, ◌<◌, ◌≤◌, ℕ, Bool, true, false, List, [], ◌∷◌, ◌++◌, length, reverse, Option, Some, None, refl, sym, ap, ◌∙◌, subst, arith}
use Rattle.std.specs.Prelude.{if◌then◌else◌, nat_le, Result, Ok, Err, IfOk, OnOk, OnErr, IsTrue}
use Rattle.std.specs.Ordering.{nat_cmp}
use Rattle.std.specs.Map.{lookup}
use Rattle.std.specs.List.{list_any}
use Rattle.std.specs.BTreeMap.{is_at, btree_map_len}
use Rattle.std.proofs.lemmas.Bool.{leb-false}
use Rattle.win_num.specs.declared.message.Thread.{Thread}
use Rattle.win_num.specs.declared.code.Code.TheVariants.{Full}
use Rattle.clip_board.specs.declared.entry.ClipCall.{ClipCall}
use Rattle.clip_board.specs.declared.entry.ClipAnswer.{ClipAnswer}
use Rattle.clip_board.specs.declared.entry.ClipAnswer.TheVariants.{Refused}
use Rattle.clip_board.specs.declared.entry.ClipEntry.{ClipEntry}
use Rattle.clip_board.specs.declared.board.Board.{Board}
use Rattle.clip_board.specs.Clipboards.{ClipPast, is_refusal, clip_entry, format_of, opened, owner, kept, formats, is_asked, opened_after, owner_after, kept_after, formats_after, asked_after, is_full, clip_reply, clip_after, answer_of, standing, IsLawful}
use Rattle.clip_board.specs.Boards.{StandsAt, IsSame, Follows, kept_on, is_asked_on}

-- where both say the same, the new one stands where the old one does
pub same_stands : (past : ClipPast) (old new : Board) → StandsAt past old → IsSame old new → StandsAt past new
same_stands past old new s same = record {
  opened = same.opened ∙ s.opened;
  owner = same.owner ∙ s.owner;
  kept = λ f. ap (λ es. lookup (is_at (nat_cmp f)) es) same.kept ∙ s.kept f;
  formats = ap length same.kept ∙ s.formats;
  asked = λ f. ap (λ ks. list_any (is_at (nat_cmp f)) ks) same.asked ∙ s.asked f;
}

module _ (past : ClipPast) (who : Thread) (call : ClipCall) (answer : ClipAnswer) where
  -- an entry that was refused says nothing
  pub refused_stands : (b : Board) → is_refusal answer ≡ true → StandsAt past b → StandsAt (clip_entry who call answer ∷ past) b
  refused_stands b h s = record {
    opened = s.opened ∙ sym (ap (λ r. if r then opened past else opened_after who call (opened past)) h);
    owner = s.owner ∙ sym (ap (λ r. if r then owner past else owner_after who call (opened past) (owner past)) h);
    kept = λ f. s.kept f ∙ sym (ap (λ r. if r then kept f past else kept_after f call (kept f past)) h);
    formats = s.formats ∙ sym (ap (λ r. if r then formats past else formats_after call (kept (format_of call) past) (formats past)) h);
    asked = λ f. s.asked f ∙ sym (ap (λ r. if r then is_asked f past else asked_after f call answer (is_asked f past)) h);
  }

  -- any other entry says what its call does
  pub followed_stands : (old new : Board) → is_refusal answer ≡ false → StandsAt past old → Follows who call answer old new → StandsAt (clip_entry who call answer ∷ past) new
  followed_stands old new h s f = record {
    opened = f.opened ∙ ap (opened_after who call) s.opened ∙ sym (ap (λ r. if r then opened past else opened_after who call (opened past)) h);
    owner = f.owner ∙ ap (λ o. owner_after who call o old.owner) s.opened ∙ ap (owner_after who call (opened past)) s.owner ∙ sym (ap (λ r. if r then owner past else owner_after who call (opened past) (owner past)) h);
    kept = λ g. f.kept g ∙ ap (kept_after g call) (s.kept g) ∙ sym (ap (λ r. if r then kept g past else kept_after g call (kept g past)) h);
    formats = f.formats ∙ ap (λ k. formats_after call k (btree_map_len old.kept)) (s.kept (format_of call)) ∙ ap (formats_after call (kept (format_of call) past)) s.formats ∙ sym (ap (λ r. if r then formats past else formats_after call (kept (format_of call) past) (formats past)) h);
    asked = λ g. f.asked g ∙ ap (asked_after g call answer) (s.asked g) ∙ sym (ap (λ r. if r then is_asked g past else asked_after g call answer (is_asked g past)) h);
  }

  -- whatever the answer is
  pub stands_after : (old new : Board) → (IsTrue (is_refusal answer) → IsSame old new) → (is_refusal answer ≡ false → Follows who call answer old new) → StandsAt past old → StandsAt (clip_entry who call answer ∷ past) new
  stands_after old new same follows s = by_case (is_refusal answer) refl
    where
      by_case : (r : Bool) → is_refusal answer ≡ r → StandsAt (clip_entry who call answer ∷ past) new
      by_case true h = refused_stands new h (same_stands past old new s (same h))
      by_case false h = followed_stands old new h s (follows h)

-- what isn't full has room
pub has_room : (past : ClipPast) → is_full past ≡ false → length past < 2097152
has_room past h = leb-false 2097152 (length past) h

-- a lawful past is no longer than a history may be
pub lawful_short : (past : ClipPast) → IsLawful past → length past ≤ 2097152
lawful_short [] h = omega arith
lawful_short (e ∷ past) h = let below = h.1 in omega (arith, below)

-- with room the reply is the answer to the call, as the clipboard stands
pub reply_room : (past : ClipPast) (who : Thread) (call : ClipCall) → is_full past ≡ false → clip_reply past who call ≡ answer_of who call (standing past (format_of call))
reply_room past who call h = ap (λ b. if b then error-full else answer_of who call (standing past (format_of call))) h
  where
    error-full : ClipAnswer
    error-full = Refused Full

-- and one entry more is lawful
pub lawful_next : (past : ClipPast) (who : Thread) (call : ClipCall) (a : ClipAnswer) → is_full past ≡ false → a ≡ answer_of who call (standing past (format_of call)) → IsLawful past → IsLawful (clip_entry who call a ∷ past)
lawful_next past who call a h e l = (l, has_room past h, e ∙ sym (reply_room past who call h))

-- the past after a call that is answered so, where there is room
pub after_room : (past : ClipPast) (who : Thread) (call : ClipCall) (a : ClipAnswer) → is_full past ≡ false → a ≡ answer_of who call (standing past (format_of call)) → clip_entry who call a ∷ past ≡ clip_after past who call
after_room past who call a h e =
    ap (λ x. clip_entry who call x ∷ past) (e ∙ sym (reply_room past who call h)) ∙ sym (ap (λ b. if b then past else clip_entry who call (clip_reply past who call) ∷ past) h)
