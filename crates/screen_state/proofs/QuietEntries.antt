-- Where no window owns a pixel and an entry shows none, no window owns a pixel afterwards.
use Rattle.std.proofs.Common.{◌≡◌, ◌≢◌, ◌∙◌, ℕ, Bool, true, false, not, cond, eqb, List, [], ◌∷◌, ◌++◌, length, Option, Some, None, append-nil, refl, sym, ap}
use Rattle.std.specs.Prelude.{◌+◌, ◌&&◌, ℤ, filter, is_some}
use Rattle.std.proofs.lemmas.Bool.{eqb-true, eqb-false, false≢true, true≢false}
use Rattle.win_num.specs.declared.message.Hwnd.{Hwnd}
use Rattle.win_num.specs.declared.message.Thread.{Thread}
use Rattle.win_num.specs.declared.names.TheConstants.{WS_VISIBLE}
use Rattle.win_num.specs.declared.shapes.Point.{Point}
use Rattle.win_num.specs.PixelSets.{Box, has_pixel}
use Rattle.user_model.specs.declared.call.Call.{Call}
use Rattle.user_model.specs.declared.call.Call.TheVariants as calls
use Rattle.user_model.specs.declared.entry.Answer.{Answer}
use Rattle.user_model.specs.declared.entry.Answer.TheVariants as answers
use Rattle.user_model.specs.declared.entry.Entry.{Entry}
use Rattle.user_model.specs.declared.entry.Setup.{Setup}
use Rattle.user_model.specs.Past.{Past, is_refused}
use Rattle.user_model.specs.Legal.{IsLawful}
use Rattle.user_model.specs.Machines.{entry_of}
use Rattle.user_model.specs.Windows.{Window, drops, find_window, has_flag, live, made_by, parent_in, window, windows_made}
use Rattle.user_model.specs.Looks.{Look, look, is_shown}
use Rattle.user_model.specs.Pixels.{covers, origin, owner, screen, shifted}
use Rattle.user_model.proofs.Forests.{IsRising, find_filter}
use Rattle.user_model.proofs.LiveWindows.{live-new, made_by-other, new_window, sound}
use Rattle.user_model.proofs.WindowLaws.{live-next, live-refused}
use Rattle.user_model.proofs.WindowLooks.{SameShape, changes_shape, look-new, look-other, same_shape, shape-same}
use Rattle.window_state.proofs.PixelLaws.{owner_has, pixel_owned, top_has}
use Rattle.window_state.proofs.Standings.{found_out, parent_found}
use Rattle.screen_state.specs.Shown.{shows}

-- each top-level window that is shown was there before, and shown at the same place
pub record WasThere (past : Past) (e : Entry) (v : ℕ) (x : Window) : Type 0 where
  pub before : window past v ≡ Some x
  pub looks : SameShape (look (e ∷ past) v) (look past v)

abbrev pub ShowsNone : Past → Entry → Type 0
ShowsNone past e = (v : ℕ) (x : Window) → window (e ∷ past) v ≡ Some x → is_shown (e ∷ past) v ≡ true → WasThere past e v x

left_true : (a b : Bool) → (a && b) ≡ true → a ≡ true
left_true true b h = refl
left_true false b h = absurd (false≢true h)

-- a top-level window covers what it covered
covered : (past : Past) (e : Entry) (p : Point) (v : Hwnd) (x : Window) → window (e ∷ past) v.0 ≡ Some x → x.parent ≡ 0 → WasThere past e v.0 x → covers (e ∷ past) p v ≡ covers past p v
covered past e p v x found top was =
    let now : parent_in (live (e ∷ past)) v.0 ≡ 0 = parent_found (e ∷ past) v.0 x found ∙ top in
    let then : parent_in (live past) v.0 ≡ 0 = parent_found past v.0 x was.before ∙ top in
    ap (λ s. s && has_pixel (shifted (origin (e ∷ past) (parent_in (live (e ∷ past)) v.0)) (look (e ∷ past) v.0).place) p) was.looks.shown
    ∙ ap (λ (b : Box). has_flag (look past v.0).style WS_VISIBLE && has_pixel (shifted (origin (e ∷ past) (parent_in (live (e ∷ past)) v.0)) b) p) was.looks.place
    ∙ ap (λ n. has_flag (look past v.0).style WS_VISIBLE && has_pixel (shifted (origin (e ∷ past) n) (look past v.0).place) p) now
    ∙ sym (ap (λ n. has_flag (look past v.0).style WS_VISIBLE && has_pixel (shifted (origin past n) (look past v.0).place) p) then)

pub stays_quiet : (setup : Setup) (past : Past) (e : Entry) (p : Point) → IsLawful setup past → IsLawful setup (e ∷ past) → ShowsNone past e → (has_pixel (screen setup) p ≡ true → (owner setup past p).0 ≡ 0) → (owner setup (e ∷ past) p).0 ≡ 0
stays_quiet setup past e p lawful lawful_too shows quiet = pick (eqb (owner setup (e ∷ past) p).0 0) refl
  where
    none : (owner setup (e ∷ past) p).0 ≢ 0 → ⊥
    none some =
        let top = top_has setup (e ∷ past) p lawful_too some in
        let shown : is_shown (e ∷ past) top.window.0 ≡ true = left_true (is_shown (e ∷ past) top.window.0) _ top.has in
        let was = shows top.window.0 top.found top.lives shown in
        let on = (owner_has setup (e ∷ past) p lawful_too some).1 in
        pixel_owned setup past p top.window lawful
        (ap (λ (o : Option Window). is_some o) was.before)
        (parent_found past top.window.0 top.found was.before ∙ top.is_top)
        (sym (covered past e p top.window top.found top.lives top.is_top was) ∙ top.has)
        on (quiet on)

    pick : (b : Bool) → eqb (owner setup (e ∷ past) p).0 0 ≡ b → (owner setup (e ∷ past) p).0 ≡ 0
    pick true k = eqb-true (owner setup (e ∷ past) p).0 0 k
    pick false k = absurd (none (eqb-false (owner setup (e ∷ past) p).0 0 k))

-- ---- which entries show none

-- what is found in what is left was found before
pub none_kept : (q : Window → Bool) (ws : List Window) (v : ℕ) → find_window ws v ≡ None → find_window (filter q ws) v ≡ None
none_kept q [] v e = refl
none_kept q (y ∷ ws) v e = pick (none_kept q ws v) (eqb y.number v) refl e (q y)
  where
    pick : (find_window ws v ≡ None → find_window (filter q ws) v ≡ None) → (b : Bool) → eqb y.number v ≡ b → cond b (Some y) (find_window ws v) ≡ None → (c : Bool) → find_window (cond c (y ∷ filter q ws) (filter q ws)) v ≡ None
    pick rest true k f c = absurd cc
    pick rest false k f true = ap (λ b. cond b (Some y) (find_window (filter q ws) v)) k ∙ rest f
    pick rest false k f false = rest f

found_kept : (q : Window → Bool) (from last : ℕ) (ws : List Window) (v : ℕ) (x : Window) → IsRising from last ws → find_window (filter q ws) v ≡ Some x → find_window ws v ≡ Some x
found_kept q from last ws v x rising e = pick (find_window ws v) refl
  where
    told : (y : Window) → find_window ws v ≡ Some y → (b : Bool) → q y ≡ b → find_window ws v ≡ Some x
    told y f true k = f ∙ (sym (find_filter q ws v y f k) ∙ e)
    told y f false k = let no : None ≡ Some x = sym (found_out q from last ws v y rising f k) ∙ e in absurd cc

    pick : (o : Option Window) → find_window ws v ≡ o → find_window ws v ≡ Some x
    pick None f = let no : None ≡ Some x = sym (none_kept q ws v f) ∙ e in absurd cc
    pick (Some y) f = told y f (q y) refl

-- a window of another number at the end
find_last : (ws : List Window) (n : Window) (v : ℕ) → eqb n.number v ≡ false → find_window (ws ++ n ∷ []) v ≡ find_window ws v
find_last [] n v other = ap (λ b. cond b (Some n) None) other
find_last (y ∷ ws) n v other = ap (λ o. cond (eqb y.number v) (Some y) o) (find_last ws n v other)

no_new : (who : ℕ) (call : Call) (a : Answer) (ws : List Window) → changes_shape call a ≡ false → made_by who a call ws ≡ []
no_new who (calls.NewWindow name title parent style ex l t r b) (answers.Window w) ws h = absurd (true≢false h)
no_new who (calls.NewWindow name title parent style ex l t r b) _ ws h = refl
no_new who call a ws h = made_by-other who a call ws refl

-- an entry that leaves where windows are shown
leaves_looks : (setup : Setup) (past : Past) (e : Entry) → IsLawful setup past → changes_shape e.call e.answer ≡ false → ShowsNone past e
leaves_looks setup past e lawful h v x found shown = record { before = by (is_refused e) refl; looks = shape-same e past v h }
  where
    by : (b : Bool) → is_refused e ≡ b → window past v ≡ Some x
    by true refused = ap (λ (ws : List Window). find_window ws v) (sym (live-refused e past refused)) ∙ found
    by false fine =
        let left : live (e ∷ past) ≡ filter (λ y. not (drops e (live past) y)) (live past) =
        live-next e past fine ∙ (ap (λ us. filter (λ y. not (drops e (live past) y)) (live past) ++ us) (no_new e.who.0 e.call e.answer (live past) h) ∙ append-nil (filter (λ y. not (drops e (live past) y)) (live past))) in
        found_kept (λ y. not (drops e (live past) y)) 15 (15 + length (windows_made past)) (live past) v x (sound setup past lawful).rising (ap (λ (ws : List Window). find_window ws v) (sym left) ∙ found)

-- a new window without WS_VISIBLE
hides_new : (past : Past) (who : Thread) (name title parent style ex : ℕ) (l t r b : ℤ) (w : Hwnd) → has_flag style WS_VISIBLE ≡ false → ShowsNone past (entry_of who (calls.NewWindow name title parent style ex l t r b) (answers.Window w))
hides_new past who name title parent style ex l t r b w hidden v x found shown = by (eqb w.0 v) refl
  where
    e : Entry
    e = entry_of who (calls.NewWindow name title parent style ex l t r b) (answers.Window w)

    by : (c : Bool) → eqb w.0 v ≡ c → WasThere past e v x
    by true own = absurd (true≢false (sym shown ∙ (ap (λ (k : Look). has_flag k.style WS_VISIBLE) (look-new past who name title parent style ex l t r b w v own) ∙ hidden)))
    by false other = record {
      before =
          sym (find_last (live past) (new_window who name title parent style ex l t r b w (live past)) v other)
          ∙ (ap (λ (ws : List Window). find_window ws v) (sym (live-new past who name title parent style ex l t r b w)) ∙ found);
      looks = same_shape (look (e ∷ past) v) (look past v) (look-other past who name title parent style ex l t r b w v other);
    }

shows_by : (setup : Setup) (past : Past) (who : Thread) (call : Call) (a : Answer) → IsLawful setup past → shows call a ≡ false → ShowsNone past (entry_of who call a)
shows_by setup past who (calls.NewWindow name title parent style ex l t r b) (answers.Window w) lawful h = hides_new past who name title parent style ex l t r b w h
shows_by setup past who (calls.NewWindow name title parent style ex l t r b) a lawful h = leaves_looks setup past (entry_of who (calls.NewWindow name title parent style ex l t r b) a) lawful h
shows_by setup past who (calls.Place w after l t r b flags) a lawful h = leaves_looks setup past (entry_of who (calls.Place w after l t r b flags) a) lawful h
shows_by setup past who (calls.Show w on) a lawful h = leaves_looks setup past (entry_of who (calls.Show w on) a) lawful h
shows_by setup past who call a lawful h = leaves_looks setup past (entry_of who call a) lawful refl

pub shows_none : (setup : Setup) (past : Past) (e : Entry) → IsLawful setup past → shows e.call e.answer ≡ false → ShowsNone past e
shows_none setup past e lawful h = shows_by setup past e.who e.call e.answer lawful h
