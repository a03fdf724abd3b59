-- What is kept of groups after an entry is that of the past with the entry.
use Rattle.std.proofs.Common.{◌≡◌, ◌⊎◌, ℕ, suc, ◌+◌, ◌^◌, ◌<◌, ◌≤◌, ◌==◌, Bool, true, false, cond, eqb, List, [], ◌∷◌, length, Some, None, refl, ap, ◌∙◌, sym, subst, inl, inr, arith}
use Rattle.std.specs.Prelude.{◌||◌, Option, option_map, unwrap_or}
use Rattle.std.proofs.lemmas.Bool.{eqb-true, or_cases}
use Rattle.std.proofs.lemmas.List.{length-set}
use Rattle.win_num.specs.declared.code.Code.{Code}
use Rattle.win_num.specs.declared.message.Filter.{Filter}
use Rattle.win_num.specs.declared.message.Hwnd.{Hwnd}
use Rattle.win_num.specs.declared.message.Msg.{Msg}
use Rattle.input_state.specs.declared.state.Slot.{Slot}
use Rattle.input_state.specs.declared.state.Slot.TheVariants.{Focus, Active, Capture}
use Rattle.input_state.specs.Groups.{EndsLinks, SetsPair, has_link}
use Rattle.input_state.specs.State.{cell, row_number, with_key, with_links, with_window}
use Rattle.user_model.specs.declared.call.Call.{Call}
use Rattle.user_model.specs.declared.call.Call.TheVariants as calls
use Rattle.user_model.specs.declared.entry.Answer.{Answer}
use Rattle.user_model.specs.declared.entry.Answer.TheVariants as answers
use Rattle.user_model.specs.declared.entry.Origin.{Origin}
use Rattle.user_model.specs.declared.entry.Origin.TheVariants as origins
use Rattle.user_model.specs.declared.entry.Entry.{Entry}
use Rattle.user_model.specs.declared.entry.Setup.{Setup}
use Rattle.user_model.specs.Past.{Past, is_refused, is_refusal}
use Rattle.user_model.specs.Places.{is_end}
use Rattle.user_model.specs.Threads.{is_running}
use Rattle.user_model.specs.Deeds.{retrieves}
use Rattle.user_model.specs.Retrievals.{removes, input_got}
use Rattle.user_model.specs.Keys.{KeyChange, change, change_in, change_of, down_after}
use Rattle.user_model.specs.Windows.{is_live}
use Rattle.user_model.specs.Focus as shared
use Rattle.user_model.specs.Focus.{activates, foreground, set_in}
use Rattle.user_model.specs.Groups.{Link, attaches, are_attached, detaches}
use Rattle.user_model.specs.ReplyGroups.{was}
use Rattle.user_model.specs.ZOrder.{hwnd}
use Rattle.user_model.specs.Idle.{reply}
use Rattle.user_model.proofs.AnswerFacts.{IsInput}
use Rattle.user_model.proofs.DeliveryReplies.{input_told}
use Rattle.user_model.proofs.InputKeys.{input_key}
use Rattle.user_model.proofs.GroupLaws.{attached-refused, foreground-next, foreground-refused}
use Rattle.user_model.proofs.GroupReplies.{IsAttaching, IsSetting, attach_told, detach_told, end_told, release_told, set_active_told, set_capture_told, set_focus_told}
use Rattle.user_model.proofs.GroupThreads.{running_is_thread}
use Rattle.user_model.proofs.ReplyLaws.{by_row}
use Rattle.user_model.proofs.RowFacts.{says_of}
use Rattle.user_model.proofs.ThreadLaws.{end_is}
use Rattle.user_model.proofs.WindowFacts.{live_fits}
use Rattle.user_model.proofs.WindowReplies.{IsOwn}
use Rattle.group_state.specs.GroupTables.{IsGroupsAt, Kept}
use Rattle.group_state.specs.Steps.{IsNextAt, key_pair, key_taken}
use Rattle.group_state.proofs.KeySteps.{key_fits, key_made, keys_refused, keys_rest}
use Rattle.group_state.proofs.LinkSteps.{links_kept, links_left, links_less, links_more, links_rest}
use Rattle.group_state.proofs.Reaching.{HasLinks, attached_bounds, thread_bounds}
use Rattle.group_state.proofs.Setters.{key_in}
use Rattle.group_state.proofs.SettingSteps.{SetsNone, SetsOne, setting_made, settings_refused, settings_rest, sets_active, sets_capture, sets_focus, sets_release}

-- an answer that is none of the refusals is no refusal
pub fine_of : (a : Answer) → ((code : Code) → a ≡ answers.Refused code → ⊥) → is_refusal a ≡ false
fine_of (answers.Refused code) none = absurd (none code refl)
fine_of _ none = refl

pub refused_is : (a : Answer) (code : Code) → a ≡ answers.Refused code → is_refusal a ≡ true
refused_is a code e = ap is_refusal e

-- a call that sets nothing, attaches nothing and undoes nothing
pub record IsQuiet (call : Call) : Type 0 where
  pub sets_none : SetsNone call
  pub activates_none : (who : ℕ) → activates who call ≡ None
  pub makes_none : attaches call ≡ []
  pub undoes_none : (x : Link) → detaches call x ≡ false

sets_no_focus : (call : Call) → ((w : ℕ) → call ≡ calls.SetFocus w → ⊥) → set_in shared.focus call ≡ None
sets_no_focus (calls.SetFocus w) other = absurd (other w refl)
sets_no_focus _ other = refl

sets_no_active : (call : Call) → ((w : ℕ) → call ≡ calls.SetActive w → ⊥) → set_in shared.active call ≡ None
sets_no_active (calls.SetActive w) other = absurd (other w refl)
sets_no_active _ other = refl

sets_no_capture : (call : Call) → ((w : ℕ) → call ≡ calls.SetCapture w → ⊥) → (call ≡ calls.ReleaseCapture → ⊥) → set_in shared.capture call ≡ None
sets_no_capture (calls.SetCapture w) other third = absurd (other w refl)
sets_no_capture calls.ReleaseCapture other third = absurd (third refl)
sets_no_capture _ other third = refl

calms : (who : ℕ) (call : Call) → ((w : ℕ) → call ≡ calls.SetActive w → ⊥) → activates who call ≡ None
calms who (calls.SetActive w) other = absurd (other w refl)
calms who _ other = refl

makes_no_link : (call : Call) → ((t u : ℕ) → call ≡ calls.Attach t u → ⊥) → attaches call ≡ []
makes_no_link (calls.Attach t u) other = absurd (other t u refl)
makes_no_link _ other = refl

undoes_no_link : (call : Call) (x : Link) → ((t u : ℕ) → call ≡ calls.Detach t u → ⊥) → detaches call x ≡ false
undoes_no_link (calls.Detach t u) x other = absurd (other t u refl)
undoes_no_link _ x other = refl

-- any call that isn't one of these
pub other_quiet : (call : Call) → ((w : ℕ) → call ≡ calls.SetFocus w → ⊥) → ((w : ℕ) → call ≡ calls.SetActive w → ⊥) → ((w : ℕ) → call ≡ calls.SetCapture w → ⊥) → (call ≡ calls.ReleaseCapture → ⊥) → ((t u : ℕ) → call ≡ calls.Attach t u → ⊥) → ((t u : ℕ) → call ≡ calls.Detach t u → ⊥) → IsQuiet call
other_quiet call no_focus no_active no_capture no_release no_attach no_detach = record {
  sets_none = each;
  activates_none = λ who. calms who call no_active;
  makes_none = makes_no_link call no_attach;
  undoes_none = λ x. undoes_no_link call x no_detach;
}
  where
    each : SetsNone call
    each Focus = sets_no_focus call no_focus
    each Active = sets_no_active call no_active
    each Capture = sets_no_capture call no_capture no_release

-- a retrieval is none of these
apart : (call other : Call) (f : Filter) → retrieves call ≡ Some f → retrieves other ≡ None → call ≡ other → ⊥
apart call other f h k is = let none : None ≡ Some f = sym k ∙ (sym (ap retrieves is) ∙ h) in absurd cc

retrieving_quiet : (call : Call) (f : Filter) → retrieves call ≡ Some f → IsQuiet call
retrieving_quiet call f h = other_quiet call (λ w is. apart call (calls.SetFocus w) f h refl is) (λ w is. apart call (calls.SetActive w) f h refl is) (λ w is. apart call (calls.SetCapture w) f h refl is) (λ is. apart call calls.ReleaseCapture f h refl is) (λ t u is. apart call (calls.Attach t u) f h refl is) (λ t u is. apart call (calls.Detach t u) f h refl is)

-- an answer that hands out no input
pub no_input_of : (a : Answer) (call : Call) → ((n : ℕ) (m : Msg) → a ≡ answers.Got origins.Input n m → ⊥) → input_got a call ≡ None
no_input_of (answers.Got origins.Input n m) call other = absurd (other n m refl)
no_input_of _ call other = refl

-- a message that is no input
pub no_input_from : (o : Origin) (n : ℕ) (m : Msg) (call : Call) → (o ≡ origins.Input → ⊥) → input_got (answers.Got o n m) call ≡ None
no_input_from origins.Input n m call other = absurd (other refl)
no_input_from _ n m call other = refl

-- ---- the change of a key, from what is kept of it

unmapped : (o : Option KeyChange) → option_map key_pair o ≡ None → o ≡ None
unmapped None h = refl
unmapped (Some c) h = let none : Some (key_pair c) ≡ None = h in absurd cc

mapped : (o : Option KeyChange) (key : ℕ) (down : Bool) → option_map key_pair o ≡ Some (key, down) → o ≡ Some (change key down)
mapped None key down h = let none : None ≡ Some (key, down) = h in absurd cc
mapped (Some c) key down h = ap (option_map (λ (p : ℕ × Bool). change p.0 p.1)) h

none_taken : (b : Bool) (m : Msg) → cond b (option_map key_pair (change_in m.number m.wparam)) None ≡ None → change_of (cond b (Some m) None) ≡ None
none_taken true m h = unmapped (change_in m.number m.wparam) h
none_taken false m h = refl

one_taken : (b : Bool) (m : Msg) (key : ℕ) (down : Bool) → cond b (option_map key_pair (change_in m.number m.wparam)) None ≡ Some (key, down) → change_of (cond b (Some m) None) ≡ Some (change key down)
one_taken true m key down h = mapped (change_in m.number m.wparam) key down h
one_taken false m key down h = let none : None ≡ Some (key, down) = h in absurd cc

fitting : (b : Bool) (m : Msg) (key : ℕ) (down : Bool) → m.wparam ≤ 254 → cond b (option_map key_pair (change_in m.number m.wparam)) None ≡ Some (key, down) → key < 256
fitting true m key down low h = key_fits m.number m.wparam (change key down) low (mapped (change_in m.number m.wparam) key down h)
fitting false m key down low h = let none : None ≡ Some (key, down) = h in absurd cc

-- what a thread that sets a window must be told
no_end_told : (a : Answer) (w : Hwnd) → answers.Was w ≡ a → is_end a ≡ false
no_end_told a w e = ap is_end (sym e)

okay_no_end : (a : Answer) → answers.Okay ≡ a → is_end a ≡ false
okay_no_end a e = ap is_end (sym e)

module _ (setup : Setup) (past : Past) (g : Kept) (place : ℕ) (e : Entry) (n : IsNextAt setup past g place e) where
  longer : g.inputs.next_place ≤ suc (length past)
  longer = let low : g.inputs.next_place ≤ length past = n.groups.places in omega (arith, low)

  answered : (call : Call) → e.call ≡ call → reply setup past e.who.0 call ≡ e.answer
  answered call is = sym (n.right ∙ ap (reply setup past e.who.0) is)

  -- ---- what stays

  pub refused_step : is_refused e ≡ true → IsGroupsAt setup (e ∷ past) g
  refused_step h = record {
    threads = n.groups.threads;
    few = n.groups.few;
    links = links_kept past (e ∷ past) g.inputs.links (attached-refused e past h) n.groups.links;
    windows = n.groups.windows;
    orders = n.groups.orders;
    downs = n.groups.downs;
    key_orders = n.groups.key_orders;
    keys = λ key a lk la. keys_refused e past g.inputs key a h (n.groups.keys key a lk la);
    settings = λ slot a la. settings_refused e past g.inputs slot a h (n.groups.settings slot a la);
    places = longer;
    foreground = n.groups.foreground ∙ sym (foreground-refused e past h);
  }

  -- settings and foreground thread stay
  rest_step : is_refused e ≡ false → ((key : ℕ) → key_in key e ≡ None) → SetsNone e.call → activates e.who.0 e.call ≡ None → (links groups : List ℕ) → HasLinks (e ∷ past) links → IsGroupsAt setup (e ∷ past) (record g { inputs = with_links g.inputs links groups })
  rest_step fine untold none calm links groups has = record {
    threads = n.groups.threads;
    few = n.groups.few;
    links = has;
    windows = n.groups.windows;
    orders = n.groups.orders;
    downs = n.groups.downs;
    key_orders = n.groups.key_orders;
    keys = λ key a lk la. let left = keys_rest e past g.inputs key a fine (untold key) (n.groups.keys key a lk la) in record { down = left.down; order = left.order };
    settings = λ slot a la. let left = settings_rest e past g.inputs slot a fine none (n.groups.settings slot a la) in record { window = left.window; order = left.order };
    places = longer;
    foreground = n.groups.foreground ∙ sym (foreground-next e past fine ∙ ap (λ o. unwrap_or o (foreground past)) calm);
  }

  ends_by : is_end e.answer ≡ true → e.call ≡ calls.EndThread
  ends_by h =
      let is = end_is e.answer h in
      let right : reply setup past e.who.0 e.call ≡ answers.Ended = sym n.right ∙ is in
      says_of setup past e.who.0 e.call answers.Ended (by_row setup past e.who.0 e.call answers.Ended right refl).is_row

  -- any other call
  quiet_step : is_refused e ≡ false → ((key : ℕ) → key_in key e ≡ None) → IsQuiet e.call → (e.call ≡ calls.EndThread → ⊥) → IsGroupsAt setup (e ∷ past) g
  quiet_step fine untold quiet other = rest_step fine untold quiet.sets_none (quiet.activates_none e.who.0) g.inputs.links g.inputs.groups (links_kept past (e ∷ past) g.inputs.links (links_rest e past (lives (is_end e.answer) refl) quiet.makes_none quiet.undoes_none) n.groups.links)
    where
      lives : (b : Bool) → is_end e.answer ≡ b → is_end e.answer ≡ false
      lives true h = absurd (other (ends_by h))
      lives false h = h

  -- ---- a window is set

  set_step : is_refused e ≡ false → ((key : ℕ) → key_in key e ≡ None) → is_end e.answer ≡ false → (slot : Slot) (w : ℕ) (v : Hwnd) → SetsOne e.call slot w → v ≡ hwnd w → e.who.0 < 16 → attaches e.call ≡ [] → ((x : Link) → detaches e.call x ≡ false) → (f : ℕ) → f ≡ unwrap_or (activates e.who.0 e.call) g.foreground → IsGroupsAt setup (e ∷ past) (record { inputs = with_window g.inputs e.who slot v place; foreground = f })
  set_step fine untold lives slot w v call is low makes undoes f foreground_is = record {
    threads = n.groups.threads;
    few = n.groups.few;
    links = links_kept past (e ∷ past) g.inputs.links (links_rest e past lives makes undoes) n.groups.links;
    windows = length-set g.inputs.windows (cell (row_number slot) e.who.0) v ∙ n.groups.windows;
    orders = length-set g.inputs.window_orders (cell (row_number slot) e.who.0) (place + 1) ∙ n.groups.orders;
    downs = n.groups.downs;
    key_orders = n.groups.key_orders;
    keys = λ key a lk la. let left = keys_rest e past g.inputs key a fine (untold key) (n.groups.keys key a lk la) in record { down = left.down; order = left.order };
    settings = λ x a la. setting_made e past g.inputs slot w v place fine call is n.at low n.groups.windows n.groups.orders x a la (n.groups.settings x a la);
    places = (let at : place ≡ length past = n.at in omega (arith, at));
    foreground = foreground_is ∙ ap (λ k. unwrap_or (activates e.who.0 e.call) k) n.groups.foreground ∙ sym (foreground-next e past fine);
  }

  module _ (fine : is_refused e ≡ false) (no_input : input_got e.answer e.call ≡ None) where
    untold : (key : ℕ) → key_in key e ≡ None
    untold key = ap (λ o. down_after key (change_of o)) no_input

    -- a call that is none of those on groups
    pub call_step : IsQuiet e.call → (e.call ≡ calls.EndThread → ⊥) → IsGroupsAt setup (e ∷ past) g
    call_step quiet other = quiet_step fine untold quiet other

    known : is_running setup past e.who.0 ≡ true → ((1 ≤ e.who.0) × (e.who.0 ≤ g.inputs.threads)) × (e.who.0 < 16)
    known runs =
        let bounds = thread_bounds setup e.who.0 (running_is_thread setup past e.who.0 runs) in
        let high : e.who.0 ≤ setup.threads = bounds.1 in
        let few : setup.threads ≤ 15 = n.groups.few in
        let same : g.inputs.threads ≡ setup.threads = n.groups.threads in
        ((bounds.0, omega (arith, high, same)), omega (arith, high, few))

    pub set_later : g.inputs.next_place ≤ place
    set_later = let low : g.inputs.next_place ≤ length past = n.groups.places in let at : place ≡ length past = n.at in omega (arith, low, at)

    fits : (w : ℕ) → (eqb w 0 || is_live past w) ≡ true → w < 2 ^ 32
    fits w h = by (or_cases (eqb w 0) (is_live past w) h)
      where
        by : (eqb w 0 ≡ true) ⊎ (is_live past w ≡ true) → w < 2 ^ 32
        by (inl k) = let none : w ≡ 0 = eqb-true w 0 k in omega (arith, none)
        by (inr k) = live_fits setup past w n.lawful k

    module _ (w : ℕ) (is : e.call ≡ calls.SetFocus w) where
      focus_set : IsSetting setup past e.who.0 w shared.focus e.answer
      focus_set = set_focus_told setup past e.who.0 w e.answer (answered (calls.SetFocus w) is) fine

      pub focus_window : w < 2 ^ 32
      focus_window = fits w focus_set.window

      pub focus_thread : (1 ≤ e.who.0) × (e.who.0 ≤ g.inputs.threads)
      focus_thread = (known focus_set.running).0

      pub focus_step : (v : Hwnd) → v.0 ≡ w → IsGroupsAt setup (e ∷ past) (record g { inputs = with_window g.inputs e.who Focus v place })
      focus_step v same = set_step fine untold (no_end_told e.answer _ focus_set.is_told) Focus w v (subst (λ c. SetsOne c Focus w) (sym is) (sets_focus w)) (ap hwnd same) (known focus_set.running).1 (ap attaches is) (λ x. ap (λ c. detaches c x) is) g.foreground (sym (ap (λ c. unwrap_or (activates e.who.0 c) g.foreground) is))

    module _ (w : ℕ) (is : e.call ≡ calls.SetActive w) where
      active_set : IsSetting setup past e.who.0 w shared.active e.answer
      active_set = set_active_told setup past e.who.0 w e.answer (answered (calls.SetActive w) is) fine

      pub active_window : w < 2 ^ 32
      active_window = fits w active_set.window

      pub active_thread : (1 ≤ e.who.0) × (e.who.0 ≤ g.inputs.threads)
      active_thread = (known active_set.running).0

      pub active_step : (v : Hwnd) → v.0 ≡ w → IsGroupsAt setup (e ∷ past) (record { inputs = with_window g.inputs e.who Active v place; foreground = cond (eqb v.0 0) g.foreground e.who.0 })
      active_step v same = set_step fine untold (no_end_told e.answer _ active_set.is_told) Active w v (subst (λ c. SetsOne c Active w) (sym is) (sets_active w)) (ap hwnd same) (known active_set.running).1 (ap attaches is) (λ x. ap (λ c. detaches c x) is) (cond (eqb v.0 0) g.foreground e.who.0)
          (ap (λ k. cond (eqb k 0) g.foreground e.who.0) same ∙ by (eqb w 0) ∙ sym (ap (λ c. unwrap_or (activates e.who.0 c) g.foreground) is))
        where
          by : (b : Bool) → cond b g.foreground e.who.0 ≡ unwrap_or (cond b None (Some e.who.0)) g.foreground
          by true = refl
          by false = refl

    module _ (w : ℕ) (is : e.call ≡ calls.SetCapture w) where
      capture_set : IsOwn setup past e.who.0 w × (was past e.who.0 shared.capture ≡ e.answer)
      capture_set = set_capture_told setup past e.who.0 w e.answer (answered (calls.SetCapture w) is) fine

      pub capture_window : w < 2 ^ 32
      capture_window = live_fits setup past w n.lawful capture_set.0.is_live

      pub capture_thread : (1 ≤ e.who.0) × (e.who.0 ≤ g.inputs.threads)
      capture_thread = (known capture_set.0.running).0

      pub capture_step : (v : Hwnd) → v.0 ≡ w → IsGroupsAt setup (e ∷ past) (record g { inputs = with_window g.inputs e.who Capture v place })
      capture_step v same = set_step fine untold (no_end_told e.answer _ capture_set.1) Capture w v (subst (λ c. SetsOne c Capture w) (sym is) (sets_capture w)) (ap hwnd same) (known capture_set.0.running).1 (ap attaches is) (λ x. ap (λ c. detaches c x) is) g.foreground (sym (ap (λ c. unwrap_or (activates e.who.0 c) g.foreground) is))

    module _ (is : e.call ≡ calls.ReleaseCapture) where
      release : (is_running setup past e.who.0 ≡ true) × (was past e.who.0 shared.capture ≡ e.answer)
      release = release_told setup past e.who.0 e.answer (answered calls.ReleaseCapture is) fine

      pub release_thread : (1 ≤ e.who.0) × (e.who.0 ≤ g.inputs.threads)
      release_thread = (known release.0).0

      pub release_step : IsGroupsAt setup (e ∷ past) (record g { inputs = with_window g.inputs e.who Capture (hwnd 0) place })
      release_step = set_step fine untold (no_end_told e.answer _ release.1) Capture 0 (hwnd 0) (subst (λ c. SetsOne c Capture 0) (sym is) sets_release) refl (known release.0).1 (ap attaches is) (λ x. ap (λ c. detaches c x) is) g.foreground (sym (ap (λ c. unwrap_or (activates e.who.0 c) g.foreground) is))

    -- ---- attached threads

    bounded : (k : ℕ) → (1 ≤ k) × (k ≤ setup.threads) → (1 ≤ k) × (k ≤ g.inputs.threads) × (k < 16)
    bounded k b =
        let high : k ≤ setup.threads = b.1 in
        let few : setup.threads ≤ 15 = n.groups.few in
        let same : g.inputs.threads ≡ setup.threads = n.groups.threads in
        (b.0, omega (arith, high, same), omega (arith, high, few))

    one_cell : (b : Bool) → eqb (cond b 1 0) 1 ≡ b
    one_cell true = refl
    one_cell false = refl

    linked_is : (a b : ℕ) → a < 16 → b < 16 → has_link g.inputs.links a b ≡ are_attached past a b
    linked_is a b la lb = ap (λ k. eqb k 1) (n.groups.links a b la lb) ∙ one_cell (are_attached past a b)

    module _ (a b : ℕ) (is : e.call ≡ calls.Attach a b) where
      attaching : IsAttaching setup past a b e.answer
      attaching = attach_told setup past e.who.0 a b e.answer (answered (calls.Attach a b) is) fine

      pub attach_one : (1 ≤ a) × (a ≤ g.inputs.threads) × (a < 16)
      attach_one = bounded a (thread_bounds setup a (running_is_thread setup past a attaching.one))

      pub attach_other : (1 ≤ b) × (b ≤ g.inputs.threads) × (b < 16)
      attach_other = bounded b (thread_bounds setup b (running_is_thread setup past b attaching.other))

      pub attach_apart : ((a == b) || has_link g.inputs.links a b) ≡ false
      attach_apart = ap (λ c. c || has_link g.inputs.links a b) attaching.differ ∙ linked_is a b attach_one.2 attach_other.2 ∙ attaching.apart

      pub attach_step : (links groups : List ℕ) → SetsPair g.inputs.links links a b 1 → IsGroupsAt setup (e ∷ past) (record g { inputs = with_links g.inputs links groups })
      attach_step links groups sets = rest_step fine untold none (ap (activates e.who.0) is) links groups (links_more e past a b g.inputs.links links fine (okay_no_end e.answer attaching.is_okay) is n.groups.links sets)
        where
          none : SetsNone e.call
          none Focus = ap (set_in shared.focus) is
          none Active = ap (set_in shared.active) is
          none Capture = ap (set_in shared.capture) is

    module _ (a b : ℕ) (is : e.call ≡ calls.Detach a b) where
      detaching : (are_attached past a b ≡ true) × (answers.Okay ≡ e.answer)
      detaching = detach_told setup past e.who.0 a b e.answer (answered (calls.Detach a b) is) fine

      both : ((1 ≤ a) × (a ≤ setup.threads)) × ((1 ≤ b) × (b ≤ setup.threads))
      both = attached_bounds setup past a b n.lawful detaching.0

      pub detach_one : (1 ≤ a) × (a ≤ g.inputs.threads) × (a < 16)
      detach_one = bounded a both.0

      pub detach_other : (1 ≤ b) × (b ≤ g.inputs.threads) × (b < 16)
      detach_other = bounded b both.1

      pub detach_linked : has_link g.inputs.links a b ≡ true
      detach_linked = linked_is a b detach_one.2 detach_other.2 ∙ detaching.0

      pub detach_step : (links groups : List ℕ) → SetsPair g.inputs.links links a b 0 → IsGroupsAt setup (e ∷ past) (record g { inputs = with_links g.inputs links groups })
      detach_step links groups sets = rest_step fine untold none (ap (activates e.who.0) is) links groups (links_less e past a b g.inputs.links links fine (okay_no_end e.answer detaching.1) is n.groups.links sets)
        where
          none : SetsNone e.call
          none Focus = ap (set_in shared.focus) is
          none Active = ap (set_in shared.active) is
          none Capture = ap (set_in shared.capture) is

    module _ (is : e.call ≡ calls.EndThread) where
      ending : (is_running setup past e.who.0 ≡ true) × (answers.Ended ≡ e.answer)
      ending = end_told setup past e.who.0 e.answer (answered calls.EndThread is) fine

      pub end_thread : (1 ≤ e.who.0) × (e.who.0 ≤ g.inputs.threads)
      end_thread = (known ending.0).0

      pub end_step : (links groups : List ℕ) → EndsLinks g.inputs.links links e.who.0 → IsGroupsAt setup (e ∷ past) (record g { inputs = with_links g.inputs links groups })
      end_step links groups ends = rest_step fine untold none (ap (activates e.who.0) is) links groups (links_left e past g.inputs.links links fine (sym ending.1) is n.groups.links ends)
        where
          none : SetsNone e.call
          none Focus = ap (set_in shared.focus) is
          none Active = ap (set_in shared.active) is
          none Capture = ap (set_in shared.capture) is

  -- ---- an input is taken

  module _ (number : ℕ) (m : Msg) (got : e.answer ≡ answers.Got origins.Input number m) where
    input_fine : is_refused e ≡ false
    input_fine = ap is_refusal got

    taking : IsInput setup past e.who.0 e.call number m
    taking = input_told setup past e.who.0 e.call number m (by_row setup past e.who.0 e.call (answers.Got origins.Input number m) (sym n.right ∙ got) refl).is_row

    taker_bounds : (1 ≤ e.who.0) × (e.who.0 ≤ setup.threads)
    taker_bounds = thread_bounds setup e.who.0 (running_is_thread setup past e.who.0 (by_row setup past e.who.0 e.call (answers.Got origins.Input number m) (sym n.right ∙ got) refl).running)

    pub input_thread : (1 ≤ e.who.0) × (e.who.0 ≤ g.inputs.threads)
    input_thread =
        let high : e.who.0 ≤ setup.threads = taker_bounds.1 in
        let same : g.inputs.threads ≡ setup.threads = n.groups.threads in
        (taker_bounds.0, omega (arith, high, same))

    pub input_later : g.inputs.next_place ≤ place
    input_later = let low : g.inputs.next_place ≤ length past = n.groups.places in let at : place ≡ length past = n.at in omega (arith, low, at)

    wparam_low : m.wparam ≤ 254
    wparam_low = input_key setup past e.who.0 e.call number m n.lawful taking

    pub wparam_fits : m.wparam ≤ 255
    wparam_fits = omega (arith, wparam_low)

    said : change_of (input_got e.answer e.call) ≡ change_of (cond (removes e.call) (Some m) None)
    said = ap (λ a. change_of (input_got a e.call)) got

    quiet : IsQuiet e.call
    quiet = retrieving_quiet e.call taking.pass taking.is_call

    no_end : e.call ≡ calls.EndThread → ⊥
    no_end is = apart e.call calls.EndThread taking.pass taking.is_call refl is

    -- one that says nothing of a key, or that stays
    pub input_rest : key_taken e.call m ≡ None → IsGroupsAt setup (e ∷ past) g
    input_rest h = quiet_step input_fine (λ key. ap (down_after key) (said ∙ none_taken (removes e.call) m h)) quiet no_end

    -- one by which a key goes down or up
    pub input_made : (key : ℕ) (down : Bool) → key_taken e.call m ≡ Some (key, down) → IsGroupsAt setup (e ∷ past) (record g { inputs = with_key g.inputs e.who key down place })
    input_made key down h =
        let high : e.who.0 ≤ setup.threads = taker_bounds.1 in
        let few : setup.threads ≤ 15 = n.groups.few in
        let low : e.who.0 < 16 = omega (arith, high, few) in
        let changes : change_of (input_got e.answer e.call) ≡ Some (change key down) = said ∙ one_taken (removes e.call) m key down h in
        let fits : key < 256 = fitting (removes e.call) m key down wparam_low h in
        let rest : IsGroupsAt setup past g = n.groups in
        record {
          threads = rest.threads;
          few = rest.few;
          links = links_kept past (e ∷ past) g.inputs.links (links_rest e past (ap is_end got) quiet.makes_none quiet.undoes_none) rest.links;
          windows = rest.windows;
          orders = rest.orders;
          downs = length-set g.inputs.downs (cell key e.who.0) down ∙ rest.downs;
          key_orders = length-set g.inputs.key_orders (cell key e.who.0) (place + 1) ∙ rest.key_orders;
          settings = λ slot a la. let left = settings_rest e past g.inputs slot a input_fine quiet.sets_none (rest.settings slot a la) in record { window = left.window; order = left.order };
          keys = λ k a lk la. key_made e past g.inputs (change key down) place input_fine changes n.at low fits rest.downs rest.key_orders k a la (rest.keys k a lk la);
          places = (let at : place ≡ length past = n.at in omega (arith, at));
          foreground = rest.foreground ∙ sym (foreground-next e past input_fine ∙ ap (λ o. unwrap_or o (foreground past)) (quiet.activates_none e.who.0));
        }
