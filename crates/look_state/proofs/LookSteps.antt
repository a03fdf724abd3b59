-- What is kept of looks after an entry is what there was at the last looks of the past with it.
use Rattle.std.proofs.Common.{◌≡◌, ◌∙◌, ℕ, ◌+◌, ◌<◌, Bool, true, false, cond, eqb, List, [], ◌∷◌, get_or, length, refl, sym, ap, subst, arith}
use Rattle.std.specs.Prelude.{◌&&◌, All}
use Rattle.std.proofs.lemmas.Bool.{eqb-true, ne_eqb}
use Rattle.win_rows.specs.Windows.{Windows}
use Rattle.win_order.specs.Layers.{Layers}
use Rattle.user_model.specs.declared.entry.Entry.{Entry}
use Rattle.user_model.specs.declared.entry.Setup.{Setup}
use Rattle.user_model.specs.Past.{Past, is_refused}
use Rattle.user_model.specs.Dirty.{is_dirty}
use Rattle.user_model.specs.Legal.{IsLawful}
use Rattle.user_model.specs.Status.{is_look, last_look}
use Rattle.user_model.proofs.LookLaws.{is_look_of, last_look-look, last_look-other, last_look-refused}
use Rattle.window_state.specs.Orders.{IsOrderAt}
use Rattle.window_state.specs.Trees.{IsTreeAt}
use Rattle.screen_state.specs.Screens.{IsScreenAt, Kept}
use Rattle.look_state.specs.declared.moment.Moment.{Moment}
use Rattle.look_state.specs.declared.seen.SeenWindow.{SeenWindow}
use Rattle.look_state.specs.Looks.{AreLooksAt, EachLook, IsLookAt, IsSeenAt, LookView, first_look, look_after, look_at, moment_at, seen_of}
use Rattle.look_state.proofs.KeptPixels.{seen_at}

-- ---- before the first entry

nobody_sees : (setup : Setup) (t : ℕ) → 0 < t → IsSeenAt setup [] t []
nobody_sees setup t some w p = ap (λ b. b && is_dirty setup [] w p) (sym (ne_eqb 0 t (λ same. omega (arith, some, same))))

-- a thread that hasn't looked
pub not_looked : (setup : Setup) (t : ℕ) → 0 < t → IsLookAt setup [] t first_look
not_looked setup t some = record { at = refl; seen = nobody_sees setup t some }

pub no_looks : (setup : Setup) (n : ℕ) (ks : List LookView) → setup.threads ≡ n → length ks ≡ n → All (λ k. k ≡ first_look) ks → AreLooksAt setup [] ks
no_looks setup n ks threads long fresh = record {
  count = long ∙ sym threads;
  each = λ i d lt. subst (IsLookAt setup [] (i + 1)) (sym (fresh i d lt)) (not_looked setup (i + 1) (omega arith));
}

-- ---- one entry more

module _ (setup : Setup) (past : Past) (e : Entry) (t : ℕ) (k : LookView) (h : IsLookAt setup (last_look past t) t k) where
  pub look_step : (m : Moment) (seen : List SeenWindow) → m ≡ moment_at (e ∷ past) → (is_look e.call ≡ true → IsSeenAt setup (e ∷ past) e.who.0 seen) → IsLookAt setup (last_look (e ∷ past) t) t (look_after t e m seen k)
  look_step m seen at sees = by (is_refused e) refl (is_look e.call) refl (eqb e.who.0 t) refl
    where
      after : (l o : Bool) → is_look e.call ≡ l → eqb e.who.0 t ≡ o → is_look_of t e ≡ (l && o)
      after l o look own = ap (λ b. b && eqb e.who.0 t) look ∙ ap (λ b. l && b) own

      kept : last_look (e ∷ past) t ≡ last_look past t → IsLookAt setup (last_look (e ∷ past) t) t k
      kept same = subst (λ l. IsLookAt setup l t k) (sym same) h

      by : (r : Bool) → is_refused e ≡ r → (l : Bool) → is_look e.call ≡ l → (o : Bool) → eqb e.who.0 t ≡ o → IsLookAt setup (last_look (e ∷ past) t) t (cond r k (cond (l && o) (look_at m seen) k))
      by true r l look o own = kept (last_look-refused e past t r)
      by false r false look o own = kept (last_look-other e past t (after false o look own))
      by false r true look false own = kept (last_look-other e past t (after true false look own))
      by false r true look true own =
          let here : last_look (e ∷ past) t ≡ e ∷ past = last_look-look e past t r (after true true look own) in
          subst (λ l. IsLookAt setup l t (look_at m seen)) (sym here) (record { at = at; seen = subst (λ (n : ℕ). IsSeenAt setup (e ∷ past) n seen) (eqb-true e.who.0 t own) (sees look) })

-- the looks of all threads
pub looks_step : (setup : Setup) (past : Past) (e : Entry) (t : Windows) (z : Layers) (s : Kept) (m : Moment) (seen : List SeenWindow) (old new : List LookView)
    → IsLawful setup (e ∷ past) → IsTreeAt past t → IsOrderAt past z → IsScreenAt setup past s → AreLooksAt setup past old → m ≡ moment_at (e ∷ past)
    → (is_look e.call ≡ true → seen ≡ seen_of t.live e.who.0 s.dirty) → EachLook (λ n. look_after n e m seen) old new → AreLooksAt setup (e ∷ past) new
looks_step setup past e t z s m seen old new lawful tree order screen before at kept_pixels each = record {
  count = each.same_length ∙ before.count;
  each = λ i d lt.
      let within : i < length old = omega (arith, lt, each.same_length) in
      subst (IsLookAt setup (last_look (e ∷ past) (i + 1)) (i + 1)) (sym (each.at i d within))
      (look_step setup past e (i + 1) (get_or old i d) (before.each i d within) m seen at
      (λ look. subst (IsSeenAt setup (e ∷ past) e.who.0) (sym (kept_pixels look)) (seen_at setup past e t z s lawful look tree order screen)));
}
