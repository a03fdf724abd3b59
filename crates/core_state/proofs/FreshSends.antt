-- No sends stand for no entries.
use Rattle.std.proofs.Common.{◌≡◌, ℕ, zero, suc, ◌-◌, List, [], get_or, replicate, refl, ap, sym, subst, arith}
use Rattle.std.proofs.lemmas.List.{length-replicate}
use Rattle.std.specs.Prelude.{map as each}
use Rattle.std.specs.FinMap.{get-empty}
use Rattle.std.specs.Ordering.{nat_cmp}
use Rattle.win_num.specs.declared.send.Frame.{Frame}
use Rattle.user_model.specs.declared.entry.Setup.{Setup}
use Rattle.user_model.specs.Setups.{IsSetup}
use Rattle.send_variants.specs.Lists.{AreBelow, Entry}
use Rattle.send_variants.proofs.Entries.{sound-new}
use Rattle.send_state.specs.Parts.{no_parts, rank}
use Rattle.send_state.specs.Standing.{PartsStand, item}
use Rattle.win_order.specs.Layers.{Layers, empty}
use Rattle.win_order.proofs.KeptLaws.{empty_kept}
use Rattle.window_state.specs.Orders.{IsOrderAt}
use Rattle.window_state.specs.Trees.{IsTreeAt}
use Rattle.win_rows.specs.Windows.{Windows, no_windows}
use Rattle.user_model.specs.declared.story.SendStory.{SendStory}
use Rattle.send_state.specs.Stories.{StoriesStand}

no_frames : (n i : ℕ) → get_or (replicate n (let fs : List Frame = [] in fs)) i [] ≡ []
no_frames zero i = refl
no_frames (suc n) zero = refl
no_frames (suc n) (suc i) = no_frames n i

no_items : (n i : ℕ) → get_or (replicate n (let es : List Entry = [] in es)) i [] ≡ []
no_items zero i = refl
no_items (suc n) zero = refl
no_items (suc n) (suc i) = no_items n i

-- a state without sends stands for a history without entries
pub no_parts_stand : (setup : Setup) → IsSetup setup → PartsStand setup [] (no_parts setup.threads)
no_parts_stand setup is = record {
  book = record {
    begun = refl;
    threads = length-replicate setup.threads [];
    stacks = λ t ours. no_frames setup.threads (t - 1);
    known = λ s. get-empty nat_cmp s;
  };
  lists = record {
    threads = length-replicate setup.threads [];
    ready = λ t ours. ap (each item) (no_items setup.threads (t - 1));
    below = λ t. subst (AreBelow (rank 0 0)) (sym (no_items setup.threads (t - 1))) tt;
    sound = sound-new setup.threads is.size.some_thread is.size.few_threads;
  };
}

-- no window stands in an order yet
pub no_order : (z : Layers) → z ≡ empty → IsOrderAt [] z
no_order z is = subst (IsOrderAt []) (sym is) (record { standings = refl; lists = λ p. refl; kept = empty_kept })

-- no window stands in a table yet
pub no_tree : (t : Windows) → t ≡ no_windows → IsTreeAt [] t
no_tree t is = subst (IsTreeAt []) (sym is) (record { last = refl; windows = refl; marks = tt; looks = tt })

-- no send has a story yet
pub no_stories : (l : List SendStory) → l ≡ [] → StoriesStand [] l
no_stories l is = subst (StoriesStand []) (sym is) (record { all = refl; at = λ i d less. absurd (omega (arith, less)) })
