use Rattle.std.proofs.Common.{◌≡◌, ◌∙◌, ℕ, Bool, true, false, refl, ap, arith}
use Rattle.win_num.specs.declared.names.TheConstants.{QS_KEY, QS_MOUSEBUTTON, QS_MOUSEMOVE, QS_PAINT, QS_POSTMESSAGE, QS_SENDMESSAGE, QS_TIMER}
use Rattle.queue_status.specs.Counts.{is_there, none_there}
use Rattle.queue_status.specs.Kinds.{Counts, bit_where as bit_counted, bits_where, changed}
use Rattle.user_model.specs.Status.{bit_where}
use Rattle.core_state.specs.declared.kinds.Found.{Found}
use Rattle.core_state.specs.Status.{bits_of, one_where}
use Rattle.core_state.proofs.kinds.Found.bits.Goals as goal

-- one of a kind that came is there
came : (test : Bool) (bit : ℕ) → bit_counted (is_there (one_where test none_there)) bit ≡ bit_where test bit
came true bit = refl
came false bit = refl

-- what came of each kind
abbrev all_came : Found → Counts
all_came f = record {
  key = one_where f.key none_there;
  moved = one_where f.moved none_there;
  button = one_where f.button none_there;
  posted = one_where f.posted none_there;
  timer = one_where f.timer none_there;
  paint = one_where f.paint none_there;
  sent = one_where f.sent none_there;
}

all_told : (f : Found) → bits_where is_there (all_came f) ≡ bits_of f
all_told f = omega (arith, came f.key QS_KEY, came f.moved QS_MOUSEMOVE, came f.button QS_MOUSEBUTTON, came f.posted QS_POSTMESSAGE, came f.timer QS_TIMER, came f.paint QS_PAINT, came f.sent QS_SENDMESSAGE)

-- src/kinds.rt:34:5
pub returns-clause-value : goal.returns-clause-value
returns-clause-value c =
    let f : Found = c.args.self in
    let key = c.come_where.ensures ∙ ap (changed QS_KEY (one_where f.key)) c.new-bits.ensures in
    let moved = c.come_where-2.ensures ∙ ap (changed QS_MOUSEMOVE (one_where f.moved)) key in
    let button = c.come_where-3.ensures ∙ ap (changed QS_MOUSEBUTTON (one_where f.button)) moved in
    let posted = c.come_where-4.ensures ∙ ap (changed QS_POSTMESSAGE (one_where f.posted)) button in
    let timer = c.come_where-5.ensures ∙ ap (changed QS_TIMER (one_where f.timer)) posted in
    let paint = c.come_where-6.ensures ∙ ap (changed QS_PAINT (one_where f.paint)) timer in
    let sent : c.come_where-7.new.bits ≡ all_came f = c.come_where-7.ensures ∙ ap (changed QS_SENDMESSAGE (one_where f.sent)) paint in
    c.from.ensures ∙ c.now.ensures.bits ∙ ap (bits_where is_there) sent ∙ all_told f
