use Rattle.std.proofs.Common.{◌≡◌, Bool, true, false, cond, refl}
use Rattle.user_model.specs.Idle.{have_all_ended, ends_stuck}
use Rattle.user_model.proofs.SendStories.{send_law, sum_law}
use Rattle.log_text.specs.declared.end.End.TheVariants.{Done, Stuck, Spent, Cut}
use Rattle.log_text.specs.Ends.{setup_of, is_spent}
use Rattle.user_pool.proofs.OneRun.{run_lawful}
use Rattle.user_pool.proofs.laws.runs_answer_their_sends.Goals as goal

-- where a run is done, all threads have ended
all_ended : (ended stuck spent : Bool) → cond ended Done (cond stuck Stuck (cond spent Spent Cut)) ≡ Done → ended ≡ true
all_ended true stuck spent is = refl
all_ended false true spent is = cc
all_ended false false true is = cc
all_ended false false false is = cc

pub returns-clause-story : goal.returns-clause-story
returns-clause-story c s past send run = send_law (setup_of s) past (run_lawful s past run) send

pub returns-clause-settled : goal.returns-clause-settled
returns-clause-settled c s past run done = sum_law (setup_of s) past (run_lawful s past run) (all_ended (have_all_ended (setup_of s) past) (ends_stuck past) (is_spent s past) done)
