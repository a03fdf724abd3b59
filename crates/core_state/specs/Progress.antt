-- How far a past has come, before an entry and after it.
use Rattle.user_model.specs.declared.entry.Entry.{Entry}
use Rattle.user_model.specs.Places.{corner_of_screen}
use Rattle.thread_queues.specs.Changes.{count_kept, time_kept}
use Rattle.pending_state.specs.Changes.{counted_with, cursor_with}
use Rattle.core_state.specs.declared.progress.Progress.{Progress}
use Rattle.look_state.specs.declared.moment.Moment.{Moment}

-- before the first entry
abbrev pub no_progress : Progress
no_progress = record { posts = 0; inputs = 0; time = 0; cursor = corner_of_screen }

-- after one entry more
abbrev pub progressed : Entry → Progress → Progress
progressed e p = record { posts = count_kept e.answer p.posts; inputs = counted_with e.answer p.inputs; time = time_kept e p.time; cursor = cursor_with e.answer e.call p.cursor }

-- what a look keeps of it
abbrev pub moment_of : Progress → Moment
moment_of p = record { inputs = p.inputs; time = p.time }
