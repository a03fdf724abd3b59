use Rattle.std.proofs.Common.{refl}
use Rattle.log_read.specs.Words.{counts_words}
use Rattle.log_read.proofs.EntryParts.{count_read}
use Rattle.log_read.proofs.OneLog.{counts_of}
use Rattle.log_read.proofs.ending.counts_at.Goals as goal

pub returns-clause-again : goal.returns-clause-again
returns-clause-again c d fits same =
    counts_of _ d
    (count_read _ (counts_words d) 2 d.begun _ _ same refl fits.begun c.word_at.ensures c.small_at.ensures)
    (count_read _ (counts_words d) 4 d.entered _ _ same refl fits.entered c.word_at-2.ensures c.small_at-2.ensures)
    (count_read _ (counts_words d) 6 d.by_proc _ _ same refl fits.by_proc c.word_at-3.ensures c.small_at-3.ensures)
    (count_read _ (counts_words d) 8 d.by_reply _ _ same refl fits.by_reply c.word_at-4.ensures c.small_at-4.ensures)
    (count_read _ (counts_words d) 10 d.by_loss _ _ same refl fits.by_loss c.word_at-5.ensures c.small_at-5.ensures)
    (count_read _ (counts_words d) 12 d.by_timeout _ _ same refl fits.by_timeout c.word_at-6.ensures c.small_at-6.ensures)
    (count_read _ (counts_words d) 14 d.unfinished _ _ same refl fits.unfinished c.word_at-7.ensures c.small_at-7.ensures)
