-- The hold covers at least the mark of the session's journal, and makes the record of the change.
use Rattle.tfs_serve.proofs.held_desk.HeldDesk.answer.Goals as goal

pub returns-clause-held : goal.returns-clause-held
returns-clause-held g c = λ covered. (c.mark-mark.result, c.mark-mark.ensures.least, c.covers-is_opened.ensures.durable covered)

pub returns-clause-recorded : goal.returns-clause-recorded
returns-clause-recorded g c = λ covered. (c.record-number.result, c.record-number.ensures, c.covers-is_opened.ensures.made covered)
