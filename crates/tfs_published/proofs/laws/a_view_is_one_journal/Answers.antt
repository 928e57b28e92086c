-- A view is one journal.
use Rattle.tfs_published.proofs.Beginnings.{begins_with_itself, begins_with_earlier, longer_begins, later_begins}
use Rattle.tfs_published.proofs.laws.a_view_is_one_journal.Goals as goal

pub returns-clause-itself : goal.returns-clause-itself
returns-clause-itself c = begins_with_itself

pub returns-clause-earlier : goal.returns-clause-earlier
returns-clause-earlier c = begins_with_earlier

pub returns-clause-longer : goal.returns-clause-longer
returns-clause-longer c = longer_begins

pub returns-clause-more : goal.returns-clause-more
returns-clause-more c = later_begins
