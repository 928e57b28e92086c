-- A user may read what the access file lets the user read.
use Rattle.std.proofs.Common.{◌↔◌, IfOk, IsTrue, subst, sym}
use Rattle.tfs_web_answers.specs.Readers.{Reads, rights_of}
use Rattle.tfs_web_answers.proofs.readers.Reader.may_read.Goals as goal

pub returns-in-User-clause-value : goal.returns-in-User-clause-value
returns-in-User-clause-value c =
    subst (λ reader. IfOk c.may_read.result (λ may. IsTrue may ↔ Reads (rights_of reader) c.args.name.now)) (sym c.in-User.is) c.may_read.ensures.value
