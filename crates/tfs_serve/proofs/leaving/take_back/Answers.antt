-- If all sessions are new, the table can be taken back, with the opening journal.
use Rattle.tfs_serve.proofs.Returning as returning
use Rattle.tfs_serve.proofs.leaving.take_back.Goals as goal

pub unreachable-requires : goal.unreachable-requires
unreachable-requires g c =
    returning.no_strangers _ _ _ _ c.requires.new.1.many (returning.all_new _ _ _ _ c.requires.new.1) c.in-Err.ensures.missing c.in-Err.ensures.ahead

pub returns : goal.returns
returns g c = record {
  journal = returning.taken_back _ _ _ (returning.all_new _ _ _ _ c.requires.new.1) c.in-Ok.ensures.opening c.in-Ok.ensures.counted;
}
