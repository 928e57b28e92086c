-- The row is packed if there are fewer than 4,097 rows.
use Rattle.std.proofs.Common.{arith, refl}
use Rattle.std.proofs.lemmas.Result.{on_ok_weaker}
use Rattle.tfs_state.proofs.PackedLemmas.{row_kept, row_passed}
use Rattle.tfs_state.proofs.packed.Packed.keep.Goals as goal

pub returns-then-len-lt-MAX_ROWS : goal.returns-then-len-lt-MAX_ROWS
returns-then-len-lt-MAX_ROWS c = on_ok_weaker c.add.result (row_kept c.args.self.now c.add.new.self c.args.row (omega arith)) c.add.ensures

pub returns : goal.returns
returns c = row_passed c.args.self.now (record c.args.self.now { rows = c.truncate.new.self }) c.args.row (omega arith) refl c.truncate.ensures.items
