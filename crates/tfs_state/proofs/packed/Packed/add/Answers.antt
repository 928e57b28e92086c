-- One more row is packed, with its dependencies after those of the other rows.
use Rattle.std.proofs.Common.{◌∙◌, ap, refl, arith, ◌++◌}
use Rattle.tfs_state.proofs.PackedLemmas.{rows_packed}
use Rattle.tfs_state.proofs.packed.Packed.add.Goals as goal

pub returns : goal.returns
returns c = rows_packed c.args.self.now (record { rows = c.push.new.self; numbers = c.extend_from_slice.new.self })
    (record { block = c.args.row.block; tail = c.args.row.tail; start = c.in_ok-start.start; end = c.in_ok-end.end })
    c.args.row refl refl (omega (arith, c.in_ok-start.ensures.ok)) (omega (arith, c.in_ok-end.ensures.ok))
    (c.in_ok-extend_from_slice.ensures.items ∙ ap (λ ns. c.args.self.now.numbers.items ++ ns) c.as_slice.ensures.value)
    c.in_ok-push.ensures.items
