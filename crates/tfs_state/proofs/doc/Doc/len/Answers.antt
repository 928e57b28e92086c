-- The number of rows is the number of instances.
use Rattle.std.proofs.Common.{arith}
use Rattle.tfs_state.proofs.DocLemmas.{kept_length, kept_limit}
use Rattle.tfs_state.proofs.doc.Doc.len.Goals as goal

pub returns-clause-value : goal.returns-clause-value
returns-clause-value c =
    let long = kept_length c.self.inside.bytes.items c.self.inside.content c.self.invariant c.args.self.now c.self.view_is in omega (arith, long)

pub returns-clause-limit : goal.returns-clause-limit
returns-clause-limit c =
    let long = kept_length c.self.inside.bytes.items c.self.inside.content c.self.invariant c.args.self.now c.self.view_is in
    let few = kept_limit c.self.inside.bytes.items c.self.inside.content c.self.invariant c.args.self.now c.self.view_is in omega (arith, long, few)
