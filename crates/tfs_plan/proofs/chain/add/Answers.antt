-- The search has one step more.
use Rattle.std.proofs.Common.{true, refl}
use Rattle.std.specs.Vec.{with_item}
use Rattle.tfs_plan.proofs.SearchLemmas.{grows_more, has_new}
use Rattle.tfs_plan.proofs.chain.add.Goals as goal

pub returns-clause-grows : goal.returns-clause-grows
returns-clause-grows c =
    grows_more c.args.doc.now c.args.starts.now c.args.found.now
    (record { steps = c.push.new.self; is_found = with_item c.args.found.now.is_found c.args.u true })
    (record { instance = c.args.u; before = c.args.before }) c.in_ok-push.ensures.items refl
    c.requires.instance c.requires.new c.requires.follows

pub returns-clause-added : goal.returns-clause-added
returns-clause-added c =
    has_new c.args.doc.now c.args.starts.now c.args.found.now
    (record { steps = c.push.new.self; is_found = with_item c.args.found.now.is_found c.args.u true })
    (record { instance = c.args.u; before = c.args.before }) c.in_ok-push.ensures.items refl
