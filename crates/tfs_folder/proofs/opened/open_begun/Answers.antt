-- The opened journal is the rebase of its bytes.
use Rattle.std.proofs.Common.{refl}
use Rattle.std.specs.Io.KnownBytes.{prepend_known}
use Rattle.tfs_folder.proofs.OpenedLemmas.{opened_rebased, opened_ok, opened_err}
use Rattle.tfs_folder.proofs.opened.open_begun.Goals as goal

pub returns-clause-rebased : goal.returns-clause-rebased
returns-clause-rebased g c =
    opened_rebased (prepend_known c.args.fronted.front.items (g.S.Source.remaining c.args.fronted.rest)) c.rebase_following.result
    c.note_opened.result c.rebase_following.ensures.journal c.note_opened.ensures.rebased

pub returns-clause-opens : goal.returns-clause-opens
returns-clause-opens g c =
    let front = c.args.fronted.front.items in
    let known = g.S.Source.remaining in
    opened_ok (prepend_known front (known c.args.fronted.rest)) _ c.rebase_following.result c.note_opened.result refl
    c.rebase_following.ensures.journal c.note_opened.ensures.opens

pub returns-clause-err : goal.returns-clause-err
returns-clause-err g c =
    let front = c.args.fronted.front.items in
    let known = g.S.Source.remaining in
    opened_err (prepend_known front (known c.args.fronted.rest)) _ _ _ c.args.fronted.number c.rebase_following.result c.note_opened.result refl
    c.rebase_following.ensures.journal c.rebase_following.ensures.err c.note_opened.ensures.err
