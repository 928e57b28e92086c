-- The appended text is the head.
use Rattle.std.proofs.Common.{◌∙◌, decimal, sym, ap}
use Rattle.tfs_http.proofs.ReplyLemmas.{head_added}
use Rattle.tfs_http.proofs.reply.push_head.Goals as goal

pub returns-clause-ok : goal.returns-clause-ok
returns-clause-ok c = λ body e.
    head_added c.args.status c.args.allow.now c.close_line.result.now c.type_line.result.now c.format.result.now body
    c.args.out.now.items _ _ _ c.args.form c.close_line.ensures (c.type_line.ensures body e) (c.format.ensures.text ∙ ap decimal (sym e))
    c.in_ok-push_status_line.ensures.ok c.in_ok-push_three.ensures.ok c.in_ok-push_three-2.ensures.ok
