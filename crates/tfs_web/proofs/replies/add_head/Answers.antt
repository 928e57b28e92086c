-- The fields of the body, and then those of the policy.
use Rattle.std.proofs.Common.{ap, ◌∙◌, ◌++◌}
use Rattle.std.proofs.lemmas.Result.{on_ok_weaker}
use Rattle.std.proofs.lemmas.List.{append_assoc}
use Rattle.http_server.specs.Response.{fields_of}
use Rattle.tfs_web.specs.Replies.{content_fields, policy_fields}
use Rattle.tfs_web.proofs.replies.add_head.Goals as goal

pub returns-clause-fields : goal.returns-clause-fields
returns-clause-fields c =
    on_ok_weaker c.add_policy.result
    (λ is. is ∙ ap (λ front. front ++ policy_fields) c.in_ok-add_content.ensures.fields
    ∙ append_assoc (fields_of c.args.response.now) (content_fields c.args.content) policy_fields)
    c.add_policy.ensures.fields
