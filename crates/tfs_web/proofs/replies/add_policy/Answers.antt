-- The policy, and then the fields of caution.
use Rattle.std.proofs.Common.{ℕ, List, ap, ◌∙◌, ◌++◌, ◌∷◌, [], codes}
use Rattle.std.proofs.lemmas.List.{append_assoc}
use Rattle.std.proofs.lemmas.Result.{on_ok_weaker}
use Rattle.http_header.specs.FieldValue.{FieldValue}
use Rattle.http_server.specs.Response.{fields_of}
use Rattle.tfs_web.specs.Replies.{caution_fields, policy_text}
use Rattle.tfs_web.proofs.replies.add_policy.Goals as goal

pub returns-clause-fields : goal.returns-clause-fields
returns-clause-fields c =
    let before = fields_of c.args.response.now in
    on_ok_weaker c.add_caution.result
    (λ is. is ∙ ap (λ front. front ++ caution_fields) c.in_ok-add_header.ensures.headers
    ∙ ap (λ (value : List ℕ). before ++ (codes "content-security-policy", value) ∷ [] ++ caution_fields)
    (ap (λ (value : FieldValue). value.bytes) c.policy.ensures)
    ∙ append_assoc before ((codes "content-security-policy", policy_text) ∷ []) caution_fields)
    c.add_caution.ensures.fields
