-- The spans found by `httparse` are those of the head.
use Rattle.std.proofs.Common.{sym, ◌∙◌, ap, subst, arith, codes, ◌==◌, ◌||◌}
use Rattle.std.specs.List.{list_any}
use Rattle.tfs_framing.specs.Fields.{TellsValues, fields_of, values_named}
use Rattle.tfs_framing.specs.Body.{length_of_fields}
use Rattle.tfs_framing.specs.Connection.{lists_close}
use Rattle.tfs_framing.proofs.lines.read_head.Goals as goal

pub returns-in-Ok-clause-ok : goal.returns-in-Ok-clause-ok
returns-in-Ok-clause-ok c =
    let found = c.in-Some.ensures.found in
    let h = found.0 in
    let at = found.2 in
    let few = c.if-count_line_feeds-gt-MAX_HEAD_LINES.false in
    let many = c.count_line_feeds.ensures in (
      h,
      record {
        lines = omega arith;
        is_head_of = found.1;
        body = ap (λ t. length_of_fields t (fields_of h)) (sym at.version)
            ∙ ap (λ t. length_of_fields c.in-Some.spans.version t) (sym at.fields) ∙ sym c.body_length.ensures ∙ c.in-Ok.is;
      },
      record {
        method = c.of.ensures ∙ at.method;
        target = c.of-in-Ok.ensures ∙ at.path;
        close = c.asks_to_close.ensures
            ∙ ap (λ t. c.in-Some.spans.version == 0 || list_any lists_close (values_named (codes "connection") t)) at.fields
            ∙ ap (λ t. t == 0 || list_any lists_close (values_named (codes "connection") (fields_of h))) at.version;
        digest = λ body. c.asked_digest.ensures _ body
            (subst (λ t. TellsValues c.values_named.result (values_named (codes "content-md5") t)) at.fields c.values_named.ensures);
      },
    )
