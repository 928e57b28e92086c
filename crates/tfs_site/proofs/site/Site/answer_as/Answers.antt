-- The user is the one in the request's header field.
use Rattle.std.proofs.Common.{◌∙◌, ap, subst}
use Rattle.std.specs.Char.{to_ascii_lowercase}
use Rattle.std.specs.Prelude.{Option, IfOk, map}
use Rattle.http_header.specs.FieldValue.{FieldValue}
use Rattle.http_header.specs.HeaderMap.{get}
use Rattle.tfs_site.specs.Answers.{IsForField}
use Rattle.tfs_site.proofs.site.Site.answer_as.Goals as goal

pub returns-in-Some-clause-user : goal.returns-in-Some-clause-user
returns-in-Some-clause-user g c = λ is.
    subst (λ (field : Option FieldValue). IfOk c.answer_by.result (IsForField field c.args.asked))
    (c.get-field.ensures.value ∙ ap (λ headers. get headers (map to_ascii_lowercase c.args.self.now.source.now.user_header.now)) c.headers.ensures)
    c.answer_by.ensures
