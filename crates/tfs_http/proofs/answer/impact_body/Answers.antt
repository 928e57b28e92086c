-- The text of the JSON is the body.
use Rattle.std.specs.Arc.{arc_value}
use Rattle.serde_json.specs.View.{view}
use Rattle.tfs_http.proofs.AnswerLemmas.{body_printed}
use Rattle.tfs_http.proofs.answer.impact_body.Goals as goal

pub returns : goal.returns
returns c = body_printed c.to_string.result (view c.in_ok-value.value) (arc_value c.args.answer.now.version) c.args.answer.now.chosen c.args.answer.now.position
    (cc (c.in_ok-value.ensures, c.doc.ensures.value, c.as_slice.ensures.value, c.deref.ensures, c.deref-2.ensures)) c.to_string.ensures.text
