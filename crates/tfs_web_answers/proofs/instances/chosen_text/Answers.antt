-- The printed JSON has the rows of the chosen instances.
use Rattle.serde_json.specs.View.{view}
use Rattle.tfs_web_answers.proofs.InstanceLemmas.{rows_printed}
use Rattle.tfs_web_answers.proofs.instances.chosen_text.Goals as goal

pub returns : goal.returns
returns c = rows_printed c.to_string.result (view c.in_ok-answer.answer) c.args.doc.now c.numbers-numbers.result c.args.chosen.now c.args.position
    c.numbers-numbers.ensures.value (cc (c.in_ok-answer.ensures, c.in_ok-rows.ensures)) c.to_string.ensures.text
