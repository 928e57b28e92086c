-- The number of texts is refused for any version of the state.
use Rattle.std.proofs.Common.{◌≡◌, ◌<◌, length, rules}
use Rattle.tfs_calls.proofs.QueryLemmas.{no_text_refused, many_texts_refused}
use Rattle.tfs_calls.proofs.impact.refusal_of_count.Goals as goal

pub returns-then-is_empty-clause-some : goal.returns-then-is_empty-clause-some
returns-then-is_empty-clause-some c =
    let none : length c.args.query.now.texts ≡ 0 = search rules in
    no_text_refused c.args.version.now c.args.query.now none

pub returns-then-texts-gt-MAX_TEXTS-clause-some : goal.returns-then-texts-gt-MAX_TEXTS-clause-some
returns-then-texts-gt-MAX_TEXTS-clause-some c =
    let many : 64 < length c.args.query.now.texts = search rules in
    many_texts_refused c.args.version.now c.args.query.now many
