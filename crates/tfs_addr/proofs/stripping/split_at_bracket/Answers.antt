-- The text is split at its first bracket.
use Rattle.std.proofs.Common.{arith}
use Rattle.tfs_addr.specs.Address.{opening, closing}
use Rattle.tfs_addr.proofs.EitherLemmas.{FindsEither, either-texts, either-front, either-back, either-whole}
use Rattle.tfs_addr.proofs.stripping.split_at_bracket.Goals as goal

pub returns-clause-texts : goal.returns-clause-texts
returns-clause-texts c =
    let found : FindsEither opening closing (omega arith) (omega arith) c.args.text.now c.find_either.result =
    rw c.as_bytes.ensures.value at c.find_either.ensures in
    rw (c.split_at.ensures.front, c.split_at.ensures.back, c.unwrap_or-at.ensures)
    (either-texts opening closing (omega arith) (omega arith) c.args.text.now c.find_either.result c.utf8.text found)

pub returns-clause-whole : goal.returns-clause-whole
returns-clause-whole c =
    let found : FindsEither opening closing (omega arith) (omega arith) c.args.text.now c.find_either.result =
    rw c.as_bytes.ensures.value at c.find_either.ensures in
    rw (c.split_at.ensures.front, c.split_at.ensures.back, c.unwrap_or-at.ensures)
    (either-whole opening closing (omega arith) (omega arith) c.args.text.now c.find_either.result c.utf8.text found)

pub returns-clause-front : goal.returns-clause-front
returns-clause-front c =
    let found : FindsEither opening closing (omega arith) (omega arith) c.args.text.now c.find_either.result =
    rw c.as_bytes.ensures.value at c.find_either.ensures in
    rw (c.split_at.ensures.front, c.unwrap_or-at.ensures)
    (either-front opening closing (omega arith) (omega arith) c.args.text.now c.find_either.result c.utf8.text found)

pub returns-clause-back : goal.returns-clause-back
returns-clause-back c =
    let found : FindsEither opening closing (omega arith) (omega arith) c.args.text.now c.find_either.result =
    rw c.as_bytes.ensures.value at c.find_either.ensures in
    rw (c.split_at.ensures.back, c.unwrap_or-at.ensures)
    (either-back opening closing (omega arith) (omega arith) c.args.text.now c.find_either.result c.utf8.text found)
