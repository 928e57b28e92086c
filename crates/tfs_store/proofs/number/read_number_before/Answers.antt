-- The text is split where the number ends.
use Rattle.std.proofs.Common.{◌≡◌, Some, subst}
use Rattle.tfs_store.proofs.TextLemmas.{IsSplit, split_number}
use Rattle.tfs_store.proofs.number.read_number_before.Goals as goal

pub returns-in_err-digits-clause-written : goal.returns-in_err-digits-clause-written
returns-in_err-digits-clause-written c n rest fits are =
    let parts : IsSplit n rest c.split_once.result =
    split_number n c.args.mark c.args.text.now rest c.split_once.result c.split_once.ensures.cases fits c.requires are in
    absurd (subst (IsSplit n rest) c.in_err-digits.was parts)

pub returns-in_err-number-clause-written : goal.returns-in_err-number-clause-written
returns-in_err-number-clause-written c n rest fits are =
    let parts = subst (IsSplit n rest) c.in_ok-digits.was
    (split_number n c.args.mark c.args.text.now rest c.split_once.result c.split_once.ensures.cases fits c.requires are) in
    let gives : c.read_number.result ≡ Some n = c.read_number.ensures.written n fits parts.0 in
    absurd (cc (c.in_err-number.was))

pub returns-clause-written : goal.returns-clause-written
returns-clause-written c n rest fits are =
    let parts = subst (IsSplit n rest) c.in_ok-digits.was
    (split_number n c.args.mark c.args.text.now rest c.split_once.result c.split_once.ensures.cases fits c.requires are) in
    let gives : c.read_number.result ≡ Some n = c.read_number.ensures.written n fits parts.0 in
    (cc (c.in_ok-number.was), parts.1)
