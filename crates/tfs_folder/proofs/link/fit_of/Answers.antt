-- The two prefix tests give the relation of the bytes to the text.
use Rattle.tfs_folder.proofs.LinkLemmas.{begins, fit_whole, fit_part, fit_neither}
use Rattle.tfs_folder.proofs.link.fit_of.Goals as goal

pub returns-then-starts_with-clause-fit : goal.returns-then-starts_with-clause-fit
returns-then-starts_with-clause-fit c = λ bytes is.
    fit_whole bytes c.args.text.now c.args.front.now c.starts_with.result is c.starts_with.ensures.value c.if-starts_with.true

pub returns-then-starts_with-2-clause-fit : goal.returns-then-starts_with-2-clause-fit
returns-then-starts_with-2-clause-fit c = λ bytes is.
    fit_part bytes c.args.text.now c.args.front.now c.starts_with.result c.starts_with-else-starts_with.result is
    c.starts_with.ensures.value c.if-starts_with.false c.starts_with-else-starts_with.ensures.value c.if-starts_with-2.true

pub returns-else-starts_with-2-clause-fit : goal.returns-else-starts_with-2-clause-fit
returns-else-starts_with-2-clause-fit c = λ bytes is.
    fit_neither bytes c.args.text.now c.args.front.now c.starts_with.result c.starts_with-else-starts_with.result is
    c.starts_with.ensures.value c.if-starts_with.false c.starts_with-else-starts_with.ensures.value c.if-starts_with-2.false

pub returns-then-starts_with-clause-begins : goal.returns-then-starts_with-clause-begins
returns-then-starts_with-clause-begins c = λ is.
    begins c.args.front.now c.args.text.now c.starts_with.result c.starts_with.ensures.value c.if-starts_with.true
