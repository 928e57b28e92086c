-- The first line feed before an empty line ends the head; until then each byte is passed.
use Rattle.tfs_framing.proofs.HeadLemmas.{head_found, byte_passed}
use Rattle.tfs_framing.proofs.SoughtLemmas.{passed_start}
use Rattle.tfs_framing.proofs.head.head_len.Goals as goal

pub loop-byte-init : goal.loop-byte-init
loop-byte-init c = (_, passed_start _ _ _ _ c.requires c.min.ensures c.split_at.ensures.back)

pub returns-in-Some-strip_empty_line-clause-found :
    goal.returns-in-Some-strip_empty_line-clause-found
returns-in-Some-strip_empty_line-clause-found c =
    let passed = c.loop-byte.invariant in
    let found = c.in-Some-strip_empty_line.ensures.found in
    head_found _ passed.0 _ _ _ _ found.0 passed.1 c.in-Some.ensures.cases.0 c.if-byte-eq10.true found.1

pub loop-byte-preserved-in_default-strip_empty_line :
    goal.loop-byte-preserved-in_default-strip_empty_line
loop-byte-preserved-in_default-strip_empty_line c =
    let passed = c.loop-byte.invariant in
    byte_passed _ passed.0 _ _ _ passed.1 c.in-Some.ensures.cases.0 (λ _. c.in_default-strip_empty_line.ensures.absent)

pub loop-byte-preserved : goal.loop-byte-preserved
loop-byte-preserved c =
    let passed = c.loop-byte.invariant in
    byte_passed _ passed.0 _ _ _ passed.1 c.in-Some.ensures.cases.0 (λ same _. c.if-byte-eq10.false same)
