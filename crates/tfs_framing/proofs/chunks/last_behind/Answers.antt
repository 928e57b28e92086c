-- The trailer ends in the window, is incomplete, or is too long.
use Rattle.std.proofs.Common.{arith, ap, length, ◌∙◌}
use Rattle.tfs_framing.proofs.PassedLemmas.{last_there, last_wanted, passed_fits, passed_flawed}
use Rattle.tfs_framing.proofs.TrailerLemmas.{from_line_feed, trailer_found, no_trailer, end_there, trailer_wanted, trailer_bad, trailer_passed, trailer_sought}
use Rattle.tfs_framing.proofs.chunks.last_behind.Goals as goal

pub head_len-requires : goal.head_len-requires
head_len-requires c =
    let last = c.requires.last in
    trailer_passed _ _ _ last.1.after _ c.split_at-2.ensures.front (c.split_at.ensures.back ∙ from_line_feed _ _ _ last.0 last.1) last.2

pub returns-in-Some : goal.returns-in-Some
returns-in-Some c = λ rest count body p.
    let found = c.in-Some.ensures.found in
    let line = p.stands.2 in
    let at = p.stands.3 in
    let trailer = trailer_found _ _ found.0 found.1 _ at.after _ _ c.min.ensures c.split_at-2.ensures.front found.2 found.3 found.4
    (c.split_at.ensures.back ∙ from_line_feed _ _ _ line at) c.split_at-in-Some.ensures.back in
    last_there rest count body _ _ _ _ p (end_there count (length body) c.args.len _ trailer.0 _ line at trailer.1 trailer.2)

pub returns-then-from-le-MAX_TRAILER_BYTES : goal.returns-then-from-le-MAX_TRAILER_BYTES
returns-then-from-le-MAX_TRAILER_BYTES c = λ rest count body p.
    let line = p.stands.2 in
    let at = p.stands.3 in
    let starts = c.split_at.ensures.back ∙ from_line_feed _ _ _ line at in
    let sizes = ap length starts in
    let few = c.if-from-le-MAX_TRAILER_BYTES.true in
    let none = no_trailer _ _ at.after _ c.min.ensures c.split_at-2.ensures.front starts c.in-None.ensures.absent in
    last_wanted rest count body _ _ _ _ _ c.split_at-then-from-le-MAX_TRAILER_BYTES.ensures.front p
    (trailer_sought _ _ at.after _ _ c.min.ensures c.split_at-2.ensures.front starts few c.in-None.ensures.absent c.saturating_sub-passed.ensures)
    (omega arith) (trailer_wanted count (length body) c.args.len _ line at (passed_fits rest count body _ _ p).1 (omega arith) none)

pub returns-else-from-le-MAX_TRAILER_BYTES : goal.returns-else-from-le-MAX_TRAILER_BYTES
returns-else-from-le-MAX_TRAILER_BYTES c = λ rest count body p.
    let line = p.stands.2 in
    let at = p.stands.3 in
    let starts = c.split_at.ensures.back ∙ from_line_feed _ _ _ line at in
    let sizes = ap length starts in
    let many = c.if-from-le-MAX_TRAILER_BYTES.false in
    passed_flawed rest count body _ _ _ p p.stands.0 p.stands.1
    (trailer_bad count (length body) c.args.len _ line at (passed_fits rest count body _ _ p).1 (omega arith)
    (no_trailer _ _ at.after _ c.min.ensures c.split_at-2.ensures.front starts c.in-None.ensures.absent))
