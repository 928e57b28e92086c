-- Without a line feed in the window there is no line yet. Otherwise the window has a valid chunk
-- line, or the line is bad.
use Rattle.std.proofs.Common.{refl, sym, arith, ◌∙◌}
use Rattle.tfs_framing.proofs.SoughtLemmas.{all_in_window}
use Rattle.tfs_framing.proofs.PartLemmas.{line_in_window, bad_line_in_window, long_line_in_window}
use Rattle.tfs_framing.proofs.PartLemmas.{no_feed_in_window, no_line_without_feed, all_seen}
use Rattle.tfs_framing.proofs.chunks.chunk_line_at.Goals as goal

pub returns-in-Some-clause-found : goal.returns-in-Some-clause-found
returns-in-Some-clause-found c =
    let found = c.in-Some.ensures.found in
    let k = c.min.ensures in
    (found.0, line_in_window _ _ _ _ _ found.0 (omega arith) c.split_at.ensures.front found.1)

pub returns-in-None-clause-err : goal.returns-in-None-clause-err
returns-in-None-clause-err c = (
  refl,
  bad_line_in_window _ _ _ _ _ c.min.ensures c.split_at.ensures.front c.in-None.ensures.absent c.split_at-2.ensures.back
      (sym c.contains.ensures.value ∙ c.if-contains.true),
)

pub returns-then-left-ge-MAX_CHUNK_LINE_BYTES-clause-err : goal.returns-then-left-ge-MAX_CHUNK_LINE_BYTES-clause-err
returns-then-left-ge-MAX_CHUNK_LINE_BYTES-clause-err c =
    let none = no_feed_in_window _ _ _ _ _ _ c.requires c.split_at.ensures.front c.min-2.ensures c.split_at-2.ensures.back
    (sym c.contains.ensures.value ∙ c.if-contains.false) in
    (refl, long_line_in_window _ _ _ c.min.ensures c.split_at.ensures.front (no_line_without_feed _ none) c.if-left-ge-MAX_CHUNK_LINE_BYTES.true)

pub returns-else-left-ge-MAX_CHUNK_LINE_BYTES-clause-absent : goal.returns-else-left-ge-MAX_CHUNK_LINE_BYTES-clause-absent
returns-else-left-ge-MAX_CHUNK_LINE_BYTES-clause-absent c =
    let few = c.if-left-ge-MAX_CHUNK_LINE_BYTES.false in
    let none = no_feed_in_window _ _ _ _ _ _ c.requires c.split_at.ensures.front c.min-2.ensures c.split_at-2.ensures.back
    (sym c.contains.ensures.value ∙ c.if-contains.false) in
    let all = all_in_window _ _ _ 1024 c.min.ensures c.split_at.ensures.front (omega arith) in
    (all_seen _ _ all none, few)
