-- The head of the window is the head of the bytes; if the window has none, the bytes have none.
use Rattle.std.proofs.Common.{◌++◌, refl}
use Rattle.tfs_framing.proofs.HeadLemmas.{head_of_window, no_head_of_window}
use Rattle.tfs_framing.proofs.SoughtLemmas.{window_blank, passed_behind, sought_so_far}
use Rattle.tfs_framing.proofs.head.find_head.Goals as goal

pub head_len-requires : goal.head_len-requires
head_len-requires c =
    let more = c.skip_empty_lines-text.ensures.skipped in
    passed_behind _ _ _ _ _ _ _ more.0 c.min.ensures c.split_at.ensures.front c.split_at-2.ensures.back c.requires more.1 c.saturating_sub-passed.ensures

pub returns-in-Some-clause-found : goal.returns-in-Some-clause-found
returns-in-Some-clause-found c =
    let more = c.skip_empty_lines-text.ensures.skipped in
    let found = c.in-Some.ensures.found in
    let blank = window_blank _ _ _ _ _ _ more.0 c.min.ensures c.split_at.ensures.front c.split_at-2.ensures.back c.requires more.1 in (
      c.requires.lines ++ more.0,
      head_of_window _ _ _ found.0 found.1 _ _ (c.requires.lines ++ more.0) _ _ c.min.ensures c.split_at.ensures.front blank
          c.skip_empty_lines-text.ensures.rest found.2 found.3 found.4 c.split_at-in-Some.ensures.front c.split_at-in-Some-2.ensures.back,
    )

pub returns-in-None-clause-absent : goal.returns-in-None-clause-absent
returns-in-None-clause-absent c =
    let more = c.skip_empty_lines-text.ensures.skipped in
    let blank = window_blank _ _ _ _ _ _ more.0 c.min.ensures c.split_at.ensures.front c.split_at-2.ensures.back c.requires more.1 in
    no_head_of_window _ _ _ (c.requires.lines ++ more.0) _ c.min.ensures c.split_at.ensures.front blank c.skip_empty_lines-text.ensures.rest
    c.in-None.ensures.absent

pub returns-in-None-clause-sought : goal.returns-in-None-clause-sought
returns-in-None-clause-sought c =
    let more = c.skip_empty_lines-text.ensures.skipped in
    sought_so_far _ _ _ _ _ _ _ more.0 c.min.ensures c.split_at.ensures.front c.split_at-2.ensures.back c.requires more.1 c.in-None.ensures.absent
    refl c.saturating_sub.ensures
