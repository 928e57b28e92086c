-- Lemmas about what is known of an incomplete message: it remains when more bytes follow.
use Rattle.std.proofs.Common.{ℕ, List, [], ◌++◌, refl, sym, ◌∙◌, ap, arith, append_assoc}
use Rattle.httparse.specs.Grammar.{print_blank, print_chunk_line, ChunkLine}
use Rattle.tfs_framing.specs.Sought.{HasNoEndYet, IsSought}
use Rattle.tfs_framing.specs.Parts.{IsLineAt, HasNoFeedIn}
use Rattle.tfs_framing.specs.declared.head.Search.{Search}
use Rattle.tfs_framing.proofs.SoughtLemmas.{none_at_first}

-- A search that hasn't begun is right for any bytes.
pub nothing_sought : (bytes : List ℕ) → IsSought bytes (record { skipped = 0; passed = 0 })
nothing_sought bytes = record {
  lines = [];
  text = bytes;
  parts = refl;
  skipped_is = refl;
  short = omega arith;
  none = none_at_first bytes;
}

-- If no head ends in the searched bytes, none does when more bytes follow.
pub none_more : (n : ℕ) (text more : List ℕ) → HasNoEndYet n text → HasNoEndYet n (text ++ more)
none_more n text more yet = λ later before after e. yet (more ++ later) before after (sym (append_assoc text more later) ∙ e)

-- The state of a search for the end of a head remains right when more bytes follow.
pub sought_more : (bytes more : List ℕ) (search : Search) → IsSought bytes search → IsSought (bytes ++ more) search
sought_more bytes more search s = record {
  lines = s.lines;
  text = s.text ++ more;
  parts = ap (λ t. t ++ more) s.parts ∙ append_assoc (print_blank s.lines) s.text more;
  skipped_is = s.skipped_is;
  short = s.short;
  none = none_more search.passed s.text more s.none;
}

-- A chunk line at the start remains when more bytes follow.
unfoldable pub line_more : (left more : List ℕ) (len size : ℕ) (line : ChunkLine) → IsLineAt left len size line → IsLineAt (left ++ more) len size line
line_more left more len size line at = record {
  is_line = at.is_line;
  after = at.after ++ more;
  parts = ap (λ t. t ++ more) at.parts ∙ append_assoc (print_chunk_line line) at.after more;
  len_is = at.len_is;
  size_is = at.size_is;
}

-- Searched bytes without a line feed have none when more bytes follow.
pub feed_more : (seen : ℕ) (left more : List ℕ) → HasNoFeedIn seen left → HasNoFeedIn seen (left ++ more)
feed_more seen left more s = record {
  front = s.front;
  rest = s.rest ++ more;
  parts = ap (λ t. t ++ more) s.parts ∙ append_assoc s.front s.rest more;
  seen_is = s.seen_is;
  none = s.none;
}
