-- Lemmas about the next part of a chunked body.
use Rattle.std.proofs.Common.{◌≡◌, ◌≤◌, ◌<◌, ◌+◌, ◌⊎◌, ℕ, List, [], ◌∷◌, ◌++◌, length, refl, sym, ◌∙◌, ap, arith, append_assoc}
use Rattle.std.proofs.Common.{append-nil, length-append, inl, inr, take, drop, min, take-append-drop, length-take, nat_eq, Bool, true, false, ◌||◌}
use Rattle.std.specs.List.{list_any}
use Rattle.std.proofs.lemmas.Bool.{eqb-true}
use Rattle.std.proofs.Math.Seq.{drop-append_seam}
use Rattle.httparse.specs.Ascii.{line_feed}
use Rattle.httparse.specs.Grammar.{crlf, print_end, ChunkLine, print_chunk_line, chunk_size, HasNoChunkLine}
use Rattle.httparse.specs.Spans.{IsChunkLineAt}
use Rattle.tfs_framing.specs.Chunks.{Chunk, IsShortLine, IsTrailer, HasBadEnd, HasBadLine, IsFlawBehind, IsFlawAt}
use Rattle.tfs_framing.specs.Parts.{IsBegun, IsLineAt, HasNoFeedIn}
use Rattle.tfs_framing.proofs.Next.{next_chunk, next_end, next_flaw, ComesNext, IsOpen, HasNoLine}
use Rattle.tfs_framing.specs.declared.chunks.Flaw.{Flaw}
use Rattle.tfs_framing.specs.declared.chunks.Flaw.TheVariants.{TooLarge, Unreadable}
use Rattle.tfs_framing.proofs.HeadLemmas.{cuts, nothing_left}
use Rattle.tfs_framing.proofs.ChunkLemmas.{flaw_behind, line_parts, line_once, chunk_split}

-- An empty list has no line feed.
pub no_feed_in_nothing : (before after : List ℕ) → ¬ ([] ≡ before ++ line_feed ∷ after)
no_feed_in_nothing [] after e = cc
no_feed_in_nothing (b ∷ before) after e = cc

-- Zero searched bytes have no line feed.
pub nothing_seen : (left : List ℕ) → HasNoFeedIn 0 left
nothing_seen left = record { front = []; rest = left; parts = refl; seen_is = refl; none = no_feed_in_nothing }

-- Without a chunk line, nothing comes next yet.
pub open_without_line : (count total : ℕ) (left : List ℕ) → HasNoLine left → IsOpen count total left
open_without_line count total left without (next_chunk c after) p =
    without.none c.line (c.bytes ++ (print_end crlf ++ after)) p.0.line (p.1 ∙ chunk_split c after)
open_without_line count total left without (next_end after) p = without.none p.0 (p.1 ++ after) p.2 p.5
open_without_line count total left without (next_flaw flaw) p = elim p [ inl q ↦ without.not_bad q.1 | inr q ↦ without.none q.0 q.1 q.2 q.3 ]

-- After a chunk line, nothing comes next yet if there is no complete chunk, no trailer and no flaw.
pub open_behind_line : (count total : ℕ) (left after : List ℕ) (line : ChunkLine) → IsShortLine line → left ≡ print_chunk_line line ++ after
    → ((bytes rest : List ℕ) → length bytes ≡ chunk_size line → 0 < chunk_size line → ¬ (after ≡ bytes ++ (print_end crlf ++ rest)))
    → ((trailer rest : List ℕ) → chunk_size line ≡ 0 → IsTrailer trailer → ¬ (after ≡ trailer ++ rest))
    → ((flaw : Flaw) → ¬ (IsFlawBehind count total (chunk_size line) after flaw)) → IsOpen count total left
open_behind_line count total left after line is e no_chunk no_end no_flaw (next_chunk c behind) p =
    let same = line_once c.line line (c.bytes ++ (print_end crlf ++ behind)) after p.0.line is (sym (chunk_split c behind) ∙ sym p.1 ∙ e) in
    let sizes = ap chunk_size same.0 in
    let size = p.0.size in
    let some = p.0.some in
    no_chunk c.bytes behind (omega arith) (omega arith) (sym same.1)
open_behind_line count total left after line is e no_chunk no_end no_flaw (next_end behind) p =
    let same = line_once p.0 line (p.1 ++ behind) after p.2 is (sym p.5 ∙ e) in
    no_end p.1 behind (sym (ap chunk_size same.0) ∙ p.3) p.4 (sym same.1)
open_behind_line count total left after line is e no_chunk no_end no_flaw (next_flaw flaw) p =
    no_flaw flaw (flaw_behind count total left after line flaw is e p)

-- A chunk line has at least one byte.
pub line_has_bytes : (line : ChunkLine) → IsShortLine line → 0 < length (print_chunk_line line)
line_has_bytes line is =
    let parts = line_parts line is.is_line in
    let size = ap length parts.2 ∙ length-append parts.0 (line_feed ∷ []) in
    omega arith

-- Until the missing bytes of a chunk and its end have arrived, nothing comes next yet.
pub begun_open : (count total lacking : ℕ) (line : ChunkLine) (seen left : List ℕ) → IsBegun count total line seen lacking
    → length left < lacking + 2 → IsOpen count total (print_chunk_line line ++ (seen ++ left))
begun_open count total lacking line seen left b short =
    let told = b.size in
    let some = b.some in
    let most = b.few in
    let small = b.small in
    let all = length-append seen left in
    open_behind_line count total (print_chunk_line line ++ (seen ++ left)) (seen ++ left) line b.is_line refl
    (λ bytes rest size more f.
    let one = ap length f ∙ length-append bytes (print_end crlf ++ rest) in
    let two = length-append (print_end crlf) rest in
    omega arith)
    (λ trailer rest none trails f. omega arith)
    no_flaw
  where
    no_flaw : (flaw : Flaw) → ¬ (IsFlawBehind count total (chunk_size line) (seen ++ left) flaw)
    no_flaw TooLarge p = let small = b.small in omega (arith, p)
    no_flaw Unreadable p = elim p.1 [
      | inl q ↦ let most = b.few in let many = q.1 in omega arith
      | inr r ↦ elim r [
        | inl q ↦
            let told = b.size in
            let all = length-append seen left in
            let one = ap length q.2.parts ∙ length-append q.2.bytes (q.2.end ++ q.2.rest) in
            let two = length-append q.2.end q.2.rest in
            let size = q.2.size_is in
            let both = q.2.two in
            omega arith
        | inr q ↦ let some = b.some in let none = q.0 in omega arith
      ]
    ]

-- The missing bytes and CR LF complete the chunk.
pub begun_whole : (count total lacking : ℕ) (line : ChunkLine) (seen left bytes behind : List ℕ) → IsBegun count total line seen lacking
    → length bytes ≡ lacking → left ≡ bytes ++ (print_end crlf ++ behind)
    → (c : Chunk) × (c.bytes ≡ seen ++ bytes) × ComesNext count total (print_chunk_line line ++ (seen ++ left)) (next_chunk c behind)
begun_whole count total lacking line seen left bytes behind b is_long split =
    let c : Chunk = record { line = line; bytes = seen ++ bytes } in
    let told = b.size in
    let some = b.some in
    let small = b.small in
    let both = length-append seen bytes in (
      c,
      refl,
      (
        record { line = b.is_line; size = omega arith; some = omega arith },
        ap (λ t. print_chunk_line line ++ t) (ap (λ t. seen ++ t) split ∙ sym (append_assoc seen bytes (print_end crlf ++ behind)))
            ∙ sym (chunk_split c behind),
        b.few,
        omega arith,
      ),
    )

-- If another end follows the missing bytes, there is a flaw.
pub begun_bad : (count total lacking : ℕ) (line : ChunkLine) (seen left : List ℕ) → IsBegun count total line seen lacking
    → HasBadEnd lacking left → IsFlawAt count total (print_chunk_line line ++ (seen ++ left)) Unreadable
begun_bad count total lacking line seen left b bad =
    let told = b.size in
    let size = bad.size_is in
    let both = length-append seen bad.bytes in
    let end : HasBadEnd (chunk_size line) (seen ++ left) = record {
      bytes = seen ++ bad.bytes;
      end = bad.end;
      rest = bad.rest;
      parts = ap (λ t. seen ++ t) bad.parts ∙ sym (append_assoc seen bad.bytes (bad.end ++ bad.rest));
      size_is = omega arith;
      two = bad.two;
      other = bad.other;
    } in
    inr (line, seen ++ left, b.is_line, refl, (b.small, inr (inl (b.some, b.few, end))))

-- Two or more bytes that don't begin with CR LF are a bad chunk end.
pub bad_end : (lacking : ℕ) (left bytes end : List ℕ) → left ≡ bytes ++ end → length bytes ≡ lacking → 2 ≤ length end
    → ((rest : List ℕ) → ¬ (end ≡ print_end crlf ++ rest)) → HasBadEnd lacking left
bad_end lacking left bytes end split size enough none = record {
  bytes = bytes;
  end = take 2 end;
  rest = drop 2 end;
  parts = split ∙ ap (λ t. bytes ++ t) (sym (take-append-drop 2 end));
  size_is = size;
  two = length-take 2 end ∙ (omega arith);
  other = λ is. none (drop 2 end) (sym (take-append-drop 2 end) ∙ ap (λ t. t ++ drop 2 end) is);
}

-- Dropping the length of a chunk line leaves the bytes after it.
pub behind_line : (left : List ℕ) (len size : ℕ) (line : ChunkLine) → (at : IsLineAt left len size line) → drop len left ≡ at.after
behind_line left len size line at =
    ap (λ (n : ℕ). drop n left) at.len_is ∙ ap (λ (t : List ℕ). drop (length (print_chunk_line line)) t) at.parts
    ∙ drop-append_seam (print_chunk_line line) at.after

-- The chunk line found in the window is the chunk line of all bytes.
pub line_in_window : (left window : List ℕ) (k len size : ℕ) (line : ChunkLine) → k ≤ 1024 → window ≡ take k left → IsChunkLineAt window len size line
    → IsLineAt left len size line
line_in_window left window k len size line small is at =
    let inside = ap length at.reads.1 ∙ length-append (print_chunk_line line) (drop len window) in
    let few = length-take k left in
    let size_of = ap length is in
    record {
      is_line = record { is_line = at.reads.0; short = omega arith };
      after = drop len window ++ drop k left;
      parts = sym (take-append-drop k left) ∙ ap (λ t. t ++ drop k left) (sym is ∙ at.reads.1)
          ∙ append_assoc (print_chunk_line line) (drop len window) (drop k left);
      len_is = at.len_is;
      size_is = at.size_is;
    }

-- If the window has no chunk line, the bytes have none.
pub no_line_in_window : (left window : List ℕ) (k : ℕ) → k ≡ min (length left) 1024 → window ≡ take k left → HasNoChunkLine window
    → (line : ChunkLine) (after : List ℕ) → IsShortLine line → ¬ (left ≡ print_chunk_line line ++ after)
no_line_in_window left window k is_k is none line after is_line e =
    let whole : take k left ++ drop k left ≡ print_chunk_line line ++ after = take-append-drop k left ∙ e in
    let sizes = ap length e ∙ length-append (print_chunk_line line) after in
    let short = is_line.short in
    let few = length-take k left in
    elim (cuts (take k left) (drop k left) (print_chunk_line line) after whole) [
      | inl w ↦ none line w.0 (is_line.is_line, is ∙ w.1)
      | inr w ↦
          let long = ap length w.1 ∙ length-append (take k left) w.0 in
          let nothing : w.0 ≡ [] = nothing_left w.0 (omega arith) in
          let same : take k left ≡ print_chunk_line line =
          sym (append-nil (take k left)) ∙ ap (λ t. take k left ++ t) (sym nothing) ∙ sym w.1 in
          none line [] (is_line.is_line, is ∙ same ∙ sym (append-nil (print_chunk_line line)))
    ]

-- A list that has a line feed can be split at one.
pub feed_found : (text : List ℕ) → list_any (λ b. nat_eq b 10) text ≡ true
    → (before : List ℕ) × (after : List ℕ) × (text ≡ before ++ line_feed ∷ after)
feed_found [] e = cc
feed_found (b ∷ text) e = by (nat_eq b 10) refl e (λ f. feed_found text f)
  where
    by : (v : Bool) → nat_eq b 10 ≡ v → (v || list_any (λ c. nat_eq c 10) text) ≡ true
        → (list_any (λ c. nat_eq c 10) text ≡ true → (before : List ℕ) × (after : List ℕ) × (text ≡ before ++ line_feed ∷ after))
        → (before : List ℕ) × (after : List ℕ) × (b ∷ text ≡ before ++ line_feed ∷ after)
    by true is f behind = ([], text, ap (λ c. c ∷ text) (eqb-true b 10 is))
    by false is f behind = let rest = behind f in (b ∷ rest.0, rest.1, ap (λ t. b ∷ t) rest.2)

-- A list that can be split at a line feed has one.
pub has_feed : (before after : List ℕ) → list_any (λ b. nat_eq b 10) (before ++ line_feed ∷ after) ≡ true
has_feed [] after = refl
has_feed (b ∷ before) after = by (nat_eq b 10) (has_feed before after)
  where
    by : (v : Bool) → list_any (λ c. nat_eq c 10) (before ++ line_feed ∷ after) ≡ true
        → (v || list_any (λ c. nat_eq c 10) (before ++ line_feed ∷ after)) ≡ true
    by true behind = refl
    by false behind = behind

-- A line feed in a window without a chunk line makes the line bad.
pub bad_line_in_window : (left window new : List ℕ) (k m : ℕ) → k ≡ min (length left) 1024 → window ≡ take k left → HasNoChunkLine window
    → new ≡ drop m window → list_any (λ b. nat_eq b 10) new ≡ true → HasBadLine left
bad_line_in_window left window new k m is_k is none is_new any =
    let found = feed_found new any in
    let old : List ℕ = take m window in
    let whole : window ≡ old ++ (found.0 ++ line_feed ∷ found.1) =
    sym (take-append-drop m window) ∙ ap (λ t. old ++ t) (sym is_new ∙ found.2) in
    record {
      there = inr (
        old ++ found.0,
        found.1 ++ drop k left,
        sym (take-append-drop k left) ∙ ap (λ t. t ++ drop k left) (sym is ∙ whole ∙ sym (append_assoc old found.0 (line_feed ∷ found.1)))
            ∙ append_assoc (old ++ found.0) (line_feed ∷ found.1) (drop k left),
      );
      none = no_line_in_window left window k is_k is none;
    }

-- If a text can be split at a line feed, the first or the second part of the text has one.
feed_before_or_behind : (old new before after : List ℕ) → old ++ new ≡ before ++ line_feed ∷ after
    → ((rest : List ℕ) × (old ≡ before ++ line_feed ∷ rest)) ⊎ (list_any (λ b. nat_eq b 10) new ≡ true)
feed_before_or_behind old new before after e = elim (cuts old new before (line_feed ∷ after) e) [
  | inl w ↦ by w.0 w.1 w.2
  | inr w ↦ inr (ap (λ (t : List ℕ). list_any (λ b. nat_eq b 10) t) w.2 ∙ has_feed w.0 after)
]
  where
    by : (z : List ℕ) → old ≡ before ++ z → line_feed ∷ after ≡ z ++ new
        → ((rest : List ℕ) × (old ≡ before ++ line_feed ∷ rest)) ⊎ (list_any (λ b. nat_eq b 10) new ≡ true)
    by [] f g = inr (ap (λ (t : List ℕ). list_any (λ b. nat_eq b 10) t) (sym g) ∙ has_feed [] after)
    by (b ∷ z) f g = let same : line_feed ≡ b = cc in inl (z, f ∙ ap (λ (c : ℕ). before ++ c ∷ z) (sym same))

-- If the bytes seen before and the new bytes have no line feed, the window has none.
pub no_feed_in_window : (left window new : List ℕ) (seen k m : ℕ) → HasNoFeedIn seen left → window ≡ take k left → m ≡ min seen (length window)
    → new ≡ drop m window → list_any (λ b. nat_eq b 10) new ≡ false → (before after : List ℕ) → ¬ (window ≡ before ++ line_feed ∷ after)
no_feed_in_window left window new seen k m s is is_m is_new none before after e =
    let old : List ℕ = take m window in
    let halves : old ++ new ≡ window = ap (λ t. old ++ t) is_new ∙ take-append-drop m window in
    elim (feed_before_or_behind old new before after (halves ∙ e)) [
      | inl w ↦
          let whole : s.front ++ s.rest ≡ old ++ (new ++ drop k left) =
          sym s.parts ∙ sym (take-append-drop k left) ∙ ap (λ t. t ++ drop k left) (sym is ∙ sym halves) ∙ append_assoc old new (drop k left) in
          let size = length-take m window in
          let seen_is = s.seen_is in
          elim (cuts s.front s.rest old (new ++ drop k left) whole) [
            | inl v ↦ s.none before (w.0 ++ v.0) (v.1 ∙ ap (λ t. t ++ v.0) w.1 ∙ append_assoc before (line_feed ∷ w.0) v.0)
            | inr v ↦
                let sizes = ap length v.1 ∙ length-append s.front v.0 in
                let nothing : v.0 ≡ [] = nothing_left v.0 (omega arith) in
                s.none before w.0 (sym (append-nil s.front) ∙ ap (λ t. s.front ++ t) (sym nothing) ∙ sym v.1 ∙ w.1)
          ]
      | inr any ↦ let wrong : true ≡ false = sym any ∙ none in cc
    ]

-- Bytes without a line feed have no chunk line.
pub no_line_without_feed : (window : List ℕ) → ((before after : List ℕ) → ¬ (window ≡ before ++ line_feed ∷ after)) → HasNoChunkLine window
no_line_without_feed window none line rest reads =
    let parts = line_parts line reads.0 in
    none parts.0 rest (reads.1 ∙ ap (λ t. t ++ rest) parts.2 ∙ append_assoc parts.0 (line_feed ∷ []) rest)

-- If 1,024 bytes have no chunk line, the line is bad.
pub long_line_in_window : (left window : List ℕ) (k : ℕ) → k ≡ min (length left) 1024 → window ≡ take k left → HasNoChunkLine window
    → 1024 ≤ length left → HasBadLine left
long_line_in_window left window k is_k is none long = record { there = inl long; none = no_line_in_window left window k is_k is none }

-- Fewer than 1,024 bytes without a line feed have neither a chunk line nor a bad one.
pub no_line_yet : (left : List ℕ) → HasNoFeedIn (length left) left → length left < 1024 → HasNoLine left
no_line_yet left seen short = record {
  none = λ line after is e.
      let parts = line_parts line is.is_line in
      none parts.0 after (e ∙ ap (λ t. t ++ after) parts.2 ∙ append_assoc parts.0 (line_feed ∷ []) after);
  not_bad = λ bad. elim bad.there [ inl long ↦ omega arith | inr w ↦ none w.0 w.1 w.2 ];
}
  where
    none : (before after : List ℕ) → ¬ (left ≡ before ++ line_feed ∷ after)
    none before after e =
        let sizes = ap length seen.parts ∙ length-append seen.front seen.rest in
        let is = seen.seen_is in
        let nothing : seen.rest ≡ [] = nothing_left seen.rest (omega arith) in
        seen.none before after (sym (append-nil seen.front) ∙ ap (λ t. seen.front ++ t) (sym nothing) ∙ sym seen.parts ∙ e)

-- If the window is all bytes and has no line feed, all bytes are searched.
pub all_seen : (left window : List ℕ) → window ≡ left → ((before after : List ℕ) → ¬ (window ≡ before ++ line_feed ∷ after))
    → HasNoFeedIn (length left) left
all_seen left window all none = record {
  front = left;
  rest = [];
  parts = sym (append-nil left);
  seen_is = refl;
  none = λ before after e. none before after (all ∙ e);
}
