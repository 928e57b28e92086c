-- Lemmas about the trailer of a chunked body.
use Rattle.std.proofs.Common.{◌≡◌, ◌≤◌, ◌<◌, ◌-◌, ℕ, List, [], ◌∷◌, ◌++◌, length, sym, ◌∙◌, ap, subst, arith, append_assoc}
use Rattle.std.proofs.Common.{append-nil, length-append, inl, inr, take, drop, min, take-append-drop, length-take}
use Rattle.std.proofs.Math.Seq.{drop-append_seam}
use Rattle.httparse.specs.Ascii.{line_feed}
use Rattle.httparse.specs.Grammar.{ChunkLine, print_chunk_line, chunk_size}
use Rattle.tfs_framing.specs.Head.{IsMessageHead, EndsWithEmptyLine}
use Rattle.tfs_framing.specs.Sought.{HasNoEndIn, HasNoEndYet}
use Rattle.tfs_framing.specs.Chunks.{IsTrailer, IsFlawBehind, IsFlawAt}
use Rattle.tfs_framing.specs.Parts.{IsLineAt}
use Rattle.tfs_framing.proofs.Next.{next_end, ComesNext, IsOpen}
use Rattle.tfs_framing.specs.declared.chunks.Flaw.{Flaw}
use Rattle.tfs_framing.specs.declared.chunks.Flaw.TheVariants.{TooLarge, Unreadable}
use Rattle.tfs_framing.proofs.HeadLemmas.{cuts, nothing_left}
use Rattle.tfs_framing.proofs.ChunkLemmas.{line_parts}
use Rattle.tfs_framing.proofs.SoughtLemmas.{none_in_window, none_yet, all_in_window}
use Rattle.tfs_framing.proofs.PartLemmas.{no_feed_in_nothing, open_behind_line}

-- Dropping all of a chunk line but its line feed leaves the line feed and the bytes after it.
pub from_line_feed : (left : List ℕ) (len size : ℕ) (line : ChunkLine) → (at : IsLineAt left len size line)
    → drop (len - 1) left ≡ line_feed ∷ at.after
from_line_feed left len size line at =
    let parts = line_parts line at.is_line.is_line in
    let sizes = ap length parts.2 ∙ length-append parts.0 (line_feed ∷ []) in
    let is_len = at.len_is in
    let front : len - 1 ≡ length parts.0 = omega arith in
    ap (λ (n : ℕ). drop n left) front
    ∙ ap (λ (t : List ℕ). drop (length parts.0) t) (at.parts ∙ ap (λ t. t ++ at.after) parts.2 ∙ append_assoc parts.0 (line_feed ∷ []) at.after)
    ∙ drop-append_seam parts.0 (line_feed ∷ at.after)

-- A message head from the line feed on is this line feed and a trailer.
pub trailer_found : (from window head rest behind after : List ℕ) (k n : ℕ) → k ≡ min (length from) 16385 → window ≡ take k from → window ≡ head ++ rest
    → length head ≡ n → IsMessageHead head → from ≡ line_feed ∷ after → behind ≡ drop n from
    → (trailer : List ℕ) × IsTrailer trailer × (after ≡ trailer ++ behind)
trailer_found from window [] rest behind after k n is_k is split size is_head starts is_behind =
    absurd (no_feed_in_nothing is_head.ends.0 _ is_head.ends.2)
trailer_found from window (b ∷ trailer) rest behind after k n is_k is split size is_head starts is_behind =
    let whole : from ≡ (b ∷ trailer) ++ (rest ++ drop k from) =
    sym (take-append-drop k from) ∙ ap (λ t. t ++ drop k from) (sym is ∙ split) ∙ append_assoc (b ∷ trailer) rest (drop k from) in
    let back : behind ≡ rest ++ drop k from =
    is_behind ∙ ap (λ (m : ℕ). drop m from) (sym size) ∙ ap (λ (t : List ℕ). drop (length (b ∷ trailer)) t) whole
    ∙ drop-append_seam (b ∷ trailer) (rest ++ drop k from) in
    let both : line_feed ∷ after ≡ b ∷ (trailer ++ (rest ++ drop k from)) = sym starts ∙ whole in
    let first : b ≡ line_feed = cc in
    let others : after ≡ trailer ++ (rest ++ drop k from) = cc in
    let inside = ap length (sym is ∙ split) ∙ length-append (b ∷ trailer) rest in
    let few = length-take k from in (
      trailer,
      record { is_head = subst (λ (c : ℕ). IsMessageHead (c ∷ trailer)) first is_head; short = omega arith },
      others ∙ ap (λ t. trailer ++ t) (sym back),
    )

-- Without a message head from the line feed on, there is no trailer.
pub no_trailer : (from window after : List ℕ) (k : ℕ) → k ≡ min (length from) 16385 → window ≡ take k from → from ≡ line_feed ∷ after
    → ((part rest : List ℕ) → window ≡ part ++ rest → ¬ (EndsWithEmptyLine part))
    → (trailer rest : List ℕ) → IsTrailer trailer → ¬ (after ≡ trailer ++ rest)
no_trailer from window after k is_k is starts none trailer rest trails e =
    let whole : take k from ++ drop k from ≡ (line_feed ∷ trailer) ++ rest =
    take-append-drop k from ∙ starts ∙ ap (λ t. line_feed ∷ t) e in
    let sizes = ap length starts in
    let parts = ap length e ∙ length-append trailer rest in
    let short = trails.short in
    let few = length-take k from in
    elim (cuts (take k from) (drop k from) (line_feed ∷ trailer) rest whole) [
      | inl w ↦ none (line_feed ∷ trailer) w.0 (is ∙ w.1) trails.is_head.ends
      | inr w ↦
          let long = ap length w.1 ∙ length-append (take k from) w.0 in
          let nothing : w.0 ≡ [] = nothing_left w.0 (omega arith) in
          none (line_feed ∷ trailer) []
          (is ∙ sym (append-nil (take k from)) ∙ ap (λ t. take k from ++ t) (sym nothing) ∙ sym w.1 ∙ sym (append-nil (line_feed ∷ trailer)))
          trails.is_head.ends
    ]

-- After the last chunk line and a trailer, the end of the body comes next.
pub end_there : (count total len : ℕ) (left trailer behind : List ℕ) (line : ChunkLine) → (at : IsLineAt left len 0 line) → IsTrailer trailer
    → at.after ≡ trailer ++ behind → ComesNext count total left (next_end behind)
end_there count total len left trailer behind line at trails split =
    (line, trailer, at.is_line, sym at.size_is, trails, at.parts ∙ ap (λ t. print_chunk_line line ++ t) split)

-- Fewer than 16,384 bytes without a trailer need more bytes.
pub trailer_wanted : (count total len : ℕ) (left : List ℕ) (line : ChunkLine) → (at : IsLineAt left len 0 line) → total ≤ 16777216
    → length at.after < 16384 → ((trailer rest : List ℕ) → IsTrailer trailer → ¬ (at.after ≡ trailer ++ rest)) → IsOpen count total left
trailer_wanted count total len left line at small short none = open_behind_line count total left at.after line at.is_line at.parts
    (λ bytes rest size some e. let told = at.size_is in omega arith)
    (λ trailer rest zero trails. none trailer rest trails)
    no_flaw
  where
    no_flaw : (flaw : Flaw) → ¬ (IsFlawBehind count total (chunk_size line) at.after flaw)
    no_flaw TooLarge p = let told = at.size_is in omega (arith, p)
    no_flaw Unreadable p = let told = at.size_is in elim p.1 [
      | inl q ↦ let some = q.0 in omega arith
      | inr r ↦ elim r [ inl q ↦ let some = q.0 in omega arith | inr q ↦ let long = q.1.long in omega arith ]
    ]

-- At least 16,384 bytes without a trailer are a flaw.
pub trailer_bad : (count total len : ℕ) (left : List ℕ) (line : ChunkLine) → (at : IsLineAt left len 0 line) → total ≤ 16777216
    → 16384 ≤ length at.after → ((trailer rest : List ℕ) → IsTrailer trailer → ¬ (at.after ≡ trailer ++ rest)) → IsFlawAt count total left Unreadable
trailer_bad count total len left line at small long none =
    let told = at.size_is in
    inr (line, at.after, at.is_line, at.parts, (omega arith, inr (inr (sym told, record { long = long; none = none }))))

-- What was searched of all bytes is also searched in the window.
pub trailer_passed : (from window : List ℕ) (passed : ℕ) (after : List ℕ) (k : ℕ) → window ≡ take k from → from ≡ line_feed ∷ after
    → HasNoEndYet passed (line_feed ∷ after) → HasNoEndIn passed window
trailer_passed from window passed after k is starts yet =
    none_in_window passed window (drop k from)
    (subst (HasNoEndYet passed) (sym starts ∙ sym (take-append-drop k from) ∙ ap (λ t. t ++ drop k from) (sym is)) yet)

-- If at most 16,384 bytes from the line feed on have no trailer, they are searched up to the last
-- two.
pub trailer_sought : (from window after : List ℕ) (k n : ℕ) → k ≡ min (length from) 16385 → window ≡ take k from → from ≡ line_feed ∷ after
    → length from ≤ 16384 → ((part rest : List ℕ) → window ≡ part ++ rest → ¬ (EndsWithEmptyLine part)) → n ≡ length from - 2
    → HasNoEndYet n (line_feed ∷ after)
trailer_sought from window after k n is_k is starts few none is_n =
    let all = all_in_window from window k 16385 is_k is (omega arith) in
    let yet : HasNoEndYet (length from - 2) from = none_yet from (λ part rest e. none part rest (all ∙ e)) in
    subst (λ (m : ℕ). HasNoEndYet m (line_feed ∷ after)) (sym is_n) (subst (HasNoEndYet (length from - 2)) starts yet)
