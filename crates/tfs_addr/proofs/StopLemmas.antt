-- The position at which a text stops; a text has at most one reading or one stop.
use Rattle.std.proofs.Common.{◌≡◌, ℕ, ◌+◌, ◌≤◌, List, [], ◌∷◌, ◌++◌, length, refl, sym, ap, ◌∙◌, arith, append_assoc, append-nil, drop}
use Rattle.std.specs.Prelude.{IsUtf8, chars, encode_utf8_all}
use Rattle.std.specs.List.{AllByRecursion}
use Rattle.std.proofs.lemmas.Str.{encodes-append, encodes-chars, encodes_same, length-le-encodes}
use Rattle.tfs_addr.specs.Address.{Piece, print_piece, print_pieces, IsPiece, BeginsNoPiece, StopsAt, StopsBefore, ReadsPieces, HasNoReading, BeginsWithPieces}
use Rattle.std.proofs.Math.Seq.{drop-append_seam}
use Rattle.tfs_addr.proofs.PieceLemmas.{print_piece-some, same_first, size-append, BeginsNoPiece-nil, AllByRecursion-append, print-one_more, HasRead}

-- ---- The position at which a text stops.

-- Pieces after which no piece begins are the longest sequence of pieces.
pieces-longest : (ps qs : List Piece) (xs ys : List ℕ) → AllByRecursion IsPiece ps → AllByRecursion IsPiece qs → BeginsNoPiece xs
    → print_pieces ps ++ xs ≡ print_pieces qs ++ ys → length (encode_utf8_all (print_pieces qs)) ≤ length (encode_utf8_all (print_pieces ps))
pieces-longest ps [] xs ys hp hq none e = omega arith
pieces-longest [] (q ∷ qs) xs ys hp hq none e =
    absurd (none q (print_pieces qs ++ ys) hq.0 (e ∙ append_assoc (print_piece q) (print_pieces qs) ys))
pieces-longest (p ∷ ps) (q ∷ qs) xs ys hp hq none e =
    let whole : print_piece p ++ (print_pieces ps ++ xs) ≡ print_piece q ++ (print_pieces qs ++ ys) =
    sym (append_assoc (print_piece p) (print_pieces ps) xs) ∙ e ∙ append_assoc (print_piece q) (print_pieces qs) ys in
    let same = same_first p q (print_pieces ps ++ xs) (print_pieces qs ++ ys) hp.0 hq.0 whole in
    let rest = pieces-longest ps qs xs ys hp.1 hq.1 none same.1 in
    let one : length (encode_utf8_all (print_piece p)) ≡ length (encode_utf8_all (print_piece q)) =
    ap (λ (r : Piece). length (encode_utf8_all (print_piece r))) same.0 in
    omega (arith, size-append (print_piece p) (print_pieces ps), size-append (print_piece q) (print_pieces qs))

-- If no piece begins after some pieces, the text stops there.
pub StopsBefore-from_pieces : (text more : List ℕ) (c : ℕ) (pieces : List Piece) → AllByRecursion IsPiece pieces
    → text ≡ encode_utf8_all (print_pieces pieces ++ c ∷ more) → BeginsNoPiece (c ∷ more) → StopsBefore text c
StopsBefore-from_pieces text more c pieces valid e none = (
  length (encode_utf8_all (print_pieces pieces)),
  record {
    rest = more;
    begins = record { pieces = pieces; valid = valid; printed = e; bytes = refl };
    longest =
        λ n rest h.
        let same = encodes_same (print_pieces pieces ++ c ∷ more) (print_pieces h.pieces ++ rest) (sym e ∙ h.printed) in
        let shorter = pieces-longest pieces h.pieces (c ∷ more) rest valid h.valid none same in
        omega (arith, h.bytes);
  },
)

-- If no piece begins after the part that has been read, the text stops there.
pub StopsBefore-from_read : (text rest more bare : List ℕ) (c : ℕ) → IsUtf8 text → HasRead (chars text) rest bare
    → rest ≡ c ∷ more → BeginsNoPiece rest → StopsBefore text c
StopsBefore-from_read text rest more bare c u h e none =
    StopsBefore-from_pieces text more c h.pieces h.valid
    (sym (encodes-chars text u) ∙ ap encode_utf8_all (h.printed ∙ ap (λ (t : List ℕ). print_pieces h.pieces ++ t) e))
    (rw e at none)

-- ---- At most one reading or stop.

-- Two sequences of pieces at the front of the same characters are equal if no piece begins after
-- either.
pub pieces_agree : (ps qs : List Piece) (xs ys : List ℕ) → AllByRecursion IsPiece ps → AllByRecursion IsPiece qs
    → BeginsNoPiece xs → BeginsNoPiece ys → print_pieces ps ++ xs ≡ print_pieces qs ++ ys → (ps ≡ qs) × (xs ≡ ys)
pieces_agree [] [] xs ys hp hq nx ny e = (refl, e)
pieces_agree [] (q ∷ qs) xs ys hp hq nx ny e =
    absurd (nx q (print_pieces qs ++ ys) hq.0 (e ∙ append_assoc (print_piece q) (print_pieces qs) ys))
pieces_agree (p ∷ ps) [] xs ys hp hq nx ny e =
    absurd (ny p (print_pieces ps ++ xs) hp.0 (sym e ∙ append_assoc (print_piece p) (print_pieces ps) xs))
pieces_agree (p ∷ ps) (q ∷ qs) xs ys hp hq nx ny e =
    let whole : print_piece p ++ (print_pieces ps ++ xs) ≡ print_piece q ++ (print_pieces qs ++ ys) =
    sym (append_assoc (print_piece p) (print_pieces ps) xs) ∙ e ∙ append_assoc (print_piece q) (print_pieces qs) ys in
    let same = same_first p q (print_pieces ps ++ xs) (print_pieces qs ++ ys) hp.0 hq.0 whole in
    let rest = pieces_agree ps qs xs ys hp.1 hq.1 nx ny same.1 in
    (cc, rest.1)

-- A text has at most one reading.
pub reading_is_unique : (text : List ℕ) (first second : List Piece) → ReadsPieces text first → ReadsPieces text second → first ≡ second
reading_is_unique text first second f s =
    let same = encodes_same (print_pieces first) (print_pieces second) (sym f.printed ∙ s.printed) in
    let ended = append-nil (print_pieces first) ∙ same ∙ sym (append-nil (print_pieces second)) in
    (pieces_agree first second [] [] f.valid s.valid BeginsNoPiece-nil BeginsNoPiece-nil ended).0

-- A text that stops has no reading, because a reading would be a longer sequence of pieces.
pub stop_has_no_reading : (text : List ℕ) (c at : ℕ) → StopsAt text c at → HasNoReading text
stop_has_no_reading text c at h pieces r =
    let whole : BeginsWithPieces text (length (encode_utf8_all (print_pieces pieces))) [] = record {
      pieces = pieces;
      valid = r.valid;
      printed = r.printed ∙ ap encode_utf8_all (sym (append-nil (print_pieces pieces)));
      bytes = refl;
    } in
    let few = h.longest (length (encode_utf8_all (print_pieces pieces))) [] whole in
    let size : length (encode_utf8_all (print_pieces pieces)) ≡ at + length (encode_utf8_all (c ∷ h.rest)) =
    ap length (sym r.printed ∙ h.begins.printed) ∙ size-append (print_pieces h.begins.pieces) (c ∷ h.rest)
    ∙ ap (λ n. n + length (encode_utf8_all (c ∷ h.rest))) (sym h.begins.bytes) in
    absurd (omega (arith, length-le-encodes (c ∷ h.rest)))

-- The bytes after pieces of a given size are those of the characters after the pieces.
after-pieces : (text : List ℕ) (size : ℕ) (rest : List ℕ) → BeginsWithPieces text size rest → drop size text ≡ encode_utf8_all rest
after-pieces text size rest h =
    ap (λ n. drop n text) h.bytes ∙ ap (drop (length (encode_utf8_all (print_pieces h.pieces)))) (h.printed ∙ encodes-append (print_pieces h.pieces) rest)
    ∙ drop-append_seam (encode_utf8_all (print_pieces h.pieces)) (encode_utf8_all rest)

-- A text stops at one position at most, before one character.
pub stop_is_unique : (text : List ℕ) (c at d n : ℕ) → StopsAt text c at → StopsAt text d n → (c ≡ d) × (at ≡ n)
stop_is_unique text c at d n h k =
    let low = h.longest n (d ∷ k.rest) k.begins in
    let high = k.longest at (c ∷ h.rest) h.begins in
    let same : at ≡ n = omega arith in
    let bytes : encode_utf8_all (c ∷ h.rest) ≡ encode_utf8_all (d ∷ k.rest) =
    sym (after-pieces text at (c ∷ h.rest) h.begins) ∙ ap (λ m. drop m text) same ∙ after-pieces text n (d ∷ k.rest) k.begins in
    (cc (encodes_same (c ∷ h.rest) (d ∷ k.rest) bytes), same)

-- No piece begins at the position at which a text stops, because it would make the sequence longer.
pub stop_begins_no_piece : (text : List ℕ) (c at : ℕ) (h : StopsAt text c at) → BeginsNoPiece (c ∷ h.rest)
stop_begins_no_piece text c at h piece more valid e =
    let pieces = h.begins.pieces in
    let longer : BeginsWithPieces text (at + length (encode_utf8_all (print_piece piece))) more = record {
      pieces = pieces ++ piece ∷ [];
      valid = AllByRecursion-append IsPiece pieces (piece ∷ []) h.begins.valid (valid, tt);
      printed =
          h.begins.printed
          ∙ ap encode_utf8_all (ap (λ (t : List ℕ). print_pieces pieces ++ t) e ∙ sym (append_assoc (print_pieces pieces) (print_piece piece) more)
          ∙ ap (λ (t : List ℕ). t ++ more) (sym (print-one_more pieces piece)));
      bytes =
          ap (λ n. n + length (encode_utf8_all (print_piece piece))) h.begins.bytes
          ∙ sym (size-append (print_pieces pieces) (print_piece piece))
          ∙ ap (λ (t : List ℕ). length (encode_utf8_all t)) (sym (print-one_more pieces piece));
    } in
    let few = h.longest (at + length (encode_utf8_all (print_piece piece))) more longer in
    absurd (omega (arith, print_piece-some piece, length-le-encodes (print_piece piece)))
