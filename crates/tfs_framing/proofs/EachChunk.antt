-- All bytes begin with a chunked body, have a flaw, or need more bytes.
use Rattle.std.proofs.Common.{◌≡◌, ◌≤◌, ◌<◌, ◌+◌, ◌⊎◌, ◌∙◌, ℕ, zero, suc, List, [], ◌∷◌, ◌++◌, length, take, drop, min, nat_eq, Bool, true, false}
use Rattle.std.proofs.Common.{Option, Some, None, refl, sym, ap, subst, inl, inr, arith, length-take, length-append, take-append-drop}
use Rattle.std.specs.List.{list_any}
use Rattle.std.specs.Char.{is_ascii_hexdigit}
use Rattle.std.proofs.lemmas.Bool.{cases_lt}
use Rattle.httparse.specs.Ascii.{line_feed}
use Rattle.httparse.specs.Grammar.{crlf, print_end, print_extension, ChunkLine, print_chunk_line, chunk_size, AllPass, is_ows, is_extension_byte}
use Rattle.httparse.specs.Pieces.{Begins, Run, HexDigits, Extension}
use Rattle.httparse.proofs.RunLemmas.{run_unique}
use Rattle.httparse.proofs.ChunkLemmas.{Run_deterministic, HexDigits_deterministic, chunk_line, chunk_line_unique, chunk_pieces, chunk_from_pieces}
use Rattle.tfs_framing.specs.Chunks.{Chunk, IsShortLine, SpellsChunks}
use Rattle.tfs_framing.specs.Parts.{IsBegun, IsLineAt}
use Rattle.tfs_framing.proofs.Next.{Next, next_chunk, next_end, next_flaw, ComesNext, IsOpen, Walked}
use Rattle.tfs_framing.specs.Body.{HasNoBody, HasBadBody}
use Rattle.tfs_framing.specs.declared.lines.BodyLength.TheVariants.{Chunked}
use Rattle.tfs_framing.specs.declared.chunks.Flaw.{Flaw}
use Rattle.tfs_framing.specs.declared.chunks.Flaw.TheVariants.{TooLarge, Unreadable}
use Rattle.tfs_framing.proofs.HeadLemmas.{PassedOver}
use Rattle.tfs_framing.proofs.ChunkLemmas.{chunk_split}
use Rattle.tfs_framing.proofs.PartLemmas.{open_without_line, begun_open, begun_whole, begun_bad, bad_end, feed_found, has_feed, line_has_bytes}
use Rattle.tfs_framing.proofs.TrailerLemmas.{trailer_found, no_trailer, end_there, trailer_wanted, trailer_bad}
use Rattle.tfs_framing.proofs.WalkLemmas.{walk_start, walk_on, whole_there, walk_flawed, no_body_here}
use Rattle.tfs_framing.proofs.EachPiece.{IsDecided, first_decided, line_end_decided, run_decided, span_decided, then_decided}
use Rattle.tfs_framing.proofs.EachEnd.{found_from}

-- It is decidable whether a text begins with 1 to 16 hexadecimal digits.
hex_decided : IsDecided HexDigits
hex_decided text = elim (run_decided is_ascii_hexdigit text) [
  | inl x ↦ elim (cases_lt 0 (length x.0)) [
    | inl some ↦ elim (cases_lt 16 (length x.0)) [
      | inl many ↦ inr (λ w. let same = once w.0 w.1 x.0 x.1 w.2.0 x.2 in let few = w.2.2 in omega arith)
      | inr few ↦ inl (x.0, x.1, (x.2, omega arith, few))
    ]
    | inr none ↦ inr (λ w. let same = once w.0 w.1 x.0 x.1 w.2.0 x.2 in let some = w.2.1 in omega arith)
  ]
  | inr none ↦ inr (λ w. none (w.0, w.1, w.2.0))
]
  where
    once : (a b c d : List ℕ) → Run is_ascii_hexdigit a text b → Run is_ascii_hexdigit c text d → length a ≡ length c
    once a b c d p q = ap length ((Run_deterministic is_ascii_hexdigit).unique a c text b d p q).0

-- It is decidable whether a text begins with an optional chunk extension and CR LF.
extension_decided : IsDecided Extension
extension_decided text = elim (first_decided 59 text) [
  | inl x ↦ with_text x.0 x.1
  | inr other ↦ elim (line_end_decided text) [
    | inl y ↦ inl (None, y.0, (tt, y.1))
    | inr none ↦ inr (λ w. neither w.0 w.1 w.2.1 other none)
  ]
]
  where
    neither : (e : Option (List ℕ)) (rest : List ℕ) → text ≡ print_extension e ++ (print_end crlf ++ rest) → ¬ ((left : List ℕ) × (text ≡ 59 ∷ left))
        → ¬ (¬ ((left : List ℕ) × (text ≡ print_end crlf ++ left)))
    neither None rest e other none = none (rest, e)
    neither (Some word) rest e other none = other (word ++ (print_end crlf ++ rest), e)

    only : (left : List ℕ) → text ≡ 59 ∷ left → (e : Option (List ℕ)) (rest : List ℕ) → Extension e text rest
        → (word : List ℕ) × AllPass is_extension_byte word × (left ≡ word ++ (print_end crlf ++ rest))
    only left is None rest p = let e = p.1 in let wrong : ◌≡◌ {A = ℕ} 59 13 = cc in absurd (omega arith)
    only left is (Some word) rest p = let e = p.1 in (word, p.0, cc)

    with_text : (left : List ℕ) → text ≡ 59 ∷ left → Begins Extension text ⊎ ¬ (Begins Extension text)
    with_text left is = elim (span_decided is_extension_byte 13 refl left) [
      | inl x ↦ elim (first_decided 10 x.1) [
        | inl y ↦ inl (Some x.0, y.0, (x.2, is ∙ ap (λ t. 59 ∷ t) (x.3 ∙ ap (λ t. x.0 ++ 13 ∷ t) y.1)))
        | inr none ↦ inr (λ w.
            let found = only left is w.0 w.1 w.2 in
            let same = run_unique is_extension_byte x.0 found.0 (13 ∷ x.1) (13 ∷ 10 ∷ w.1) x.2 found.1 refl refl (sym x.3 ∙ found.2) in
            let rests = same.1 in
            none (w.1, cc))
      ]
      | inr none ↦ inr (λ w. let found = only left is w.0 w.1 w.2 in none (found.0, 10 ∷ w.1, found.1, found.2))
    ]

-- The bytes begin with a valid chunk line.
abbrev BeginsWithLine : List ℕ → Type 0
BeginsWithLine left = (line : ChunkLine) × (after : List ℕ) × IsShortLine line × (left ≡ print_chunk_line line ++ after)

-- The bytes don't begin with a valid chunk line.
abbrev BeginsWithNone : List ℕ → Type 0
BeginsWithNone left = (line : ChunkLine) (after : List ℕ) → IsShortLine line → ¬ (left ≡ print_chunk_line line ++ after)

-- It is decidable whether bytes begin with a chunk line of at most 1,024 bytes.
line_decided : (left : List ℕ) → BeginsWithLine left ⊎ BeginsWithNone left
line_decided left = elim (then_decided HexDigits_deterministic hex_decided
    (then_decided (Run_deterministic is_ows) (run_decided is_ows) extension_decided) left) [
      | inl x ↦
          let reads = chunk_from_pieces left x.0 x.1 x.2 in
          elim (cases_lt 1024 (length (print_chunk_line (chunk_line x.0)))) [
            | inl long ↦ inr (λ other behind is e.
                let same = chunk_line_unique left (chunk_line x.0) other x.1 behind reads (is.is_line, e) in
                let sizes = ap (λ (l : ChunkLine). length (print_chunk_line l)) same.0 in
                let short = is.short in
                omega arith)
            | inr short ↦ inl (chunk_line x.0, x.1, record { is_line = reads.0; short = short }, reads.1)
          ]
      | inr none ↦ inr (λ line after is e. none ((line.digits, (line.pad, line.extension)), after, chunk_pieces left line after (is.is_line, e)))
    ]

-- A part comes next, or none does yet.
abbrev IsSettled : ℕ → ℕ → List ℕ → Type 0
IsSettled count total left = ((next : Next) × ComesNext count total left next) ⊎ IsOpen count total left

-- If no chunk line comes first, it is decided whether a part comes next.
settled_without_line : (count total : ℕ) (left : List ℕ) → BeginsWithNone left → IsSettled count total left
settled_without_line count total left none = elim (cases_lt (length left) 1024) [
  | inl short ↦ by short (list_any (λ b. nat_eq b 10) left) refl
  | inr long ↦ inl (next_flaw Unreadable, inl (refl, record { there = inl long; none = none }))
]
  where
    by : length left < 1024 → (u : Bool) → list_any (λ b. nat_eq b 10) left ≡ u → IsSettled count total left
    by short true f = inl (next_flaw Unreadable, inl (refl, record { there = inr (feed_found left f); none = none }))
    by short false f = inr (open_without_line count total left (record {
      none = none;
      not_bad = λ bad. elim bad.there [
        | inl long ↦ omega arith
        | inr w ↦
            let found : list_any (λ b. nat_eq b 10) left ≡ true = ap (λ (t : List ℕ). list_any (λ b. nat_eq b 10) t) w.2 ∙ has_feed w.0 w.1 in
            cc
      ];
    }))

-- After the last chunk line, the trailer decides whether a part comes next.
settled_at_end : (count total len : ℕ) (left : List ℕ) (line : ChunkLine) → IsLineAt left len 0 line → total ≤ 16777216 → IsSettled count total left
settled_at_end count total len left line at small =
    let from : List ℕ = line_feed ∷ at.after in
    let window : List ℕ = take (min (length from) 16385) from in
    let start : PassedOver window [] window = record { parts = refl; none = λ before after e starts. omega arith } in
    elim (found_from window [] window start) [
      | inl f ↦
          let trailer = trailer_found from window f.head f.rest (drop (length f.head) from) at.after (min (length from) 16385) (length f.head) refl refl
          f.parts refl f.is_head refl refl in
          inl (next_end (drop (length f.head) from), end_there count total len left trailer.0 (drop (length f.head) from) line at trailer.1 trailer.2)
      | inr found_none ↦
          let none = no_trailer from window at.after (min (length from) 16385) refl refl refl found_none in
          elim (cases_lt (length at.after) 16384) [
            | inl short ↦ inr (trailer_wanted count total len left line at small short none)
            | inr long ↦ inl (next_flaw Unreadable, trailer_bad count total len left line at small long none)
          ]
    ]

-- After the line of a chunk, its bytes and its end decide whether a part comes next.
settled_at_chunk : (count total : ℕ) (after : List ℕ) (line : ChunkLine) → IsBegun count total line [] (chunk_size line)
    → IsSettled count total (print_chunk_line line ++ after)
settled_at_chunk count total after line b = elim (cases_lt (length after) (chunk_size line + 2)) [
  | inl short ↦ inr (begun_open count total (chunk_size line) line [] after b short)
  | inr enough ↦
      let split = sym (take-append-drop (chunk_size line) after) in
      let front = length-take (chunk_size line) after in
      let both = ap length split ∙ length-append (take (chunk_size line) after) (drop (chunk_size line) after) in
      elim (line_end_decided (drop (chunk_size line) after)) [
        | inl x ↦
            let c = begun_whole count total (chunk_size line) line [] after (take (chunk_size line) after) x.0 b (omega arith)
            (split ∙ ap (λ t. take (chunk_size line) after ++ t) x.1) in
            inl (next_chunk c.0 x.0, c.2)
        | inr none ↦ inl (
          next_flaw Unreadable,
          begun_bad count total (chunk_size line) line [] after b
              (bad_end (chunk_size line) after (take (chunk_size line) after) (drop (chunk_size line) after) split (omega arith) (omega arith)
              (λ rest is. none (rest, is))),
        )
      ]
]

-- After any chunk line, it is decided whether a part comes next.
settled_at_line : (count total : ℕ) (left after : List ℕ) (line : ChunkLine) → count ≤ 65536 → total ≤ 16777216 → IsShortLine line
    → left ≡ print_chunk_line line ++ after → IsSettled count total left
settled_at_line count total left after line most small is e = elim (cases_lt 16777216 (total + chunk_size line)) [
  | inl large ↦ inl (next_flaw TooLarge, inr (line, after, is, e, large))
  | inr fits ↦ elim (cases_lt 0 (chunk_size line)) [
    | inl some ↦ elim (cases_lt count 65536) [
      | inl few ↦ subst (IsSettled count total) (sym e)
          (settled_at_chunk count total after line (record { is_line = is; size = omega arith; some = some; few = few; small = fits }))
      | inr many ↦ inl (next_flaw Unreadable, inr (line, after, is, e, (fits, inl (some, omega arith))))
    ]
    | inr none ↦
        let at : IsLineAt left (length (print_chunk_line line)) 0 line =
        record { is_line = is; after = after; parts = e; len_is = refl; size_is = omega arith } in
        settled_at_end count total (length (print_chunk_line line)) left line at small
  ]
]

-- It is decidable whether a part comes next.
next_decided : (count total : ℕ) (left : List ℕ) → count ≤ 65536 → total ≤ 16777216 → IsSettled count total left
next_decided count total left few small = elim (line_decided left) [
  | inl x ↦ settled_at_line count total left x.1 x.0 few small x.2 x.3
  | inr none ↦ settled_without_line count total left none
]

-- The bytes begin with a chunked body, have a flaw, or need more bytes.
abbrev pub AreDecided : List ℕ → Type 0
AreDecided rest = ((coded : List ℕ) × (after : List ℕ) × (body : List ℕ) × (rest ≡ coded ++ after) × SpellsChunks coded body)
    ⊎ (((flaw : Flaw) × HasBadBody Chunked rest flaw) ⊎ HasNoBody Chunked rest)

-- The next part decides this, unless it is a chunk.
decided_by : (rest left : List ℕ) (count total : ℕ) (chunks : List Chunk) → Walked rest left count total chunks
    → ((after : List ℕ) (k t : ℕ) (more : List Chunk) → Walked rest after k t more → length after < length left → AreDecided rest) → AreDecided rest
decided_by rest left count total chunks w goes_on = elim (next_decided count total left few small) [
  | inl x ↦ by x.0 x.1
  | inr none ↦ inr (inr (no_body_here rest left count total chunks w none))
]
  where
    few : count ≤ 65536
    few = let most = w.are.few in let is = w.count_is in omega arith

    small : total ≤ 16777216
    small = let most = w.are.small in let is = w.total_is in omega arith

    by : (next : Next) → ComesNext count total left next → AreDecided rest
    by (next_chunk c after) comes =
        let sizes = ap length (comes.1 ∙ chunk_split c after) ∙ length-append (print_chunk_line c.line) (c.bytes ++ (print_end crlf ++ after)) in
        let line = line_has_bytes c.line comes.0.line in
        let one = length-append c.bytes (print_end crlf ++ after) in
        let two = length-append (print_end crlf) after in
        goes_on after (count + 1) (total + length c.bytes) (chunks ++ c ∷ []) (walk_on rest left after c.bytes count total chunks c w comes refl) (omega arith)
    by (next_end after) comes = let whole = whole_there rest left after count total chunks w comes in inl (whole.0, after, _, whole.1, whole.2)
    by (next_flaw flaw) comes = inr (inl (flaw, walk_flawed rest left count total chunks flaw w comes))

-- All bytes begin with a chunked body, have a flaw, or need more bytes.
pub chunks_decided : (rest : List ℕ) → AreDecided rest
chunks_decided rest = within (length rest) rest 0 0 [] (walk_start rest) (omega arith)
  where
    within : (n : ℕ) (left : List ℕ) (count total : ℕ) (chunks : List Chunk) → Walked rest left count total chunks → length left ≤ n → AreDecided rest
    within zero left count total chunks w few = decided_by rest left count total chunks w (λ after k t more v less. absurd (omega arith))
    within (suc n) left count total chunks w few =
        decided_by rest left count total chunks w (λ after k t more v less. within n after k t more v (omega arith))
