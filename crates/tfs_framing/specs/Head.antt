-- Message heads (RFC 9112, sections 2.2, 3 and 5).
use Rattle.std.specs.Prelude.{◌≡◌, ℕ, ◌+◌, ◌≤◌, ◌==◌, List, [], ◌∷◌, ◌++◌, length, count_by}
use Rattle.httparse.specs.Ascii.{line_feed}
use Rattle.httparse.specs.Grammar.{LineEnd, print_end, print_blank, RequestHead, ReadsRequest}

-- CR LF or LF at the start.
abbrev pub StartsWithEmptyLine : List ℕ → Type 0
StartsWithEmptyLine bytes = (end : LineEnd) × (rest : List ℕ) × (bytes ≡ print_end end ++ rest)

-- An empty line at the end.
abbrev pub EndsWithEmptyLine : List ℕ → Type 0
EndsWithEmptyLine bytes = (front : List ℕ) × (end : LineEnd) × (bytes ≡ front ++ line_feed ∷ print_end end)

-- A text up to its first empty line.
pub record IsMessageHead (head : List ℕ) : Type 0 where
  pub ends : EndsWithEmptyLine head
  pub shortest : (part rest : List ℕ) → head ≡ part ++ rest → EndsWithEmptyLine part → rest ≡ []

-- Skipped empty lines and a head, at most 16,384 bytes together, then a rest.
pub record HasHead (bytes : List ℕ) (skipped : List LineEnd) (head rest : List ℕ) : Type 0 where
  pub parts : bytes ≡ print_blank skipped ++ (head ++ rest)
  pub starts : ¬ (StartsWithEmptyLine head)
  pub is_head : IsMessageHead head
  pub size : length (print_blank skipped) + length head ≤ 16384

-- No head ends in the first 16,384 bytes.
abbrev pub HasNoHead : List ℕ → Type 0
HasNoHead bytes = (skipped : List LineEnd) (head rest : List ℕ) → ¬ (HasHead bytes skipped head rest)

abbrev pub line_feeds : List ℕ → ℕ
line_feeds bytes = count_by (λ byte. byte == line_feed) bytes

-- A valid head by the grammar of `httparse`, with at most 64 fields.
pub record IsHeadOf (head : List ℕ) (h : RequestHead) : Type 0 where
  pub reads : ReadsRequest head h []
  pub fields : length h.fields ≤ 64
