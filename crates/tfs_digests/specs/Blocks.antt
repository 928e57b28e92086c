-- A text as blocks of 64 bytes (RFC 1321, sections 3.1 and 3.2).
use Rattle.std.specs.Prelude.{◌≡◌, ℕ, ◌*◌, ◌/◌, List, length, take, drop}
use Rattle.md5.specs.Md5.{padded_message, hash_after}

-- The number of blocks of a text once it is padded.
unfoldable pub block_count : List ℕ → ℕ
block_count m = length (padded_message m) / 64

-- Block i of a text once it is padded.
unfoldable pub block_of : List ℕ → ℕ → List ℕ
block_of m i = take 64 (drop (i * 64) (padded_message m))

-- The bytes after a text's whole blocks once it is padded.
unfoldable pub end_of : List ℕ → List ℕ
end_of m = drop (length m / 64 * 64) (padded_message m)

-- The bytes begin with a text's end.
abbrev pub BeginsWithEnd : List ℕ → List ℕ → Type 0
BeginsWithEnd m e = take (length (end_of m)) e ≡ end_of m

-- The hash value after the first n blocks of a text once it is padded.
unfoldable pub hash_of_blocks : List ℕ → ℕ → List ℕ
hash_of_blocks m n = hash_after (padded_message m) n
