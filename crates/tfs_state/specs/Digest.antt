-- The digest of a text, for looking up texts: FNV-1a with 64 bits (RFC 9923, section 2).
use Rattle.std.specs.Prelude.{ℕ, ◌*◌, ◌%◌, ◌^◌, List, bit_xor}
use Rattle.std.specs.List.{fold}

-- The digest of some bytes and one more, from the digest of the bytes.
abbrev pub digest_with : ℕ → ℕ → ℕ
digest_with digest byte = bit_xor digest byte * 1099511628211 % 2 ^ 64

-- The digest of a text.
unfoldable pub digest_of : List ℕ → ℕ
digest_of text = fold digest_with 14695981039346656037 text
