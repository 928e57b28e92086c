-- The digest of a body (RFC 1864, section 2; RFC 1321; RFC 4648, section 4).
use Rattle.std.specs.Prelude.{ℕ, Bool, true, false, List, [], ◌∷◌, codes}
use Rattle.std.specs.Str.{bytes_eq}
use Rattle.base64.specs.Engines.{standard}
use Rattle.base64.specs.GeneralPurpose.{encode_of}
use Rattle.md5.specs.Md5.{md5}
use Rattle.httparse.specs.Grammar.{RequestHead}
use Rattle.tfs_framing.specs.Fields.{fields_of, values_named}
use Rattle.tfs_framing.specs.declared.fields.AskedDigest.{AskedDigest}
use Rattle.tfs_framing.specs.declared.fields.AskedDigest.TheVariants.{Any, Text, Impossible}

-- The base64 text of a body's MD5.
abbrev pub digest_text : List ℕ → List ℕ
digest_text body = encode_of standard (md5 body)

-- No `Content-MD5` value, or exactly one, the body's digest.
abbrev pub fits_values : List (List ℕ) → List ℕ → Bool
fits_values [] body = true
fits_values (value ∷ []) body = bytes_eq value (digest_text body)
fits_values (value ∷ other ∷ values) body = false

-- The body matches the head's `Content-MD5` fields.
abbrev pub fits_digest : RequestHead → List ℕ → Bool
fits_digest h body = fits_values (values_named (codes "content-md5") (fields_of h)) body

-- The body matches the digest kept from a head.
abbrev pub has_asked : AskedDigest → List ℕ → Bool
has_asked Any body = true
has_asked (Text text) body = bytes_eq text (digest_text body)
has_asked Impossible body = false
