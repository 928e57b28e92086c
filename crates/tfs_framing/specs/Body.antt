-- Message bodies (RFC 9112, section 6.3).
use Rattle.std.specs.Prelude.{◌≡◌, ◌==◌, ◌&&◌, ℕ, nat_lt, nat_le, Bool, true, false, List, [], ◌∷◌, ◌++◌, length, codes}
use Rattle.std.specs.Prelude.{if◌then◌else◌, Result, Ok, Err}
use Rattle.std.specs.List.{list_all}
use Rattle.std.specs.Char.{is_ascii_digit}
use Rattle.std.specs.Str.{bytes_eq}
use Rattle.std.specs.Str.Parse.{digits_value}
use Rattle.httparse.specs.Grammar.{RequestHead}
use Rattle.tfs_calls.specs.declared.refusal.Refusal.{Refusal}
use Rattle.tfs_calls.specs.declared.refusal.Refusal.TheVariants.{NoHost, BadLength, TransferCoding, BodyTooLarge, BadChunk}
use Rattle.tfs_framing.specs.Fields.{fields_of, lower, values_named}
use Rattle.tfs_framing.specs.Chunks.{SpellsChunks, HasFlaw}
use Rattle.tfs_framing.specs.declared.lines.BodyLength.{BodyLength}
use Rattle.tfs_framing.specs.declared.lines.BodyLength.TheVariants.{Absent, Sized, Chunked}
use Rattle.tfs_framing.specs.declared.chunks.Flaw.{Flaw}
use Rattle.tfs_framing.specs.declared.chunks.Flaw.TheVariants.{TooLarge, Unreadable}

-- One `Host` field, or none in version 1.0 (RFC 9112, section 3.2).
abbrev pub names_host : ℕ → List (List ℕ) → Bool
names_host minor [] = minor == 0
names_host minor (host ∷ []) = true
names_host minor (host ∷ other ∷ hosts) = false

-- The length in a `Content-Length` field (RFC 9110, section 8.6).
abbrev pub length_of_text : List ℕ → Result BodyLength Refusal
length_of_text text = if nat_lt 0 (length text) && list_all is_ascii_digit text
    then (if nat_le (digits_value 10 text) 16777216 then Ok (Sized (digits_value 10 text)) else Err BodyTooLarge)
    else Err BadLength

-- `chunked` alone, in any case, in version 1.1 (RFC 9112, section 7).
abbrev pub length_of_coding : ℕ → List ℕ → Result BodyLength Refusal
length_of_coding minor coding = if minor == 1 && bytes_eq (lower coding) (codes "chunked") then Ok Chunked else Err TransferCoding

-- Refuses both kinds, or several lengths, as ambiguous (RFC 9112, section 6.3).
abbrev pub length_told : ℕ → List (List ℕ) → List (List ℕ) → Result BodyLength Refusal
length_told minor [] [] = Ok Absent
length_told minor [] (coding ∷ []) = length_of_coding minor coding
length_told minor [] (coding ∷ other ∷ codings) = Err TransferCoding
length_told minor (text ∷ []) [] = length_of_text text
length_told minor (text ∷ other ∷ texts) [] = Err BadLength
length_told minor (text ∷ texts) (coding ∷ codings) = Err BadLength

abbrev pub length_of_fields : ℕ → List (List ℕ × List ℕ) → Result BodyLength Refusal
length_of_fields minor fields = if names_host minor (values_named (codes "host") fields)
    then length_told minor (values_named (codes "content-length") fields) (values_named (codes "transfer-encoding") fields)
    else Err NoHost

abbrev pub body_length : RequestHead → Result BodyLength Refusal
body_length h = length_of_fields h.minor (fields_of h)

abbrev pub SpellsBody : BodyLength → List ℕ → List ℕ → Type 0
SpellsBody Absent coded body = (coded ≡ []) × (body ≡ [])
SpellsBody (Sized size) coded body = (coded ≡ body) × (length body ≡ size)
SpellsBody Chunked coded body = SpellsChunks coded body

-- This flaw lets no body begin `rest`.
abbrev pub HasBadBody : BodyLength → List ℕ → Flaw → Type 0
HasBadBody Absent rest flaw = ⊥
HasBadBody (Sized size) rest flaw = ⊥
HasBadBody Chunked rest flaw = HasFlaw rest flaw

abbrev pub refusal_of : Flaw → Refusal
refusal_of TooLarge = BodyTooLarge
refusal_of Unreadable = BadChunk

-- No such body begins `rest`, and no flaw.
pub record HasNoBody (size : BodyLength) (rest : List ℕ) : Type 0 where
  pub none : (coded body after : List ℕ) → rest ≡ coded ++ after → ¬ (SpellsBody size coded body)
  pub no_flaw : (flaw : Flaw) → ¬ (HasBadBody size rest flaw)
