-- Lemmas about the text of a digest.
use Rattle.std.proofs.Common.{◌≡◌, ◌≢◌, ℕ, List, length, replicate, Bool, true, false, refl, ◌∙◌, ap, arith, length-append}
use Rattle.std.specs.Bool.{Decides}
use Rattle.std.specs.Str.{bytes_eq}
use Rattle.std.proofs.lemmas.List.{length-replicate}
use Rattle.std.proofs.lemmas.Slice.Eq.{bytes_eq-Decides}
use Rattle.base64.specs.Engines.{standard}
use Rattle.base64.specs.Rfc4648.{encode_symbols, padding_len, unpadded_len}
use Rattle.base64.proofs.RoundTrip.{length-encode_symbols}
use Rattle.md5.specs.Md5.{md5}
use Rattle.md5.proofs.StandardFacts.{length-md5}
use Rattle.tfs_framing.specs.Digest.{digest_text}

-- The text of a digest has 24 bytes.
pub digest_text_size : (body : List ℕ) → length (digest_text body) ≡ 24
digest_text_size body =
    let symbols : length (encode_symbols standard.encode_table (md5 body)) ≡ 22 =
    length-encode_symbols standard.encode_table (md5 body) ∙ ap unpadded_len (length-md5 body) in
    let pads : length (replicate (padding_len (length (md5 body))) standard.padding.value) ≡ 2 =
    length-replicate (padding_len (length (md5 body))) standard.padding.value ∙ ap padding_len (length-md5 body) in
    let both = length-append (encode_symbols standard.encode_table (md5 body))
    (replicate (padding_len (length (md5 body))) standard.padding.value) in
    omega arith

-- A text of another length isn't the text of a digest.
pub no_digest : (text body : List ℕ) → length text ≢ 24 → false ≡ bytes_eq text (digest_text body)
no_digest text body other = by (bytes_eq text (digest_text body)) (bytes_eq-Decides text (digest_text body))
  where
    by : (b : Bool) → Decides b (text ≡ digest_text body) → false ≡ b
    by false none = refl
    by true is = absurd (other (ap length (is.0 refl) ∙ digest_text_size body))
