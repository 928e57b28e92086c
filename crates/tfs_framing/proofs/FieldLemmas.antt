-- Lemmas about the fields of a head: `http_header` accepts each of them.
use Rattle.std.proofs.Common.{slice_index_or, true, zero, suc, ◌≡◌, ◌≤◌, ◌<◌, ◌∙◌, ℕ, List, [], ◌∷◌, length, flat_map, All, refl, ap, subst, arith}
use Rattle.std.proofs.Common.{append-nil, length-append}
use Rattle.httparse.specs.Grammar.{Field, IsField, RequestHead, print_field, print_request, field_value}
use Rattle.httparse.specs.Grammar.{is_token_byte}
use Rattle.httparse.proofs.TrimLemmas.{AllPass-trim_ows}
use Rattle.http_header.specs.FieldName.{IsFieldName}
use Rattle.http_header.specs.FieldValue.{IsFieldValue}
use Rattle.http_header.specs.Token.{is_token_byte as header_token_byte, is_value_byte}
use Rattle.tfs_framing.specs.Head.{IsHeadOf}

-- `httparse` and `http_header` allow the same bytes in a name.
same_bytes : (b : ℕ) → is_token_byte b ≡ header_token_byte b
unfolding is_token_byte header_token_byte
same_bytes b = refl

-- The name of a field is at most as long as the text of all fields.
names_fit : (fields : List Field) (k : ℕ) (f : Field) → k < length fields → length (slice_index_or fields k f).name ≤ length (flat_map print_field fields)
names_fit [] k f low = absurd (omega arith)
names_fit (first ∷ fields) zero f low = simp (length-append) (omega arith)
names_fit (first ∷ fields) (suc k) f low = let one = names_fit fields k f (omega (arith, low)) in simp (length-append) (omega arith)

-- The text of all fields is at most as long as the head.
fields_fit : (h : RequestHead) → length (flat_map print_field h.fields) ≤ length (print_request h)
unfolding print_request
fields_fit h = simp (length-append) (omega arith)

-- `http_header` accepts the name and the value of each field of a head.
pub fields_taken : (head : List ℕ) (h : RequestHead) → length head ≤ 16384 → IsHeadOf head h
    → All (λ f. IsFieldName f.name × IsFieldValue (field_value f)) h.fields
fields_taken head h short is k f low =
    let field : IsField (slice_index_or h.fields k f) = is.reads.0.fields k f low in
    let name = names_fit h.fields k f low in
    let all = fields_fit h in
    let size : length head ≡ length (print_request h) = ap length (is.reads.1 ∙ append-nil (print_request h)) in (
      ((field.name.0, λ i d within. subst (λ v. v ≡ true) (same_bytes _) (field.name.1 i d within)), omega arith),
      AllPass-trim_ows is_value_byte (slice_index_or h.fields k f).raw field.raw,
    )
