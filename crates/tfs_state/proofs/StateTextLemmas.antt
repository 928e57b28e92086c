-- Lemmas about specs/StateText.antt: a content, its document, and the first fault.
use Rattle.std.proofs.Common.{◌≡◌, ℕ, ◌≤◌, List, [], length, Bool, true, false, cond, nat_eq, nat_le, Option, Some, None, option_map, Result, Ok, Err}
use Rattle.std.proofs.Common.{refl, sym, ap, subst, ◌∙◌}
use Rattle.std.specs.Option.{ok_or, unwrap_or, option_eq}
use Rattle.std.specs.Result.{result_ok, result_err}
use Rattle.std.proofs.lemmas.Bool.{le-leb, leb-true}
use Rattle.serde_json.specs.Data.{Data}
use Rattle.tfs_json.specs.Json.{json_value}
use Rattle.tfs_state.specs.Document.{Document, Instance}
use Rattle.tfs_state.specs.Resources.{result_and_then, result_map}
use Rattle.tfs_state.specs.StateText.{Content, version_of, serial_of, lineage_of, instances_of, content_of, text_content, document_with, Describes}
use Rattle.tfs_state.specs.StateText.{SpellsDocument, first_state_fault, document_of, document_given}
use Rattle.tfs_state.specs.Contents.{Keeps}
use Rattle.tfs_state.specs.declared.content.Content.{Content as Parts}
use Rattle.tfs_state.specs.declared.fault.StateFault.{StateFault}
use Rattle.tfs_state.specs.declared.fault.StateFault.TheVariants.{NotJson, Version, Serial, Lineage}
use Rattle.tfs_state.proofs.ContentsLemmas.{is_number}

-- If the checks of version, serial, lineage and instances give a content, their results are its
-- parts.
parts_of : (b : Bool) (s : Option ℕ) (l : Option (List ℕ)) (r : Result (List Instance) StateFault) (content : Content)
    → cond b (result_and_then (λ serial. result_and_then (λ lineage. result_map (λ instances. record {
      serial = serial;
      lineage = lineage;
      instances
          = instances;
    }) r)
    (ok_or l Lineage)) (ok_or s Serial)) (Err Version) ≡ Ok content
    → (b ≡ true) × (s ≡ Some content.serial) × (l ≡ Some content.lineage) × (r ≡ Ok content.instances)
parts_of false s l r content e = cc
parts_of true None l r content e = cc
parts_of true (Some serial) None r content e = cc
parts_of true (Some serial) (Some lineage) (Err fault) content e = cc
parts_of true (Some serial) (Some lineage) (Ok instances) content e =
    let whole : Content = record { serial = serial; lineage = lineage; instances = instances } in
    let same : whole ≡ content = cc in
    (refl, ap (λ (c : Content). Some c.serial) same, ap (λ (c : Content). Some c.lineage) same, ap (λ (c : Content). Ok c.instances) same)

-- A value with a content describes the document of that content.
described : (bytes : List ℕ) (value : Data) (content : Content) → content_of value ≡ Ok content → Describes value (document_with bytes content)
unfolding content_of
described bytes value content e =
    let parts = parts_of (option_eq nat_eq (version_of value) (Some 4)) (serial_of value) (lineage_of value) (instances_of value) content e in
    record { version = is_number (version_of value) 4 parts.0; serial = parts.1; lineage = parts.2; instances = parts.3 }

-- A value that describes a document has the document's content.
content_described : (value : Data) (d : Document) → Describes value d
    → content_of value ≡ Ok (record { serial = d.serial; lineage = d.lineage; instances = d.instances })
unfolding content_of
content_described value d h = rw h.version (rw h.serial (rw h.lineage (rw h.instances refl)))

-- A text with a content spells the document of that content.
pub content_spells : (bytes : List ℕ) (content : Content) → length bytes ≤ 16777216 → text_content bytes ≡ Ok content
    → SpellsDocument bytes (document_with bytes content)
content_spells bytes content size e =
    elim (json_value bytes) as (λ o. json_value bytes ≡ o → result_and_then content_of (ok_or o NotJson) ≡ Ok content
    → SpellsDocument bytes (document_with bytes content)) [
      | None ↦ λ _ f. cc
      | Some value ↦ λ json f. record { size = size; kept = refl; described = (value, json, described bytes value content f) }
    ] refl e

-- A text that spells a document has the document's content.
pub spelled_content : (bytes : List ℕ) (d : Document) → SpellsDocument bytes d
    → (content : Content) × (text_content bytes ≡ Ok content) × (document_with bytes content ≡ d)
spelled_content bytes d h = (
  record { serial = d.serial; lineage = d.lineage; instances = d.instances },
  ap (λ o. result_and_then content_of (ok_or o NotJson)) h.described.1 ∙ content_described h.described.0 d h.described.2,
  ap (λ b. let e : Document = record { bytes = b; serial = d.serial; lineage = d.lineage; instances = d.instances } in e) (sym h.kept),
)

-- The document of a text with a content is the document of that content.
content_computed : (bytes : List ℕ) (content : Content) → length bytes ≤ 16777216 → text_content bytes ≡ Ok content
    → document_of bytes ≡ Some (document_with bytes content)
content_computed bytes content size e =
    ap (λ b. cond b (option_map (document_with bytes) (result_ok (text_content bytes))) None) (le-leb (length bytes) 16777216 size)
    ∙ ap (λ r. option_map (document_with bytes) (result_ok r)) e

-- If bytes spell a document, it is their document.
pub spelled_computed : (bytes : List ℕ) (d : Document) → SpellsDocument bytes d → document_of bytes ≡ Some d
spelled_computed bytes d h = let c = spelled_content bytes d h in content_computed bytes c.0 h.size c.1 ∙ ap Some c.2

-- If bytes spell a document, they have no fault.
pub spelled_faultless : (bytes : List ℕ) (d : Document) → SpellsDocument bytes d → first_state_fault bytes ≡ None
spelled_faultless bytes d h = ap result_err (spelled_content bytes d h).1

-- If bytes have no fault, they spell a document.
pub faultless_spelled : (bytes : List ℕ) → length bytes ≤ 16777216 → first_state_fault bytes ≡ None → (d : Document) × SpellsDocument bytes d
faultless_spelled bytes size e =
    elim (text_content bytes) as (λ r. text_content bytes ≡ r → result_err r ≡ None → (d : Document) × SpellsDocument bytes d) [
      | Ok content ↦ λ is _. (document_with bytes content, content_spells bytes content size is)
      | Err fault ↦ λ is f. cc
    ] refl e

-- If bytes have a document, they spell it.
pub given_spelled : (bytes : List ℕ) (d : Document) → document_of bytes ≡ Some d → SpellsDocument bytes d
given_spelled bytes d e =
    elim (nat_le (length bytes) 16777216) as (λ b. nat_le (length bytes) 16777216 ≡ b
    → cond b (option_map (document_with bytes) (result_ok (text_content bytes))) None ≡ Some d → SpellsDocument bytes d) [
      | true ↦ λ size f. with_content (leb-true (length bytes) 16777216 size) (text_content bytes) refl f
      | false ↦ λ size f. cc
    ] refl e
  where
    with_content : length bytes ≤ 16777216 → (r : Result Content StateFault) → text_content bytes ≡ r
        → option_map (document_with bytes) (result_ok r) ≡ Some d → SpellsDocument bytes d
    with_content size (Ok content) is f = subst (SpellsDocument bytes) (let same : document_with bytes content ≡ d = cc in same) (content_spells
        bytes content size is)
    with_content size (Err fault) is f = cc

-- The document of the bytes that the parts represent is the document of the content.
pub kept_document : (bytes : List ℕ) (parts : Parts) (keeps : Keeps bytes parts) → document_given bytes ≡ document_with bytes keeps.content
kept_document bytes parts keeps =
    ap (λ o. unwrap_or o (record { bytes = bytes; serial = 0; lineage = []; instances = [] })) (content_computed bytes keeps.content keeps.size keeps.read)

-- The bytes that the parts represent spell their document.
pub kept_spells : (bytes : List ℕ) (parts : Parts) → Keeps bytes parts → SpellsDocument bytes (document_given bytes)
kept_spells bytes parts keeps = subst (SpellsDocument bytes) (sym (kept_document bytes parts keeps)) (content_spells bytes keeps.content keeps.size keeps.read)
