-- Queries that are refused for their number of texts.
use Rattle.std.proofs.Common.{◌≡◌, ℕ, ◌<◌, ◌≤◌, length, Some, None, inl, inr, sym, ◌∙◌, ap, arith, option_map}
use Rattle.std.proofs.lemmas.Bool.{cases_lt}
use Rattle.tfs_state.specs.Document.{Document}
use Rattle.tfs_index.proofs.ImpactLemmas.{no_text, many_texts}
use Rattle.tfs_calls.specs.Refusal.{no_address, too_many_addresses}
use Rattle.tfs_calls.specs.Impact.{query_refusal, fault_refusal}
use Rattle.tfs_calls.specs.declared.query.Query.{Query}

module _ (d : Document) (query : Query) where
  -- A query without texts is refused.
  pub no_text_refused : length query.texts ≡ 0 → query_refusal d query ≡ Some no_address
  no_text_refused none = ap (option_map fault_refusal) (no_text d query.texts none)

  -- A query with more than 64 texts is refused.
  pub many_texts_refused : 64 < length query.texts → query_refusal d query ≡ Some too_many_addresses
  many_texts_refused many = ap (option_map fault_refusal) (many_texts d query.texts many)

  -- A query that isn't refused has 1 to 64 texts.
  pub few_where_none : query_refusal d query ≡ None → (0 < length query.texts) × (length query.texts ≤ 64)
  few_where_none none = (some, few)
    where
      some : 0 < length query.texts
      some = elim (cases_lt 0 (length query.texts)) [
        | inl above ↦ above
        | inr least ↦ let e : Some no_address ≡ None = sym (no_text_refused (omega (arith, least))) ∙ none in cc
      ]

      few : length query.texts ≤ 64
      few = elim (cases_lt 64 (length query.texts)) [
        | inl many ↦ let e : Some too_many_addresses ≡ None = sym (many_texts_refused many) ∙ none in cc
        | inr most ↦ most
      ]
