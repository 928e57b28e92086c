-- It is decidable whether bytes have a prefix that ends with an empty line.
use Rattle.std.proofs.Common.{◌≡◌, ◌⊎◌, ℕ, List, [], ◌∷◌, ◌++◌, refl, inl, inr}
use Rattle.httparse.specs.Ascii.{line_feed}
use Rattle.tfs_framing.specs.Head.{EndsWithEmptyLine, IsMessageHead}
use Rattle.tfs_framing.proofs.HeadLemmas.{PassedOver, byte_passed, head_found, passed_all}
use Rattle.tfs_framing.proofs.EachPiece.{same_or_not, newline_decided}

-- The bytes begin with a message head.
pub record FindsHead (bytes : List ℕ) : Type 0 where
  pub head : List ℕ
  pub rest : List ℕ
  pub parts : bytes ≡ head ++ rest
  pub is_head : IsMessageHead head

-- No prefix of the bytes ends with an empty line.
abbrev pub FindsNone : List ℕ → Type 0
FindsNone bytes = (part rest : List ℕ) → bytes ≡ part ++ rest → ¬ (EndsWithEmptyLine part)

-- After the searched bytes, the first line feed before an empty line ends the head. Otherwise no
-- prefix of the bytes ends with an empty line.
pub found_from : (bytes front rest : List ℕ) → PassedOver bytes front rest → FindsHead bytes ⊎ FindsNone bytes
found_from bytes front [] passed = inr (passed_all bytes front passed)
found_from bytes front (byte ∷ after) passed = by (λ next p. found_from bytes next after p)
  where
    by : ((next : List ℕ) → PassedOver bytes next after → FindsHead bytes ⊎ FindsNone bytes) → FindsHead bytes ⊎ FindsNone bytes
    by goes_on = elim (same_or_not byte line_feed) [
      | inr other ↦ (let p = byte_passed bytes front (byte ∷ after) after byte passed refl (λ is. absurd (other is)) in goes_on p.0 p.1)
      | inl is ↦ elim (newline_decided after) [
        | inr none ↦ (let p = byte_passed bytes front (byte ∷ after) after byte passed refl (λ same. none) in goes_on p.0 p.1)
        | inl x ↦
            let found = head_found bytes front (byte ∷ after) after x.1 byte x.0 passed refl is x.2 in
            inl (record { head = found.0; rest = found.1; parts = found.2; is_head = found.4 })
      ]
    ]
