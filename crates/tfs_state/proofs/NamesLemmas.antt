-- Lemmas about specs/Names.antt.
use Rattle.std.proofs.Common.{◌≡◌, ℕ, ◌<◌, List, [], ◌++◌, map, get_or, true, false, Some, option_map, String, string_bytes, sym, ap, ◌∙◌, true≢false}
use Rattle.std.proofs.Common.{arith, append_assoc, append-nil}
use Rattle.std.specs.List.{IsDistinct, slice_get}
use Rattle.std.specs.Str.{bytes_eq}
use Rattle.std.specs.String.{string_eq}
use Rattle.std.proofs.lemmas.Map.Keys.{apart_from_distinct}
use Rattle.std.proofs.lemmas.Option.{slice_get-map, slice_get_within, get_or_from_slice_get}
use Rattle.std.proofs.lemmas.Slice.Eq.{bytes_eq-Decides}
use Rattle.tfs_state.specs.Names.{AreApart, Extends}
use Rattle.tfs_state.proofs.ListLemmas.{map_at, slice_get_longer}

module _ {Y : Type 0} where
  -- In a list of distinct keys, two keys at different indexes differ.
  later_differs : (keys : List (String Y)) (m n : ℕ) (text : List ℕ) → IsDistinct string_eq keys
      → slice_get (map string_bytes keys) m ≡ Some text → slice_get (map string_bytes keys) n ≡ Some text → m < n → ⊥
  later_differs keys m n text distinct at_m at_n h =
      let x = map_at string_bytes keys m text at_m in
      let y = map_at string_bytes keys n text at_n in
      let differ = apart_from_distinct string_eq keys m n x.0 distinct h (slice_get_within keys n y.0 y.1) in
      let apart : bytes_eq (string_bytes x.0) (string_bytes y.0) ≡ false =
      ap (λ z. bytes_eq (string_bytes z) (string_bytes y.0)) (sym (get_or_from_slice_get keys m x.0 x.0 x.1))
      ∙ ap (λ z. string_eq (get_or keys m x.0) z) (sym (get_or_from_slice_get keys n y.0 x.0 y.1)) ∙ differ in
      true≢false (sym ((bytes_eq-Decides (string_bytes x.0) (string_bytes y.0)).1 (x.2 ∙ sym y.2)) ∙ apart)

  -- In a list of distinct keys, equal texts have the same number.
  pub keys_apart : (keys : List (String Y)) → IsDistinct string_eq keys → AreApart (map string_bytes keys)
  keys_apart keys distinct m n text at_m at_n =
      let below : m < n → ⊥ = later_differs keys m n text distinct at_m at_n in
      let above : n < m → ⊥ = later_differs keys n m text distinct at_n at_m in
      omega arith

  -- If a text equals the key at an index, the text at that index is it.
  pub stored_text : (keys : List (String Y)) (n : ℕ) (text key : String Y) → slice_get keys n ≡ Some key → string_eq text key ≡ true
      → slice_get (map string_bytes keys) n ≡ Some (string_bytes text)
  stored_text keys n text key at same =
      slice_get-map string_bytes keys n ∙ ap (option_map string_bytes) at
      ∙ ap Some (sym ((bytes_eq-Decides (string_bytes text) (string_bytes key)).0 same))

-- Extending is transitive.
pub extends_more : (a b c : List (List ℕ)) → Extends a b → Extends b c → Extends a c
extends_more a b c p q = record { more = p.more ++ q.more; grown = q.grown ∙ ap (λ t. t ++ q.more) p.grown ∙ append_assoc a p.more q.more }

-- A list of texts extends itself.
pub extends_none : (a : List (List ℕ)) → Extends a a
extends_none a = record { more = []; grown = sym (append-nil a) }

-- A text keeps its number in an extended list.
pub keeps_number : (a b : List (List ℕ)) (n : ℕ) (text : List ℕ) → Extends a b → slice_get a n ≡ Some text → slice_get b n ≡ Some text
keeps_number a b n text p e = ap (λ t. slice_get t n) p.grown ∙ slice_get_longer a p.more n text e
