-- Lemmas about the escaped form of a text in JSON.
use Rattle.std.proofs.Common.{◌≡◌, ◌∙◌, ℕ, List, [], ◌++◌}
use Rattle.std.proofs.Common.{sym, append-nil}
use Rattle.json.specs.Print.{escape}

-- A text that needs no escape is appended unchanged, and nothing of it is left.
pub plain_told : (text : List ℕ) → escape text ≡ text → text ++ [] ≡ escape text
plain_told text same = append-nil text ∙ sym same
