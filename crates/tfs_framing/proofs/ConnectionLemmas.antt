-- Lemmas about the parts of a comma-separated list.
use Rattle.std.proofs.Common.{◌≡◌, ◌<◌, ◌+◌, ◌==◌, ℕ, zero, suc, List, [], ◌∷◌, length, take, drop, slice_index, true, false}
use Rattle.std.proofs.Common.{refl, arith}
use Rattle.std.proofs.lemmas.Bool.{false_from_ne_true}
use Rattle.memchr.specs.Find.{Nowhere, Passes, is_byte}
use Rattle.tfs_framing.specs.Connection.{parts_of}

-- The first comma ends the first part.
pub parts_at : (text : List ℕ) (p : ℕ) → p < length text → slice_index text p == 44 ≡ true → Nowhere (Passes (is_byte 44) text) 0 p
    → parts_of text ≡ take p text ∷ parts_of (drop (p + 1) text)
unfolding parts_of
parts_at [] p within is none = absurd (omega (arith, within))
parts_at (b ∷ text) zero within is none = rw is refl
parts_at (b ∷ text) (suc p) within is none =
    let other : (b == 44) ≡ false = false_from_ne_true (b == 44) (none 0 (omega arith) (omega arith)) in
    let later = parts_at text p (omega (arith, within)) is (λ k low high. none (suc k) (omega arith) (omega (arith, high))) in
    let next : suc p + 1 ≡ suc (p + 1) = omega arith in
    rw (other, later, next) refl

-- A text without a comma is a single part.
pub parts_whole : (text : List ℕ) → Nowhere (Passes (is_byte 44) text) 0 (length text) → parts_of text ≡ text ∷ []
unfolding parts_of
parts_whole [] none = refl
parts_whole (b ∷ text) none =
    let other : (b == 44) ≡ false = false_from_ne_true (b == 44) (none 0 (omega arith) (omega arith)) in
    let later = parts_whole text (λ k low high. none (suc k) (omega arith) (omega (arith, high))) in
    rw (other, later) refl
