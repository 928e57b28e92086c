-- The rest after a key is returned, and a bracket that begins no key is a fault.
use Rattle.std.proofs.Common.{◌≡◌, ◌≢◌, List, ℕ, ◌∷◌, length, get_or, sym, ap, ◌∙◌, arith}
use Rattle.std.proofs.lemmas.Bool.Decides.{nat_tests}
use Rattle.tfs_addr.specs.Address.{opening}
use Rattle.tfs_addr.proofs.KeyLemmas.{KeyEnds-from_rest, KeyEnds-shorter, KeyEnds-boundary, KeyEnds-back, front_byte, opens-no_piece, opens-bracket, closes, closes-no_piece}
use Rattle.tfs_addr.proofs.stripping.after_long_key.Goals as goal
use Rattle.tfs_addr.proofs.stripping.after_long_key.Goals.{in_default-via-then-as_bytes-lt1, in_default-via-else-as_bytes-lt1+in_default-1}

pub overflow_sub-text : goal.overflow_sub-text
overflow_sub-text c =
    let split = rw c.as_bytes.ensures.value at (front_byte c.as_bytes.result.now opening (omega arith) (omega arith)) in
    let end = sym (rw c.as_bytes.ensures.value at c.in-Some.ensures) in
    KeyEnds-shorter _ _ (KeyEnds-from_rest _ _ _ c.utf8.text split end)

pub split_at-requires : goal.split_at-requires
split_at-requires c =
    let split = rw c.as_bytes.ensures.value at (front_byte c.as_bytes.result.now opening (omega arith) (omega arith)) in
    let end = sym (rw c.as_bytes.ensures.value at c.in-Some.ensures) in
    KeyEnds-boundary _ _ (KeyEnds-from_rest _ _ _ c.utf8.text split end)

pub returns-in-Some-clause-ok : goal.returns-in-Some-clause-ok
returns-in-Some-clause-ok c =
    let split = rw c.as_bytes.ensures.value at (front_byte c.as_bytes.result.now opening (omega arith) (omega arith)) in
    let end = sym (rw c.as_bytes.ensures.value at c.in-Some.ensures) in
    let ends = KeyEnds-from_rest _ _ _ c.utf8.text split end in
    rw (c.split_at.ensures.back, KeyEnds-back _ _ ends) ends.key

pub returns-in-None : goal.returns-in-None
returns-in-None c =
    let split = rw c.as_bytes.ensures.value at (front_byte c.as_bytes.result.now opening (omega arith) (omega arith)) in
    let none = sym (rw c.as_bytes.ensures.value at c.in-None.ensures) in
    let bracket = opens-bracket _ _ c.utf8.text split in
    record {
      ok = tt;
      err = opens-no_piece _ _ c.utf8.text split none;
      fault = bracket;
    }

pub returns-in_default : goal.returns-in_default
returns-in_default c =
    let other : (rest : List ℕ) → c.args.text.now ≢ opening ∷ rest = λ rest e.
    let whole : c.as_bytes.result.now ≡ opening ∷ rest = c.as_bytes.ensures.value ∙ e in
    elim c.in_default.branch [
      | in_default-via-then-as_bytes-lt1 w ↦ grind (arith, nat_tests, ap length whole)
      | in_default-via-else-as_bytes-lt1+in_default-1 w ↦ omega (arith, ap (λ (t : List ℕ). get_or t 0 0) whole)
    ] in
    let bracket = closes _ c.utf8.text c.requires.some c.requires.bracket other in
    record {
      ok = tt;
      err = closes-no_piece _ bracket;
      fault = bracket;
    }
