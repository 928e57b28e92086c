-- The key ends with its closing bracket, after its digits or its quoted text.
use Rattle.std.proofs.Common.{◌≡◌, ◌≢◌, List, ◌∷◌, ℕ, Bor, Some, false, true, sym, ap, ◌∙◌, arith}
use Rattle.std.specs.Char.{is_ascii_digit}
use Rattle.std.proofs.lemmas.Bool.Decides.{nat_tests}
use Rattle.tfs_addr.specs.Address.{closing, quote}
use Rattle.tfs_addr.specs.Steps.{rest_after, units_rest, key_rest, without_digits}
use Rattle.tfs_addr.proofs.EndLemmas.{closed, key_rest-quote, key_rest-digit, key_rest-other}
use Rattle.tfs_addr.proofs.stripping.after_opening.Goals as goal
use Rattle.tfs_addr.proofs.stripping.after_opening.Goals.{in-34+in_ok-end-in-34, in-48-to-57, in_default-via-then-first-lt48, in_default-via-else-first-lt48+else-first-lt58}

pub returns-in_default : goal.returns-in_default
returns-in_default c =
    let first = c.in_ok-first.first.now in
    let digit : is_ascii_digit first ≡ false = elim c.in_default.branch [
      | in_default-via-then-first-lt48 w ↦ grind (arith, nat_tests)
      | in_default-via-else-first-lt48+else-first-lt58 w ↦ grind (arith, nat_tests)
    ] in
    let other : first ≢ quote = elim c.in_default.branch [
      | in_default-via-then-first-lt48 w ↦ omega arith
      | in_default-via-else-first-lt48+else-first-lt58 w ↦ omega arith
    ] in
    sym (ap key_rest c.in_ok-first.ensures.cases.0 ∙ key_rest-other _ _ other digit)

pub returns : goal.returns
returns c =
    let first = c.in_ok-first.first.now in
    let key = c.in_ok-first.key.now in
    let split = c.in_ok-first.ensures.cases.0 in
    elim c.match-first.branch [
      | in-34+in_ok-end-in-34 w ↦
          let ended : units_rest key ≡ Some c.match-first.end.now =
          sym w.in_ok-end-in-34.ensures ∙ ap (λ (r : Bor (List ℕ)). Some r.now) (sym w.end-is) in
          c.after_closing.ensures
          ∙ sym (ap key_rest (split ∙ ap (λ (x : ℕ). x ∷ key) w.in-34.is) ∙ key_rest-quote key ∙ ap closed ended)
      | in-48-to-57 w ↦
          let ended : c.match-first.end.now ≡ without_digits key =
          ap (λ (r : Bor (List ℕ)). r.now) w.end-is ∙ w.after_digits-end.ensures in
          let other : first ≢ quote = omega arith in
          let digit : is_ascii_digit first ≡ true = grind (arith, nat_tests) in
          c.after_closing.ensures ∙ ap (rest_after closing) ended
          ∙ sym (ap key_rest split ∙ key_rest-digit first key other digit)
    ]
