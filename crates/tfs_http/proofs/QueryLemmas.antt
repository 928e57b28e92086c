-- Lemmas about the first pair with a name.
use Rattle.std.proofs.Common.{◌≡◌, ℕ, List, [], ◌∷◌, Some, None, true, false, ◌∙◌, ap, cond}
use Rattle.std.specs.Str.{bytes_eq}
use Rattle.tfs_http.specs.Query.{decoded, first_value}

-- A pair with another name doesn't change the first value.
pub other_pair : (name : List ℕ) (pairs rest : List (List ℕ × List ℕ)) (pair : List ℕ × List ℕ) → pairs ≡ pair ∷ rest → bytes_eq (decoded pair.0) name ≡ false
    → first_value name pairs ≡ first_value name rest
unfolding first_value
other_pair name pairs rest pair is other = ap (first_value name) is ∙ ap (λ b. cond b (Some (decoded pair.1)) (first_value name rest)) other

-- A pair with the name has the first value.
pub found_pair : (name : List ℕ) (pairs rest : List (List ℕ × List ℕ)) (pair : List ℕ × List ℕ) → pairs ≡ pair ∷ rest → bytes_eq (decoded pair.0) name ≡ true
    → first_value name pairs ≡ Some (decoded pair.1)
unfolding first_value
found_pair name pairs rest pair is same = ap (first_value name) is ∙ ap (λ b. cond b (Some (decoded pair.1)) (first_value name rest)) same

-- Without pairs there is no first value.
pub no_pair : (name : List ℕ) (pairs : List (List ℕ × List ℕ)) → pairs ≡ [] → first_value name pairs ≡ None
unfolding first_value
no_pair name pairs is = ap (first_value name) is
