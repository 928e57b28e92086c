-- Lemmas about the JSON of instances.
use Rattle.std.proofs.Common.{◌≡◌, ◌≤◌, ◌∙◌, ℕ, List, [], ◌∷◌, length, map, slice_get, false, Option, Some, None, Result, Ok}
use Rattle.std.proofs.Common.{Err, IfOk, String, string_bytes, refl, ap}
use Rattle.std.proofs.lemmas.Option.{slice_get_past}
use Rattle.serde_json.specs.Data.{Data}
use Rattle.serde_json.specs.View.{items_of}
use Rattle.serde_json.specs.Written.{compact_text, has_float, items_have_float}
use Rattle.tfs_state.specs.Document.{Document}
use Rattle.tfs_state.specs.Dependency.{address_of, config_of}
use Rattle.tfs_state.specs.Numbering.{NumberTable, IsNumbering}
use Rattle.tfs_web_answers.specs.Instances.{HasRows, answer_of, instance_row, rows_of, whole}

-- A number beyond the instances has no row.
pub none_past : (d : Document) (table : NumberTable) (i : ℕ) → length d.instances ≤ i → instance_row d table i ≡ None
none_past d table i past = rw (slice_get_past d.instances i past) refl

-- A list of numbers has no floats.
numbers_have_no_float : (numbers : List ℕ) → items_have_float (items_of (map whole numbers)) ≡ false
numbers_have_no_float [] = refl
numbers_have_no_float (n ∷ numbers) = numbers_have_no_float numbers

-- The rows of instances have no floats.
rows_have_no_float : (d : Document) (table : NumberTable) (chosen : List ℕ) → items_have_float (items_of (rows_of d table chosen)) ≡ false
rows_have_no_float d table [] = refl
rows_have_no_float d table (i ∷ chosen) =
    by (address_of d i) (config_of d i) (slice_get table.configs i) (slice_get table.dependencies i) refl refl refl refl (rows_have_no_float d table chosen)
  where
    by : (address resource : Option (List ℕ)) (own : Option ℕ) (needs : Option (List ℕ)) → address_of d i ≡ address → config_of d i ≡ resource
        → slice_get table.configs i ≡ own → slice_get table.dependencies i ≡ needs
        → items_have_float (items_of (rows_of d table chosen)) ≡ false
        → items_have_float (items_of (rows_of d table (i ∷ chosen))) ≡ false
    by None resource own needs a r o n rest = rw a rest
    by (Some address) None own needs a r o n rest = rw a (rw r rest)
    by (Some address) (Some resource) None needs a r o n rest = rw a (rw r (rw o rest))
    by (Some address) (Some resource) (Some own) None a r o n rest = rw a (rw r (rw o (rw n rest)))
    by (Some address) (Some resource) (Some own) (Some needs) a r o n rest =
        rw a (rw r (rw o (rw n (rw (numbers_have_no_float needs) rest))))

-- The printed JSON of the rows is the answer, because it has no floats.
pub rows_printed : {Z E : Type 0} (r : Result (String Z) E) (v : Data) (d : Document) (table : NumberTable) (chosen : List ℕ) (position : ℕ)
    → IsNumbering d table → v ≡ answer_of d (rows_of d table chosen) position
    → IfOk r (λ s. has_float v ≡ false → string_bytes s ≡ compact_text v) → IfOk r (λ s. HasRows d chosen position (string_bytes s))
rows_printed (Ok s) v d table chosen position numbered is printed =
    let none : has_float (answer_of d (rows_of d table chosen) position) ≡ false = rw (rows_have_no_float d table chosen) refl in
    (table, numbered, printed (ap has_float is ∙ none) ∙ ap compact_text is)
rows_printed (Err e) v d table chosen position numbered is printed = tt
