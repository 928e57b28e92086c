-- Lemmas about the rows of changes.
use Rattle.std.proofs.Common.{◌≡◌, ◌∙◌, List, [], ◌∷◌, map, false, Result, Ok, Err, IfOk, String, string_bytes, ap, refl}
use Rattle.serde_json.specs.Data.{Data}
use Rattle.serde_json.specs.View.{items_of}
use Rattle.serde_json.specs.Written.{compact_text, has_float, items_have_float}
use Rattle.tfs_versions.specs.Diff.{ChangeValue}
use Rattle.tfs_site.specs.Changes.{change_row, changes_of, changes_text}

-- The rows of changes have no floats.
changes_have_none : (changes : List ChangeValue) → items_have_float (items_of (map change_row changes)) ≡ false
changes_have_none [] = refl
changes_have_none (change ∷ changes) = changes_have_none changes

-- The printed JSON of the rows is the text of the changes, because it has no floats.
pub changes_printed : {Z E : Type 0} (r : Result (String Z) E) (v : Data) (changes : List ChangeValue) → v ≡ changes_of (map change_row changes)
    → IfOk r (λ s. has_float v ≡ false → string_bytes s ≡ compact_text v) → IfOk r (λ s. string_bytes s ≡ changes_text changes)
changes_printed (Ok s) v changes is printed =
    let none : has_float (changes_of (map change_row changes)) ≡ false = rw (changes_have_none changes) refl in
    printed (ap has_float is ∙ none) ∙ ap compact_text is
changes_printed (Err e) v changes is printed = tt
