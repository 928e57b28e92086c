-- Lemmas about the rows of workspaces.
use Rattle.std.proofs.Common.{◌≡◌, ◌⊎◌, inl, inr, ℕ, ℤ, ◌+◌, ◌<◌, List, [], ◌∷◌, ◌++◌, length, take, false}
use Rattle.std.proofs.Common.{Option, Some, None, Result, Ok, Err, IfOk, String, string_bytes, ap, refl, sym, subst, ◌∙◌, get_or, append-nil}
use Rattle.std.specs.List.{slice_get}
use Rattle.std.specs.Option.{option_to_list}
use Rattle.std.proofs.lemmas.List.{append_assoc, take_more}
use Rattle.std.proofs.lemmas.Option.{slice_get-get_or}
use Rattle.serde_json.specs.Data.{Data}
use Rattle.serde_json.specs.View.{items_of}
use Rattle.serde_json.specs.Written.{compact_text, has_float, items_have_float}
use Rattle.tfs_records.specs.Journal.{Journal, names_of, position_of}
use Rattle.tfs_reports.specs.Rows.{IsListed, name_row, text_or_null, whole_or_null}
use Rattle.tfs_web_answers.specs.Readers.{Rights}
use Rattle.tfs_site.specs.Workspaces.{IsList, IsShown, IsTextOr, ShowAll, Shows, changed_row, list_of}

-- The row of one name.
pub show_one : (rights : Rights) (j : Journal) (now : Option ℤ) (name : List ℕ) (own : List Data)
    → Shows rights j now name own → ShowAll rights j now (name ∷ []) own
unfolding ShowAll
show_one rights j now name own shows = (own, [], shows, refl, sym (append-nil own))

-- No name has no row.
pub show_none : (rights : Rights) (j : Journal) (now : Option ℤ) → ShowAll rights j now [] []
unfolding ShowAll
show_none rights j now = refl

-- The rows of some names, and of others.
show_both : (rights : Rights) (j : Journal) (now : Option ℤ) (names others : List (List ℕ)) (rows own : List Data)
    → ShowAll rights j now names rows → ShowAll rights j now others own → ShowAll rights j now (names ++ others) (rows ++ own)
unfolding ShowAll
show_both rights j now [] others rows own are shows = subst (λ all. ShowAll rights j now others (all ++ own)) (sym are) shows
show_both rights j now (first ∷ names) others rows own (front, rest, one, more, is) shows =
    (front, rest ++ own, one, show_both rights j now names others rest own more shows, ap (λ all. all ++ own) is ∙ append_assoc front rest own)

-- The rows of the first names, and of one more.
pub show_more : (rights : Rights) (j : Journal) (now : Option ℤ) (names : List (List ℕ)) (i : ℕ) (rows own : List Data) → i < length names
    → ShowAll rights j now (take i names) rows → ShowAll rights j now (option_to_list (slice_get names i)) own
    → ShowAll rights j now (take (i + 1) names) (rows ++ own)
show_more rights j now names i rows own less are shows =
    let is : take (i + 1) names ≡ take i names ++ option_to_list (slice_get names i) =
    take_more names i [] less ∙ ap (λ o. take i names ++ option_to_list o) (sym (slice_get-get_or names i [] less)) in
    subst (λ all. ShowAll rights j now all (rows ++ own)) (sym is) (show_both rights j now (take i names) (option_to_list (slice_get names i)) rows own are shows)

-- A number that may be unknown is no float.
whole_has_none : (n : Option ℕ) → has_float (whole_or_null n) ≡ false
whole_has_none None = refl
whole_has_none (Some n) = refl

-- A text that may be unknown is no float.
text_has_none : (text : Option (List ℕ)) → has_float (text_or_null text) ≡ false
text_has_none None = refl
text_has_none (Some text) = refl

-- The row of a workspace has no floats.
listed_has_none : (name : List ℕ) (j : Journal) (now : Option ℤ) (row : Data) → IsListed name j now row → has_float row ≡ false
listed_has_none name j now row listed = rw listed.is (simp (whole_has_none, text_has_none))

-- A text, or another that may be unknown, is no float.
text_or_has_none : (other : Option (List ℕ)) (value : Data) → IsTextOr other value → has_float value ≡ false
text_or_has_none other value (inl (text, is)) = rw is refl
text_or_has_none other value (inr is) = rw is (text_has_none other)

-- A shown row has no floats.
shown_has_none : (name : List ℕ) (j : Journal) (now : Option ℤ) (row : Data) → IsShown name j now row → has_float row ≡ false
shown_has_none name j now row shown =
    let listed = listed_has_none name j now shown.listed shown.is_listed in
    let who = text_or_has_none _ shown.is.who shown.is.is_who in
    let time = text_or_has_none _ shown.is.time shown.is.is_time in
    rw shown.is.is (simp (who, time, listed))

-- The shown rows have no floats.
rows_have_none : (rights : Rights) (j : Journal) (now : Option ℤ) (names : List (List ℕ)) (rows : List Data)
    → ShowAll rights j now names rows → items_have_float (items_of rows) ≡ false
unfolding ShowAll
rows_have_none rights j now [] rows are = rw are refl
rows_have_none rights j now (name ∷ names) rows (own, rest, inl (may, (row, shown, one)), more, is) =
    rw is (rw one (rw (shown_has_none name j now row shown) (rows_have_none rights j now names rest more)))
rows_have_none rights j now (name ∷ names) rows (own, rest, inr (may, none), more, is) =
    rw is (rw none (rows_have_none rights j now names rest more))

-- The printed JSON of the rows is the list, because it has no floats.
pub list_printed : {Z E : Type 0} (r : Result (String Z) E) (v : Data) (rights : Rights) (j : Journal) (now : Option ℤ) (rows : List Data)
    → ShowAll rights j now (names_of j) rows → v ≡ list_of rows (position_of j)
    → IfOk r (λ s. has_float v ≡ false → string_bytes s ≡ compact_text v) → IfOk r (λ s. IsList rights j now (string_bytes s))
list_printed (Ok s) v rights j now rows are is printed =
    let none : has_float (list_of rows (position_of j)) ≡ false = rw (rows_have_none rights j now (names_of j) rows are) refl in
    (rows, are, printed (ap has_float is ∙ none) ∙ ap compact_text is)
list_printed (Err e) v rights j now rows are is printed = tt
