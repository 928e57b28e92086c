-- Lemmas about the body of an impact's reply.
use Rattle.std.proofs.Common.{◌≡◌, ◌<◌, ◌≤◌, ◌+◌, ◌∙◌, ℕ, List, [], ◌∷◌, ◌++◌, length, take, get_or, false, Option, Some, None, Result, Ok}
use Rattle.std.proofs.Common.{Err, IfOk}
use Rattle.std.proofs.Common.{String, string_bytes, refl, sym, ap, add-one}
use Rattle.std.proofs.Math.Seq.{take-suc}
use Rattle.std.proofs.lemmas.List.Elements.{filter_map-append}
use Rattle.std.proofs.lemmas.Option.{slice_get_past}
use Rattle.std.specs.Option.{option_to_list}
use Rattle.std.specs.Prelude.{option_map}
use Rattle.serde_json.specs.Data.{Data, string}
use Rattle.serde_json.specs.View.{items_of}
use Rattle.serde_json.specs.Written.{compact_text, has_float, items_have_float}
use Rattle.tfs_state.specs.Document.{Document}
use Rattle.tfs_state.specs.Dependency.{address_of}
use Rattle.tfs_http.specs.ReplyText.{address_texts, impact_data, impact_body}

-- One more number adds its address, if it has one.
pub one_more : (d : Document) (chosen : List ℕ) (k : ℕ) (texts : List Data) (text : Option Data) → k < length chosen
    → texts ≡ address_texts d (take k chosen) → option_map string (address_of d (get_or chosen k 0)) ≡ text
    → texts ++ option_to_list text ≡ address_texts d (take (k + 1) chosen)
one_more d chosen k texts text within so is =
    ap (λ t. t ++ option_to_list text) so
    ∙ ap (λ t. address_texts d (take k chosen) ++ t) (by text is)
    ∙ sym (filter_map-append (λ i. option_map string (address_of d i)) (take k chosen) (get_or chosen k 0 ∷ []))
    ∙ ap (address_texts d) (sym (take-suc chosen k 0 within))
    ∙ ap (λ n. address_texts d (take n chosen)) (sym (add-one k))
  where
    by : (o : Option Data) → option_map string (address_of d (get_or chosen k 0)) ≡ o → option_to_list o ≡ address_texts d (get_or chosen k 0 ∷ [])
    by None e = rw e refl
    by (Some t) e = rw e refl

-- A number beyond the instances has no address.
pub none_past : (d : Document) (i : ℕ) → length d.instances ≤ i → option_map string (address_of d i) ≡ None
none_past d i past = rw (slice_get_past d.instances i past) refl

-- The list of addresses has no floats.
texts_have_no_float : (d : Document) (chosen : List ℕ) → items_have_float (items_of (address_texts d chosen)) ≡ false
texts_have_no_float d [] = refl
texts_have_no_float d (i ∷ chosen) = by (address_of d i) refl (texts_have_no_float d chosen)
  where
    by : (o : Option (List ℕ)) → address_of d i ≡ o → items_have_float (items_of (address_texts d chosen)) ≡ false
        → items_have_float (items_of (address_texts d (i ∷ chosen))) ≡ false
    by None e rest = rw e rest
    by (Some t) e rest = rw e rest

-- The printed JSON of an impact's reply is its body, because it has no floats.
pub body_printed : {Z E : Type 0} (r : Result (String Z) E) (v : Data) (d : Document) (chosen : List ℕ) (position : ℕ) → v ≡ impact_data d chosen position
    → IfOk r (λ s. has_float v ≡ false → string_bytes s ≡ compact_text v) → IfOk r (λ s. string_bytes s ≡ impact_body d chosen position)
body_printed (Ok s) v d chosen position is printed =
    let none : has_float (impact_data d chosen position) ≡ false = rw (texts_have_no_float d chosen) refl in
    printed (ap has_float is ∙ none) ∙ ap compact_text is
body_printed (Err e) v d chosen position is printed = tt
