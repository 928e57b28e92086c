-- Lemmas about the addresses of instances as elements of a list of JSON texts.
use Rattle.std.proofs.Common.{◌≡◌, ◌<◌, ◌≤◌, ◌+◌, ◌-◌, ◌∙◌, ℕ, List, [], ◌∷◌, ◌++◌, length, take, drop, get_or, Option, Some, None, Bor, zero, suc, inl, inr}
use Rattle.std.proofs.Common.{codes, sym, ap, arith, append_assoc, append-nil, length-append}
use Rattle.std.specs.Option.{IfSome}
use Rattle.std.specs.Slice.{IsGetRangeResult}
use Rattle.std.proofs.Math.Nat.{eq-or-lt_of_le}
use Rattle.std.proofs.Math.ListN.{get_or-append}
use Rattle.std.proofs.Math.Seq.{drop-append_seam, take-append_seam, get_or-append_seam}
use Rattle.std.proofs.lemmas.Grind.{flat_map-append}
use Rattle.json.specs.Print.{escape, escape_byte}
use Rattle.tfs_state.specs.Document.{Document}
use Rattle.tfs_state.specs.Dependency.{address_of}
use Rattle.tfs_index.specs.declared.listing.Listing.{Listing}
use Rattle.tfs_index.specs.Listing.{IsListing, addresses_from, next_address}

-- The texts of the first instances, followed by the texts of the next instances, are the texts of
-- both.
pub addresses_joined : (d : Document) (first count : ℕ)
    → addresses_from d 0 (first + count) ≡ addresses_from d 0 first ++ addresses_from d first count
addresses_joined d first zero =
    let same : first + 0 ≡ first = omega arith in
    ap (addresses_from d 0) same ∙ sym (append-nil (addresses_from d 0 first))
addresses_joined d first (suc count) =
    let further : first + suc count ≡ suc (first + count) = omega arith in
    let same : 0 + (first + count) ≡ first + count = omega arith in
    ap (addresses_from d 0) further
    ∙ ap (λ (n : ℕ). addresses_from d 0 (first + count) ++ next_address (address_of d n)) same
    ∙ ap (λ (t : List ℕ). t ++ next_address (address_of d (first + count))) (addresses_joined d first count)
    ∙ append_assoc (addresses_from d 0 first) (addresses_from d first count) (next_address (address_of d (first + count)))

-- The texts of the instances from `first` to `end` are the bytes between two ends.
pub text_between : (d : Document) (text : List ℕ) (first end all begin stop : ℕ) → first ≤ end → end ≤ all → text ≡ addresses_from d 0 all
    → begin ≡ length (addresses_from d 0 first) → stop ≡ length (addresses_from d 0 end)
    → take (stop - begin) (drop begin text) ≡ addresses_from d first (end - first)
text_between d text first end all begin stop ordered within whole begins stops =
    let before = addresses_from d 0 first in
    let middle = addresses_from d first (end - first) in
    let behind = addresses_from d end (all - end) in
    let to_end : first + (end - first) ≡ end = omega (arith, ordered) in
    let to_all : end + (all - end) ≡ all = omega (arith, within) in
    let two : addresses_from d 0 end ≡ before ++ middle = ap (addresses_from d 0) (sym to_end) ∙ addresses_joined d first (end - first) in
    let three : text ≡ before ++ (middle ++ behind) =
    whole ∙ ap (addresses_from d 0) (sym to_all) ∙ addresses_joined d end (all - end)
    ∙ ap (λ (t : List ℕ). t ++ behind) two ∙ append_assoc before middle behind in
    let long : stop ≡ length before + length middle = stops ∙ ap length two ∙ length-append before middle in
    let size : stop - begin ≡ length middle = omega (arith, long, begins) in
    ap (λ (n : ℕ). take n (drop begin text)) size
    ∙ ap (λ (n : ℕ). take (length middle) (drop n text)) begins
    ∙ ap (λ (t : List ℕ). take (length middle) (drop (length before) t)) three
    ∙ ap (take (length middle)) (drop-append_seam before (middle ++ behind))
    ∙ take-append_seam middle behind

-- Adding the quoted and escaped parts of an address adds the text of one more instance.
pub text_more : (d : Document) (count : ℕ) (old begun one two front tail : List ℕ) → old ≡ addresses_from d 0 count
    → address_of d count ≡ Some (front ++ tail) → begun ≡ old ++ codes "\",\"" → one ≡ begun ++ escape front → two ≡ one ++ escape tail
    → two ≡ addresses_from d 0 (count + 1)
text_more d count old begun one two front tail so_far is opened fronted tailed =
    let further : count + 1 ≡ suc count = omega arith in
    let same : 0 + count ≡ count = omega arith in
    let quote = codes "\",\"" in
    tailed ∙ ap (λ (t : List ℕ). t ++ escape tail) (fronted ∙ ap (λ (t : List ℕ). t ++ escape front) opened)
    ∙ append_assoc (old ++ quote) (escape front) (escape tail)
    ∙ ap (λ (t : List ℕ). (old ++ quote) ++ t) (sym (flat_map-append escape_byte front tail))
    ∙ append_assoc old quote (escape (front ++ tail))
    ∙ ap (λ (t : List ℕ). t ++ (quote ++ escape (front ++ tail))) so_far
    ∙ ap (λ (o : Option (List ℕ)). addresses_from d 0 count ++ next_address o) (sym is)
    ∙ ap (λ (n : ℕ). addresses_from d 0 count ++ next_address (address_of d n)) (sym same)
    ∙ ap (addresses_from d 0) (sym further)

-- Adding the end of one more instance keeps the ends right.
pub ends_more : (d : Document) (old new : List ℕ) (size : ℕ) → new ≡ old ++ size ∷ []
    → ((i : ℕ) → i < length old → get_or old i 0 ≡ length (addresses_from d 0 (i + 1)))
    → size ≡ length (addresses_from d 0 (length old + 1))
    → (i : ℕ) → i < length new → get_or new i 0 ≡ length (addresses_from d 0 (i + 1))
ends_more d old new size is so_far last i within =
    let long : length new ≡ length old + 1 = ap length is ∙ length-append old (size ∷ []) in
    let few : i ≤ length old = omega (arith, long, within) in
    elim (eq-or-lt_of_le few) [
      | inl at ↦ ap (λ (xs : List ℕ). get_or xs i 0) is ∙ ap (λ (n : ℕ). get_or (old ++ size ∷ []) n 0) at
          ∙ get_or-append_seam old size [] 0 ∙ last ∙ ap (λ (n : ℕ). length (addresses_from d 0 (n + 1))) (sym at)
      | inr before ↦ ap (λ (xs : List ℕ). get_or xs i 0) is ∙ get_or-append old (size ∷ []) 0 i before ∙ so_far i before
    ]

-- The part of a listing between two ends has the texts of the instances between them.
pub text_lent : (listing : Listing) (text : List ℕ) (first end begin stop : ℕ) (lent : Option (Bor (List ℕ)))
    → IsGetRangeResult text begin stop lent → text ≡ listing.text.items → first ≤ end → end ≤ length listing.ends.items
    → ((d : Document) → IsListing d listing → begin ≡ length (addresses_from d 0 first))
    → ((d : Document) → IsListing d listing → stop ≡ length (addresses_from d 0 end))
    → IfSome lent (λ (x : Bor (List ℕ)). (d : Document) → IsListing d listing → x.now ≡ addresses_from d first (end - first))
text_lent listing text first end begin stop None part is ordered within begins stops = tt
text_lent listing text first end begin stop (Some x) part is ordered within begins stops = λ d listed.
    part.0.2 ∙ text_between d text first end (length listing.ends.items) begin stop ordered within (is ∙ listed.text) (begins d listed) (stops d listed)
