-- Lemmas about the body of an impact's reply, produced in pieces.
use Rattle.std.proofs.Common.{◌≡◌, ◌<◌, ◌≤◌, ◌+◌, ◌∙◌, ℕ, List, [], ◌∷◌, ◌++◌, length, drop, get_or, Bool, true, false, Option, Some, None, zero, suc, inl, inr, option_map, if◌then◌else◌}
use Rattle.std.proofs.Common.{codes, refl, sym, ap, arith, append_assoc, append-nil, add-one, drop-cons, length-append}
use Rattle.std.proofs.lemmas.List.{at_drop_all, drop-append-le}
use Rattle.std.proofs.lemmas.Option.{slice_get_cases, slice_get_past}
use Rattle.json.specs.Print.{escape}
use Rattle.serde_json.specs.View.{items_of}
use Rattle.serde_json.specs.Written.{items_text}
use Rattle.serde_json.proofs.OnLiterals.{serde_json_on_literals}
use Rattle.tfs_state.specs.Document.{Document}
use Rattle.tfs_state.specs.Dependency.{address_of}
use Rattle.tfs_addr.specs.Address.{instance_address}
use Rattle.tfs_index.specs.Listing.{addresses_from, next_address}
use Rattle.std.specs.List.{concat}
use Rattle.tfs_http.specs.Pieces.{IsRun, IsToldIn, addresses_left, after_addresses, ending_text, with_address}
use Rattle.tfs_http.specs.ReplyText.{address_texts, impact_body}

-- The text left of the addresses, followed by a closing bracket, is the text left of the JSON
-- array.
items_left : (d : Document) (later : Bool) (numbers : List ℕ)
    → after_addresses later ++ items_text later (items_of (address_texts d numbers)) ≡ addresses_left d later numbers ++ 93 ∷ []
items_left d later [] = refl
items_left d later (i ∷ numbers) = by later (address_of d i) refl (items_left d later numbers) (items_left d true numbers)
  where
    by : (b : Bool) (o : Option (List ℕ)) → address_of d i ≡ o
        → after_addresses b ++ items_text b (items_of (address_texts d numbers)) ≡ addresses_left d b numbers ++ 93 ∷ []
        → after_addresses true ++ items_text true (items_of (address_texts d numbers)) ≡ addresses_left d true numbers ++ 93 ∷ []
        → after_addresses b ++ items_text b (items_of (address_texts d (i ∷ numbers))) ≡ addresses_left d b (i ∷ numbers) ++ 93 ∷ []
    by b None e without behind = rw e without
    by true (Some a) e without behind =
        rw e (ap (λ (t : List ℕ). 34 ∷ 44 ∷ 34 ∷ t) (append_assoc (escape a) (34 ∷ []) _ ∙ ap (λ (t : List ℕ). escape a ++ t) behind
        ∙ sym (append_assoc (escape a) _ (93 ∷ []))))
    by false (Some a) e without behind =
        rw e (ap (λ (t : List ℕ). 34 ∷ t) (append_assoc (escape a) (34 ∷ []) _ ∙ ap (λ (t : List ℕ). escape a ++ t) behind
        ∙ sym (append_assoc (escape a) _ (93 ∷ []))))

-- The opening, the addresses and the ending are the body.
pub body_left : (d : Document) (chosen : List ℕ) (position : ℕ)
    → codes "{\"instances\":[" ++ (addresses_left d false chosen ++ ending_text position d.serial) ≡ impact_body d chosen position
unfolding serde_json_on_literals
body_left d chosen position =
    let behind = drop 1 (ending_text position d.serial) in
    ap (λ (t : List ℕ). codes "{\"instances\":[" ++ t)
    (sym (append_assoc (addresses_left d false chosen) (93 ∷ []) behind) ∙ ap (λ (t : List ℕ). t ++ behind) (sym (items_left d false chosen)))

-- The opening, the addresses and the ending, with the names of the code, are the body.
pub body_begun : (d e : Document) (chosen numbers : List ℕ) (position serial : ℕ) (begun ending : List ℕ) → e ≡ d → numbers ≡ chosen → serial ≡ e.serial
    → begun ≡ codes "{\"instances\":[" → ending ≡ ending_text position serial
    → (begun ++ addresses_left e false numbers) ++ ending ≡ impact_body d chosen position
body_begun d e chosen numbers position serial begun ending is_d is_chosen is_serial is_begun is_ending =
    ap (λ (t : List ℕ). (t ++ addresses_left e false numbers) ++ ending) is_begun
    ∙ ap (λ (t : List ℕ). (codes "{\"instances\":[" ++ addresses_left e false numbers) ++ t) (is_ending ∙ ap (ending_text position) is_serial)
    ∙ append_assoc (codes "{\"instances\":[") (addresses_left e false numbers) (ending_text position e.serial)
    ∙ body_left e numbers position
    ∙ ap (λ (x : Document). impact_body x numbers position) is_d
    ∙ ap (λ (t : List ℕ). impact_body d t position) is_chosen

-- A number beyond the instances has no address.
pub no_address : (d : Document) (i : ℕ) → length d.instances ≤ i → address_of d i ≡ None
no_address d i past = rw (slice_get_past d.instances i past) refl

-- The numbers from position `k` on are number `k` and the numbers after it.
numbers_from : (numbers : List ℕ) (k : ℕ) → k < length numbers → drop k numbers ≡ get_or numbers k 0 ∷ drop (k + 1) numbers
numbers_from numbers k within =
    drop-cons numbers k 0 within ∙ ap (λ (n : ℕ). get_or numbers k 0 ∷ drop n numbers) (sym (add-one k))

-- One more address adds its length to the total; the addresses after it are left to count.
pub address_counted : (d : Document) (numbers : List ℕ) (k : ℕ) (later : Bool) (all total more : ℕ) → k < length numbers
    → ((without behind : List ℕ) → length (with_address later (address_of d (get_or numbers k 0)) without behind) ≡ more + length behind)
    → all ≡ total + length (addresses_left d later (drop k numbers))
    → all ≡ (total + more) + length (addresses_left d true (drop (k + 1) numbers))
address_counted d numbers k later all total more within counted so =
    let rest = drop (k + 1) numbers in
    let one : length (addresses_left d later (drop k numbers)) ≡ more + length (addresses_left d true rest) =
    ap (λ (t : List ℕ). length (addresses_left d later t)) (numbers_from numbers k within)
    ∙ counted (addresses_left d later rest) (addresses_left d true rest) in
    omega (arith, so, one)

-- A number without an address adds nothing to the total.
pub number_passed : (d : Document) (numbers : List ℕ) (k : ℕ) (later : Bool) (all total : ℕ) → k < length numbers
    → length d.instances ≤ get_or numbers k 0 → all ≡ total + length (addresses_left d later (drop k numbers))
    → all ≡ total + length (addresses_left d later (drop (k + 1) numbers))
number_passed d numbers k later all total within past so =
    let rest = drop (k + 1) numbers in
    so ∙ ap (λ (t : List ℕ). total + length (addresses_left d later t)) (numbers_from numbers k within)
    ∙ ap (λ (o : Option (List ℕ)). total + length (with_address later o (addresses_left d later rest) (addresses_left d true rest)))
    (no_address d (get_or numbers k 0) past)

-- An ending can be appended to a text that is partly produced.
pub told_before : (out old now was ending whole : List ℕ) → out ++ now ≡ old ++ was → whole ≡ was ++ ending → out ++ (now ++ ending) ≡ old ++ whole
told_before out old now was ending whole told is =
    sym (append_assoc out now ending) ∙ ap (λ (t : List ℕ). t ++ ending) told ∙ append_assoc old was ending ∙ ap (λ (t : List ℕ). old ++ t) (sym is)

-- A part of the ending can be appended once the text before it is fully produced.
pub told_behind : (out between old now was ending left whole : List ℕ) → between ++ now ≡ old ++ was → now ≡ [] → out ++ left ≡ between ++ ending
    → whole ≡ was ++ ending → out ++ (now ++ left) ≡ old ++ whole
told_behind out between old now was ending left whole told none step is =
    ap (λ (t : List ℕ). out ++ (t ++ left)) none ∙ step
    ∙ ap (λ (t : List ℕ). t ++ ending) (sym (append-nil between) ∙ ap (λ (t : List ℕ). between ++ t) (sym none))
    ∙ append_assoc between now ending ∙ told_before between old now was ending whole told is

-- The pieces of a text, joined, are the text.
pub pieces_joined : (text : List ℕ) (pieces : List (List ℕ)) → IsToldIn text pieces → concat pieces ≡ text
pieces_joined text [] none = sym none
pieces_joined text (piece ∷ pieces) told = ap (λ (t : List ℕ). piece ++ t) (pieces_joined told.0 pieces told.2) ∙ told.1

-- The length of the text left is the sum of the lengths of its parts.
pub place_counted : (plain front tail behind : List ℕ)
    → length ((plain ++ (front ++ tail)) ++ behind) ≡ ((length plain + length front) + length tail) + length behind
place_counted plain front tail behind =
    let all = length-append (plain ++ (front ++ tail)) behind in
    let begun = length-append plain (front ++ tail) in
    let parts = length-append front tail in
    omega (arith, all, begun, parts)

-- After the last number, one quote is left to count if there was an address.
pub quote_counted : (d : Document) (numbers : List ℕ) (k : ℕ) (later : Bool) (all total : ℕ) → length numbers ≤ k
    → all ≡ total + length (addresses_left d later (drop k numbers)) → later ≡ true → total + 1 ≡ all
quote_counted d numbers k later all total past so told =
    sym (so ∙ at_drop_all (λ (t : List ℕ). total + length (addresses_left d later t)) numbers k past
    ∙ ap (λ (b : Bool). total + length (after_addresses b)) told)

-- After the last number, nothing is left to count if there was no address.
pub none_counted : (d : Document) (numbers : List ℕ) (k : ℕ) (later : Bool) (all total : ℕ) → length numbers ≤ k
    → all ≡ total + length (addresses_left d later (drop k numbers)) → later ≡ false → total ≡ all
none_counted d numbers k later all total past so told =
    let count : all ≡ total + 0 =
    so ∙ at_drop_all (λ (t : List ℕ). total + length (addresses_left d later t)) numbers k past
    ∙ ap (λ (b : Bool). total + length (after_addresses b)) told in
    omega (arith, count)

-- After an address, the next one is produced as in a list of addresses.
told_as_next : (address : Option (List ℕ)) (behind : List ℕ) → with_address true address behind behind ≡ next_address address ++ behind
told_as_next None behind = refl
told_as_next (Some address) behind = sym (append_assoc (codes "\",\"") (escape address) behind)

-- After an address, those of consecutive numbers are produced as in a list of addresses.
run_told : (d : Document) (numbers : List ℕ) (first count : ℕ) → IsRun numbers first count → count ≤ length numbers
    → addresses_left d true numbers ≡ addresses_from d first count ++ addresses_left d true (drop count numbers)
run_told d numbers first zero run within = refl
run_told d numbers first (suc count) run within =
    let rest = addresses_left d true (drop (count + 1) numbers) in
    let low : count < suc count = omega arith in
    let long : count < length numbers = omega (arith, within) in
    let fewer : count ≤ length numbers = omega (arith, within) in
    let same : count + 1 ≡ suc count = omega arith in
    run_told d numbers first count (λ k less. run k (omega (arith, less))) fewer
    ∙ ap (λ (t : List ℕ). addresses_from d first count ++ addresses_left d true t) (numbers_from numbers count long)
    ∙ ap (λ (n : ℕ). addresses_from d first count ++ with_address true (address_of d n) rest rest) (run count low)
    ∙ ap (λ (t : List ℕ). addresses_from d first count ++ t) (told_as_next (address_of d (first + count)) rest)
    ∙ sym (append_assoc (addresses_from d first count) (next_address (address_of d (first + count))) rest)
    ∙ ap (λ (n : ℕ). addresses_from d first (suc count) ++ addresses_left d true (drop n numbers)) same

-- Each instance has an address.
has_address : (d : Document) (i : ℕ) → i < length d.instances → (address : List ℕ) × (address_of d i ≡ Some address)
has_address d i within = elim (slice_get_cases d.instances i).1 [
  | inl it ↦ (
    instance_address it.0.path it.0.mode it.0.kind it.0.name it.0.key it.0.deposed,
    ap (option_map (λ u. instance_address u.path u.mode u.kind u.name u.key u.deposed)) it.2,
  )
  | inr past ↦ absurd (omega (arith, within, past.0))
]

-- The first address is produced without the two bytes that separate it from an earlier one.
first_told : (d : Document) (numbers : List ℕ) → get_or numbers 0 0 < length d.instances → 0 < length numbers
    → drop 2 (addresses_left d true numbers) ≡ addresses_left d false numbers
first_told d [] within some = absurd (omega (arith, some))
first_told d (i ∷ numbers) within some = let it = has_address d i within in rw it.1 refl

-- After the text for consecutive numbers, the addresses of the numbers after them are left.
pub listed_told : (d : Document) (later : Bool) (numbers text shown behind : List ℕ) (first count : ℕ)
    → IsRun numbers first count → count ≤ length numbers → 0 < count → first + count ≤ length d.instances
    → text ≡ addresses_from d first count → (if later then 0 else 2) ≤ length text → shown ≡ drop (if later then 0 else 2) text
    → behind ≡ drop count numbers → shown ++ addresses_left d true behind ≡ addresses_left d later numbers
listed_told d true numbers text shown behind first count run within some inside is long cut rest =
    ap (λ (t : List ℕ). t ++ addresses_left d true behind) (cut ∙ is)
    ∙ ap (λ (t : List ℕ). addresses_from d first count ++ addresses_left d true t) rest
    ∙ sym (run_told d numbers first count run within)
listed_told d false numbers text shown behind first count run within some inside is long cut rest =
    let begins : get_or numbers 0 0 ≡ first + 0 = run 0 some in
    let at : get_or numbers 0 0 < length d.instances = omega (arith, begins, some, inside) in
    let any : 0 < length numbers = omega (arith, some, within) in
    ap (λ (t : List ℕ). t ++ addresses_left d true behind) cut
    ∙ sym (drop-append-le 2 text (addresses_left d true behind) long)
    ∙ ap (λ (t : List ℕ). drop 2 (t ++ addresses_left d true behind)) is
    ∙ ap (λ (t : List ℕ). drop 2 (addresses_from d first count ++ addresses_left d true t)) rest
    ∙ ap (drop 2) (sym (run_told d numbers first count run within))
    ∙ first_told d numbers at any
