-- Lemmas about rows after a call on their words.
use Rattle.std.proofs.Common.{◌≡◌, ℕ, List, length, bit_and, bit_or, Option, Some, None, IfSome, IfNone, Vec, vec_len, ap, ap₂, sym, ◌∙◌, arith}
use Rattle.std.proofs.lemmas.List.{with_items_is}
use Rattle.std.proofs.lemmas.Simd.{length-zip2}
use Rattle.std.specs.FinSet.{contains, union, intersection}
use Rattle.std.specs.Simd.Lanes.{zip2}
use Rattle.std.specs.Vec.{with_items}
use Rattle.tfs_planes.specs.Row.{NumberSet, bit_at_word, number_set, IsRow, IsClearFrom, row_length}
use Rattle.tfs_planes.proofs.BitLemmas.{contains-row, union-row, meet-row}

-- After a call that combines the lent words with others, the vector has the combined words.
pub combined_items : {Z : Type 0} (f : ℕ → ℕ → ℕ) (v : Vec ℕ Z) (lent others ys now : List ℕ) → lent ≡ v.items → length lent ≡ vec_len v → others ≡ ys →
    now ≡ zip2 f lent others → length v.items ≡ length ys → (with_items v now).items ≡ zip2 f v.items ys
combined_items f v lent others ys now lends len same made long =
    let is : now ≡ zip2 f v.items ys = made ∙ ap₂ (zip2 f) lends same in
    with_items_is v now (ap length is ∙ length-zip2 f v.items ys long ∙ sym (ap length lends) ∙ len) ∙ is

-- Rows of one size have words of one length.
pub same_length : (n m j k : ℕ) (xs ys : List ℕ) → IsRow n j xs → IsRow m k ys → n ≡ m → j ≡ length xs → k ≡ length ys → length xs ≡ length ys
same_length n m j k xs ys row also same long too = sym long ∙ row.long ∙ ap row_length same ∙ sym also.long ∙ too

-- Two rows have the same size if their sets do.
pub same_size : (n m : ℕ) (xs ys : List ℕ) (s t : NumberSet) → number_set n xs ≡ s → number_set m ys ≡ t → s.size ≡ t.size → n ≡ m
same_size n m xs ys s t view also same = ap (λ (u : NumberSet). u.size) view ∙ same ∙ sym (ap (λ (u : NumberSet). u.size) also)

-- The set of a row after a union is the union of the sets.
pub union_view : (n m : ℕ) (xs ys now : List ℕ) (s t : NumberSet) → now ≡ zip2 bit_or xs ys → number_set n xs ≡ s → number_set m ys ≡ t → n ≡ m →
    length xs ≡ length ys → IsClearFrom n xs → IsClearFrom m ys → number_set n now ≡ record { size = s.size; members = union s.members t.members }
union_view n m xs ys now s t made view also same long clear too =
    ap (number_set n) made
    ∙ ap (λ set. record { size = n; members = set }) (union-row n xs ys long clear (λ i past. too i (omega arith)))
    ∙ ap₂ (λ (u w : NumberSet). record { size = u.size; members = union u.members w.members }) view (ap (λ k. number_set k ys) same ∙ also)

-- The set of a row after a meet is the intersection of the sets.
pub meet_view : (n m : ℕ) (xs ys now : List ℕ) (s t : NumberSet) → now ≡ zip2 bit_and xs ys → number_set n xs ≡ s → number_set m ys ≡ t → n ≡ m →
    length xs ≡ length ys → IsClearFrom n xs → IsClearFrom m ys → number_set n now ≡ record { size = s.size; members = intersection s.members t.members }
meet_view n m xs ys now s t made view also same long clear too =
    ap (number_set n) made
    ∙ ap (λ set. record { size = n; members = set }) (meet-row n xs ys long clear (λ i past. too i (omega arith)))
    ∙ ap₂ (λ (u w : NumberSet). record { size = u.size; members = intersection u.members w.members }) view (ap (λ k. number_set k ys) same ∙ also)

-- A number is a member of a row's set if its bit is set in the lent words.
pub member_bit : (n : ℕ) (words lent : List ℕ) (s : NumberSet) → number_set n words ≡ s → IsClearFrom n words → lent ≡ words → (k : ℕ) →
    contains s.members k ≡ bit_at_word lent k
member_bit n words lent s view clear same k =
    ap (λ (t : NumberSet). contains t.members k) (sym view) ∙ contains-row n words clear k ∙ ap (λ zs. bit_at_word zs k) (sym same)

-- A property of an optional value follows from a stronger one.
pub some_weaker : (o : Option ℕ) (P Q : ℕ → Type 0) → ((k : ℕ) → P k → Q k) → IfSome o P → IfSome o Q
some_weaker (Some k) P Q f is = f k is
some_weaker None P Q f is = tt

-- A property for the case without a value follows from a stronger one.
pub none_weaker : (o : Option ℕ) (P Q : Type 0) → (P → Q) → IfNone o P → IfNone o Q
none_weaker (Some k) P Q f is = tt
none_weaker None P Q f is = f is
