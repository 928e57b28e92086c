-- Lemmas about specs/Packed.antt.
use Rattle.std.proofs.Common.{◌≡◌, ℕ, ◌-◌, ◌<◌, ◌≤◌, List, [], ◌∷◌, ◌++◌, length, take, drop, sym, ap, subst, ◌∙◌, arith, string_bytes}
use Rattle.std.specs.List.{AllZip, slice_range}
use Rattle.std.proofs.lemmas.List.{drop-append-le, take-append-le, length-append, length-drop, take_all}
use Rattle.std.proofs.Math.Seq.{drop-append_seam}
use Rattle.tfs_state.specs.Packed.{IsPacked, ArePacked}
use Rattle.tfs_state.specs.declared.packed.Packed.{Packed}
use Rattle.tfs_state.specs.declared.packed.PackedRow.{PackedRow}
use Rattle.tfs_state.specs.declared.tables.Row.{Row}
use Rattle.tfs_state.proofs.ListLemmas.{zip_push, zip_weaken, zip_length, zip_take}

-- A range of a list is the same range of a longer list.
range_longer : (xs ys : List ℕ) (a b : ℕ) → a ≤ b → b ≤ length xs → slice_range (xs ++ ys) a b ≡ slice_range xs a b
range_longer xs ys a b order bound =
    let rest = length-drop a xs in
    ap (take (b - a)) (drop-append-le a xs ys (omega (arith, order, bound)))
    ∙ take-append-le (b - a) (drop a xs) ys (omega (arith, rest, order, bound))

-- The range from the end of a list to the end of the joined list is the appended list.
range_last : (xs ys : List ℕ) → slice_range (xs ++ ys) (length xs) (length (xs ++ ys)) ≡ ys
range_last xs ys =
    let both = length-append xs ys in
    ap (take (length (xs ++ ys) - length xs)) (drop-append_seam xs ys)
    ∙ take_all (length (xs ++ ys) - length xs) ys (omega (arith, both))

-- A packed row stays valid when numbers are appended to the list of all dependencies.
packed_longer : (numbers more : List ℕ) (packed : PackedRow) (row : Row) → IsPacked numbers packed row → IsPacked (numbers ++ more) packed row
packed_longer numbers more packed row is =
    let order = is.within.order in
    let bound = is.within.bound in
    let both = length-append numbers more in
    record {
      block = is.block;
      tail = is.tail;
      within = record { order = order; bound = omega (arith, bound, both) };
      dependencies = range_longer numbers more packed.start packed.end order bound ∙ is.dependencies;
    }

-- A row is packed by appending its dependencies to the list of all dependencies.
row_packed : (numbers : List ℕ) (packed : PackedRow) (row : Row) → packed.block ≡ row.block → packed.tail ≡ row.tail
    → packed.start ≡ length numbers → packed.end ≡ length (numbers ++ row.dependencies.items)
    → IsPacked (numbers ++ row.dependencies.items) packed row
row_packed numbers packed row block tail start end =
    let both = length-append numbers row.dependencies.items in
    record {
      block = block;
      tail = ap string_bytes tail;
      within = record { order = omega (arith, start, end, both); bound = omega (arith, end) };
      dependencies = rw (start, end) (range_last numbers row.dependencies.items);
    }

-- Packing one more row keeps the packed rows equal to the rows.
pub rows_packed : (old new : Packed) (packed : PackedRow) (row : Row) → packed.block ≡ row.block → packed.tail ≡ row.tail
    → packed.start ≡ length old.numbers.items → packed.end ≡ length new.numbers.items
    → new.numbers.items ≡ old.numbers.items ++ row.dependencies.items → new.rows.items ≡ old.rows.items ++ packed ∷ []
    → (rows : List Row) → ArePacked old rows → ArePacked new (rows ++ row ∷ [])
rows_packed old new packed row block tail start end numbers all rows are =
    subst (λ ps. AllZip (IsPacked new.numbers.items) ps (rows ++ row ∷ [])) (sym all)
    (subst (λ ns. AllZip (IsPacked ns) (old.rows.items ++ packed ∷ []) (rows ++ row ∷ [])) (sym numbers)
    (zip_push (IsPacked (old.numbers.items ++ row.dependencies.items)) old.rows.items rows packed row
    (zip_weaken (IsPacked old.numbers.items) (IsPacked (old.numbers.items ++ row.dependencies.items))
    (packed_longer old.numbers.items row.dependencies.items) old.rows.items rows are)
    (row_packed old.numbers.items packed row block tail start (end ∙ ap (λ (ns : List ℕ). length ns) numbers))))

-- No packed rows equal an empty list of rows.
pub no_rows_packed : (packed : Packed) → packed.rows.items ≡ [] → ArePacked packed []
no_rows_packed packed none = subst (λ ps. AllZip (IsPacked packed.numbers.items) ps []) (sym none) tt

-- A row is kept if there are fewer than 4,097 rows.
pub row_kept : (old new : Packed) (row : Row) → length old.rows.items < 4097
    → ((rows : List Row) → ArePacked old rows → ArePacked new (rows ++ row ∷ []))
    → (rows : List Row) → ArePacked old rows → ArePacked new (take 4097 (rows ++ row ∷ []))
row_kept old new row few added rows are =
    let same = zip_length _ old.rows.items rows are in
    let both = length-append rows (row ∷ []) in
    subst (ArePacked new) (sym (take_all 4097 (rows ++ row ∷ []) (omega (arith, same, both, few)))) (added rows are)

-- A row is not kept if there are 4,097 rows or more.
pub row_passed : (old new : Packed) (row : Row) → 4097 ≤ length old.rows.items → new.numbers.items ≡ old.numbers.items
    → new.rows.items ≡ take 4097 old.rows.items
    → (rows : List Row) → ArePacked old rows → ArePacked new (take 4097 (rows ++ row ∷ []))
row_passed old new row full numbers all rows are =
    let same = zip_length _ old.rows.items rows are in
    subst (ArePacked new) (sym (take-append-le 4097 rows (row ∷ []) (omega (arith, same, full))))
    (subst (λ ps. AllZip (IsPacked new.numbers.items) ps (take 4097 rows)) (sym all)
    (subst (λ ns. AllZip (IsPacked ns) (take 4097 old.rows.items) (take 4097 rows)) (sym numbers)
    (zip_take (IsPacked old.numbers.items) 4097 old.rows.items rows are)))
