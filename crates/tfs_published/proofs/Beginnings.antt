-- Lemmas about journals that begin with an earlier one.
use Rattle.std.proofs.Common.{◌≡◌, ◌+◌, ◌≤◌, ◌<◌, length, arith, List, [], ◌++◌, refl, sym, ◌∙◌, ap, append_assoc, append-nil, length-append}
use Rattle.std.proofs.lemmas.List.{map-append, length-map}
use mathlib.Core.List.{IsPrefix}
use Rattle.tfs_records.specs.Journal.{Journal, BaseValue, EntryValue, position_of}
use Rattle.tfs_published.specs.Change.{ChangeValue, journal_after, entries_of, makers_of}
use Rattle.tfs_published.specs.Beginning.{BeginsWith}
use Rattle.tfs_published.proofs.Prefixes.{prefix_shorter}

-- A journal begins with itself.
pub begins_with_itself : (j : Journal) → BeginsWith j j
begins_with_itself j = record { base = refl; entries = ([], append-nil j.entries) }

-- A beginning of a beginning of a journal is a beginning of it.
pub begins_with_earlier : (last middle first : Journal) → BeginsWith last middle → BeginsWith middle first → BeginsWith last first
begins_with_earlier last middle first a b = record {
  base = a.base ∙ b.base;
  entries = (
    b.entries.0 ++ a.entries.0,
    sym (append_assoc first.entries b.entries.0 a.entries.0) ∙ (ap (λ (es : List EntryValue). es ++ a.entries.0) b.entries.1 ∙ a.entries.1),
  );
}

-- The journal after some changes begins with the journal after the first of them.
pub later_begins : (opening : Journal) (first more : List ChangeValue) → IsPrefix first more
    → BeginsWith (journal_after opening more) (journal_after opening first)
later_begins opening first more p = record {
  base = refl;
  entries = (
    entries_of p.0,
    append_assoc opening.entries (entries_of first) (entries_of p.0)
        ∙ ap (λ (es : List EntryValue). opening.entries ++ es) (sym (map-append (λ (c : ChangeValue). c.entry) first p.0) ∙ ap entries_of p.1),
  );
}

-- The makers of some changes begin with the makers of the first of them.
pub later_makers : (first more : List ChangeValue) → IsPrefix first more → IsPrefix (makers_of first) (makers_of more)
later_makers first more p = (makers_of p.0, sym (map-append (λ (c : ChangeValue). c.maker) first p.0) ∙ ap makers_of p.1)

-- Each change beyond the opening journal has one maker.
pub makers_counted : (opening : Journal) (changes : List ChangeValue)
    → length (journal_after opening changes).entries ≡ length opening.entries + length (makers_of changes)
makers_counted opening changes =
    omega (
      arith,
      length-append opening.entries (entries_of changes),
      length-map changes (λ (c : ChangeValue). c.entry),
      length-map changes (λ (c : ChangeValue). c.maker),
    )

-- The journal after fewer changes has a lower position.
pub fewer_are_lower : (opening : Journal) (first more : List ChangeValue) → length first < length more
    → position_of (journal_after opening first) < position_of (journal_after opening more)
fewer_are_lower opening first more fewer =
    omega (
      arith,
      fewer,
      length-append opening.entries (entries_of first),
      length-append opening.entries (entries_of more),
      length-map first (λ (c : ChangeValue). c.entry),
      length-map more (λ (c : ChangeValue). c.entry),
    )

-- The journal after some changes begins with the opening one.
pub opening_begins : (opening : Journal) (changes : List ChangeValue) → BeginsWith (journal_after opening changes) opening
opening_begins opening changes = record { base = refl; entries = (entries_of changes, refl) }

-- Of two beginnings of one journal, one that isn't at a lower position begins with the other.
pub longer_begins : (whole a b : Journal) → BeginsWith whole a → BeginsWith whole b → position_of b ≤ position_of a → BeginsWith a b
longer_begins whole a b is_a is_b longer =
    let base : a.base ≡ b.base = sym is_a.base ∙ is_b.base in
    let position : a.base.position ≡ b.base.position = ap (λ (base : BaseValue). base.position) base in
    let shorter : length b.entries ≤ length a.entries = omega (arith, longer, position) in
    record { base = base; entries = prefix_shorter b.entries a.entries whole.entries is_b.entries is_a.entries shorter }
