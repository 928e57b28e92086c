-- Lemmas: what is read in a copy is read over the journal that it represents, or over a shorter one
-- that has all changes of the name.
use Rattle.std.proofs.Common.{◌≡◌, ◌<◌, ℕ, List, [], length, Option, Some, None, IfSome, refl, sym, subst, arith, inl, inr}
use mathlib.Core.List.{IsPrefix}
use Rattle.logbook.specs.Pages.{Book}
use Rattle.tfs_rules.specs.History.{History, state_of}
use Rattle.tfs_records.specs.Journal.{Journal, acts_of}
use Rattle.tfs_published.specs.Change.{ChangeValue, journal_after}
use Rattle.tfs_published.specs.Lookup.{IsLookup}
use Rattle.tfs_published.specs.Point.{IsPoint}
use Rattle.tfs_published.specs.Published.{StandsFor}
use Rattle.tfs_published.specs.Since.{IsSince, IsLater, IsDue}
use Rattle.tfs_published.specs.Snapshot.{IsNumber, since_at, IsSnapshot, IsSeen}
use Rattle.tfs_published.specs.Token.{TokenValue}
use Rattle.tfs_published.specs.declared.snapshot.Snapshot.{Snapshot}
use Rattle.tfs_published.specs.declared.view.CopyView.{CopyView}
use Rattle.tfs_published.proofs.Prefixes.{prefix_shorter, prefix_itself}
use Rattle.tfs_published.proofs.Since.{unchanged_absent, unchanged_between}

-- A token of a table that begins with an earlier one, after whose changes a name has the acts that
-- it has after later changes.
record Reaches (book : Book) (opening : Journal) (changes : List ChangeValue) (name : List ℕ) (earlier token : TokenValue) : Type 0 where
  point : IsPoint book opening token
  begins : IsPrefix earlier.changes token.changes
  same : acts_of name (journal_after opening changes) ≡ acts_of name (journal_after opening token.changes)

-- The later one of what was seen and the name's last change has all acts of the name.
later_reaches : (book : Book) (opening : Journal) (changes : List ChangeValue) (name : List ℕ) (since : Option TokenValue) (earlier token : TokenValue)
    → IsSince book opening changes name since → IsPoint book opening earlier → IsPrefix earlier.changes changes → IsLater since earlier token
    → Reaches book opening changes name earlier token
later_reaches book opening changes name None earlier token is point begins later =
    subst (λ (t : TokenValue). Reaches book opening changes name earlier t) (sym later) (record {
      point = point;
      begins = prefix_itself earlier.changes;
      same = sym (unchanged_between opening [] earlier.changes changes name is (earlier.changes, refl) begins);
    })
later_reaches book opening changes name (Some since) earlier token is point begins (inl stays) =
    subst (λ (t : TokenValue). Reaches book opening changes name earlier t) (sym stays.1) (record {
      point = point;
      begins = prefix_itself earlier.changes;
      same = sym (unchanged_between opening since.changes earlier.changes changes name is.1
          (prefix_shorter since.changes earlier.changes changes is.1.begins begins stays.0) begins);
    })
later_reaches book opening changes name (Some since) earlier token is point begins (inr goes) =
    let longer : length earlier.changes < length since.changes = goes.0 in
    subst (λ (t : TokenValue). Reaches book opening changes name earlier t) (sym goes.1) (record {
      point = is.0;
      begins = prefix_shorter earlier.changes since.changes changes begins is.1.begins (omega (arith, longer));
      same = is.1.same;
    })

-- The token at a name's number is one since which the name is unchanged.
since_of : (book : Book) (opening : Journal) (copy : CopyView) (name : List ℕ) (number : Option ℕ) → StandsFor book opening copy
    → IsNumber (journal_after opening copy.token.changes) name number
    → IsSince book opening copy.token.changes name (since_at copy.since number)
since_of book opening copy name None stands is = unchanged_absent opening copy.token.changes name is
since_of book opening copy name (Some number) stands is = stands.since.each number name is

-- The token that is due has all acts of the name.
due_reaches : (book : Book) (opening : Journal) (copy : CopyView) (name : List ℕ) (number : Option ℕ) (earlier token : TokenValue) (synced : ℕ)
    → StandsFor book opening copy → IsNumber (journal_after opening copy.token.changes) name number → IsPoint book opening earlier
    → IsPrefix earlier.changes copy.token.changes → IsDue copy.token (since_at copy.since number) earlier synced token
    → Reaches book opening copy.token.changes name earlier token
due_reaches book opening copy name number earlier token synced stands is point begins (inl last) =
    subst (λ (t : TokenValue). Reaches book opening copy.token.changes name earlier t) (sym last.1)
    (record { point = stands.point; begins = begins; same = refl })
due_reaches book opening copy name number earlier token synced stands is point begins (inr within) =
    later_reaches book opening copy.token.changes name (since_at copy.since number) earlier token (since_of book opening copy name number stands is) point
    begins within.1

-- A snapshot of a copy, if there is one, is what is read over the journal of a token of the table.
pub seen_of : (book : Book) (opening : Journal) (copy : CopyView) (earlier : TokenValue) (name : List ℕ) (synced : ℕ) (snapshot : Option Snapshot)
    → StandsFor book opening copy → IsPoint book opening earlier → IfSome snapshot (λ s. IsSnapshot copy earlier name synced s)
    → IfSome snapshot (λ s. IsSeen book opening earlier name s)
seen_of book opening copy earlier name synced None stands point sees = tt
seen_of book opening copy earlier name synced (Some s) stands point sees =
    let j = journal_after opening copy.token.changes in
    let reaches = due_reaches book opening copy name sees.number earlier s.token synced stands (sees.numbered j stands.places) point sees.begins sees.due in
    record {
      point = reaches.point;
      begins = reaches.begins;
      lookup = subst (λ (h : History). IsLookup s.lookup (state_of h)) reaches.same (sees.lookup j stands.places);
    }
