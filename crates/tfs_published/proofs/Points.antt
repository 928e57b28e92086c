-- Lemmas about the tokens of a table.
use Rattle.std.proofs.Common.{◌≡◌, ◌+◌, ◌≤◌, ℕ, List, [], ◌∷◌, ◌++◌, length, min, map, sym, ◌∙◌, ap, subst, append_assoc, append-nil, length-append, arith}
use Rattle.std.proofs.lemmas.List.{map-append}
use Rattle.logbook.specs.Pages.{Book}
use Rattle.tfs_records.specs.Format.{record_text, journal_text}
use Rattle.tfs_records.specs.Journal.{EntryValue, Journal, with_entry, position_of}
use Rattle.tfs_table.specs.Lawful.{IsLawful}
use Rattle.tfs_table.specs.Mark.{mark_of}
use Rattle.tfs_table.proofs.TableLemmas.{text_more}
use Rattle.tfs_published.specs.Change.{ChangeValue, journal_after}
use Rattle.tfs_published.specs.Point.{IsPoint}
use Rattle.tfs_published.specs.Token.{TokenValue, token_with}

-- The journal after one more change has that change's entry appended.
pub journal_after_more : (opening : Journal) (changes : List ChangeValue) (change : ChangeValue)
    → journal_after opening (changes ++ change ∷ []) ≡ with_entry (journal_after opening changes) change.entry
journal_after_more opening changes change =
    let entries = map (λ (c : ChangeValue). c.entry) in
    let split : entries (changes ++ change ∷ []) ≡ entries changes ++ change.entry ∷ [] = map-append (λ (c : ChangeValue). c.entry) changes (change ∷ []) in
    ap (λ es. record { base = opening.base; entries = opening.entries ++ es }) split
    ∙ ap (λ es. record { base = opening.base; entries = es }) (sym (append_assoc opening.entries (entries changes) (change.entry ∷ [])))

-- Without changes the journal is the opening one.
pub no_changes : (opening : Journal) → journal_after opening [] ≡ opening
no_changes opening = ap (λ (es : List EntryValue). record { base = opening.base; entries = es }) (append-nil opening.entries)

-- A bound of the mark of a journal, with the length of one more record added, is a bound of the
-- mark of the journal with that record.
mark_more : (j : Journal) (e : EntryValue) (mark : ℕ) → mark_of j ≤ mark
    → mark_of (with_entry j e) ≤ min (mark + length (record_text e)) 18446744073709551615
mark_more j e mark least =
    let sizes = ap length (text_more j e) ∙ length-append (journal_text j) (record_text e) in
    omega (arith, least, sizes)

-- If the journal after one more change is lawful, a token with one more change is one of the table.
pub point_more : (book : Book) (opening : Journal) (token : TokenValue) (change : ChangeValue) → IsPoint book opening token
    → IsLawful (with_entry (journal_after opening token.changes) change.entry) → IsPoint book opening (token_with token change)
point_more book opening token change point lawful =
    let j = journal_after opening token.changes in
    let more = journal_after_more opening token.changes change in
    let position = point.position in record {
      same_book = point.same_book;
      position = omega (arith, position, length-append j.entries (change.entry ∷ [])) ∙ ap position_of (sym more);
      mark = subst (λ (k : Journal). mark_of k ≤ min (token.mark + length (record_text change.entry)) 18446744073709551615) (sym more)
          (mark_more j change.entry token.mark point.mark);
      lawful = subst IsLawful (sym more) lawful;
    }

-- A token without changes, with the position and a bound of the mark of the opening journal, is one
-- of the table.
pub point_new : (book : Book) (opening j : Journal) (token : TokenValue) → j ≡ opening → token.book ≡ book → token.changes ≡ []
    → token.position ≡ position_of j → mark_of j ≤ token.mark → IsLawful j → IsPoint book opening token
point_new book opening j token begins same none position mark lawful =
    let journal : journal_after opening token.changes ≡ j = ap (journal_after opening) none ∙ (no_changes opening ∙ sym begins) in record {
      same_book = same;
      position = position ∙ ap position_of (sym journal);
      mark = subst (λ (k : Journal). mark_of k ≤ token.mark) (sym journal) mark;
      lawful = subst IsLawful (sym journal) lawful;
    }
