-- Lemmas: how long names are unchanged.
use Rattle.std.proofs.Common.{◌≡◌, ◌≢◌, ◌≤◌, ◌+◌, ℕ, nat_eq, true, false, List, [], ◌∷◌, ◌++◌, length, map, filter, set, get_or, slice_get, Bool}
use Rattle.std.proofs.Common.{Option, Some, None, refl, sym, ◌∙◌, ap, subst, arith, append_assoc, append-nil, length-append}
use Rattle.std.specs.List.{flat_map}
use Rattle.std.specs.Str.{bytes_eq}
use Rattle.std.proofs.lemmas.Bool.{eq-eqb, eqb-true}
use Rattle.std.proofs.lemmas.Grind.{get_or-set_at}
use Rattle.std.proofs.lemmas.List.{map-append, length-set, get_or-set_other}
use Rattle.std.proofs.lemmas.List.Elements.{filter-append}
use mathlib.Core.List.{IsPrefix}
use Rattle.logbook.specs.Pages.{Book}
use Rattle.tfs_rules.specs.Act.{ActValue}
use Rattle.tfs_records.specs.Journal.{EntryValue, Journal, with_entry, opening_acts, entry_acts, acts_of, names_of}
use Rattle.tfs_records.proofs.JournalLemmas.{acts_of_other}
use Rattle.tfs_published.specs.Change.{ChangeValue, journal_after}
use Rattle.tfs_published.specs.Point.{IsPoint}
use Rattle.tfs_published.specs.Published.{updated, TellsChange, AreSince}
use Rattle.tfs_published.specs.Since.{IsUnchanged, IsSince}
use Rattle.tfs_published.specs.Token.{TokenValue}
use Rattle.tfs_published.specs.declared.view.CopyView.{CopyView}
use Rattle.tfs_published.specs.declared.view.UpdateView.{UpdateView}
use Rattle.tfs_published.proofs.Beginnings.{later_begins}
use Rattle.tfs_published.proofs.Places.{names_elsewhere, other_name}
use Rattle.tfs_published.proofs.Points.{journal_after_more}
use Rattle.tfs_published.proofs.Prefixes.{prefix_whole}

-- More entries add their acts on a name to its history.
acts_of_all : (name : List ℕ) (j : Journal) (more : List EntryValue)
    → acts_of name (record { base = j.base; entries = j.entries ++ more }) ≡ acts_of name j ++ entry_acts name more
acts_of_all name j more =
    let opening = flat_map opening_acts (filter (λ row. bytes_eq row.name name) j.base.rows) in
    let test : EntryValue → Bool = λ t. bytes_eq t.name name in
    let act : EntryValue → ActValue = λ t. t.act in
    let split : map act (filter test (j.entries ++ more)) ≡ map act (filter test j.entries) ++ map act (filter test more) =
    ap (map act) (filter-append test j.entries more) ∙ map-append act (filter test j.entries) (filter test more) in
    ap (λ t. opening ++ t) split ∙ sym (append_assoc opening (map act (filter test j.entries)) (map act (filter test more)))

-- The acts on a name after fewer changes are a prefix of those after more.
acts_prefix : (opening : Journal) (first more : List ChangeValue) (name : List ℕ) → IsPrefix first more
    → IsPrefix (acts_of name (journal_after opening first)) (acts_of name (journal_after opening more))
acts_prefix opening first more name p =
    let entries = (later_begins opening first more p).entries in (
      entry_acts name entries.0,
      sym (acts_of_all name (journal_after opening first) entries.0)
          ∙ ap (λ (es : List EntryValue). acts_of name (record { base = opening.base; entries = es })) entries.1,
    )

-- A prefix isn't longer than the list.
prefix_length : {A : Type 0} (xs ys : List A) → IsPrefix xs ys → length xs ≤ length ys
prefix_length xs ys p =
    let all : length ys ≡ length xs + length (p.0) = ap length (sym p.1) ∙ length-append xs (p.0) in
    omega (arith, all)

-- If a name has no acts between earlier and later changes, it has none between changes in the
-- middle and the later ones.
pub unchanged_between : (opening : Journal) (earlier middle later : List ChangeValue) (name : List ℕ) → IsUnchanged opening earlier later name
    → IsPrefix earlier middle → IsPrefix middle later → acts_of name (journal_after opening middle) ≡ acts_of name (journal_after opening later)
unchanged_between opening earlier middle later name unchanged begins goes_on =
    let first = prefix_length _ _ (acts_prefix opening earlier middle name begins) in
    let same : length (acts_of name (journal_after opening later)) ≡ length (acts_of name (journal_after opening earlier)) = ap length unchanged.same in
    prefix_whole (acts_of name (journal_after opening middle)) (acts_of name (journal_after opening later)) (acts_prefix opening middle later name goes_on)
    (omega (arith, first, same))

-- A name without acts after some changes has had none since the opening journal.
pub unchanged_absent : (opening : Journal) (changes : List ChangeValue) (name : List ℕ) → acts_of name (journal_after opening changes) ≡ []
    → IsUnchanged opening [] changes name
unchanged_absent opening changes name none =
    let first = prefix_length _ _ (acts_prefix opening [] changes name (changes, refl)) in
    let all : length (acts_of name (journal_after opening changes)) ≡ 0 = ap length none in record {
      begins = (changes, refl);
      same = sym (prefix_whole (acts_of name (journal_after opening [])) (acts_of name (journal_after opening changes))
          (acts_prefix opening [] changes name (changes, refl)) (omega (arith, all)));
    }

-- A change of another name leaves a name unchanged.
unchanged_more : (opening : Journal) (earlier changes : List ChangeValue) (change : ChangeValue) (name : List ℕ)
    → IsUnchanged opening earlier changes name → bytes_eq change.entry.name name ≡ false → IsUnchanged opening earlier (changes ++ change ∷ []) name
unchanged_more opening earlier changes change name unchanged other = record {
  begins = (
    unchanged.begins.0 ++ change ∷ [],
    sym (append_assoc earlier unchanged.begins.0 (change ∷ [])) ∙ ap (λ (cs : List ChangeValue). cs ++ change ∷ []) unchanged.begins.1,
  );
  same = ap (acts_of name) (journal_after_more opening changes change)
      ∙ (acts_of_other name (journal_after opening changes) change.entry other ∙ unchanged.same);
}

-- A change of another name leaves the token since which a name is unchanged.
since_more : (book : Book) (opening : Journal) (changes : List ChangeValue) (change : ChangeValue) (name : List ℕ) (since : Option TokenValue)
    → bytes_eq change.entry.name name ≡ false → IsSince book opening changes name since → IsSince book opening (changes ++ change ∷ []) name since
since_more book opening changes change name None other is = unchanged_more opening [] changes change name is other
since_more book opening changes change name (Some since) other is = (is.0, unchanged_more opening since.changes changes change name is.1 other)

-- After an update, each name is unchanged since the token at its number.
pub since_updated : (book : Book) (opening : Journal) (copy : CopyView) (u : UpdateView) (change : ChangeValue)
    → AreSince book opening copy → IsPoint book opening u.token → TellsChange opening copy u change → AreSince book opening (updated copy u)
since_updated book opening copy u change since point tells =
    let j = journal_after opening copy.token.changes in
    let e = change.entry in
    let after : journal_after opening u.token.changes ≡ with_entry j e =
    ap (journal_after opening) tells.changes ∙ journal_after_more opening copy.token.changes change in
    let wide = since.wide in
    let inside = tells.entry.inside in
    record {
      wide = length-set copy.since u.number (Some u.token) ∙ since.wide;
      each = λ number name at.
          let there : slice_get (names_of (with_entry j e)) number ≡ Some name =
          subst (λ (k : Journal). slice_get (names_of k) number ≡ Some name) after at in
          elim (nat_eq number u.number) as (λ t. nat_eq number u.number ≡ t
          → IsSince book opening u.token.changes name (get_or (set copy.since u.number (Some u.token)) number None)) [
            | true ↦ λ yes.
                let put : get_or (set copy.since u.number (Some u.token)) number None ≡ Some u.token =
                get_or-set_at copy.since u.number number (Some u.token) None (eqb-true number u.number yes) (omega (arith, wide, inside)) in
                subst (λ (o : Option TokenValue). IsSince book opening u.token.changes name o) (sym put)
                (point, record { begins = ([], append-nil u.token.changes); same = refl })
            | false ↦ λ no.
                let apart : number ≢ u.number = λ same. let wrong : false ≡ true = sym no ∙ eq-eqb number u.number same in cc in
                let before : slice_get (names_of j) number ≡ Some name = sym (names_elsewhere j e u.number number tells.entry.number apart) ∙ there in
                let kept = get_or-set_other copy.since u.number number (Some u.token) None apart in
                let other = other_name j e u.number number name tells.entry.number there apart in
                let more = since_more book opening copy.token.changes change name (get_or copy.since number None) other (since.each number name before) in
                subst (λ (o : Option TokenValue). IsSince book opening u.token.changes name o) (sym kept)
                (subst (λ (cs : List ChangeValue). IsSince book opening cs name (get_or copy.since number None)) (sym tells.changes) more)
          ] refl;
    }
