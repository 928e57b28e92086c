-- The snapshot has the token that is due and the state of the copy.
use Rattle.std.proofs.Common.{ℕ, List, ap, refl, subst}
use Rattle.tfs_rules.specs.History.{state_of}
use Rattle.tfs_records.specs.Journal.{acts_of}
use Rattle.tfs_published.specs.Lookup.{IsLookup}
use Rattle.tfs_published.specs.Snapshot.{IsNumber}
use Rattle.tfs_published.proofs.published.Published.snapshot.Goals as goal

pub returns : goal.returns
returns c =
    let places = ap (λ v. v.places) c.self.view_is in
    record {
      value = record {
        begins = rw (← c.self.view_is) (c.if-not-begins_with.ensures.yes refl);
        lookup = λ j are. subst (λ (n : List ℕ). IsLookup c.find-number.result.1 (state_of (acts_of n j))) c.text.ensures.value
            (c.find-number.ensures.lookup j (rw (c.as_slice.ensures.value, places) are));
        number = c.find-number.result.0;
        numbered = λ j are. subst (λ (n : List ℕ). IsNumber j n c.find-number.result.0) c.text.ensures.value
            (c.find-number.ensures.number j (rw (c.as_slice.ensures.value, places) are));
        due = rw (← c.self.view_is, ← c.as_slice-2.ensures.value) c.due-token.ensures.value;
      };
      none = tt;
    }
