-- The two relations differ in a test that each name passes.
use Rattle.std.proofs.Common.{◌≡◌, Bool, true, false, ◌&&◌, refl, sym, ◌∙◌}
use Rattle.std.specs.List.{list_any}
use Rattle.std.specs.Str.{bytes_eq}
use Rattle.tfs_records.specs.Journal.{names_of}
use Rattle.tfs_table.proofs.laws.rebased_journals_keep_all_names.Goals as goal

-- A test that always passes doesn't matter.
and_true : (b : Bool) → b ≡ (b && true)
and_true true = refl
and_true false = refl

pub returns : goal.returns
returns c = record {
  all = λ old new. (
    (λ is. record {
      position = is.position;
      entries = is.entries;
      names = λ name. is.names name ∙ and_true (list_any (bytes_eq name) (names_of old));
      standings = is.standings;
    }),
    (λ is. record {
      position = is.position;
      entries = is.entries;
      names = λ name. is.names name ∙ sym (and_true (list_any (bytes_eq name) (names_of old)));
      standings = is.standings;
    }),
  );
}
