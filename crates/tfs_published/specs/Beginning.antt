-- Journals that begin with an earlier one.
use Rattle.std.specs.Prelude.{◌≡◌}
use mathlib.Core.List.{IsPrefix}
use Rattle.tfs_records.specs.Journal.{Journal}

-- A journal begins with an earlier one: they have the same base, and the earlier entries are a
-- prefix of its entries.
pub record BeginsWith (j : Journal) (earlier : Journal) : Type 0 where
  pub base : j.base ≡ earlier.base
  pub entries : IsPrefix earlier.entries j.entries
