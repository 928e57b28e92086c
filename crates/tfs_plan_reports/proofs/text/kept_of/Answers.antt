-- If all lines fit into the room for all, no smaller number of them is the largest that fits.
use Rattle.std.proofs.Common.{ℕ, ◌+◌, String, Global, length, string_bytes, ap, inl, inr, arith}
use Rattle.std.proofs.lemmas.Bool.{cases_lt}
use Rattle.std.proofs.lemmas.List.{take_all}
use Rattle.std.proofs.lemmas.List.Sums.{sum-map, sum_by-take-le}
use Rattle.std.specs.Prelude.{sum_by, take}
use Rattle.tfs_plan_reports.proofs.text.kept_of.Goals as goal

pub returns-else-all-lines-clause-all : goal.returns-else-all-lines-clause-all
returns-else-all-lines-clause-all c = λ fits.
    let lines = c.args.lines.now in
    let all = c.fitting-all.result in
    let size : String Global → ℕ = λ l. length (string_bytes l) in
    elim (cases_lt all (length lines)) [
      | inl below ↦
          let past = c.fitting-all.ensures.most below in
          let some = sum-map size (take (all + 1) lines) in
          let whole = sum-map size (take (length lines) lines) in
          let same = ap (sum_by size) (take_all (length lines) lines (omega arith)) in
          absurd (omega (arith, some, whole, same, sum_by-take-le size lines (all + 1)))
      | inr whole ↦ absurd (c.if-all-lines.false (omega (arith, c.fitting-all.ensures.within)))
    ]
