-- The number of set bits is the number of members.
use Rattle.std.proofs.Common.{◌*◌, List, ℕ, length, count_by, ap, ◌∙◌, arith}
use Rattle.std.specs.FinSet.{len}
use Rattle.std.specs.List.{range_with_len}
use Rattle.tfs_planes.specs.Row.{NumberSet, bit_at_word}
use Rattle.tfs_planes.proofs.CountLemmas.{len-row}
use Rattle.tfs_planes.proofs.row.Row.count.Goals as goal

pub returns : goal.returns
returns c = record {
  count =
      let row = c.self.inside in
      c.count_bits.ensures ∙ ap (λ (words : List ℕ). count_by (bit_at_word words) (range_with_len 0 (64 * length words))) c.deref.ensures.value
      ∙ len-row row.size row.words.items (omega (arith, c.self.invariant.long, row.words.ok.0)) c.self.invariant.clear
      ∙ ap (λ (s : NumberSet). len s.members) c.self.view_is;
}
