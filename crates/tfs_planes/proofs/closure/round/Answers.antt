-- Row k is unchanged, and every other row is united with it if its bit is set.
use Rattle.std.proofs.Common.{◌≡◌, ℕ, ◌+◌, ◌-◌, ◌*◌, ◌++◌, List, ap, sym, subst, ◌∙◌, arith}
use Rattle.std.proofs.lemmas.Bool.{eqb-false}
use Rattle.tfs_planes.specs.Plane.{row_words, row_through}
use Rattle.tfs_planes.proofs.PlaneLemmas.{row_words_mid}
use Rattle.tfs_planes.proofs.RoundLemmas.{round_others}
use Rattle.tfs_planes.proofs.closure.round.Goals as goal

pub absorb_each-requires-2-clause-lengths : goal.absorb_each-requires-2-clause-lengths
absorb_each-requires-2-clause-lengths c =
    let rest : c.args.count ≡ c.args.k + 1 + (c.args.count - c.args.k - 1) = omega arith in
    let first = c.split_at_mut-before.ensures in
    let second = c.split_at_mut-row.ensures in
    omega (
      arith,
      ap (λ n. n * c.args.stride) rest,
      ap (λ n. (c.args.count - c.args.k - 1) * n) second.front_len,
      first.back_len,
      second.back_len,
      first.front_len,
    )

-- The words are the rows before row k, row k, and the rows after it.
module _ (words before rest row after : List ℕ) (first : words ≡ before ++ rest) (second : rest ≡ row ++ after) where
  in_parts : words ≡ before ++ (row ++ after)
  in_parts = first ∙ ap (λ zs. before ++ zs) second

pub returns-clause-kept : goal.returns-clause-kept
returns-clause-kept c =
    let first = c.split_at_mut-before.ensures in
    let second = c.split_at_mut-row.ensures in
    let s = c.args.stride in
    let k = c.args.k in
    let words = c.args.words.now in
    let before = c.split_at_mut-before.result.0.now in
    let row = c.split_at_mut-row.result.0.now in
    let after = c.split_at_mut-row.result.1.now in
    let whole = in_parts words before _ row after first.value second.value in
    row_words_mid s k c.absorb_each.new.rows row c.absorb_each-2.new.rows (c.absorb_each.auto.rows ∙ first.front_len) second.front_len
    ∙ sym (ap (λ zs. row_words s zs k) whole ∙ row_words_mid s k before row after first.front_len second.front_len)

pub returns-clause-others : goal.returns-clause-others
returns-clause-others c = λ i other.
    let first = c.split_at_mut-before.ensures in
    let second = c.split_at_mut-row.ensures in
    let s = c.args.stride in
    let k = c.args.k in
    let words = c.args.words.now in
    let before = c.split_at_mut-before.result.0.now in
    let row = c.split_at_mut-row.result.0.now in
    let after = c.split_at_mut-row.result.1.now in
    let whole = in_parts words before _ row after first.value second.value in
    let front = c.absorb_each.new.rows in
    let behind = c.absorb_each-2.new.rows in
    let through = subst (λ n. (j : ℕ) → row_words n front j ≡ row_through row c.args.column (row_words n before j)) second.front_len c.absorb_each.ensures in
    let too = subst (λ n. (j : ℕ) → row_words n behind j ≡ row_through row c.args.column (row_words n after j)) second.front_len c.absorb_each-2.ensures in
    round_others s k c.args.column words before row after front behind whole first.front_len (c.absorb_each.auto.rows ∙ first.front_len) second.front_len
    through too i (eqb-false i k other)
