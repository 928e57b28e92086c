use Rattle.std.proofs.Common.{◌≡◌, ℕ, length, drop, ◌+◌, ◌-◌, ◌*◌, ◌/◌, ◌%◌, ◌≤◌, ◌∙◌, ap, arith, length-drop}
use Rattle.std.proofs.lemmas.List.{take_all}
use Rattle.tfs_digests.proofs.BlockLemmas.{end_is}
use Rattle.tfs_digests.proofs.message.end_of.Goals as goal
use Rattle.tfs_digests.proofs.message.end_of.Goals.{then-used-lt56, else-used-lt56}

pub returns : goal.returns
returns c =
    let m = c.args.text.now in
    let at = c.if-used-lt56.at in
    let whole : length m - length m % 64 ≡ length m / 64 * 64 = omega arith in
    let from : ℕ = length m - length m % 64 in
    let left = take_all (length m - from) (drop from m) (omega (arith, length-drop from m)) ∙ ap (λ (k : ℕ). drop k m) whole in
    let place : (at ≡ length m % 64 + 1 + (119 - length m % 64) % 64) × (at ≤ 120) =
    elim c.if-used-lt56.branch [
      | then-used-lt56 w ↦ (omega arith, omega arith)
      | else-used-lt56 w ↦ (omega arith, omega arith)
    ] in
    let bits = c.copy_from_slice.ensures.after ∙ c.to_le_bytes.ensures in
    rw c.final_blocks-end.ensures (end_is m _ _ at (at + 8 - at) left bits place.0 place.1)
