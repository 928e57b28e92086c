-- A new decoder has no bytes.
use Rattle.std.proofs.Common.{List, ℕ, sym, ◌∙◌, subst}
use Rattle.tfs_framing.specs.Decoder.{IsAt}
use Rattle.tfs_framing.proofs.decoder.RequestDecoder.start.Goals as goal

pub invariant_of-result : goal.invariant_of-result
invariant_of-result c = (
  subst (λ (t : List ℕ). IsAt c.new-2.result.bytes c.start.result t) (c.new-2.ensures ∙ sym c.new.ensures.items) (c.start.ensures.at c.new-2.result.bytes),
  c.start.ensures.room c.new.result.spare,
)
