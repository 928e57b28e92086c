-- A refusal of framing that is none of the other six is `BadHead`.
use Rattle.tfs_framing.proofs.MessageLemmas.{is_bad_head, is_of_message}
use Rattle.tfs_framing.proofs.over.copy_of.Goals as goal

pub returns-in_default : goal.returns-in_default
returns-in_default c = λ bytes is.
    let other = c.in_default in
    is_bad_head _ (is_of_message bytes _ is) other.not-HeadTooLarge other.not-NoHost other.not-BadLength other.not-TransferCoding
    other.not-BodyTooLarge other.not-BadChunk
