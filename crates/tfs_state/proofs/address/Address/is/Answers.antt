-- An address equals a text if and only if its front is a prefix and its tail is the rest of the
-- text.
use Rattle.tfs_state.proofs.AddressLemmas.{text_with_prefix, text_without_prefix}
use Rattle.tfs_state.proofs.address.Address.is.Goals as goal

pub returns-in-Some : goal.returns-in-Some
returns-in-Some c = record {
  value =
      rw (← c.self.view_is, ← c.as_bytes.ensures.value, ← c.as_bytes-2.ensures.value, ← c.as_bytes-in-Some.ensures.value, c.eq.ensures)
      (text_with_prefix c.as_bytes-2.result.now c.as_bytes-in-Some.result.now c.as_bytes.result.now c.in-Some.rest.now
      c.in-Some.ensures.cases.0 c.in-Some.ensures.cases.1);
}

pub returns-in-None : goal.returns-in-None
returns-in-None c = record {
  value = rw (← c.self.view_is, ← c.as_bytes.ensures.value, ← c.as_bytes-2.ensures.value)
      (text_without_prefix c.as_bytes-2.result.now c.self.inside.tail.now c.as_bytes.result.now c.in-None.ensures.cases);
}
