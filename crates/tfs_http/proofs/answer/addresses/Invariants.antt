-- The list has the addresses of the numbers so far.
use Rattle.std.proofs.Common.{◌≡◌, map, take}
use Rattle.serde_json.specs.View.{view}
use Rattle.tfs_http.specs.ReplyText.{address_texts}
use Rattle.tfs_http.proofs.answer.addresses.Given as goal

abbrev pub invariant-loop-number : goal.invariant-loop-number
invariant-loop-number l = map view l.texts.items ≡ address_texts l.doc (take l.number-index l.chosen)
