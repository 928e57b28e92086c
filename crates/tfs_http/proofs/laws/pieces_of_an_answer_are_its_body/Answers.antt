-- The pieces of a text, joined, are the text.
use Rattle.tfs_http.specs.ReplyText.{impact_body}
use Rattle.tfs_http.proofs.PieceLemmas.{pieces_joined}
use Rattle.tfs_http.proofs.laws.pieces_of_an_answer_are_its_body.Goals as goal

pub returns : goal.returns
returns c = record { joined = λ d chosen position pieces told. pieces_joined (impact_body d chosen position) pieces told }
