-- A message without a body ends with its head; before the first chunk nothing is decoded.
use Rattle.std.proofs.Common.{[], length, refl, subst}
use Rattle.tfs_framing.specs.Framing.{Opens}
use Rattle.tfs_framing.specs.declared.lines.BodyLength.{BodyLength}
use Rattle.tfs_framing.specs.declared.lines.BodyLength.TheVariants.{Absent}
use Rattle.tfs_framing.proofs.OpensLemmas.{whole_anyway, whole_framed}
use Rattle.tfs_framing.proofs.framing.frame_body.Goals as goal

pub returns-in_err-request-in-Absent-clause-memory : goal.returns-in_err-request-in-Absent-clause-memory
returns-in_err-request-in-Absent-clause-memory c = λ bytes k.
    whole_anyway _ bytes c.args.rest.now [] [] c.args.rest.now c.args.request Absent
    (subst (λ (n : BodyLength). Opens bytes c.args.request n c.args.rest.now) c.in-Absent.is k) refl (refl, refl)

pub returns-in_ok-request-in-Absent-clause-ok : goal.returns-in_ok-request-in-Absent-clause-ok
returns-in_ok-request-in-Absent-clause-ok c = λ bytes k.
    whole_framed bytes c.args.rest.now [] c.new.result.items c.args.rest.now c.args.rest.now c.args.request Absent
    c.in_ok-request-in-Absent.field-0 _ (length c.args.rest.now)
    (subst (λ (n : BodyLength). Opens bytes c.args.request n c.args.rest.now) c.in-Absent.is k) refl (refl, c.new.ensures.items)
    c.in_ok-request-in-Absent.was c.complete-request.ensures ([], refl) refl

pub returns-in-Chunked-clause-ok : goal.returns-in-Chunked-clause-ok
returns-in-Chunked-clause-ok c = λ bytes k.
    c.frame_chunks.ensures.ok bytes (record {
      rest = c.args.rest.now;
      opens = subst (λ (n : BodyLength). Opens bytes c.args.request n c.args.rest.now) c.in-Chunked.is k;
      passed = c.start.ensures c.args.rest.now;
    })

pub returns-in-Chunked-clause-memory : goal.returns-in-Chunked-clause-memory
returns-in-Chunked-clause-memory c = λ bytes k.
    c.frame_chunks.ensures.memory bytes (record {
      rest = c.args.rest.now;
      opens = subst (λ (n : BodyLength). Opens bytes c.args.request n c.args.rest.now) c.in-Chunked.is k;
      passed = c.start.ensures c.args.rest.now;
    })
