-- A reply that may not be written is withheld; another one is what is said.
use Rattle.std.proofs.Common.{◌≡◌, true, false}
use Rattle.tfs_calls.specs.Reply.{reply_value}
use Rattle.tfs_serve.proofs.Holding.{said_open, said_or_withheld}
use Rattle.tfs_serve.proofs.held_desk.HeldDeskOwedDesk.reply.Goals as goal

pub returns-clause-ok : goal.returns-clause-ok
returns-clause-ok g c =
    let answer = c.answer-reply in
    let send = c.send_if.ensures in
    said_open c.send_if.result _ (reply_value answer.result.0) c.args.form answer.result.1 _ _ _ _ (λ may. (
      answer.ensures.loans.0,
      answer.ensures.loans.1,
      record { step = answer.ensures.step; held = λ _. answer.ensures.held may },
      answer.ensures.heard,
    )) send.may send.ok send.writer

pub returns-clause-err : goal.returns-clause-err
returns-clause-err g c =
    let answer = c.answer-reply in
    let send = c.send_if.ensures in
    said_or_withheld c.send_if.result _ (reply_value answer.result.0) c.args.form answer.result.1 _ _ _ _ (λ may. (
      answer.ensures.loans.0,
      answer.ensures.loans.1,
      record { step = answer.ensures.step; held = λ _. answer.ensures.held may },
      answer.ensures.heard,
    )) (λ shut. (
      answer.ensures.loans.0,
      answer.ensures.loans.1,
      record { step = answer.ensures.step; held = λ may. let wrong : false ≡ true = may in absurd (cc) },
      answer.ensures.heard,
    )) send.err send.writer send.withheld send.kept
