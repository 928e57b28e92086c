-- The single journal is chosen, or none is.
use Rattle.std.proofs.Common.{refl, sym, subst}
use Rattle.tfs_folder.specs.Alone.{IsUnchosenAlone}
use Rattle.tfs_folder.specs.declared.choice.Unchosen.{Unchosen}
use Rattle.tfs_folder.proofs.AloneLemmas.{alone_torn, chosen_where_ok, unchosen_where_err, never_true}
use Rattle.tfs_folder.proofs.alone.choose_headed.Goals as goal

pub returns-then-is_headless-clause-unchosen : goal.returns-then-is_headless-clause-unchosen
returns-then-is_headless-clause-unchosen c = λ known rebases.
    subst (λ (u : Unchosen). IsUnchosenAlone known c.args.number c.args.least u.number u.why) (sym c.at.ensures)
    (alone_torn known c.args.number c.args.least c.args.table.journal c.args.end rebases (c.if-is_headless.ensures.0 refl))

pub returns-clause-chosen : goal.returns-clause-chosen
returns-clause-chosen c = λ known rebases.
    chosen_where_ok (λ chosen. chosen.number) (λ chosen. chosen.left) (λ chosen. chosen.table.journal) known c.args.number c.args.least
    c.args.table.journal c.args.end c.choose_rebased.result rebases (λ torn. never_true (c.if-is_headless.ensures.1 torn))
    c.choose_rebased.ensures.chosen

pub returns-clause-unchosen : goal.returns-clause-unchosen
returns-clause-unchosen c = λ known rebases.
    unchosen_where_err (λ unchosen. unchosen.number) (λ unchosen. unchosen.why) known c.args.number c.args.least c.args.table.journal c.args.end
    c.choose_rebased.result rebases (λ torn. never_true (c.if-is_headless.ensures.1 torn)) c.choose_rebased.ensures.unchosen
