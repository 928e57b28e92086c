-- The relation of the files' bytes is that of the files.
use Rattle.std.proofs.Common.{ℕ, List, subst}
use Rattle.tfs_folder.specs.Link.{IsLink}
use Rattle.tfs_folder.proofs.choice.link_at.Goals as goal

pub returns-in-Ok-clause-link : goal.returns-in-Ok-clause-link
returns-in-Ok-clause-link c =
    subst (λ (t : List ℕ). IsLink t c.args.later.now.bytes c.in-Ok.link) c.bytes.ensures.value
    (subst (λ (t : List ℕ). IsLink c.bytes.result.now t c.in-Ok.link) c.bytes-2.ensures.value c.in-Ok.ensures.link)
