-- The source behind the first bytes has failed if both have.
use Rattle.std.proofs.Common.{◌≡◌, Bool, true, false, if◌then◌else◌}
use Rattle.tfs_folder.specs.declared.joined.Joined.{Joined}
use Rattle.tfs_folder.proofs.BesideLemmas.{joined_cause}
use Rattle.tfs_folder.proofs.opened.open_fronted.Goals as goal

-- A source that was asked for bytes has failed if it and the first bytes have together.
behind_failed : (behind failed : Bool) → (if behind then failed else false) ≡ true → failed ≡ true
behind_failed true failed has = has
behind_failed false failed has = absurd cc

pub returns-clause-cause : goal.returns-clause-cause
returns-clause-cause g c =
    let failed = g.S.Source.failed in
    joined_cause (λ (j : Joined _). if j.is_behind then failed j.rest else false) failed (λ (j : Joined _). j.rest)
    (λ (j : Joined _) has. behind_failed j.is_behind (failed j.rest) has) c.open_source.result c.open_source.ensures.cause
