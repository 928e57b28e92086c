-- The row gains what the instances with the address reach, and what one instance with the
-- configuration address reaches.
use Rattle.std.proofs.Common.{◌∙◌, ◌||◌, ℕ, ap, ap₂}
use Rattle.std.specs.FinSet.{contains}
use Rattle.tfs_index.specs.Impact.{is_reached_from}
use Rattle.tfs_index.specs.Links.{has_number}
use Rattle.tfs_index.specs.Reach.{reaches}
use Rattle.tfs_index.proofs.DirectoryLemmas.{address_in_bucket, config_in_bucket, reached_found, reached_rest}
use Rattle.tfs_index.proofs.BucketLemmas.{or_grouped, reached_bit}
use Rattle.tfs_index.proofs.impact.unite.Goals as goal

pub returns-in-Some-clause-members : goal.returns-in-Some-clause-members
returns-in-Some-clause-members c u =
    let k : ℕ = c.bucket-bucket.result in
    c.union_row_into.ensures.members u
    ∙ ap₂ (λ p q. p || q) (c.unite_bucket.ensures.members u)
    (reached_bit c.args.doc.now c.args.index.now.plane c.requires.index.plane c.in-Some.v u)
    ∙ or_grouped (contains c.args.row.now.members u)
    (is_reached_from c.args.doc.now c.args.text.now (has_number c.args.index.now.directory.addresses k) u) (reaches c.args.doc.now c.in-Some.v u)
    ∙ ap (λ b. contains c.args.row.now.members u || b)
    (reached_found c.args.doc.now c.args.text.now u (has_number c.args.index.now.directory.addresses k)
    (address_in_bucket c.args.doc.now c.args.index.now.directory c.requires.index.directory c.args.text.now k c.bucket-bucket.ensures)
    c.in-Some.v c.in-Some.ensures.config)

pub returns-in_default-clause-members : goal.returns-in_default-clause-members
returns-in_default-clause-members c u =
    let k : ℕ = c.bucket-bucket.result in
    c.unite_bucket.ensures.members u
    ∙ ap (λ b. contains c.args.row.now.members u || b)
    (reached_rest c.args.doc.now c.args.text.now u (has_number c.args.index.now.directory.addresses k)
    (address_in_bucket c.args.doc.now c.args.index.now.directory c.requires.index.directory c.args.text.now k c.bucket-bucket.ensures)
    (λ v config. c.in_default.ensures.none v
    (config_in_bucket c.args.doc.now c.args.index.now.directory c.requires.index.directory c.args.text.now k c.bucket-bucket.ensures v config) config))
