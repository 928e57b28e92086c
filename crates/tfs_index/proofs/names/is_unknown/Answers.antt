-- A text names no instance if it names none in its two buckets.
use Rattle.std.proofs.Common.{◌≡◌, ◌∙◌, length, subst, sym, arith}
use Rattle.tfs_index.specs.Index.{HasIndex}
use Rattle.tfs_index.proofs.DirectoryLemmas.{not_found}
use Rattle.tfs_index.proofs.ImpactLemmas.{unknown, found_known}
use Rattle.tfs_index.proofs.names.is_unknown.Goals as goal

-- A document without an index has no instances, so every text is unknown.
pub returns-in_default : goal.returns-in_default
returns-in_default c =
    let none : length c.args.doc.now.instances ≡ 0 = subst (HasIndex c.args.doc.now) c.in_default.is c.requires in
    unknown c.args.doc.now c.args.text.now (λ v h. absurd (omega (arith, h, none)))

pub returns-then-is_some : goal.returns-then-is_some
returns-then-is_some c =
    found_known c.args.doc.now c.args.text.now c.find.result (sym c.is_some.ensures ∙ c.if-is_some.true) c.find.ensures.within c.find.ensures.named

pub returns : goal.returns
returns c =
    let index = subst (HasIndex c.args.doc.now) c.in-Some.is c.requires in
    not_found c.args.doc.now c.in-Some.index.directory index.directory c.args.text.now c.bucket-bucket.result c.bucket-bucket.ensures
    c.find.result c.find-2.result c.is_none.result (sym c.is_some.ensures ∙ c.if-is_some.false) c.is_none.ensures
    c.find.ensures.none c.find-2.ensures.within c.find-2.ensures.named c.find-2.ensures.none
