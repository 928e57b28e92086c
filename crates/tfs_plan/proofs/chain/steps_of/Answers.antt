-- The steps begin with none, and each part leaves them closed.
use Rattle.std.proofs.Common.{◌∙◌, ap, subst, sym}
use Rattle.std.specs.Prelude.{false, replicate}
use Rattle.std.specs.Prelude.{List, length}
use Rattle.tfs_plan.specs.declared.chain.Step.{Step}
use Rattle.tfs_plan.specs.Search.{IsSearch}
use Rattle.tfs_plan.proofs.SearchLemmas.{search_begins, all_started}
use Rattle.tfs_plan.proofs.chain.steps_of.Goals as goal

pub spread-requires : goal.spread-requires
spread-requires c =
    c.in_ok-start.ensures.grows.search 0 (search_begins c.args.doc.now c.args.starts.now _ c.new.ensures.items
    (c.in_ok-no_marks.ensures ∙ ap (λ n. replicate n false) c.len.ensures.value))

pub spread-requires-2 : goal.spread-requires-2
spread-requires-2 c =
    subst (λ n. IsSearch c.args.doc.now c.args.starts.now n c.start-2.new.found) (sym (ap (λ (xs : List Step). length xs) c.as_slice-later.ensures.value))
    (c.in_ok-start-2.ensures.grows.search _ c.in_ok-spread.ensures.whole)

pub returns : goal.returns
returns c =
    let begun = search_begins c.args.doc.now c.args.starts.now _ c.new.ensures.items
    (c.in_ok-no_marks.ensures ∙ ap (λ n. replicate n false) c.len.ensures.value) in
    let whole = c.in_ok-spread-2.ensures.whole in
    record {
      chains = whole.chains;
      started = all_started c.args.doc.now c.args.starts.now c.start.new.found.steps.items c.spread-2.new.found.steps.items c.args.count
          (λ k s e. c.in_ok-spread-2.ensures.longer k s (c.in_ok-start-2.ensures.grows.longer k s (c.in_ok-spread.ensures.longer k s e)))
          (c.in_ok-start.ensures.started 0 begun)
          (λ k from low v at inside. let has = c.in_ok-start-2.ensures.started _ c.in_ok-spread.ensures.whole k from low v at inside in
          (has.0, has.1, c.in_ok-spread-2.ensures.longer has.0 has.1 has.2, has.3));
      closed = whole.closed;
    }
