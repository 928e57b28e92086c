-- The numbers of the rows are a numbering of the document.
use Rattle.tfs_state.proofs.NumberingLemmas.{kept_fits, kept_numbers}
use Rattle.tfs_state.proofs.doc.Doc.numbers.Goals as goal

pub new-requires : goal.new-requires
new-requires c = rw (c.as_slice.ensures.value, c.as_slice-2.ensures.value, c.as_slice-3.ensures.value)
    (kept_fits c.self.inside.bytes.items c.self.inside.content c.self.invariant c.args.self.now c.self.view_is)

pub returns : goal.returns
returns c = record {
  value = rw (c.new.ensures, c.as_slice.ensures.value, c.as_slice-2.ensures.value, c.as_slice-3.ensures.value)
      (kept_numbers c.self.inside.bytes.items c.self.inside.content c.self.invariant c.args.self.now c.self.view_is);
}
