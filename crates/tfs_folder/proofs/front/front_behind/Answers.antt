-- The first bytes give the relation of the journal to each of the texts.
use Rattle.std.proofs.Common.{sym, ◌∙◌, subst, inl}
use Rattle.tfs_folder.specs.Start.{CompactsTo}
use Rattle.tfs_folder.specs.Link.{IsFit}
use Rattle.tfs_folder.proofs.BesideLemmas.{starts_with, front_read}
use Rattle.tfs_folder.proofs.front.front_behind.Goals as goal

pub returns-in-Whole-clause-link : goal.returns-in-Whole-clause-link
returns-in-Whole-clause-link g c = λ before bytes opens told.
    let text = c.as_slice.result.now in
    let is = front_read (g.S.Source.remaining c.args.source.now) (g.S.Source.remaining c.front_of.new.source) bytes text c.as_slice-2.result.now
    c.in_ok-bytes.bytes.items c.len.result c.in_ok-bytes.ensures.front told c.as_slice-2.ensures.value (c.len.ensures ∙ sym c.as_slice.ensures.len)
    c.in_ok-bytes.ensures.all in (
      text,
      inl (starts_with before text c.args.earlier.now.journal opens c.requires c.in_ok-text.ensures.kept
          (c.as_slice.ensures.value ∙ c.in_ok-text.ensures.text)),
      subst (IsFit text bytes) c.in-Whole.is (c.fit_of-start.ensures.fit bytes is),
    )

pub returns-clause-link : goal.returns-clause-link
returns-clause-link g c = λ before bytes opens told.
    let text = c.as_slice.result.now in
    let compact = c.as_slice-3.result.now in
    let known = g.S.Source.remaining c.args.source.now in
    let is = front_read known (g.S.Source.remaining c.front_of.new.source) bytes text c.as_slice-2.result.now
    c.in_ok-bytes.bytes.items c.len.result c.in_ok-bytes.ensures.front told c.as_slice-2.ensures.value (c.len.ensures ∙ sym c.as_slice.ensures.len)
    c.in_ok-bytes.ensures.all in
    let more = front_read known (g.S.Source.remaining c.read_up_to.new.source) bytes compact c.as_slice-4.result.now
    c.read_up_to.new.front.items c.len-2.result (c.in_ok-read_up_to.ensures.more known c.in_ok-bytes.ensures.front) told c.as_slice-4.ensures.value
    (c.len-2.ensures ∙ sym c.as_slice-3.ensures.len) c.in_ok-read_up_to.ensures.all in
    c.link_by.ensures before bytes text compact
    (starts_with before text c.args.earlier.now.journal opens c.requires c.in_ok-text.ensures.kept
    (c.as_slice.ensures.value ∙ c.in_ok-text.ensures.text))
    (subst (CompactsTo before) (sym c.as_slice-3.ensures.value) (c.in_ok-text-2.ensures.text before opens))
    (c.fit_of-start.ensures.fit bytes is) (c.fit_of.ensures.fit bytes more)
