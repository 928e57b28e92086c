-- A numeral is UTF-8; if it doesn't parse as a 64-bit number, its value is too large.
use Rattle.std.proofs.Common.{sym, ◌∙◌}
use Rattle.tfs_framing.proofs.LengthLemmas.{numeral_from_test, length_beyond}
use Rattle.tfs_framing.proofs.lines.length_of_text.Goals as goal

pub returns-in_default : goal.returns-in_default
returns-in_default c = absurd (c.in_default.ensures.cases.0 (numeral_from_test _ (sym c.is_numeral.ensures ∙ c.if-not-is_numeral.false)).1)

pub returns-in_default-parse : goal.returns-in_default-parse
returns-in_default-parse c =
    length_beyond _ _ c.in-Ok.ensures.cases.0 (sym c.is_numeral.ensures ∙ c.if-not-is_numeral.false) c.in_default-parse.ensures.value.0
