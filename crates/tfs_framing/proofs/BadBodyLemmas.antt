-- Lemmas about bytes that can't begin with the body that their head states.
use Rattle.std.proofs.Common.{◌≡◌, ℕ, List, ◌++◌}
use Rattle.tfs_framing.specs.Body.{SpellsBody, HasBadBody}
use Rattle.tfs_framing.specs.declared.lines.BodyLength.{BodyLength}
use Rattle.tfs_framing.specs.declared.lines.BodyLength.TheVariants.{Absent, Sized, Chunked}
use Rattle.tfs_framing.specs.declared.chunks.Flaw.{Flaw}
use Rattle.tfs_framing.proofs.ChunksLemmas.{body_no_flaw, flaw_once}
use Rattle.tfs_framing.proofs.FlawLemmas.{flaw_more}

-- Bytes that begin with a body have no flaw.
pub spelled_not_bad : (size : BodyLength) (rest coded body after : List ℕ) (flaw : Flaw) → SpellsBody size coded body → rest ≡ coded ++ after
    → ¬ (HasBadBody size rest flaw)
spelled_not_bad Absent rest coded body after flaw s e bad = bad
spelled_not_bad (Sized n) rest coded body after flaw s e bad = bad
spelled_not_bad Chunked rest coded body after flaw s e bad = body_no_flaw rest coded body after flaw s e bad

-- A body has only one flaw.
pub bad_once : (size : BodyLength) (rest : List ℕ) (f g : Flaw) → HasBadBody size rest f → HasBadBody size rest g → f ≡ g
bad_once Absent rest f g p q = absurd p
bad_once (Sized n) rest f g p q = absurd p
bad_once Chunked rest f g p q = flaw_once rest f g p q

-- A flaw in a body remains when more bytes follow.
pub bad_more : (size : BodyLength) (rest more : List ℕ) (flaw : Flaw) → HasBadBody size rest flaw → HasBadBody size (rest ++ more) flaw
bad_more Absent rest more flaw bad = bad
bad_more (Sized n) rest more flaw bad = bad
bad_more Chunked rest more flaw bad = flaw_more rest more flaw bad
