-- Lemmas about reads and writes after earlier ones that moved no bytes.
use Rattle.std.proofs.Common.{ℕ, List, Option, Some, None, Result, Ok, Err, refl, ◌∙◌, subst}
use Rattle.std.specs.Io.KnownBytes.{Keeps, ReadConsumes, WriteAppends}

-- `Keeps` is reflexive.
pub keeps_itself : (a : Option (List ℕ)) → Keeps a a
keeps_itself None = tt
keeps_itself (Some xs) = refl

-- `Keeps` is transitive.
pub keeps_then : (a b c : Option (List ℕ)) → Keeps a b → Keeps b c → Keeps a c
keeps_then None b c p q = tt
keeps_then (Some xs) None c p q = absurd p
keeps_then (Some xs) (Some ys) None p q = absurd q
keeps_then (Some xs) (Some ys) (Some zs) p q = q ∙ p

-- A read after calls that consumed nothing consumes the same bytes as one before them.
pub kept_read : {E : Type 0} (a b c : Option (List ℕ)) (r : Result ℕ E) (buf : List ℕ) → Keeps a b → ReadConsumes b c r buf → ReadConsumes a c r buf
kept_read None b c (Ok n) buf p q = (tt, q.1)
kept_read None b c (Err e) buf p q = tt
kept_read (Some xs) None c r buf p q = absurd p
kept_read (Some xs) (Some ys) c r buf p q = subst (λ l. ReadConsumes (Some l) c r buf) p q

-- A write after calls that wrote nothing appends the same bytes as one before them.
pub kept_write : {E : Type 0} (a b c : Option (List ℕ)) (r : Result ℕ E) (text : List ℕ) → Keeps a b → WriteAppends b c r text → WriteAppends a c r text
kept_write None b c (Ok n) text p q = tt
kept_write None b c (Err e) text p q = tt
kept_write (Some xs) None c r text p q = absurd p
kept_write (Some xs) (Some ys) c r text p q = subst (λ l. WriteAppends (Some l) c r text) p q
