-- The texts so far were lent.
use Rattle.std.proofs.Common.{◌≡◌, ℕ, List, Bor, map, take}
use Rattle.tfs_calls.proofs.impact.lent.Given as goal

abbrev pub invariant-loop-text : goal.invariant-loop-text
invariant-loop-text l = map (λ (t : Bor (List ℕ)). t.now) l.lent.items ≡ take l.text-index l.texts
