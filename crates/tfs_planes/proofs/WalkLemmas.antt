-- Lemmas about walks whose inner numbers are below a bound, which the closure raises from 0 to the
-- size.
use Rattle.std.proofs.Common.{◌↔◌, ℕ, ◌+◌, ◌<◌, ◌≤◌, suc, zero, ◌⊎◌, inl, inr, List, [], ◌∷◌, ◌++◌, length, get_or, sym, subst, add-one, arith}
use Rattle.std.proofs.lemmas.Bool.{cases_eq, cases_lt}
use Rattle.std.proofs.lemmas.List.{length-append}
use Rattle.tfs_planes.specs.Rounds.{Chain, EachBelow, JoinsBelow}
use Rattle.tfs_planes.specs.Walk.{Joins}

-- Numbers below a bound are below a higher bound.
each_below_more : (k h : ℕ) (ms : List ℕ) → k ≤ h → EachBelow k ms → EachBelow h ms
each_below_more k h [] le below = tt
each_below_more k h (m ∷ ms) le below = (omega (arith, below.0), each_below_more k h ms le below.1)

-- A chain to m and a chain from m make one chain.
chain_append : (R : ℕ → ℕ → Type 0) (i m j : ℕ) (ms ns : List ℕ) → Chain R i ms m → Chain R m ns j → Chain R i (ms ++ m ∷ ns) j
chain_append R i m j [] ns first second = (first, second)
chain_append R i m j (x ∷ ms) ns first second = (first.0, chain_append R x m j ms ns first.1 second)

-- The numbers of two lists and the number between them are below the bound.
each_below_append : (k m : ℕ) (ms ns : List ℕ) → EachBelow k ms → m < k → EachBelow k ns → EachBelow k (ms ++ m ∷ ns)
each_below_append k m [] ns first here second = (here, second)
each_below_append k m (x ∷ ms) ns first here second = (first.0, each_below_append k m ms ns first.1 here second)

-- A walk with inner numbers below 0 is a single pair.
pub joins_below_zero : (R : ℕ → ℕ → Type 0) (i j : ℕ) → JoinsBelow R 0 i j → R i j
joins_below_zero R i j ([], chain, below) = chain
joins_below_zero R i j (m ∷ ms, chain, below) = absurd (omega (arith, below.0))

-- A single pair is a walk below every bound.
pub joins_below_one_pair : (R : ℕ → ℕ → Type 0) (k i j : ℕ) → R i j → JoinsBelow R k i j
joins_below_one_pair R k i j pair = ([], pair, tt)

-- A walk below a bound is a walk below a higher bound.
pub joins_below_more : (R : ℕ → ℕ → Type 0) (k h i j : ℕ) → k ≤ h → JoinsBelow R k i j → JoinsBelow R h i j
joins_below_more R k h i j le walk = (walk.0, walk.1, each_below_more k h walk.0 le walk.2)

-- A walk to m and a walk from m make one walk if m is below the bound.
pub joins_below_through : (R : ℕ → ℕ → Type 0) (k m i j : ℕ) → m < k → JoinsBelow R k i m → JoinsBelow R k m j → JoinsBelow R k i j
joins_below_through R k m i j here first second =
    (first.0 ++ m ∷ second.0, chain_append R i m j first.0 second.0 first.1 second.1, each_below_append k m first.0 second.0 first.2 here second.2)

-- A walk below k + 1 either avoids k or passes through it: up to its first k, and from its last k.
pub joins_below_cases : (R : ℕ → ℕ → Type 0) (k i j : ℕ) (ms : List ℕ) → Chain R i ms j → EachBelow (k + 1) ms →
    JoinsBelow R k i j ⊎ (JoinsBelow R k i k × JoinsBelow R k k j)
joins_below_cases R k i j [] chain below = inl ([], chain, tt)
joins_below_cases R k i j (m ∷ ms) chain below =
    elim (cases_eq m k) [
      | inl same ↦ elim (joins_below_cases R k m j ms chain.1 below.1) [
        | inl avoids ↦ inr (([], subst (R i) same chain.0, tt), subst (λ x. JoinsBelow R k x j) same avoids)
        | inr passes ↦ inr (([], subst (R i) same chain.0, tt), passes.1)
      ]
      | inr other ↦ elim (joins_below_cases R k m j ms chain.1 below.1) [
        | inl avoids ↦ inl (m ∷ avoids.0, (chain.0, avoids.1), (omega (arith, below.0), avoids.2))
        | inr passes ↦ inr ((m ∷ passes.0.0, (chain.0, passes.0.1), (omega (arith, below.0), passes.0.2)), passes.1)
      ]
    ]

-- A walk below `high` either stays below `low` or comes to a first number from `low` on.
pub joins_below_first : (R : ℕ → ℕ → Type 0) (low high i j : ℕ) (ms : List ℕ) → Chain R i ms j → EachBelow high ms →
    JoinsBelow R low i j ⊎ ((m : ℕ) × (low ≤ m) × (m < high) × JoinsBelow R low i m × JoinsBelow R high m j)
joins_below_first R low high i j [] chain below = inl ([], chain, tt)
joins_below_first R low high i j (m ∷ ms) chain below =
    elim (cases_lt m low) [
      | inl under ↦ elim (joins_below_first R low high m j ms chain.1 below.1) [
        | inl avoids ↦ inl (m ∷ avoids.0, (chain.0, avoids.1), (under, avoids.2))
        | inr comes ↦ inr (comes.0, comes.1, comes.2, (m ∷ comes.3.0, (chain.0, comes.3.1), (under, comes.3.2)), comes.4)
      ]
      | inr over ↦ inr (m, over, below.0, ([], chain.0, tt), (ms, chain.1, below.1))
    ]

-- Each step of a chain is a pair of the relation.
steps_of_chain : (R : ℕ → ℕ → Type 0) (i j : ℕ) (ms : List ℕ) → Chain R i ms j → (k : ℕ) → suc k < length (i ∷ ms ++ j ∷ []) →
    R (get_or (i ∷ ms ++ j ∷ []) k 0) (get_or (i ∷ ms ++ j ∷ []) (suc k) 0)
steps_of_chain R i j [] chain zero h = chain
steps_of_chain R i j [] chain (suc k) h = absurd (omega arith)
steps_of_chain R i j (m ∷ ms) chain zero h = chain.0
steps_of_chain R i j (m ∷ ms) chain (suc k) h = steps_of_chain R m j ms chain.1 k (omega arith)

-- Numbers in which each is related to the next make a chain.
chain_of_steps : (R : ℕ → ℕ → Type 0) (i j : ℕ) (ms : List ℕ) → ((k : ℕ) → suc k < length (i ∷ ms ++ j ∷ []) →
    R (get_or (i ∷ ms ++ j ∷ []) k 0) (get_or (i ∷ ms ++ j ∷ []) (suc k) 0)) → Chain R i ms j
chain_of_steps R i j [] steps = steps 0 (omega arith)
chain_of_steps R i j (m ∷ ms) steps = (steps 0 (omega (arith, length-append ms (j ∷ []))), chain_of_steps R m j ms (λ k h. steps (suc k) (omega arith)))

-- A chain joins its ends.
pub joins_of_chain : (R : ℕ → ℕ → Type 0) (i j : ℕ) (ms : List ℕ) → Chain R i ms j → Joins R i j
joins_of_chain R i j ms chain =
    let whole : List ℕ = i ∷ ms ++ j ∷ [] in (
      ms,
      (
        omega (arith, length-append ms (j ∷ [])),
        λ p h. let steps = steps_of_chain R i j ms chain p (omega arith) in subst (λ q. R (get_or whole p 0) (get_or whole q 0)) (sym (add-one p)) steps,
      ),
    )

-- Joined numbers are the ends of a chain.
pub chain_of_joins : (R : ℕ → ℕ → Type 0) (i j : ℕ) → Joins R i j → (ms : List ℕ) × Chain R i ms j
chain_of_joins R i j walk =
    let whole : List ℕ = i ∷ walk.0 ++ j ∷ [] in
    (walk.0, chain_of_steps R i j walk.0 (λ p h. subst (λ q. R (get_or whole p 0) (get_or whole q 0)) (add-one p) (walk.1.1 p (omega arith))))

-- A walk below a bound is a walk.
pub joins_from_below : (R : ℕ → ℕ → Type 0) (k i j : ℕ) → JoinsBelow R k i j → Joins R i j
joins_from_below R k i j walk = joins_of_chain R i j walk.0 walk.1

-- If related numbers are below n, the inner numbers of a chain are below n.
each_below_of_chain : (R : ℕ → ℕ → Type 0) (n i j : ℕ) (ms : List ℕ) → ((a b : ℕ) → R a b → a < n) → Chain R i ms j → EachBelow n ms
each_below_of_chain R n i j [] within chain = tt
each_below_of_chain R n i j (m ∷ []) within chain = (within m j chain.1, tt)
each_below_of_chain R n i j (m ∷ x ∷ ms) within chain = (within m x chain.1.0, each_below_of_chain R n m j (x ∷ ms) within chain.1)

-- If related numbers are below n, each walk has its inner numbers below n.
pub joins_below_from_joins : (R : ℕ → ℕ → Type 0) (n i j : ℕ) → ((a b : ℕ) → R a b → a < n) → Joins R i j → JoinsBelow R n i j
joins_below_from_joins R n i j within walk =
    let chain = chain_of_joins R i j walk in
    (chain.0, chain.1, each_below_of_chain R n i j chain.0 within chain.1)

-- Some number is related to the end of a walk.
pub end_of_chain : (R : ℕ → ℕ → Type 0) (i j : ℕ) (ms : List ℕ) → Chain R i ms j → (m : ℕ) × R m j
end_of_chain R i j [] chain = (i, chain)
end_of_chain R i j (m ∷ ms) chain = end_of_chain R m j ms chain.1

-- The start of a walk is related to some number.
pub start_of_joins : (R : ℕ → ℕ → Type 0) (i j : ℕ) → Joins R i j → (m : ℕ) × R i m
start_of_joins R i j walk = let chain = chain_of_joins R i j walk in start_of_chain R i j chain.0 chain.1
  where
    start_of_chain : (R : ℕ → ℕ → Type 0) (i j : ℕ) (ms : List ℕ) → Chain R i ms j → (m : ℕ) × R i m
    start_of_chain R i j [] chain = (j, chain)
    start_of_chain R i j (m ∷ ms) chain = (m, chain.0)

-- A pair joins its numbers.
pub joins_pair : (R : ℕ → ℕ → Type 0) (i j : ℕ) → R i j → Joins R i j
joins_pair R i j pair = joins_of_chain R i j [] pair

-- A walk can be extended by a pair.
pub joins_on : (R : ℕ → ℕ → Type 0) (i m j : ℕ) → Joins R i m → R m j → Joins R i j
joins_on R i m j walk pair =
    let chain = chain_of_joins R i m walk in
    joins_of_chain R i j (chain.0 ++ m ∷ []) (chain_append R i m j chain.0 [] chain.1 pair)

-- Two walks that meet make one walk.
pub joins_trans : (R : ℕ → ℕ → Type 0) (i m j : ℕ) → Joins R i m → Joins R m j → Joins R i j
joins_trans R i m j first second =
    let front = chain_of_joins R i m first in
    let back = chain_of_joins R m j second in
    joins_of_chain R i j (front.0 ++ m ∷ back.0) (chain_append R i m j front.0 back.0 front.1 back.1)

-- A chain of walks is a walk.
joins_of_walks : (R S : ℕ → ℕ → Type 0) → ((a b : ℕ) → S a b → Joins R a b) → (i j : ℕ) (ms : List ℕ) → Chain S i ms j → Joins R i j
joins_of_walks R S within i j [] chain = within i j chain
joins_of_walks R S within i j (m ∷ ms) chain = joins_trans R i m j (within i m chain.0) (joins_of_walks R S within m j ms chain.1)

-- Walks over a relation are walks over every larger relation.
pub joins_map : (R S : ℕ → ℕ → Type 0) → ((a b : ℕ) → R a b → S a b) → (i j : ℕ) → Joins R i j → Joins S i j
joins_map R S f i j walk = (walk.0, (walk.1.0, λ k h. f _ _ (walk.1.1 k h)))

-- A relation that lies between another and its closure has the closure of the other.
pub joins_between : (R S : ℕ → ℕ → Type 0) → ((a b : ℕ) → R a b → S a b) → ((a b : ℕ) → S a b → Joins R a b) → (i j : ℕ) → Joins S i j ↔ Joins R i j
joins_between R S grown within i j =
    (λ walk. let chain = chain_of_joins S i j walk in joins_of_walks R S within i j chain.0 chain.1, λ walk. joins_map R S grown i j walk)

-- A property of the start that each pair passes on holds for every number that a walk leads to.
pub end_by_steps : (R : ℕ → ℕ → Type 0) (P Q : ℕ → Type 0) → ((a b : ℕ) → P a → R a b → Q b) → ((b : ℕ) → Q b → P b) → (i j : ℕ) (ms : List ℕ) → P i →
    Chain R i ms j → Q j
end_by_steps R P Q step goes_on i j [] start chain = step i j start chain
end_by_steps R P Q step goes_on i j (m ∷ ms) start chain = end_by_steps R P Q step goes_on m j ms (goes_on m (step i m start chain.0)) chain.1
