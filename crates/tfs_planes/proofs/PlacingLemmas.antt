-- Lemmas about rows that are placed one after another.
use Rattle.std.proofs.Common.{◌≡◌, ◌≢◌, ℕ, ◌*◌, Bool, ◌||◌, eqb, IsTrue, List, [], ◌∷◌}
use Rattle.std.proofs.Common.{length, replicate, bit_or, ap, sym, subst, ◌∙◌, inl, inr, arith}
use Rattle.std.proofs.lemmas.Bool.{cases_eq, or_cases, or_left, or_right, false≢true, ne_eqb}
use Rattle.std.specs.Simd.Lanes.{zip2}
use Rattle.tfs_planes.specs.Plane.{row_words, cell_at}
use Rattle.tfs_planes.specs.Rounds.{Chain}
use Rattle.tfs_planes.specs.Row.{bit_at_word}
use Rattle.tfs_planes.specs.Targets.{IsTarget, ArePlacedClosed, Gathers, IsPlacing, IsBetween, IsClosure}
use Rattle.tfs_planes.specs.Walk.{Joins}
use Rattle.tfs_planes.proofs.BitLemmas.{bit_at_word-union, bit_at_word-zeros, set_within}
use Rattle.tfs_planes.proofs.WalkLemmas.{chain_of_joins, end_by_steps, joins_pair, joins_trans, joins_between}

-- The placed rows are closed.
pub placed_closed : (s : ℕ) (words placed : List ℕ) (related : ℕ → ℕ → Bool) → IsPlacing s words placed related → ArePlacedClosed s words placed
placed_closed s words placed related placing t a b is to on =
    placing.closed t b is (joins_trans (λ x y. IsTrue (related x y)) t a b (placing.sound t a to) (placing.sound a b on))

-- A row that is united with the rows of its targets is placed.
module _ (s : ℕ) (words placed came now also : List ℕ) (row : ℕ) (related : ℕ → ℕ → Bool) (placing : IsPlacing s words placed related)
    (before : List ℕ) (gathers : Gathers s words (row_words s words row) row before came 0 (64 * s))
    (long : length (row_words s words row) ≡ s) (wide : length came ≡ s)
    (here : row_words s now row ≡ zip2 bit_or (row_words s words row) came)
    (others : (i : ℕ) → i ≢ row → row_words s now i ≡ row_words s words i)
    (bits : (j : ℕ) → bit_at_word also j ≡ (eqb j row || bit_at_word placed j)) where
  -- The relation of the words before the step.
  abbrev R : ℕ → ℕ → Type 0
  R = λ a b. IsTrue (related a b)

  -- The set bits of the row are its own and the collected ones.
  cell_here : (j : ℕ) → cell_at s now row j ≡ (cell_at s words row j || bit_at_word came j)
  unfolding cell_at
  cell_here j = ap (λ r. bit_at_word r j) here ∙ bit_at_word-union (row_words s words row) came j (long ∙ sym wide)

  -- Every other row keeps its bits.
  cell_there : (i j : ℕ) → i ≢ row → cell_at s now i j ≡ cell_at s words i j
  unfolding cell_at
  cell_there i j other = ap (λ r. bit_at_word r j) (others i other)

  -- The end of a walk from a target is one of the collected bits.
  came_along : (t j : ℕ) (ms : List ℕ) → IsTarget (row_words s words row) row t → Chain R t ms j → IsTrue (bit_at_word came j)
  came_along t j [] target chain = let below = set_within (row_words s words row) t target.0 in
      gathers.covers t j (omega arith) (omega arith) target (placing.grown t j chain)
  came_along t j (m ∷ ms) target chain =
      let below = set_within (row_words s words row) t target.0 in
      let P : ℕ → Type 0 = λ p. IsTrue (bit_at_word came p) in
      let start = gathers.covers t m (omega arith) (omega arith) target (placing.grown t m chain.0) in
      end_by_steps R P P (λ a b is pair. gathers.come.closed a b is (placing.grown a b pair)) (λ b is. is) m j ms start chain.1

  -- The end of a walk from the row is one of the row's bits.
  closed_along : (j : ℕ) (ms : List ℕ) → Chain R row ms j → IsTrue (cell_at s now row j)
  unfolding cell_at
  closed_along j [] chain = cell_here j ∙ or_left (cell_at s words row j) (bit_at_word came j) (placing.grown row j chain)
  closed_along j (m ∷ ms) chain = elim (cases_eq m row) [
    | inl same ↦ closed_along j ms (subst (λ p. Chain R p ms j) same chain.1)
    | inr other ↦ cell_here j ∙ or_right (cell_at s words row j) (bit_at_word came j) (came_along m j ms (placing.grown row m chain.0, other) chain.1)
  ]

  -- Each bit of the row is the end of a walk.
  sound_here : (j : ℕ) → IsTrue (cell_at s now row j) → Joins R row j
  unfolding cell_at
  sound_here j is = elim (or_cases (cell_at s words row j) (bit_at_word came j) (sym (cell_here j) ∙ is)) [
    | inl own ↦ placing.sound row j own
    | inr brought ↦ elim (gathers.come.sound j brought) [
      | inl own ↦ placing.sound row j own
      | inr through ↦ joins_trans R row through.0 j (placing.sound row through.0 through.1.0) (placing.sound through.0 j through.2)
    ]
  ]

  pub placing_more : IsPlacing s now also related
  placing_more = record {
    grown = λ i j pair. elim (cases_eq i row) [
      | inl same ↦
          subst (λ p. IsTrue (cell_at s now p j)) (sym same)
          (cell_here j ∙ or_left (cell_at s words row j) (bit_at_word came j) (subst (λ p. IsTrue (cell_at s words p j)) same (placing.grown i j pair)))
      | inr other ↦ cell_there i j other ∙ placing.grown i j pair
    ];
    sound = λ i j is. elim (cases_eq i row) [
      | inl same ↦ subst (λ p. Joins R p j) (sym same) (sound_here j (subst (λ p. IsTrue (cell_at s now p j)) same is))
      | inr other ↦ placing.sound i j (sym (cell_there i j other) ∙ is)
    ];
    closed = λ i j is walk. elim (cases_eq i row) [
      | inl same ↦ subst (λ p. IsTrue (cell_at s now p j)) (sym same) (let chain = chain_of_joins R row j (subst (λ p. Joins R p j) same walk) in
          closed_along j chain.0 chain.1)
      | inr other ↦ cell_there i j other ∙ placing.closed i j (sym (ap (λ b. b || bit_at_word placed i) (ne_eqb i row other)) ∙ sym (bits i) ∙ is) walk
    ];
  }

-- At the start no row is placed.
pub placing_none : (s n : ℕ) (words : List ℕ) → IsPlacing s words (replicate n 0) (cell_at s words)
placing_none s n words = record {
  grown = λ i j is. is;
  sound = λ i j is. joins_pair (λ a b. IsTrue (cell_at s words a b)) i j is;
  closed = λ i j is walk. absurd (false≢true (sym (bit_at_word-zeros n i) ∙ is));
}

-- If rows lie between other rows and their closure, both have the same closure.
pub closure_between : (s : ℕ) (words mid now : List ℕ) → IsBetween s words mid → IsClosure s mid now → IsClosure s words now
closure_between s words mid now between closed i j =
    let same = joins_between (λ a b. IsTrue (cell_at s words a b)) (λ a b. IsTrue (cell_at s mid a b)) between.grown between.sound i j in
    (λ is. same.0 ((closed i j).0 is), λ walk. (closed i j).1 (same.1 walk))
