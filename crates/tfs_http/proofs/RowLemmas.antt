-- Lemmas about searches in rows that begin with texts.
use Rattle.std.proofs.Common.{◌≡◌, ◌≢◌, ◌⊎◌, ◌<◌, ◌-◌, ◌==◌, ℕ, List, [], ◌∷◌, ◌++◌, length, Bool, true}
use Rattle.std.proofs.Common.{false, refl, sym, ◌∙◌, ap, inl, inr, arith, append-nil}
use Rattle.std.proofs.lemmas.Bool.Decides.{nat_tests}
use Rattle.matchit.specs.Rows.{Rows, prepend, param_token, catch_all_token}
use Rattle.matchit.specs.Seek.{seek, first, param_step, own, or_else, step}
use Rattle.matchit.specs.Level.{IsText}
use Rattle.matchit.proofs.SeekLemmas.{own-append, step-append, step-hit, step-miss, seek-empty, seek-lit, or_else-none}
use Rattle.matchit.proofs.SeekLemmas.{param_step-empty}

-- The texts differ at a byte.
abbrev pub Differ : List ℕ → List ℕ → Type 0
Differ [] b = ⊥
Differ (x ∷ a) [] = ⊥
Differ (x ∷ a) (y ∷ b) = (x ≢ y) ⊎ ((x ≡ y) × Differ a b)

-- A byte isn't a token of a pattern.
no_token : (x : ℕ) → x < 256 → (x ≢ param_token) × (x ≢ catch_all_token)
no_token x small = (λ e. omega arith, λ e. omega arith)

-- A search in rows that begin with bytes consumes one byte.
one_byte : (x y : ℕ) (w v : List ℕ) (r t : Rows) (b : ℕ) (p : List ℕ) → x < 256 → y < 256
    → seek 0 (prepend (x ∷ w) r ++ prepend (y ∷ v) t) (b ∷ p) ≡ seek 0 (step b (prepend (x ∷ w) r) ++ step b (prepend (y ∷ v) t)) p
unfolding seek
one_byte x y w v r t b p low less =
    let n = no_token x low in
    let m = no_token y less in
    simp (
      step-append,
      step-miss param_token x w r n.0,
      step-miss catch_all_token x w r n.1,
      step-miss param_token y v t m.0,
      step-miss catch_all_token y v t m.1,
      param_step-empty (b ∷ p),
      seek-empty ((param_step {K = ℕ} [] (b ∷ p)).0 - 1) p,
      or_else-none,
    )

-- For rows that begin with two different texts, the search finds a row of the first group, or else
-- of the second.
pub fork : (w v : List ℕ) (r t : Rows) (path : List ℕ) → IsText w → IsText v → Differ w v
    → first (prepend w r ++ prepend v t) path ≡ or_else (first (prepend w r) path) (first (prepend v t) path)
unfolding seek
fork [] v r t path hw hv d = absurd d
fork (x ∷ w) [] r t path hw hv d = absurd d
fork (x ∷ w) (y ∷ v) r t [] hw hv d = own-append (prepend (x ∷ w) r) (prepend (y ∷ v) t)
fork (x ∷ w) (y ∷ v) r t (b ∷ p) hw hv d =
    one_byte x y w v r t b p hw.0 hv.0
    ∙ by (x == b) refl (y == b) refl d (λ h. fork w v r t p hw.1 hv.1 h)
    ∙ sym (ap (λ o. or_else o (first (prepend (y ∷ v) t) (b ∷ p))) (seek-lit x w r b p hw.0)
    ∙ ap (or_else (seek 0 (step b (prepend (x ∷ w) r)) p)) (seek-lit y v t b p hv.0))
  where
    by : (i : Bool) → (x == b) ≡ i → (j : Bool) → (y == b) ≡ j → Differ (x ∷ w) (y ∷ v)
        → (Differ w v → first (prepend w r ++ prepend v t) p ≡ or_else (first (prepend w r) p) (first (prepend v t) p))
        → seek 0 (step b (prepend (x ∷ w) r) ++ step b (prepend (y ∷ v) t)) p
        ≡ or_else (seek 0 (step b (prepend (x ∷ w) r)) p) (seek 0 (step b (prepend (y ∷ v) t)) p)
    by true e true f (inl other) more = absurd (other (grind (arith, nat_tests)))
    by true e true f (inr d) more =
        let xb : x ≡ b = grind (arith, nat_tests) in
        let yb : y ≡ b = grind (arith, nat_tests) in
        rw (xb, yb, step-hit b w r, step-hit b v t) (more d.1)
    by true e false f d more =
        let xb : x ≡ b = grind (arith, nat_tests) in
        let yb : y ≢ b = λ q. grind (arith, nat_tests) in
        rw (xb, step-hit b w r, step-miss b y v t yb, append-nil (prepend w r), seek-empty 0 p) (sym (or_else-none (seek 0 (prepend w r) p)))
    by false e j f d more =
        let xb : x ≢ b = λ q. grind (arith, nat_tests) in
        rw (step-miss b x w r xb, seek-empty 0 p) refl

-- A search that skips the whole rest ends at the current rows.
pub skips_all : (r : Rows) (p : List ℕ) → seek (length p) r p ≡ own r
unfolding seek
skips_all r [] = refl
skips_all r (b ∷ p) = skips_all r p
