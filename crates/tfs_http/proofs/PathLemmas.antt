-- Lemmas about the slashes of paths.
use Rattle.std.proofs.Common.{◌≡◌, ◌≢◌, ◌==◌, ◌-◌, ℕ, zero, suc, List, [], ◌∷◌, ◌++◌, length, drop, get_or, cond, nat_eq, Bool, true, false}
use Rattle.std.proofs.Common.{Contains, codes, refl, sym, ◌∙◌, ap, arith, length-append}
use Rattle.std.proofs.Math.Seq.{drop-append_seam}
use Rattle.std.proofs.lemmas.Bool.{eqb-true}
use Rattle.std.proofs.lemmas.Bool.Decides.{nat_tests}
use Rattle.std.specs.List.{ends_with}
use Rattle.matchit.specs.Seek.{has_slash, segment, same_text}
use Rattle.tfs_http.specs.Routing.{slash}

-- Texts with different bytes at one position differ.
pub differ_at : (a b : List ℕ) (k m n : ℕ) → get_or a k 0 ≡ m → get_or b k 0 ≡ n → m ≢ n → a ≢ b
differ_at a b k m n p q other e = other (sym p ∙ ap (λ (t : List ℕ). get_or t k 0) e ∙ q)

-- A text that passes `has_slash` contains a slash.
pub slash_found : (s : List ℕ) → has_slash s ≡ true → Contains s slash
slash_found [] e = cc
slash_found (b ∷ s) e = by (b == 47) refl e (slash_found s)
  where
    by : (v : Bool) → (b == 47) ≡ v → cond v true (has_slash s) ≡ true → (has_slash s ≡ true → Contains s slash) → Contains (b ∷ s) 47
    by true q h rest = (0, omega arith, eqb-true b 47 q)
    by false q h rest = let w = rest h in (suc w.0, omega (arith, w.1), w.2)

-- A text that contains a slash passes `has_slash`.
pub slash_tested : (s : List ℕ) → Contains s slash → has_slash s ≡ true
slash_tested [] w = absurd (omega (arith, w.1))
slash_tested (b ∷ s) (zero, within, is) = rw is refl
slash_tested (b ∷ s) (suc k, within, is) = by (b == 47) (slash_tested s (k, omega (arith, within), is))
  where
    by : (v : Bool) → has_slash s ≡ true → cond v true (has_slash s) ≡ true
    by true rest = refl
    by false rest = rest

-- In a text without a slash, neither the first byte nor the rest has one.
pub no_slash_first : (b : ℕ) (s : List ℕ) → has_slash (b ∷ s) ≡ false → ((b == 47) ≡ false) × (has_slash s ≡ false)
no_slash_first b s e = by (b == 47) refl e
  where
    by : (v : Bool) → (b == 47) ≡ v → cond v true (has_slash s) ≡ false → ((b == 47) ≡ false) × (has_slash s ≡ false)
    by true q h = cc
    by false q h = (q, h)

-- The text has no slash, or is split at its first slash.
pub data IsSplit (s : List ℕ) : Type 0 where
  no_slash : has_slash s ≡ false → IsSplit s
  at_slash : (part rest : List ℕ) → s ≡ part ++ 47 ∷ rest → has_slash part ≡ false → IsSplit s

-- Every text has no slash or can be split at its first.
pub split_at : (s : List ℕ) → IsSplit s
split_at [] = no_slash refl
split_at (b ∷ s) = by (b == 47) refl (split_at s)
  where
    longer : (b == 47) ≡ false → (part : List ℕ) → has_slash part ≡ false → has_slash (b ∷ part) ≡ false
    longer q part h = rw q h

    by : (v : Bool) → (b == 47) ≡ v → IsSplit s → IsSplit (b ∷ s)
    by true q more = at_slash [] s (ap (λ x. x ∷ s) (eqb-true b 47 q)) refl
    by false q (no_slash h) = no_slash (longer q s h)
    by false q (at_slash part rest is h) = at_slash (b ∷ part) rest (ap (λ t. b ∷ t) is) (longer q part h)

-- A text has only one split at its first slash.
pub split_once : (a b x y : List ℕ) → has_slash a ≡ false → has_slash b ≡ false → a ++ 47 ∷ x ≡ b ++ 47 ∷ y → (a ≡ b) × (x ≡ y)
split_once [] [] x y p q e = (refl, cc)
split_once [] (c ∷ b) x y p q e = let n = (no_slash_first c b q).0 in let is : 47 ≡ c = cc in grind (arith, nat_tests)
split_once (c ∷ a) [] x y p q e = let n = (no_slash_first c a p).0 in let is : c ≡ 47 = cc in grind (arith, nat_tests)
split_once (c ∷ a) (d ∷ b) x y p q e =
    let first : c ≡ d = cc in
    let rest : a ++ 47 ∷ x ≡ b ++ 47 ∷ y = cc in
    let more = split_once a b x y (no_slash_first c a p).1 (no_slash_first d b q).1 rest in
    (ap (λ t. t ∷ a) first ∙ ap (λ t. d ∷ t) more.0, more.1)

-- The first segment of a text ends with the first slash.
pub segment_at : (part rest : List ℕ) → has_slash part ≡ false → segment (part ++ 47 ∷ rest) ≡ part ++ 47 ∷ []
segment_at [] rest h = refl
segment_at (b ∷ part) rest h =
    let f = no_slash_first b part h in rw f.0 (ap (λ t. b ∷ t) (segment_at part rest f.1))

-- The first segment of a text without a slash is the whole text.
pub segment_all : (s : List ℕ) → has_slash s ≡ false → segment s ≡ s
segment_all [] h = refl
segment_all (b ∷ s) h = let f = no_slash_first b s h in rw f.0 (ap (λ t. b ∷ t) (segment_all s f.1))

-- A text without a slash doesn't end with one.
pub ends_otherwise : (s : List ℕ) → has_slash s ≡ false → ends_with nat_eq s (codes "/") ≡ false
ends_otherwise [] h = refl
ends_otherwise (b ∷ []) h = let f = no_slash_first b [] h in grind (arith, nat_tests)
ends_otherwise (b ∷ c ∷ s) h =
    let long : length (b ∷ c ∷ s) - 1 ≡ suc (length s) = omega arith in
    let less : length (c ∷ s) - 1 ≡ length s = omega arith in
    ap (λ n. same_text (codes "/") (drop n (b ∷ c ∷ s))) long
    ∙ ap (λ n. same_text (codes "/") (drop n (c ∷ s))) (sym less)
    ∙ ends_otherwise (c ∷ s) (no_slash_first b (c ∷ s) h).1

-- A text followed by a slash ends with one.
pub ends_so : (s : List ℕ) → ends_with nat_eq (s ++ 47 ∷ []) (codes "/") ≡ true
ends_so s =
    let size = length-append s (47 ∷ []) in
    let less : length (s ++ 47 ∷ []) - 1 ≡ length s = omega arith in
    ap (λ n. same_text (codes "/") (drop n (s ++ 47 ∷ []))) less ∙ ap (same_text (codes "/")) (drop-append_seam s (47 ∷ []))
