-- Lemmas about heads, lists of moves and chains of specs/Register.antt.
use Rattle.std.proofs.Common.{◌≡◌, ℕ, ◌<◌, ◌≤◌, true, zero, suc, List, [], ◌∷◌, ◌++◌, Option, Some, None, eqb, refl, sym, ap, subst, ◌∙◌, inl, inr, arith}
use Rattle.std.specs.List.{slice_get}
use Rattle.std.proofs.lemmas.Bool.{and_parts, eqb-true, false≢true}
use Rattle.tfs_store.specs.Values.{MoveValue}
use Rattle.tfs_store.specs.Register.{same_head, position_of, Has, head_of, IsChain, EndsWith}
use Rattle.tfs_store.specs.declared.head.Head.{Head}

-- Heads with equal parts are equal.
same_parts : (h k : Head) → h.position ≡ k.position → h.token ≡ k.token → h ≡ k
same_parts h k p q =
    ap (λ (n : ℕ). let x : Head = record { position = n; token = h.token } in x) p
    ∙ ap (λ (n : ℕ). let x : Head = record { position = k.position; token = n } in x) q

-- Two heads that the test finds the same are equal.
pub same_head_told : (h k : Option Head) → same_head h k ≡ true → h ≡ k
same_head_told None None is = refl
same_head_told None (Some k) is = absurd (false≢true is)
same_head_told (Some h) None is = absurd (false≢true is)
same_head_told (Some h) (Some k) is =
    let parts = and_parts (eqb h.position k.position) (eqb h.token k.token) is in
    ap Some (same_parts h k (eqb-true h.position k.position parts.0) (eqb-true h.token k.token parts.1))

-- ---- lists

-- What is at an index is an element.
pub got : {X : Type 0} (xs : List X) (i : ℕ) (x : X) → slice_get xs i ≡ Some x → Has xs x
got [] i x is = absurd (cc)
got (y ∷ ys) zero x is = inl (cc)
got (y ∷ ys) (suc i) x is = inr (got ys i x is)

-- An element of a list is one of the list with other elements before it.
pub has_right : {X : Type 0} (xs ys : List X) (x : X) → Has ys x → Has (xs ++ ys) x
has_right [] ys x is = is
has_right (y ∷ xs) ys x is = inr (has_right xs ys x is)

-- The same at the front.
pub has_left : {X : Type 0} (xs ys : List X) (x : X) → Has xs x → Has (xs ++ ys) x
has_left [] ys x is = absurd is
has_left (y ∷ xs) ys x (inl is) = inl is
has_left (y ∷ xs) ys x (inr is) = inr (has_left xs ys x is)

-- ---- chains

-- Each move of a chain is to a later position.
chain_rising : (ms : List MoveValue) → IsChain ms → (m : MoveValue) → Has ms m → position_of m.from < m.to.position
chain_rising [] chain m here = absurd here
chain_rising (n ∷ ms) chain m (inl same) = subst (λ (x : MoveValue). position_of x.from < x.to.position) same chain.1
chain_rising (n ∷ ms) chain m (inr here) = chain_rising ms chain.2 m here

-- No move of a chain is to a position beyond its head's.
chain_top : (ms : List MoveValue) → IsChain ms → (m : MoveValue) → Has ms m → m.to.position ≤ position_of (head_of ms)
chain_top [] chain m here = absurd here
chain_top (n ∷ ms) chain m (inl same) =
    let e : n.to.position ≡ m.to.position = ap (λ (x : MoveValue). x.to.position) same in omega arith
chain_top (n ∷ ms) chain m (inr here) =
    let below : m.to.position ≤ position_of (head_of ms) = chain_top ms chain.2 m here in
    let e : position_of n.from ≡ position_of (head_of ms) = ap position_of chain.0 in
    let up : position_of n.from < n.to.position = chain.1 in
    omega arith

-- The head of a chain is beyond the heads before it.
chain_beyond : (ns base : List MoveValue) (k : MoveValue) → IsChain (k ∷ (ns ++ base)) → position_of (head_of base) < k.to.position
chain_beyond [] base k chain =
    let e : position_of k.from ≡ position_of (head_of base) = ap position_of chain.0 in
    let up : position_of k.from < k.to.position = chain.1 in
    omega arith
chain_beyond (n ∷ ns) base k chain =
    let below : position_of (head_of base) < n.to.position = chain_beyond ns base n chain.2 in
    let e : position_of k.from ≡ n.to.position = ap position_of chain.0 in
    let up : position_of k.from < k.to.position = chain.1 in
    omega arith

-- The move of a chain from the head that an end of it left is the move just after that end.
follows_here : (ns base : List MoveValue) (n m : MoveValue) → IsChain (n ∷ (ns ++ base)) → n ≡ m → m.from ≡ head_of base
    → EndsWith (n ∷ (ns ++ base)) (m ∷ base)
follows_here [] base n m chain same from = record { newer = []; are = ap (λ (x : MoveValue). x ∷ base) same }
follows_here (k ∷ ks) base n m chain same from =
    let beyond : position_of (head_of base) < k.to.position = chain_beyond ks base k chain.2 in
    let e : position_of n.from ≡ k.to.position = ap position_of chain.0 in
    let f : position_of m.from ≡ position_of (head_of base) = ap position_of from in
    let g : position_of n.from ≡ position_of m.from = ap (λ (x : MoveValue). position_of x.from) same in
    absurd (omega arith)

-- So it is wherever the chain has it.
pub follows : (newer base : List MoveValue) (m : MoveValue) → IsChain (newer ++ base) → Has (newer ++ base) m → m.from ≡ head_of base
    → EndsWith (newer ++ base) (m ∷ base)
follows [] base m chain here from =
    let top : m.to.position ≤ position_of (head_of base) = chain_top base chain m here in
    let up : position_of m.from < m.to.position = chain_rising base chain m here in
    let e : position_of m.from ≡ position_of (head_of base) = ap position_of from in
    absurd (omega arith)
follows (n ∷ ns) base m chain (inl same) from = follows_here ns base n m chain same from
follows (n ∷ ns) base m chain (inr here) from =
    let rest = follows ns base m chain.2 here from in
    record { newer = n ∷ rest.newer; are = ap (λ (ms : List MoveValue). n ∷ ms) rest.are }

-- A move before the newest one of a chain isn't from the same head.
not_from : (k : MoveValue) (ks : List MoveValue) (n : MoveValue) → IsChain (k ∷ ks) → Has ks n → k.from ≡ n.from → ⊥
not_from k ks n chain here same =
    let top : n.to.position ≤ position_of (head_of ks) = chain_top ks chain.2 n here in
    let up : position_of n.from < n.to.position = chain_rising ks chain.2 n here in
    let e : position_of k.from ≡ position_of (head_of ks) = ap position_of chain.0 in
    let f : position_of k.from ≡ position_of n.from = ap position_of same in
    omega arith

-- Only one move of a chain is from a head.
pub one_follows : (ms : List MoveValue) → IsChain ms → (i j : ℕ) (m n : MoveValue) → slice_get ms i ≡ Some m → slice_get ms j ≡ Some n
    → m.from ≡ n.from → i ≡ j
one_follows [] chain i j m n at_i at_j same = absurd (cc)
one_follows (k ∷ ks) chain zero zero m n at_i at_j same = refl
one_follows (k ∷ ks) chain zero (suc j) m n at_i at_j same =
    let e : k ≡ m = cc in
    absurd (not_from k ks n chain (got ks j n at_j) (ap (λ (x : MoveValue). x.from) e ∙ same))
one_follows (k ∷ ks) chain (suc i) zero m n at_i at_j same =
    let e : k ≡ n = cc in
    absurd (not_from k ks m chain (got ks i m at_i) (ap (λ (x : MoveValue). x.from) e ∙ sym same))
one_follows (k ∷ ks) chain (suc i) (suc j) m n at_i at_j same = ap suc (one_follows ks chain.2 i j m n at_i at_j same)
