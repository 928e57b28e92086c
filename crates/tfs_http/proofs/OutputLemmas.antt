-- Lemmas about the bytes that writers hold, over several writes.
use Rattle.std.proofs.Common.{◌≡◌, ◌≢◌, ◌<◌, ◌+◌, ℕ, List, length, [], ◌∷◌, ◌++◌, Option, Some, None, Result, Ok, Err, IfErr, take, drop, refl, sym, ◌∙◌, ap, subst, arith}
use Rattle.std.specs.Result.{OnOk}
use Rattle.std.proofs.Common.{append_assoc, append-nil}
use Rattle.std.proofs.Common.{length-append, take-append-drop}
use Rattle.std.specs.Io.KnownBytes.{Appends}
use Rattle.tfs_http.specs.Lent.{WritesFront}
use Rattle.tfs_http.specs.declared.fault.ServeFault.{ServeFault}
use Rattle.tfs_http.specs.declared.fault.ServeFault.TheVariants.{Write}

-- Two writes, one after the other, append both texts.
pub appends_more : (a b c : Option (List ℕ)) (x y : List ℕ) → Appends a b x → Appends b c y → Appends a c (x ++ y)
appends_more None b c x y p q = tt
appends_more (Some xs) None c x y p q = absurd p
appends_more (Some xs) (Some ys) None x y p q = absurd q
appends_more (Some xs) (Some ys) (Some zs) x y p q = q ∙ ap (λ t. t ++ y) p ∙ append_assoc xs x y

-- A writer that doesn't change has appended the empty text.
pub appends_nothing : (a : Option (List ℕ)) → Appends a a []
appends_nothing None = tt
appends_nothing (Some xs) = sym (append-nil xs)

-- A single write of a part of the rest extends the part of the text written so far.
pub written_more : (a b c : Option (List ℕ)) (text part rest left : List ℕ) (n : ℕ) → text ≡ part ++ rest → left ≡ drop n rest → Appends a b part
    → Appends b c (take n rest)
    → (x : List ℕ) × (text ≡ x ++ left) × Appends a c x
written_more a b c text part rest left n split is p q = (
  part ++ take n rest,
  split ∙ ap (λ t. part ++ t) (sym (take-append-drop n rest)) ∙ sym (append_assoc part (take n rest) (drop n rest))
      ∙ ap (λ t. (part ++ take n rest) ++ t) (sym is),
  appends_more a b c part (take n rest) p q,
)

-- Appending to a list that isn't empty gives a list that isn't empty.
has_front : (front back : List ℕ) → front ≢ [] → front ++ back ≢ []
has_front [] back filled e = filled refl
has_front (x ∷ front) back filled e = cc

-- A writer that received a part of a text has received a part of this text followed by another.
pub front_of_both : (a b : Option (List ℕ)) (text more : List ℕ) → WritesFront a b text → WritesFront a b (text ++ more)
front_of_both a b text more p =
    (p.0, p.1 ++ more, has_front p.1 more p.2, ap (λ t. t ++ more) p.3 ∙ append_assoc p.0 p.1 more, p.4)

-- A writer that received a text and then a part of another has received a part of both, joined.
pub then_front : (a b c : Option (List ℕ)) (text more : List ℕ) (r : Result (Unit {0}) ServeFault) → Appends a b text
    → IfErr r (λ fault. (fault ≡ Write) × WritesFront b c more) → IfErr r (λ fault. (fault ≡ Write) × WritesFront a c (text ++ more))
then_front a b c text more (Ok u) p q = tt
then_front a b c text more (Err fault) p q =
    let w = q.1 in
    (q.0, (text ++ w.0, w.1, w.2, ap (λ t. text ++ t) w.3 ∙ sym (append_assoc text w.0 w.1), appends_more a b c text w.0 p w.4))

-- A writer that received a text and then all of another has received both, joined.
pub then_all : {A : Type 0} (r : Result A ServeFault) (a b c : Option (List ℕ)) (text more : List ℕ) → Appends a b text
    → OnOk r (Appends b c more) → OnOk r (Appends a c (text ++ more))
then_all (Ok u) a b c text more p q = appends_more a b c text more p q
then_all (Err fault) a b c text more p q = tt

-- Writing one more piece of a text extends the part written so far.
pub pieces_more : (a b c : Option (List ℕ)) (whole sent now left piece rest : List ℕ) → whole ≡ sent ++ (now ++ left) → piece ++ rest ≡ now ++ left
    → Appends a b sent → Appends b c piece → (x : List ℕ) × (whole ≡ x ++ ([] ++ rest)) × Appends a c x
pieces_more a b c whole sent now left piece rest is e p q =
    (sent ++ piece, is ∙ ap (λ t. sent ++ t) (sym e) ∙ sym (append_assoc sent piece rest), appends_more a b c sent piece p q)

-- Writing the last piece of a text completes it.
pub last_piece : (a b c : Option (List ℕ)) (whole sent now left piece rest : List ℕ) → whole ≡ sent ++ (now ++ left) → piece ++ rest ≡ now ++ left
    → rest ≡ [] → Appends a b sent → Appends b c piece → Appends a c whole
last_piece a b c whole sent now left piece rest is e none p q =
    subst (Appends a c) (sym (is ∙ ap (λ t. sent ++ t) (sym e ∙ ap (λ t. piece ++ t) none ∙ append-nil piece))) (appends_more a b c sent piece p q)

-- If a piece of a text is written in part, so is the text.
pub broken_piece : (a b c : Option (List ℕ)) (whole sent now left piece rest : List ℕ) → whole ≡ sent ++ (now ++ left) → piece ++ rest ≡ now ++ left
    → Appends a b sent → WritesFront b c piece → WritesFront a c whole
broken_piece a b c whole sent now left piece rest is e p q =
    let w = front_of_both b c piece rest q in
    (sent ++ w.0, w.1, w.2, is ∙ ap (λ t. sent ++ t) (sym e ∙ w.3) ∙ sym (append_assoc sent w.0 w.1), appends_more a b c sent w.0 p w.4)

-- After a piece of a text, less of the text is left.
pub fewer_left : (piece rest now left cleared : List ℕ) (limit : ℕ) → piece ++ rest ≡ now ++ left → length piece ≡ limit → 0 < limit → cleared ≡ []
    → length cleared + length rest < length now + length left
fewer_left piece rest now left cleared limit e full some none =
    let before : length (now ++ left) ≡ length now + length left = length-append now left in
    let after : length (now ++ left) ≡ length piece + length rest = ap length (sym e) ∙ length-append piece rest in
    let empty : length cleared ≡ 0 = ap length none in
    omega (arith, before, after, full, some, empty)
