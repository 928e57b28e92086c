-- Lemmas about prefixes of texts.
use Rattle.std.proofs.Common.{◌≡◌, List, ℕ, ◌++◌, length, take, drop, nat_eq, true, refl, sym, ◌∙◌, ap, take-append-drop}
use Rattle.std.proofs.Math.Seq.{take-append_seam}
use Rattle.std.specs.Cmp.Lexicographic.{bytes_decides}
use Rattle.std.specs.List.{starts_with}

-- A text that starts with `front` is `front` and the rest after it.
pub front_split : (front path : List ℕ) → starts_with nat_eq path front ≡ true → path ≡ front ++ drop (length front) path
front_split front path e =
    sym (take-append-drop (length front) path) ∙ ap (λ t. t ++ drop (length front) path) (sym ((bytes_decides front (take (length front) path)).0 e))

-- A text and a rest, joined, start with the text.
pub front_joined : (front rest : List ℕ) → starts_with nat_eq (front ++ rest) front ≡ true
front_joined front rest = rw (take-append_seam front rest) ((bytes_decides front front).1 refl)
