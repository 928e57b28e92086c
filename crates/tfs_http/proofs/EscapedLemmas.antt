-- Lemmas about the ends of texts.
use Rattle.std.proofs.Common.{◌≡◌, ◌≤◌, ◌+◌, ◌-◌, ◌∙◌, ℕ, List, length, drop}
use Rattle.std.proofs.Common.{sym, ap, arith, length-drop, drop-drop}

-- An end of an end of a text is an end of the text.
pub end_left : (text left : List ℕ) (told : ℕ) → told ≤ length text → left ≡ drop (length (drop told text) - length left) (drop told text)
    → left ≡ drop (length text - length left) text
end_left text left told within e =
    let few : length left ≤ length (drop told text) = shorter (drop told text) left _ e in
    let long : length (drop told text) ≡ length text - told = length-drop told text in
    let places : told + (length (drop told text) - length left) ≡ length text - length left = omega (arith, few, long, within) in
    e ∙ drop-drop (length (drop told text) - length left) told text ∙ ap (λ n. drop n text) places
  where
    shorter : (xs ys : List ℕ) (k : ℕ) → ys ≡ drop k xs → length ys ≤ length xs
    shorter xs ys k is = let count : length ys ≡ length xs - k = ap length is ∙ length-drop k xs in omega (arith, count)

-- The same as `end_left`, with names for the end and for the length of the text.
pub end_of : (text behind left : List ℕ) (told size : ℕ) → behind ≡ drop told text → told ≤ length text → size ≡ length text
    → left ≡ drop (length behind - length left) behind → left ≡ drop (size - length left) text
end_of text behind left told size is within full e =
    end_left text left told within (e ∙ ap (λ (t : List ℕ). drop (length t - length left) t) is)
    ∙ ap (λ (n : ℕ). drop (n - length left) text) (sym full)
