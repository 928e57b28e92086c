-- Lemmas about the state of a search for the end of a head.
use Rattle.std.proofs.Common.{◌≡◌, ◌≤◌, ◌<◌, ◌-◌, ℕ, List, [], ◌∷◌, ◌++◌, length, refl, sym, ◌∙◌, ap, subst, arith, append_assoc, append-nil}
use Rattle.std.proofs.Common.{length-append, inl, inr, take, drop, min, take-append-drop, length-take}
use Rattle.std.proofs.lemmas.Grind.{flat_map-append}
use Rattle.httparse.specs.Ascii.{line_feed}
use Rattle.httparse.specs.Grammar.{LineEnd, print_end, print_blank}
use Rattle.tfs_framing.specs.Head.{StartsWithEmptyLine, EndsWithEmptyLine}
use Rattle.tfs_framing.specs.Sought.{HasNoEndIn, HasNoEndYet, IsSought}
use Rattle.tfs_framing.specs.declared.head.Search.{Search}
use Rattle.tfs_framing.proofs.HeadLemmas.{PassedOver, cuts, print_end_len, same_cut, nothing_left}

-- If a text starts with an empty line, it does so when more bytes follow.
starts_more : (text more : List ℕ) → StartsWithEmptyLine text → StartsWithEmptyLine (text ++ more)
starts_more text more starts =
    (starts.0, starts.1 ++ more, ap (λ t. t ++ more) starts.2 ∙ append_assoc (print_end starts.0) starts.1 more)

-- If no head ends in the first `n` bytes of a longer text, none does in the text alone.
pub none_in_window : (n : ℕ) (text beyond : List ℕ) → HasNoEndYet n (text ++ beyond) → HasNoEndIn n text
none_in_window n text beyond yet = λ before after e less starts.
    yet [] before (after ++ beyond)
    (append-nil (text ++ beyond) ∙ ap (λ t. t ++ beyond) e ∙ append_assoc before (line_feed ∷ after) beyond) less (starts_more after beyond starts)

-- If no head ends in the first `n` bytes of a front and a text, none ends in the bytes of the text
-- among them.
pub none_behind : (n : ℕ) (front text : List ℕ) → HasNoEndIn n (front ++ text) → HasNoEndIn (n - length front) text
none_behind n front text none = λ before after e less starts.
    let long = length-append front before in
    none (front ++ before) after (ap (λ t. front ++ t) e ∙ sym (append_assoc front before (line_feed ∷ after))) (omega arith) starts

-- No head ends in zero bytes.
pub none_at_first : (text : List ℕ) → HasNoEndYet 0 text
none_at_first text = λ more before after e less starts. omega (arith, less)

-- If no prefix of a text ends with an empty line, only one of its last two bytes can be a line feed
-- before an empty line, whatever bytes follow.
pub none_yet : (text : List ℕ) → ((part rest : List ℕ) → text ≡ part ++ rest → ¬ (EndsWithEmptyLine part)) → HasNoEndYet (length text - 2) text
none_yet text none = λ more before after e less starts.
    let end = starts.0 in
    let whole : text ++ more ≡ (before ++ line_feed ∷ print_end end) ++ starts.1 =
    e ∙ ap (λ t. before ++ line_feed ∷ t) starts.2 ∙ sym (append_assoc before (line_feed ∷ print_end end) starts.1) in
    let sizes = length-append before (line_feed ∷ print_end end) in
    let short = (print_end_len end).1 in
    elim (cuts text more (before ++ line_feed ∷ print_end end) starts.1 whole) [
      | inl w ↦ none (before ++ line_feed ∷ print_end end) w.0 w.1 (before, end, refl)
      | inr w ↦
          let long = ap length w.1 ∙ length-append text w.0 in
          let nothing : w.0 ≡ [] = nothing_left w.0 (omega arith) in
          none text [] (sym (append-nil text))
          (before, end, sym (append-nil text) ∙ ap (λ t. text ++ t) (sym nothing) ∙ sym w.1)
    ]

-- A search continues after the bytes that were searched before.
pub passed_start : (bytes back : List ℕ) (passed k : ℕ) → HasNoEndIn passed bytes → k ≡ min passed (length bytes) → back ≡ drop k bytes
    → PassedOver bytes (take k bytes) back
passed_start bytes back passed k none is_k is_back = record {
  parts = sym (take-append-drop k bytes) ∙ ap (λ t. take k bytes ++ t) (sym is_back);
  none = λ before after e starts.
      let size = length-take k bytes in
      let long : ¬ (length before < passed) = λ less. none before after e less starts in
      omega arith;
}

-- Empty lines followed by empty lines are one list of empty lines.
pub blank_both : (a b : List LineEnd) (text : List ℕ) → print_blank a ++ (print_blank b ++ text) ≡ print_blank (a ++ b) ++ text
blank_both a b text = sym (append_assoc (print_blank a) (print_blank b) text) ∙ ap (λ t. t ++ text) (sym (flat_map-append print_end a b))

-- The window is the empty lines skipped before and a rest, which begins the searched text.
pub window_left : (bytes window left : List ℕ) (search : Search) (k : ℕ) → k ≡ min (length bytes) 16384 → window ≡ take k bytes
    → left ≡ drop search.skipped window → (s : IsSought bytes search) → (window ≡ print_blank s.lines ++ left) × (s.text ≡ left ++ drop k bytes)
window_left bytes window left search k is_k is_window is_left s =
    let halves : take search.skipped window ++ left ≡ window =
    ap (λ t. take search.skipped window ++ t) is_left ∙ take-append-drop search.skipped window in
    let whole : take search.skipped window ++ (left ++ drop k bytes) ≡ print_blank s.lines ++ s.text =
    sym (append_assoc (take search.skipped window) left (drop k bytes)) ∙ ap (λ t. t ++ drop k bytes) (halves ∙ is_window)
    ∙ take-append-drop k bytes ∙ s.parts in
    let sizes = ap length s.parts ∙ length-append (print_blank s.lines) s.text in
    let window_size = ap length is_window ∙ length-take k bytes in
    let front_size = length-take search.skipped window in
    let said = s.skipped_is in
    let short = s.short in
    let same = same_cut (take search.skipped window) (left ++ drop k bytes) (print_blank s.lines) s.text whole (omega arith) in
    (sym halves ∙ ap (λ t. t ++ left) same.0, sym same.1)

-- The window begins with the empty lines that were skipped before and now.
pub window_blank : (bytes window left text : List ℕ) (search : Search) (k : ℕ) (more : List LineEnd) → k ≡ min (length bytes) 16384
    → window ≡ take k bytes → left ≡ drop search.skipped window → (s : IsSought bytes search) → left ≡ print_blank more ++ text
    → window ≡ print_blank (s.lines ++ more) ++ text
window_blank bytes window left text search k more is_k is_window is_left s split =
    (window_left bytes window left search k is_k is_window is_left s).0 ∙ ap (λ t. print_blank s.lines ++ t) split ∙ blank_both s.lines more text

-- Bytes that were searched before remain searched after the empty lines that are skipped now.
pub passed_behind : (bytes window left text : List ℕ) (search : Search) (k n : ℕ) (more : List LineEnd) → k ≡ min (length bytes) 16384
    → window ≡ take k bytes → left ≡ drop search.skipped window → (s : IsSought bytes search) → left ≡ print_blank more ++ text
    → n ≡ search.passed - (length left - length text) → HasNoEndIn n text
passed_behind bytes window left text search k n more is_k is_window is_left s split is_n =
    let parts = (window_left bytes window left search k is_k is_window is_left s).1 in
    let sizes = ap length split ∙ length-append (print_blank more) text in
    let none : HasNoEndIn search.passed left =
    none_in_window search.passed left (drop k bytes) (subst (HasNoEndYet search.passed) parts s.none) in
    let behind : HasNoEndIn (search.passed - length (print_blank more)) text =
    none_behind search.passed (print_blank more) text (subst (HasNoEndIn search.passed) split none) in
    let same : search.passed - length (print_blank more) ≡ n = omega arith in
    subst (λ (m : ℕ). HasNoEndIn m text) same behind

-- If the bytes are within the limit, the window is all of them.
pub all_in_window : (bytes window : List ℕ) (k limit : ℕ) → k ≡ min (length bytes) limit → window ≡ take k bytes → length bytes ≤ limit → window ≡ bytes
all_in_window bytes window k limit is_k is_window few =
    let both = ap length (take-append-drop k bytes) in
    let parts = length-append (take k bytes) (drop k bytes) in
    let size = length-take k bytes in
    let rest : drop k bytes ≡ [] = nothing_left (drop k bytes) (omega arith) in
    is_window ∙ sym (append-nil (take k bytes)) ∙ ap (λ t. take k bytes ++ t) (sym rest) ∙ take-append-drop k bytes

-- If fewer than 16,384 bytes have no head, they are searched up to the last two.
pub sought_so_far : (bytes window left text : List ℕ) (search next : Search) (k : ℕ) (more : List LineEnd) → k ≡ min (length bytes) 16384
    → window ≡ take k bytes → left ≡ drop search.skipped window → IsSought bytes search → left ≡ print_blank more ++ text
    → ((part rest : List ℕ) → text ≡ part ++ rest → ¬ (EndsWithEmptyLine part)) → next.skipped ≡ length window - length text
    → next.passed ≡ length text - 2 → length bytes < 16384 → IsSought bytes next
sought_so_far bytes window left text search next k more is_k is_window is_left s split none is_skipped is_passed few =
    let blank = window_blank bytes window left text search k more is_k is_window is_left s split in
    let all = all_in_window bytes window k 16384 is_k is_window (omega arith) in
    let sizes = ap length blank ∙ length-append (print_blank (s.lines ++ more)) text in
    let same = ap length all in
    record {
      lines = s.lines ++ more;
      text = text;
      parts = sym all ∙ blank;
      skipped_is = omega arith;
      short = omega arith;
      none = subst (λ (n : ℕ). HasNoEndYet n text) (sym is_passed) (none_yet text none);
    }
