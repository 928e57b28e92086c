-- The first of two bytes among 16 that are compared in one step.
use Rattle.std.proofs.Common.{◌≡◌, ◌≢◌, ℕ, ◌+◌, ◌-◌, ◌%◌, ◌^◌, ◌<◌, ◌≤◌, Bool, true, false, not, ◌||◌, eqb, cond, List, [], ◌∷◌, map, length, get_or, take, drop, replicate, Option, Some, None, bit_or, refl, sym, ap, ap₂, ◌∙◌, inl, inr, w16, arith, length-drop, take_all}
use Rattle.std.specs.Int.Count.{count_trailing_zeros}
use Rattle.std.specs.List.{prefix_len}
use Rattle.std.specs.Option.{option_map}
use Rattle.std.specs.Simd.Lanes.{chunk, zip2, mask_l, top}
use Rattle.std.proofs.lemmas.Bool.{cases_lt, false≢true}
use Rattle.std.proofs.lemmas.List.{get_or-drop, length-map}
use Rattle.std.proofs.lemmas.Nat.Bits.{bit_at-trailing_zeros}
use Rattle.std.proofs.lemmas.Simd.{length-chunk, mask_l-lt, mask_l-mod, none_from_empty_mask, run_in_chunk_fails, run_in_chunk_stops, trailing_mask_l, zip2_of_maps, zip2_splat}
use Rattle.memchr.specs.Find.{IsFirst, IsFirstByte, Nowhere, Passes, is_byte2}

-- The top bit of a lane is set if one of the two comparisons succeeded.
top_of_either : (p q : Bool) → top 7 (bit_or (cond p 255 0) (cond q 255 0)) ≡ (p || q)
top_of_either true true = refl
top_of_either true false = refl
top_of_either false true = refl
top_of_either false false = refl

module _ (a b : ℕ) where
  -- The top bit of each lane is set exactly if its byte is one of the two.
  tops_of_either : (v : List ℕ) → map (top 7) (map (λ x. bit_or (cond (eqb x a) 255 0) (cond (eqb x b) 255 0)) v) ≡ map (is_byte2 a b) v
  tops_of_either [] = refl
  tops_of_either (x ∷ v) = ap₂ (λ (t : Bool) (ts : List Bool). t ∷ ts) (top_of_either (eqb x a) (eqb x b)) (tops_of_either v)

  -- The bits of the lanes as the code computes them.
  abbrev pub near_mask : List ℕ → ℕ
  near_mask bs =
      mask_l (map (top 7) (zip2 bit_or
      (zip2 (λ x y. cond (eqb x y) 255 0) (chunk 0 16 bs) (replicate 16 a))
      (zip2 (λ x y. cond (eqb x y) 255 0) (chunk 0 16 bs) (replicate 16 b)))) % 2 ^ 64

  -- The computed bits are those of the lanes whose byte is one of the two.
  near_mask-is : (bs : List ℕ) → 16 ≤ length bs → near_mask bs ≡ mask_l (map (is_byte2 a b) (chunk 0 16 bs))
  near_mask-is bs room =
      let v = chunk 0 16 bs in
      let long : length v ≡ 16 = length-chunk 0 16 bs room in
      ap (λ (z : List ℕ). mask_l (map (top 7) z) % 2 ^ 64)
      (zip2_of_maps bit_or (λ x. cond (eqb x a) 255 0) (λ x. cond (eqb x b) 255 0) v
      (zip2_splat (λ x y. cond (eqb x y) 255 0) v 16 a long)
      (zip2_splat (λ x y. cond (eqb x y) 255 0) v 16 b long))
      ∙ ap (λ (ms : List Bool). mask_l ms % 2 ^ 64) (tops_of_either v)
      ∙ mask_l-mod (map (is_byte2 a b) v) 64 (omega (arith, length-map v (is_byte2 a b), long))

  -- If no bit is set, none of the 16 bytes is one of the two.
  pub near-none : (bs : List ℕ) → 16 ≤ length bs → near_mask bs ≡ 0 → Nowhere (Passes (is_byte2 a b) bs) 0 16
  near-none bs room empty k low high test =
      false≢true (sym (none_from_empty_mask (is_byte2 a b) bs 0 16 0 room (sym (near_mask-is bs room) ∙ empty) k low high) ∙ test)

  -- If a bit is set, the lowest one is at the position of the first of these bytes.
  pub near-some : (bs : List ℕ) → 16 ≤ length bs → near_mask bs ≢ 0
      → IsFirst (Passes (is_byte2 a b) bs) 0 16 (Some (count_trailing_zeros 64 (near_mask bs)))
  near-some bs room some =
      let v = chunk 0 16 bs in
      let test = is_byte2 a b in
      let long : length v ≡ 16 = length-chunk 0 16 bs room in
      let mask = mask_l (map test v) in
      let same : near_mask bs ≡ mask = near_mask-is bs room in
      let set : 0 < mask = omega (arith, some, same) in
      let small : mask < 2 ^ 16 = rw (length-map v test, long) at (mask_l-lt (map test v)) in
      let r = count_trailing_zeros 64 (near_mask bs) in
      let counted : r ≡ prefix_len (λ x. not (test x)) v =
      ap (count_trailing_zeros 64) same ∙ trailing_mask_l test 64 v (omega arith) set in
      let here : r ≡ 0 + r = omega arith in
      let inside : r < 16 =
      omega (arith, counted, trailing_mask_l test 16 v (omega arith) set, (bit_at-trailing_zeros w16 mask set small).0) in (
        record {
          low = omega arith;
          high = inside;
          before = λ k low high pass. false≢true (sym (run_in_chunk_fails test bs 0 16 r 0 room counted k low (omega arith)) ∙ pass);
        },
        ap (λ (k : ℕ). test (get_or bs k 0)) here ∙ run_in_chunk_stops test bs 0 16 r 0 room counted inside,
      )

module _ (test : ℕ → Bool) (bs : List ℕ) (n : ℕ) (room : n ≤ length bs) (none : Nowhere (Passes test bs) 0 n) where
  -- If no byte among the first `n` and none in the rest before `m` passes the test, none before `n
  -- + m` does.
  still_none : (m : ℕ) → Nowhere (Passes test (drop n bs)) 0 m → Nowhere (Passes test bs) 0 (n + m)
  still_none m later k low high pass =
      elim (cases_lt k n) [
        | inl near ↦ none k low near pass
        | inr past ↦
            let place : n + (k - n) ≡ k = omega arith in
            let same = get_or-drop n bs (k - n) 0 ∙ ap (λ (j : ℕ). get_or bs j 0) place in
            later (k - n) (omega arith) (omega arith) (ap test same ∙ pass)
      ]

  -- The first byte of the rest that passes the test is the first of all, `n` positions further on.
  first_beyond : (r : Option ℕ) → IsFirstByte test (drop n bs) r → IsFirstByte test bs (option_map (λ i. n + i) r)
  first_beyond None h =
      let whole : n + length (drop n bs) ≡ length bs = omega (arith, length-drop n bs) in
      rw whole at (still_none (length (drop n bs)) h)
  first_beyond (Some i) h = (
    record {
      low = omega arith;
      high = omega (arith, h.0.high, length-drop n bs);
      before = still_none i h.0.before;
    },
    ap test (sym (get_or-drop n bs i 0)) ∙ h.1,
  )

  -- The first byte of the rest, as the code takes the rest, is the first of all.
  pub beyond-first : (r : Option ℕ) → IsFirstByte test (take (length bs - n) (drop n bs)) r → IsFirstByte test bs (option_map (λ i. n + i) r)
  beyond-first r h = first_beyond r (rw (take_all (length bs - n) (drop n bs) (omega (arith, length-drop n bs))) at h)
