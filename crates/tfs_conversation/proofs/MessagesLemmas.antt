-- Lemmas about messages: bytes have exactly one list of messages, which stops in exactly one way.
use Rattle.std.proofs.Common.{◌≡◌, ◌<◌, ◌+◌, ◌||◌, zero, suc, ℕ, Bool, true, false, List, [], ◌∷◌, ◌++◌, length, Option, Some, None, refl, sym, ◌∙◌, ap, ap₂, subst}
use Rattle.std.proofs.Common.{arith}
use Rattle.std.proofs.lemmas.List.{length-append}
use Rattle.tfs_calls.specs.declared.refusal.Refusal.{Refusal}
use Rattle.tfs_framing.specs.Request.{RequestValue}
use Rattle.tfs_framing.specs.Framing.{Frames, ReadsMessage, framing_refusal}
use Rattle.tfs_framing.specs.declared.framing.Take.{Take}
use Rattle.tfs_framing.specs.declared.framing.Take.TheVariants.{Need, Got, Fault}
use Rattle.tfs_framing.proofs.MessageLemmas.{frame_is_no_empty_text, no_refusal_of_no_bytes, begins, first_message_once}
use Rattle.tfs_conversation.specs.Messages.{one_asks, AreMessages, IsRefused, Messages, HasMessages, StopsAt, Stop}
use Rattle.tfs_conversation.specs.declared.ended.Ended.{Ended}
use Rattle.tfs_conversation.specs.declared.ended.Ended.TheVariants.{Clean, Cut, Asked, Refused}

-- The refusal of the rest is a refusal by framing, and no request asked to close.
refusal_in : (asked : Bool) (rest : List ℕ) (p : Option Refusal) (r : Refusal) → p ≡ Some r → IsRefused asked rest p
    → (asked ≡ false) × framing_refusal rest r
refusal_in asked rest p r is refused = subst (IsRefused asked rest) is refused

-- After a request that asks to close, nothing is refused.
asked_stops : (rest : List ℕ) (p : Option Refusal) (d : Ended) → IsRefused true rest p → StopsAt true rest p d → (p ≡ None) × (d ≡ Asked)
asked_stops rest p Clean refused s = let wrong : true ≡ false = s.0 in cc
asked_stops rest p Cut refused s = let wrong : true ≡ false = s.0 in cc
asked_stops rest p Asked refused s = (s.1, refl)
asked_stops rest p Refused refused s = let wrong : true ≡ false = (refusal_in true rest p s.0 s.1 refused).0 in cc

-- ---- at most one list

module _ (framed : (bytes : List ℕ) (t u : Take) → Frames bytes t → Frames bytes u → t ≡ u) where
  -- If no request asked to close, the rest stops in only one way.
  stops_once : (rest : List ℕ) (p q : Option Refusal) (d e : Ended) → IsRefused false rest p → StopsAt false rest p d
      → IsRefused false rest q → StopsAt false rest q e → (p ≡ q) × (d ≡ e)
  stops_once rest p q Clean Clean had a has b = (a.2 ∙ sym b.2, refl)
  stops_once rest p q Clean Cut had a has b = absurd (b.1 a.1)
  stops_once rest p q Clean Refused had a has b =
      absurd (no_refusal_of_no_bytes b.0 (subst (λ (t : List ℕ). framing_refusal t b.0) a.1 (refusal_in false rest q b.0 b.1 has).1))
  stops_once rest p q Cut Clean had a has b = absurd (a.1 b.1)
  stops_once rest p q Cut Cut had a has b = (a.3 ∙ sym b.3, refl)
  stops_once rest p q Cut Refused had a has b = absurd (a.2.no_refusal b.0 (refusal_in false rest q b.0 b.1 has).1)
  stops_once rest p q Refused Clean had a has b =
      absurd (no_refusal_of_no_bytes a.0 (subst (λ (t : List ℕ). framing_refusal t a.0) b.1 (refusal_in false rest p a.0 a.1 had).1))
  stops_once rest p q Refused Cut had a has b = absurd (b.2.no_refusal a.0 (refusal_in false rest p a.0 a.1 had).1)
  stops_once rest p q Refused Refused had a has b =
      let same : Fault a.0 ≡ Fault b.0 =
      framed rest (Fault a.0) (Fault b.0) (refusal_in false rest p a.0 a.1 had).1 (refusal_in false rest q b.0 b.1 has).1 in
      let refusal : a.0 ≡ b.0 = cc in
      (a.1 ∙ ap Some refusal ∙ sym b.1, refl)
  stops_once rest p q Asked e had a has b = let wrong : false ≡ true = a.0 in cc
  stops_once rest p q Clean Asked had a has b = let wrong : false ≡ true = b.0 in cc
  stops_once rest p q Cut Asked had a has b = let wrong : false ≡ true = b.0 in cc
  stops_once rest p q Refused Asked had a has b = let wrong : false ≡ true = b.0 in cc

  -- If no request asked to close and another message follows, the messages don't stop.
  no_stop_before : (bytes rest frame after : List ℕ) (p : Option Refusal) (d : Ended) (r : RequestValue) → bytes ≡ rest → IsRefused false rest p
      → StopsAt false rest p d → bytes ≡ frame ++ after → ReadsMessage frame r → ⊥
  no_stop_before bytes rest frame after p Clean r is refused s parts m =
      let some : 0 < length frame = frame_is_no_empty_text frame r m in
      let none : 0 ≡ length frame + length after = ap (λ (t : List ℕ). length t) (sym s.1 ∙ sym is ∙ parts) ∙ length-append frame after in
      omega arith
  no_stop_before bytes rest frame after p Cut r is refused s parts m = s.2.no_message frame after r (sym is ∙ parts) m
  no_stop_before bytes rest frame after p Asked r is refused s parts m = let wrong : false ≡ true = s.0 in cc
  no_stop_before bytes rest frame after p Refused r is refused s parts m =
      let same : Fault s.0 ≡ Got r (length frame) =
      framed rest (Fault s.0) (Got r (length frame)) (refusal_in false rest p s.0 s.1 refused).1 (begins rest frame after r (sym is ∙ parts) m) in
      cc

  -- Two lists of messages of the same bytes that stop are equal.
  lists_once : (bytes rest left : List ℕ) (p q : Option Refusal) (d e : Ended) (rs ss : List RequestValue)
      → AreMessages bytes rs rest → IsRefused (one_asks rs) rest p → StopsAt (one_asks rs) rest p d
      → AreMessages bytes ss left → IsRefused (one_asks ss) left q → StopsAt (one_asks ss) left q e
      → (rs ≡ ss) × (rest ≡ left) × (p ≡ q) × (d ≡ e)
  lists_once bytes rest left p q d e [] [] a had s b has t =
      let is : left ≡ rest = sym b ∙ a in
      let same = stops_once rest p q d e had s (subst (λ (l : List ℕ). IsRefused false l q) is has)
      (subst (λ (l : List ℕ). StopsAt false l q e) is t) in
      (refl, sym is, same.0, same.1)
  lists_once bytes rest left p q d e [] (y ∷ ys) a had s b has t =
      absurd (no_stop_before bytes rest b.1.frame b.0 p d y a had s b.1.parts b.1.reads)
  lists_once bytes rest left p q d e (x ∷ xs) [] a had s b has t =
      absurd (no_stop_before bytes left a.1.frame a.0 q e x b has t a.1.parts a.1.reads)
  lists_once bytes rest left p q d e (x ∷ xs) (y ∷ ys) a had s b has t = by x.close refl
      (λ is. lists_once a.0 rest left p q d e xs ys a.3 (subst (λ (v : Bool). IsRefused (v || one_asks xs) rest p) is had)
      (subst (λ (v : Bool). StopsAt (v || one_asks xs) rest p d) is s) others
      (subst (λ (v : Bool). IsRefused (v || one_asks ys) left q) (same_close false is) has)
      (subst (λ (v : Bool). StopsAt (v || one_asks ys) left q e) (same_close false is) t))
    where
      message : (x ≡ y) × (a.0 ≡ b.0)
      message = first_message_once bytes a.1.frame a.0 b.1.frame b.0 x y a.1.parts b.1.parts a.1.reads b.1.reads

      others : AreMessages a.0 ys left
      others = subst (λ (bytes : List ℕ). AreMessages bytes ys left) (sym message.1) b.3

      same_close : (v : Bool) → x.close ≡ v → y.close ≡ v
      same_close v is = ap (λ (r : RequestValue). r.close) (sym message.0) ∙ is

      by : (v : Bool) → x.close ≡ v → (x.close ≡ false → (xs ≡ ys) × (rest ≡ left) × (p ≡ q) × (d ≡ e))
          → (x ∷ xs ≡ y ∷ ys) × (rest ≡ left) × (p ≡ q) × (d ≡ e)
      by false is goes_on =
          let behind = goes_on is in
          let first = message.0 in
          let tail = behind.0 in
          (cc, behind.1, behind.2, behind.3)
      by true is goes_on =
          let none = a.2 is in
          let also_none = b.2 (same_close true is) in
          let one = asked_stops rest p d (subst (λ (v : Bool). IsRefused (v || one_asks xs) rest p) is had)
          (subst (λ (v : Bool). StopsAt (v || one_asks xs) rest p d) is s) in
          let two = asked_stops left q e (subst (λ (v : Bool). IsRefused (v || one_asks ys) left q) (same_close true is) has)
          (subst (λ (v : Bool). StopsAt (v || one_asks ys) left q e) (same_close true is) t) in
          let end : a.0 ≡ rest = subst (λ (zs : List RequestValue). AreMessages a.0 zs rest) none a.3 in
          let also_end : a.0 ≡ left = subst (λ (zs : List RequestValue). AreMessages a.0 zs left) also_none others in
          let first = message.0 in
          (cc, sym end ∙ also_end, one.0 ∙ sym two.0, one.1 ∙ sym two.1)

  -- Messages with equal parts are equal.
  same_messages : (m n : Messages) → m.requests ≡ n.requests → m.rest ≡ n.rest → m.refusal ≡ n.refusal → m ≡ n
  same_messages m n requests rest refusal =
      ap (λ rs. record { requests = rs; rest = m.rest; refusal = m.refusal }) requests
      ∙ ap₂ (λ t p. record { requests = n.requests; rest = t; refusal = p }) rest refusal

  -- Bytes have at most one list of messages that stops, and it stops in only one way.
  pub messages_once : (bytes : List ℕ) (m n : Messages) (d e : Ended) → HasMessages bytes m → Stop m d → HasMessages bytes n → Stop n e
      → (m ≡ n) × (d ≡ e)
  messages_once bytes m n d e a s b t =
      let same = lists_once bytes m.rest n.rest m.refusal n.refusal d e m.requests n.requests a.messages a.refused s b.messages b.refused t in
      (same_messages m n same.0 same.1 same.2, same.3)

-- ---- at least one list

-- The bytes have messages that stop.
abbrev pub HaveMessages : List ℕ → Type 0
HaveMessages bytes = (m : Messages) × (ended : Ended) × HasMessages bytes m × Stop m ended

module _ (each : (bytes : List ℕ) → (t : Take) × Frames bytes t) where
  -- Unfinished bytes have no messages, and stop between messages or inside one.
  unfinished_stop : (bytes : List ℕ) → Frames bytes Need → HaveMessages bytes
  unfinished_stop [] more = (
    record { requests = []; rest = []; refusal = None },
    Clean,
    record { messages = refl; refused = tt },
    (refl, refl, refl),
  )
  unfinished_stop (b ∷ bs) more = (
    record { requests = []; rest = b ∷ bs; refusal = None },
    Cut,
    record { messages = refl; refused = tt },
    (refl, (λ none. cc), more, refl),
  )

  -- Bytes shorter than `n` have messages that stop: the first message, and those of the bytes after
  -- it.
  messages_up_to : (n : ℕ) (bytes : List ℕ) → length bytes < n → HaveMessages bytes
  messages_up_to zero bytes few = elim few [ ]
  messages_up_to (suc n) bytes few = by (λ rest fewer. messages_up_to n rest fewer) (each bytes).0 (each bytes).1
    where
      by : ((rest : List ℕ) → length rest < n → HaveMessages rest) → (t : Take) → Frames bytes t → HaveMessages bytes
      by later Need more = unfinished_stop bytes more
      by later (Fault refusal) refused = (
        record { requests = []; rest = bytes; refusal = Some refusal },
        Refused,
        record { messages = refl; refused = (refl, refused) },
        (refusal, refl),
      )
      by later (Got r used) b = behind r.close refl
        where
          fewer : length b.rest < n
          fewer =
              let some : 0 < length b.frame = frame_is_no_empty_text b.frame r b.reads in
              let all : length bytes ≡ length b.frame + length b.rest = ap (λ (t : List ℕ). length t) b.parts ∙ length-append b.frame b.rest in
              omega arith

          behind : (v : Bool) → r.close ≡ v → HaveMessages bytes
          behind true is = (
            record { requests = r ∷ []; rest = b.rest; refusal = None },
            Asked,
            record { messages = (b.rest, record { frame = b.frame; parts = b.parts; reads = b.reads }, (λ asks. refl), refl); refused = tt },
            (ap (λ (v : Bool). v || false) is, refl),
          )
          behind false is =
              let more = later b.rest fewer in
              let m = more.0 in (
                record { requests = r ∷ m.requests; rest = m.rest; refusal = m.refusal },
                more.1,
                record {
                  messages = (
                    b.rest,
                    record { frame = b.frame; parts = b.parts; reads = b.reads },
                    (λ asks. let wrong : true ≡ false = sym asks ∙ is in absurd (cc)),
                    more.2.messages,
                  );
                  refused = subst (λ (v : Bool). IsRefused (v || one_asks m.requests) m.rest m.refusal) (sym is) more.2.refused;
                },
                subst (λ (v : Bool). StopsAt (v || one_asks m.requests) m.rest m.refusal more.1) (sym is) more.3,
              )

  -- All bytes have messages that stop.
  pub messages_some : (bytes : List ℕ) → HaveMessages bytes
  messages_some bytes = messages_up_to (suc (length bytes)) bytes (omega arith)
