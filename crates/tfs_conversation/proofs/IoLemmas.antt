-- Lemmas about the bytes that readers have left and writers hold, over several reads and writes.
use Rattle.std.proofs.Common.{◌≡◌, ◌≢◌, ◌⊎◌, ℕ, List, [], ◌++◌, Option, Some, None, Result, Ok, Err, IfErr, refl, sym, ◌∙◌, ap, subst, inl, inr, arith, Bool, true, false, if◌then◌else◌}
use Rattle.std.specs.Result.{OnOk}
use Rattle.std.proofs.Common.{append_assoc, append-nil}
use Rattle.std.proofs.Common.{length-append}
use Rattle.std.specs.Io.KnownBytes.{Appends, Consumes}
use Rattle.tfs_calls.specs.Reply.{ReplyValue, impact}
use Rattle.tfs_framing.specs.declared.request.Form.{Form}
use Rattle.tfs_http.specs.ReplyText.{head_text, impact_body, reply_text}
use Rattle.tfs_state.specs.Document.{Document}
use Rattle.tfs_conversation.specs.Conversation.{Said, replied, withheld, said_text, is_open, ComesInReads}
use Rattle.tfs_http.specs.Lent.{TellsWriter, WritesFront, WritesPart, writing_failed}
use Rattle.tfs_http.proofs.OutputLemmas.{appends_more, appends_nothing}
use Rattle.tfs_http.specs.declared.fault.ServeFault.{ServeFault}
use Rattle.tfs_http.specs.declared.fault.ServeFault.TheVariants.{Write, NoMemory}

-- Two reads, one after the other, consume the bytes of both.
pub consumes_more : (a b c : Option (List ℕ)) (x y : List ℕ) → Consumes a b x → Consumes b c y → Consumes a c (x ++ y)
consumes_more None b c x y p q = tt
consumes_more (Some xs) None c x y p q = absurd p
consumes_more (Some xs) (Some ys) None x y p q = absurd q
consumes_more (Some xs) (Some ys) (Some zs) x y p q = p ∙ ap (λ t. x ++ t) q ∙ sym (append_assoc x y zs)

-- A reader that doesn't change has consumed no bytes.
pub consumes_nothing : (a : Option (List ℕ)) → Consumes a a []
consumes_nothing None = tt
consumes_nothing (Some xs) = refl

-- What is known of a reader's bytes: those that are left, and those that reads returned.
abbrev pub Known : Type 0
Known = Option (List ℕ) × Option (List ℕ)

-- The reader returned these bytes.
abbrev pub Returns : Known → Known → List ℕ → Type 0
Returns from to bytes = Consumes from.0 to.0 bytes × Appends from.1 to.1 bytes

-- Two reads, one after the other, return the bytes of both.
pub returns_more : (a b c : Known) (x y : List ℕ) → Returns a b x → Returns b c y → Returns a c (x ++ y)
returns_more a b c x y p q = (consumes_more a.0 b.0 c.0 x y p.0 q.0, appends_more a.1 b.1 c.1 x y p.1 q.1)

-- A reader that doesn't change has returned no bytes.
pub returns_nothing : (a : Known) → Returns a a []
returns_nothing a = (consumes_nothing a.0, appends_nothing a.1)

-- Bytes that came in reads, and more bytes that came in later reads, came in all these reads.
pub comes_more : (x y : List ℕ) (a b c : ℕ) → ComesInReads x a b → ComesInReads y b c → ComesInReads (x ++ y) a c
comes_more x y a b c p q =
    let long = length-append x y in
    let first = p.counted in
    let second = q.counted in
    let pace = p.pace in
    let next = q.pace in
    record { counted = omega arith; pace = omega arith }

-- The empty list of bytes comes in zero reads.
pub comes_nothing : (a : ℕ) → ComesInReads [] a a
comes_nothing a = record { counted = omega arith; pace = omega arith }

-- If there is no memory for a text, none of it is written.
pub none_written : (a : Option (List ℕ)) (text : List ℕ) → WritesPart a a text NoMemory
none_written a text = record { part = []; rest = text; split = refl; appended = appends_nothing a; one_of = inr (refl, refl) }

-- Writing a text writes each text equal to it.
pub written_as : {A : Type 0} (r : Result A ServeFault) (a b : Option (List ℕ)) (text whole : List ℕ) → text ≡ whole → OnOk r (Appends a b text)
    → OnOk r (Appends a b whole)
written_as (Ok u) a b text whole e p = subst (Appends a b) e p
written_as (Err fault) a b text whole e p = tt

-- A writer that received a part of a reply's text has received a part of each text equal to it.
pub part_written : {A : Type 0} (r : Result A ServeFault) (a b : Option (List ℕ)) (text whole : List ℕ) → text ≡ whole
    → IfErr r (λ fault. (fault ≡ Write) × WritesFront a b text) → IfErr r (λ fault. WritesPart a b whole fault)
part_written (Ok u) a b text whole e p = tt
part_written (Err fault) a b text whole e p =
    let w = p.1 in
    record { part = w.0; rest = w.1; split = sym e ∙ w.3; appended = w.4; one_of = inl (p.0, w.2) }

-- A part of a text is a part of each text equal to it.
pub part_as : {A : Type 0} (r : Result A ServeFault) (a b : Option (List ℕ)) (text whole : List ℕ) → text ≡ whole → IfErr r (WritesPart a b text)
    → IfErr r (WritesPart a b whole)
part_as (Ok u) a b text whole e p = tt
part_as (Err fault) a b text whole e p = subst (λ (t : List ℕ). WritesPart a b t fault) e p

-- A head and all of a body are the head, the body and an empty rest.
pub all_told : (head text items left : List ℕ) → items ≡ text → left ≡ [] → head ++ items ≡ head ++ (text ++ left)
all_told head text items left is none =
    ap (λ (t : List ℕ). head ++ t) (is ∙ sym (append-nil text) ∙ ap (λ (t : List ℕ). text ++ t) (sym none))

-- If the form is bare, the text of an impact's reply is its head.
pub bare_text : (d : Document) (chosen : List ℕ) (position : ℕ) (form : Form) (head told : List ℕ) → form.bare ≡ true
    → told ≡ impact_body d chosen position → head ≡ head_text 200 [] form told → head ≡ reply_text (impact d chosen position) form
bare_text d chosen position form head told bare is e =
    let body = impact_body d chosen position in
    e ∙ ap (head_text 200 [] form) is ∙ sym (append-nil (head_text 200 [] form body))
    ∙ ap (λ (x : Bool). head_text 200 [] form body ++ (if x then [] else body)) (sym bare)

-- If the form isn't bare, the text of an impact's reply is its head and its body.
pub full_text : (d : Document) (chosen : List ℕ) (position : ℕ) (form : Form) (head told : List ℕ) → form.bare ≡ false
    → told ≡ impact_body d chosen position → head ≡ head_text 200 [] form told → head ++ told ≡ reply_text (impact d chosen position) form
full_text d chosen position form head told whole is e =
    let body = impact_body d chosen position in
    ap (λ (t : List ℕ). t ++ told) e ∙ ap (λ (t : List ℕ). head_text 200 [] form t ++ t) is
    ∙ ap (λ (x : Bool). head_text 200 [] form body ++ (if x then [] else body)) (sym whole)

-- The text of what is said isn't empty.
said_is_no_empty_text : (said : Said) (form : Form) → said_text said form ≢ []
said_is_no_empty_text (replied reply) form e = cc
said_is_no_empty_text (withheld reply) form e = cc

-- A withheld reply is a text of which nothing was written.
pub part_of_said : (a b : Option (List ℕ)) (said : Said) (form : Form) (fault : ServeFault)
    → (is_open said ≡ true → WritesPart a b (said_text said form) fault) → (is_open said ≡ false → (fault ≡ Write) × (b ≡ a))
    → (w : WritesPart a b (said_text said form) fault) × ((is_open said ≡ true) ⊎ ((fault ≡ Write) × (w.part ≡ [])))
part_of_said a b said form fault opened shut = by (is_open said) refl
  where
    by : (v : Bool) → is_open said ≡ v
        → (w : WritesPart a b (said_text said form) fault) × ((is_open said ≡ true) ⊎ ((fault ≡ Write) × (w.part ≡ [])))
    by true is = (opened is, inl is)
    by false is =
        let none = shut is in (
          record {
            part = [];
            rest = said_text said form;
            split = refl;
            appended = subst (λ (c : Option (List ℕ)). Appends a c []) (sym none.1) (appends_nothing a);
            one_of = inl (none.0, said_is_no_empty_text said form);
          },
          inr (none.0, refl),
        )

-- If a reply was written whole, so was what is said by it.
pub said_whole : {A : Type 0} (r : Result A ServeFault) (P : Said → Type 0) (reply : ReplyValue) (form : Form) (a b : Option (List ℕ)) (f g : Bool)
    → P (replied reply) → OnOk r (Appends a b (reply_text reply form)) → TellsWriter r f g
    → OnOk r ((said : Said) × P said × (is_open said ≡ true) × Appends a b (said_text said form) × (g ≡ f))
said_whole (Ok u) P reply form a b f g p whole same = (replied reply, p, refl, whole, same)
said_whole (Err fault) P reply form a b f g p whole same = tt

-- If a part of a reply was written, so was one of what is said by it.
pub said_part : {A : Type 0} (r : Result A ServeFault) (P : Said → Type 0) (reply : ReplyValue) (form : Form) (a b : Option (List ℕ)) (f g : Bool)
    → P (replied reply) → IfErr r (WritesPart a b (reply_text reply form)) → TellsWriter r f g
    → IfErr r (λ fault. (said : Said) × P said
    × (is_open said ≡ true → WritesPart a b (said_text said form) fault × (g ≡ writing_failed fault f))
    × (is_open said ≡ false → (fault ≡ Write) × (b ≡ a) × (g ≡ f)))
said_part (Ok u) P reply form a b f g p part tells = tt
said_part (Err fault) P reply form a b f g p part tells = (replied reply, p, (λ may. (part, tells)), (λ shut. let wrong : true ≡ false = shut in absurd (cc)))
