-- Lemmas: what is said of a reply that may be withheld.
use Rattle.std.proofs.Common.{◌≡◌, ℕ, List, Option, Result, Ok, Err, IfErr, Bool, true, false, refl}
use Rattle.std.specs.Result.{OnOk}
use Rattle.std.specs.Io.KnownBytes.{Appends}
use Rattle.tfs_calls.specs.Reply.{ReplyValue}
use Rattle.tfs_conversation.specs.Conversation.{Said, replied, withheld, said_text, is_open}
use Rattle.tfs_framing.specs.declared.request.Form.{Form}
use Rattle.tfs_http.specs.Lent.{TellsWriter, WritesPart, writing_failed}
use Rattle.tfs_http.specs.ReplyText.{reply_text}
use Rattle.tfs_http.specs.declared.fault.ServeFault.{ServeFault}
use Rattle.tfs_http.specs.declared.fault.ServeFault.TheVariants.{Write}

-- A reply that was written whole might be written.
pub said_open : {A : Type 0} (r : Result A ServeFault) (P : Said → Type 0) (reply : ReplyValue) (form : Form) (may : Bool) (a b : Option (List ℕ)) (f g : Bool)
    → (may ≡ true → P (replied reply)) → OnOk r (may ≡ true) → OnOk r (Appends a b (reply_text reply form)) → (may ≡ true → TellsWriter r f g)
    → OnOk r ((said : Said) × P said × (is_open said ≡ true) × Appends a b (said_text said form) × (g ≡ f))
said_open (Ok u) P reply form may a b f g p did whole tells = (replied reply, p did, refl, whole, tells did)
said_open (Err fault) P reply form may a b f g p did whole tells = tt

-- A reply of which a part was written might be written; a withheld one changes no writer.
pub said_or_withheld : {A : Type 0} (r : Result A ServeFault) (P : Said → Type 0) (reply : ReplyValue) (form : Form) (may : Bool) (a b : Option (List ℕ)) (f g : Bool)
    → (may ≡ true → P (replied reply)) → (may ≡ false → P (withheld reply)) → IfErr r (λ fault. may ≡ true → WritesPart a b (reply_text reply form) fault)
    → (may ≡ true → TellsWriter r f g) → (may ≡ false → IfErr r (λ fault. fault ≡ Write)) → (may ≡ false → (b ≡ a) × (g ≡ f))
    → IfErr r (λ fault. (said : Said) × P said
    × (is_open said ≡ true → WritesPart a b (said_text said form) fault × (g ≡ writing_failed fault f))
    × (is_open said ≡ false → (fault ≡ Write) × (b ≡ a) × (g ≡ f)))
said_or_withheld (Ok u) P reply form may a b f g held back part tells why kept = tt
said_or_withheld (Err fault) P reply form true a b f g held back part tells why kept =
    (replied reply, held refl, (λ may. (part refl, tells refl)), (λ shut. let wrong : true ≡ false = shut in absurd (cc)))
said_or_withheld (Err fault) P reply form false a b f g held back part tells why kept =
    (withheld reply, back refl, (λ may. let wrong : false ≡ true = may in absurd (cc)), (λ shut. (why refl, (kept refl).0, (kept refl).1)))
