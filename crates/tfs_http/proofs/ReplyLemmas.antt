-- Lemmas about the texts of replies.
use Rattle.std.proofs.Common.{◌≡◌, ◌≢◌, ◌∙◌, ℕ, List, [], ◌∷◌, ◌++◌, length, codes, decimal, refl, ap, append_assoc}
use Rattle.tfs_calls.specs.Refusal.{RefusalValue, head_too_large, bad_head, bad_length, transfer_coding, body_too_large, no_route, method_not_allowed}
use Rattle.tfs_calls.specs.Refusal.{bad_name, no_host, bad_chunk, bad_digest}
use Rattle.tfs_calls.specs.Refusal.{bad_lock_info, bad_state, too_many_instances, journal_stopped, locked, lock_lost, lineage_differs, serial_too_low}
use Rattle.tfs_calls.specs.Refusal.{serial_reused, no_state, no_address, too_many_addresses, unknown_address}
use Rattle.tfs_calls.specs.Refusal.{table_full, journal_full, out_of_memory, journal_fault, no_copy, row_of}
use Rattle.tfs_calls.specs.Reply.{ReplyValue, done, state, impact, refused}
use Rattle.tfs_http.specs.ReplyText.{status_of, status_line, close_line, type_line, phrase_of, head_text}
use Rattle.tfs_framing.specs.declared.request.Form.{Form}

-- The parts of a head, appended in three steps, are the lines of the head.
joined : (old a b c d e f g : List ℕ) → ((old ++ a) ++ (b ++ (c ++ d))) ++ (e ++ (f ++ (g ++ g))) ≡ old ++ (a ++ b ++ c ++ d ++ ((e ++ f) ++ g) ++ g)
joined old a b c d e f g = simp append_assoc refl

-- The text appended in three steps is the head.
pub head_added : (status : ℕ) (allow close kind digits body old first second added : List ℕ) (form : Form) → close ≡ close_line form
    → kind ≡ type_line body → digits ≡ decimal (length body) → first ≡ old ++ status_line status → second ≡ first ++ (allow ++ (close ++ kind))
    → added ≡ second ++ (codes "Content-Length: " ++ (digits ++ codes "\r\n\r\n")) → added ≡ old ++ head_text status allow form body
head_added status allow close kind digits body old first second added form is_close is_kind is_digits f s e =
    rw (← is_close, ← is_kind, ← is_digits)
    (e ∙ ap (λ (t : List ℕ). t ++ (codes "Content-Length: " ++ (digits ++ codes "\r\n\r\n"))) (s ∙ ap (λ (t : List ℕ). t ++ (allow ++ (close ++ kind))) f)
    ∙ joined old (status_line status) allow close kind (codes "Content-Length: ") digits (codes "\r\n"))

-- A text with a first byte isn't empty.
filled : (first : ℕ) (others : List ℕ) → first ∷ others ≢ []
filled first others e = cc

-- The status of each refusal has a phrase.
refusal_has_phrase : (refusal : RefusalValue) → phrase_of (row_of refusal).status ≢ []
refusal_has_phrase head_too_large = filled _ _
refusal_has_phrase bad_head = filled _ _
refusal_has_phrase no_host = filled _ _
refusal_has_phrase bad_length = filled _ _
refusal_has_phrase transfer_coding = filled _ _
refusal_has_phrase body_too_large = filled _ _
refusal_has_phrase bad_chunk = filled _ _
refusal_has_phrase no_route = filled _ _
refusal_has_phrase (method_not_allowed methods) = filled _ _
refusal_has_phrase bad_name = filled _ _
refusal_has_phrase bad_digest = filled _ _
refusal_has_phrase bad_lock_info = filled _ _
refusal_has_phrase bad_state = filled _ _
refusal_has_phrase too_many_instances = filled _ _
refusal_has_phrase journal_stopped = filled _ _
refusal_has_phrase (locked info) = filled _ _
refusal_has_phrase lock_lost = filled _ _
refusal_has_phrase lineage_differs = filled _ _
refusal_has_phrase serial_too_low = filled _ _
refusal_has_phrase serial_reused = filled _ _
refusal_has_phrase no_state = filled _ _
refusal_has_phrase no_address = filled _ _
refusal_has_phrase too_many_addresses = filled _ _
refusal_has_phrase (unknown_address k) = filled _ _
refusal_has_phrase table_full = filled _ _
refusal_has_phrase journal_full = filled _ _
refusal_has_phrase out_of_memory = filled _ _
refusal_has_phrase journal_fault = filled _ _
refusal_has_phrase no_copy = filled _ _

-- The status of each reply has a phrase.
pub reply_has_phrase : (reply : ReplyValue) → phrase_of (status_of reply) ≢ []
reply_has_phrase (done position) = filled _ _
reply_has_phrase (state d) = filled _ _
reply_has_phrase (impact d chosen position) = filled _ _
reply_has_phrase (refused refusal) = refusal_has_phrase refusal
