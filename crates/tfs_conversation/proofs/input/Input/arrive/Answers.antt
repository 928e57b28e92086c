-- The message that a decoder returns is the next input. If it returns none, the bytes read follow
-- the earlier ones.
use Rattle.std.proofs.Common.{◌≡◌, ℕ, List, [], ◌++◌, drop, sym, ◌∙◌, ap, subst, arith, append-nil}
use Rattle.tfs_framing.specs.Decoder.{Gives, HasNoRefusal}
use Rattle.tfs_framing.specs.Framing.{BeginsWith, IsUnfinished, framing_refusal}
use Rattle.tfs_conversation.proofs.ArrivedLemmas.{ends_so, kept_nothing, kept_taken, no_reads, nothing_read, one_read, what_comes}
use Rattle.tfs_conversation.proofs.FaultLemmas.{reading_breaks}
use Rattle.tfs_http.proofs.OutputLemmas.{appends_nothing}
use Rattle.tfs_conversation.proofs.IoLemmas.{comes_nothing, consumes_nothing}
use Rattle.tfs_conversation.proofs.input.Input.arrive.Goals as goal
use Rattle.tfs_conversation.proofs.input.Input.arrive.Goals.{in-Ok-eq0, in-Ok, in-Err-read_on}

pub returns-in-Ok-Message-clause-bytes : goal.returns-in-Ok-Message-clause-bytes
returns-in-Ok-Message-clause-bytes g c =
    let told = subst (Gives c.self.inside.decoder.bytes c.next.new.self) c.in-Ok-Message.field-0-is c.in-Ok-Message.ensures.ok in (
      [],
      (consumes_nothing _, appends_nothing _),
      comes_nothing _,
      subst (λ (t : List ℕ). (used : ℕ) × BeginsWith t c.in-Ok-Message.request used × (c.next.new.self.bytes ≡ drop used t))
          (c.self.view_is ∙ sym (append-nil c.args.self.now)) told,
      tt,
    )

pub returns-in-Ok-Refused-clause-bytes : goal.returns-in-Ok-Refused-clause-bytes
returns-in-Ok-Refused-clause-bytes g c = (
  [],
  (consumes_nothing _, appends_nothing _),
  comes_nothing _,
  subst (λ (t : List ℕ). framing_refusal t c.in-Ok-Refused.refusal) (c.self.view_is ∙ sym (append-nil c.args.self.now))
      (subst (Gives c.self.inside.decoder.bytes c.next.new.self) c.in-Ok-Refused.field-0-is c.in-Ok-Refused.ensures.ok),
  tt,
)

pub returns-in-Err-clause-bytes : goal.returns-in-Err-clause-bytes
returns-in-Err-clause-bytes g c = (
  [],
  (consumes_nothing _, appends_nothing _),
  comes_nothing _,
  tt,
  (subst HasNoRefusal (c.self.view_is ∙ sym (append-nil c.args.self.now)) c.in-Err.ensures.memory, λ e. absurd (cc)),
)

pub returns-clause-bytes : goal.returns-clause-bytes
returns-clause-bytes g c =
    let told = subst (Gives c.self.inside.decoder.bytes c.next.new.self) c.in-Ok-More.field-0-is c.in-Ok-More.ensures.ok in
    let next = c.next.new.self.bytes in
    let new = c.read_on.new.decoder.bytes in
    let view : next ≡ c.args.self.now = told.1 ∙ c.self.view_is in
    elim c.match-read_on.branch [
      | in-Ok-eq0 w ↦
          (let ok = w.in-Ok-eq0.ensures.ok in
          let read = ok.3 in
          let size = read.1 in
          let none = nothing_read read.0 (omega arith) in
          let all : new ≡ c.args.self.now ++ read.0 = read.2 ∙ ap (λ (t : List ℕ). t ++ read.0) view in
          let same : c.self.inside.decoder.bytes ≡ new =
          sym told.1 ∙ sym (append-nil next) ∙ ap (λ (t : List ℕ). next ++ t) (sym none) ∙ sym read.2 in
          let comes = what_comes (c.args.self.now ++ read.0) new c.args.reads.now c.read_on.new.reads c.match-read_on.result _ w.result-is (
            ends_so new (c.args.self.now ++ read.0) w.end_of.result (sym all) (subst IsUnfinished same told.0) w.end_of.ensures,
            tt,
          ) in
          (read.0, read.3, one_read read.0 _ _ (omega arith) ok.1, comes.0, comes.1))
      | in-Ok w ↦
          (let ok = w.in-Ok.ensures.ok in
          let read = ok.3 in
          let size = read.1 in
          let few = ok.0 in
          let comes = what_comes (c.args.self.now ++ read.0) new c.args.reads.now c.read_on.new.reads c.match-read_on.result _ w.result-is
          (read.2 ∙ ap (λ (t : List ℕ). t ++ read.0) view, tt) in
          (read.0, read.3, one_read read.0 _ _ (omega arith) ok.1, comes.0, comes.1))
      | in-Err-read_on w ↦
          (let same = c.self.view_is ∙ sym (append-nil c.args.self.now) in
          let fault = w.in-Err-read_on.ensures.fault in
          let comes = what_comes (c.args.self.now ++ []) new c.args.reads.now c.read_on.new.reads c.match-read_on.result _ w.result-is (
            tt,
            (reading_breaks _ _ _ _ (subst IsUnfinished same told.0) fault.1, λ e. w.in-Err-read_on.ensures.kept.0 ∙ view ∙ sym (append-nil c.args.self.now)),
          ) in
          ([], (kept_nothing _ _ w.in-Err-read_on.ensures.kept.1, kept_taken _ _ w.in-Err-read_on.ensures.kept.2), no_reads _ _ fault.0, comes.0, comes.1))
    ]

pub returns-clause-at_once : goal.returns-clause-at_once
returns-clause-at_once g c = λ r used begins.
    let told = subst (Gives c.self.inside.decoder.bytes c.next.new.self) c.in-Ok-More.field-0-is c.in-Ok-More.ensures.ok in
    absurd (told.0.no_message begins.frame begins.rest r (c.self.view_is ∙ begins.parts) begins.reads)
