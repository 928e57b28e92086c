-- Lemmas about outputs: bytes have at most one output over a table.
use Rattle.std.specs.List.{AllByRecursion}
use Rattle.std.proofs.Common.{◌≡◌, ◌≢◌, ℕ, List, [], ◌∷◌, Result, Ok, Err, refl, sym, ◌∙◌, ap, ap₂, subst}
use Rattle.std.proofs.Common.{inl, inr}
use Rattle.tfs_calls.specs.declared.call.Call.{Call}
use Rattle.tfs_calls.specs.declared.call.Call.TheVariants.{Read, Change, Impact}
use Rattle.tfs_calls.specs.declared.refusal.Refusal.{Refusal}
use Rattle.tfs_calls.specs.Refusal.{out_of_memory, journal_fault, refusal_value}
use Rattle.tfs_calls.specs.Reply.{ReplyValue, refused}
use Rattle.tfs_calls.specs.Transition.{TableModel, Answers, FaultsJournal}
use Rattle.tfs_table.specs.Table.{TableValue, model_of}
use Rattle.tfs_framing.specs.Request.{RequestValue}
use Rattle.tfs_framing.specs.Framing.{Frames}
use Rattle.tfs_framing.specs.declared.framing.Take.{Take}
use Rattle.tfs_http.specs.Routing.{RoutesTo}
use Rattle.tfs_conversation.specs.Desk.{AnswersCall}
use Rattle.tfs_conversation.specs.Messages.{Messages}
use Rattle.tfs_conversation.specs.Conversation.{Said, replied, Plainly, AnswersRequest, Exchange, requests_of, Runs, messages_of, course_text}
use Rattle.tfs_conversation.specs.Output.{IsUndisturbed, HasOutput}
use Rattle.tfs_conversation.proofs.MessagesLemmas.{messages_once}
use Rattle.tfs_conversation.proofs.StepLemmas.{takes_over}
use Rattle.tfs_conversation.specs.declared.ended.Ended.{Ended}

-- ---- the reply to a request

-- After an error of the sink the reply is `journal_fault`.
fault_is_told : (m n : TableModel) (call : Call) (reply : ReplyValue) → FaultsJournal m call reply n → reply ≡ refused journal_fault
fault_is_told m n (Read name) reply f = absurd f
fault_is_told m n (Impact name query) reply f = absurd f
fault_is_told m n (Change name raw) reply f = f.2.1

-- The reply is neither `out_of_memory` nor `journal_fault`.
abbrev IsModels : ReplyValue → Type 0
IsModels reply = (reply ≢ refused out_of_memory) × (reply ≢ refused journal_fault)

-- What is said is neither.
abbrev SaysModels : Said → Type 0
SaysModels said = (said ≢ replied (refused out_of_memory)) × (said ≢ replied (refused journal_fault))

-- The reply that is said is neither.
models_said : (said : Said) (reply : ReplyValue) → said ≡ replied reply → SaysModels said → IsModels reply
models_said said reply is had = (λ e. had.0 (is ∙ ap replied e), λ e. had.1 (is ∙ ap replied e))

-- Without these two refusals, a call has only one reply, and only one table after it.
step_once : (m k l : TableModel) (call : Call) (given also : ReplyValue) → Answers m call given k → Answers m call also l
    → IsModels given → IsModels also → (given ≡ also) × (k ≡ l)
step_once m k l call given also (inl (inl a)) (inl (inl b)) had has = (a.0 ∙ sym b.0, a.1 ∙ sym b.1)
step_once m k l call given also (inl (inr a)) b had has = absurd (had.0 a.0)
step_once m k l call given also (inr a) b had has = absurd (had.1 (fault_is_told m k call given a))
step_once m k l call given also (inl (inl a)) (inl (inr b)) had has = absurd (has.0 b.0)
step_once m k l call given also (inl (inl a)) (inr b) had has = absurd (has.1 (fault_is_told m l call also b))

module _ (routed : (r : RequestValue) (x y : Result Call Refusal) → RoutesTo r x → RoutesTo r y → x ≡ y) where
  -- Without these two refusals, a request has only one reply, and only one table after it.
  answers_once : (j k l : TableModel) (r : RequestValue) (reply also : Said) → AnswersRequest (Plainly Answers) j r reply k
      → AnswersRequest (Plainly Answers) j r also l → SaysModels reply → SaysModels also → (reply ≡ also) × (k ≡ l)
  answers_once j k l r reply also (inr (inl a)) b had has = absurd (had.0 a.0)
  answers_once j k l r reply also a (inr (inl b)) had has = absurd (has.0 b.0)
  answers_once j k l r reply also (inl a) (inl b) had has =
      let same = routed r (Err a.0) (Err b.0) a.1 b.1 in
      let refusal : a.0 ≡ b.0 = cc in
      (a.2 ∙ ap (λ (r : Refusal). replied (refused (refusal_value r))) refusal ∙ sym b.2, a.3 ∙ sym b.3)
  answers_once j k l r reply also (inl a) (inr (inr b)) had has =
      let same = routed r (Err a.0) (Ok b.0) a.1 b.1 in cc
  answers_once j k l r reply also (inr (inr a)) (inl b) had has =
      let same = routed r (Ok a.0) (Err b.0) a.1 b.1 in cc
  answers_once j k l r reply also (inr (inr a)) (inr (inr b)) had has =
      let same = routed r (Ok a.0) (Ok b.0) a.1 b.1 in
      let call : a.0 ≡ b.0 = cc in
      let once = step_once j k l b.0 a.2.0 b.2.0 (subst (λ (x : Call). Answers j x a.2.0 k) call a.2.2) b.2.2
      (models_said reply a.2.0 a.2.1 had) (models_said also b.2.0 b.2.1 has) in
      (a.2.1 ∙ ap replied once.0 ∙ sym b.2.1, once.1)

  -- Without these two refusals, requests have only one list of replies, and only one table after
  -- them.
  runs_once : (j k l : TableModel) (xs ys : List Exchange) → requests_of xs ≡ requests_of ys → Runs (Plainly Answers) j xs k → Runs (Plainly Answers) j ys l
      → AllByRecursion IsUndisturbed xs → AllByRecursion IsUndisturbed ys → (xs ≡ ys) × (k ≡ l)
  runs_once j k l [] [] is run also had has = (refl, run ∙ sym also)
  runs_once j k l [] (y ∷ ys) is run also had has = cc
  runs_once j k l (x ∷ xs) [] is run also had has = cc
  runs_once j k l (x ∷ xs) (y ∷ ys) is run also had has =
      let others = runs_once run.0 k l xs ys requests run.2
      (subst (λ (m : TableModel). Runs (Plainly Answers) m ys l) (sym answer.1) also.2) had.1 has.1 in
      (ap₂ (λ z zs. z ∷ zs) (ap₂ (λ r v. record { request = r; reply = v }) request answer.0) others.0, others.1)
    where
      request : x.request ≡ y.request
      request = cc

      requests : requests_of xs ≡ requests_of ys
      requests = cc

      answer : (x.reply ≡ y.reply) × (run.0 ≡ also.0)
      answer = answers_once j run.0 also.0 y.request x.reply y.reply
          (subst (λ (r : RequestValue). AnswersRequest (Plainly Answers) j r x.reply run.0) request run.1) also.1 had.0 has.0

  pub one_output : ((bytes : List ℕ) (t u : Take) → Frames bytes t → Frames bytes u → t ≡ u)
      → (old new start other : TableValue) (bytes text also : List ℕ) (d e : Ended) → model_of old ≡ model_of start
      → HasOutput old new bytes text d → HasOutput start other bytes also e → (model_of new ≡ model_of other) × (text ≡ also) × (d ≡ e)
  one_output framed old new start other bytes text also d e is a b =
      let x = a.converses in
      let y = b.converses in
      let first = takes_over (Plainly AnswersCall) (Plainly Answers) model_of (λ s t call said step. (step.0, step.1, step.2.answered)) old new bytes x.course x.takes in
      let second = takes_over (Plainly AnswersCall) (Plainly Answers) model_of (λ s t call said step. (step.0, step.1, step.2.answered)) start other bytes y.course y.takes in
      let same = messages_once framed bytes (messages_of x.course) (messages_of y.course) d e x.takes.has x.stop y.takes.has y.stop in
      let run = runs_once (model_of start) (model_of new) (model_of other) x.course.exchanges y.course.exchanges
      (ap (λ (m : Messages). m.requests) same.0)
      (subst (λ (m : TableModel). Runs (Plainly Answers) m x.course.exchanges (model_of new)) is first.run) second.run a.undisturbed b.undisturbed in
      let course : x.course ≡ y.course =
      ap₂ (λ xs (m : Messages). record { exchanges = xs; rest = m.rest; refusal = m.refusal }) run.0 same.0 in
      (run.1, x.text_is ∙ ap course_text course ∙ sym y.text_is, same.1)
