-- The work of a worker: it asks its gate for connections, and answers the calls on each connection
-- that the gate admits.
use Rattle.std.specs.Prelude.{◌≡◌, ℕ, All, Bool, true, false, List, [], ◌∷◌, ◌++◌, flat_map, Option, if◌then◌else◌}
use Rattle.tfs_calls.specs.declared.call.Call.{Call}
use Rattle.tfs_calls.specs.Reply.{ReplyValue}
use Rattle.tfs_conversation.specs.Conversation.{HasSpoken, Said, is_open}
use Rattle.tfs_connections.specs.declared.written.Written.{Written}
use Rattle.tfs_records.specs.Journal.{Journal}
use Rattle.tfs_shared.specs.View.{SessionView}
use Rattle.tfs_serve.specs.Gate.{Event, asked, before, after, Hears}
use Rattle.tfs_serve.specs.Hold.{IsDurable}
use Rattle.tfs_serve.specs.Session.{CaughtUpStep, reply_said}

-- A call and its reply, whether the reply may be written to the connection, and the journal that
-- the session has seen then.
pub record Answer : Type 0 where
  pub call : Call
  pub reply : ReplyValue
  pub opened : Bool
  pub seen : Journal

-- The events of an answer.
abbrev pub heard_of : Answer → List Event
heard_of a = before a.call ∷ after a.reply ∷ []

-- The events of a connection that the gate admits, with these answers.
abbrev pub heard_of_connection : List Answer → List Event
heard_of_connection answers = asked true ∷ flat_map heard_of answers

-- A session of a table with an opening journal gives these answers in order, each by a step before
-- which it may catch up, and changes in no other way.
abbrev pub Gives : Journal → SessionView → List Answer → SessionView → Type 0
Gives opening old [] new = new ≡ old
Gives opening old (a ∷ more) new = (between : SessionView) × CaughtUpStep opening old a.call a.reply between
    × (a.seen ≡ between.journal) × Gives opening between more new

-- A session gives these answers on one connection after another.
abbrev pub GivesOn : Journal → SessionView → List (List Answer) → SessionView → Type 0
GivesOn opening old [] new = new ≡ old
GivesOn opening old (answers ∷ connections) new =
    (between : SessionView) × Gives opening old answers between × GivesOn opening between connections new

-- A session has answered calls. The gate has heard of all of these, and of nothing else.
pub record HasAnswered (opening : Journal) (told now : Option (List Event)) (old new : SessionView) : Type 0 where
  pub answers : List Answer
  pub heard : Hears told now (flat_map heard_of answers)
  pub gives : Gives opening old answers new

-- A session has worked: on each connection that the gate admitted, one after another, it has
-- answered calls. The gate has heard of all of that, then of this end, and of nothing else.
pub record HasWorked (opening : Journal) (told now : Option (List Event)) (old new : SessionView) (end : List Event) : Type 0 where
  pub connections : List (List Answer)
  pub heard : Hears told now (flat_map heard_of_connection connections ++ end)
  pub gives : GivesOn opening old connections new

-- The step of a desk that gives exactly these answers in order: it gives the first, and the others
-- are left.
abbrev pub GivesFirst : List Answer → Call → Said → List Answer → Type 0
GivesFirst answers call said left = (seen : Journal)
    × (answers ≡ record { call = call; reply = reply_said said; opened = is_open said; seen = seen } ∷ left)

-- Each answer whose reply may be written is over a journal whose bytes are durable.
abbrev pub AreHeld : (ℕ → Type 0) → List Answer → Type 0
AreHeld durable = All (λ a. a.opened ≡ true → IsDurable durable a.seen)

-- The bytes were read from a connection, and the text was written to it, by a conversation in which
-- the desk gave exactly these answers: for each message of the bytes in order, the reply of the
-- next answer, or a refusal made without the desk. Nothing of a withheld reply is written. After a
-- fault, the end of the text may be missing. What may be written is durable.
pub record IsReplied (durable : ℕ → Type 0) (answers : List Answer) (bytes text : List ℕ) : Type 0 where
  pub held : AreHeld durable answers
  pub talked : HasSpoken GivesFirst answers [] bytes text

-- Conversations with these answers read these bytes from the connections, and wrote these texts to
-- them: one of each for each connection, in order.
abbrev pub AreReplied : (ℕ → Type 0) → List (List Answer) → List (List ℕ) → List (List ℕ) → Type 0
AreReplied durable [] read texts = (read ≡ []) × (texts ≡ [])
AreReplied durable (answers ∷ connections) [] texts = ⊥
AreReplied durable (answers ∷ connections) (bytes ∷ read) [] = ⊥
AreReplied durable (answers ∷ connections) (bytes ∷ read) (text ∷ texts) =
    IsReplied durable answers bytes text × AreReplied durable connections read texts

-- A session has answered calls on a connection. The bytes read from it and the text written to it
-- are from a conversation with these answers.
pub record HasConversed (durable : ℕ → Type 0) (opening : Journal) (told now : Option (List Event)) (old new : SessionView) (bytes text : List ℕ)
    : Type 0
  where
    pub answered : HasAnswered opening told now old new
    pub replied : IsReplied durable answered.answers bytes text

-- What was read from connections and written to them goes on with that of more connections.
pub record GoesOnWith (from to : Written) (read texts : List (List ℕ)) : Type 0 where
  pub has_read : to.read ≡ from.read ++ read
  pub has_written : to.texts ≡ from.texts ++ texts

-- No connection was read from or written to.
abbrev pub nothing_written : Written
nothing_written = record { read = []; texts = [] }

-- A session has worked. What was read from its connections and written to them is from
-- conversations with its answers, and follows what was read and written before.
pub record HasReplied (durable : ℕ → Type 0) (opening : Journal) (told now : Option (List Event)) (old new : SessionView) (end : List Event)
    (from to : Written) : Type 0 where
  pub worked : HasWorked opening told now old new end
  pub read : List (List ℕ)
  pub texts : List (List ℕ)
  pub since : GoesOnWith from to read texts
  pub replied : AreReplied durable worked.connections read texts

-- The last event of a worker's gate: it was asked for a connection and said no, unless the listener
-- failed.
abbrev pub end_of_work : Bool → List Event
end_of_work failed = if failed then [] else (asked false ∷ [])
