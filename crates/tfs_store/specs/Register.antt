-- A register that servers change only by moves of its head, and all that can happen to it and them.
use Rattle.std.specs.Prelude.{◌≡◌, ℕ, ◌<◌, ◌==◌, ◌&&◌, ◌⊎◌, ◌++◌, nat_lt, Bool, true, false, List, [], ◌∷◌, find, Option, Some, None, is_none, if◌then◌else◌}
use Rattle.std.specs.List.{slice_get}
use Rattle.std.specs.Option.{option_or}
use Rattle.std.specs.Str.{bytes_eq}
use Rattle.tfs_store.specs.Values.{RowValue, MoveValue}
use Rattle.tfs_store.specs.declared.head.Head.{Head}
use Rattle.tfs_store.specs.declared.store.Answer.{Answer}
use Rattle.tfs_store.specs.declared.store.Answer.TheVariants.{Moved, Found, Unknown}

-- ---- The register.

-- The head of a store, and its row of each name.
pub record Register : Type 0 where
  pub head : Option Head
  pub rows : List ℕ → Option RowValue

-- Whether two heads are the same: both are missing, or position and token are equal.
abbrev pub same_head : Option Head → Option Head → Bool
same_head None None = true
same_head None (Some k) = false
same_head (Some h) None = false
same_head (Some h) (Some k) = (h.position == k.position) && (h.token == k.token)

-- The position of a head: 0 if there is none.
abbrev pub position_of : Option Head → ℕ
position_of None = 0
position_of (Some h) = h.position

-- The row of a name among the rows of a move.
abbrev pub row_in : List ℕ → List RowValue → Option RowValue
row_in name rows = find (λ (row : RowValue). bytes_eq row.name name) rows

-- The rows with those of a move.
abbrev pub rows_with : List RowValue → (List ℕ → Option RowValue) → List ℕ → Option RowValue
rows_with put rows name = option_or (row_in name put) (rows name)

-- The register after a move whose head is compared with this outcome.
abbrev pub moved_if : Bool → MoveValue → Register → Register
moved_if true m r = record { head = Some m.to; rows = rows_with m.rows r.rows }
moved_if false m r = r

-- The answer to a move whose head is compared with this outcome.
abbrev pub answer_if : Bool → Register → Answer
answer_if true r = Moved
answer_if false r = Found r.head

-- ---- Servers.

-- The move that a server makes: from the head that it knows, to a head with its token.
abbrev pub move_of : ℕ → Option Head → ℕ → List RowValue → MoveValue
move_of token head position rows = record { from = head; to = record { position = position; token = token }; rows = rows }

-- Whether an answer shows that the move was carried out: it says so, or it has the head that the move
-- makes.
abbrev pub is_done : MoveValue → Answer → Bool
is_done m Moved = true
is_done m (Found head) = same_head head (Some m.to)
is_done m Unknown = false

-- A server: the head and the rows that it knows; the moves that were carried out before it started,
-- and its own moves that answers showed to be done, newest first; and the move that it waits for.
-- While it waits, it makes no other move.
pub record Server : Type 0 where
  pub head : Option Head
  pub rows : List ℕ → Option RowValue
  pub before : List MoveValue
  pub done : List MoveValue
  pub waiting : Option MoveValue

-- ---- All that can happen.

-- The register, the moves that were carried out, newest first, the servers by their tokens, every
-- move that was ever sent, and every answer that was ever given.
pub record World : Type 0 where
  pub register : Register
  pub moves : List MoveValue
  pub servers : ℕ → Option Server
  pub sent : List MoveValue
  pub answers : List (MoveValue × Answer)

-- An empty register without servers.
abbrev pub empty : World
empty = record { register = record { head = None; rows = λ name. None }; moves = []; servers = λ token. None; sent = []; answers = [] }

-- What may happen next. A loss is an arrival or an answer that never comes; a move that is sent
-- again is another arrival; a server that stops does nothing more.
pub data Event : Type 0 where
  Start : (token : ℕ) → Event
  Send : (token position : ℕ) (rows : List RowValue) → Event
  Arrive : (which : ℕ) → Event
  Hear : (token which : ℕ) → Event

-- The servers, with this one under a token.
abbrev pub put_server : ℕ → Server → (ℕ → Option Server) → ℕ → Option Server
put_server token s servers t = if t == token then Some s else servers t

-- A server starts under a token that no server had, and reads head and rows at one moment.
abbrev pub started : ℕ → Option Server → World → World
started token (Some s) w = w
started token None w =
    let s : Server = record { head = w.register.head; rows = w.register.rows; before = w.moves; done = []; waiting = None } in
    record { register = w.register; moves = w.moves; servers = put_server token s w.servers; sent = w.sent; answers = w.answers }

-- A server sends a move, if it may.
abbrev pub sent_if : Bool → ℕ → MoveValue → Server → World → World
sent_if true token m s w =
    let s' : Server = record { head = s.head; rows = s.rows; before = s.before; done = s.done; waiting = Some m } in
    record { register = w.register; moves = w.moves; servers = put_server token s' w.servers; sent = m ∷ w.sent; answers = w.answers }
sent_if false token m s w = w

-- A server that waits for nothing sends a move to a later position.
abbrev pub sent_by : ℕ → ℕ → List RowValue → Option Server → World → World
sent_by token position rows None w = w
sent_by token position rows (Some s) w =
    sent_if (is_none s.waiting && nat_lt (position_of s.head) position) token (move_of token s.head position rows) s w

-- A move arrives, with this outcome of its comparison.
abbrev pub arrived_if : Bool → MoveValue → World → World
arrived_if found m w = record {
  register = moved_if found m w.register;
  moves = if found then m ∷ w.moves else w.moves;
  servers = w.servers;
  sent = w.sent;
  answers = (m, answer_if found w.register) ∷ w.answers;
}

-- One of the moves that were sent arrives, for the first time or again.
abbrev pub arrived : Option MoveValue → World → World
arrived None w = w
arrived (Some m) w = arrived_if (same_head w.register.head m.from) m w

-- A server hears that its move is done, if it is.
abbrev pub heard_if : Bool → ℕ → MoveValue → Server → World → World
heard_if true token m s w =
    let s' : Server = record { head = Some m.to; rows = rows_with m.rows s.rows; before = s.before; done = m ∷ s.done; waiting = None } in
    record { register = w.register; moves = w.moves; servers = put_server token s' w.servers; sent = w.sent; answers = w.answers }
heard_if false token m s w = w

-- A server that waits for a move hears an answer to a move to the same head.
abbrev pub heard_by : ℕ → Option MoveValue → Server → Option (MoveValue × Answer) → World → World
heard_by token None s answer w = w
heard_by token (Some m) s None w = w
heard_by token (Some m) s (Some answer) w =
    heard_if (same_head (Some m.to) (Some (answer.0).to) && is_done m answer.1) token m s w

-- A server hears one of the answers.
abbrev pub heard : ℕ → Option Server → Option (MoveValue × Answer) → World → World
heard token None answer w = w
heard token (Some s) answer w = heard_by token s.waiting s answer w

-- The world after an event.
abbrev pub happens : World → Event → World
happens w (Start token) = started token (w.servers token) w
happens w (Send token position rows) = sent_by token position rows (w.servers token) w
happens w (Arrive which) = arrived (slice_get w.sent which) w
happens w (Hear token which) = heard token (w.servers token) (slice_get w.answers which) w

-- The world after events.
abbrev pub run : List Event → World → World
run [] w = w
run (e ∷ es) w = run es (happens w e)

-- ---- What holds of every world.

-- An element of a list.
abbrev pub Has : {X : Type 0} → List X → X → Type 0
Has [] x = ⊥
Has (y ∷ ys) x = (y ≡ x) ⊎ Has ys x

-- The head that a list of moves leaves, the newest first.
abbrev pub head_of : List MoveValue → Option Head
head_of [] = None
head_of (m ∷ ms) = Some m.to

-- Each move was made from the head that its predecessor left, to a later position.
abbrev pub IsChain : List MoveValue → Type 0
IsChain [] = Unit {0}
IsChain (m ∷ ms) = (m.from ≡ head_of ms) × (position_of m.from < m.to.position) × IsChain ms

-- The row of a name that a list of moves leaves: that of the newest move with a row of the name.
abbrev pub newest : List ℕ → List MoveValue → Option RowValue
newest name [] = None
newest name (m ∷ ms) = option_or (row_in name m.rows) (newest name ms)

-- The first list's end is the second one.
pub record EndsWith (moves last : List MoveValue) : Type 0 where
  pub newer : List MoveValue
  pub are : moves ≡ newer ++ last

-- A server knows what its own moves and the earlier ones leave. No other server's move is among its own.
pub record Knows (s : Server) (moves : List MoveValue) : Type 0 where
  pub carried : EndsWith moves (s.done ++ s.before)
  pub head : s.head ≡ head_of (s.done ++ s.before)
  pub rows : (name : List ℕ) → s.rows name ≡ newest name (s.done ++ s.before)
