-- The positions that replies report with accepted changes.
use Rattle.std.specs.Prelude.{◌≡◌, ◌≤◌, ◌<◌, ◌==◌, ℕ, List, [], ◌∷◌, flat_map}
use Rattle.std.specs.List.{count_by}
use Rattle.tfs_records.specs.Journal.{Journal, position_of}
use Rattle.tfs_calls.specs.Reply.{ReplyValue, done, state, impact, refused}
use Rattle.tfs_serve.specs.Working.{Answer}

-- The position that a reply reports, if it reports an accepted change.
abbrev pub position_told : ReplyValue → List ℕ
position_told (done position) = position ∷ []
position_told (state d) = []
position_told (impact d chosen position) = []
position_told (refused refusal) = []

-- The positions that answers report, in order.
abbrev pub positions_told : List Answer → List ℕ
positions_told = flat_map (λ a. position_told a.reply)

-- The number of times that a position is reported.
abbrev pub times : ℕ → List ℕ → ℕ
times position = count_by (λ told. told == position)

-- Each position after that of the opening journal, up to that of the last one, is reported exactly
-- once.
abbrev pub AreToldOnce : Journal → Journal → List ℕ → Type 0
AreToldOnce opening last told = (position : ℕ) → position_of opening < position → position ≤ position_of last → times position told ≡ 1
