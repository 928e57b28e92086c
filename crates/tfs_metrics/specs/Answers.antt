-- Counts of answered requests.
use Rattle.std.specs.Prelude.{ℕ, ◌≡◌, ◌&&◌, ◌++◌, Bool, List, [], ◌∷◌, Option, Some, None, nat_eq, set, position, replicate, slice_index_or, bytes_eq}
use Rattle.tfs_calls.specs.Refusal.{row_of}
use Rattle.tfs_calls.specs.Reply.{ReplyValue}
use Rattle.tfs_calls.specs.Reply.ReplyValue.{done, state, impact, refused}
use Rattle.tfs_metrics.specs.Durations.{sum_of, with_duration}
pub use Rattle.tfs_metrics.specs.declared.answers.AnswersRow.{AnswersRow}
use Rattle.tfs_metrics.specs.declared.durations.Durations.{Durations}
use Rattle.tfs_metrics.specs.declared.kind.Kind.{Kind}
use Rattle.tfs_metrics.specs.declared.kind.Kind.TheVariants.{Get, Post, Delete, Lock, Unlock, Impact, Other}

-- The number of a kind.
abbrev pub number_of : Kind → ℕ
number_of Get = 0
number_of Post = 1
number_of Delete = 2
number_of Lock = 3
number_of Unlock = 4
number_of Impact = 5
number_of Other = 6

-- The HTTP status of a reply (RFC 9110, section 15).
abbrev pub status_of : ReplyValue → ℕ
status_of (refused refusal) = (row_of refusal).status
status_of (done _) = 200
status_of (state _) = 200
status_of (impact _ _ _) = 200

-- The name of a reply's refusal; empty for any other reply.
abbrev pub refusal_of : ReplyValue → List ℕ
refusal_of (refused refusal) = (row_of refusal).name
refusal_of (done _) = []
refusal_of (state _) = []
refusal_of (impact _ _ _) = []

-- A row counts one answer: this reply to a request of this kind.
abbrev pub IsRowOf : Kind → ReplyValue → AnswersRow → Type 0
IsRowOf kind reply row = (row.kind ≡ kind) × (row.status ≡ status_of reply) × (row.refusal.now ≡ refusal_of reply) × (row.count ≡ 1)

-- True if both rows count answers of the same kind with the same status and refusal.
abbrev pub is_same : AnswersRow → AnswersRow → Bool
is_same a b = nat_eq (number_of a.kind) (number_of b.kind) && (nat_eq a.status b.status && bytes_eq a.refusal.now b.refusal.now)

-- A row with the counts of two rows.
abbrev pub sum_of_rows : AnswersRow → AnswersRow → AnswersRow
sum_of_rows a b = record a { count = sum_of a.count b.count }

-- The rows with a row added at its place, or appended.
abbrev pub with_row_at : Option ℕ → AnswersRow → List AnswersRow → List AnswersRow
with_row_at None row rows = rows ++ row ∷ []
with_row_at (Some place) row rows = set rows place (sum_of_rows (slice_index_or rows place row) row)

-- The rows with the count of a row added to the first row of the same answers, or with the row
-- appended if there is none.
abbrev pub with_row : AnswersRow → List AnswersRow → List AnswersRow
with_row row rows = with_row_at (position (λ one. is_same one row) rows) row rows

-- Counts of no duration.
abbrev pub no_durations : Durations
no_durations = record { buckets = replicate 11 0; micros = 0 }

-- Counts of durations with one more, in microseconds.
abbrev pub duration_added : ℕ → Durations → Durations
duration_added micros d = record { buckets = with_duration micros d.buckets; micros = sum_of d.micros micros }
