-- The members or elements found so far, followed by the kept part of the rest, are the kept part of
-- the whole.
use Rattle.std.proofs.Common.{◌≡◌, ℕ, ◌+◌, ◌*◌, ◌≤◌, length}
use Rattle.json.specs.Json.{items, members, value, parse_map}
use Rattle.json.proofs.Trees.{items_before, members_before}
use Rattle.serde_json.specs.Read.{converted}
use Rattle.tfs_json.specs.Kept.{kept_items, kept_members}
use Rattle.tfs_json.proofs.reading.+read.Given as goal

abbrev pub decreases-read : goal.decreases-read
decreases-read g l = 3 * l.depth

abbrev pub decreases-read_items : goal.decreases-read_items
decreases-read_items g l = 3 * l.depth + 2

abbrev pub decreases-read_members : goal.decreases-read_members
decreases-read_members g l = 3 * l.depth + 2

abbrev pub decreases-take_member : goal.decreases-take_member
decreases-take_member g l = 3 * l.depth + 1

abbrev pub invariant-read_items-items : goal.invariant-read_items-items
invariant-read_items-items g l =
    (n : ℕ) × (length l.reader ≤ n)
    × (converted kept_items (items (value l.depth) (length l.initial.reader) l.initial.reader)
    ≡ parse_map (items_before l.found.items) (converted kept_items (items (value l.depth) n l.reader)))
    × (length l.reader ≤ length l.initial.reader)

abbrev pub decreases-read_items-items : goal.decreases-read_items-items
decreases-read_items-items g l = length l.reader

abbrev pub invariant-read_members-members : goal.invariant-read_members-members
invariant-read_members-members g l =
    (n : ℕ) × (length l.reader ≤ n)
    × (converted kept_members (members (value l.depth) (length l.initial.reader) l.initial.reader)
    ≡ parse_map (members_before l.found.items) (converted kept_members (members (value l.depth) n l.reader)))
    × (length l.reader ≤ length l.initial.reader)

abbrev pub decreases-read_members-members : goal.decreases-read_members-members
decreases-read_members-members g l = length l.reader
