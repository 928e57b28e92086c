-- Pictures of dependencies, line by line (Graphviz, 'DOT Language': quoted texts).
use Rattle.std.specs.Prelude.{ℕ, List, [], ◌∷◌, ◌++◌, ◌==◌, codes, if◌then◌else◌}
use Rattle.std.specs.List.{flat_map, list_any}
use Rattle.std.specs.Option.{unwrap_or}
use Rattle.tfs_state.specs.Document.{Document}
use Rattle.tfs_state.specs.Dependency.{address_of}
use Rattle.tfs_index.specs.Reach.{depends_on}

-- A byte of a quoted text: quotes, backslashes and line feeds are escaped with a backslash.
abbrev pub escaped : ℕ → List ℕ
escaped byte = if byte == 34 then codes "\\\"" else (if byte == 92 then codes "\\\\" else (if byte == 10 then codes "\\n" else byte ∷ []))

-- The address of an instance in quotes.
abbrev pub quoted : Document → ℕ → List ℕ
quoted d u = 34 ∷ (flat_map escaped (unwrap_or (address_of d u) []) ++ 34 ∷ [])

-- The line of an instance, which is filled if it is chosen.
abbrev pub node_line : Document → List ℕ → ℕ → List ℕ
node_line d chosen u = codes "  " ++ (quoted d u ++ (if list_any (λ c. c == u) chosen then codes " [style=filled];\n" else codes ";\n"))

-- The line of a pair whose first depends on the second.
abbrev pub edge_line : Document → ℕ × ℕ → List ℕ
edge_line d pair = codes "  " ++ (quoted d pair.0 ++ (codes " -> " ++ (quoted d pair.1 ++ codes ";\n")))

-- The pair of two instances, if the first depends on the second.
abbrev pub pair_of : Document → ℕ → ℕ → List (ℕ × ℕ)
pair_of d u v = if depends_on d u v then (u, v) ∷ [] else []

-- The pairs of an instance and each of `among` that it depends on.
abbrev pub pairs_from : Document → ℕ → List ℕ → List (ℕ × ℕ)
pairs_from d u among = flat_map (pair_of d u) among

-- The pairs of these instances whose first depends on the second.
abbrev pub pairs_among : Document → List ℕ → List (ℕ × ℕ)
pairs_among d among = flat_map (λ u. pairs_from d u among) among

-- The picture of some instances: a line for each, and a line for each pair whose first depends on
-- the second.
abbrev pub picture_text : Document → List ℕ → List ℕ → List ℕ
picture_text d among chosen = codes "digraph {\n" ++ (flat_map (node_line d chosen) among ++ (flat_map (edge_line d) (pairs_among d among) ++ codes "}\n"))
