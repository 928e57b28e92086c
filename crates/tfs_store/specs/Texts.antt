-- The texts of the store's keys and values.
use Rattle.std.specs.Prelude.{ℕ, ◌-◌, ◌^◌, false, List, [], ◌++◌, ◌∷◌, codes, decimal, Option, Some, None}
use Rattle.std.specs.Fmt.{padded_integral, format_spec}
use Rattle.tfs_store.specs.Values.{RowValue}
use Rattle.tfs_store.specs.declared.head.Head as head
use Rattle.tfs_store.specs.declared.key.Key.{Key}
use Rattle.tfs_store.specs.declared.key.Key.TheVariants.{Head, Leader, Row, Piece}
use Rattle.tfs_store.specs.declared.place.Place.{Place}

-- The text of a head: `POSITION TOKEN`.
abbrev pub head_text : head.Head → List ℕ
head_text h = decimal h.position ++ 32 ∷ decimal h.token

-- The text of a place: `POSITION-TOKEN-LENGTH`.
abbrev pub place_text : Place → List ℕ
place_text p = decimal p.position ++ 45 ∷ (decimal p.token ++ 45 ∷ decimal p.length)

-- The text of a state's place: `-` if there is no state.
abbrev pub state_text : Option Place → List ℕ
state_text None = codes "-"
state_text (Some place) = place_text place

-- The text of a holder: `free`, or `locked` and the lock information.
abbrev pub holder_text : Option (List ℕ) → List ℕ
holder_text None = codes "free"
holder_text (Some info) = codes "locked " ++ info

-- The value of a row: `POSITION STATE HOLDER`. The name is in the row's key.
abbrev pub row_text : RowValue → List ℕ
row_text r = decimal r.position ++ 32 ∷ (state_text r.state ++ 32 ∷ holder_text r.holder)

-- The text of a piece's sequence number: in decimal, with zeros before it up to six digits, so that the
-- keys of a state are in the order of its pieces.
abbrev pub sequence_text : ℕ → List ℕ
sequence_text n = padded_integral (format_spec 32 0 4 6 (2 ^ 64 - 1)) false [] (decimal n)

-- The text of a key.
abbrev pub key_text : List ℕ → Key → List ℕ
key_text prefix Head = prefix ++ codes "/head"
key_text prefix Leader = prefix ++ codes "/leader"
key_text prefix (Row name) = prefix ++ (codes "/r/" ++ name)
key_text prefix (Piece name position token sequence) =
    prefix ++ (codes "/s/" ++ (name ++ (codes "/" ++ (decimal position ++ (codes "-" ++ (decimal token ++ (codes "/" ++ sequence_text sequence)))))))

-- The text of the key of a row.
abbrev pub row_key : List ℕ → List ℕ → List ℕ
row_key prefix name = key_text prefix (Row name)
