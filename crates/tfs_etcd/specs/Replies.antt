-- What the bodies of replies of etcd's JSON gateway mean (etcd 3.4: API reference). The gateway leaves out
-- members that are false, 0 or empty, and writes 64-bit numbers as texts.
use Rattle.std.specs.Prelude.{◌≡◌, ℕ, Bool, true, false, List, [], ◌∷◌, codes, decimal, Option, Some, None, option_and_then, option_map, Ok}
use Rattle.std.specs.Option.{unwrap_or}
use Rattle.base64.specs.GeneralPurpose.{decode_of}
use Rattle.base64.specs.Engines.{standard}
use Rattle.json.specs.Json.{Json, document}
use Rattle.serde_json.specs.Data.{Data, null, boolean, number, string, array, object}
use Rattle.tfs_json.specs.Json.{member_at, text_at, list_at}
use Rattle.tfs_json.specs.Tree.{tree_data}
use Rattle.tfs_etcd.specs.declared.lease.Lease.{Lease}
use Rattle.tfs_etcd.specs.declared.reply.TransactionReply.{TransactionReply}
use Rattle.tfs_etcd.specs.declared.reply.TransactionReply.TheVariants.{Done, Failed}

-- ---- A transaction with one read.

-- Whether a member is true.
abbrev pub is_true : Option Data → Bool
is_true None = false
is_true (Some null) = false
is_true (Some (boolean truth)) = truth
is_true (Some (number value)) = false
is_true (Some (string text)) = false
is_true (Some (array elements)) = false
is_true (Some (object fields)) = false

-- Whether the comparison held.
abbrev pub is_done : Data → Bool
is_done reply = is_true (member_at (codes "succeeded") reply)

-- The pairs of a response to a read.
abbrev pub pairs_of : Data → Option (List Data)
pairs_of response = option_and_then (list_at (codes "kvs")) (member_at (codes "response_range") response)

-- The pairs of the first of some responses.
abbrev pub pairs_in : Option (List Data) → Option (List Data)
pairs_in None = None
pairs_in (Some []) = None
pairs_in (Some (response ∷ responses)) = pairs_of response

-- The pairs that the first operation read.
abbrev pub pairs_found : Data → Option (List Data)
pairs_found reply = pairs_in (list_at (codes "responses") reply)

-- The text of a pair's value, which is empty if there is none.
abbrev pub value_text : Data → List ℕ
value_text pair = unwrap_or (text_at (codes "value") pair) []

-- The value of the first pair, if there is one.
abbrev pub HasValue : List Data → Option (List ℕ) → Type 0
HasValue [] None = Unit {0}
HasValue [] (Some bytes) = ⊥
HasValue (pair ∷ pairs) None = ⊥
HasValue (pair ∷ pairs) (Some bytes) = decode_of standard (value_text pair) ≡ Ok bytes

-- What a reply to a transaction means.
abbrev pub IsTransaction : Data → TransactionReply → Type 0
IsTransaction reply Done = is_done reply ≡ true
IsTransaction reply (Failed found) =
    (is_done reply ≡ false) × ((pairs : List Data) × (pairs_found reply ≡ Some pairs) × HasValue pairs (option_map (λ bytes. bytes.items) found))

-- ---- Leases.

-- The seconds of a lease: 0 if there are none.
abbrev pub IsSeconds : Option (List ℕ) → ℕ → Type 0
IsSeconds None seconds = seconds ≡ 0
IsSeconds (Some text) seconds = text ≡ decimal seconds

-- A reply is about a lease.
pub record IsLease (reply : Data) (lease : Lease) : Type 0 where
  pub id : text_at (codes "ID") reply ≡ Some (decimal lease.id)
  pub seconds : IsSeconds (text_at (codes "TTL") reply) lease.seconds

-- The reply to a renewal is about a lease.
abbrev pub IsKept : Data → Lease → Type 0
IsKept reply lease = (renewal : Data) × (member_at (codes "result") reply ≡ Some renewal) × IsLease renewal lease

-- ---- Bodies.

-- The JSON value of a body means this.
abbrev pub Means : (Data → Type 0) → List ℕ → Type 0
Means meaning body = (tree : Json) × (document body ≡ Some tree) × meaning (tree_data tree)
