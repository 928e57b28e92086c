-- What the reply to a range means.
use Rattle.std.specs.Prelude.{◌≡◌, ℕ, List, [], codes, Some, Ok}
use Rattle.std.specs.List.{AllZip}
use Rattle.std.specs.Option.{unwrap_or}
use Rattle.base64.specs.GeneralPurpose.{decode_of}
use Rattle.base64.specs.Engines.{standard}
use Rattle.serde_json.specs.Data.{Data}
use Rattle.tfs_json.specs.Json.{member_at, text_at, list_at}
use Rattle.tfs_store.specs.Rows.{PairValue}
use Rattle.tfs_etcd.specs.Replies.{is_true, value_text}
use Rattle.tfs_etcd.specs.declared.pairs.Range.{Range}

-- The text of a pair's key, which is empty if there is none.
abbrev pub key_text : Data → List ℕ
key_text pair = unwrap_or (text_at (codes "key") pair) []

-- A member is a pair: both texts are in base64.
pub record IsPair (member : Data) (pair : PairValue) : Type 0 where
  pub key : decode_of standard (key_text member) ≡ Ok pair.key
  pub value : decode_of standard (value_text member) ≡ Ok pair.value

-- A reply has these pairs, in order, and says whether there are more than the limit.
pub record IsRange (reply : Data) (range : Range) : Type 0 where
  pub members : List Data
  pub found : list_at (codes "kvs") reply ≡ Some members
  pub pairs : AllZip IsPair members range.pairs.items
  pub more : range.more ≡ is_true (member_at (codes "more") reply)
