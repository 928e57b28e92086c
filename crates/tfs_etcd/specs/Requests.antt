-- The bodies of requests to etcd's JSON gateway (etcd 3.4: API reference). Keys and values are in base64,
-- numbers are texts.
use Rattle.std.specs.Prelude.{ℕ, List, ◌++◌, codes, decimal}
use Rattle.std.specs.List.{flat_map}
use Rattle.base64.specs.GeneralPurpose.{encode_of}
use Rattle.base64.specs.Engines.{standard}
use Rattle.tfs_etcd.specs.declared.transaction.Compare.{Compare}
use Rattle.tfs_etcd.specs.declared.transaction.Compare.TheVariants.{Absent, Value}
use Rattle.tfs_store.specs.Rows.{PairValue}

-- Bytes in base64.
abbrev pub coded : List ℕ → List ℕ
coded bytes = encode_of standard bytes

abbrev pub read_text : List ℕ → List ℕ
read_text key = codes "{\"key\":\"" ++ (coded key ++ codes "\"}")

abbrev pub range_text : List ℕ → List ℕ → ℕ → List ℕ
range_text key end limit =
    codes "{\"key\":\"" ++ (coded key ++ (codes "\",\"range_end\":\"" ++ (coded end ++ (codes "\",\"limit\":\"" ++ (decimal limit ++ codes "\"}")))))

abbrev pub put_text : List ℕ → List ℕ → List ℕ
put_text key value = codes "{\"key\":\"" ++ (coded key ++ (codes "\",\"value\":\"" ++ (coded value ++ codes "\"}")))

abbrev pub grant_text : ℕ → List ℕ
grant_text seconds = codes "{\"TTL\":\"" ++ (decimal seconds ++ codes "\"}")

abbrev pub lease_text : ℕ → List ℕ
lease_text lease = codes "{\"ID\":\"" ++ (decimal lease ++ codes "\"}")

-- ---- A transaction.

-- The comparison: the key was never created, or has a value.
abbrev pub compare_text : Compare → List ℕ
compare_text (Absent key) = codes "{\"key\":\"" ++ (coded key.now ++ codes "\",\"target\":\"CREATE\",\"create_revision\":\"0\"}")
compare_text (Value key value) =
    codes "{\"key\":\"" ++ (coded key.now ++ (codes "\",\"target\":\"VALUE\",\"value\":\"" ++ (coded value.now ++ codes "\"}")))

-- A put in a transaction, and one after another put.
abbrev pub put_operation : PairValue → List ℕ
put_operation put = codes "{\"request_put\":" ++ (put_text put.key put.value ++ codes "}")

abbrev pub later_operation : PairValue → List ℕ
later_operation put = codes "," ++ put_operation put

-- The transaction: one comparison, puts if it holds, and a read if it does not.
abbrev pub transaction_text : Compare → PairValue → List PairValue → List ℕ → List ℕ
transaction_text compare first more read =
    codes "{\"compare\":[" ++ (compare_text compare ++ (codes "],\"success\":["
    ++ ((put_operation first ++ flat_map later_operation more) ++ (codes "],\"failure\":[{\"request_range\":" ++ (read_text read ++ codes "}]}")))))
