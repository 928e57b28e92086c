-- The lookup of the instances that a text may name: the instances whose address has the same bits
-- in its digest.
use Rattle.std.specs.Prelude.{◌≡◌, ℕ, ◌<◌, List, length, slice_get, Option, Some, bit_and}
use Rattle.tfs_state.specs.Digest.{digest_of}
use Rattle.tfs_state.specs.Document.{Document}
use Rattle.tfs_state.specs.Dependency.{address_of, config_of}
use Rattle.tfs_index.specs.declared.directory.Directory.{Directory}

-- The bucket of a text: some bits of its digest.
abbrev pub bucket_of : ℕ → List ℕ → ℕ
bucket_of mask text = bit_and (digest_of text) mask

-- The numbers are the buckets of the instances' texts.
abbrev pub AreBuckets : ℕ → (ℕ → Option (List ℕ)) → List ℕ → Type 0
AreBuckets mask text_of numbers =
    (v : ℕ) (text : List ℕ) → v < length numbers → text_of v ≡ Some text → slice_get numbers v ≡ Some (bucket_of mask text)

-- The instances of a document by the buckets of their addresses, and by the buckets of their
-- configuration addresses.
pub record IsDirectory (d : Document) (directory : Directory) : Type 0 where
  pub addresses_len : length directory.addresses ≡ length d.instances
  pub addresses : AreBuckets directory.mask (address_of d) directory.addresses
  pub configs_len : length directory.configs ≡ length d.instances
  pub configs : AreBuckets directory.mask (config_of d) directory.configs
