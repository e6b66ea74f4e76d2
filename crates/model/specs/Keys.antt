-- SPECIFICATION, "What it holds".
use Rattle.std.specs.Prelude.{ℕ, ◌%◌}

-- the hash of a key is the key itself
unfoldable pub hash : ℕ → ℕ
hash key = key

-- a key's bucket in a table of that size
unfoldable pub bucket_of : ℕ → ℕ → ℕ
bucket_of key size = hash key % size
