-- What the two readings see: the chains of some buckets of one table, one after the other. Once they are known to be sound,
-- neither the keys nor the capacity nor a budget are asked for: the entry buffer alone says what a chain is.
use Rattle.std.specs.Prelude.{ℕ, Bool, List, [], ◌∷◌, get_or}
use Rattle.std.proofs.Math.Option.{Option, some}
use Rattle.cursor.specs.Group.{two_tables}
use Rattle.model.specs.Keys.{bucket_of}
use Rattle.model.specs.Memory.{chain, in_bucket, any_key}
use Rattle.model.specs.Walk.{joined}
use Rattle.model.proofs.Linked.{room}
use Rattle.memory.specs.Length.{bucket_chain}
use Rattle.scan_group.specs.declared.lent.Entries.{Entries}
use Rattle.scan_group.specs.declared.lent.LiveTable.{LiveTable}
use Rattle.scan_group.specs.declared.lent.LiveChain.{LiveChain}
use Rattle.scan_group.specs.declared.lent.Group.{Group}

-- the test of the keys on a chain goes by its bucket
unfoldable pub chains : (ℕ → ℕ → Bool) → List ℕ → ℕ → ℕ → List ℕ → List ℕ → Option (List ℕ)
chains test entries capacity used buckets [] = some []
chains test entries capacity used buckets (b ∷ bs) =
    joined (chain (test b) entries capacity used (get_or buckets b 0)) (chains test entries capacity used buckets bs)

-- a chain from its first entry on, as one of bucket b
abbrev pub chain_from : Entries → LiveChain → ℕ → Option (List ℕ)
chain_from e c b = chain (in_bucket c.size b) e.fields.now e.capacity c.used c.head

-- the chain of a bucket of a live table, ..
abbrev pub table_chain : Entries → LiveTable → ℕ → Option (List ℕ)
table_chain e t b = bucket_chain t.size e.fields.now e.capacity t.used t.buckets.now b

-- .. and those of some buckets
abbrev pub table_chains : Entries → LiveTable → List ℕ → Option (List ℕ)
table_chains e t bs = chains (in_bucket t.size) e.fields.now e.capacity t.used t.buckets.now bs

-- the larger table's buckets of a group
abbrev pub larger_buckets : Group → List ℕ
larger_buckets g = (two_tables g.small.size g.large.size g.cursor).large

-- the chain of the cursor's bucket in the smaller table, then those of the larger one's buckets
unfoldable pub group_chains : Group → Option (List ℕ)
group_chains g =
    joined (chain_from g.entries g.small (bucket_of g.cursor g.small.size))
    (table_chains g.entries g.large (larger_buckets g))

-- a chain, and those of some buckets, with no limit but the entry buffer
unfoldable pub linked : List ℕ → ℕ → Option (List ℕ)
linked entries head = chain any_key entries (room entries) (room entries) head

unfoldable pub all_linked : List ℕ → List ℕ → List ℕ → Option (List ℕ)
all_linked entries buckets bs = chains (λ b. any_key) entries (room entries) (room entries) buckets bs

-- those of a group
abbrev pub group_linked : Group → Option (List ℕ)
group_linked g =
    joined (linked g.entries.fields.now g.small.head)
    (all_linked g.entries.fields.now g.large.buckets.now (larger_buckets g))
