-- Wrong stores by a call on a key.
use Rattle.std.specs.Prelude.{ℕ, Bool, not, List, [], ◌∷◌, ◌++◌, set, eqb, Result, Err}
use Rattle.cursor.specs.Member.{keep}
use Rattle.model.specs.declared.State.{State}
use Rattle.model.specs.declared.Table.{Table}
use Rattle.model.specs.declared.Error.{Error}
use Rattle.model.specs.declared.Lookup.{Lookup}
use Rattle.model.specs.Keys.{bucket_of}
use Rattle.model.specs.Memory.{key_of, set_link, set_key, size_of, used_of, buckets_of, key_place, entries_at}
use Rattle.model.specs.Answers.{reply, value_reply, state_reply}
use Rattle.model.specs.Calls.{After, oriented, back, writing, changed, recounted, pushed, target, added}
use Rattle.model.specs.Sequences.{World, Call, Outcome, kept, left, given}
use Rattle.wrong_stores.specs.OneCall.{but_find, but_update, but_add, but_delete, if_done, answering, handing_back, leaving}

-- Find, and change.

-- finds no key
unfoldable pub finds_nothing : World → Call → Outcome
finds_nothing = but_find (λ key w o. kept w (value_reply w.state (Err Error.Absent)) [])

-- finds every value to be 0
unfoldable pub finds_zero : World → Call → Outcome
finds_zero = but_find (λ key w o. if_done (answering (0 ∷ []) o) o)

-- a change that writes nothing
unfoldable pub writes_nothing : World → Call → Outcome
writes_nothing = but_update (λ key value w o. kept w o.reply [])

-- Add.

-- an add that does nothing
unfoldable pub adds_nothing : World → Call → Outcome
adds_nothing = but_add (λ key value w o. kept w (reply o.reply.number [] w.state) [])

-- the outcome of another add on the state and the lent buffers
unfoldable pub adding : World → (State → List ℕ → List ℕ → List ℕ → After (Result State Error)) → Outcome
adding w add =
    left (state_reply w.state)
    (given w
    (λ s first second entries.
    writing s first second entries (Err Error.BadState) (λ current other. add s current other entries)))

-- adds to the old table during a rehash (SPECIFICATION, "Tempting mistakes", 3)
unfoldable pub adds_to_old : World → Call → Outcome
adds_to_old =
    but_add
    (λ key value w o.
    if_done (adding w (λ s current other entries. pushed s current other entries key value Table.Old)) o)

-- does not look whether the key is held
unfoldable pub adds_again : World → Call → Outcome
adds_again =
    but_add
    (λ key value w o. adding w (λ s current other entries. added s current other entries key value Lookup.Absent))

-- adds every key to bucket 0
unfoldable pub adds_to_first : World → Call → Outcome
adds_to_first =
    but_add
    (λ key value w o.
    let p = adding w (λ s current other entries. pushed s current other entries 0 value (target s.rehashing)) in
    if_done (leaving p.first p.second (set_key p.entries w.state.free_head key) p) o)

-- links the new entry to itself
unfoldable pub adds_loop : World → Call → Outcome
adds_loop =
    but_add
    (λ key value w o.
    let n = w.state.free_head in
    if_done (leaving o.first o.second (set_link o.entries n n) o) o)

-- leaves the new entry at the head of the free list
unfoldable pub keeps_free : World → Call → Outcome
keeps_free =
    but_add
    (λ key value w o.
    let s = o.reply.state in
    if_done (handing_back (recounted s w.state.free_head (used_of s)) o) o)

-- Delete.

-- keeps the count of keys held
unfoldable pub keeps_count : World → Call → Outcome
keeps_count =
    but_delete
    (λ key w o.
    let s = o.reply.state in
    handing_back (recounted s s.free_head (used_of w.state)) o)

-- does not free the entry
unfoldable pub leaks : World → Call → Outcome
leaks =
    but_delete
    (λ key w o.
    let s = o.reply.state in
    handing_back (recounted s w.state.free_head (used_of s)) o)

-- A chain in another order.

unfoldable pub head : List ℕ → ℕ
head [] = 0
head (n ∷ ns) = n

-- each entry linked to the next
unfoldable pub relinked : List ℕ → List ℕ → List ℕ
relinked entries [] = entries
relinked entries (n ∷ ns) = set_link (relinked entries ns) n (head ns)

-- the chain of a key's bucket, in the table that keys are added to
unfoldable pub reordering : ℕ → (List ℕ → List ℕ) → Outcome → Outcome
reordering key order o =
    let s = o.reply.state in
    let t = target s.rehashing in
    left (λ r. r)
    (back s.second_is_current
    (oriented s.second_is_current
    (λ current other.
    let ns = order (entries_at s current other o.entries (key_place s key t)) in
    changed t o.reply current other (set (buckets_of current other t) (bucket_of key (size_of s t)) (head ns))
    (relinked o.entries ns))
    o.first o.second))

unfoldable pub to_end : List ℕ → List ℕ
to_end [] = []
to_end (n ∷ ns) = ns ++ n ∷ []

-- adds at the end of the chain
unfoldable pub adds_at_end : World → Call → Outcome
adds_at_end = but_add (λ key value w o. if_done (reordering key to_end o) o)

unfoldable pub to_front : (ℕ → Bool) → List ℕ → List ℕ
to_front test ns = keep test ns ++ keep (λ n. not (test n)) ns

-- puts the entry that it finds at the head of the chain
unfoldable pub finds_to_front : World → Call → Outcome
finds_to_front =
    but_find (λ key w o. if_done (reordering key (to_front (λ n. eqb (key_of o.entries n) key)) o) o)
