-- Wrong stores by the keys on a chain: they pass over a key off its bucket, look for it where it does not belong, or find
-- damage where there is none.
use Rattle.std.specs.Prelude.{ℕ, suc, Bool, ◌||◌, cond, List, [], ◌∷◌, eqb, Result, Err}
use Rattle.std.proofs.Math.Option.{Option, none, some}
use Rattle.model.specs.declared.Table.{Table}
use Rattle.model.specs.declared.Error.{Error}
use Rattle.model.specs.declared.Lookup.{Lookup}
use Rattle.model.specs.declared.Ahead.{Ahead}
use Rattle.model.specs.Keys.{bucket_of}
use Rattle.model.specs.Memory.{key_of, keys_held, chain, in_bucket, any_key, Place, key_place, head_at, budget_at, belongs, chain_at}
use Rattle.model.specs.Answers.{value_reply, state_reply, step_reply}
use Rattle.model.specs.Calls.{After, back, searched, both, found, target, moved_chain, moved_from, ahead_of}
use Rattle.model.specs.Walk.{tables_of, group, group_places, joined, at_most, scanned}
use Rattle.model.specs.Iterators.{bucket_at}
use Rattle.model.specs.Sequences.{World, Call, Outcome, kept, kept_scan, left}
use Rattle.refinement.specs.Worlds.{current, other}
use Rattle.refinement.specs.Demand2.{first_filled}
use Rattle.wrong_stores.specs.OneCall.{but_find, but_add, but_step, but_scan, but_iterate, if_done, if_damaged}
use Rattle.model.specs.declared.State.{State}

-- A chain read in another way.

unfoldable pub read_by : (ℕ → Bool) → World → Place → Option (List ℕ)
read_by test w p =
    let s = w.state in
    chain test w.entries s.capacity (budget_at s p) (head_at s (current w) (other w) p)

-- any key may be on it
unfoldable pub untested : World → Place → Option (List ℕ)
untested = read_by any_key

-- the key of its first entry, if there is one, is tested, and no other
unfoldable pub first_tested : World → Place → Option (List ℕ)
first_tested w p =
    let head = head_at w.state (current w) (other w) p in
    cond (eqb head 0 || belongs w.state p (key_of w.entries head)) (untested w p) none

-- Stores that read again where ours answers 2.

-- a lookup by that reading
unfoldable pub lookup_by : (World → Place → Option (List ℕ)) → World → ℕ → Lookup
lookup_by read w key =
    let s = w.state in
    let at : Table → Lookup = λ t. searched w.entries key t 0 (read w (key_place s key t)) in
    cond s.rehashing (both (at Table.Old) (at Table.New)) (at Table.Old)

unfoldable pub find_by : World → Lookup → Outcome
find_by w l = kept w (value_reply w.state (found w.entries l)) []

-- a find hands out a value whatever other keys are on the chain
unfoldable pub finds_among_strays : World → Call → Outcome
finds_among_strays = but_find (λ key w o. if_damaged (find_by w (lookup_by untested w key)) o)

-- .. but the first one
unfoldable pub finds_behind_first : World → Call → Outcome
finds_behind_first = but_find (λ key w o. if_damaged (find_by w (lookup_by first_tested w key)) o)

-- a walk call hands out whatever keys are on its chains
unfoldable pub read_all : World → List Place → Option (List ℕ)
read_all w [] = some []
read_all w (p ∷ ps) = joined (untested w p) (read_all w ps)

unfoldable pub walks_strays : World → Call → Outcome
walks_strays =
    but_scan
    (λ cursor lent w o.
    let tables = tables_of w.state in
    if_damaged
    (kept_scan w
    (scanned w.entries lent (group tables cursor).answered
    (at_most (keys_held w.state) (read_all w (group_places tables cursor)))))
    o)

-- and so a call that iterates
unfoldable pub iterated_by : World → List ℕ → Option ℕ → Outcome → Outcome
iterated_by w lent none o = o
iterated_by w lent (some n) o = kept_scan w (scanned w.entries lent (suc n) (untested w (bucket_at (tables_of w.state) n)))

unfoldable pub iterates_strays : World → Call → Outcome
iterates_strays = but_iterate (λ place lent w o. if_damaged (iterated_by w lent (first_filled w place) o) o)

-- a step moves whatever keys are on its chain
unfoldable pub moved_untested : World → Ahead → After (Result (ℕ × State) Error)
moved_untested w (Ahead.Filled b) =
    moved_chain w.state (current w) (other w) w.entries b (untested w (Place.bucket Table.Old b))
moved_untested w (Ahead.Empty b) = moved_from w.state (current w) (other w) w.entries (Ahead.Empty b)
moved_untested w Ahead.End = moved_from w.state (current w) (other w) w.entries Ahead.End

unfoldable pub moves_strays : World → Call → Outcome
moves_strays =
    but_step
    (λ w o.
    let s = w.state in
    if_damaged (left (step_reply s) (back s.second_is_current (moved_untested w (ahead_of s (current w))))) o)

-- A find that hands out the value of a key off its bucket: where ours answers 3, it looks on the chain of bucket 0 too.
unfoldable pub finds_elsewhere : World → Call → Outcome
finds_elsewhere =
    but_find
    (λ key w o.
    cond (eqb o.reply.number 3)
    (find_by w (searched w.entries key Table.Old 0 (untested w (Place.bucket Table.Old 0))))
    o)

-- Stores that find damage where there is none: in a sound state a find of theirs is damaged where that chain is not sound.

unfoldable pub or_damaged : World → Option (List ℕ) → Outcome → Outcome
or_damaged w none o =
    cond (eqb o.reply.number 1) o (kept w (value_reply w.state (Err Error.Damaged)) [])
or_damaged w (some ns) o = o

-- the chain of bucket 0, whatever bucket is the key's
unfoldable pub tests_bucket_zero : World → Call → Outcome
tests_bucket_zero =
    but_find
    (λ key w o.
    or_damaged w (chain_at w.state (current w) (other w) w.entries (Place.bucket Table.Old 0)) o)

-- during a rehash the old table's chain, its keys tested by the new table's size
unfoldable pub tests_other_size : World → Call → Outcome
tests_other_size =
    but_find
    (λ key w o.
    let s = w.state in
    cond s.rehashing
    (or_damaged w (read_by (in_bucket s.new_size (bucket_of key s.old_size)) w (key_place s key Table.Old)) o)
    o)

-- An add that tests the first free entry's key as if it were in the bucket already.
unfoldable pub tests_free : World → Call → Outcome
tests_free =
    but_add
    (λ key value w o.
    let s = w.state in
    cond (belongs s (key_place s key (target s.rehashing)) (key_of w.entries s.free_head)) o
    (if_done (kept w (state_reply s (Err Error.Damaged)) []) o))
