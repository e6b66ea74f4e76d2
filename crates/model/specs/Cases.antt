-- SPECIFICATION, "Cases": those that are marked to be proved, as one table with one statement over it, `AllHold cases`.
use Rattle.std.specs.Prelude.{ℕ, zero, suc, ◌-◌, ◌/◌, ◌<◌, ◌≡◌, Bool, true, false, List, [], ◌∷◌, ◌++◌, map, length, replicate, set}
use Rattle.std.proofs.Math.Option.{some}
use Rattle.cursor.specs.Group.{Group, one_table, two_tables}
use Rattle.model.specs.declared.State.{State}
use Rattle.model.specs.Answers.{Reply}
use Rattle.model.specs.Memory.{Place, chain_at}
use Rattle.model.specs.Calls.{state_of, old_new, empty_state, noted, free_entries, no_state, suggested}
use Rattle.model.specs.Sequences.{World, world, KeyCall, ReadCall, StateCall, Call, perform, run, Event, events}

-- A walk's cursor at one live table, or at two; the cursors of a whole walk; any cursor; the suggested size for some keys,
-- and for every number of keys above a given one; some calls in a world, each of which answers that number; the values of an
-- answered step, and the next bucket then; some calls in a world, each of which is answered 0, and the next bucket then; the
-- sizes of the old and the new table after an add that is answered, the second 0 where there is none; the entries of a chain
-- that is sound, where the first buffer is the current one; a history from a world on, call by call.
pub data Row : Type 0 where
  at_one : (size cursor bucket next : ℕ) → Row
  at_two : (small large cursor bucket : ℕ) (buckets : List ℕ) (next : ℕ) → Row
  walk : (size : ℕ) (cursors : List ℕ) → Row
  at_any : (size next : ℕ) → Row
  suggests : (growing : Bool) (keys size : ℕ) → Row
  suggests_above : (growing : Bool) (keys size : ℕ) → Row
  answers : (w : World) (calls : List Call) (number : ℕ) → Row
  steps : (w : World) (values : List ℕ) (next : ℕ) → Row
  leaves : (w : World) (calls : List Call) (next : ℕ) → Row
  adds : (w : World) (key old new : ℕ) → Row
  reads : (w : World) (p : Place) (entries : List ℕ) → Row
  history : (w : World) (shown : List Event) → Row

unfoldable pub add : ℕ → Call
add key = Call.on key (KeyCall.add 30)

unfoldable pub delete : ℕ → Call
delete key = Call.on key KeyCall.delete

-- the group is that bucket of the smaller table and those of the larger, and that cursor is answered
unfoldable pub Gives : Group → ℕ → List ℕ → ℕ → Type 0
Gives g bucket buckets next = (g.small ≡ bucket) × (g.large ≡ buckets) × (g.answered ≡ next)

-- each cursor names its own bucket, and the one after it is answered
unfoldable pub Walks : ℕ → List ℕ → Type 0
Walks size [] = Unit {0}
Walks size (cursor ∷ []) = Unit {0}
Walks size (cursor ∷ next ∷ rest) = Gives (one_table size cursor) cursor [] next × Walks size (next ∷ rest)

unfoldable pub EachAnswers : World → List Call → ℕ → Type 0
EachAnswers w [] number = Unit {0}
EachAnswers w (c ∷ cs) number = ((perform w c).reply.number ≡ number) × EachAnswers w cs number

unfoldable pub StepsTo : Reply State → List ℕ → ℕ → Type 0
StepsTo r values next = (r.number ≡ 0) × (r.values ≡ values) × (r.state.rehash_index ≡ next)

unfoldable pub EachLeaves : World → List Call → ℕ → Type 0
EachLeaves w [] next = Unit {0}
EachLeaves w (c ∷ cs) next =
    ((perform w c).reply.number ≡ 0) × ((perform w c).reply.state.rehash_index ≡ next) × EachLeaves w cs next

unfoldable pub AddsTo : Reply State → ℕ → ℕ → Type 0
AddsTo r old new = (r.number ≡ 0) × (r.state.old_size ≡ old) × (r.state.new_size ≡ new)

unfoldable pub Holds : Row → Type 0
Holds (Row.at_one size cursor bucket next) = Gives (one_table size cursor) bucket [] next
Holds (Row.at_two small large cursor bucket buckets next) = Gives (two_tables small large cursor) bucket buckets next
Holds (Row.walk size cursors) = Walks size cursors
Holds (Row.at_any size next) = (cursor : ℕ) → (one_table size cursor).answered ≡ next
Holds (Row.suggests growing keys size) = suggested growing keys ≡ size
Holds (Row.suggests_above growing keys size) = (more : ℕ) → keys < more → suggested growing more ≡ size
Holds (Row.answers w calls number) = EachAnswers w calls number
Holds (Row.steps w values next) = StepsTo (perform w Call.rehash_step).reply values next
Holds (Row.leaves w calls next) = EachLeaves w calls next
Holds (Row.adds w key old new) = AddsTo (perform w (add key)).reply old new
Holds (Row.reads w p entries) = chain_at w.state w.first w.second w.entries p ≡ some entries
Holds (Row.history w shown) = events perform w (map (λ (e : Event). e.call) shown) ≡ shown

unfoldable pub AllHold : List Row → Type 0
AllHold [] = Unit {0}
AllHold (row ∷ rows) = Holds row × AllHold rows

-- Stores of three entries. In the first all are free; in the others the third one is, with some key left in it. There keys a
-- and b, in this order, are on the chain of bucket 0 of a table of size 2: with no rehash, and during one to size 4. Or,
-- during that rehash, key 2 is on it, and key b on the chain of the new table's bucket 0.

unfoldable pub fresh : World
fresh = world (empty_state 2 1 3) (0 ∷ 0 ∷ []) [] (free_entries 1 3)

unfoldable pub bucket_zero : ℕ → ℕ → List ℕ
bucket_zero a b = 2 ∷ a ∷ 10 ∷ 0 ∷ b ∷ 20 ∷ 0 ∷ 7 ∷ 70 ∷ []

unfoldable pub resting : ℕ → ℕ → World
resting a b = world (state_of false (old_new 2 0) (old_new 2 0) false 0 3 3 true 0) (1 ∷ 0 ∷ []) [] (bucket_zero a b)

unfoldable pub moving : ℕ → ℕ → World
moving a b = world (state_of false (old_new 2 4) (old_new 2 0) true 0 3 3 true 0) (1 ∷ 0 ∷ []) (replicate 4 0) (bucket_zero a b)

unfoldable pub in_both : ℕ → World
in_both b =
    world (state_of false (old_new 2 4) (old_new 1 1) true 0 3 3 true 0) (1 ∷ 0 ∷ []) (2 ∷ 0 ∷ 0 ∷ 0 ∷ [])
    (0 ∷ 2 ∷ 10 ∷ 0 ∷ b ∷ 20 ∷ 0 ∷ 7 ∷ 70 ∷ [])

-- In another one, key b is the only one held, in bucket b of an old table of 16, and `next` is the next bucket to move.
unfoldable pub sparse : ℕ → ℕ → World
sparse b next =
    world (state_of false (old_new 16 2) (old_new 1 0) true next 0 1 true 0) (set (replicate 16 0) b 1) (replicate 2 0)
    (0 ∷ b ∷ 10 ∷ [])

-- Stores of five entries during a rehash from size 2 to 4, the first buffer current: the keys that the state counts in each
-- table, the first free entry, the buckets of each table, the first entries.
unfoldable pub rehashing : (old new free : ℕ) → List ℕ → List ℕ → List ℕ → World
rehashing old new free buckets others entries =
    world (state_of false (old_new 2 4) (old_new old new) true 0 free 5 true 0) buckets others (entries ++ replicate 12 0)

-- keys 0 and 4 on the chain of the old table's bucket 0, and key 8 on that of the new one's, linked on to that entry; the
-- state counts two keys in each table
unfoldable pub running_into : ℕ → World
running_into link =
    rehashing 2 2 4 (1 ∷ 0 ∷ []) (3 ∷ 0 ∷ 0 ∷ 0 ∷ []) (2 ∷ 0 ∷ 10 ∷ 0 ∷ 4 ∷ 20 ∷ link ∷ 8 ∷ 30 ∷ [])

-- keys 0 and 1 in the old table, and key 0's entry linked on to that one
unfoldable pub linked_on : ℕ → World
linked_on link = rehashing 2 0 3 (1 ∷ 2 ∷ []) (replicate 4 0) (link ∷ 0 ∷ 10 ∷ 0 ∷ 1 ∷ 20 ∷ [])

-- keys 0, 1 and 3 in the old table, where the state counts so many
unfoldable pub counting : ℕ → World
counting keys = rehashing keys 0 4 (1 ∷ 2 ∷ []) (replicate 4 0) (0 ∷ 0 ∷ 10 ∷ 3 ∷ 1 ∷ 20 ∷ 0 ∷ 3 ∷ 30 ∷ [])

-- key 0 in the old table, in the entry that is said to be the first free one too; the new table's bucket 0 begins with that
-- number
unfoldable pub free_in_bucket : ℕ → World
free_in_bucket head = rehashing 1 0 1 (1 ∷ 0 ∷ []) (head ∷ 0 ∷ 0 ∷ 0 ∷ []) (0 ∷ 0 ∷ 10 ∷ [])

-- any of these worlds, with so many safe iterators
unfoldable pub with_safe : ℕ → World → World
with_safe iterators w =
    world (noted w.state w.state.resize_allowed iterators) w.first w.second w.entries

-- the calls that take a step first: a key deleted, and another one added
unfoldable pub steppers : ℕ → ℕ → List Call
steppers key new = delete key ∷ add new ∷ []

-- A store of twelve entries after a start of that size and some calls, with so many numbers in the second bucket buffer.
unfoldable pub after : (size others : ℕ) → List Call → World
after size others calls =
    run perform (world (empty_state size 1 12) (replicate size 0) (replicate others 0) (free_entries 1 12)) calls

-- keys 1 to n added
unfoldable pub adding : ℕ → List Call
adding zero = []
adding (suc n) = adding n ++ add (suc n) ∷ []

-- so many keys in one table of that size, added while growth is not allowed; then it is, or not
unfoldable pub filled : (size others keys : ℕ) → Bool → World
filled size others keys allowed =
    after size others (Call.note (StateCall.allow_resize false) ∷ adding keys ++ Call.note (StateCall.allow_resize allowed) ∷ [])

-- one of each call that reads a bucket's chain, but for a step: on a key, on another one to be added, and a walk call
unfoldable pub readers : ℕ → ℕ → List Call
readers key new =
    Call.on key KeyCall.find
    ∷ Call.on key (KeyCall.update 30)
    ∷ add new
    ∷ delete key
    ∷ Call.scan 0 (replicate 4 0)
    ∷ []

-- What is seen of a call that is lent no list: its number and its values; of one that is answered 0 with none; of an
-- iterator's begin, which answers that fingerprint, and of its end, which is given it.

unfoldable pub seen : Call → ℕ → List ℕ → Event
seen c number values = record { call = c; number = number; values = values; lent = [] }

unfoldable pub done : Call → Event
done c = seen c 0 []

unfoldable pub begun : ℕ → Event
begun fingerprint = seen (Call.read ReadCall.begin_iterator) 0 (fingerprint ∷ [])

unfoldable pub ended : (fingerprint number : ℕ) → Event
ended fingerprint number = seen (Call.read (ReadCall.end_iterator fingerprint)) number []

-- .. and of a call that iterates, lent four zeros: it hands out those pairs, and answers that place
unfoldable pub iterates : (place : ℕ) (pairs : List ℕ) (next : ℕ) → Event
iterates place pairs next =
    record {
      call = Call.iterate place (replicate 4 0);
      number = 0;
      values = next ∷ length pairs / 2 ∷ [];
      lent = pairs ++ replicate (4 - length pairs) 0;
    }

-- calls that iterate at some places of `in_both 4`: the last two are the end, and a forged one
unfoldable pub each_place : List Event
each_place =
    iterates 0 (2 ∷ 10 ∷ []) 1
    ∷ iterates 1 (4 ∷ 20 ∷ []) 3
    ∷ iterates 2 (4 ∷ 20 ∷ []) 3
    ∷ iterates 3 [] 6
    ∷ iterates 6 [] 6
    ∷ iterates 4294967295 [] 6
    ∷ []

-- The histories of docs/PASSES.md. During an iterator one key is deleted and another one added, ..
unfoldable pub one_for_another : List Event
one_for_another =
    begun 8427530295853426936
    ∷ iterates 0 (1 ∷ 30 ∷ []) 2
    ∷ done (delete 2)
    ∷ done (add 5)
    ∷ iterates 2 [] 4
    ∷ ended 8427530295853426936 0
    ∷ []

-- .. or there is a rehash, and one back; ..
unfoldable pub there_and_back : List Event
there_and_back =
    begun 6592724455718159528
    ∷ iterates 0 (1 ∷ 30 ∷ []) 2
    ∷ done (Call.resize 2)
    ∷ ended 6592724455718159528 15
    ∷ seen Call.rehash_step 0 (1 ∷ 1 ∷ [])
    ∷ seen Call.rehash_step 0 (1 ∷ 1 ∷ [])
    ∷ seen Call.rehash_step 0 (1 ∷ 0 ∷ [])
    ∷ begun 14461817279582670776
    ∷ iterates 2 [] 2
    ∷ done (Call.resize 4)
    ∷ seen Call.rehash_step 0 (1 ∷ 1 ∷ [])
    ∷ seen Call.rehash_step 0 (2 ∷ 0 ∷ [])
    ∷ ended 6592724455718159528 0
    ∷ []

-- .. and during a safe iterator a rehash begins, and keys come and go.
unfoldable pub call_by_call : List Event
call_by_call =
    done (Call.note StateCall.begin_safe)
    ∷ iterates 0 (1 ∷ 30 ∷ []) 2
    ∷ done (add 9)
    ∷ seen Call.rehash_step 18 (0 ∷ 0 ∷ [])
    ∷ iterates 2 (6 ∷ 30 ∷ []) 3
    ∷ done (delete 3)
    ∷ done (add 3)
    ∷ done (delete 1)
    ∷ done (add 1)
    ∷ iterates 3 (1 ∷ 30 ∷ []) 6
    ∷ iterates 6 (3 ∷ 30 ∷ []) 8
    ∷ iterates 8 [] 12
    ∷ done (Call.note StateCall.end_safe)
    ∷ seen Call.rehash_step 0 (1 ∷ 1 ∷ [])
    ∷ []

unfoldable pub cases : List Row
cases =
    Row.walk 4 (0 ∷ 2 ∷ 1 ∷ 3 ∷ 0 ∷ [])
    ∷ Row.walk 8 (0 ∷ 4 ∷ 2 ∷ 6 ∷ 1 ∷ 5 ∷ 3 ∷ 7 ∷ 0 ∷ [])
    ∷ Row.at_any 1 0
    ∷ Row.at_one 4 5 1 3
    ∷ Row.at_one 4 4294967295 3 0
    ∷ Row.at_two 4 8 2 2 (2 ∷ 6 ∷ []) 1
    ∷ Row.at_two 4 16 0 0 (0 ∷ 8 ∷ 4 ∷ 12 ∷ []) 2
    ∷ Row.at_two 4 16 8 0 (8 ∷ 4 ∷ 12 ∷ []) 2
    ∷ Row.at_one 4 7 3 0
    ∷ Row.suggests true 5 16
    ∷ Row.suggests false 5 8
    ∷ Row.suggests_above true 32768 65536
    ∷ Row.suggests true 0 4
    ∷ Row.suggests false 0 4
    ∷ Row.suggests true 2 4
    ∷ Row.suggests true 3 8
    ∷ Row.suggests false 4 4
    ∷ Row.adds (filled 4 8 2 true) 0 4 0
    ∷ Row.adds (filled 4 8 3 true) 0 4 8
    ∷ Row.adds (filled 4 8 3 false) 0 4 0
    ∷ Row.adds (filled 4 7 3 true) 0 4 0
    ∷ Row.adds (filled 2 8 2 true) 0 2 8
    ∷ Row.adds (filled 1 16 4 false) 0 1 0
    ∷ Row.adds (filled 1 16 5 false) 0 1 16
    ∷ Row.adds (filled 2 32 9 false) 0 2 0
    ∷ Row.adds (filled 2 32 10 false) 0 2 32
    ∷ Row.adds (after 8 2 (adding 3 ++ Call.resize 2 ∷ [])) 0 8 2
    ∷ Row.adds (after 8 2 (add 8 ∷ Call.resize 2 ∷ [])) 0 2 4
    ∷ Row.answers (after 4 4 (Call.note (StateCall.allow_resize false) ∷ [])) (Call.note (StateCall.allow_resize true) ∷ []) 0
    ∷ Row.answers (world no_state [] [] []) (Call.note (StateCall.allow_resize true) ∷ []) 1
    ∷ Row.answers (resting 2 4) (readers 2 6) 0
    ∷ Row.answers (resting 2 5) (readers 2 6) 2
    ∷ Row.answers (resting 5 2) (readers 2 6) 2
    ∷ Row.answers (resting 2 5) (add 2 ∷ Call.scan 0 [] ∷ []) 2
    ∷ Row.answers (resting 2 5) (Call.on 5 KeyCall.find ∷ []) 3
    ∷ Row.answers (resting 2 5) (Call.scan 1 [] ∷ []) 0
    ∷ Row.answers (moving 2 4) (Call.rehash_step ∷ readers 2 6) 0
    ∷ Row.answers (moving 2 5) (Call.rehash_step ∷ readers 2 6) 2
    ∷ Row.answers (in_both 4) (readers 4 8) 0
    ∷ Row.answers (in_both 6) (readers 4 8) 2
    ∷ Row.answers (in_both 6) (Call.rehash_step ∷ Call.on 2 KeyCall.find ∷ []) 0
    ∷ Row.answers (running_into 0) (steppers 8 12) 0
    ∷ Row.answers (running_into 2) (steppers 8 12) 2
    ∷ Row.answers (running_into 2) (Call.rehash_step ∷ Call.on 8 KeyCall.find ∷ []) 0
    ∷ Row.answers (linked_on 0) (steppers 1 3) 0
    ∷ Row.answers (linked_on 1) (steppers 1 3) 2
    ∷ Row.answers (linked_on 1) (Call.on 1 KeyCall.find ∷ []) 0
    ∷ Row.answers (counting 3) (steppers 1 5) 0
    ∷ Row.answers (counting 2) (steppers 1 5) 2
    ∷ Row.answers (counting 2) (Call.rehash_step ∷ Call.on 1 KeyCall.find ∷ []) 0
    ∷ Row.answers (free_in_bucket 0) (add 1 ∷ []) 0
    ∷ Row.answers (free_in_bucket 9) (add 1 ∷ []) 2
    ∷ Row.answers (free_in_bucket 9) (Call.rehash_step ∷ []) 0
    ∷ Row.steps (moving 2 4) (2 ∷ 0 ∷ []) 0
    ∷ Row.steps (sparse 9 0) (1 ∷ 0 ∷ []) 0
    ∷ Row.steps (sparse 10 0) (0 ∷ 1 ∷ []) 10
    ∷ Row.steps (sparse 15 5) (0 ∷ 1 ∷ []) 15
    ∷ Row.steps (sparse 15 6) (1 ∷ 0 ∷ []) 0
    ∷ Row.answers (sparse 0 6) (Call.rehash_step ∷ []) 2
    ∷ Row.answers (sparse 0 16) (Call.rehash_step ∷ []) 2
    ∷ Row.reads fresh Place.free (1 ∷ 2 ∷ 3 ∷ [])
    ∷ Row.reads (resting 2 4) Place.free (3 ∷ [])
    ∷ Row.history (in_both 4) each_place
    ∷ Row.history (in_both 4) (seen (Call.iterate 0 []) 9 (0 ∷ 1 ∷ []) ∷ seen (Call.iterate 3 []) 0 (6 ∷ 0 ∷ []) ∷ [])
    ∷ Row.answers (in_both 6) (Call.iterate 1 (replicate 4 0) ∷ Call.iterate 1 [] ∷ []) 2
    ∷ Row.answers (in_both 6) (Call.iterate 0 (replicate 4 0) ∷ []) 0
    ∷ Row.history (resting 2 4) (iterates 0 (2 ∷ 10 ∷ 4 ∷ 20 ∷ []) 1 ∷ iterates 1 [] 2 ∷ [])
    ∷ Row.leaves (counting 3) (Call.rehash_step ∷ steppers 1 5) 1
    ∷ Row.leaves (with_safe 1 (counting 3)) (steppers 1 5) 0
    ∷ Row.answers (with_safe 1 (counting 3)) (Call.rehash_step ∷ []) 18
    ∷ Row.answers (with_safe 1 (resting 2 4)) (Call.rehash_step ∷ []) 8
    ∷ Row.answers (with_safe 1 (moving 2 5)) (Call.rehash_step ∷ []) 18
    ∷ Row.answers (resting 2 4) (Call.note StateCall.end_safe ∷ []) 16
    ∷ Row.answers (with_safe 254 (resting 2 4)) (Call.note StateCall.begin_safe ∷ Call.note StateCall.end_safe ∷ []) 0
    ∷ Row.answers (with_safe 255 (resting 2 4)) (Call.note StateCall.begin_safe ∷ []) 17
    ∷ Row.answers (with_safe 256 (moving 2 4)) (Call.note StateCall.begin_safe ∷ Call.rehash_step ∷ readers 2 6) 1
    ∷ Row.answers (world no_state [] [] []) (Call.note StateCall.end_safe ∷ Call.read (ReadCall.end_iterator 0) ∷ []) 1
    ∷ Row.history (after 4 0 []) (begun 13078267905649422074 ∷ ended 13078267905649422074 0 ∷ ended 0 15 ∷ [])
    ∷ Row.history (in_both 4) (begun 2448095614669022528 ∷ [])
    ∷ Row.history (after 4 0 (adding 2)) (begun 8427530295853426936 ∷ done (add 5) ∷ ended 8427530295853426936 15 ∷ [])
    ∷ Row.history (after 4 0 (adding 2)) one_for_another
    ∷ Row.history (after 4 2 (adding 2 ++ add 7 ∷ [])) there_and_back
    ∷ Row.history (after 4 8 (map add (1 ∷ 3 ∷ 6 ∷ []))) call_by_call
    ∷ []
