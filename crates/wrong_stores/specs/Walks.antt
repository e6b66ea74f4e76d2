-- Wrong stores by an answered walk call.
use Rattle.std.specs.Prelude.{ℕ, zero, suc, ◌+◌, ◌-◌, ◌*◌, ◌/◌, ◌%◌, max, Bool, true, false, ◌||◌, cond, List, [], ◌∷◌, ◌++◌, reverse, length, get_or, set, ltb, leb, eqb}
use Rattle.std.proofs.Math.Option.{some}
use Rattle.cursor.specs.Member.{any, keep}
use Rattle.cursor.specs.Next.{next}
use Rattle.cursor.specs.Group.{Group, between_zero, two_tables}
use Rattle.model.specs.declared.Table.{Table}
use Rattle.model.specs.Keys.{bucket_of}
use Rattle.model.specs.Memory.{key_of, size_of, keys_held, Place, entries_at}
use Rattle.model.specs.Walk.{tables_of, small_first, group_places, chains_at, scanned}
use Rattle.model.specs.Sequences.{World, Call, Outcome, kept_scan, perform}
use Rattle.refinement.specs.Worlds.{current, other}
use Rattle.refinement.specs.Demand2.{group_entries}
use Rattle.refinement.specs.Demand3.{is_bucket}
use Rattle.wrong_stores.specs.OneCall.{Change, but_scan, if_done, answering, listing, leaving}

-- Other entries than those of the group.

-- the entries of a live table's buckets, so many of them
unfoldable pub entries_up_to : World → Table → ℕ → List ℕ
entries_up_to w t zero = []
entries_up_to w t (suc b) =
    entries_at w.state (current w) (other w) w.entries (Place.bucket t b) ++ entries_up_to w t b

unfoldable pub entries_of : World → Table → List ℕ
entries_of w t = entries_up_to w t (size_of w.state t)

unfoldable pub all_entries : World → List ℕ
all_entries w = entries_of w Table.Old ++ entries_of w Table.New

-- these entries handed out, and that cursor answered
unfoldable pub handing : World → ℕ → List ℕ → List ℕ → Outcome
handing w next lent ns = kept_scan w (scanned w.entries lent next (some ns))

-- the entries made from a cursor and those of its group; where ours is answered, and with the cursor that it answers
unfoldable pub handing_out : (World → ℕ → List ℕ → List ℕ) → World → Call → Outcome
handing_out choose =
    but_scan
    (λ cursor lent w o. if_done (handing w (get_or o.reply.values 0 0) lent (choose w cursor (group_entries w cursor))) o)

-- hands out all keys in its first call, and answers 0
unfoldable pub all_then_end : World → Call → Outcome
all_then_end = but_scan (λ cursor lent w o. if_done (handing w 0 lent (all_entries w)) o)

-- hands out all keys in its first call and none in the further ones
unfoldable pub all_at_zero : World → ℕ → List ℕ → List ℕ
all_at_zero w zero ns = all_entries w
all_at_zero w (suc cursor) ns = []

unfoldable pub all_then_none : World → Call → Outcome
all_then_none = handing_out all_at_zero

-- every key whose bucket in either table is one of the group's
unfoldable pub either_bucket : World → ℕ → ℕ → Bool
either_bucket w cursor n =
    let key = key_of w.entries n in
    let ps = group_places (tables_of w.state) cursor in
    any (is_bucket Table.Old (bucket_of key w.state.old_size)) ps
    || any (is_bucket Table.New (bucket_of key w.state.new_size)) ps

unfoldable pub hands_either : World → Call → Outcome
hands_either = handing_out (λ w cursor ns. keep (either_bucket w cursor) (all_entries w))

-- leaves the first pair out
unfoldable pub rest : List ℕ → List ℕ
rest [] = []
rest (n ∷ ns) = ns

unfoldable pub leaves_out : World → Call → Outcome
leaves_out = handing_out (λ w cursor ns. rest ns)

-- Passes over what is added while a walk goes on: at cursor 0 it notes the number of keys held, in the last place of the second
-- bucket buffer, and then hands out no entry with a higher number. Entries are taken in order, if none was freed.
unfoldable pub passing_over : ℕ → List ℕ → Change
passing_over zero lent w o =
    leaving o.first (set o.second (length o.second - 1) (keys_held w.state)) o.entries o
passing_over (suc c) lent w o =
    let noted = get_or w.second (length w.second - 1) 0 in
    handing w (get_or o.reply.values 0 0) lent (keep (λ n. leb n noted) (group_entries w (suc c)))

unfoldable pub passes_over : World → Call → Outcome
passes_over = but_scan (λ cursor lent w o. if_done (passing_over cursor lent w o) o)

-- hands the first pair out again in place of the second
unfoldable pub first_twice : List ℕ → List ℕ
first_twice [] = []
first_twice (n ∷ []) = n ∷ []
first_twice (n ∷ m ∷ ns) = n ∷ n ∷ ns

unfoldable pub hands_twice : World → Call → Outcome
hands_twice = handing_out (λ w cursor ns. first_twice ns)

-- hands the pairs out backwards
unfoldable pub backwards : World → Call → Outcome
backwards = handing_out (λ w cursor ns. reverse ns)

-- Another list.

-- values handed out as 0
unfoldable pub keys_only : ℕ → List ℕ → List ℕ
keys_only zero list = list
keys_only (suc n) [] = []
keys_only (suc n) (key ∷ []) = key ∷ []
keys_only (suc n) (key ∷ value ∷ rest) = key ∷ 0 ∷ keys_only n rest

unfoldable pub loses_values : World → Call → Outcome
loses_values = but_scan (λ cursor lent w o. if_done (listing (keys_only (get_or o.reply.values 1 0) o.lent) o) o)

-- the places behind the pairs written too
unfoldable pub overwriting : Change
overwriting w o = if_done (listing (set o.lent (get_or o.reply.values 1 0 * 2) 0) o) o

unfoldable pub writes_beyond : World → Call → Outcome
writes_beyond = but_scan (λ cursor lent. overwriting)

-- Another group during a rehash, made from the smaller and the larger size; with one table, as ours.

unfoldable pub by_group : World → List ℕ → Table → Table → Group → Outcome
by_group w lent small large g =
    kept_scan w
    (scanned w.entries lent g.answered
    (chains_at w.state (current w) (other w) w.entries (small_first small large g)))

unfoldable pub in_rehash : (ℕ → ℕ → ℕ → Group) → ℕ → List ℕ → Change
in_rehash group_for cursor lent w o =
    let old = w.state.old_size in
    let new = w.state.new_size in
    elim w.state.rehashing [
      | true ↦ if_done
          (cond (ltb old new)
          (by_group w lent Table.Old Table.New (group_for old new cursor))
          (by_group w lent Table.New Table.Old (group_for new old cursor)))
          o
      | false ↦ o
    ]

-- the larger table's buckets counted upwards from the cursor (SPECIFICATION, "Tempting mistakes", 1)
unfoldable pub upwards_from : ℕ → ℕ → ℕ → ℕ → List ℕ
upwards_from zero small large cursor = []
upwards_from (suc n) small large cursor =
    elim (between_zero small large (cursor + small)) [
      | true ↦ cursor % large ∷ []
      | false ↦ cursor % large ∷ upwards_from n small large (cursor + small)
    ]

unfoldable pub upwards : World → Call → Outcome
upwards =
    but_scan
    (in_rehash
    (λ small large cursor.
    record {
      small = cursor % small;
      large = upwards_from (large / small) small large cursor;
      answered = next small cursor;
    }))

-- the next cursor from the larger size, after one of its buckets (SPECIFICATION, "Tempting mistakes", 2)
unfoldable pub next_of_larger : World → Call → Outcome
next_of_larger =
    but_scan
    (in_rehash
    (λ small large cursor. record { small = cursor % small; large = cursor % large ∷ []; answered = next large cursor }))

-- a group whose first bucket of the larger table stands twice
unfoldable pub head_twice : List ℕ → List ℕ
head_twice [] = []
head_twice (b ∷ bs) = b ∷ b ∷ bs

unfoldable pub hands_larger_twice : World → Call → Outcome
hands_larger_twice =
    but_scan
    (in_rehash
    (λ small large cursor.
    let g = two_tables small large cursor in
    record { small = g.small; large = head_twice g.large; answered = g.answered }))

-- Another next cursor, made from the one given and the one that ours answers.
unfoldable pub answering_next : (World → ℕ → ℕ → ℕ) → World → Call → Outcome
answering_next choose =
    but_scan
    (λ cursor lent w o.
    if_done (answering (choose w cursor (get_or o.reply.values 0 0) ∷ get_or o.reply.values 1 0 ∷ []) o) o)

-- Starts over in the middle of the line, where the next cursor is 1: it goes back to bucket 0 by a cursor with a bit above the
-- table's, which it keeps from there to the end.
unfoldable pub over_again : ℕ → ℕ → ℕ → ℕ
over_again size cursor next = cond (ltb cursor size) (cond (eqb next 1) size next) (cond (eqb next 0) 0 (size + next))

unfoldable pub starts_over : World → Call → Outcome
starts_over = answering_next (λ w cursor next. over_again w.state.old_size cursor next)

-- never ends: answers 1 in place of 0
unfoldable pub never_ends : World → Call → Outcome
never_ends = answering_next (λ w cursor next. max 1 next)

-- skips empty buckets: goes on, at most so many times, while nothing is handed out and the walk has not ended
unfoldable pub skipping : ℕ → World → List ℕ → Outcome → Outcome
skipping zero w lent o = o
skipping (suc n) w lent o =
    elim (get_or o.reply.values 1 0) [
      | zero ↦ elim (get_or o.reply.values 0 0) [
        | zero ↦ o
        | suc c ↦ skipping n w lent (perform w (Call.scan (suc c) lent))
      ]
      | suc count ↦ o
    ]

unfoldable pub skips_empty : World → Call → Outcome
skips_empty = but_scan (λ cursor lent w o. skipping w.state.old_size w lent o)

-- ends early: answers 0 where the walk from its next cursor on, for so many calls at most, would hand out nothing
unfoldable pub empty_from : ℕ → World → List ℕ → ℕ → Bool
empty_from zero w lent cursor = false
empty_from (suc n) w lent zero = true
empty_from (suc n) w lent (suc c) =
    let o = perform w (Call.scan (suc c) lent) in
    elim (get_or o.reply.values 1 0) [
      | zero ↦ empty_from n w lent (get_or o.reply.values 0 0)
      | suc count ↦ false
    ]

unfoldable pub ends_early : World → Call → Outcome
ends_early =
    but_scan
    (λ cursor lent w o.
    elim (empty_from w.state.old_size w lent (get_or o.reply.values 0 0)) [
      | true ↦ if_done (answering (0 ∷ get_or o.reply.values 1 0 ∷ []) o) o
      | false ↦ o
    ])
