-- The table of cases holds: one test that is computed over the whole table, and a law that turns it into the statement at
-- each row. At size 1 it holds for every cursor, since the next cursor is below the size; and the suggested size is the largest
-- for all numbers of keys above half of that.
-- Assumes nothing.
use Prim.Native.Nat.{ℕ, ◌*◌, ◌^◌}
use mathlib.Core.Path.{◌≡◌, refl, sym, ap, ap₂, subst, ◌∙◌}
use mathlib.Core.Bool.{Bool, true, false, ◌&&◌}
use mathlib.Core.List.{List, [], ◌∷◌, map}
use mathlib.Core.Option.{Option, none, some}
use native.Mathlib.Omega.{arith}
use lib.Dec.{eqb, leb, lit≤}
use Rattle.cursor.specs.Group.{Group, one_table, two_tables}
use Rattle.cursor.proofs.NextCursor.{next_lt}
use Rattle.model.specs.declared.State.{State}
use Rattle.model.specs.Limits.{largest_exponent}
use Rattle.model.specs.Answers.{Reply}
use Rattle.model.specs.Memory.{chain_at}
use Rattle.model.specs.Calls.{suggested}
use Rattle.model.specs.Sequences.{World, Call, Outcome, perform, carry, Event, event, events}
use Rattle.model.specs.Cases.{Row, Gives, Walks, EachAnswers, StepsTo, EachLeaves, AddsTo, Holds, AllHold, fresh, bucket_zero, resting, moving, in_both, sparse, rehashing, running_into, linked_on, counting, free_in_bucket, with_safe, add, delete, steppers, after, adding, filled, readers, seen, done, begun, ended, iterates, each_place, one_for_another, there_and_back, call_by_call, cases}
use Rattle.model.proofs.Computing.{computing}
use Rattle.model.proofs.Tests.{Tells, told, tells_true, tells_same, tells_and, tells_eq, tells_le}
use Rattle.model.proofs.Suggested.{growing_capped}

same : List ℕ → List ℕ → Bool
same [] [] = true
same [] (y ∷ ys) = false
same (x ∷ xs) [] = false
same (x ∷ xs) (y ∷ ys) = eqb x y && same xs ys

tells_list : (xs ys : List ℕ) → Tells (xs ≡ ys) (same xs ys)
unfolding same
tells_list [] [] = Tells.holds refl
tells_list [] (y ∷ ys) = Tells.fails (λ e. let z : ◌≡◌ {A = ℕ} 0 1 = cc in omega arith)
tells_list (x ∷ xs) [] = Tells.fails (λ e. let z : ◌≡◌ {A = ℕ} 0 1 = cc in omega arith)
tells_list (x ∷ xs) (y ∷ ys) =
    tells_same (λ h. ap₂ ◌∷◌ h.0 h.1) (λ e. (cc, cc)) (tells_and (tells_eq x y) (tells_list xs ys))

-- the test of a row
gives : Group → ℕ → List ℕ → ℕ → Bool
gives g bucket buckets next = eqb g.small bucket && same g.large buckets && eqb g.answered next

tells_gives : (g : Group) (bucket : ℕ) (buckets : List ℕ) (next : ℕ)
    → Tells (Gives g bucket buckets next) (gives g bucket buckets next)
unfolding gives Gives
tells_gives g bucket buckets next =
    tells_same (λ h. (h.0.0, h.0.1, h.1)) (λ h. ((h.0, h.1), h.2))
    (tells_and (tells_and (tells_eq g.small bucket) (tells_list g.large buckets)) (tells_eq g.answered next))

walks : ℕ → List ℕ → Bool
walks size [] = true
walks size (cursor ∷ []) = true
walks size (cursor ∷ next ∷ rest) = gives (one_table size cursor) cursor [] next && walks size (next ∷ rest)

tells_walks : (size : ℕ) (cursors : List ℕ) → Tells (Walks size cursors) (walks size cursors)
unfolding walks Walks
tells_walks size [] = Tells.holds tt
tells_walks size (cursor ∷ []) = Tells.holds tt
tells_walks size (cursor ∷ next ∷ rest) =
    tells_and (tells_gives (one_table size cursor) cursor [] next) (tells_walks size (next ∷ rest))

answering : World → List Call → ℕ → Bool
answering w [] number = true
answering w (c ∷ cs) number = eqb (perform w c).reply.number number && answering w cs number

tells_answering : (w : World) (cs : List Call) (number : ℕ) → Tells (EachAnswers w cs number) (answering w cs number)
unfolding answering EachAnswers
tells_answering w [] number = Tells.holds tt
tells_answering w (c ∷ cs) number = tells_and (tells_eq (perform w c).reply.number number) (tells_answering w cs number)

stepping : Reply State → List ℕ → ℕ → Bool
stepping r values next = eqb r.number 0 && same r.values values && eqb r.state.rehash_index next

tells_stepping : (r : Reply State) (values : List ℕ) (next : ℕ) → Tells (StepsTo r values next) (stepping r values next)
unfolding stepping StepsTo
tells_stepping r values next =
    tells_same (λ h. (h.0.0, h.0.1, h.1)) (λ h. ((h.0, h.1), h.2))
    (tells_and (tells_and (tells_eq r.number 0) (tells_list r.values values)) (tells_eq r.state.rehash_index next))

leaving : World → List Call → ℕ → Bool
leaving w [] next = true
leaving w (c ∷ cs) next =
    eqb (perform w c).reply.number 0 && eqb (perform w c).reply.state.rehash_index next && leaving w cs next

tells_leaving : (w : World) (cs : List Call) (next : ℕ) → Tells (EachLeaves w cs next) (leaving w cs next)
unfolding leaving EachLeaves
tells_leaving w [] next = Tells.holds tt
tells_leaving w (c ∷ cs) next =
    tells_same (λ h. (h.0.0, h.0.1, h.1)) (λ h. ((h.0, h.1), h.2))
    (tells_and (tells_and (tells_eq (perform w c).reply.number 0) (tells_eq (perform w c).reply.state.rehash_index next))
    (tells_leaving w cs next))

adding_to : Reply State → ℕ → ℕ → Bool
adding_to r old new = eqb r.number 0 && eqb r.state.old_size old && eqb r.state.new_size new

tells_adding : (r : Reply State) (old new : ℕ) → Tells (AddsTo r old new) (adding_to r old new)
unfolding adding_to AddsTo
tells_adding r old new =
    tells_same (λ h. (h.0.0, h.0.1, h.1)) (λ h. ((h.0, h.1), h.2))
    (tells_and (tells_and (tells_eq r.number 0) (tells_eq r.state.old_size old)) (tells_eq r.state.new_size new))

reading : Option (List ℕ) → List ℕ → Bool
reading none entries = false
reading (some ns) entries = same ns entries

tells_reading : (o : Option (List ℕ)) (entries : List ℕ) → Tells (o ≡ some entries) (reading o entries)
unfolding reading
tells_reading none entries = Tells.fails (λ e. let z : ◌≡◌ {A = ℕ} 0 1 = cc in omega arith)
tells_reading (some ns) entries = tells_same (ap some) (λ e. cc) (tells_list ns entries)

-- an outcome is what an event says of its call
seen_as : Outcome → Event → Bool
seen_as o e = eqb o.reply.number e.number && same o.reply.values e.values && same o.lent e.lent

same_event : (c : Call) {n m : ℕ} {vs us ls ks : List ℕ} → n ≡ m → vs ≡ us → ls ≡ ks
    → ◌≡◌ {A = Event} (record { call = c; number = n; values = vs; lent = ls }) (record { call = c; number = m; values = us; lent = ks })
same_event c en ev el = cc

seen_event : (o : Outcome) (e : Event) → seen_as o e ≡ true → event e.call o ≡ e
unfolding seen_as event
seen_event o e h =
    let each =
    told (tells_and (tells_and (tells_eq o.reply.number e.number) (tells_list o.reply.values e.values)) (tells_list o.lent e.lent)) h in
    same_event e.call each.0.0 each.0.1 each.1

showing : World → List Event → Bool
showing w [] = true
showing w (e ∷ es) = seen_as (perform w e.call) e && showing (carry w (perform w e.call)) es

shown_events : (w : World) (es : List Event) → showing w es ≡ true → events perform w (map (λ (e : Event). e.call) es) ≡ es
unfolding showing events
shown_events w [] h = refl
shown_events w (e ∷ es) h =
    let o = perform w e.call in
    let each = told (tells_and (tells_true (seen_as o e)) (tells_true (showing (carry w o) es))) h in
    ap₂ ◌∷◌ (seen_event o e each.0) (shown_events (carry w o) es each.1)

test : Row → Bool
test (Row.at_one size cursor bucket next) = gives (one_table size cursor) bucket [] next
test (Row.at_two small large cursor bucket buckets next) = gives (two_tables small large cursor) bucket buckets next
test (Row.walk size cursors) = walks size cursors
test (Row.at_any size next) = eqb size 1 && eqb next 0
test (Row.suggests growing keys size) = eqb (suggested growing keys) size
test (Row.suggests_above growing keys size) =
    growing && leb (2 ^ largest_exponent) (keys * 2) && eqb size (2 ^ largest_exponent)
test (Row.answers w cs number) = answering w cs number
test (Row.steps w values next) = stepping (perform w Call.rehash_step).reply values next
test (Row.leaves w cs next) = leaving w cs next
test (Row.adds w key old new) = adding_to (perform w (add key)).reply old new
test (Row.reads w p entries) = reading (chain_at w.state w.first w.second w.entries p) entries
test (Row.history w shown) = showing w shown

-- one bucket: whatever the cursor, the walk ends
one_bucket_lem : (cursor : ℕ) → (one_table 1 cursor).answered ≡ 0
unfolding one_table
one_bucket_lem cursor = omega (arith, next_lt 0 cursor (lit≤ tt))

row_true : (row : Row) → test row ≡ true → Holds row
unfolding test Holds
row_true (Row.at_one size cursor bucket next) h = told (tells_gives (one_table size cursor) bucket [] next) h
row_true (Row.at_two small large cursor bucket buckets next) h =
    told (tells_gives (two_tables small large cursor) bucket buckets next) h
row_true (Row.walk size cursors) h = told (tells_walks size cursors) h
row_true (Row.at_any size next) h =
    let each = told (tells_and (tells_eq size 1) (tells_eq next 0)) h in
    λ cursor.
    subst (λ (n : ℕ). (one_table n cursor).answered ≡ next) (sym each.0) (one_bucket_lem cursor ∙ sym each.1)
row_true (Row.suggests growing keys size) h = told (tells_eq (suggested growing keys) size) h
row_true (Row.suggests_above growing keys size) h =
    let each =
    told (tells_and (tells_and (tells_true growing) (tells_le (2 ^ largest_exponent) (keys * 2))) (tells_eq size (2 ^ largest_exponent))) h in
    λ more l.
    subst (λ (t : Bool). suggested t more ≡ size) (sym each.0.0)
    (growing_capped more (omega (arith, each.0.1)) ∙ sym each.1)
row_true (Row.answers w cs number) h = told (tells_answering w cs number) h
row_true (Row.steps w values next) h = told (tells_stepping (perform w Call.rehash_step).reply values next) h
row_true (Row.leaves w cs next) h = told (tells_leaving w cs next) h
row_true (Row.adds w key old new) h = told (tells_adding (perform w (add key)).reply old new) h
row_true (Row.reads w p entries) h = told (tells_reading (chain_at w.state w.first w.second w.entries p) entries) h
row_true (Row.history w shown) h = shown_events w shown h

test_all : List Row → Bool
test_all [] = true
test_all (row ∷ rows) = test row && test_all rows

all_true : (rows : List Row) → test_all rows ≡ true → AllHold rows
unfolding test_all AllHold
all_true [] h = tt
all_true (row ∷ rows) h =
    let each = told (tells_and (tells_true (test row)) (tells_true (test_all rows))) h in
    (row_true row each.0, all_true rows each.1)

computed : test_all cases ≡ true
unfolding computing test_all test gives walks answering stepping leaving adding_to reading seen_as showing same cases fresh bucket_zero resting moving in_both sparse rehashing running_into linked_on counting free_in_bucket with_safe add delete steppers after adding filled readers seen done begun ended iterates each_place one_for_another there_and_back call_by_call
computed = refl

pub cases_hold : AllHold cases
cases_hold = all_true cases computed
