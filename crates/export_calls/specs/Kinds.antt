-- What the code between the bytes and the plain calls tells: a plain call's answer as numbers and a state, and what is known of a
-- call that is passed as a closure, by kind: one that only reads, one that is lent a list, one that writes, and a start, which is
-- given no state. Nothing here is part of the promise.
use Rattle.std.specs.Prelude.{ℕ, ◌≡◌, List, [], get_or}
use denote.Ref.{Bor, MutBor}
use Rattle.model.specs.declared.State.{State}
use Rattle.model.specs.Answers.{Reply}
use Rattle.model.specs.Sequences.{Call, world, Outcome, perform}
use Rattle.lent_bytes.specs.Exports.{results}
use Rattle.export_calls.specs.declared.answers.Answer.{Answer}

unfoldable pub answer_of : Reply State → Answer
answer_of r =
    record {
      number = r.number;
      one = get_or (results r.values) 0 0;
      two = get_or (results r.values) 1 0;
      state = r.state;
    }

-- what a call answers, in numbers, by the definition of its reply; a record, so that a search tells which reply it is about
pub record InNumbers {A : Type 0} (r : Answer) (f : A → Reply State) (a : A) : Type 0 where
  pub numbers : r ≡ answer_of (f a)

-- an answer, and the buffers and the list after it
pub data Told : Type 0 where
  tells : Answer → (first second entries list : List ℕ) → Told

unfoldable pub told : Outcome → Told
told o = Told.tells (answer_of o.reply) o.first o.second o.entries o.lent

-- A closure is that call: whatever it is given, it answers and leaves what the call does. One that only reads answers the state that
-- it was given.

pub record Answers (c : Call) (first second entries : List ℕ) (s : State) (a : Answer) (list : List ℕ) : Type 0 where
  pub answers : Told.tells a first second entries list ≡ told (perform (world s first second entries) c)
  pub keeps : a.state ≡ s

abbrev pub Reads : (Bor (List ℕ) → Bor (List ℕ) → Bor (List ℕ) → State → Answer → Type 0) → Call → Type 0
Reads post c =
    (first second entries : Bor (List ℕ)) (s : State) (a : Answer) → post first second entries s a
    → Answers c first.now second.now entries.now s a []

abbrev pub Lists : (Bor (List ℕ) → Bor (List ℕ) → Bor (List ℕ) → MutBor (List ℕ) → State → Answer → MutBor (List ℕ) → Type 0)
    → (List ℕ → Call) → Type 0
Lists post c =
    (first second entries : Bor (List ℕ)) (list : MutBor (List ℕ)) (s : State) (a : Answer) (list' : MutBor (List ℕ))
    → post first second entries list s a list' → Answers (c list.now) first.now second.now entries.now s a list'.now

abbrev pub Writes : (MutBor (List ℕ) → MutBor (List ℕ) → MutBor (List ℕ) → State → Answer
    → MutBor (List ℕ) → MutBor (List ℕ) → MutBor (List ℕ) → Type 0)
    → Call → Type 0
Writes post c =
    (first second entries : MutBor (List ℕ)) (s : State) (a : Answer) (first' second' entries' : MutBor (List ℕ))
    → post first second entries s a first' second' entries'
    → Told.tells a first'.now second'.now entries'.now [] ≡ told (perform (world s first.now second.now entries.now) c)

abbrev pub Starts : (MutBor (List ℕ) → MutBor (List ℕ) → MutBor (List ℕ) → Answer
    → MutBor (List ℕ) → MutBor (List ℕ) → MutBor (List ℕ) → Type 0)
    → Call → Type 0
Starts post c =
    (first second entries : MutBor (List ℕ)) (s : State) (a : Answer) (first' second' entries' : MutBor (List ℕ))
    → post first second entries a first' second' entries'
    → Told.tells a first'.now second'.now entries'.now [] ≡ told (perform (world s first.now second.now entries.now) c)
