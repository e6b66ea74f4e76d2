-- For the contracts of the code behind the first check: the room that it has for numbers, and a call on numbers. Nothing here is part
-- of the promise.
use Rattle.std.specs.Prelude.{ℕ, ◌/◌, ◌≡◌, List}
use denote.Ref.{MutBor}
use Rattle.little_endian.specs.Words.{encode}
use Rattle.little_endian.specs.Reading.{Decoded}
use Rattle.export_calls.specs.declared.answers.Answer.{Answer}

-- as many numbers as a buffer has of at most so many bytes
unfoldable pub room_for : ℕ → ℕ
room_for most = most / 4

-- A call on the numbers of three buffers, of which `post` is what is known: what it answers, and the bytes before and after.
pub record Ran (post : MutBor (List ℕ) → MutBor (List ℕ) → MutBor (List ℕ) → Answer
    → MutBor (List ℕ) → MutBor (List ℕ) → MutBor (List ℕ) → Type 0)
    (first second entries : List ℕ) (a : Answer) (first' second' entries' : List ℕ) : Type 0 where
  pub f : MutBor (List ℕ)
  pub g : MutBor (List ℕ)
  pub e : MutBor (List ℕ)
  pub f' : MutBor (List ℕ)
  pub g' : MutBor (List ℕ)
  pub e' : MutBor (List ℕ)
  pub first_read : Decoded first f.now
  pub second_read : Decoded second g.now
  pub entries_read : Decoded entries e.now
  pub ran : post f g e a f' g' e'
  pub first_written : first' ≡ encode f'.now
  pub second_written : second' ≡ encode g'.now
  pub entries_written : entries' ≡ encode e'.now
