-- SPECIFICATION, "The program": what each line of a script writes and leaves, and what a script writes. Every call goes
-- through model's `perform`, and `carry` keeps the store of a refused call.
use Rattle.std.specs.Prelude.{ℕ, ◌*◌, cond, Option, Some, None, List, [], ◌∷◌, ◌++◌, length, get_or, take, replicate, leb, ltb}
use Rattle.model.specs.Calls.{no_state}
use Rattle.model.specs.Sequences.{KeyCall, Call, World, world, Outcome, perform, carry}
use Rattle.script.specs.declared.line.Command.{Command}
use Rattle.script.specs.Lines.{command, lines_of}
use Rattle.script.specs.Answers.{answer_line, bad_line}

-- the largest capacity and the largest table size that the program takes; its buffers have room for just these, and for the
-- pairs of as many keys
unfoldable pub program_limit : ℕ
program_limit = 4096

-- A capacity or a size as the store is asked for it. One above the limit is asked for as 0, which is no capacity and no size:
-- so it is refused, and just where the store refuses such a number.
unfoldable pub limited : ℕ → ℕ
limited n = cond (leb n program_limit) n 0

-- what a line or some lines write, and what they leave: the world, and the list that walk calls are lent
pub record Ran : Type 0 where
  pub written : List ℕ
  pub world : World
  pub lent : List ℕ

-- a call's answer, with some numbers behind its values, what it leaves, and the list that walk calls are then lent
unfoldable pub answered : World → Outcome → (more lent : List ℕ) → Ran
answered w o more lent =
    record { written = answer_line o.reply.number (o.reply.values ++ more); world = carry w o; lent = lent }

unfoldable pub called : World → List ℕ → Call → Ran
called w lent call = answered w (perform w call) [] lent

-- the pairs that a walk call hands out: two numbers for each of the keys that it answers
unfoldable pub handed_out : Outcome → List ℕ
handed_out o = take (get_or o.reply.values 1 0 * 2) o.lent

unfoldable pub walked : World → Call → Ran
walked w call = let o = perform w call in answered w o (handed_out o) o.lent

unfoldable pub run_command : World → List ℕ → Command → Ran
run_command w lent (Command.Init capacity size) = called w lent (Call.init (limited capacity) (limited size))
run_command w lent (Command.Add key value) = called w lent (Call.on key (KeyCall.add value))
run_command w lent (Command.Update key value) = called w lent (Call.on key (KeyCall.update value))
run_command w lent (Command.Delete key) = called w lent (Call.on key KeyCall.delete)
run_command w lent (Command.Find key) = called w lent (Call.on key KeyCall.find)
run_command w lent (Command.Resize size) = called w lent (Call.resize (limited size))
run_command w lent Command.RehashStep = called w lent Call.rehash_step
run_command w lent (Command.Scan cursor) = walked w (Call.scan cursor lent)

-- what a line says, if it says anything
unfoldable pub run_said : World → List ℕ → Option Command → Ran
run_said w lent None = record { written = answer_line bad_line []; world = w; lent = lent }
run_said w lent (Some command) = run_command w lent command

unfoldable pub run_line : World → List ℕ → List ℕ → Ran
run_line w lent line = run_said w lent (command line)

-- A script. Each line finds what the one before left.

-- one thing run after another: both have written, and the second leaves what there is
unfoldable pub and_then : Ran → Ran → Ran
and_then r q = record { written = r.written ++ q.written; world = q.world; lent = q.lent }

unfoldable pub run_lines : World → List ℕ → List (List ℕ) → Ran
run_lines w lent [] = record { written = []; world = w; lent = lent }
run_lines w lent (line ∷ lines) = let r = run_line w lent line in and_then r (run_lines r.world r.lent lines)

unfoldable pub longest_script : ℕ
longest_script = 65536

unfoldable pub first_world : World
first_world = world no_state (replicate program_limit 0) (replicate program_limit 0) (replicate (program_limit * 3) 0)

unfoldable pub run_script : List ℕ → List ℕ
run_script script =
    cond (ltb longest_script (length script))
    (answer_line bad_line [])
    (run_lines first_world (replicate (program_limit * 2) 0) (lines_of script)).written
