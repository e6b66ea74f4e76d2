-- The next cursor of a table (SPECIFICATION, "The walk").
use Rattle.std.specs.Prelude.{ℕ, ◌+◌, ◌-◌, ◌%◌, ◌^◌}
use Rattle.cursor.specs.Reverse.{rev}

-- in a table of size 2^b, the cursor with all bits above its lowest b set to one
unfoldable pub set_high : ℕ → ℕ → ℕ
set_high size cursor = cursor % size + (2 ^ 32 - size)

-- one more, where all ones becomes 0
unfoldable pub add_one : ℕ → ℕ
add_one x = (x + 1) % 2 ^ 32

-- the next cursor for a table of that size, a power of two: set the high bits, reverse, add one, reverse back
unfoldable pub next : ℕ → ℕ → ℕ
next size cursor = rev (add_one (rev (set_high size cursor)))
