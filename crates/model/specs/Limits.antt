-- SPECIFICATION, "Limits".
use Rattle.std.specs.Prelude.{ℕ, zero, suc, ◌^◌, Bool, ◌&&◌, ◌||◌, leb, eqb}

-- the largest capacity
unfoldable pub largest_capacity : ℕ
largest_capacity = 65536

-- the largest table has 2 to this power buckets
unfoldable pub largest_exponent : ℕ
largest_exponent = 16

unfoldable pub legal_capacity : ℕ → Bool
legal_capacity n = leb 1 n && leb n largest_capacity

-- whether n is a power of two, from 2^0 to 2^b
unfoldable pub power_up_to : ℕ → ℕ → Bool
power_up_to zero n = eqb n 1
power_up_to (suc b) n = power_up_to b n || eqb n (2 ^ suc b)

-- a table size: a power of two, 1 to the largest size
unfoldable pub legal_size : ℕ → Bool
legal_size n = power_up_to largest_exponent n

-- the most empty buckets that a step passes
unfoldable pub empty_visits : ℕ
empty_visits = 10

-- the smallest size that is suggested
unfoldable pub least_suggestion : ℕ
least_suggestion = 4

-- with more than so many keys for each bucket a table grows, whether that is allowed or not
unfoldable pub force_ratio : ℕ
force_ratio = 5

-- the most safe iterators at a time
unfoldable pub most_safe_iterators : ℕ
most_safe_iterators = 255
