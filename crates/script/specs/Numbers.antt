-- A number as a script writes it, and as an answer does.
use Rattle.std.specs.Prelude.{ℕ, zero, suc, ◌+◌, ◌*◌, ◌-◌, ◌/◌, ◌%◌, Bool, true, ◌&&◌, cond, Option, Some, None, List, [], ◌∷◌, ◌++◌, length, leb, ltb}

unfoldable pub most_digits : ℕ
most_digits = 10

unfoldable pub largest_number : ℕ
largest_number = 4294967295

-- the bytes of the digits 0 to 9 are 48 to 57
unfoldable pub is_digit : ℕ → Bool
is_digit b = leb 48 b && leb b 57

unfoldable pub all_digits : List ℕ → Bool
all_digits [] = true
all_digits (b ∷ bs) = is_digit b && all_digits bs

-- the value of some digits, where the digits before them have the value n
unfoldable pub value_after : ℕ → List ℕ → ℕ
value_after n [] = n
value_after n (b ∷ bs) = value_after (n * 10 + (b - 48)) bs

unfoldable pub number : List ℕ → Option ℕ
number word =
    cond (leb 1 (length word) && leb (length word) most_digits && all_digits word && leb (value_after 0 word) largest_number)
    (Some (value_after 0 word))
    None

-- the decimal digits of n, no leading zeros, as long as there are at most so many
unfoldable pub digits : ℕ → ℕ → List ℕ
digits zero n = []
digits (suc most) n = cond (ltb n 10) ((48 + n) ∷ []) (digits most (n / 10) ++ (48 + n % 10) ∷ [])

unfoldable pub decimal : ℕ → List ℕ
decimal n = digits most_digits n
