-- SPECIFICATION, "Calls over bytes": bytes as 32-bit numbers, little-endian, and numbers as bytes.
use Rattle.std.specs.Prelude.{ℕ, ◌+◌, ◌*◌, ◌/◌, ◌%◌, List, [], ◌∷◌}

unfoldable pub word : ℕ → ℕ → ℕ → ℕ → ℕ
word a b c d = a + b * 256 + c * 65536 + d * 16777216

-- the numbers that bytes are, four to a number; a rest of fewer than four bytes is none
unfoldable pub decode : List ℕ → List ℕ
decode [] = []
decode (a ∷ []) = []
decode (a ∷ b ∷ []) = []
decode (a ∷ b ∷ c ∷ []) = []
decode (a ∷ b ∷ c ∷ d ∷ rest) = word a b c d ∷ decode rest

-- the bytes that numbers are
unfoldable pub encode : List ℕ → List ℕ
encode [] = []
encode (n ∷ ns) = n % 256 ∷ n / 256 % 256 ∷ n / 65536 % 256 ∷ n / 16777216 % 256 ∷ encode ns
