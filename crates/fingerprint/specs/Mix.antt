-- The fingerprint of a list of numbers (Redis's dictFingerprint): each number is added to what is made of those before it,
-- and the sum is mixed. All is modulo 2 ^ 64, on numbers without a sign.
use Rattle.std.specs.Prelude.{ℕ, ◌+◌, ◌-◌, ◌*◌, ◌/◌, ◌%◌, ◌^◌, List, bit_xor, fold}

-- the lowest 64 bits
unfoldable pub cut : ℕ → ℕ
cut n = n % 2 ^ 64

-- a sum that wraps
unfoldable pub plus : ℕ → ℕ → ℕ
plus a b = cut (a + b)

-- all 64 bits turned over
unfoldable pub inverse : ℕ → ℕ
inverse n = 2 ^ 64 - 1 - n

-- by so many places to the left: what leaves the 64 bits is lost
unfoldable pub left : ℕ → ℕ → ℕ
left places n = cut (n * 2 ^ places)

-- by so many places to the right: zeros come in, also where the highest bit is one
unfoldable pub right : ℕ → ℕ → ℕ
right places n = n / 2 ^ places

-- Thomas Wang's hash of a 64-bit number, line by line
unfoldable pub mixed : ℕ → ℕ
mixed h =
    let a = plus (inverse h) (left 21 h) in
    let b = bit_xor a (right 24 a) in
    let c = plus (plus b (left 3 b)) (left 8 b) in
    let d = bit_xor c (right 14 c) in
    let e = plus (plus d (left 2 d)) (left 4 d) in
    let f = bit_xor e (right 28 e) in
    plus f (left 31 f)

-- the numbers of a list, taken in one after the other
unfoldable pub folded : ℕ → List ℕ → ℕ
folded h ns = fold (λ a n. mixed (plus a n)) h ns

unfoldable pub fingerprint : List ℕ → ℕ
fingerprint ns = folded 0 ns
