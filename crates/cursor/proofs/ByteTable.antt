-- A word's reversal, looked up byte by byte. One computed test, that the table is the list of the reversals of 0 to 255, gives
-- each place its reversal (`tested`); one law adds a byte to what is reversed so far (`byte_more`).
use Rattle.std.proofs.Common.{◌≡◌, ℕ, zero, suc, ◌+◌, ◌*◌, ◌/◌, ◌%◌, ◌^◌, ◌<◌, List, [], ◌∷◌, get_or, ap, ◌∙◌, le_of_suc-le-suc, add-zero, add-suc, suc-add, zero-add, arith}
use Rattle.std.specs.Int.{w16, w32, to_le_bytes, from_be_bytes}
use Rattle.cursor.specs.Reverse.{reverse, rev}
use Rattle.cursor.proofs.Reversal.{reverse_split, reverse_mod}

-- the reversals of i, i + 1 and so on, n of them
abbrev pub reversals_from : ℕ → ℕ → List ℕ
reversals_from i zero = []
reversals_from i (suc n) = reverse 8 i ∷ reversals_from (suc i) n

-- each of them, at its place
reversal_at : (i n k : ℕ) → k < n → get_or (reversals_from i n) k 0 ≡ reverse 8 (i + k)
reversal_at i zero k h = absurd (omega arith)
reversal_at i (suc n) zero h = rw add-zero
reversal_at i (suc n) (suc k) h = rw (add-suc, ← suc-add i k) (reversal_at (suc i) n k (le_of_suc-le-suc h))

-- the test, and what it says of the place of each byte
pub tested : (bytes : List ℕ) → bytes ≡ reversals_from 0 256 → (place byte : ℕ) → place ≡ byte → byte < 256 → get_or bytes place 0 ≡ reverse 8 byte
tested bytes e place byte p h = rw (p, e) (reversal_at 0 256 byte h ∙ ap (reverse 8) (zero-add byte))

-- the n lowest bits reversed, and behind them the byte over them
byte_more : (x n r b : ℕ) → r ≡ reverse n x → b ≡ reverse 8 (x / 2 ^ n % 256) → r * 256 + b ≡ reverse (n + 8) x
byte_more x n r b e f = rw (e, f, reverse_mod 8 (x / 2 ^ n), reverse_split)

-- a word's bytes, each reversed, in the opposite order: the reversal of the word
pub four_bytes :
    (x first second third fourth r : ℕ)
    → (bytes : List ℕ)
    → bytes ≡ to_le_bytes w32 x
    → first ≡ reverse 8 (get_or bytes 0 0)
    → second ≡ reverse 8 (get_or bytes 1 0)
    → third ≡ reverse 8 (get_or bytes 2 0)
    → fourth ≡ reverse 8 (get_or bytes 3 0)
    → r ≡ from_be_bytes w32 (first ∷ second ∷ third ∷ fourth ∷ [])
    → r ≡ rev x
unfolding rev
four_bytes x first second third fourth r bytes b e f g h k =
    let lowest : first ≡ reverse 8 x = (rw b at e) ∙ reverse_mod 8 x in
    let two = byte_more x 8 first second lowest (rw b at f) in
    let three = byte_more x 16 _ third two (rw b at g) in
    let joined : r ≡ ((first * 256 + second) * 256 + third) * 256 + fourth = omega arith in
    joined ∙ byte_more x 24 _ fourth three (rw b at h)

-- a word's two lowest bytes, each reversed, in the opposite order: the reversal of its 16 lowest bits
pub two_bytes :
    (x first second r : ℕ)
    → (bytes : List ℕ)
    → bytes ≡ to_le_bytes w32 x
    → first ≡ reverse 8 (get_or bytes 0 0)
    → second ≡ reverse 8 (get_or bytes 1 0)
    → r ≡ from_be_bytes w16 (first ∷ second ∷ [])
    → r ≡ reverse 16 x
two_bytes x first second r bytes b e f k =
    let lowest : first ≡ reverse 8 x = (rw b at e) ∙ reverse_mod 8 x in
    let joined : r ≡ first * 256 + second = omega arith in
    joined ∙ byte_more x 8 first second lowest (rw b at f)
