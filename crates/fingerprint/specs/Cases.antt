-- Fingerprints of some numbers, computed apart from the definition, after Redis's words with 64-bit numbers without a sign:
-- one table with one statement over it, `AllHold cases`.
use Rattle.std.specs.Prelude.{◌≡◌, ℕ, ◌-◌, ◌^◌, List, [], ◌∷◌}
use Rattle.fingerprint.specs.Mix.{fingerprint}

pub data Row : Type 0 where
  prints : (numbers : List ℕ) (print : ℕ) → Row

unfoldable pub AllHold : List Row → Type 0
AllHold [] = Unit {0}
AllHold (Row.prints numbers print ∷ rows) = (fingerprint numbers ≡ print) × AllHold rows

-- the highest bit alone, and all 64
unfoldable pub highest : ℕ
highest = 2 ^ 63

unfoldable pub ones : ℕ
ones = 2 ^ 64 - 1

-- No numbers at all; a zero, all of whose bits are one once it is turned over, so that a right shift with a sign would differ.
-- Then six: zeros; a one in each position; the highest bit alone, and all bits; the numbers of a store of size 4 with no key, with
-- two, three and four, of one during a rehash, and of one in which the second buffer is the current one. The last two are those
-- of two stores that differ and have one fingerprint.
unfoldable pub cases : List Row
cases =
    Row.prints [] 0
    ∷ Row.prints (0 ∷ []) 8633297058295171728
    ∷ Row.prints (0 ∷ 0 ∷ 0 ∷ 0 ∷ 0 ∷ 0 ∷ []) 9596644176926630232
    ∷ Row.prints (1 ∷ 0 ∷ 0 ∷ 0 ∷ 0 ∷ 0 ∷ []) 7909414568721491680
    ∷ Row.prints (0 ∷ 1 ∷ 0 ∷ 0 ∷ 0 ∷ 0 ∷ []) 12566957489446714542
    ∷ Row.prints (0 ∷ 0 ∷ 1 ∷ 0 ∷ 0 ∷ 0 ∷ []) 1973872792274435755
    ∷ Row.prints (0 ∷ 0 ∷ 0 ∷ 1 ∷ 0 ∷ 0 ∷ []) 7220278942704757712
    ∷ Row.prints (0 ∷ 0 ∷ 0 ∷ 0 ∷ 1 ∷ 0 ∷ []) 13192073228743825263
    ∷ Row.prints (0 ∷ 0 ∷ 0 ∷ 0 ∷ 0 ∷ 1 ∷ []) 4622184928937162944
    ∷ Row.prints (highest ∷ 0 ∷ 0 ∷ 0 ∷ 0 ∷ 0 ∷ []) 9187931256492310619
    ∷ Row.prints (0 ∷ 0 ∷ 0 ∷ 0 ∷ 0 ∷ highest ∷ []) 5297481189796492320
    ∷ Row.prints (ones ∷ ones ∷ ones ∷ ones ∷ ones ∷ ones ∷ []) 2911645009034555964
    ∷ Row.prints (0 ∷ 4 ∷ 0 ∷ 1 ∷ 0 ∷ 0 ∷ []) 13078267905649422074
    ∷ Row.prints (0 ∷ 4 ∷ 2 ∷ 1 ∷ 0 ∷ 0 ∷ []) 8427530295853426936
    ∷ Row.prints (0 ∷ 4 ∷ 3 ∷ 1 ∷ 0 ∷ 0 ∷ []) 6592724455718159528
    ∷ Row.prints (0 ∷ 4 ∷ 4 ∷ 1 ∷ 0 ∷ 0 ∷ []) 10790537964210101343
    ∷ Row.prints (0 ∷ 4 ∷ 3 ∷ 1 ∷ 8 ∷ 2 ∷ []) 14474427534345541117
    ∷ Row.prints (1 ∷ 8 ∷ 4 ∷ 0 ∷ 0 ∷ 0 ∷ []) 17735077309615224655
    ∷ Row.prints (0 ∷ 8 ∷ 11013 ∷ 1 ∷ 256 ∷ 46240 ∷ []) 1014862717411466258
    ∷ Row.prints (0 ∷ 4096 ∷ 61146 ∷ 1 ∷ 2048 ∷ 0 ∷ []) 1014862717411466258
    ∷ []
