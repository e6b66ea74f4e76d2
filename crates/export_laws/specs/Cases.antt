-- SPECIFICATION, "Calls over bytes": some exports on small slices, byte for byte, as one table with one statement over it,
-- `AllHold cases`.
use Rattle.std.specs.Prelude.{ℕ, ◌≡◌, Bool, true, false, List, [], ◌∷◌, replicate, set}
use Rattle.little_endian.specs.Words.{decode, encode}
use Rattle.lent_bytes.specs.Exports.{Lent, Done, lengths_fit, Export, exported}

-- Some bytes and the numbers that they are; the lengths of the slices, and whether they fit; an export, given its slices, the
-- number that it returns, and the slices after it.
pub data Row : Type 0 where
  codes : (bytes numbers : List ℕ) → Row
  fits : (state first second entries list answer : ℕ) (fit : Bool) → Row
  does : (x : Export) (before : Lent) (number : ℕ) (after : Lent) → Row

unfoldable pub Holds : Row → Type 0
Holds (Row.codes bytes numbers) = (decode bytes ≡ numbers) × (encode numbers ≡ bytes)
Holds (Row.fits state first second entries list answer fit) = lengths_fit state first second entries list answer ≡ fit
Holds (Row.does x before number after) = exported x before ≡ Done.done number after

unfoldable pub AllHold : List Row → Type 0
AllHold [] = Unit {0}
AllHold (row ∷ rows) = Holds row × AllHold rows

-- The bytes before a call, where any will do.
unfoldable pub nines : ℕ → List ℕ
nines n = replicate n 9

unfoldable pub zeros : ℕ → List ℕ
zeros n = replicate n 0

-- A store of one bucket and one entry, new; then with key 7, which failed 513 times. The second buffer is empty, so that the
-- table cannot grow.
unfoldable pub new_state : List ℕ
new_state = encode (0 ∷ 1 ∷ 0 ∷ 0 ∷ 0 ∷ 0 ∷ 0 ∷ 1 ∷ 1 ∷ 1 ∷ 0 ∷ [])

unfoldable pub new_store : List ℕ → List ℕ → Lent
new_store list answer = Lent.lent new_state (zeros 4) [] (zeros 12) list answer

unfoldable pub held_state : List ℕ
held_state = encode (0 ∷ 1 ∷ 0 ∷ 1 ∷ 0 ∷ 0 ∷ 0 ∷ 0 ∷ 1 ∷ 1 ∷ 0 ∷ [])

-- its state's bytes may be others
unfoldable pub held : List ℕ → List ℕ → List ℕ → Lent
held state list answer = Lent.lent state (1 ∷ 0 ∷ 0 ∷ 0 ∷ []) [] (encode (0 ∷ 7 ∷ 513 ∷ [])) list answer

unfoldable pub cases : List Row
cases =
    -- the lowest byte comes first
    Row.codes (1 ∷ 2 ∷ 3 ∷ 4 ∷ 255 ∷ 255 ∷ 255 ∷ 255 ∷ []) (67305985 ∷ 4294967295 ∷ [])
    -- the largest slices, and a long list; then each slice with another length
    ∷ Row.fits 44 16384 16384 49152 1048576 8 true
    ∷ Row.fits 43 16384 16384 49152 0 8 false
    ∷ Row.fits 48 16384 16384 49152 0 8 false
    ∷ Row.fits 44 16388 16384 49152 0 8 false
    ∷ Row.fits 44 16382 16384 49152 0 8 false
    ∷ Row.fits 44 16384 16388 49152 0 8 false
    ∷ Row.fits 44 16384 16382 49152 0 8 false
    ∷ Row.fits 44 16384 16384 49156 0 8 false
    ∷ Row.fits 44 16384 16384 49150 0 8 false
    ∷ Row.fits 44 16384 16384 49152 6 8 false
    ∷ Row.fits 44 16384 16384 49152 0 7 false
    ∷ Row.fits 44 16384 16384 49152 0 16 false
    -- a start reads no state, writes one where it is answered, and leaves one where it is not
    ∷ Row.does (Export.init 1 1) (Lent.lent (nines 44) (nines 4) [] (nines 12) [] (nines 8)) 0 (new_store [] (zeros 8))
    ∷ Row.does (Export.init 1 3) (Lent.lent (nines 44) (nines 4) [] (nines 12) [] (nines 8)) 6
    (Lent.lent (nines 44) (nines 4) [] (nines 12) [] (zeros 8))
    ∷ Row.does (Export.init 1 1) (Lent.lent (nines 40) (nines 4) [] (nines 12) [] (nines 8)) 1
    (Lent.lent (nines 40) (nines 4) [] (nines 12) [] (zeros 8))
    -- an add, and finds of a key that is held and of one that is not
    ∷ Row.does (Export.add 7 513) (new_store [] (nines 8)) 0 (held held_state [] (zeros 8))
    ∷ Row.does (Export.find 7) (held held_state [] (nines 8)) 0 (held held_state [] (1 ∷ 2 ∷ zeros 6))
    ∷ Row.does (Export.find 8) (held held_state [] (nines 8)) 3 (held held_state [] (zeros 8))
    -- each flag of the state at 2; an answer of another length stays
    ∷ Row.does (Export.find 7) (held (set held_state 0 2) [] (nines 8)) 1 (held (set held_state 0 2) [] (zeros 8))
    ∷ Row.does (Export.find 7) (held (set held_state 20 2) [] (nines 8)) 1 (held (set held_state 20 2) [] (zeros 8))
    ∷ Row.does (Export.find 7) (held (set held_state 36 2) [] (nines 8)) 1 (held (set held_state 36 2) [] (zeros 8))
    ∷ Row.does (Export.find 7) (held held_state [] (nines 7)) 1 (held held_state [] (nines 7))
    -- what lies beyond the pairs stays; a list that is short stays whole, and the answer says how many keys there are
    ∷ Row.does (Export.scan 0) (held held_state (nines 12) (nines 8)) 0
    (held held_state (7 ∷ 0 ∷ 0 ∷ 0 ∷ 1 ∷ 2 ∷ 0 ∷ 0 ∷ nines 4) (0 ∷ 0 ∷ 0 ∷ 0 ∷ 1 ∷ zeros 3))
    ∷ Row.does (Export.scan 0) (held held_state (nines 4) (nines 8)) 9 (held held_state (nines 4) (0 ∷ 0 ∷ 0 ∷ 0 ∷ 1 ∷ zeros 3))
    -- a pass's place comes first
    ∷ Row.does (Export.iterate 0) (held held_state (nines 8) (nines 8)) 0
    (held held_state (7 ∷ 0 ∷ 0 ∷ 0 ∷ 1 ∷ 2 ∷ 0 ∷ 0 ∷ []) (1 ∷ 0 ∷ 0 ∷ 0 ∷ 1 ∷ zeros 3))
    -- a flag among the numbers
    ∷ Row.does (Export.suggested_size 1) (held held_state [] (nines 8)) 0 (held held_state [] (4 ∷ zeros 7))
    ∷ Row.does (Export.suggested_size 2) (held held_state [] (nines 8)) 1 (held held_state [] (zeros 8))
    ∷ Row.does (Export.allow_resize 0) (held held_state [] (nines 8)) 0 (held (set held_state 36 0) [] (zeros 8))
    ∷ Row.does (Export.allow_resize 256) (held held_state [] (nines 8)) 1 (held held_state [] (zeros 8))
    -- the fingerprint takes all eight bytes: 13078267905649422074 for a new store of size 4
    ∷ Row.does Export.begin_iterator
    (Lent.lent (set new_state 4 4) (zeros 16) [] (zeros 12) [] (nines 8)) 0
    (Lent.lent (set new_state 4 4) (zeros 16) [] (zeros 12) [] (250 ∷ 46 ∷ 160 ∷ 89 ∷ 94 ∷ 87 ∷ 127 ∷ 181 ∷ []))
    ∷ []
