-- Exports that the statement on refusals excludes: each does what ours do, and then changes what was lent.
use Rattle.std.specs.Prelude.{cond, length, replicate, eqb}
use Rattle.little_endian.specs.Words.{decode, encode}
use Rattle.lent_bytes.specs.Exports.{Lent, Done, state_numbers, state_from, state_bytes, Export, exported}

-- a refused start writes the zeros that the plain call hands back
unfoldable pub zeroed : Done → Done
zeroed (Done.done number (Lent.lent state first second entries list answer)) =
    Done.done number (Lent.lent (cond (eqb number 6) (replicate state_bytes 0) state) first second entries list answer)

-- a state is always written back as it was read, so that a flag of 2 becomes one that is not set
unfoldable pub rounded : Done → Done
rounded (Done.done number (Lent.lent state first second entries list answer)) =
    Done.done number (Lent.lent (encode (state_numbers (state_from (decode state)))) first second entries list answer)

-- a list that is too short is cleared
unfoldable pub clearing : Done → Done
clearing (Done.done number (Lent.lent state first second entries list answer)) =
    Done.done number (Lent.lent state first second entries (cond (eqb number 9) (replicate (length list) 0) list) answer)

-- a bucket buffer is cleared where the first check refuses
unfoldable pub clearing_first : Done → Done
clearing_first (Done.done number (Lent.lent state first second entries list answer)) =
    Done.done number (Lent.lent state (cond (eqb number 1) (replicate (length first) 0) first) second entries list answer)

unfoldable pub altered : (Done → Done) → Export → Lent → Done
altered change x l = change (exported x l)
