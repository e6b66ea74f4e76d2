-- Bytes in two parts: the numbers of a part are that part of the numbers, and back.
-- Assumes nothing.
use Prim.Native.Nat.{ℕ, zero, suc, ◌+◌, ◌*◌, ◌-◌, ◌/◌, ◌≤◌}
use native.Mathlib.Omega.{arith}
use mathlib.Core.Path.{◌≡◌, refl, sym, ap, ◌∙◌}
use mathlib.Core.List.{List, [], ◌∷◌, ◌++◌}
use lib.ListN.{length, take, drop, length-drop}
use lib.Seq.{get_or-drop}
use Rattle.little_endian.specs.Words.{decode, encode}
use Rattle.little_endian.proofs.Laws.{Below, encode_decode}

pub decode_length : (bytes : List ℕ) → length (decode bytes) ≡ length bytes / 4
unfolding decode
decode_length [] = refl
decode_length (a ∷ []) = refl
decode_length (a ∷ b ∷ []) = refl
decode_length (a ∷ b ∷ c ∷ []) = refl
decode_length (a ∷ b ∷ c ∷ d ∷ bytes) = omega (arith, decode_length bytes)

-- a number's four bytes, and those of the numbers behind it
four_more : (m : ℕ) → suc m * 4 ≡ suc (suc (suc (suc (m * 4))))
four_more m = omega arith

pub decode_take : (m : ℕ) (bytes : List ℕ) → decode (take (m * 4) bytes) ≡ take m (decode bytes)
unfolding decode
decode_take zero bytes = refl
decode_take (suc m) [] = rw (four_more m)
decode_take (suc m) (a ∷ []) = rw (four_more m)
decode_take (suc m) (a ∷ b ∷ []) = rw (four_more m)
decode_take (suc m) (a ∷ b ∷ c ∷ []) = rw (four_more m)
decode_take (suc m) (a ∷ b ∷ c ∷ d ∷ bytes) = rw (four_more m, decode_take m bytes)

decode_drop : (m : ℕ) (bytes : List ℕ) → decode (drop (m * 4) bytes) ≡ drop m (decode bytes)
unfolding decode
decode_drop zero bytes = refl
decode_drop (suc m) [] = rw (four_more m)
decode_drop (suc m) (a ∷ []) = rw (four_more m)
decode_drop (suc m) (a ∷ b ∷ []) = rw (four_more m)
decode_drop (suc m) (a ∷ b ∷ c ∷ []) = rw (four_more m)
decode_drop (suc m) (a ∷ b ∷ c ∷ d ∷ bytes) = rw (four_more m, decode_drop m bytes)

pub encode_append : (ns ms : List ℕ) → encode (ns ++ ms) ≡ encode ns ++ encode ms
unfolding encode
encode_append [] ms = refl
encode_append (n ∷ ns) ms = rw (encode_append ns ms)

-- the rest of the numbers are the rest of the bytes
pub encode_rest : (m : ℕ) (bytes : List ℕ) → length bytes / 4 * 4 ≡ length bytes → m ≤ length bytes / 4 → Below 256 bytes
    → encode (drop m (decode bytes)) ≡ drop (m * 4) bytes
encode_rest m bytes whole few b =
    ap encode (sym (decode_drop m bytes))
    ∙ encode_decode (length bytes / 4 - m) (drop (m * 4) bytes) (omega (arith, length-drop (m * 4) bytes))
    (λ i. rw (get_or-drop (m * 4) bytes i 0) (b (m * 4 + i)))
