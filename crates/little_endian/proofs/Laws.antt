-- What bytes and numbers are to each other, and what the loops come to.
-- Assumes nothing.
use Rattle.std.proofs.Common.{ℕ, zero, suc, ◌*◌, ◌/◌, ◌<◌, ◌≤◌, ◌≡◌, List, [], ◌∷◌, ◌++◌, length, get_or, take, map, Fits, refl, sym, ap, ◌∙◌, arith}
use Rattle.std.proofs.lemmas.List.{take_all}
use Rattle.std.proofs.lemmas.Nat.{le_bytes_4, from_le_bytes-to_le_bytes_4}
use Rattle.std.specs.Int.{w8, w32, from_le_bytes, to_le_bytes}
use Rattle.std.specs.List.{flat_map}
use Rattle.std.specs.Simd.{first_chunks}
use Rattle.little_endian.specs.Words.{word, decode, encode}
use Rattle.little_endian.specs.Reading.{Decoded}

-- every element is below a number
abbrev pub Below : ℕ → List ℕ → Type 0
Below limit bs = (i : ℕ) → get_or bs i 0 < limit

-- The bytes of each number, and the number of every four bytes, as the library has them

pub encode_each : (ns : List ℕ) → encode ns ≡ flat_map (to_le_bytes w32) ns
unfolding encode
encode_each [] = refl
encode_each (n ∷ ns) = rw (encode_each ns)

pub encode_length : (ns : List ℕ) → length (encode ns) ≡ length ns * 4
unfolding encode
encode_length [] = refl
encode_length (n ∷ ns) = omega (arith, encode_length ns)

pub decode_each : (k : ℕ) (bs : List ℕ) → k * 4 ≡ length bs → decode bs ≡ map (from_le_bytes w32) (first_chunks 4 k bs)
unfolding decode word
decode_each zero [] h = refl
decode_each (suc k) [] h = absurd (omega arith)
decode_each k (x ∷ []) h = absurd (omega arith)
decode_each k (x ∷ y ∷ []) h = absurd (omega arith)
decode_each k (x ∷ y ∷ z ∷ []) h = absurd (omega arith)
decode_each zero (x ∷ y ∷ z ∷ w ∷ bs) h = absurd (omega arith)
decode_each (suc k) (x ∷ y ∷ z ∷ w ∷ bs) h = ap (λ (ns : List ℕ). word x y z w ∷ ns) (decode_each k bs (omega arith))

-- One undoes the other

below_four : (x y z w : ℕ) (bs : List ℕ) → Below 256 (x ∷ y ∷ z ∷ w ∷ bs) → Below 256 (x ∷ y ∷ z ∷ w ∷ [])
below_four x y z w bs b zero = b 0
below_four x y z w bs b (suc zero) = b 1
below_four x y z w bs b (suc (suc zero)) = b 2
below_four x y z w bs b (suc (suc (suc zero))) = b 3
below_four x y z w bs b (suc (suc (suc (suc i)))) = omega arith

pub encode_decode : (k : ℕ) (bs : List ℕ) → k * 4 ≡ length bs → Below 256 bs → encode (decode bs) ≡ bs
unfolding decode encode word
encode_decode zero [] h b = refl
encode_decode (suc k) [] h b = refl
encode_decode k (x ∷ []) h b = absurd (omega arith)
encode_decode k (x ∷ y ∷ []) h b = absurd (omega arith)
encode_decode k (x ∷ y ∷ z ∷ []) h b = absurd (omega arith)
encode_decode zero (x ∷ y ∷ z ∷ w ∷ bs) h b = absurd (omega arith)
encode_decode (suc k) (x ∷ y ∷ z ∷ w ∷ bs) h b =
    let four = le_bytes_4 (x ∷ y ∷ z ∷ w ∷ []) (word x y z w) refl (below_four x y z w bs b) refl in
    ap (λ (ns : List ℕ). ns ++ encode (decode bs)) four
    ∙ ap (λ (ns : List ℕ). x ∷ y ∷ z ∷ w ∷ ns) (encode_decode k bs (omega arith) (λ i. b (suc (suc (suc (suc i))))))

pub decode_encode : (ns : List ℕ) → Below 4294967296 ns → decode (encode ns) ≡ ns
unfolding decode encode word
decode_encode [] b = refl
decode_encode (n ∷ ns) b = ap (λ (m : ℕ). m ∷ decode (encode ns)) (from_le_bytes-to_le_bytes_4 n (b 0)) ∙ ap (λ (ms : List ℕ). n ∷ ms) (decode_encode ns (λ i. b (suc i)))

-- The ends of the loops

pub read_end : (bs into : List ℕ) (words : List (List ℕ)) (i : ℕ) → words ≡ first_chunks 4 (length bs / 4) bs
    → (length into ≡ length words) × (take i into ≡ map (from_le_bytes w32) (take i words))
    → length words ≤ i → length into * 4 ≡ length bs → ((j : ℕ) → Fits w8 (get_or bs j 0)) → Decoded bs into
read_end bs into words i w inv all e b =
    let whole : length bs / 4 * 4 ≡ length bs = omega arith in
    let r : into ≡ decode bs =
    sym (take_all i into (omega arith)) ∙ inv.1 ∙ ap (map (from_le_bytes w32)) (take_all i words all ∙ w) ∙ sym (decode_each (length bs / 4) bs whole) in
    record { read = r; back = sym (ap encode r ∙ encode_decode (length bs / 4) bs whole (λ j. (b j).fits)) }

pub write_end : (ns bs : List ℕ) (i : ℕ) → length bs ≡ length ns * 4 → length ns ≤ i
    → take (i * 4) bs ≡ flat_map (to_le_bytes w32) (take i ns) → bs ≡ encode ns
write_end ns bs i e h inv =
    sym (take_all (i * 4) bs (omega arith)) ∙ inv ∙ ap (flat_map (to_le_bytes w32)) (take_all i ns h) ∙ sym (encode_each ns)
