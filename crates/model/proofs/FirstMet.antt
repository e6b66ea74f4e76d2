-- The first entry with a key, of a list, of joined lists, and of all entries that the repair meets: there it is the first of
-- the key's bucket in the old table, or else in the new one.
-- Assumes nothing.
use Prim.Native.Nat.{ℕ, zero, suc, ◌≤◌, ◌<◌}
use mathlib.Core.Path.{◌≡◌, refl, sym, ap, ◌∙◌}
use mathlib.Core.Logic.{inl, inr, ⊎_elim}
use mathlib.Core.Bool.{Bool, true, false, cond}
use mathlib.Core.List.{List, [], ◌∷◌, ◌++◌}
use native.Mathlib.Decide.{dec_lt}
use native.Mathlib.Nat.{mod-lt}
use native.Mathlib.Omega.{arith}
use lib.ListN.{length}
use lib.Dec.{eqb}
use borrow.Author.Tests.{ne_eqb, eqb-true, eqb-false}
use Rattle.cursor.specs.Member.{In}
use Rattle.model.specs.declared.State.{State}
use Rattle.model.specs.declared.Table.{Table}
use Rattle.model.specs.Keys.{bucket_of, hash}
use Rattle.model.specs.Limits.{legal_size, largest_exponent}
use Rattle.model.specs.Memory.{key_of, in_bucket, size_of, buckets_of}
use Rattle.model.specs.Repair.{followed_in, met_in, met_before, met_at, met_all, first_met}
use Rattle.model.proofs.Power.{legal_pos}
use Rattle.model.proofs.Soundness.{Sound}
use Rattle.model.proofs.Followed.{here_met, of_up_to}

-- the first of two, 0 for none
unfoldable pub or_first : ℕ → ℕ → ℕ
or_first zero y = y
or_first (suc x) y = suc x

pub or_none : (x : ℕ) → or_first x 0 ≡ x
unfolding or_first
or_none zero = refl
or_none (suc x) = refl

unfoldable pub Positive : List ℕ → Type 0
Positive ns = (n : ℕ) → In n ns → 0 < n

-- where the entries have the same keys
pub first_met_keys : (e e₀ : List ℕ) (key : ℕ) (ns : List ℕ) → ((n : ℕ) → In n ns → key_of e n ≡ key_of e₀ n)
    → first_met e key ns ≡ first_met e₀ key ns
unfolding first_met
first_met_keys e e₀ key [] h = refl
first_met_keys e e₀ key (n ∷ ns) h = rw (h n (inl refl), first_met_keys e e₀ key ns (λ m i. h m (inr i)))

pub first_met_append : (e : List ℕ) (key : ℕ) (xs ys : List ℕ) → Positive xs
    → first_met e key (xs ++ ys) ≡ or_first (first_met e key xs) (first_met e key ys)
unfolding first_met or_first Positive
first_met_append e key [] ys p = refl
first_met_append e key (zero ∷ xs) ys p = let z = p 0 (inl refl) in absurd (omega arith)
first_met_append e key (suc n ∷ xs) ys p =
    by (eqb (key_of e (suc n)) key) (first_met_append e key xs ys (λ m i. p m (inr i)))
  where
    by : (b : Bool) → first_met e key (xs ++ ys) ≡ or_first (first_met e key xs) (first_met e key ys)
        → cond b (suc n) (first_met e key (xs ++ ys)) ≡ or_first (cond b (suc n) (first_met e key xs)) (first_met e key ys)
    by true h = refl
    by false h = h

pub first_met_none : (e : List ℕ) (key : ℕ) (ns : List ℕ) → ((n : ℕ) → In n ns → key_of e n ≡ key → ⊥) → first_met e key ns ≡ 0
unfolding first_met
first_met_none e key [] f = refl
first_met_none e key (n ∷ ns) f = rw (ne_eqb (key_of e n) key (f n (inl refl))) (first_met_none e key ns (λ m i. f m (inr i)))

-- where an entry has the key, there is a first one
pub first_met_some : (e : List ℕ) (key : ℕ) (ns : List ℕ) → Positive ns → (n : ℕ) → In n ns → key_of e n ≡ key
    → 0 < first_met e key ns
unfolding first_met Positive
first_met_some e key [] p n i k = elim i [ ]
first_met_some e key (m ∷ ns) p n i k = by (eqb (key_of e m) key) refl i (first_met_some e key ns (λ j h. p j (inr h)) n)
  where
    by : (b : Bool) → eqb (key_of e m) key ≡ b → In n (m ∷ ns) → (In n ns → key_of e n ≡ key → 0 < first_met e key ns)
        → 0 < cond b m (first_met e key ns)
    by true t j rest = p m (inl refl)
    by false t (inl same) rest = absurd (eqb-false (key_of e m) key t (ap (key_of e) (sym same) ∙ k))
    by false t (inr j) rest = rest j k

-- and it has the key
pub first_met_key : (e : List ℕ) (key : ℕ) (ns : List ℕ) (n : ℕ) → 0 < n → first_met e key ns ≡ n → key_of e n ≡ key
unfolding first_met
first_met_key e key [] n z h = absurd (omega arith)
first_met_key e key (m ∷ ns) n z h = by (eqb (key_of e m) key) refl h (first_met_key e key ns n z)
  where
    by : (b : Bool) → eqb (key_of e m) key ≡ b → cond b m (first_met e key ns) ≡ n → (first_met e key ns ≡ n → key_of e n ≡ key)
        → key_of e n ≡ key
    by true t same rest = ap (key_of e) (sym same) ∙ eqb-true (key_of e m) key t
    by false t f rest = rest f

-- in the chains of a table, the first with a key is in its bucket
module _ (e : List ℕ) (capacity : ℕ) (buckets : List ℕ) (size : ℕ) (before : List ℕ) (key : ℕ) (positive : Positive before) where
  unfoldable pub up_to : ℕ → List ℕ
  up_to b = met_in e capacity buckets size before b

  unfoldable pub here : ℕ → List ℕ
  here b = followed_in e capacity buckets size (met_in e capacity buckets size before b) b

  here_key : (b n : ℕ) → In n (here b) → bucket_of (key_of e n) size ≡ b
  unfolding here in_bucket
  here_key b n i = eqb-true (bucket_of (key_of e n) size) b (here_met e capacity buckets size before b n i).passes

  up_to_positive : (b : ℕ) → Positive (up_to b)
  unfolding Positive up_to
  up_to_positive b n i =
      ⊎_elim (positive n) (λ h. let (a, l, j) = h in (here_met e capacity buckets size before a n j).some)
      (of_up_to e capacity buckets size before b n i)

  joined : (b : ℕ) → first_met e key (up_to (suc b)) ≡ or_first (first_met e key (up_to b)) (first_met e key (here b))
  unfolding up_to here met_in
  joined b = first_met_append e key (up_to b) (here b) (up_to_positive b)

  elsewhere : (b : ℕ) → (bucket_of key size ≡ b → ⊥) → first_met e key (here b) ≡ 0
  elsewhere b f = first_met_none e key (here b) (λ n i k. f (ap (λ (x : ℕ). bucket_of x size) (sym k) ∙ here_key b n i))

  not_yet : (b : ℕ) → b ≤ bucket_of key size → first_met e key (up_to b) ≡ first_met e key before
  unfolding up_to met_in
  not_yet zero l = refl
  not_yet (suc b) l =
      joined b
      ∙ ap (or_first (first_met e key (up_to b))) (elsewhere b (λ f. omega arith))
      ∙ or_none (first_met e key (up_to b))
      ∙ not_yet b (omega arith)

  pub first_up_to : (b : ℕ) → bucket_of key size < b
      → first_met e key (up_to b) ≡ or_first (first_met e key before) (first_met e key (here (bucket_of key size)))
  first_up_to zero l = absurd (omega arith)
  first_up_to (suc b) l =
      elim (dec_lt (bucket_of key size) b) [
        | yes k ↦
            joined b
            ∙ ap (or_first (first_met e key (up_to b))) (elsewhere b (λ f. omega arith))
            ∙ or_none (first_met e key (up_to b))
            ∙ first_up_to b k
        | no k ↦
            let same : b ≡ bucket_of key size = omega arith in
            joined b
            ∙ ap (λ (x : ℕ). or_first x (first_met e key (here b))) (not_yet b (omega arith))
            ∙ ap (λ (c : ℕ). or_first (first_met e key before) (first_met e key (here c))) same
      ]

-- a key calls for a bucket of the table
pub key_below : (size key : ℕ) → legal_size size ≡ true → bucket_of key size < size
unfolding bucket_of legal_size
key_below size key l = mod-lt (hash key) (legal_pos largest_exponent size l)

-- Of all entries met.

module _ (s : State) (current other entries : List ℕ) where
  -- what is met in a key's bucket
  unfoldable pub met_for : Table → ℕ → List ℕ
  met_for t key = met_at s current other entries t (bucket_of key (size_of s t))

  before_positive : (t : Table) → Positive (met_before s current entries t)
  unfolding met_before Positive up_to
  before_positive Table.Old n i = absurd i
  before_positive Table.New n i =
      up_to_positive entries s.capacity current s.old_size [] 0 (λ m j. absurd j) s.old_size n i

  -- met before a table and in it
  first_in : (t : Table) (key : ℕ) → legal_size (size_of s t) ≡ true
      → first_met entries key (met_in entries s.capacity (buckets_of current other t) (size_of s t) (met_before s current entries t) (size_of s t))
      ≡ or_first (first_met entries key (met_before s current entries t)) (first_met entries key (met_for t key))
  unfolding met_for met_at up_to here
  first_in t key l =
      first_up_to entries s.capacity (buckets_of current other t) (size_of s t) (met_before s current entries t) key (before_positive t) (size_of s t)
      (key_below (size_of s t) key l)

  first_old : (key : ℕ) → legal_size s.old_size ≡ true
      → first_met entries key (met_before s current entries Table.New) ≡ first_met entries key (met_for Table.Old key)
  unfolding met_before or_first first_met size_of buckets_of
  first_old key l = first_in Table.Old key l

  none_more : (bs : List ℕ) (size : ℕ) (ms : List ℕ) (k : ℕ) → k ≡ 0 → met_in entries s.capacity bs size ms k ≡ ms
  unfolding met_in
  none_more bs size ms k e = rw e

  -- with no rehash under way, and during one

  module _ (facts : Sound s (length current) (length other) (length entries)) (key : ℕ) where
    pub first_resting : s.rehashing ≡ false
        → first_met entries key (met_all s current other entries) ≡ first_met entries key (met_for Table.Old key)
    unfolding met_all
    first_resting r =
        ap (first_met entries key)
        (none_more other s.new_size (met_before s current entries Table.New) s.new_size (facts.resting r).no_size)
        ∙ first_old key facts.old_legal

    pub first_rehashing : s.rehashing ≡ true
        → first_met entries key (met_all s current other entries)
        ≡ or_first (first_met entries key (met_for Table.Old key)) (first_met entries key (met_for Table.New key))
    unfolding met_all size_of buckets_of
    first_rehashing r =
        first_in Table.New key (facts.rehashing r).new_legal
        ∙ ap (λ (x : ℕ). or_first x (first_met entries key (met_for Table.New key))) (first_old key facts.old_legal)
