-- Lists and their members: joined and mapped lists, lists with no repeats, one member taken out, and the members for which a
-- test holds.
-- Assumes nothing.
use Prim.Native.Nat.{ℕ, zero, suc, ◌<◌, ◌≤◌}
use mathlib.Core.Path.{◌≡◌, refl, sym, ap, subst, ◌∙◌}
use mathlib.Core.Logic.{◌≢◌, ◌⊎◌, inl, inr, ⊎_elim, ⊎_map}
use mathlib.Core.Bool.{Bool, true, false, cond}
use mathlib.Core.List.{List, [], ◌∷◌, ◌++◌, map}
use native.Mathlib.Omega.{arith}
use lib.ListN.{length}
use lib.Dec.{eqb}
use Rattle.cursor.specs.Member.{In, Distinct, any, keep, among}
use Rattle.model.proofs.Tests.{Tells, tells_same, tells_eq}

-- Empty lists.

pub no_length : (ns : List ℕ) → length ns ≡ 0 → ns ≡ []
no_length [] e = refl
no_length (n ∷ ns) e = absurd (omega arith)

pub no_member : (xs : List ℕ) → ((x : ℕ) → In x xs → ⊥) → xs ≡ []
no_member [] f = refl
no_member (x ∷ xs) f = absurd (f x (inl refl))

pub first_member : (xs : List ℕ) → xs ≢ [] → (x : ℕ) × In x xs
first_member [] f = absurd (f refl)
first_member (x ∷ xs) f = (x, inl refl)

-- Joined lists.

pub in_left : (x : ℕ) (xs ys : List ℕ) → In x xs → In x (xs ++ ys)
in_left x [] ys i = elim i [ ]
in_left x (y ∷ xs) ys (inl e) = inl e
in_left x (y ∷ xs) ys (inr i) = inr (in_left x xs ys i)

pub in_right : (x : ℕ) (xs ys : List ℕ) → In x ys → In x (xs ++ ys)
in_right x [] ys i = i
in_right x (y ∷ xs) ys i = inr (in_right x xs ys i)

pub in_either : (x : ℕ) (xs ys : List ℕ) → In x (xs ++ ys) → In x xs ⊎ In x ys
in_either x [] ys i = inr i
in_either x (y ∷ xs) ys (inl e) = inl (inl e)
in_either x (y ∷ xs) ys (inr i) = ⊎_map inr (λ j. j) (in_either x xs ys i)

-- lists with no repeats that share no member make one
pub distinct_append : (xs ys : List ℕ) → Distinct xs → Distinct ys → ((x : ℕ) → In x xs → In x ys → ⊥) → Distinct (xs ++ ys)
distinct_append [] ys d e f = e
distinct_append (x ∷ xs) ys d e f = (
  λ i. ⊎_elim d.0 (f x (inl refl)) (in_either x xs ys i),
  distinct_append xs ys d.1 e (λ y j k. f y (inr j) k),
)

-- and the parts of one have no repeats, and share no member
pub first_distinct : (us vs : List ℕ) → Distinct (us ++ vs) → Distinct us
first_distinct [] vs d = tt
first_distinct (u ∷ us) vs d = ((λ i. d.0 (in_left u us vs i)), first_distinct us vs d.1)

second_distinct : (us vs : List ℕ) → Distinct (us ++ vs) → Distinct vs
second_distinct [] vs d = d
second_distinct (u ∷ us) vs d = second_distinct us vs d.1

pub parts_apart : (n : ℕ) (us vs : List ℕ) → Distinct (us ++ vs) → In n us → In n vs → ⊥
parts_apart n [] vs d x3 i = elim x3 [ ]
parts_apart n (u ∷ us) vs d (inl e) i =
    d.0 (in_right u us vs (subst (λ (k : ℕ). In k vs) e i))
parts_apart n (u ∷ us) vs d (inr h) i = parts_apart n us vs d.1 h i

-- A list of which one element, between two parts, is taken out.

pub in_middle : (x : ℕ) (us vs : List ℕ) → In x (us ++ x ∷ vs)
in_middle x us vs = in_right x us (x ∷ vs) (inl refl)

-- a member stands between two parts
pub in_split : (x : ℕ) (xs : List ℕ) → In x xs → (us vs : List ℕ) × (xs ≡ us ++ (x ∷ vs))
in_split x [] i = elim i [ ]
in_split x (y ∷ xs) (inl e) = ([], xs, ap (λ (z : ℕ). z ∷ xs) (sym e))
in_split x (y ∷ xs) (inr i) = let (us, vs, e) = in_split x xs i in (y ∷ us, vs, ap (λ (zs : List ℕ). y ∷ zs) e)

module _ (n x : ℕ) (vs : List ℕ) where
  -- a member of what is left
  pub in_with : (us : List ℕ) → In n (us ++ vs) → In n (us ++ x ∷ vs)
  in_with [] h = inr h
  in_with (u ∷ us) (inl e) = inl e
  in_with (u ∷ us) (inr h) = inr (in_with us h)

  -- a member other than the one taken out
  pub in_without : (us : List ℕ) → In n (us ++ x ∷ vs) → (n ≡ x → ⊥) → In n (us ++ vs)
  in_without [] (inl e) d = absurd (d e)
  in_without [] (inr h) d = h
  in_without (u ∷ us) (inl e) d = inl e
  in_without (u ∷ us) (inr h) d = inr (in_without us h d)

-- the one taken out is not among what is left
pub taken_out : (n x : ℕ) (us vs : List ℕ) → Distinct (us ++ x ∷ vs) → In n (us ++ vs) → n ≡ x → ⊥
taken_out n x us vs d i e =
    ⊎_elim (λ h. parts_apart x us (x ∷ vs) d h (inl refl)) (second_distinct us (x ∷ vs) d).0
    (in_either x us vs (subst (λ (k : ℕ). In k (us ++ vs)) e i))

-- Mapped lists.

module _ {A B : Type 0} (f : A → B) where
  pub in_map : (x : A) (xs : List A) → In x xs → In (f x) (map f xs)
  in_map x [] i = elim i [ ]
  in_map x (y ∷ xs) (inl e) = inl (ap f e)
  in_map x (y ∷ xs) (inr i) = inr (in_map x xs i)

  pub of_map : (y : B) (xs : List A) → In y (map f xs) → (x : A) × In x xs × (y ≡ f x)
  of_map y [] i = elim i [ ]
  of_map y (x ∷ xs) (inl e) = (x, inl refl, e)
  of_map y (x ∷ xs) (inr i) = let (z, j, e) = of_map y xs i in (z, inr j, e)

  -- where f tells the members apart, the mapped list has no repeats
  pub distinct_map : (xs : List A) → ((x y : A) → In x xs → In y xs → f x ≡ f y → x ≡ y) → Distinct xs → Distinct (map f xs)
  distinct_map [] apart d = tt
  distinct_map (x ∷ xs) apart d = (alone, distinct_map xs (λ y z i j e. apart y z (inr i) (inr j) e) d.1)
    where
      alone : In (f x) (map f xs) → ⊥
      alone i =
          let (y, j, e) = of_map (f x) xs i in
          let same : x ≡ y = apart x y (inl refl) (inr j) e in
          d.0 (rw (← same) at j)

  -- and where the mapped list has none, neither has the list
  pub of_distinct_map : (xs : List A) → Distinct (map f xs) → Distinct xs
  of_distinct_map [] d = tt
  of_distinct_map (x ∷ xs) d = (λ i. d.0 (in_map x xs i), of_distinct_map xs d.1)

-- Lengths.

-- a list without one of its members: one shorter, and every other member is there still
pub removed : {A : Type 0} (x : A) (xs : List A) → In x xs
    → (ys : List A) × (length xs ≡ suc (length ys)) × ((y : A) → In y xs → y ≢ x → In y ys)
removed {A = A} x [] i = elim i [ ]
removed {A} x (z ∷ xs) (inl e) = (xs, refl, others)
  where
    others : (y : A) → In y (z ∷ xs) → y ≢ x → In y xs
    others y (inl f) ne = absurd (ne (cc))
    others y (inr j) ne = j
removed {A} x (z ∷ xs) (inr i) = more (removed x xs i)
  where
    more : (ys : List A) × (length xs ≡ suc (length ys)) × ((y : A) → In y xs → y ≢ x → In y ys)
        → (ys : List A) × (length (z ∷ xs) ≡ suc (length ys)) × ((y : A) → In y (z ∷ xs) → y ≢ x → In y ys)
    more (ys, l, rest) = (z ∷ ys, omega arith, others)
      where
        others : (y : A) → In y (z ∷ xs) → y ≢ x → In y (z ∷ ys)
        others y (inl f) ne = inl f
        others y (inr j) ne = inr (rest y j ne)

-- a list that contains 1 to c is at least c long
pub pigeonhole : (c : ℕ) (xs : List ℕ) → ((n : ℕ) → 0 < n → n ≤ c → In n xs) → c ≤ length xs
pigeonhole zero xs h = omega arith
pigeonhole (suc c) xs h =
    let (ys, l, rest) = removed (suc c) xs (h (suc c) (omega arith) (omega arith)) in
    let fewer = pigeonhole c ys (λ n z k. rest n (h n z (omega arith)) (λ e. omega arith)) in
    omega arith

-- a list with no repeats is no longer than one that contains its members
pub distinct_fits : {A : Type 0} (xs ys : List A) → Distinct xs → ((x : A) → In x xs → In x ys) → length xs ≤ length ys
distinct_fits [] ys d f = omega arith
distinct_fits (x ∷ xs) ys d f =
    let (zs, l, rest) = removed x ys (f x (inl refl)) in
    let fewer = distinct_fits xs zs d.1 (λ y i. rest y (f y (inr i)) (λ e. d.0 (rw e at i))) in
    omega arith

-- lists with no repeats and the same members are as long
pub same_length : {A : Type 0} (xs ys : List A) → Distinct xs → Distinct ys → ((x : A) → In x xs → In x ys)
    → ((x : A) → In x ys → In x xs) → length xs ≡ length ys
same_length xs ys d e f g = omega (arith, distinct_fits xs ys d f, distinct_fits ys xs e g)

-- The members for which a test holds.

module _ {A : Type 0} (test : A → Bool) where
  pub in_keep : (k : A) (ks : List A) → In k ks → test k ≡ true → In k (keep test ks)
  unfolding keep
  in_keep k [] i t = elim i [ ]
  in_keep k (j ∷ ks) (inl e) t =
      subst (λ (b : Bool). In k (cond b (j ∷ keep test ks) (keep test ks))) (sym (ap test (sym e) ∙ t)) (inl e)
  in_keep k (j ∷ ks) (inr i) t = by (test j) (in_keep k ks i t)
    where
      by : (b : Bool) → In k (keep test ks) → In k (cond b (j ∷ keep test ks) (keep test ks))
      by true h = inr h
      by false h = h

  pub of_keep : (k : A) (ks : List A) → In k (keep test ks) → In k ks × (test k ≡ true)
  unfolding keep
  of_keep k [] i = elim i [ ]
  of_keep k (j ∷ ks) i = by (test j) refl i (of_keep k ks)
    where
      by : (b : Bool) → test j ≡ b → In k (cond b (j ∷ keep test ks) (keep test ks))
          → (In k (keep test ks) → In k ks × (test k ≡ true)) → In k (j ∷ ks) × (test k ≡ true)
      by true t (inl e) rest = (inl e, ap test e ∙ t)
      by true t (inr h) rest = (inr (rest h).0, (rest h).1)
      by false t h rest = (inr (rest h).0, (rest h).1)

  pub distinct_keep : (ks : List A) → Distinct ks → Distinct (keep test ks)
  unfolding keep
  distinct_keep [] d = tt
  distinct_keep (j ∷ ks) d = by (test j) (distinct_keep ks d.1)
    where
      by : (b : Bool) → Distinct (keep test ks) → Distinct (cond b (j ∷ keep test ks) (keep test ks))
      by true h = (λ i. d.0 (of_keep j ks i).0, h)
      by false h = h

  -- where it holds of each
  pub keep_all : (ks : List A) → ((k : A) → In k ks → test k ≡ true) → keep test ks ≡ ks
  unfolding keep
  keep_all [] all = refl
  keep_all (k ∷ ks) all =
      ap (λ (b : Bool). cond b (k ∷ keep test ks) (keep test ks)) (all k (inl refl))
      ∙ ap (λ (js : List A). k ∷ js) (keep_all ks (λ j i. all j (inr i)))

-- whether one of them passes a test that tells a proposition
pub tells_any : {A : Type 0} (P : A → Type 0) (test : A → Bool) → ((x : A) → Tells (P x) (test x)) → (xs : List A)
    → Tells ((x : A) × In x xs × P x) (any test xs)
unfolding any
tells_any P test each [] = Tells.fails (λ h. h.1)
tells_any {A} P test each (x ∷ xs) = by (test x) (each x) (tells_any P test each xs)
  where
    by : (b : Bool) → Tells (P x) b → Tells ((y : A) × In y xs × P y) (any test xs)
        → Tells ((y : A) × In y (x ∷ xs) × P y) (cond b true (any test xs))
    by true (Tells.holds p) rest = Tells.holds (x, inl refl, p)
    by false (Tells.fails f) rest =
        tells_same (λ h. (h.0, inr h.1, h.2)) (λ h. there h.0 h.1 h.2) rest
      where
        there : (y : A) → In y (x ∷ xs) → P y → (z : A) × In z xs × P z
        there y (inl e) p = absurd (f (subst P e p))
        there y (inr i) p = (y, i, p)

-- the test for a number among some
pub tells_among : (n : ℕ) (ns : List ℕ) → Tells (In n ns) (among n ns)
unfolding among
tells_among n ns =
    tells_same (λ h. subst (λ (m : ℕ). In m ns) h.2 h.1) (λ i. (n, i, refl))
    (tells_any (λ m. m ≡ n) (λ m. eqb m n) (λ m. tells_eq m n) ns)
