-- Counting the entries of a group, one chain a turn, up to a limit.
-- Assumes nothing.
use Prim.Native.Nat.{ℕ, ◌+◌, ◌-◌, ◌≤◌, ◌<◌, min}
use mathlib.Core.Path.{◌≡◌, refl, sym, ap, ◌∙◌}
use mathlib.Core.List.{List, [], ◌∷◌}
use mathlib.Core.Option.{Option, none, some}
use native.Mathlib.Omega.{arith}
use lib.ListN.{length, length-append}
use Rattle.std.proofs.Common.{inl, inr}
use Rattle.std.specs.Prelude.{Result, Ok, Err}
use Rattle.std.specs.Result.{IsErrAnd}
use Rattle.std.proofs.lemmas.Result.{err_from_is_err_and}
use Rattle.cursor.specs.Member.{In}
use Rattle.model.specs.declared.Error.{Error}
use Rattle.model.specs.Keys.{bucket_of}
use Rattle.model.specs.Memory.{chain, in_bucket, listed}
use Rattle.model.specs.Walk.{joined, at_most}
use Rattle.model.proofs.AtMost.{at_most_few, at_most_some, at_most_joined, chain_at_most}
use Rattle.memory.specs.Length.{length_of}
use Rattle.memory.proofs.Counted.{counted, uncounted}
use Rattle.scan_group.specs.declared.lent.Entries.{Entries}
use Rattle.scan_group.specs.declared.lent.LiveChain.{LiveChain}
use Rattle.scan_group.specs.declared.lent.Group.{Group}
use Rattle.scan_group.specs.Lent.{IsChain}
use Rattle.scan_group.specs.Chains.{chains, chain_from, table_chains, larger_buckets, group_chains}
use Rattle.scan_group.proofs.Buckets.{larger_below}
use Rattle.scan_group.proofs.Chains.{chain_is}

-- The lengths of two parts give that of the whole.

pub plus : Result ℕ Error → Result ℕ Error → Result ℕ Error
plus (Err e) q = Err e
plus (Ok n) (Err e) = Err e
plus (Ok n) (Ok m) = Ok (n + m)

joined_length : (a b : Option (List ℕ)) → length_of (joined a b) ≡ plus (length_of a) (length_of b)
unfolding length_of joined plus
joined_length none b = refl
joined_length (some ns) none = refl
joined_length (some ns) (some ms) = ap Ok (length-append ns ms)

plus_more : (n m : ℕ) (q : Result ℕ Error)
    → plus (Ok (n + m)) q ≡ plus (Ok n) (plus (Ok m) q)
unfolding plus
plus_more n m (Err e) = refl
plus_more n m (Ok k) = ap Ok (omega arith)

-- a chain is read no further than what is left of the limit
pub limited : (e : Entries) (c : LiveChain) (b left budget : ℕ) (r : Result ℕ Error) → budget ≡ min c.used left
    → r ≡ length_of (chain (in_bucket c.size b) e.fields.now e.capacity budget c.head)
    → r ≡ length_of (at_most left (chain_from e c b))
limited e c b left budget r m l = rw (l, m, chain_at_most (in_bucket c.size b) e.fields.now e.capacity c.used left c.head)

-- A part of some entries is counted first, and what it leaves of the limit is that of the others.

module _ (limit : ℕ) (a : Option (List ℕ)) (r : Result ℕ Error) (f : r ≡ length_of (at_most limit a)) where
  part_is : (n : ℕ) → r ≡ Ok n → (length (listed a) ≡ n) × (n ≤ limit)
  unfolding listed
  part_is n s =
      let (sound, long) = counted r n (at_most limit a) s f in
      let (same, few) = at_most_some limit a (listed (at_most limit a)) sound in
      (ap (λ o. length (listed o)) same ∙ long, omega arith)

  module _ (b : Option (List ℕ)) where
    both : plus r (length_of (at_most (limit - length (listed a)) b)) ≡ length_of (at_most limit (joined a b))
    both =
        ap (λ q. plus q (length_of (at_most (limit - length (listed a)) b))) f
        ∙ sym (ap length_of (at_most_joined limit a b) ∙ joined_length (at_most limit a) (at_most (limit - length (listed a)) b))

    part_out : (x : Error) → r ≡ Err x → Err Error.Damaged ≡ length_of (at_most limit (joined a b))
    unfolding plus
    part_out x u = ap Err (sym (uncounted r x (at_most limit a) u f).1) ∙ (rw u at both)

    part_on : (n : ℕ) → r ≡ Ok n
        → plus (Ok n) (length_of (at_most (limit - n) b)) ≡ length_of (at_most limit (joined a b))
    part_on n s =
        ap (λ k. plus (Ok n) (length_of (at_most (limit - k) b))) (sym (part_is n s).0) ∙ (rw s at both)

-- The entries counted, and those of the buckets that are left, are those of the whole group.
pub record Counting (g : Group) (limit left : ℕ) (bs : List ℕ) : Type 0 where
  pub fits : left ≤ limit
  pub below : (x : ℕ) → In x bs → x < g.large.size
  pub same : plus (Ok (limit - left)) (length_of (at_most left (table_chains g.entries g.large bs)))
      ≡ length_of (at_most limit (group_chains g))

-- what `?` answers
handed_on : (r : Result ℕ Error) (x : Error) (whole : Result ℕ Error) → IsErrAnd r (λ e. e ≡ x) → x ≡ Error.Damaged
    → Err Error.Damaged ≡ whole → r ≡ whole
handed_on r x whole gives d e = let p = err_from_is_err_and r gives in rw (p.1, p.2, d) e

module _ (g : Group) (limit b : ℕ) (r : Result ℕ Error) (l : r ≡ length_of (at_most limit (chain_from g.entries g.small b)))
    (i : (b ≡ bucket_of g.cursor g.small.size) × (b < g.small.size)) where
  -- the smaller table's chain
  whole : (q : Result ℕ Error) → q ≡ length_of (at_most limit (joined (chain_from g.entries g.small b) (table_chains g.entries g.large (larger_buckets g))))
      → q ≡ length_of (at_most limit (group_chains g))
  unfolding group_chains
  whole q e = rw i.0 at e

  pub first_out : (a : Result ℕ Error) (x : Error) → IsErrAnd a (λ e. e ≡ x) → r ≡ Err x
      → a ≡ length_of (at_most limit (group_chains g))
  first_out a x gives u =
      handed_on a x _ gives (uncounted r x _ u l).1 (whole _ (part_out limit _ r l (table_chains g.entries g.large (larger_buckets g)) x u))

  module _ (n : ℕ) (u : r ≡ Ok n) where
    pub first_fits : n ≤ limit
    first_fits = (part_is limit _ r l n u).1

    pub counting_start : (bs : List ℕ) → bs ≡ larger_buckets g → Counting g limit (limit - n) bs
    counting_start bs e =
        let fits = first_fits in
        let one : limit - (limit - n) ≡ n = omega arith in
        record {
          fits = omega arith;
          below = rw e (larger_below g);
          same = rw (one, e) (whole _ (part_on limit _ r l (table_chains g.entries g.large (larger_buckets g)) n u));
        }

module _ (g : Group) (limit left : ℕ) (bs rest : List ℕ) (h : Counting g limit left bs) where
  pub counting_end : bs ≡ [] → Ok (limit - left) ≡ length_of (at_most limit (group_chains g))
  unfolding chains length_of plus listed
  counting_end e = ap Ok (omega arith) ∙ (rw (e, at_most_few left (some []) (omega arith)) at h.same)

  module _ (b : ℕ) (e : bs ≡ b ∷ rest) where
    pub next_below : b < g.large.size
    next_below = (rw e at h.below) b (inl refl)

    module _ (c : LiveChain) (k : IsChain g.large b c) (r : Result ℕ Error) (l : r ≡ length_of (at_most left (chain_from g.entries c b))) where
      here : plus (Ok (limit - left)) (length_of (at_most left (joined (chain_from g.entries c b) (table_chains g.entries g.large rest))))
          ≡ length_of (at_most limit (group_chains g))
      unfolding chains
      here = rw (chain_is g.entries g.large b c k) (rw e at h.same)

      pub counting_out : (a : Result ℕ Error) (x : Error) → IsErrAnd a (λ e. e ≡ x) → r ≡ Err x
          → a ≡ length_of (at_most limit (group_chains g))
      unfolding plus
      counting_out a x gives u =
          handed_on a x _ gives (uncounted r x _ u l).1 (rw (← part_out left _ r l (table_chains g.entries g.large rest) x u) at here)

      module _ (n : ℕ) (u : r ≡ Ok n) where
        pub counting_fits : n ≤ left
        counting_fits = (part_is left _ r l n u).1

        pub counting_next : Counting g limit (left - n) rest
        counting_next =
            let n_fits = counting_fits in
            let left_fits = h.fits in
            let more : limit - (left - n) ≡ limit - left + n = omega arith in
            record {
              fits = omega arith;
              below = λ x i. (rw e at h.below) x (inr i);
              same =
                  rw more
                  (plus_more (limit - left) n _
                  ∙ (rw (← part_on left _ r l (table_chains g.entries g.large rest) n u) at here));
            }
