-- What moving a list of entries to another table leaves, whatever the memory: the lengths, every key and value, and the link
-- of every entry that is not moved.
-- Assumes nothing.
use Prim.Native.Nat.{ℕ}
use mathlib.Core.Path.{◌≡◌, refl, ◌∙◌}
use mathlib.Core.Logic.{inl, inr}
use mathlib.Core.List.{List, [], ◌∷◌}
use lib.ListN.{length, length-set}
use Rattle.cursor.specs.Member.{In}
use Rattle.model.specs.Keys.{bucket_of}
use Rattle.model.specs.Memory.{link_of, key_of, value_of}
use Rattle.model.specs.Calls.{Chains, push, moved}
use Rattle.model.proofs.Fields.{length_set_link, key_set_link, value_set_link}
use Rattle.model.proofs.Linked.{link_set_other}

module _ (size : ℕ) where
  -- one entry of it, put at the head of its bucket
  abbrev pushed : ℕ → Chains → Chains
  pushed n m = push (bucket_of (key_of m.entries n) size) n m

  pub moved_length : (ns : List ℕ) (m : Chains)
      → (length (moved size ns m).buckets ≡ length m.buckets) × (length (moved size ns m).entries ≡ length m.entries)
  unfolding moved push
  moved_length [] m = (refl, refl)
  moved_length (n ∷ ns) m =
      let (x, y) = moved_length ns (pushed n m) in
      (x ∙ length-set m.buckets _ _, y ∙ length_set_link m.entries _ _)

  pub moved_key : (ns : List ℕ) (m : Chains) (k : ℕ) → key_of (moved size ns m).entries k ≡ key_of m.entries k
  unfolding moved push
  moved_key [] m k = refl
  moved_key (n ∷ ns) m k = moved_key ns (pushed n m) k ∙ key_set_link m.entries n k _

  pub moved_value : (ns : List ℕ) (m : Chains) (k : ℕ) → value_of (moved size ns m).entries k ≡ value_of m.entries k
  unfolding moved push
  moved_value [] m k = refl
  moved_value (n ∷ ns) m k = moved_value ns (pushed n m) k ∙ value_set_link m.entries n k _

  pub moved_link : (ns : List ℕ) (m : Chains) (k : ℕ) → ¬ In k ns → link_of (moved size ns m).entries k ≡ link_of m.entries k
  unfolding moved push
  moved_link [] m k f = refl
  moved_link (n ∷ ns) m k f =
      moved_link ns (pushed n m) k (λ i. f (inr i)) ∙ link_set_other m.entries n k _ (λ e. f (inl e))
