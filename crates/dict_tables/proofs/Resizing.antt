-- A resize of a sound state from its parts: each way out is a case of the definition.
-- Assumes nothing.
use Prim.Native.Nat.{ℕ}
use mathlib.Core.Path.{◌≡◌, ap, ◌∙◌}
use mathlib.Core.Bool.{Bool, true, false, ◌&&◌, not}
use mathlib.Core.List.{List}
use lib.ListN.{length}
use lib.Dec.{leb, eqb}
use Rattle.std.specs.Prelude.{Ok, Err}
use Rattle.model.specs.declared.State.{State}
use Rattle.model.specs.declared.Error.{Error}
use Rattle.model.specs.Limits.{legal_size}
use Rattle.model.specs.Calls.{After, cleared, acceptable, resized, resizing}

module _ (s : State) (other : List ℕ) (size : ℕ) where
  pub begin_rehashing : s.rehashing ≡ true → (current entries : List ℕ)
      → After.after (Err Error.Rehashing) current other entries ≡ resized s current other entries size s.rehashing
  unfolding resized
  begin_rehashing f current entries = rw f

  module _ (f : s.rehashing ≡ false) (legal : Bool) (l : legal ≡ legal_size size) where
    pub begin_bad_size : (legal && not (eqb size s.old_size) && leb size (length other)) ≡ false → (current entries : List ℕ)
        → After.after (Err Error.BadSize) current other entries ≡ resized s current other entries size s.rehashing
    unfolding resized acceptable
    begin_bad_size t current entries = rw (f, ← l, t)

    pub begin_begun : (other' : List ℕ) (n : State) → (legal && not (eqb size s.old_size) && leb size (length other)) ≡ true
        → other' ≡ cleared size other → n ≡ resizing s size → (current entries : List ℕ)
        → After.after (Ok n) current other' entries ≡ resized s current other entries size s.rehashing
    unfolding resized acceptable
    begin_begun other' n t o e current entries =
        ap (λ (a : State). After.after (Ok a) current other' entries) e ∙ rw (f, o, ← l, t)
