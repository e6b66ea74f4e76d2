-- From the code's test of the state to the definitions. A call that orients first tests the current and the other buffer,
-- and its inner function promises what `checked` says. One that tests first goes on with what `sound_lent` says.
-- Assumes nothing.
use Rattle.std.proofs.Common.{◌≡◌, ℕ, Bool, true, false, cond, List, length, sym, refl, ◌∙◌, subst}
use Rattle.model.specs.declared.State.{State}
use Rattle.model.specs.Memory.{sound_state}
use Rattle.model.specs.Calls.{sound, checked}
use Rattle.model.proofs.Soundness.{Sound, tested_sound}
use Rattle.memory.specs.Lent.{sound_lent}

module _ (s : State) (current other entries : List ℕ) (t : Bool)
    (e : t ≡ sound_state (length current) (length other) (length entries) s) where
  pub tested : (b : Bool) → t ≡ b → sound s current other entries ≡ b
  unfolding sound
  tested b h = sym e ∙ h

  module _ {A : Type 0} (refused call : List ℕ → List ℕ → A) (r : A) where
    pub checked_refused : t ≡ false → r ≡ refused current other → r ≡ checked s entries refused call current other
    unfolding checked
    checked_refused h a = rw (tested false h) a

    pub checked_sound : t ≡ true → r ≡ call current other → r ≡ checked s entries refused call current other
    unfolding checked
    checked_sound h a = rw (tested true h) a

-- beside the lent buffers
module _ (s : State) (first second entries : ℕ) where
  pub tested_lent : (t : Bool) → t ≡ sound_lent first second entries s → t ≡ true → sound_lent first second entries s ≡ true
  tested_lent t e h = sym e ∙ h

  module _ (h : sound_lent first second entries s ≡ true) where
    lent : (flag : Bool) → s.second_is_current ≡ flag → Sound s (cond flag second first) (cond flag first second) entries
    unfolding sound_lent
    lent flag f =
        subst (λ (u : Bool). Sound s (cond u second first) (cond u first second) entries) f
        (tested_sound s _ _ entries true (sym h) refl)

    pub lent_first : s.second_is_current ≡ false → Sound s first second entries
    lent_first f = lent false f

    pub lent_second : s.second_is_current ≡ true → Sound s second first entries
    lent_second f = lent true f
