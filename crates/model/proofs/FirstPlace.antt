-- The first place from one on that passes a test, said of the places: which one it is, and that none before it passes.
-- Assumes nothing.
use Prim.Native.Nat.{ℕ, zero, suc, ◌-◌, ◌<◌, ◌≤◌}
use mathlib.Core.Path.{◌≡◌, refl, ap₂, subst}
use mathlib.Core.Bool.{Bool, true, false, cond}
use mathlib.Core.Option.{Option, none, some}
use native.Mathlib.Decide.{dec_lt}
use native.Mathlib.Omega.{arith}
use Rattle.model.specs.Walk.{Tables}
use Rattle.model.specs.Iterators.{end_place, first_from, first_place}

module _ (test : ℕ → Bool) where
  -- from one place on, before an end
  unfoldable pub NonePass : ℕ → ℕ → Type 0
  NonePass place end = (m : ℕ) → place ≤ m → m < end → test m ≡ false

  pub record FirstPass (place end n : ℕ) : Type 0 where
    pub from_place : place ≤ n
    pub before_end : n < end
    pub passes : test n ≡ true
    pub none_before : NonePass place n

  -- both, by what was found
  unfoldable pub Found : ℕ → ℕ → Option ℕ → Type 0
  Found place end none = NonePass place end
  Found place end (some n) = FirstPass place end n

  -- no place at all
  none_at_all : (place end : ℕ) → end ≤ place → NonePass place end
  unfolding NonePass
  none_at_all place end l m from below = absurd (omega arith)

  -- one place more in front, which does not pass
  one_more : (place end : ℕ) → test place ≡ false → NonePass (suc place) end → NonePass place end
  unfolding NonePass
  one_more place end fails h m from below =
      elim (dec_lt place m) [ yes l ↦ h m l below | no l ↦ subst (λ (i : ℕ). test i ≡ false) (omega arith) fails ]

  from_found : (place left end : ℕ) → end - place ≡ left → Found place end (first_from test place left)
  unfolding Found first_from
  from_found place zero end e = none_at_all place end (omega arith)
  from_found place (suc left) end e =
      by (test place) refl (first_from test (suc place) left) (from_found (suc place) left end (omega arith))
    where
      behind : test place ≡ false → (o : Option ℕ) → Found (suc place) end o → Found place end o
      behind fails none h = one_more place end fails h
      behind fails (some n) h =
          record {
            from_place = omega (arith, h.from_place);
            before_end = h.before_end;
            passes = h.passes;
            none_before = one_more place n fails h.none_before;
          }

      by : (t : Bool) → test place ≡ t → (o : Option ℕ) → Found (suc place) end o → Found place end (cond t (some place) o)
      by true passes o h =
          record {
            from_place = omega arith;
            before_end = omega arith;
            passes = passes;
            none_before = none_at_all place place (omega arith);
          }
      by false fails o h = behind fails o h

  pub first_found : (tables : Tables) (place : ℕ) → Found place (end_place tables) (first_place test tables place)
  unfolding first_place
  first_found tables place = from_found place (end_place tables - place) (end_place tables) refl

-- two tests that agree before the end find the same
module _ (f g : ℕ → Bool) where
  from_agree : (place left end : ℕ) → end - place ≡ left → ((m : ℕ) → place ≤ m → m < end → f m ≡ g m)
      → first_from f place left ≡ first_from g place left
  unfolding first_from
  from_agree place zero end e same = refl
  from_agree place (suc left) end e same =
      let here = same place (omega arith) (omega arith) in
      let behind = from_agree (suc place) left end (omega arith) (λ m from below. same m (omega arith) below) in
      ap₂ (λ (t : Bool) (o : Option ℕ). cond t (some place) o) here behind

  pub first_agree : (tables : Tables) (place : ℕ) → ((m : ℕ) → place ≤ m → m < end_place tables → f m ≡ g m)
      → first_place f tables place ≡ first_place g tables place
  unfolding first_place
  first_agree tables place same = from_agree place (end_place tables - place) (end_place tables) refl same
