-- What an add with no step comes to, on the current and the other buffer: by what the search tells, and by the free list's next
-- head.
-- Assumes nothing.
use Prim.Native.Nat.{ℕ}
use mathlib.Core.Path.{◌≡◌, refl, ap, ◌∙◌}
use mathlib.Core.Bool.{Bool, true, false, cond}
use mathlib.Core.List.{List}
use native.Mathlib.Omega.{arith}
use lib.ListN.{get_or, set}
use Rattle.model.specs.declared.State.{State}
use Rattle.model.specs.declared.Table.{Table}
use Rattle.model.specs.declared.Error.{Error}
use Rattle.model.specs.declared.Lookup.{Lookup}
use Rattle.model.specs.Keys.{bucket_of}
use Rattle.model.specs.Memory.{link_of, set_entry, size_of, buckets_of}
use Rattle.model.specs.Calls.{After, changed, target, pushed, added}
use Rattle.search.specs.Found.{Found, found_of}
use Rattle.after_step.specs.Presence.{presence}
use Rattle.after_step.specs.Told.{found_presence}
use Rattle.during_rehash.specs.Counts.{one_more}
use Rattle.during_rehash.specs.Free.{next_free}
use Rattle.during_rehash.proofs.Taking.{taken}
use Rattle.during_rehash.proofs.Answering.{takes_free}
use Rattle.std.specs.Prelude.{Result, Ok, Err}

next_link : (s : State) (held : Bool) (z : List ℕ) (free : ℕ) → Ok free ≡ next_free s held z → free ≡ link_of z s.free_head
next_link s held z free e = (takes_free s held z free e).link

pub found_told : (v : Result Bool Error) (y : Found) (l : Lookup) → v ≡ found_presence y → y ≡ found_of l → v ≡ presence l
unfolding found_of presence
found_told v y Lookup.Damaged e g = e ∙ ap found_presence g
found_told v y Lookup.Absent e g = e ∙ ap found_presence g
found_told v y (Lookup.At t before n) e g = e ∙ ap found_presence g

module _ (s : State) (current other entries : List ℕ) (key value : ℕ) where
  pub damaged_alone : (l : Lookup) (error : Error) → Err error ≡ presence l
      → After.after (Err error) current other entries ≡ added s current other entries key value l
  unfolding presence added
  damaged_alone Lookup.Damaged error e = ap (λ (x : Error). After.after (Err x) current other entries) cc
  damaged_alone Lookup.Absent error e = let z : ◌≡◌ {A = ℕ} 0 1 = cc in absurd (omega arith)
  damaged_alone (Lookup.At t before n) error e = let z : ◌≡◌ {A = ℕ} 0 1 = cc in absurd (omega arith)

  -- what the free list's next head comes to
  answered : Result ℕ Error → After (Result State Error)
  answered (Err error) = After.after (Err error) current other entries
  answered (Ok free) = pushed s current other entries key value (target s.rehashing)

  answered_cond : (f : Bool) (x y : Result ℕ Error) → answered (cond f x y) ≡ cond f (answered x) (answered y)
  answered_cond true x y = refl
  answered_cond false x y = refl

  by_next : (held : Bool) (l : Lookup) → Ok held ≡ presence l → answered (next_free s held entries) ≡ added s current other entries key value l
  unfolding answered next_free presence added
  by_next held Lookup.Damaged e = let z : ◌≡◌ {A = ℕ} 0 1 = cc in absurd (omega arith)
  by_next held Lookup.Absent e = let h : held ≡ false = cc in rw h (simp answered_cond)
  by_next held (Lookup.At t before n) e = let h : held ≡ true = cc in rw h refl

  module _ (held : Bool) (l : Lookup) (told : Ok held ≡ presence l) where
    pub refused_alone : (error : Error) → Err error ≡ next_free s held entries
        → After.after (Err error) current other entries ≡ added s current other entries key value l
    unfolding answered
    refused_alone error e = ap answered e ∙ by_next held l told

    pub taken_alone : (t : Table) → target s.rehashing ≡ t → (free : ℕ) → Ok free ≡ next_free s held entries
        → changed t (Ok (one_more s (target s.rehashing) free)) current other
        (set (buckets_of current other t) (bucket_of key (size_of s t)) s.free_head)
        (set_entry entries s.free_head (get_or (buckets_of current other t) (bucket_of key (size_of s t)) 0) key value)
        ≡ added s current other entries key value l
    unfolding answered
    taken_alone t f free e =
        rw (next_link s held entries free e) (taken s current other entries key value t f)
        ∙ ap answered e
        ∙ by_next held l told
