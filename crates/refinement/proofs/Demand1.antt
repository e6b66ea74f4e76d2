-- Demand 1 holds of the calls as model defines them; and what it says of any store that meets it.
-- Assumes nothing.
use Prim.Native.Nat.{ℕ}
use mathlib.Core.Path.{◌≡◌, refl, sym, ap, ◌∙◌}
use mathlib.Core.Bool.{Bool, true, false, cond}
use mathlib.Core.List.{List, [], ◌∷◌}
use mathlib.Core.Logic.{inl, inr}
use native.Mathlib.Omega.{arith}
use Rattle.model.specs.declared.State.{State}
use Rattle.model.specs.Calls.{state_of, empty_state, no_state}
use Rattle.model.specs.Answers.{reply}
use Rattle.model.specs.Sequences.{World, Call, Outcome, kept, perform}
use Rattle.model.proofs.Soundness.{sound_facts}
use Rattle.refinement.specs.Worlds.{current, other, UndamagedAt}
use Rattle.refinement.specs.Demand1.{BadState, GroupDamaged, Row, row, rows, Decides, Demand1}
use Rattle.refinement.specs.Demand2.{group_entries, handing}
use Rattle.refinement.proofs.Demand1Calls.{Good, decides, leaves, init_good, resized_good, step_good, read_good, note_good}
use Rattle.refinement.proofs.Demand1Lists.{scan_good, iterate_good}
use Rattle.refinement.proofs.Demand1Steps.{on_good}
use Rattle.refinement.proofs.GroupEntries.{enough, is_short, hands_or_short, next_of, walk_call}

-- all calls
pub good : (w : World) (c : Call) → Good w c (rows w c) (perform w c)
good w (Call.init capacity size) = init_good w capacity size
good w (Call.on key c) = on_good w key c
good w (Call.resize size) = resized_good w size
good w Call.rehash_step = step_good w
good w (Call.scan cursor lent) = scan_good w cursor lent
good w (Call.iterate place lent) = iterate_good w place lent
good w (Call.read c) = read_good w c
good w (Call.note c) = note_good w c

-- Demand 1.
pub demand1 : Demand1 perform
demand1 = record { numbers = λ w c. decides (good w c); refusals = λ w c n. leaves (good w c) n }

-- the table leaves no number open: any store that goes by it answers the numbers of the definitions

decides_one : (m n : ℕ) (rs : List Row) → Decides m rs → Decides n rs → m ≡ n
unfolding Decides
decides_one m n [] d e = d ∙ sym e
decides_one m n (r ∷ rs) (inl d) (inl e) = d.1 ∙ sym e.1
decides_one m n (r ∷ rs) (inl d) (inr e) = absurd (e.0 d.0)
decides_one m n (r ∷ rs) (inr d) (inl e) = absurd (d.0 e.0)
decides_one m n (r ∷ rs) (inr d) (inr e) = decides_one m n rs d.1 e.1

pub same_number : (does : World → Call → Outcome) → Demand1 does → (w : World) (c : Call)
    → (does w c).reply.number ≡ (perform w c).reply.number
same_number does d w c = decides_one _ _ (rows w c) (d.numbers w c) (demand1.numbers w c)

-- on an undamaged store no walk call is damaged, neither by a chain nor by how many entries its group has: ours answers 0 or 9

second_row : (n m k : ℕ) (first second : Type 0) (rs : List Row) → ¬ (n ≡ m) → ¬ (n ≡ k)
    → Decides n (row m first ∷ row k second ∷ rs) → ¬ second
unfolding Decides row
second_row n m k first second rs f g (inl h) = absurd (f h.1)
second_row n m k first second rs f g (inr (h, inl i)) = absurd (g i.1)
second_row n m k first second rs f g (inr (h, inr i)) = i.0

hands_undamaged : (w : World) (lent : List ℕ) (next : ℕ) (ns : List ℕ) (o : Outcome) (bad damaged : Type 0) (rs : List Row)
    → o ≡ hands_or_short w lent next ns → Decides o.reply.number (row 1 bad ∷ row 2 damaged ∷ rs) → ¬ damaged
unfolding handing kept reply
hands_undamaged w lent next ns o bad damaged rs = by (enough w lent next ns)
  where
    by : (t : Bool) → o ≡ cond t (handing w lent next ns) (is_short w lent next ns)
        → Decides o.reply.number (row 1 bad ∷ row 2 damaged ∷ rs) → ¬ damaged
    by true e d =
        let zero : o.reply.number ≡ 0 = ap (λ (o : Outcome). o.reply.number) e in
        second_row _ 1 2 bad damaged rs (λ h. omega arith) (λ h. omega arith) d
    by false e d =
        let nine : o.reply.number ≡ 9 = ap (λ (o : Outcome). o.reply.number) e in
        second_row _ 1 2 bad damaged rs (λ h. omega arith) (λ h. omega arith) d

pub never_damaged : (w : World) → UndamagedAt w → (cursor : ℕ) → ¬ GroupDamaged w cursor
unfolding rows
never_damaged w u cursor =
    hands_undamaged w [] (next_of w cursor) (group_entries w cursor) _ _ _ _ (walk_call w u cursor [])
    (demand1.numbers w (Call.scan cursor []))

-- the state of zeros is no store: every call but init tests the state first, and refuses it

first_row : (n number : ℕ) (given : Type 0) (rs : List Row) → given → Decides n (row number given ∷ rs) → n ≡ number
unfolding Decides row
first_row n number given rs g (inl h) = h.1
first_row n number given rs g (inr h) = absurd (h.0 g)

zeros_bad : (w : World) → w.state ≡ no_state → BadState w
unfolding BadState no_state empty_state state_of
zeros_bad w e sound =
    let none : w.state.capacity ≡ 0 = ap (λ (t : State). t.capacity) e in
    omega (arith, (sound_facts w.state (current w) (other w) w.entries sound).some_entries)

state_first : (w : World) (c : Call) (n : ℕ) → ((capacity size : ℕ) → ¬ (c ≡ Call.init capacity size)) → BadState w
    → Decides n (rows w c) → n ≡ 1
unfolding rows
state_first w (Call.init capacity size) n f b d = absurd (f capacity size refl)
state_first w (Call.on key c) n f b d = first_row n 1 _ _ b d
state_first w (Call.resize size) n f b d = first_row n 1 _ _ b d
state_first w Call.rehash_step n f b d = first_row n 1 _ _ b d
state_first w (Call.scan cursor lent) n f b d = first_row n 1 _ _ b d
state_first w (Call.iterate place lent) n f b d = first_row n 1 _ _ b d
state_first w (Call.read c) n f b d = first_row n 1 _ _ b d
state_first w (Call.note c) n f b d = first_row n 1 _ _ b d

pub no_store : (does : World → Call → Outcome) → Demand1 does → (w : World) (c : Call) → w.state ≡ no_state
    → ((capacity size : ℕ) → ¬ (c ≡ Call.init capacity size)) → (does w c).reply.number ≡ 1
no_store does d w c e f = state_first w c _ f (zeros_bad w e) (d.numbers w c)
