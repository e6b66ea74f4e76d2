-- The sizes of the ideal's live tables stay legal from call to call (`predict_legal`).
-- Assumes nothing.
use mathlib.Core.Path.{refl}
use lib.ListN.{length}
use Rattle.model.specs.Answers.{reply}
use Rattle.model.specs.Sequences.{Call}
use Rattle.refinement.specs.Demand3.{Lengths, Ideal, ideal, start_number, with_notes, predict}
use Rattle.refinement.proofs.IdealSteps.{any_hand, any_read, any_note}
use Rattle.refinement.proofs.LiveTables.{Legal}
use Rattle.refinement.proofs.KeyTables.{after_resize, after_start, step_legal, on_legal}

module _ (l : Lengths) (i : Ideal) (legal : Legal i.tables) where
  pub predict_legal : (c : Call) → Legal (predict l i c).state.tables
  unfolding predict reply with_notes ideal
  predict_legal (Call.init capacity size) = after_start l i legal capacity size (start_number l capacity size) refl
  predict_legal (Call.on key c) = on_legal l i legal key c
  predict_legal (Call.resize size) = after_resize l i legal size i.tables legal
  predict_legal Call.rehash_step = step_legal l i legal
  predict_legal (Call.scan cursor lent) = any_hand i (λ r. Legal r.state.tables) _ _ (length lent) legal legal
  predict_legal (Call.iterate place lent) = any_hand i (λ r. Legal r.state.tables) _ _ (length lent) legal legal
  predict_legal (Call.read c) = any_read i (λ r. Legal r.state.tables) c (λ vs. legal) legal
  predict_legal (Call.note c) = any_note i (λ r. Legal r.state.tables) c (λ allowed iterators. legal) legal legal
