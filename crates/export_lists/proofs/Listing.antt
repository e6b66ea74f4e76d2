-- From a call on numbers to the bytes of its list, of which the call was lent the front: what lies behind it stays.
-- Assumes nothing.
use Prim.Native.Nat.{ℕ, ◌*◌, ◌/◌, ◌≤◌, min}
use native.Mathlib.Omega.{arith}
use mathlib.Core.Path.{◌≡◌, sym, ap, ◌∙◌}
use mathlib.Core.List.{List, [], ◌∷◌, ◌++◌}
use mir.Syntax.{w8}
use mir.Val.{Fits}
use lib.ListN.{length, get_or, take, drop}
use Rattle.little_endian.specs.Words.{decode, encode}
use Rattle.little_endian.specs.Reading.{Decoded}
use Rattle.little_endian.proofs.Laws.{encode_length}
use Rattle.model.specs.declared.State.{State}
use Rattle.model.specs.Sequences.{World, Outcome, world, perform}
use Rattle.lent_bytes.specs.Exports.{Lent, Done, exported_list}
use Rattle.lent_bytes.specs.Checked.{Passed}
use Rattle.export_calls.specs.declared.answers.Answer.{Answer}
use Rattle.export_calls.specs.Kinds.{Told, told, Answers}
use Rattle.export_runs.specs.Numbers.{room_for}
use Rattle.export_runs.proofs.Running.{opened, list_run}
use Rattle.export_lists.specs.Room.{Listing, list_call, list_room}
use Rattle.export_lists.proofs.Parts.{decode_take, encode_append, encode_rest, decode_length}
use Rattle.export_lists.proofs.Front.{longer, list_front}

-- what is told of a call, and of it with a longer list
longer_told : (a : Answer) (f g e l rest : List ℕ) (o : Outcome) → Told.tells a f g e l ≡ told o
    → Told.tells a f g e (l ++ rest) ≡ told (longer rest o)
unfolding told longer
longer_told a f g e l rest o t = cc

module _ (state first second entries list answer : List ℕ) (s : State)
    (p : Passed state (length first) (length second) (length entries) (length list) (length answer) s)
    (f g e : List ℕ) (u : Decoded first f) (v : Decoded second g) (w : Decoded entries e) where
  pub front_run : (n : ℕ) (l l' part list' out : List ℕ) (call : Listing) (a : Answer)
      → n ≡ min (length list / 4) list_room → Decoded (take (n * 4) list) l → ((i : ℕ) → Fits w8 (get_or list i 0))
      → Answers (list_call call l) f g e s a l'
      → part ≡ encode l' → list' ≡ part ++ drop (n * 4) list → out ≡ encode (a.one ∷ a.two ∷ [])
      → Done.done a.number (Lent.lent state first second entries list' out)
      ≡ exported_list (list_call call) (Lent.lent state first second entries list answer)
  unfolding world list_room room_for
  front_run n l l' part list' out call a m d b t part_is list'_is q =
      let k = (opened state _ _ _ _ _ s p).lengths in
      let world : World = world s f g e in
      let rest : List ℕ = drop n (decode list) in
      let few : length e / 3 * 2 ≤ list_room = omega (arith, k.entries_whole.few, ap length w.back, encode_length e) in
      let long : min list_room (length (decode list)) ≤ n = omega (arith, decode_length list) in
      let front : l ≡ take n (decode list) = d.read ∙ decode_take n list in
      let whole : Told.tells a f g e (l' ++ rest) ≡ told (perform world (list_call call (decode list))) =
      longer_told a f g e l' rest _ t.answers
      ∙ ap (λ (ns : List ℕ). told (longer rest (perform world (list_call call ns)))) front
      ∙ ap told (list_front list_room n world (decode list) few long call) in
      let bytes : list' ≡ encode (l' ++ rest) =
      list'_is
      ∙ ap (λ (bs : List ℕ). bs ++ drop (n * 4) list) part_is
      ∙ ap (λ (bs : List ℕ). encode l' ++ bs) (sym (encode_rest n list k.list_whole (omega arith) (λ i. (b i).fits)))
      ∙ sym (encode_append l' rest) in
      list_run state first second entries list answer s p f g e u v w (list_call call) a (l' ++ rest) list' out
      (record { answers = whole; keeps = t.keeps }) bytes q
