-- From the first check, the bytes as numbers and the plain call to what an export promises. The laws on the check hold for any
-- list, since a call that is lent one goes the same way.
-- Assumes nothing.
use Prim.Native.Nat.{ℕ, ◌*◌}
use native.Mathlib.Omega.{arith}
use mathlib.Core.Path.{◌≡◌, refl, sym, ap, ◌∙◌}
use mathlib.Core.Bool.{Bool, true, false, ◌&&◌}
use mathlib.Core.List.{List, [], ◌∷◌}
use lib.ListN.{length, get_or}
use Rattle.little_endian.specs.Words.{decode, encode}
use Rattle.little_endian.specs.Reading.{Decoded, Fitting}
use Rattle.little_endian.proofs.Laws.{encode_length}
use Rattle.model.specs.declared.State.{State}
use Rattle.model.specs.Sequences.{Call, world, Outcome, perform}
use Rattle.lent_bytes.specs.Exports.{Lent, Done, state_bytes, answer_bytes, most_bucket_bytes, most_entry_bytes, state_numbers, results, lengths_fit, flags_fit, cleared, refused, world_from, written, started_state, exported_list, exported_call, exported_init, state_from}
use Rattle.lent_bytes.specs.Checked.{Whole, Lengths, Checked, Passed}
use Rattle.lent_bytes.proofs.Checks.{lengths, checked}
use Rattle.std.specs.Prelude.{Option, Some, None, IfNone}
use Rattle.export_calls.specs.declared.answers.Answer.{Answer}
use Rattle.export_calls.specs.Kinds.{answer_of, Told, told, Answers}
use Rattle.export_runs.specs.Numbers.{room_for}

-- What the first check has shown: the room is enough, and the answer has its eight bytes

module _ (state : List ℕ) (first second entries list answer : ℕ) (s : State) (p : Passed state first second entries list answer s) where
  pub opened : Checked state first second entries list answer
  opened = checked state first second entries list answer true (sym p.passed) refl

pub room_fits : (bytes room : List ℕ) (most : ℕ) → Whole most (length bytes) → length room ≡ room_for most → Fitting bytes room
unfolding room_for
room_fits bytes room most w e = record { whole = w.whole; few = omega (arith, w.few) }

module _ (state : List ℕ) (first second entries list answer : ℕ) (s : State) (p : Passed state first second entries list answer s) where
  pub first_whole : Whole most_bucket_bytes first
  first_whole = (opened state first second entries list answer s p).lengths.first_whole

  pub second_whole : Whole most_bucket_bytes second
  second_whole = (opened state first second entries list answer s p).lengths.second_whole

  pub entries_whole : Whole most_entry_bytes entries
  entries_whole = (opened state first second entries list answer s p).lengths.entries_whole

  pub state_whole : length state ≡ state_bytes
  state_whole = (opened state first second entries list answer s p).lengths.state_length

  pub not_refused : (lengths_fit (length state) first second entries list answer && flags_fit (decode state)) ≡ false → ⊥
  not_refused h = cc (p.passed, h)

pub answer_whole : (state : List ℕ) (first second entries list : ℕ) (answer : List ℕ) (s : State)
    → Passed state first second entries list (length answer) s → length answer ≡ answer_bytes
answer_whole state first second entries list answer s p = (opened state first second entries list (length answer) s p).lengths.answer_length

-- It does not pass

pub refusal : (state first second entries list answer : List ℕ) (r : ℕ) (out : List ℕ) → (r ≡ 1) × (out ≡ cleared answer)
    → Done.done r (Lent.lent state first second entries list out) ≡ refused (Lent.lent state first second entries list answer)
unfolding refused
refusal state first second entries list answer r out d = rw (d.0, d.1) refl

pub list_refused : (state first second entries list answer : List ℕ) (o : Option State) (r : ℕ) (out : List ℕ) (call : List ℕ → Call)
    → o ≡ None
    → IfNone o ((lengths_fit (length state) (length first) (length second) (length entries) (length list) (length answer) && flags_fit (decode state)) ≡ false)
    → (r ≡ 1) × (out ≡ cleared answer)
    → Done.done r (Lent.lent state first second entries list out) ≡ exported_list call (Lent.lent state first second entries list answer)
unfolding exported_list refused
list_refused state first second entries list answer None r out call h e d = rw (e, d.0, d.1) refl
list_refused state first second entries list answer (Some s) r out call h e d = grind arith

pub refused_call : (state first second entries answer : List ℕ) (o : Option State) (r : ℕ) (out : List ℕ) (call : Call)
    → o ≡ None
    → IfNone o ((lengths_fit (length state) (length first) (length second) (length entries) 0 (length answer) && flags_fit (decode state)) ≡ false)
    → (r ≡ 1) × (out ≡ cleared answer)
    → Done.done r (Lent.lent state first second entries [] out) ≡ exported_call call (Lent.lent state first second entries [] answer)
unfolding exported_call
refused_call state first second entries answer o r out call h e d =
    list_refused state first second entries [] answer o r out (λ list. call) h e d

-- An answer in numbers, and what the call leaves, as bytes

two_results : (values : List ℕ) → get_or (results values) 0 0 ∷ get_or (results values) 1 0 ∷ [] ≡ results values
unfolding results
two_results [] = refl
two_results (one ∷ []) = refl
two_results (one ∷ two ∷ more) = refl

module _ (a : Answer) (f g e l : List ℕ) (o : Outcome) (t : Told.tells a f g e l ≡ told o) where
  pub number_told : a.number ≡ o.reply.number
  unfolding told answer_of
  number_told = cc

  pub state_told : a.state ≡ o.reply.state
  unfolding told answer_of
  state_told = cc

  pub bytes_told : (state : List ℕ)
      → Done.done a.number (Lent.lent state (encode f) (encode g) (encode e) (encode l) (encode (a.one ∷ a.two ∷ [])))
      ≡ written state o
  unfolding told answer_of written
  bytes_told state = cc (two_results o.reply.values)

-- numbers as the bytes that they are
as_bytes : (n : ℕ) (state first second entries list answer f g e l out : List ℕ) (x : Done)
    → first ≡ encode f → second ≡ encode g → entries ≡ encode e → list ≡ encode l → answer ≡ encode out
    → Done.done n (Lent.lent state (encode f) (encode g) (encode e) (encode l) (encode out)) ≡ x
    → Done.done n (Lent.lent state first second entries list answer) ≡ x
as_bytes n state first second entries list answer f g e l out x p q r s t d = rw (p, q, r, s, t) d

-- A call that only reads, from what the first check has passed, and the bytes as numbers

module _ (state first second entries list answer : List ℕ) (s : State)
    (p : Passed state (length first) (length second) (length entries) (length list) (length answer) s)
    (f g e : List ℕ) (u : Decoded first f) (v : Decoded second g) (w : Decoded entries e) where
  same_world : world s f g e ≡ world_from state first second entries
  unfolding world_from
  same_world = rw (u.read, v.read, w.read, p.read.read) refl

  pub list_run : (call : List ℕ → Call) (a : Answer) (l list' out : List ℕ) → Answers (call (decode list)) f g e s a l
      → list' ≡ encode l → out ≡ encode (a.one ∷ a.two ∷ [])
      → Done.done a.number (Lent.lent state first second entries list' out) ≡ exported_list call (Lent.lent state first second entries list answer)
  unfolding exported_list
  list_run call a l list' out t r q =
      let o : Outcome = perform (world s f g e) (call (decode list)) in
      let kept : encode (state_numbers o.reply.state) ≡ state =
      ap (λ (z : State). encode (state_numbers z)) (sym (state_told a f g e l o t.answers) ∙ t.keeps) ∙ sym p.read.back in
      rw (p.passed, sym same_world)
      (as_bytes a.number state first second entries list' out f g e l (a.one ∷ a.two ∷ []) _ u.back v.back w.back r q
      (bytes_told a f g e l o t.answers state ∙ ap (λ (b : List ℕ). written b o) (sym kept)))

-- the same of a call that is lent no list
pub read_run : (state first second entries answer : List ℕ) (s : State)
    → Passed state (length first) (length second) (length entries) 0 (length answer) s
    → (f g e : List ℕ) → Decoded first f → Decoded second g → Decoded entries e
    → (call : Call) (a : Answer) (out : List ℕ) → Answers call f g e s a [] → out ≡ encode (a.one ∷ a.two ∷ [])
    → Done.done a.number (Lent.lent state first second entries [] out) ≡ exported_call call (Lent.lent state first second entries [] answer)
unfolding exported_call encode
read_run state first second entries answer s p f g e u v w call a out t q =
    list_run state first second entries [] answer s p f g e u v w (λ list. call) a [] [] out t refl q

-- A call that writes

module _ (state first second entries answer : List ℕ) (s : State)
    (p : Passed state (length first) (length second) (length entries) 0 (length answer) s) where
  pub write_run : (f g e f' g' e' first' second' entries' state' out : List ℕ) (call : Call) (a : Answer)
      → Decoded first f → Decoded second g → Decoded entries e
      → Told.tells a f' g' e' [] ≡ told (perform (world s f g e) call)
      → first' ≡ encode f' → second' ≡ encode g' → entries' ≡ encode e'
      → state' ≡ encode (state_numbers a.state) → out ≡ encode (a.one ∷ a.two ∷ [])
      → Done.done a.number (Lent.lent state' first' second' entries' [] out) ≡ exported_call call (Lent.lent state first second entries [] answer)
  unfolding exported_call exported_list encode
  write_run f g e f' g' e' first' second' entries' state' out call a u v w t x y z st q =
      let o : Outcome = perform (world s f g e) call in
      rw (p.passed, sym (same_world state first second entries [] answer s p f g e u v w))
      (as_bytes a.number state' first' second' entries' [] out f' g' e' [] (a.one ∷ a.two ∷ []) _ x y z refl q
      (bytes_told a f' g' e' [] o t state'
      ∙ ap (λ (b : List ℕ). written b o) (st ∙ ap (λ (z : State). encode (state_numbers z)) (state_told a f' g' e' [] o t))))

-- A start, of which the first check asks no flags

module _ (state first second entries answer : List ℕ) (t : Bool)
    (q : t ≡ lengths_fit (length state) (length first) (length second) (length entries) 0 (length answer)) (h : t ≡ true) where
  fitting : Lengths (length state) (length first) (length second) (length entries) 0 (length answer)
  fitting = lengths (length state) (length first) (length second) (length entries) 0 (length answer) t q h

  pub first_fitting : Whole most_bucket_bytes (length first)
  first_fitting = fitting.first_whole

  pub second_fitting : Whole most_bucket_bytes (length second)
  second_fitting = fitting.second_whole

  pub entries_fitting : Whole most_entry_bytes (length entries)
  entries_fitting = fitting.entries_whole

  pub state_fitting : length state ≡ state_bytes
  state_fitting = fitting.state_length

  pub answer_fitting : length answer ≡ answer_bytes
  answer_fitting = fitting.answer_length

  pub init_run : (f g e f' g' e' first' second' entries' state' out : List ℕ) (capacity size : ℕ) (a : Answer)
      → Decoded first f → Decoded second g → Decoded entries e
      → Told.tells a f' g' e' [] ≡ told (perform (world (state_from (decode state)) f g e) (Call.init capacity size))
      → first' ≡ encode f' → second' ≡ encode g' → entries' ≡ encode e'
      → state' ≡ started_state a.number state (encode (state_numbers a.state)) → out ≡ encode (a.one ∷ a.two ∷ [])
      → Done.done a.number (Lent.lent state' first' second' entries' [] out)
      ≡ exported_init capacity size (Lent.lent state first second entries [] answer)
  unfolding exported_init world_from encode
  init_run f g e f' g' e' first' second' entries' state' out capacity size a u v w t x y z st p =
      let s : State = state_from (decode state) in
      let o : Outcome = perform (world s f g e) (Call.init capacity size) in
      rw (sym q ∙ h, sym u.read, sym v.read, sym w.read)
      (as_bytes a.number state' first' second' entries' [] out f' g' e' [] (a.one ∷ a.two ∷ []) _ x y z refl p
      (bytes_told a f' g' e' [] o t state'
      ∙ ap (λ (b : List ℕ). written b o)
      (st
      ∙ ap (λ (z : State). started_state a.number state (encode (state_numbers z))) (state_told a f' g' e' [] o t)
      ∙ ap (λ (n : ℕ). started_state n state (encode (state_numbers o.reply.state))) (number_told a f' g' e' [] o t))))

pub start_refused : (state first second entries answer : List ℕ) (t : Bool) (r : ℕ) (out : List ℕ) (capacity size : ℕ)
    → t ≡ lengths_fit (length state) (length first) (length second) (length entries) 0 (length answer) → t ≡ false
    → (r ≡ 1) × (out ≡ cleared answer)
    → Done.done r (Lent.lent state first second entries [] out)
    ≡ exported_init capacity size (Lent.lent state first second entries [] answer)
unfolding exported_init refused
start_refused state first second entries answer t r out capacity size q h d = rw (sym q ∙ h, d.0, d.1) refl

-- numbers that a call left are as many as were read
pub as_many : (bytes ns ns' : List ℕ) → Decoded bytes ns → length ns' ≡ length ns → length ns' * 4 ≡ length bytes
as_many bytes ns ns' d h = omega (arith, ap length d.back, encode_length ns)
