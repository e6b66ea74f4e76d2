-- Ours, but for the calls of one kind: those answer and leave something else, made from what ours answers and leaves.
use Rattle.std.specs.Prelude.{ℕ, zero, suc, Bool, cond, List, eqb}
use Rattle.model.specs.declared.State.{State}
use Rattle.model.specs.Answers.{Reply, reply}
use Rattle.model.specs.Sequences.{World, KeyCall, ReadCall, StateCall, Call, Outcome, perform}

-- Something for each class of calls, ..
unfoldable pub by_call : {A : Type 0} → (ℕ → ℕ → A) → (ℕ → KeyCall → A) → (ℕ → A) → A → (scan iterate : ℕ → List ℕ → A)
    → (ReadCall → A) → (StateCall → A) → Call → A
by_call init on resize step scan iterate read note (Call.init capacity size) = init capacity size
by_call init on resize step scan iterate read note (Call.on key c) = on key c
by_call init on resize step scan iterate read note (Call.resize size) = resize size
by_call init on resize step scan iterate read note Call.rehash_step = step
by_call init on resize step scan iterate read note (Call.scan cursor lent) = scan cursor lent
by_call init on resize step scan iterate read note (Call.iterate place lent) = iterate place lent
by_call init on resize step scan iterate read note (Call.read c) = read c
by_call init on resize step scan iterate read note (Call.note c) = note c

-- .. for each call on a key, ..
unfoldable pub by_key_call : {A : Type 0} → (find : ℕ → A) (update add : ℕ → ℕ → A) (delete : ℕ → A) → ℕ → KeyCall → A
by_key_call find update add delete key KeyCall.find = find key
by_key_call find update add delete key (KeyCall.update value) = update key value
by_key_call find update add delete key (KeyCall.add value) = add key value
by_key_call find update add delete key KeyCall.delete = delete key

-- .. for each that reads, ..
unfoldable pub by_read_call : {A : Type 0} → (suggested_size : Bool → A) (look begin : A) (end : ℕ → A) → ReadCall → A
by_read_call suggested_size look begin end (ReadCall.suggested_size growing) = suggested_size growing
by_read_call suggested_size look begin end ReadCall.current_table = look
by_read_call suggested_size look begin end ReadCall.begin_iterator = begin
by_read_call suggested_size look begin end (ReadCall.end_iterator fingerprint) = end fingerprint

-- .. and for each that sets a field of the state.
unfoldable pub by_state_call : {A : Type 0} → (allow : Bool → A) (begin end : A) → StateCall → A
by_state_call allow begin end (StateCall.allow_resize allowed) = allow allowed
by_state_call allow begin end StateCall.begin_safe = begin
by_state_call allow begin end StateCall.end_safe = end

-- Ours, with a change made from the world and what ours answers and leaves in it.

abbrev pub Change : Type 0
Change = World → Outcome → Outcome

unfoldable pub none : Change
none w o = o

unfoldable pub but : (Call → Change) → World → Call → Outcome
but change w c = change c w (perform w c)

-- of one class
unfoldable pub but_init : (ℕ → ℕ → Change) → World → Call → Outcome
but_init init = but (by_call init (λ key c. none) (λ size. none) none (λ cursor lent. none) (λ place lent. none) (λ c. none) (λ c. none))

unfoldable pub but_on : (ℕ → KeyCall → Change) → World → Call → Outcome
but_on on = but (by_call (λ capacity size. none) on (λ size. none) none (λ cursor lent. none) (λ place lent. none) (λ c. none) (λ c. none))

unfoldable pub but_resize : (ℕ → Change) → World → Call → Outcome
but_resize resize = but (by_call (λ capacity size. none) (λ key c. none) resize none (λ cursor lent. none) (λ place lent. none) (λ c. none) (λ c. none))

unfoldable pub but_step : Change → World → Call → Outcome
but_step step = but (by_call (λ capacity size. none) (λ key c. none) (λ size. none) step (λ cursor lent. none) (λ place lent. none) (λ c. none) (λ c. none))

unfoldable pub but_scan : (ℕ → List ℕ → Change) → World → Call → Outcome
but_scan scan = but (by_call (λ capacity size. none) (λ key c. none) (λ size. none) none scan (λ place lent. none) (λ c. none) (λ c. none))

unfoldable pub but_iterate : (ℕ → List ℕ → Change) → World → Call → Outcome
but_iterate iterate = but (by_call (λ capacity size. none) (λ key c. none) (λ size. none) none (λ cursor lent. none) iterate (λ c. none) (λ c. none))

unfoldable pub but_read : (ReadCall → Change) → World → Call → Outcome
but_read read = but (by_call (λ capacity size. none) (λ key c. none) (λ size. none) none (λ cursor lent. none) (λ place lent. none) read (λ c. none))

unfoldable pub but_note : (StateCall → Change) → World → Call → Outcome
but_note note = but (by_call (λ capacity size. none) (λ key c. none) (λ size. none) none (λ cursor lent. none) (λ place lent. none) (λ c. none) note)

-- of one call on a key, one that reads, or one that sets a field
unfoldable pub but_find : (ℕ → Change) → World → Call → Outcome
but_find find = but_on (by_key_call find (λ key value. none) (λ key value. none) (λ key. none))

unfoldable pub but_update : (ℕ → ℕ → Change) → World → Call → Outcome
but_update update = but_on (by_key_call (λ key. none) update (λ key value. none) (λ key. none))

unfoldable pub but_add : (ℕ → ℕ → Change) → World → Call → Outcome
but_add add = but_on (by_key_call (λ key. none) (λ key value. none) add (λ key. none))

unfoldable pub but_delete : (ℕ → Change) → World → Call → Outcome
but_delete delete = but_on (by_key_call (λ key. none) (λ key value. none) (λ key value. none) delete)

unfoldable pub but_suggested_size : (Bool → Change) → World → Call → Outcome
but_suggested_size suggested_size = but_read (by_read_call suggested_size none none (λ fingerprint. none))

unfoldable pub but_look : Change → World → Call → Outcome
but_look look = but_read (by_read_call (λ growing. none) look none (λ fingerprint. none))

unfoldable pub but_begin : Change → World → Call → Outcome
but_begin begin = but_read (by_read_call (λ growing. none) none begin (λ fingerprint. none))

unfoldable pub but_end : (ℕ → Change) → World → Call → Outcome
but_end end = but_read (by_read_call (λ growing. none) none none end)

unfoldable pub but_allow : (Bool → Change) → World → Call → Outcome
but_allow allow = but_note (by_state_call allow none none)

unfoldable pub but_begin_safe : Change → World → Call → Outcome
but_begin_safe begin = but_note (by_state_call (λ allowed. none) begin none)

unfoldable pub but_end_safe : Change → World → Call → Outcome
but_end_safe end = but_note (by_state_call (λ allowed. none) none end)

-- What stands in place of ours: only where ours answers 0, or only where it refuses, or answers 2; ..

unfoldable pub by_number : {A : Type 0} → (done refused : A) → ℕ → A
by_number done refused zero = done
by_number done refused (suc number) = refused

unfoldable pub if_done : Outcome → Outcome → Outcome
if_done instead o = by_number instead o o.reply.number

unfoldable pub if_refused : Outcome → Outcome → Outcome
if_refused instead o = by_number o instead o.reply.number

unfoldable pub if_damaged : Outcome → Outcome → Outcome
if_damaged instead o = cond (eqb o.reply.number 2) instead o

-- .. with other values, another state, another lent list, or other buffers.

unfoldable pub replying : Reply State → Outcome → Outcome
replying r o = record { reply = r; first = o.first; second = o.second; entries = o.entries; lent = o.lent }

unfoldable pub answering : List ℕ → Outcome → Outcome
answering values o = replying (reply o.reply.number values o.reply.state) o

unfoldable pub handing_back : State → Outcome → Outcome
handing_back state o = replying (reply o.reply.number o.reply.values state) o

unfoldable pub listing : List ℕ → Outcome → Outcome
listing lent o = record { reply = o.reply; first = o.first; second = o.second; entries = o.entries; lent = lent }

unfoldable pub leaving : List ℕ → List ℕ → List ℕ → Outcome → Outcome
leaving first second entries o =
    record { reply = o.reply; first = first; second = second; entries = entries; lent = o.lent }
