-- SPECIFICATION, "Calls over bytes": a refusal leaves every byte but the answer's, whichever export gives it and whatever it was
-- lent. Of the plain calls demand 1 says it; here it is said of bytes.
use Rattle.std.specs.Prelude.{ℕ, ◌<◌, ◌≡◌, List, [], get_or}
use Rattle.lent_bytes.specs.Exports.{Lent, Done, Export}

-- slices of bytes, and a list only for the exports that take one
abbrev pub Bytes : List ℕ → Type 0
Bytes bs = (i : ℕ) → get_or bs i 0 < 256

pub record Slices (state first second entries list : List ℕ) : Type 0 where
  pub state_has_bytes : Bytes state
  pub first_bytes : Bytes first
  pub second_bytes : Bytes second
  pub entries_bytes : Bytes entries
  pub list_bytes : Bytes list

unfoldable pub ListFor : Export → List ℕ → Type 0
ListFor (Export.scan cursor) list = Unit {0}
ListFor (Export.iterate place) list = Unit {0}
ListFor (Export.init capacity size) list = list ≡ []
ListFor (Export.find key) list = list ≡ []
ListFor (Export.update key value) list = list ≡ []
ListFor (Export.add key value) list = list ≡ []
ListFor (Export.delete key) list = list ≡ []
ListFor (Export.resize size) list = list ≡ []
ListFor Export.rehash_step list = list ≡ []
ListFor Export.begin_iterator list = list ≡ []
ListFor (Export.end_iterator fingerprint) list = list ≡ []
ListFor Export.begin_safe list = list ≡ []
ListFor Export.end_safe list = list ≡ []
ListFor (Export.suggested_size growing) list = list ≡ []
ListFor (Export.allow_resize allowed) list = list ≡ []

-- what was lent stays, unless 0 is returned
unfoldable pub Stays : (state first second entries list : List ℕ) → Done → Type 0
Stays state first second entries list (Done.done number (Lent.lent state' first' second' entries' list' answer)) =
    ¬ (number ≡ 0) → Lent.lent state' first' second' entries' list' answer ≡ Lent.lent state first second entries list answer

-- for any meaning of the exports, so that it can be refuted of wrong ones
abbrev pub Refusals : (Export → Lent → Done) → Type 0
Refusals does =
    (x : Export) (state first second entries list answer : List ℕ) → Slices state first second entries list → ListFor x list
    → Stays state first second entries list (does x (Lent.lent state first second entries list answer))
