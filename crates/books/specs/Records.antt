-- What a book holds.
use Rattle.std.specs.Prelude.{ℕ, Bool, not, List, [], ◌∷◌, ◌++◌, ◌==◌}

-- its records, in the order in which they were entered, and how many it can hold
pub record Held (R : Type 0) : Type 0 where
  pub records : List R
  pub room : ℕ

module _ {R : Type 0} where
  -- other records, in the same room
  abbrev pub with_records : List R → Held R → Held R
  with_records rs b = record { records = rs; room = b.room }

  -- one record more, behind the others
  abbrev pub entered : R → Held R → Held R
  entered it b = with_records (b.records ++ it ∷ []) b

  -- the record is of the year
  abbrev pub is_of : (R → ℕ) → ℕ → R → Bool
  is_of dates year r = dates r == year

  -- the record is not of the year
  abbrev pub not_of : (R → ℕ) → ℕ → R → Bool
  not_of dates year r = not (is_of dates year r)
