-- Spans of days, and amounts of them that may be silent.
use Rattle.std.specs.Prelude.{◌≡◌, ℕ, ◌+◌, ◌-◌, ◌<◌, ◌≤◌, Bool, ◌&&◌, List, [], ◌∷◌, Some, None, sum_by, Option, nat_le}
use Rattle.std.specs.List.{AllByRecursion}
use Rattle.calendar.specs.Days.{is_day}

-- told just where both are, and then their sum
abbrev pub plus : Option ℕ → Option ℕ → Option ℕ
plus None y = None
plus (Some x) None = None
plus (Some x) (Some y) = Some (x + y)

-- what is told, and 0 of silence
abbrev pub told : Option ℕ → ℕ
told None = 0
told (Some x) = x

-- wherever a span is cut, it means the sum of its two parts
abbrev pub Additive : (ℕ → ℕ → Option ℕ) → Type 0
Additive means = (a b c : ℕ) → a ≤ b → b < c → means a c ≡ plus (means a b) (means (b + 1) c)

-- spans, each of a first and a last day, that follow one another without a gap from day a to day c
abbrev pub Covers : ℕ → ℕ → List (ℕ × ℕ) → Type 0
Covers a c [] = ⊥
Covers a c (s ∷ []) = (s.0 ≡ a) × (s.1 ≡ c) × (a ≤ c)
Covers a c (s ∷ (t ∷ rest)) = (s.0 ≡ a) × (a ≤ s.1) × (s.1 < c) × Covers (s.1 + 1) c (t ∷ rest)

-- each of the spans is told, and they add up to k
abbrev pub AddUp : (ℕ → ℕ → Option ℕ) → List (ℕ × ℕ) → ℕ → Type 0
AddUp means spans k =
    AllByRecursion (λ s. means s.0 s.1 ≡ Some (told (means s.0 s.1))) spans
    × (sum_by (λ s. told (means s.0 s.1)) spans ≡ k)

-- however a told span is covered, the parts are told and add up to it
abbrev pub CoveredTold : Type 0
CoveredTold =
    (means : ℕ → ℕ → Option ℕ) → Additive means → (spans : List (ℕ × ℕ)) (a c k : ℕ) → Covers a c spans → means a c ≡ Some k → AddUp means spans k

-- how many days there are from a first to a last one
abbrev pub day_count : (first last : ℕ) → ℕ
day_count first last = last + 1 - first

-- days that a meter can have: of the calendar, in their order, at most 366
abbrev pub meter_days : (first last : ℕ) → Bool
meter_days first last = is_day first && (is_day last && (nat_le first last && nat_le (day_count first last) 366))
