-- The refusals: the number and the carried values of each case.
use Rattle.std.specs.Prelude.{ℕ, Some, None, Option}
use Rattle.amounts.specs.declared.refusal.Refusal.{Refusal}
use Rattle.amounts.specs.declared.refusal.Refusal.TheVariants.{NoPlace, BadDay, TwoYears, YearNotServed, SettledYear, SharedDay, NoQuota, TooManyParts, NoPrice, NoInterval, WrongStatus, TooEarly, NotFixed, AlreadyFixed, NoFinals, NoLot, NothingToSettle, UnsettledInterval, MeterSilent, TooMuchEnergy, NoRoom, NumbersUsedUp, BadLot, BadPercent, BadHour, BadFigure, FaultyNotice}

-- what a refusal tells: its number, and for a faulty notice the line and the field, counted from 1,
-- or 0 and 0 where the text as a whole is too long
pub record Told : Type 0 where
  pub number : ℕ
  pub fault : Option (ℕ × ℕ)

abbrev pub plain : ℕ → Told
plain n = record { number = n; fault = None }

-- the refusal table
abbrev pub told : Refusal → Told
told NoPlace = plain 1
told BadDay = plain 2
told TwoYears = plain 3
told YearNotServed = plain 4
told SettledYear = plain 5
told SharedDay = plain 6
told NoQuota = plain 7
told TooManyParts = plain 8
told NoPrice = plain 9
told NoInterval = plain 10
told WrongStatus = plain 11
told TooEarly = plain 12
told NotFixed = plain 13
told AlreadyFixed = plain 14
told NoFinals = plain 15
told NoLot = plain 16
told NothingToSettle = plain 17
told UnsettledInterval = plain 18
told MeterSilent = plain 19
told TooMuchEnergy = plain 20
told NoRoom = plain 21
told NumbersUsedUp = plain 22
told BadLot = plain 23
told BadPercent = plain 24
told BadHour = plain 25
told BadFigure = plain 26
told (FaultyNotice line field) = record { number = 27; fault = Some (line, field) }

abbrev pub number : Refusal → ℕ
number r = (told r).number

abbrev pub fault : Refusal → Option (ℕ × ℕ)
fault r = (told r).fault
