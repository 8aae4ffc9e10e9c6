-- What a register's readings come to, in whole.
use Rattle.std.specs.Prelude.{◌≡◌, ℕ, ◌+◌, ◌<◌, ◌≤◌, true, false, is_some, Some, None, Ok, Decides, ◌==◌, ◌≢◌, count_ones}
use Rattle.amounts.specs.Tables.{Rising}
use Rattle.calendar.specs.Hours.{hours_of}
use Rattle.meters.specs.declared.register.held.Register.{Register}
use Rattle.meters.specs.Marks.{marked}
use Rattle.meters.specs.Register.{Readings, readings, of_year, on_day, is_read, register_kwh, hour_table, read_hour, unread, register_table}

-- what holds of every register, and of every reading
pub record RegisterLaws : Type 0 where
  -- a day is read just where it is a day of the year, and each of its hours is read
  pub hour_by_hour : (r : Readings) (day : ℕ) →
      Decides (is_read r day) ((of_year r.year day ≡ true) × ((h : ℕ) → h < hours_of day → marked (on_day r day) h ≡ true))
  -- no day has an hour read that it does not have
  pub no_other_hour : (m : Register) (day h : ℕ) →
      of_year m.year day ≡ true → hours_of day ≤ h → marked (on_day (readings m) day) h ≡ false
  -- so a day of the year is read just where it has as many marks as hours
  pub by_count : (m : Register) (day : ℕ) →
      of_year m.year day ≡ true → is_read (readings m) day ≡ (count_ones (on_day (readings m) day).marks == hours_of day)
  -- a span is told just where each of its days is read
  pub day_by_day : (r : Readings) (a b : ℕ) →
      a ≤ b → Decides (is_some (register_kwh r a b)) ((day : ℕ) → a ≤ day → day ≤ b → is_read r day ≡ true)
  -- one day that is read means its kWh
  pub one_day : (r : Readings) (day : ℕ) → is_read r day ≡ true → register_kwh r day day ≡ Some (on_day r day).total
  -- before any reading every span is silent
  pub silent_at_first : (year a b : ℕ) → register_kwh (unread year) a b ≡ None
  -- a reading that is taken marks its hour
  pub hour_taken : (m : Register) (day hour kwh : ℕ) →
      (read_hour day hour kwh (readings m)).0 ≡ Ok tt → marked (on_day (read_hour day hour kwh (readings m)).1 day) hour ≡ true
  -- and adds just its kWh to the day
  pub kwh_added : (m : Register) (day hour kwh : ℕ) →
      (read_hour day hour kwh (readings m)).0 ≡ Ok tt → (on_day (read_hour day hour kwh (readings m)).1 day).total ≡ (on_day (readings m) day).total + kwh
  -- no reading changes another hour of its day
  pub other_hours_stay : (m : Register) (day hour kwh h : ℕ) →
      (h ≢ hour) → marked (on_day (read_hour day hour kwh (readings m)).1 day) h ≡ marked (on_day (readings m) day) h
  -- nor anything of another day of the year
  pub other_days_stay : (r : Readings) (day hour kwh d : ℕ) →
      of_year r.year d ≡ true → (d ≢ day) → on_day (read_hour day hour kwh r).1 d ≡ on_day r d
  -- the conditions stand in the order of their numbers, so the first that holds has the smallest
  pub in_order : (r : Readings) (year day hour kwh : ℕ) → Rising (register_table year) × Rising (hour_table day hour kwh r)
