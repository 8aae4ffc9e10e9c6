use Rattle.std.proofs.Common.{refl}
use Rattle.calendar.specs.Days.{year_length, new_year, year_of, year_of_month, month_in_year, month_number, month_lengths, days_before, month_start, month_of, day_in_month}
use Rattle.calendar.specs.Hours.{hours_of}
use Rattle.calendar.proofs.laws.calendar_laws.Goals as goal

pub returns-clause-begins : goal.returns-clause-begins
unfolding new_year
returns-clause-begins c = refl

pub returns-clause-ends : goal.returns-clause-ends
unfolding new_year year_length
returns-clause-ends c = refl

pub returns-clause-worked : goal.returns-clause-worked
unfolding new_year year_of year_of_month month_in_year month_number month_lengths days_before month_start month_of day_in_month
returns-clause-worked c = (refl, refl, refl, refl)

pub returns-clause-hours : goal.returns-clause-hours
unfolding new_year year_of year_of_month month_in_year month_number month_lengths days_before month_start month_of hours_of
returns-clause-hours c = (refl, refl)
