use Rattle.std.proofs.Common.{rules}
use Rattle.meters.proofs.Hourly.{hour_by_hour, no_other_hour, day_by_day, one_day, silent_at_first, hour_taken, kwh_added, other_hours_stay, other_days_stay}
use Rattle.meters.specs.Readings.{read_counted}
use Rattle.meters.proofs.register.laws.register_laws.Goals as goal

pub returns : goal.returns
returns c =
    record {
      hour_by_hour = hour_by_hour;
      no_other_hour = no_other_hour;
      by_count = read_counted;
      day_by_day = day_by_day;
      one_day = one_day;
      silent_at_first = silent_at_first;
      hour_taken = hour_taken;
      kwh_added = kwh_added;
      other_hours_stay = other_hours_stay;
      other_days_stay = other_days_stay;
      in_order = λ r year day hour kwh. search rules;
    }
