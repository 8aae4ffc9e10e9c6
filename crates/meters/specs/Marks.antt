-- A day of a register: which of its hours are read, and what one reading adds.
use Rattle.std.specs.Prelude.{ℕ, zero, suc, ◌+◌, ◌/◌, ◌%◌, ◌^◌, Bool, true, ◌&&◌, ◌==◌, bit_or}
use Rattle.meters.specs.declared.register.day.Day.{Day}

-- no hour is read
abbrev pub unread_day : Day
unread_day = record { total = 0; marks = 0 }

-- hour h, counted from 0, is read: bit h of the marks is 1
abbrev pub marked : Day → ℕ → Bool
marked d h = d.marks / 2 ^ h % 2 == 1

-- each hour below n is read
abbrev pub all_marked : Day → ℕ → Bool
all_marked d zero = true
all_marked d (suc n) = marked d n && all_marked d n

-- one hour more is read: its kWh are added, and its bit is set
abbrev pub with_hour : (hour kwh : ℕ) → Day → Day
with_hour hour kwh d = record { total = d.total + kwh; marks = bit_or d.marks (2 ^ hour) }
