-- Dates are text.
use Rattle.std.proofs.Common.{◌≡◌, ℕ, zero, suc, ◌+◌, ◌/◌, ◌%◌, Bool, true, false, cond, List, Some, None, arith}
use Rattle.std.proofs.lemmas.Str.{IsUtf8-from_ascii}
use Rattle.std.proofs.lemmas.Str.Ascii.{IsAscii-nil, IsAscii-push}
use Rattle.std.specs.Str.{IsAscii, IsUtf8}
use Rattle.calendar.specs.Dates.{date_text, day_figure, digits, month_figure, month_text}
use Rattle.calendar.specs.Days.{is_day, is_month}

digits_are_ascii : (k n : ℕ) → IsAscii (digits k n)
digits_are_ascii zero n = IsAscii-nil
digits_are_ascii (suc k) n = IsAscii-push (digits k (n / 10)) (48 + n % 10) (digits_are_ascii k (n / 10)) (omega arith)

digits_are_text : (b : Bool) (k n : ℕ) (shown : List ℕ) → Some shown ≡ cond b (Some (digits k n)) None → IsUtf8 shown
digits_are_text true k n shown e = grind (arith, IsUtf8-from_ascii (digits k n) (digits_are_ascii k n))
digits_are_text false k n shown e = grind arith

-- a day is written as text
pub date_is_text : (d : ℕ) (shown : List ℕ) → Some shown ≡ cond (is_day d) (Some (date_text d)) None → IsUtf8 shown
unfolding date_text
date_is_text d shown e = digits_are_text (is_day d) 8 (day_figure d) shown e

-- a month is written as text
pub month_is_text : (m : ℕ) (shown : List ℕ) → Some shown ≡ cond (is_month m) (Some (month_text m)) None → IsUtf8 shown
unfolding month_text
month_is_text m shown e = digits_are_text (is_month m) 6 (month_figure m) shown e
