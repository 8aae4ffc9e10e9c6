-- The registers that an office keeps, and what calls return, as answers.
use Rattle.std.specs.Prelude.{ℕ, cond, List, length, map, replicate, Some, None, Ok, Err, Option, Result, nat_le, slice_index_or, slice_set}
use Rattle.std.specs.Option.{option_map}
use Rattle.amounts.specs.declared.refusal.Refusal.{Refusal}
use Rattle.amounts.specs.Tables.{first_refused}
use Rattle.meters.specs.Register.{Readings, readings, read_hour, register_table, unread}
use Rattle.answers.specs.Answers.{plainly}
use Rattle.answers.specs.declared.answer.Answer.{Answer}
use Rattle.answers.specs.declared.answer.Answer.TheVariants.{Taken, Refused, Bad}
use Rattle.office.specs.declared.registers.Registers.{Registers}

-- what is read so far in the register of each ID, from 0 on, where there is one
abbrev pub by_id : {ids : ℕ} → Registers ids → List (Option Readings)
by_id r = map (option_map readings) r.list

-- none of so many IDs has a register
abbrev pub no_registers : ℕ → List (Option Readings)
no_registers ids = replicate ids None

-- a new register is kept in the place of the one before; a refusal keeps that one
abbrev pub kept_under : ℕ → Result Readings Refusal → List (Option Readings) → Answer × List (Option Readings)
kept_under id (Ok r) rs = (Taken, slice_set rs id (Some r))
kept_under id (Err e) rs = (Refused e, rs)

-- a new register for a year; there is none under an ID that is none of theirs
abbrev pub open_register : (id year : ℕ) → List (Option Readings) → Answer × List (Option Readings)
open_register id year rs =
    cond (nat_le (length rs) id) (Bad, rs) (kept_under id (first_refused (register_table year) (unread year)) rs)

-- the register of an ID, where there is one
abbrev pub register_of : ℕ → List (Option Readings) → Option Readings
register_of id rs = cond (nat_le (length rs) id) None (slice_index_or rs id None)

-- an hour that is read into a register, where there is one
abbrev pub read_into : (id day hour kwh : ℕ) → Option Readings → List (Option Readings) → Answer × List (Option Readings)
read_into id day hour kwh None rs = (Bad, rs)
read_into id day hour kwh (Some r) rs =
    (plainly (read_hour day hour kwh r).0, slice_set rs id (Some (read_hour day hour kwh r).1))

-- an hour is read into the register of an ID
abbrev pub read_register : (id day hour kwh : ℕ) → List (Option Readings) → Answer × List (Option Readings)
read_register id day hour kwh rs = read_into id day hour kwh (register_of id rs) rs
