-- The answers to commands, and the records that some are followed by. Assumes nothing.
use Rattle.std.specs.Prelude.{ℕ, List, [], ◌∷◌, ◌++◌, Some, None, Ok, Err, codes, decimal, Option, Result}
use Rattle.std.specs.Fmt.{signed_decimal}
use Rattle.std.specs.List.{flat_map}
use Rattle.amounts.specs.Refusals.{fault, number}
use Rattle.amounts.specs.declared.refusal.Refusal.{Refusal}
use Rattle.parts.specs.Metering.{used}
use Rattle.parts.specs.declared.types.Part.{Part}
use Rattle.rules.specs.declared.types.Interval.{Interval}
use Rattle.rules.specs.declared.types.Line.{Line}
use Rattle.answers.specs.Rows.{row, date_digits, month_digits, kind_letter, status_word}
use Rattle.answers.specs.declared.answer.Answer.{Answer}
use Rattle.answers.specs.declared.answer.Answer.TheVariants.{Taken, Number, Amount, Refused, Bad}

-- the line and the field that a faulty notice is refused at
abbrev pub fault_fields : Option (ℕ × ℕ) → List (List ℕ)
fault_fields None = []
fault_fields (Some p) = decimal p.0 ∷ decimal p.1 ∷ []

-- what an answer says: `ok`, `ok,VALUE`, `refused,R`, `refused,27,LINE,FIELD` or `bad`
abbrev pub answer_words : Answer → List (List ℕ)
answer_words Taken = codes "ok" ∷ []
answer_words (Number v) = codes "ok" ∷ decimal v ∷ []
answer_words (Amount v) = codes "ok" ∷ signed_decimal v ∷ []
answer_words (Refused why) = codes "refused" ∷ decimal (number why) ∷ fault_fields (fault why)
answer_words Bad = codes "bad" ∷ []

-- the answer to the command in line n, behind its number
abbrev pub answer_text : ℕ → Answer → List ℕ
answer_text n a = row (decimal n ∷ answer_words a)

-- a call without a result: taken, or its refusal
abbrev pub plainly : Result (Unit {0}) Refusal → Answer
plainly (Ok u) = Taken
plainly (Err e) = Refused e

-- a call that gives a number
abbrev pub numbered : Result ℕ Refusal → Answer
numbered (Ok n) = Number n
numbered (Err e) = Refused e

-- a line: number, place, year, interval, part, kind, charged kWh, value and the line taken back
abbrev pub line_text : Line → List ℕ
line_text l =
    row
    (decimal l.number
    ∷ decimal l.place
    ∷ decimal l.year
    ∷ decimal l.interval
    ∷ decimal l.part
    ∷ kind_letter l.kind
    ∷ decimal l.charged
    ∷ signed_decimal l.value
    ∷ decimal l.takes_back
    ∷ [])

-- the fields of a part: first and last day, quota, percent, kWh and charged kWh
abbrev pub part_fields : Part → List (List ℕ)
part_fields p =
    date_digits p.first ∷ date_digits p.last ∷ decimal p.quota ∷ decimal p.percent ∷ decimal p.kwh ∷ decimal p.charged ∷ []

-- the fields of an interval before those of its parts: number, place, year, first and last day, price and its month, status, count of parts
abbrev pub head_fields : Interval → List (List ℕ)
head_fields i =
    decimal i.number
    ∷ decimal i.place
    ∷ decimal i.year
    ∷ date_digits i.first
    ∷ date_digits i.last
    ∷ decimal i.price
    ∷ month_digits i.price_month
    ∷ status_word i.status
    ∷ decimal i.parts.count
    ∷ []

-- an interval, with each part in use
abbrev pub interval_text : Interval → List ℕ
interval_text i = row (head_fields i ++ flat_map part_fields (used i.parts))

-- the last line: how many slips were still out
abbrev pub end_text : ℕ → List ℕ
end_text count = row (codes "end" ∷ decimal count ∷ [])
