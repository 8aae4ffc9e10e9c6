-- The commands of the log: a word, then its fields, parted by commas. Assumes nothing.
use Rattle.std.specs.Prelude.{ℕ, min, Bool, cond, ◌||◌, List, [], ◌∷◌, length, Some, None, Ok, Err, codes, Option, Result, ◌==◌, slice_index}
use Rattle.std.specs.Option.{option_map}
use Rattle.std.specs.Str.{bytes_eq}
use Rattle.calendar.specs.Dates.{read_date, read_month}
use Rattle.calendar.specs.declared.dates.DateFault.{DateFault}
use Rattle.calendar.specs.declared.dates.DateFault.TheVariants.{NotDigits, NoSuchDate}
use Rattle.text.specs.Numbers.{number, number_below}
use Rattle.text.specs.Pieces.{fields}
use Rattle.text.specs.Taken.{ended, numbered, reading}
use Rattle.commands.specs.declared.command.Beginning.{Beginning}
use Rattle.commands.specs.declared.command.Command.{Command}
use Rattle.commands.specs.declared.command.Command.TheVariants.{Setup, Enrol, Quota, Price, Final, Forget, Board, Notice, Register, Hour, Issue, Balance, Lines, Intervals}
use Rattle.commands.specs.declared.keyword.Keyword.{Keyword}
use Rattle.commands.specs.declared.keyword.Keyword.TheVariants as K
use Rattle.commands.specs.declared.command.MeterField.{MeterField}
use Rattle.commands.specs.declared.command.MeterField.TheVariants.{Index, Register as ByRegister}

-- a number, or the most that is handed on where it is above
abbrev pub at_most : ℕ → List ℕ → Option ℕ
at_most most text = option_map (λ n. min n most) (number text)

-- what a date or month is handed on as: 0 where it is well written and none of the calendar
abbrev pub handed_on : Result ℕ DateFault → Option ℕ
handed_on (Ok n) = Some n
handed_on (Err NoSuchDate) = Some 0
handed_on (Err NotDigits) = None

-- the day of a DATE
abbrev pub day : List ℕ → Option ℕ
day text = handed_on (read_date text)

-- the month of a MONTH
abbrev pub month : List ℕ → Option ℕ
month text = handed_on (read_month text)

-- the ID of a register, 0 to 15
abbrev pub register_id : List ℕ → Option ℕ
register_id text = number_below 16 text

-- the next field is a number that is cut to the most
abbrev pub bounded : {B : Type 0} → ℕ → List (List ℕ) → (ℕ → List (List ℕ) → Option B) → Option B
bounded most fs more = reading (at_most most) fs more

-- the next field is a place
abbrev pub placed : {B : Type 0} → List (List ℕ) → (ℕ → List (List ℕ) → Option B) → Option B
placed fs more = bounded 65535 fs more

-- the next field is a year
abbrev pub yeared : {B : Type 0} → List (List ℕ) → (ℕ → List (List ℕ) → Option B) → Option B
yeared fs more = bounded 65535 fs more

-- the next field is a percent
abbrev pub percented : {B : Type 0} → List (List ℕ) → (ℕ → List (List ℕ) → Option B) → Option B
percented fs more = bounded 255 fs more

-- the next field is an hour
abbrev pub houred : {B : Type 0} → List (List ℕ) → (ℕ → List (List ℕ) → Option B) → Option B
houred fs more = bounded 255 fs more

-- the next field is the ID of a register
abbrev pub identified : {B : Type 0} → List (List ℕ) → (ℕ → List (List ℕ) → Option B) → Option B
identified fs more = reading register_id fs more

-- the next field is a DATE
abbrev pub dated : {B : Type 0} → List (List ℕ) → (ℕ → List (List ℕ) → Option B) → Option B
dated fs more = reading day fs more

-- the next field is a MONTH
abbrev pub monthed : {B : Type 0} → List (List ℕ) → (ℕ → List (List ℕ) → Option B) → Option B
monthed fs more = reading month fs more

-- what stands beside a word in a table of words, if it is there
abbrev pub named : {A : Type 0} → List (List ℕ × A) → List ℕ → Option A
named [] word = None
named (w ∷ ws) word = cond (bytes_eq word w.0) (Some w.1) (named ws word)

-- `setup,YEAR,LINE,INTERVALS,LINES,LOTS`
abbrev pub setup : List (List ℕ) → Option Command
setup fs = yeared fs (λ year fs. numbered fs (λ line fs. bounded 16384 fs (λ intervals fs. bounded 65536 fs (λ lines fs. bounded 4096 fs (λ lots fs. ended fs (Setup (record { year = year; line = line; intervals = intervals; lines = lines; lots = lots })))))))

-- how the books of a log without a setup begin
abbrev pub usual : Beginning
usual = record { year = 2019; line = 1; intervals = 16384; lines = 65536; lots = 4096 }

-- `enrol,PLACE,PERCENT,DATE,DATE`
abbrev pub enrol : List (List ℕ) → Option Command
enrol fs = placed fs (λ place fs. percented fs (λ percent fs. dated fs (λ first fs. dated fs (λ last fs. ended fs (Enrol place percent first last)))))

-- `quota,DATE,QUOTA`
abbrev pub quota : List (List ℕ) → Option Command
quota fs = dated fs (λ day fs. numbered fs (λ quota fs. ended fs (Quota day quota)))

-- `price,MONTH,PRICE`
abbrev pub price : List (List ℕ) → Option Command
price fs = monthed fs (λ month fs. numbered fs (λ price fs. ended fs (Price month price)))

-- `final,YEAR,QUOTA,PRICE`
abbrev pub final : List (List ℕ) → Option Command
final fs = yeared fs (λ year fs. numbered fs (λ quota fs. numbered fs (λ price fs. ended fs (Final year quota price))))

-- `forget,YEAR`
abbrev pub forget : List (List ℕ) → Option Command
forget fs = yeared fs (λ year fs. ended fs (Forget year))

-- `notice,COUNT`
abbrev pub notice : List (List ℕ) → Option Command
notice fs = numbered fs (λ lines fs. ended fs (Notice lines))

-- `register,ID,YEAR`
abbrev pub register : List (List ℕ) → Option Command
register fs = identified fs (λ id fs. yeared fs (λ year fs. ended fs (Register id year)))

-- `hour,ID,DATE,HOUR,KWH`
abbrev pub hour : List (List ℕ) → Option Command
hour fs = identified fs (λ id fs. dated fs (λ day fs. houred fs (λ hour fs. numbered fs (λ kwh fs. ended fs (Hour id day hour kwh)))))

-- `index,DATE,DATE,NUMBER,NUMBER` behind its word
abbrev pub by_index : List (List ℕ) → Option MeterField
by_index fs = dated fs (λ first fs. dated fs (λ last fs. numbered fs (λ before fs. numbered fs (λ after fs. ended fs (Index (record { first = first; last = last; before = before; after = after }))))))

-- `register,ID` behind its word
abbrev pub by_register : List (List ℕ) → Option MeterField
by_register fs = identified fs (λ id fs. ended fs (ByRegister id))

-- the words that begin a METER
abbrev pub meters : List (List ℕ × (List (List ℕ) → Option MeterField))
meters = (codes "index", by_index) ∷ (codes "register", by_register) ∷ []

-- METER, the last fields of a line
abbrev pub meter : List (List ℕ) → Option MeterField
meter fs = reading (named meters) fs (λ read fs. read fs)

-- `issue,PLACE,DATE,DATE,DATE,METER`
abbrev pub issue : List (List ℕ) → Option Command
issue fs = placed fs (λ place fs. dated fs (λ first fs. dated fs (λ last fs. dated fs (λ issued fs. option_map (λ m. Issue place first last issued m) (meter fs)))))

-- `balance,PLACE,YEAR`
abbrev pub balance : List (List ℕ) → Option Command
balance fs = placed fs (λ place fs. yeared fs (λ year fs. ended fs (Balance place year)))

-- the words that begin a command
abbrev pub keywords : List (List ℕ × Keyword)
keywords =
    (codes "setup", K.Setup)
    ∷ (codes "enrol", K.Enrol)
    ∷ (codes "register", K.Register)
    ∷ (codes "hour", K.Hour)
    ∷ (codes "quota", K.Quota)
    ∷ (codes "price", K.Price)
    ∷ (codes "final", K.Final)
    ∷ (codes "forget", K.Forget)
    ∷ (codes "board", K.Board)
    ∷ (codes "notice", K.Notice)
    ∷ (codes "issue", K.Issue)
    ∷ (codes "balance", K.Balance)
    ∷ (codes "lines", K.Lines)
    ∷ (codes "intervals", K.Intervals)
    ∷ []

-- the command that a keyword begins, where its fields are well written
abbrev pub read_as : Keyword → List (List ℕ) → Option Command
read_as K.Setup fs = setup fs
read_as K.Enrol fs = enrol fs
read_as K.Quota fs = quota fs
read_as K.Price fs = price fs
read_as K.Final fs = final fs
read_as K.Forget fs = forget fs
read_as K.Board fs = ended fs Board
read_as K.Notice fs = notice fs
read_as K.Register fs = register fs
read_as K.Hour fs = hour fs
read_as K.Issue fs = issue fs
read_as K.Balance fs = balance fs
read_as K.Lines fs = ended fs Lines
read_as K.Intervals fs = ended fs Intervals

-- the command that a line is, if it is one
abbrev pub command : List ℕ → Option Command
command line = reading (named keywords) (fields line) read_as

-- an empty line, or one whose first byte is `#`, is no command and gets no answer
abbrev pub passed_over : List ℕ → Bool
passed_over line = length line == 0 || slice_index line 0 == 35
