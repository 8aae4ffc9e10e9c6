-- One register more among those that are kept.
use Rattle.std.proofs.Common.{◌≡◌, ℕ, zero, suc, ◌<◌, false, leb, List, ◌∷◌, length, get_or, map, replicate, set, Some, None, Option, Result, sym, refl, ap, ◌∙◌, arith, Ok}
use Rattle.std.specs.Option.{option_map}
use Rattle.std.proofs.lemmas.List.{get_or-map, length-map, map-set}
use Rattle.std.proofs.lemmas.Bool.{cond-false, lt-leb}
use Rattle.amounts.specs.declared.refusal.Refusal.{Refusal}
use Rattle.answers.specs.Answers.{plainly}
use Rattle.answers.specs.declared.answer.Answer.{Answer}
use Rattle.answers.specs.declared.answer.Answer.TheVariants.{Taken}
use Rattle.amounts.specs.Tables.{first_refused}
use Rattle.meters.specs.Register.{read_hour, readings, register_table, unread, Readings}
use Rattle.meters.specs.declared.register.held.Register.{Register}
use Rattle.office.specs.Registers.{by_id, kept_under, open_register, read_into, read_register, register_of}
use Rattle.office.specs.declared.registers.Registers.{Registers}

-- where nothing is kept, nothing was read
pub none_kept : (ids : ℕ) → map (option_map readings) (replicate ids None) ≡ replicate ids None
none_kept zero = refl
none_kept (suc ids) = ap (λ os. None ∷ os) (none_kept ids)

pub kept_one : {ids : ℕ} (rs : Registers ids) (id : ℕ) (r : Register) → by_id {ids = ids} (record { list = set rs.list id (Some r) }) ≡ set (by_id rs) id (Some (readings r))
kept_one rs id r = map-set (option_map readings) rs.list id (Some r)

-- an ID below their number is one of theirs
pub one_of_theirs : {ids : ℕ} (rs : Registers ids) (id : ℕ) → id < length rs.list → leb (length (by_id rs)) id ≡ false
one_of_theirs rs id h = lt-leb (length (by_id rs)) id (omega (arith, length-map rs.list (option_map readings)))

-- a new register, which is then kept
pub opened_one : {ids : ℕ} (rs : Registers ids) (id year : ℕ) (r : Register) → id < length rs.list → Ok (readings r) ≡ first_refused (register_table year) (unread year) → (Taken, by_id {ids = ids} (record { list = set rs.list id (Some r) })) ≡ open_register id year (by_id rs)
opened_one rs id year r h told =
    ap (λ (bs : List (Option Readings)). (Taken, bs)) (kept_one rs id r)
    ∙ ap (λ (res : Result Readings Refusal). kept_under id res (by_id rs)) told
    ∙ sym (cond-false (leb (length (by_id rs)) id) _ _ (one_of_theirs rs id h))

-- what is kept under an ID
pub kept_at : {ids : ℕ} (rs : Registers ids) (id : ℕ) (d : Option Register) → leb (length (by_id rs)) id ≡ false → id < length rs.list → option_map readings (get_or rs.list id d) ≡ register_of id (by_id rs)
kept_at rs id d small h =
    sym (get_or-map (option_map readings) rs.list id d None h)
    ∙ sym (cond-false (leb (length (by_id rs)) id) None (get_or (by_id rs) id None) small)

-- an hour that is read into a register, which is then kept
pub read_one : {ids : ℕ} (rs : Registers ids) (id day hour kwh : ℕ) (r s : Register) (answer : Answer) (result : Result (Unit {0}) Refusal) → Some (readings r) ≡ register_of id (by_id rs) → (result, readings s) ≡ read_hour day hour kwh (readings r) → answer ≡ plainly result → (answer, by_id {ids = ids} (record { list = set rs.list id (Some s) })) ≡ read_register id day hour kwh (by_id rs)
read_one rs id day hour kwh r s answer result found read told =
    let first = told ∙ ap (λ p. plainly p.0) read in
    let second = kept_one rs id s ∙ ap (λ p. set (by_id rs) id (Some p.1)) read in
    (λ i. (first i, second i)) ∙ ap (λ o. read_into id day hour kwh o (by_id rs)) found
