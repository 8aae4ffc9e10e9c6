use Rattle.std.proofs.Common.{ℕ, ◌+◌, ◌*◌, ◌^◌, ◌<◌, ◌≤◌, get_or, set, sym, ◌∙◌, subst, arith}
use lib.Count.{ones}
use Rattle.std.proofs.lemmas.List.{length-set}
use Rattle.calendar.specs.Days.{new_year}
use Rattle.calendar.specs.Hours.{hours_of}
use Rattle.meters.specs.declared.register.day.Day.{Day}
use Rattle.meters.specs.Marks.{unread_day}
use Rattle.meters.specs.Registers.{hours_between, day_most, kept_within, kept_small}
use Rattle.meters.proofs.register.held.Register.keep.Goals as goal

pub with_hour-requires : goal.with_hour-requires
with_hour-requires c =
    let m = c.args.self.now in
    let few = (hours_between (new_year m.year + c.args.place)).1 in
    let most = day_most m c.args.place in
    (omega arith, omega arith)

pub invariant_of-self : goal.invariant_of-self
invariant_of-self c =
    let m = c.args.self.now in
    let a = c.args in
    let Within : Day → Type 0 = λ d. (k : ℕ) → (get_or (set m.days a.place d) k unread_day).marks < 2 ^ hours_of (new_year m.year + k) in
    let Small : Day → Type 0 = λ d. (k : ℕ) → (get_or (set m.days a.place d) k unread_day).total ≤ 10000 * ones (get_or (set m.days a.place d) k unread_day).marks in
    let is = sym c.with_hour.ensures in record { from = m.from; to = m.to; room = length-set m.days a.place c.with_hour.result ∙ m.room; within = subst Within is (kept_within m a.place a.hour a.kwh c.requires.hour); small = subst Small is (kept_small m a.place a.hour a.kwh c.requires.unread c.requires.few) }
