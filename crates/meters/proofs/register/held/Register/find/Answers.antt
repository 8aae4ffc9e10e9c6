use Rattle.std.proofs.Common.{arith}
use Rattle.calendar.specs.Days.{is_day, is_year, new_year}
use Rattle.calendar.specs.Hours.{hours_of}
use Rattle.meters.specs.Registers.{told_only, of_told_year, in_place, hours_between}
use Rattle.meters.proofs.register.held.Register.find.Goals as goal

pub overflow_sub-place : goal.overflow_sub-place
overflow_sub-place c =
    let y = c.args.self.now.year in
    let d = c.args.day in
    let inside = of_told_year d y c.in_ok-year_of.field-0 c.in_ok-year_of.ensures c.if-branch-self.false in
    let first = told_only (is_year y) c.in_ok-first.first (new_year y) c.in_ok-first.ensures in
    omega (arith, (in_place y d inside).0, first.1)

pub returns-clause-place : goal.returns-clause-place
returns-clause-place c =
    let y = c.args.self.now.year in
    let d = c.args.day in
    let inside = of_told_year d y c.in_ok-year_of.field-0 c.in_ok-year_of.ensures c.if-branch-self.false in
    let first = told_only (is_year y) c.in_ok-first.first (new_year y) c.in_ok-first.ensures in
    let hours = told_only (is_day d) c.in_ok-hours_of.field-0 (hours_of d) c.in_ok-hours_of.ensures in
    let place = in_place y d inside in
    (omega (arith, place.1, first.1), omega (arith, place.0, first.1), omega (arith, (hours_between d).1, hours.1))
