use Rattle.std.proofs.Common.{ℕ, sym, refl, ap, subst, arith}
use Rattle.std.proofs.lemmas.Result.{err_from_is_err_and}
use Rattle.parts.specs.declared.types.Parts.{Parts}
use Rattle.rules.specs.Issue.{percents}
use Rattle.journal.specs.Model.{model}
use Rattle.journal.specs.Stages.{FitsIn}
use Rattle.journal.proofs.Supplies.{some_part}
use Rattle.journal.proofs.Issuing.{first_stage, second_stage, third_stage, all_stages, planned_is, parts-counted}
use Rattle.journal.proofs.held.Journal.plan.Goals as goal

pub returns-in_err-admitted : goal.returns-in_err-admitted
returns-in_err-admitted g c =
    let q = g.S.Current.quota c.args.source.now in
    let pr = g.S.Current.price c.args.source.now in
    let m = g.M.Meter.means c.args.meter.now in
    let j = model c.args.self.now in
    let p = err_from_is_err_and c.from_residual.result c.from_residual.ensures.1 in
    rw (p.1, p.2) (first_stage c.args.enrolment c.args.supply q pr m j c.in_err-admitted.field-0.0 c.in_err-admitted.ensures.told)

pub returns-in_err-measured : goal.returns-in_err-measured
returns-in_err-measured g c =
    let q = g.S.Current.quota c.args.source.now in
    let pr = g.S.Current.price c.args.source.now in
    let m = g.M.Meter.means c.args.meter.now in
    let j = model c.args.self.now in
    let p = err_from_is_err_and c.from_residual-in_err-measured.result c.from_residual-in_err-measured.ensures.1 in
    rw (p.1, p.2) (second_stage c.args.enrolment c.args.supply q pr m j c.in_ok-admitted.admitted c.in_ok-admitted.ensures.told c.in_err-measured.field-0.0 c.in_err-measured.ensures)

pub returns-in_err-bookable : goal.returns-in_err-bookable
returns-in_err-bookable g c =
    let q = g.S.Current.quota c.args.source.now in
    let pr = g.S.Current.price c.args.source.now in
    let m = g.M.Meter.means c.args.meter.now in
    let j = model c.args.self.now in
    let p = err_from_is_err_and c.from_residual-in_err-bookable.result c.from_residual-in_err-bookable.ensures.1 in
    rw (p.1, p.2) (third_stage c.args.enrolment c.args.supply q pr m j c.in_ok-admitted.admitted c.in_ok-admitted.ensures.told c.in_ok-measured.measured c.in_ok-measured.ensures c.in_err-bookable.field-0.0 c.in_err-bookable.ensures.told)

pub overflow_cast-result : goal.overflow_cast-result
overflow_cast-result g c =
    let q = g.S.Current.quota c.args.source.now in
    let pr = g.S.Current.price c.args.source.now in
    let m = g.M.Meter.means c.args.meter.now in
    let j = model c.args.self.now in
    let counted = parts-counted c.args.enrolment c.args.supply q pr m j c.in_ok-admitted.admitted c.in_ok-admitted.ensures.told c.in_ok-measured.measured c.in_ok-measured.ensures in
    let some = some_part c.args.supply c.in_ok-admitted.ensures.days q (percents c.args.enrolment) in
    omega (arith, counted, some, c.in_ok-bookable.ensures.fits.numbers)

pub returns : goal.returns
returns g c =
    let q = g.S.Current.quota c.args.source.now in
    let pr = g.S.Current.price c.args.source.now in
    let m = g.M.Meter.means c.args.meter.now in
    let j = model c.args.self.now in
    let is = planned_is c.args.enrolment c.args.supply q pr m j c.in_ok-admitted.admitted c.in_ok-admitted.ensures.told c.in_ok-measured.measured c.in_ok-measured.ensures c.metered.result c.metered.ensures in (
      is,
      subst (λ (n : ℕ). FitsIn n j) (sym (ap (λ (x : Parts). x.count) c.metered.ensures)) c.in_ok-bookable.ensures.fits,
      all_stages c.args.enrolment c.args.supply q pr m j c.in_ok-admitted.admitted c.in_ok-admitted.ensures.told c.in_ok-measured.measured c.in_ok-measured.ensures _ _ c.in_ok-bookable.ensures.told is refl,
    )
