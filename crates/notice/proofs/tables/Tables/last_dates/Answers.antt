use Rattle.std.proofs.Common.{vec_items, refl, rules}
use Rattle.sources.specs.declared.figures.QuotaFrom.{QuotaFrom}
use Rattle.sources.specs.declared.figures.MonthPrice.{MonthPrice}
use Rattle.sources.specs.declared.figures.FinalPair.{FinalPair}
use Rattle.notice.proofs.Growing.{date_of_last}
use Rattle.notice.proofs.tables.Tables.last_dates.Goals as goal

pub returns : goal.returns
returns c =
    let t = c.args.self.now in
    let day = date_of_last {T = QuotaFrom} (λ q. q.from) (vec_items t.quotas.records) (record { from = 0; quota = 0 }) c.last.result c.map_or.result _ refl c.last.ensures c.map_or.ensures (λ x h. search rules) in
    let month = date_of_last {T = MonthPrice} (λ p. p.month) (vec_items t.prices.records) (record { month = 0; price = 0 }) c.last-2.result c.map_or-2.result _ refl c.last-2.ensures c.map_or-2.ensures (λ x h. search rules) in
    let year = date_of_last {T = FinalPair} (λ p. p.year) (vec_items t.pairs.records) (record { year = 0; figures = record { quota = 0; price = 0 } }) c.last-3.result c.map_or-3.result _ refl c.last-3.ensures c.map_or-3.ensures (λ x h. search rules) in
    λ i. record { day = day i; month = month i; year = year i }
