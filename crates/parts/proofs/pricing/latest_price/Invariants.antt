use Rattle.std.proofs.Common.{◌≡◌, ◌-◌}
use Rattle.parts.specs.Pricing.{latest_priced, price_month_of}
use Rattle.parts.proofs.pricing.latest_price.Given as goal

-- what is left to ask gives the answer
abbrev pub invariant-loop-month : goal.invariant-loop-month
invariant-loop-month g l =
    latest_priced (g.S.Current.price l.source) l.month (24 - (l.issued - l.month)) ≡ price_month_of (g.S.Current.price l.source) l.issued
