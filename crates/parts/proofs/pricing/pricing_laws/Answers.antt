use Rattle.parts.specs.Pricing.{price_month_of}
use Rattle.parts.proofs.Monthly.{latest}
use Rattle.parts.proofs.pricing.pricing_laws.Goals as goal

pub returns : goal.returns
unfolding price_month_of
returns c = λ price m. latest price 24 m
