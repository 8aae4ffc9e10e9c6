-- Even shares of a total: they rise with the days, never pass the total, and all the days have it all.
use Rattle.std.specs.Prelude.{◌≡◌, ℕ, ◌+◌, ◌*◌, ◌/◌, ◌<◌, ◌≤◌}
use Rattle.std.proofs.Common.{ap, ◌∙◌, add-mul, one-mul, mul-zero, div-mul-le_self, mul-div_cancel, mul-le-mul_left, mul_comm, arith}
use Rattle.std.proofs.Math.Nat.{zero-div, div-le_of_le-mul, lt-div-mul-add}
use Rattle.std.proofs.lemmas.Nat.{le-div}
use Rattle.meters.specs.Index.{share}

module _ (total days : ℕ) where
  pub share_rises : (j k : ℕ) → 0 < days → j ≤ k → share total days j ≤ share total days k
  share_rises j k some h =
      le-div (share total days j) (total * k) days some (omega (arith, div-mul-le_self (total * j) days, mul-le-mul_left total h))

  pub share_most : (k : ℕ) → k ≤ days → share total days k ≤ total
  share_most k h = div-le_of_le-mul days (omega (arith, mul-le-mul_left total h, mul_comm total days))

  pub share_all : 0 < days → share total days days ≡ total
  share_all some = mul-div_cancel total some

  pub share_none : share total days 0 ≡ 0
  share_none = ap (λ x. x / days) (mul-zero total) ∙ zero-div days

  -- the share is the whole part of the quotient
  pub share_part : (k : ℕ) → 0 < days → (share total days k * days ≤ total * k) × (total * k < (share total days k + 1) * days)
  share_part k some =
      (div-mul-le_self (total * k) days, omega (arith, lt-div-mul-add {a = total * k} some, add-mul (share total days k) 1 days, one-mul days))
