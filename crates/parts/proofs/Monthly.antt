-- One month more of those that are asked for a price, and what all of them tell.
use Rattle.std.proofs.Common.{◌≡◌, ℕ, zero, suc, ◌-◌, ◌<◌, ◌≤◌, max, leb, Some, None, Option, refl, ap, ◌∙◌, ⊎_elim, arith}
use Rattle.std.proofs.lemmas.Bool.{cases_eq, cases_lt, cond_both, cond-true, cond-false, le-leb, leb-false, leb-true, lt-leb}
use Rattle.parts.specs.declared.pricing.Priced.{Priced}
use Rattle.parts.specs.Pricing.{LatestOrNone, latest_priced, priced_at}

-- month m is the next to be passed on the way down from the month of issue
module _ (price : ℕ → Option ℕ) (m issued : ℕ) where
  pub no-month : m ≤ max (issued - 24) 1 → latest_priced price m (24 - (issued - m)) ≡ None
  no-month h =
      ⊎_elim
      (λ later. let none : 24 - (issued - m) ≡ 0 = omega arith in ap (latest_priced price m) none)
      (λ first. none_before (24 - (issued - m)) first)
      (cases_lt 1 m)
    where
      none_before : (n : ℕ) → m ≤ 1 → latest_priced price m n ≡ None
      none_before zero first = refl
      none_before (suc n) first = cond-true _ _ _ (le-leb m 1 first)

  module _ (left : max (issued - 24) 1 < m) (known : m ≤ issued) where
    next : latest_priced price m (24 - (issued - m)) ≡ priced_at (m - 1) (price (m - 1)) (latest_priced price (m - 1) (24 - (issued - (m - 1))))
    next =
        let one : 24 - (issued - m) ≡ suc (24 - (issued - (m - 1))) = omega arith in
        ap (latest_priced price m) one ∙ cond-false _ _ _ (lt-leb m 1 (omega arith))

    pub told-month : (p : ℕ) → price (m - 1) ≡ Some p → latest_priced price m (24 - (issued - m)) ≡ Some (record { month = m - 1; price = p })
    told-month p e = next ∙ ap (λ o. priced_at (m - 1) o (latest_priced price (m - 1) (24 - (issued - (m - 1))))) e

    pub silent-month : price (m - 1) ≡ None → latest_priced price m (24 - (issued - m)) ≡ latest_priced price (m - 1) (24 - (issued - (m - 1)))
    silent-month e = next ∙ ap (λ o. priced_at (m - 1) o (latest_priced price (m - 1) (24 - (issued - (m - 1))))) e

module _ (price : ℕ → Option ℕ) where
  -- one month more before those that were asked
  latest_more : (m n : ℕ) (here : Option ℕ) (rest : Option Priced) → 1 < m → price (m - 1) ≡ here → LatestOrNone price (m - 1) n rest → LatestOrNone price m (suc n) (priced_at (m - 1) here rest)
  latest_more m n (Some p) rest h is _ = record {
    first = omega arith;
    before = omega arith;
    near = omega arith;
    told = is;
    later = λ k after below. absurd (omega arith);
  }
  latest_more m n None (Some p) h is l = record {
    first = l.first;
    before = omega (arith, l.before);
    near = omega (arith, l.near);
    told = l.told;
    later = λ k after below.
        ⊎_elim
        (λ (at : k ≡ m - 1). ap price at ∙ is)
        (λ (other : k ≡ m - 1 → ⊥). l.later k after (omega arith))
        (cases_eq k (m - 1));
  }
  latest_more m n None None h is silent = λ k low below near.
      ⊎_elim
      (λ (at : k ≡ m - 1). ap price at ∙ is)
      (λ (other : k ≡ m - 1 → ⊥). silent k low (omega arith) (omega arith))
      (cases_eq k (m - 1))

  pub latest : (n m : ℕ) → LatestOrNone price m n (latest_priced price m n)
  latest zero m = λ k low below near. absurd (omega arith)
  latest (suc n) m =
      cond_both
      (leb m 1)
      None
      (priced_at (m - 1) (price (m - 1)) (latest_priced price (m - 1) n))
      (LatestOrNone price m (suc n))
      (λ e k low below near. absurd (omega (arith, leb-true m 1 e)))
      (λ e. latest_more m n (price (m - 1)) (latest_priced price (m - 1) n) (leb-false m 1 e) refl (latest n (m - 1)))
