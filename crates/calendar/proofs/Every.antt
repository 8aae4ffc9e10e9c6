-- A test that passes at each number below a limit, which antt computes one number after the other.
use Rattle.std.proofs.Common.{◌≡◌, ℕ, zero, suc, ◌<◌, ◌≤◌, Bool, true, ◌&&◌, subst, ⊎_elim, not-suc-le-zero, arith}
use Rattle.std.proofs.lemmas.Bool.{and_parts, cases_lt}

abbrev pub every : (ℕ → Bool) → ℕ → Bool
every p zero = true
every p (suc n) = p n && every p n

pub at : (p : ℕ → Bool) (n : ℕ) → every p n ≡ true → (k : ℕ) → k < n → p k ≡ true
at p zero t k h = absurd (not-suc-le-zero h)
at p (suc n) t k h =
    let both : (p n ≡ true) × (every p n ≡ true) = and_parts (p n) (every p n) t in
    ⊎_elim (λ lt. at p n both.1 k lt) (λ ge. let same : n ≡ k = omega arith in subst (λ (m : ℕ). p m ≡ true) same both.0) (cases_lt k n)

-- the same for each month of a year, from 1 to 12
abbrev pub every_month : (ℕ → Bool) → Bool
every_month p = every (λ j. p (suc j)) 12

pub at_month : (p : ℕ → Bool) → every_month p ≡ true → (k : ℕ) → 1 ≤ k → k ≤ 12 → p k ≡ true
at_month p t zero low high = absurd (not-suc-le-zero low)
at_month p t (suc j) low high = at (λ j. p (suc j)) 12 t j (omega arith)
