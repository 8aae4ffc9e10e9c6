-- The months of one year: what the even spread of the code gives is what the lengths of the months add up to.
use Rattle.std.proofs.Common.{◌≡◌, ℕ, ◌+◌, ◌-◌, ◌*◌, ◌/◌, ◌<◌, ◌≤◌, Bool, true, false, cond, ◌&&◌, eqb, ltb, leb, refl}
use Rattle.std.proofs.lemmas.Bool.{eqb-true, leb-true, ltb-true, and_parts}
use Rattle.calendar.specs.Days.{month_lengths, length_in_year, days_before, month_at}
use Rattle.calendar.proofs.Every.{every, at, every_month, at_month}

-- the days before month k of a year, by the spread
abbrev pub spread : Bool → ℕ → ℕ
spread l k = (367 * k - 362) / 12 - cond (leb k 2) 0 (cond l 1 2)

-- the month in which p days of the year have passed, by the spread
abbrev pub spread_month : Bool → ℕ → ℕ
spread_month l p = (12 * (p + cond (ltb (p + cond l 1 2) 61) 0 (cond l 1 2)) + 373) / 367

abbrev spread_test : Bool → ℕ → Bool
spread_test l k = eqb (days_before l k) (spread l k)

spread_all : (l : Bool) → every_month (spread_test l) ≡ true
unfolding days_before month_lengths
spread_all true = refl
spread_all false = refl

pub spread_is : (l : Bool) (k : ℕ) → 1 ≤ k → k ≤ 12 → days_before l k ≡ spread l k
spread_is l k low high = eqb-true (days_before l k) (spread l k) (at_month (spread_test l) (spread_all l) k low high)

abbrev month_test : Bool → ℕ → Bool
month_test l p = eqb (month_at (month_lengths l) p) (spread_month l p)

month_all : (l : Bool) → every (month_test l) (cond l 366 365) ≡ true
unfolding month_lengths
month_all true = refl
month_all false = refl

pub spread_month_is : (l : Bool) (p : ℕ) → p < cond l 366 365 → month_at (month_lengths l) p ≡ spread_month l p
spread_month_is l p h = eqb-true (month_at (month_lengths l) p) (spread_month l p) (at (month_test l) (cond l 366 365) (month_all l) p h)

-- the length of month k of a year, by the code
abbrev pub coded_length : Bool → ℕ → ℕ
coded_length l k = cond (eqb k 2) (30 - cond l 1 2) (cond (eqb k 4) 30 (cond (eqb k 6) 30 (cond (eqb k 9) 30 (cond (eqb k 11) 30 31))))

abbrev length_test : Bool → ℕ → Bool
length_test l k = eqb (length_in_year l k) (coded_length l k)

length_all : (l : Bool) → every_month (length_test l) ≡ true
unfolding length_in_year month_lengths
length_all true = refl
length_all false = refl

pub length_is : (l : Bool) (k : ℕ) → 1 ≤ k → k ≤ 12 → length_in_year l k ≡ coded_length l k
length_is l k low high = eqb-true (length_in_year l k) (coded_length l k) (at_month (length_test l) (length_all l) k low high)

-- each month begins its length after the one before; what follows December is the next year
abbrev next_test : Bool → ℕ → Bool
next_test l k = eqb (days_before l (k + 1)) (days_before l k + length_in_year l k)

next_all : (l : Bool) → every_month (next_test l) ≡ true
unfolding days_before length_in_year month_lengths
next_all true = refl
next_all false = refl

pub next_is : (l : Bool) (k : ℕ) → 1 ≤ k → k ≤ 12 → days_before l (k + 1) ≡ days_before l k + length_in_year l k
next_is l k low high = eqb-true (days_before l (k + 1)) (days_before l k + length_in_year l k) (at_month (next_test l) (next_all l) k low high)

pub none_before : (l : Bool) → days_before l 1 ≡ 0
unfolding days_before month_lengths
none_before l = refl

pub all_before : (l : Bool) → days_before l 13 ≡ cond l 366 365
unfolding days_before month_lengths
all_before true = refl
all_before false = refl

-- the day after p days of the year lies in the month that `month_at` says
abbrev place_test : Bool → ℕ → Bool
place_test l p = leb 1 (month_at (month_lengths l) p) && (leb (month_at (month_lengths l) p) 12 && (leb (days_before l (month_at (month_lengths l) p)) p && ltb p (days_before l (month_at (month_lengths l) p + 1))))

place_all : (l : Bool) → every (place_test l) (cond l 366 365) ≡ true
unfolding month_lengths days_before
place_all true = refl
place_all false = refl

-- k is the month in which p days of the year have passed
pub record Placed (l : Bool) (p k : ℕ) : Type 0 where
  pub low : 1 ≤ k
  pub high : k ≤ 12
  pub begun : days_before l k ≤ p
  pub lasts : p < days_before l (k + 1)

pub placed : (l : Bool) (p : ℕ) → p < cond l 366 365 → Placed l p (month_at (month_lengths l) p)
placed l p h =
    let k = month_at (month_lengths l) p in
    let a = and_parts (leb 1 k) (leb k 12 && (leb (days_before l k) p && ltb p (days_before l (k + 1)))) (at (place_test l) (cond l 366 365) (place_all l) p h) in
    let b = and_parts (leb k 12) (leb (days_before l k) p && ltb p (days_before l (k + 1))) a.1 in
    let c = and_parts (leb (days_before l k) p) (ltb p (days_before l (k + 1))) b.1 in
    record {
      low = leb-true 1 k a.0;
      high = leb-true k 12 b.0;
      begun = leb-true (days_before l k) p c.0;
      lasts = ltb-true p (days_before l (k + 1)) c.1;
    }

-- no month is longer than 31 days, and none ends after the year
abbrev most_test : Bool → ℕ → Bool
most_test l k = leb (length_in_year l k) 31 && leb (days_before l (k + 1)) (cond l 366 365)

most_all : (l : Bool) → every_month (most_test l) ≡ true
unfolding days_before length_in_year month_lengths
most_all true = refl
most_all false = refl

most : (l : Bool) (k : ℕ) → 1 ≤ k → k ≤ 12 → (length_in_year l k ≤ 31) × (days_before l (k + 1) ≤ cond l 366 365)
most l k low high =
    let p = and_parts (leb (length_in_year l k) 31) (leb (days_before l (k + 1)) (cond l 366 365)) (at_month (most_test l) (most_all l) k low high) in
    (leb-true (length_in_year l k) 31 p.0, leb-true (days_before l (k + 1)) (cond l 366 365) p.1)

pub at_most_31 : (l : Bool) (k : ℕ) → 1 ≤ k → k ≤ 12 → length_in_year l k ≤ 31
at_most_31 l k low high = (most l k low high).0

pub at_most_all : (l : Bool) (k : ℕ) → 1 ≤ k → k ≤ 12 → days_before l (k + 1) ≤ cond l 366 365
at_most_all l k low high = (most l k low high).1
