-- The marks of a day, bit by bit: what one mark more changes, and that a count of marks tells whether all hours are marked.
use Rattle.std.specs.Prelude.{◌≡◌, ℕ, zero, suc, ◌+◌, ◌-◌, ◌*◌, ◌/◌, ◌%◌, ◌^◌, ◌<◌, ◌≤◌, true, false, ◌&&◌, Decides, ◌==◌, ◌≢◌, nat_eq, refl}
use Rattle.std.proofs.Common.{sym, ap, ap₂, ◌∙◌, ⊎_elim, pow-suc, one-mul, add-zero, mod-eq_of_lt, one-add, arith, pow_mono}
use Rattle.std.proofs.Math.Nat.{div-eq_of_lt}
use Rattle.std.specs.Int.Bits.{bit_or, or_zero_r}
use Rattle.std.specs.Int.Count.{ones, ones_step}
use Rattle.std.proofs.lemmas.Nat.{pow_pos, pow-add, shr_split, mod-pow-add, mod_below, pow_below, or_lt, shl-shr, and_mask, or_block, or_disjoint, or_shr, or_mod, ones_cat, ones-le}
use Rattle.std.proofs.lemmas.Bool.{cases_order, eqb-false}
use Rattle.std.proofs.lemmas.Bool.Decides.{Decides-below_and, nat_tests}
use Rattle.meters.specs.declared.register.day.Day.{Day}
use Rattle.meters.specs.Marks.{marked, all_marked, with_hour}

-- bit h of m
abbrev bit : ℕ → ℕ → ℕ
bit m h = m / 2 ^ h % 2

bit_below : (m h : ℕ) → bit m h < 2
bit_below m h = mod_below (m / 2 ^ h) 2 (omega arith)

-- a bit that is not set is set by adding its power: the part above it becomes odd
module _ (m h : ℕ) (clear : bit m h ≡ 0) where
  one_more : bit_or m (2 ^ h) ≡ (m / 2 ^ h + 1) * 2 ^ h + m % 2 ^ h
  one_more =
      let q = m / 2 ^ h in
      let r = m % 2 ^ h in
      let high : bit_or q 1 ≡ q + 1 = or_disjoint q 1 (and_mask q 1 ∙ clear) in
      ap₂ bit_or (sym (shr_split m h)) (sym (add-zero (1 * 2 ^ h) ∙ one-mul (2 ^ h)))
      ∙ or_block h q 1 r 0 (mod_below m (2 ^ h) (pow_pos h)) (pow_pos h)
      ∙ ap₂ (λ (x y : ℕ). x * 2 ^ h + y) high (or_zero_r r)

  -- one mark more is one more set bit
  pub ones_more : ones (bit_or m (2 ^ h)) ≡ ones m + 1
  ones_more =
      let q = m / 2 ^ h in
      let r = m % 2 ^ h in
      let low = mod_below m (2 ^ h) (pow_pos h) in
      let after : ones (bit_or m (2 ^ h)) ≡ ones (q + 1) + ones r = ap ones one_more ∙ ones_cat h (q + 1) r low in
      let before : ones m ≡ ones q + ones r = ap ones (sym (shr_split m h)) ∙ ones_cat h q r low in
      let half : (q + 1) / 2 ≡ q / 2 = omega arith in
      let odd = ones_step (q + 1) in
      let even = ones_step q in
      let same : ones ((q + 1) / 2) ≡ ones (q / 2) = ap ones half in
      omega arith

-- the bits of one power of two
power_same : (h : ℕ) → bit (2 ^ h) h ≡ 1
power_same h = ap (λ x. x % 2) (ap (λ x. x / 2 ^ h) (sym (one-mul (2 ^ h))) ∙ shl-shr 1 h)

power_above : (h k : ℕ) → h < k → bit (2 ^ h) k ≡ 0
power_above h k lt = ap (λ x. x % 2) (div-eq_of_lt (pow_below h k lt))

power_below : (h k : ℕ) → k < h → bit (2 ^ h) k ≡ 0
power_below h k lt =
    let j = h - k - 1 in
    let sum : h ≡ suc j + k = omega arith in
    let high : 2 ^ h / 2 ^ k ≡ 2 ^ suc j = ap (λ x. 2 ^ x / 2 ^ k) sum ∙ ap (λ x. x / 2 ^ k) (pow-add 2 (suc j) k) ∙ shl-shr (2 ^ suc j) k in
    let twice = pow-suc 2 j in
    ap (λ x. x % 2) high ∙ omega arith

-- after one mark more, a bit is the one or the other's
bit-bit_or : (m n k : ℕ) → bit (bit_or m n) k ≡ bit_or (bit m k) (bit n k)
bit-bit_or m n k = ap (λ x. x % 2) (or_shr m n k) ∙ or_mod (m / 2 ^ k) (n / 2 ^ k) 1

or_one : (x : ℕ) → x < 2 → bit_or x 1 ≡ 1
or_one zero h = refl
or_one (suc zero) h = refl
or_one (suc (suc x)) h = absurd (omega arith)

pub marked_here : (h kwh : ℕ) (d : Day) → marked (with_hour h kwh d) h ≡ true
marked_here h kwh d =
    ap (λ x. nat_eq x 1) (bit-bit_or d.marks (2 ^ h) h ∙ ap (bit_or (bit d.marks h)) (power_same h) ∙ or_one (bit d.marks h) (bit_below d.marks h))

pub marked_else : (h kwh k : ℕ) (d : Day) → (k ≢ h) → marked (with_hour h kwh d) k ≡ marked d k
marked_else h kwh k d other =
    let none : bit (2 ^ h) k ≡ 0 = ⊎_elim (λ e. absurd (other e)) (⊎_elim (power_below h k) (power_above h k)) (cases_order k h) in
    ap (λ x. nat_eq x 1) (bit-bit_or d.marks (2 ^ h) k ∙ ap (bit_or (bit d.marks k)) none ∙ or_zero_r (bit d.marks k))

-- a mark below n keeps the marks below 2 ^ n
pub marks_stay : (n h m : ℕ) → h < n → m < 2 ^ n → bit_or m (2 ^ h) < 2 ^ n
marks_stay n h m lt low = or_lt n m (2 ^ h) low (pow_below h n lt)

-- how many of the bits below n are set
bits : ℕ → ℕ → ℕ
bits m zero = 0
bits m (suc n) = bit m n + bits m n

ones_bit : (x : ℕ) → x < 2 → ones x ≡ x
unfolding ones
ones_bit zero h = refl
ones_bit (suc zero) h = refl
ones_bit (suc (suc x)) h = absurd (omega arith)

ones_bits : (n m : ℕ) → ones (m % 2 ^ n) ≡ bits m n
unfolding bits
ones_bits zero m = let none = ones-le 0 (m % 2 ^ 0) (mod_below m (2 ^ 0) (pow_pos 0)) in omega arith
ones_bits (suc n) m =
    ap (λ x. ones (m % 2 ^ x)) (sym (one-add n))
    ∙ ap ones (mod-pow-add m 1 n)
    ∙ ones_cat n (bit m n) (m % 2 ^ n) (mod_below m (2 ^ n) (pow_pos n))
    ∙ ap₂ (λ (x y : ℕ). x + y) (ones_bit (bit m n) (bit_below m n)) (ones_bits n m)

bits_most : (n m : ℕ) → bits m n ≤ n
unfolding bits
bits_most zero m = omega arith
bits_most (suc n) m = let h = bits_most n m in let b = bit_below m n in omega arith

both_full : (b c n : ℕ) → b < 2 → c ≤ n → (b == 1 && c == n) ≡ (b + c == suc n)
both_full b c n h k = grind (arith, nat_tests)

all_bits : (n : ℕ) (d : Day) → all_marked d n ≡ (bits d.marks n == n)
unfolding bits
all_bits zero d = refl
all_bits (suc n) d =
    ap (λ x. marked d n && x) (all_bits n d) ∙ both_full (bit d.marks n) (bits d.marks n) n (bit_below d.marks n) (bits_most n d.marks)

-- where no mark stands at n or above, all hours below n are marked just where there are n marks
pub all_counted : (n : ℕ) (d : Day) → d.marks < 2 ^ n → all_marked d n ≡ (ones d.marks == n)
all_counted n d low =
    all_bits n d ∙ ap (λ x. nat_eq x n) (sym (ones_bits n d.marks) ∙ ap ones (mod-eq_of_lt low))

-- an hour that is not marked has its bit clear
pub unmarked_bit : (d : Day) (h : ℕ) → marked d h ≡ false → d.marks / 2 ^ h % 2 ≡ 0
unmarked_bit d h e = let b = bit_below d.marks h in let n = eqb-false (bit d.marks h) 1 e in omega arith

-- where no mark stands at n or above, no such hour is marked
pub unmarked_above : (n h : ℕ) (d : Day) → d.marks < 2 ^ n → n ≤ h → marked d h ≡ false
unmarked_above n h d low above =
    let most : d.marks < 2 ^ h = omega (arith, pow_mono above) in ap (λ x. nat_eq (x % 2) 1) (div-eq_of_lt most)

-- each hour below n is marked
pub each_marked : (n : ℕ) (d : Day) → Decides (all_marked d n) ((h : ℕ) → h < n → marked d h ≡ true)
each_marked n d = Decides-below_and (marked d) (λ h. marked d h ≡ true) (all_marked d) (λ h. ((λ e. e), (λ e. e))) refl (λ _. refl) n
