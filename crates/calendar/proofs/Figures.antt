-- Digits: the steps of writing and of reading them, that what is written is read, and that nothing else is.
use Rattle.std.proofs.Common.{◌≡◌, ℕ, zero, suc, ◌+◌, ◌-◌, ◌*◌, ◌/◌, ◌%◌, ◌^◌, ◌<◌, ◌≤◌, Bool, true, false, cond, eqb, List, [], ◌∷◌, ◌++◌, length, get_or, drop, set, Some, None, Option, sym, refl, ap, ◌∙◌, subst, append_assoc, append-nil, mul_assoc, pow-suc, zero-mul, add-one, arith, length-append}
use native.Mathlib.Nat.{pow-zero, pow-le-pow_right}
use Rattle.std.specs.Char.{is_ascii_digit, digit_value}
use Rattle.std.proofs.lemmas.List.{at_drop_more, drop-set}
use Rattle.std.proofs.lemmas.Bool.{cond-true, cond-false, eq-eqb, eqb-true}
use Rattle.std.proofs.lemmas.Bool.Decides.{nat_tests}
use Rattle.calendar.specs.Dates.{digits, number_on, number_in}

-- one digit more is written, before the others
write_before : (text : List ℕ) (q r : ℕ) → q < length text → digits q (r / 10) ++ drop q (set text q (48 + r % 10)) ≡ digits (suc q) r ++ drop (suc q) text
write_before text q r h =
    let one : q + 1 ≡ suc q = omega arith in
    let e : drop q (set text q (48 + r % 10)) ≡ (48 + r % 10) ∷ drop (q + 1) text = drop-set text q (48 + r % 10) h in
    let f : drop (q + 1) text ≡ drop (suc q) text = ap (λ n. drop n text) one in
    let a = append_assoc (digits q (r / 10)) ((48 + r % 10) ∷ []) (drop (suc q) text) in
    cc

pub write_step : (text : List ℕ) (p r : ℕ) → 0 < p → p ≤ length text → digits (p - 1) (r / 10) ++ drop (p - 1) (set text (p - 1) (48 + r % 10)) ≡ digits p r ++ drop p text
write_step text p r low high =
    let q = p - 1 in
    let same : suc (p - 1) ≡ p = omega arith in
    subst (λ (n : ℕ). digits q (r / 10) ++ drop q (set text q (48 + r % 10)) ≡ digits n r ++ drop n text) same (write_before text q r (omega arith))

-- the value of a digit, and of what is none
value_of_digit : (c : ℕ) → digit_value c < 10 → (is_ascii_digit c ≡ true) × (digit_value c ≡ c - 48)
value_of_digit c h = grind (arith, nat_tests)

no_value : (c : ℕ) → 10 ≤ digit_value c → is_ascii_digit c ≡ false
no_value c h = grind (arith, nat_tests)

-- one byte of what is left to read, by the ways
module _ (n : ℕ) (text : List ℕ) (i : ℕ) (in' : i < length text) where
  pub no_digit : 10 ≤ digit_value (get_or text i 0) → number_on n (drop i text) ≡ None
  no_digit h = at_drop_more (number_on n) text i 0 in' ∙ cond-false _ _ _ (no_value (get_or text i 0) h)

  pub digit_read : digit_value (get_or text i 0) < 10 → number_on n (drop i text) ≡ number_on (n * 10 + digit_value (get_or text i 0)) (drop (i + 1) text)
  digit_read h =
      let p = value_of_digit (get_or text i 0) h in
      at_drop_more (number_on n) text i 0 in' ∙ cond-true _ _ _ p.0 ∙ ap (λ m. number_on (n * 10 + m) (drop (i + 1) text)) (sym p.1)

-- a number of few digits has room for one more
pub few : (i : ℕ) → i < 8 → 10 ^ i ≤ 10000000
few i short = let i≤7 : i ≤ 7 = omega arith in pow-le-pow_right {n = 10} (omega arith) i≤7

pub one_more : (n d i : ℕ) → n < 10 ^ i → d < 10 → n * 10 + d < 10 ^ (i + 1)
one_more n d i h digit =
    let power : 10 ^ (i + 1) ≡ 10 ^ i * 10 = ap (λ k. 10 ^ k) (add-one i) ∙ pow-suc 10 i in
    omega arith

-- what is written is read again
pub read_on : (k n a : ℕ) (more : List ℕ) → n < 10 ^ k → number_on a (digits k n ++ more) ≡ number_on (a * 10 ^ k + n) more
read_on zero n a more h =
    let one = pow-zero 10 in
    let same : a ≡ a * 10 ^ 0 + n = omega arith in
    ap (λ m. number_on m more) same
read_on (suc k) n a more h =
    let q = n / 10 in
    let c = 48 + n % 10 in
    let power : 10 ^ suc k ≡ 10 ^ k * 10 = pow-suc 10 k in
    let small : q < 10 ^ k = omega arith in
    let front : (digits k q ++ (c ∷ [])) ++ more ≡ digits k q ++ (c ∷ more) = append_assoc (digits k q) (c ∷ []) more in
    let first : number_on a (digits k q ++ (c ∷ more)) ≡ number_on (a * 10 ^ k + q) (c ∷ more) = read_on k q a (c ∷ more) small in
    let digit : is_ascii_digit c ≡ true = grind (arith, nat_tests) in
    let last : number_on (a * 10 ^ k + q) (c ∷ more) ≡ number_on ((a * 10 ^ k + q) * 10 + (c - 48)) more = cond-true _ _ _ digit in
    let whole : a * 10 ^ suc k ≡ a * 10 ^ k * 10 = ap (λ x. a * x) power ∙ sym (mul_assoc a (10 ^ k) 10) in
    let same : (a * 10 ^ k + q) * 10 + (c - 48) ≡ a * 10 ^ suc k + n = omega arith in
    ap (number_on a) front ∙ first ∙ last ∙ ap (λ m. number_on m more) same

pub length_digits : (k n : ℕ) → length (digits k n) ≡ k
length_digits zero n = refl
length_digits (suc k) n = let e = length_digits k (n / 10) in let f = length-append (digits k (n / 10)) ((48 + n % 10) ∷ []) in omega arith

pub number_in-digits : (k n : ℕ) → n < 10 ^ k → number_in k (digits k n) ≡ Some n
number_in-digits k n h =
    let zero-first : 0 * 10 ^ k + n ≡ n = omega (arith, zero-mul (10 ^ k)) in
    cond-true (eqb (length (digits k n)) k) (number_on 0 (digits k n)) None (eq-eqb (length (digits k n)) k (length_digits k n))
    ∙ ap (number_on 0) (sym (append-nil (digits k n)))
    ∙ read_on k n 0 [] h
    ∙ ap Some zero-first

-- nothing but what is written is read: a number that was read has the digits of the text
some_chosen : (b : Bool) (o : Option ℕ) (n : ℕ) → cond b o None ≡ Some n → (b ≡ true) × (o ≡ Some n)
some_chosen true o n e = (refl, e)
some_chosen false o n e = absurd (cc)

digits_read : (text : List ℕ) (a j n : ℕ) → number_on a text ≡ Some n → digits (j + length text) n ≡ digits j a ++ text
digits_read [] a j n e =
    let same : a ≡ n = cc in
    let none : j + 0 ≡ j = omega arith in
    let whole = append-nil (digits j a) in
    cc
digits_read (c ∷ cs) a j n e =
    let v = a * 10 + (c - 48) in
    let p : (is_ascii_digit c ≡ true) × (number_on v cs ≡ Some n) = some_chosen (is_ascii_digit c) (number_on v cs) n e in
    let is = p.0 in
    let from : 48 ≤ c = grind (arith, nat_tests) in
    let below : c - 48 < 10 = grind (arith, nat_tests) in
    let front : v / 10 ≡ a = omega arith in
    let last : 48 + v % 10 ≡ c = omega arith in
    let more : digits (suc j + length cs) n ≡ (digits j (v / 10) ++ ((48 + v % 10) ∷ [])) ++ cs = digits_read cs v (suc j) n p.1 in
    let one : j + suc (length cs) ≡ suc j + length cs = omega arith in
    let joined = append_assoc (digits j (v / 10)) ((48 + v % 10) ∷ []) cs in
    cc

pub digits_of_text : (k : ℕ) (text : List ℕ) (n : ℕ) → number_in k text ≡ Some n → digits k n ≡ text
digits_of_text k text n e =
    let p = some_chosen (eqb (length text) k) (number_on 0 text) n e in
    let long : 0 + length text ≡ k = omega (arith, eqb-true (length text) k p.0) in
    subst (λ (w : ℕ). digits w n ≡ text) long (digits_read text 0 0 n p.1)
