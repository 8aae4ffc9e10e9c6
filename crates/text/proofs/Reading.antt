-- When a text is a number, and that writing and reading agree. Assumes nothing.
use Rattle.std.proofs.Common.{◌≡◌, ℕ, ◌+◌, ◌-◌, ◌*◌, ◌^◌, ◌<◌, ◌≤◌, true, false, ◌&&◌, ltb, List, length, get_or, Some, None, Ok, Err, IsUtf8, decimal, fold, Result, Bor, MatchResult, sym, ap, ◌∙◌, subst, ⊎_elim, arith, rules}
use Rattle.std.specs.Result.{OkIff, result_ok}
use Rattle.std.specs.Str.Parse.{ParsesUnsigned}
use Rattle.std.specs.Str.{all_ascii_digits}
use Rattle.std.proofs.lemmas.Fmt.{IsAscii-from_digits, decimal_digit, decimal_nonempty, decimal-digits_value, digits_decimal, first_decimal, digits_value-decimal}
use Rattle.std.proofs.lemmas.Str.Parse.{IsNumeralModel, not_in_digits, numerals_by_fold, parse_plain}
use Rattle.std.proofs.lemmas.Bool.{and_from, and_parts, both_ways, cases_Bool, cases_lt, cond-false, cond-true, lt-ltb, ltb-true}
use Rattle.std.proofs.lemmas.Str.{IsUtf8-from_ascii}
use Rattle.std.proofs.lemmas.Bool.Decides.{nat_tests}
use Rattle.text.specs.Numbers.{number, unpadded, worth, ReadsBack, ReadsOnlyWritten}

pub own : IsNumeralModel (λ ds. all_ascii_digits ds ≡ true) worth
own = numerals_by_fold _ (search rules) (λ n ds. fold (λ n c. n * 10 + (c - 48)) n ds) (search rules)

pub number_some : (t : List ℕ) → unpadded t ≡ true → all_ascii_digits t ≡ true → worth t < 2 ^ 32 → number t ≡ Some (worth t)
unfolding number
number_some t u d h = cond-true _ _ _ (and_from _ _ u (and_from _ _ d (lt-ltb (worth t) (2 ^ 32) h)))

pub number-parts : (t : List ℕ) → (unpadded t && (all_ascii_digits t && ltb (worth t) (2 ^ 32))) ≡ true → (unpadded t ≡ true) × (all_ascii_digits t ≡ true) × (worth t < 2 ^ 32)
number-parts t e =
    let p = and_parts (unpadded t) (all_ascii_digits t && ltb (worth t) (2 ^ 32)) e in
    let q = and_parts (all_ascii_digits t) (ltb (worth t) (2 ^ 32)) p.1 in
    (p.0, q.0, ltb-true (worth t) (2 ^ 32) q.1)

pub number_none : (t : List ℕ) → (unpadded t ≡ true → all_ascii_digits t ≡ true → worth t < 2 ^ 32 → ⊥) → number t ≡ None
unfolding number
number_none t no' =
    ⊎_elim (λ e. let p = number-parts t e in absurd (no' p.0 p.1 p.2)) (λ e. cond-false _ _ _ e) (cases_Bool (unpadded t && (all_ascii_digits t && ltb (worth t) (2 ^ 32))))

-- what `parse` answers, at a text with no leading zero and no plus
pub parsed : {E : Type 0} (t : List ℕ) (r : Result ℕ E) → unpadded t ≡ true → OkIff r ((all_ascii_digits t ≡ true) × (0 < length t) × (worth t < 2 ^ 32)) (worth t) → result_ok r ≡ number t
parsed t (Ok x) u h = ap Some h.1 ∙ sym (number_some t u h.0.0 h.0.2)
parsed t (Err e) u h = sym (number_none t (λ u' d l. h (d, grind (arith, nat_tests), l)))

pub parsed_copy : {E : Type 0} (t s : List ℕ) (r : Result ℕ E) → s ≡ t → unpadded t ≡ true → (get_or t 0 0 ≡ 43 → ⊥) → ParsesUnsigned 32 10 s r → result_ok r ≡ number t
parsed_copy t s r e u no' h = parsed t r u (parse_plain own 32 t r (subst (λ (x : List ℕ). ParsesUnsigned 32 10 x r) e h) no')

pub padded : (t : List ℕ) → unpadded t ≡ false → number t ≡ None
padded t e = number_none t (λ u d l. both_ways (unpadded t) e u)

pub plus-first : (t : List ℕ) → get_or t 0 0 ≡ 43 → number t ≡ None
plus-first t e = number_none t (λ u d l. not_in_digits own t 43 d (λ h. search rules) 0 (grind (arith, nat_tests)) e)

-- a text that is no UTF-8 has a byte that is no digit
no_text : (t : List ℕ) → (IsUtf8 t → ⊥) → number t ≡ None
no_text t no' = number_none t (λ u d l. no' (IsUtf8-from_ascii t (IsAscii-from_digits t (own.to t d))))

-- the same, as the code reads the check of a text
module _ {E : Type 0} (t : List ℕ) (Q : E → Type 0) where
  pub no_text_read : (r : Result (Bor (List ℕ)) E) → result_ok r ≡ None → MatchResult r (λ s. (s.now ≡ t) × IsUtf8 t) (λ e. (IsUtf8 t → ⊥) × Q e) → number t ≡ None
  no_text_read (Ok s) none told = cc
  no_text_read (Err e) none told = no_text t told.0

  pub text_read : (r : Result (Bor (List ℕ)) E) (s : Bor (List ℕ)) → result_ok r ≡ Some s → MatchResult r (λ s. (s.now ≡ t) × IsUtf8 t) (λ e. (IsUtf8 t → ⊥) × Q e) → s.now ≡ t
  text_read (Ok x) s is told = let same : x ≡ s = cc in sym (ap (λ y. y.now) same) ∙ told.0
  text_read (Err e) s is told = cc

unpadded-decimal : (n : ℕ) → n < 2 ^ 32 → unpadded (decimal n) ≡ true
unpadded-decimal n h =
    let some : 0 < length (decimal n) = decimal_nonempty n (omega arith) in
    ⊎_elim
    (λ (p : 0 < n). let first : 48 < get_or (decimal n) 0 0 = first_decimal n p (omega arith) in grind (arith, nat_tests))
    (λ (z : n ≤ 0). let one : length (decimal n) ≡ 1 = ap length (decimal_digit n (omega arith)) in grind (arith, nat_tests))
    (cases_lt 0 n)

pub reads_back : ReadsBack
reads_back n h =
    let v : worth (decimal n) ≡ n = digits_value-decimal own n (omega arith) in
    number_some (decimal n) (unpadded-decimal n h) (digits_decimal own n (omega arith)) (omega (arith, v)) ∙ ap Some v

-- a text that is read is the one that is written of what it is worth
written_of : (t : List ℕ) → unpadded t ≡ true → all_ascii_digits t ≡ true → worth t < 2 ^ 32 → decimal (worth t) ≡ t
written_of t u d h =
    let some : 0 < length t = grind (arith, nat_tests) in
    let bare : get_or t 0 0 ≡ 48 → length t ≡ 1 = λ e. grind (arith, nat_tests) in
    decimal-digits_value own t d some bare (omega arith)

pub reads_only-written : ReadsOnlyWritten
unfolding number
reads_only-written t n e =
    ⊎_elim
    (λ (h : (unpadded t && (all_ascii_digits t && ltb (worth t) (2 ^ 32))) ≡ true).
    let p = number-parts t h in
    let is : number t ≡ Some (worth t) = number_some t p.0 p.1 p.2 in
    let same : worth t ≡ n = cc in
    (sym (written_of t p.0 p.1 p.2) ∙ ap decimal same, omega (arith, p.2)))
    (λ (h : (unpadded t && (all_ascii_digits t && ltb (worth t) (2 ^ 32))) ≡ false).
    let is : number t ≡ None = cond-false _ _ _ h in
    let z : ◌≡◌ {A = ℕ} 0 1 = cc in absurd (omega arith))
    (cases_Bool (unpadded t && (all_ascii_digits t && ltb (worth t) (2 ^ 32))))
