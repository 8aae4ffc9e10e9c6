-- What two indexes mean keeps the laws of meters.
use Rattle.std.specs.Prelude.{◌≡◌, ℕ, ◌+◌, ◌-◌, ◌^◌, ◌<◌, ◌≤◌, Bool, true, false, cond, [], ◌∷◌, IfOk, Some, None, Ok, Err, Option, Result}
use Rattle.std.proofs.Common.{sym, ap, subst, ◌∙◌, ⊎_elim, arith}
use Rattle.std.proofs.lemmas.Bool.{cases_lt}
use Rattle.std.proofs.lemmas.Bool.Decides.{nat_tests}
use Rattle.amounts.specs.declared.refusal.Refusal.{Refusal}
use Rattle.amounts.specs.Tables.{Table, first_refused}
use Rattle.meters.specs.declared.held.IndexMeter.{IndexMeter}
use Rattle.meters.specs.Index.{index_kwh, index_means, share, Known, known}
use Rattle.meters.specs.Spans.{plus, told, Additive, day_count}
use Rattle.meters.specs.Cuts.{plus_none}
use Rattle.meters.specs.Shares.{share_rises, share_most, share_all, share_none}

module _ (first last total : ℕ) where
  abbrev means : ℕ → ℕ → Option ℕ
  means = index_kwh first last total

  -- what the first k days have
  abbrev upto : ℕ → ℕ
  upto = share total (day_count first last)

  pub index_inside : (a b : ℕ) → first ≤ a → a ≤ b → b ≤ last → means a b ≡ Some (upto (day_count first b) - upto (a - first))
  index_inside a b from on to = grind (arith, nat_tests)

  pub index_early : (a b : ℕ) → a < first → means a b ≡ None
  index_early a b early = grind (arith, nat_tests)

  pub index_late : (a b : ℕ) → last < b → means a b ≡ None
  index_late a b late = grind (arith, nat_tests)

  pub index_silent : (a b : ℕ) → b < a → means a b ≡ None
  index_silent a b back = grind (arith, nat_tests)

  pub index_additive : first ≤ last → Additive means
  index_additive forward a b c h k =
      ⊎_elim
      (λ early. index_early a c early ∙ sym (ap (λ x. plus x (means (b + 1) c)) (index_early a b early)))
      (λ from.
      ⊎_elim
      (λ late. index_late a c late ∙ sym (ap (plus (means a b)) (index_late (b + 1) c late) ∙ plus_none (means a b)))
      (λ to.
      let x = index_inside a b from h (omega arith) in
      let y = index_inside (b + 1) c (omega arith) (omega arith) to in
      let p = share_rises total (day_count first last) (a - first) (day_count first b) (omega arith) (omega arith) in
      let q = share_rises total (day_count first last) (day_count first b) (day_count first c) (omega arith) (omega arith) in
      index_inside a c from (omega arith) to ∙ ap Some (omega arith) ∙ sym (λ i. plus (x i) (y i)))
      (cases_lt last c))
      (cases_lt a first)

  -- what is told never passes the total
  pub index_most : (a b : ℕ) → told (means a b) ≤ total
  index_most a b =
      ⊎_elim
      (λ early. omega (arith, ap told (index_early a b early)))
      (λ from.
      ⊎_elim
      (λ late. omega (arith, ap told (index_late a b late)))
      (λ to.
      ⊎_elim
      (λ back. omega (arith, ap told (index_silent a b back)))
      (λ on.
      let most = share_most total (day_count first last) (day_count first b) (omega arith) in
      omega (arith, ap told (index_inside a b from on to)))
      (cases_lt b a))
      (cases_lt last b))
      (cases_lt a first)

  -- what is told fits 32 bits
  pub index_small : total ≤ 4000000 → (a b : ℕ) → told (means a b) < 2 ^ 32
  index_small few a b = omega (arith, index_most a b)

  -- the first k days have the share of k
  pub index_first : (k : ℕ) → 0 < k → k ≤ day_count first last → means first (first + k - 1) ≡ Some (upto k)
  index_first k some h =
      let none : upto (first - first) ≡ 0 = ap upto (omega arith) ∙ share_none total (day_count first last) in
      let all : upto (day_count first (first + k - 1)) ≡ upto k = ap upto (omega arith) in
      index_inside first (first + k - 1) (omega arith) (omega arith) (omega arith) ∙ ap Some (omega arith)

  -- all the days have the total
  pub index_whole : first ≤ last → means first last ≡ Some total
  index_whole forward =
      let n = day_count first last in
      let end : last ≡ first + n - 1 = omega arith in
      ap (means first) end ∙ index_first n (omega arith) (omega arith) ∙ ap Some (share_all total n (omega arith))

-- a condition that refused nothing did not hold
passed : {X : Type 0} (holds : Bool) (why : Refusal) (r : Result X Refusal) (y : X) → cond holds (Err why) r ≡ Ok y → r ≡ Ok y
passed true why r y e = let z : ◌≡◌ {A = ℕ} 0 1 = cc in absurd (omega arith)
passed false why r y e = e

-- what no condition refuses is the value
unrefused : {X : Type 0} (t : Table) (x y : X) → first_refused t x ≡ Ok y → x ≡ y
unrefused [] x y e = cc
unrefused (c ∷ cs) x y e = unrefused cs x y (passed c.0 c.1 (first_refused cs x) y e)

-- where a table makes a meter, all the meter's days have the total
pub made_whole : (r : Result IndexMeter Refusal) (t : Table) (k : Known) → known r ≡ first_refused t k → IfOk r (λ m. index_means m k.first k.last ≡ Some k.total)
made_whole (Ok m) t k e =
    let P : Known → Type 0 = λ k. index_means m k.first k.last ≡ Some k.total in
    subst P (sym (unrefused t k _ (sym e))) (index_whole m.first m.last m.total m.forward)
made_whole (Err why) t k e = tt
