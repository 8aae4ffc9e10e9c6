-- What a register's readings mean keeps the laws of meters.
use Rattle.std.specs.Prelude.{◌≡◌, ℕ, zero, suc, ◌+◌, ◌-◌, ◌*◌, ◌^◌, ◌<◌, ◌≤◌, Bool, true, false, cond, ◌&&◌, Some, None, Decides, Option, ◌==◌, count_ones, nat_eq, slice_index_or, refl}
use Rattle.std.proofs.Common.{sym, ap, ap₂, subst, ◌∙◌, ⊎_elim, add-zero, add-suc, add_assoc, arith}
use Rattle.std.proofs.lemmas.Bool.{and_parts, both_ways, cases_Bool, cases_lt, cond_both, le-leb, lt-leb}
use Rattle.std.proofs.lemmas.Bool.Decides.{Decides-below_and}
use Rattle.calendar.specs.Days.{new_year}
use Rattle.calendar.specs.Hours.{hours_of}
use Rattle.meters.specs.declared.register.held.Register.{Register}
use Rattle.meters.specs.Marks.{unread_day, all_marked}
use Rattle.meters.specs.Register.{Readings, readings, of_year, on_day, is_read, all_read, sum_of, register_kwh}
use Rattle.meters.specs.Spans.{plus, told, Additive, day_count}
use Rattle.meters.specs.Marking.{all_counted}
use Rattle.meters.specs.Registers.{told_only, in_place, day_most}

-- both parts of a sum are told just where all of it is
told_sum : (x y : Bool) (s t : ℕ) → cond (x && y) (Some (s + t)) None ≡ plus (cond x (Some s) None) (cond y (Some t) None)
told_sum true true s t = refl
told_sum true false s t = refl
told_sum false y s t = refl

and_true : (x : Bool) → x ≡ (x && true)
and_true true = refl
and_true false = refl

and_inner : (x y z : Bool) → (x && (y && z)) ≡ (y && (x && z))
and_inner true y z = refl
and_inner false true z = refl
and_inner false false z = refl

module _ (r : Readings) where
  -- the days after the first m, apart
  read_split : (a m n : ℕ) → all_read r a (m + n) ≡ (all_read r a m && all_read r (a + m) n)
  read_split a m zero = ap (all_read r a) (add-zero m) ∙ and_true (all_read r a m)
  read_split a m (suc n) =
      ap (all_read r a) (add-suc m n)
      ∙ ap₂ (λ (d : ℕ) (x : Bool). is_read r d && x) (sym (add_assoc a m n)) (read_split a m n)
      ∙ and_inner (is_read r (a + m + n)) (all_read r a m) (all_read r (a + m) n)

  sum_split : (a m n : ℕ) → sum_of r a (m + n) ≡ sum_of r a m + sum_of r (a + m) n
  sum_split a m zero = ap (sum_of r a) (add-zero m) ∙ sym (add-zero (sum_of r a m))
  sum_split a m (suc n) =
      ap (sum_of r a) (add-suc m n)
      ∙ ap₂ (λ (s d : ℕ). s + (on_day r d).total) (sum_split a m n) (sym (add_assoc a m n))
      ∙ add_assoc (sum_of r a m) (sum_of r (a + m) n) (on_day r (a + m + n)).total

  -- a span that does not end before it begins
  pub forward : (a b : ℕ) → a ≤ b → register_kwh r a b ≡ cond (all_read r a (day_count a b)) (Some (sum_of r a (day_count a b))) None
  forward a b h = ap (λ x. cond (x && all_read r a (day_count a b)) (Some (sum_of r a (day_count a b))) None) (le-leb a b h)

  pub backward : (a b : ℕ) → b < a → register_kwh r a b ≡ None
  backward a b h = ap (λ x. cond (x && all_read r a (day_count a b)) (Some (sum_of r a (day_count a b))) None) (lt-leb a b h)

  pub register_additive : Additive (register_kwh r)
  register_additive a b c h k =
      let m = day_count a b in
      let n = day_count (b + 1) c in
      let all : day_count a c ≡ m + n = omega arith in
      let cut : a + m ≡ b + 1 = omega arith in
      forward a c (omega arith)
      ∙ ap (λ q. cond (all_read r a q) (Some (sum_of r a q)) None) all
      ∙ ap₂ (λ (x : Bool) (s : ℕ). cond x (Some s) None) (read_split a m n) (sum_split a m n)
      ∙ ap (λ d. cond (all_read r a m && all_read r d n) (Some (sum_of r a m + sum_of r d n)) None) cut
      ∙ told_sum (all_read r a m) (all_read r (b + 1) n) (sum_of r a m) (sum_of r (b + 1) n)
      ∙ sym (ap₂ plus (forward a b h) (forward (b + 1) c (omega arith)))

  -- each of the days is read
  pub each_read : (a n : ℕ) → Decides (all_read r a n) ((k : ℕ) → k < n → is_read r (a + k) ≡ true)
  each_read a n = Decides-below_and (λ k. is_read r (a + k)) (λ k. is_read r (a + k) ≡ true) (all_read r a) (λ k. ((λ e. e), (λ e. e))) refl (λ _. refl) n

  -- a day that is read is a day of the year
  pub read_of_year : (d : ℕ) → is_read r d ≡ true → of_year r.year d ≡ true
  read_of_year d e = (and_parts (of_year r.year d) (all_marked (on_day r d) (hours_of d)) e).0

  -- no more days can be read than the year can have
  pub few_read : (a n : ℕ) → all_read r a n ≡ true → n ≤ 366
  few_read a zero e = omega arith
  few_read a (suc n) e =
      let first = in_place r.year (a + 0) (read_of_year (a + 0) ((each_read a (suc n)).0 e 0 (omega arith))) in
      let last = in_place r.year (a + n) (read_of_year (a + n) ((each_read a (suc n)).0 e n (omega arith))) in
      omega arith

  -- one day more
  pub read_more : (a d : ℕ) → a ≤ d → all_read r a (d + 1 - a) ≡ (is_read r d && all_read r a (d - a))
  read_more a d h =
      let one : d + 1 - a ≡ suc (d - a) = omega arith in
      let at : a + (d - a) ≡ d = omega arith in
      ap (all_read r a) one ∙ ap (λ x. is_read r x && all_read r a (d - a)) at

  pub sum_more : (a d : ℕ) → a ≤ d → sum_of r a (d + 1 - a) ≡ sum_of r a (d - a) + (on_day r d).total
  sum_more a d h =
      let one : d + 1 - a ≡ suc (d - a) = omega arith in
      let at : a + (d - a) ≡ d = omega arith in
      ap (sum_of r a) one ∙ ap (λ x. sum_of r a (d - a) + (on_day r x).total) at

  -- one day more is read, and its kWh are added
  pub one_more : (a d sum kwh : ℕ) → a ≤ d → (all_read r a (d - a) ≡ true) × (sum ≡ sum_of r a (d - a)) → Some kwh ≡ cond (is_read r d) (Some (on_day r d).total) None →
      (all_read r a (d + 1 - a) ≡ true) × (sum + kwh ≡ sum_of r a (d + 1 - a))
  one_more a d sum kwh h so e =
      let t = told_only (is_read r d) kwh (on_day r d).total e in
      (read_more a d h ∙ ap₂ ◌&&◌ t.0 so.0, ap₂ ◌+◌ so.1 t.1 ∙ sym (sum_more a d h))

  -- where all the days of a span are read, it means their sum
  pub told_all : (a b sum : ℕ) → a ≤ b → (all_read r a (b + 1 - a) ≡ true) × (sum ≡ sum_of r a (b + 1 - a)) → Some sum ≡ register_kwh r a b
  told_all a b sum h so =
      ap Some so.1 ∙ sym (forward a b h ∙ ap (λ x. cond x (Some (sum_of r a (day_count a b))) None) so.0)

  -- a span with a day that is not read is silent
  pub silent_day : (a b d : ℕ) → a ≤ d → d ≤ b → is_read r d ≡ false → register_kwh r a b ≡ None
  silent_day a b d from to unread =
      let n = day_count a b in
      let at : a + (d - a) ≡ d = omega arith in
      forward a b (omega arith)
      ∙ ⊎_elim
      (λ yes. absurd (both_ways (is_read r d) unread (ap (is_read r) (sym at) ∙ (each_read a n).0 yes (d - a) (omega arith))))
      (λ e. ap (λ x. cond x (Some (sum_of r a n)) None) e)
      (cases_Bool (all_read r a n))

module _ (m : Register) where
  pub sum_most : (a n : ℕ) → sum_of (readings m) a n ≤ 250000 * n
  sum_most a zero = omega arith
  sum_most a (suc n) = omega (arith, sum_most a n, day_most m (a + n - new_year m.year))

  -- what is told never passes 25 hours' kWh on each of 366 days
  pub register_most : (a b : ℕ) → told (register_kwh (readings m) a b) ≤ 91500000
  register_most a b =
      ⊎_elim
      (λ back. omega (arith, ap told (backward (readings m) a b back)))
      (λ on.
      let n = day_count a b in
      let some = ap told (forward (readings m) a b on) in
      let P : Option ℕ → Type 0 = λ o. told o ≤ 91500000 in
      let h = cond_both (all_read (readings m) a n) (Some (sum_of (readings m) a n)) None P (λ e. omega (arith, few_read (readings m) a n e, sum_most a n)) (λ _. omega arith) in
      omega arith)
      (cases_lt b a)

  -- what is told fits 32 bits
  pub register_small : (a b : ℕ) → told (register_kwh (readings m) a b) < 2 ^ 32
  register_small a b = omega (arith, register_most a b)

  -- a day of the year is read just where it has as many marks as hours
  pub read_counted : (d : ℕ) → of_year m.year d ≡ true → is_read (readings m) d ≡ (count_ones (on_day (readings m) d).marks == hours_of d)
  read_counted d inside =
      let place = d - new_year m.year in
      let at : new_year m.year + place ≡ d = omega (arith, (in_place m.year d inside).0) in
      let Within : ℕ → Type 0 = λ x. (on_day (readings m) d).marks < 2 ^ hours_of x in
      ap (λ x. x && all_marked (on_day (readings m) d) (hours_of d)) inside
      ∙ all_counted (hours_of d) (on_day (readings m) d) (subst Within at (m.within place))

  -- what is told of a day that was found at a place, with its hours, by the count of its marks
  pub kwh_counted : (d place hours : ℕ) (full : Bool) →
      ◌≡◌ {A = Option (ℕ × ℕ)} (Some (place, hours)) (cond (of_year m.year d) (Some (d - new_year m.year, hours_of d)) None) →
      full ≡ (count_ones (slice_index_or m.days place unread_day).marks == hours) →
      cond full (Some (slice_index_or m.days place unread_day).total) None ≡ cond (is_read (readings m) d) (Some (on_day (readings m) d).total) None
  kwh_counted d place hours full at e =
      let t = told_only (of_year m.year d) (place, hours) (d - new_year m.year, hours_of d) at in
      let here : place ≡ d - new_year m.year = ap (λ (x : ℕ × ℕ). x.0) t.1 in
      let long : hours ≡ hours_of d = ap (λ (x : ℕ × ℕ). x.1) t.1 in
      let same : full ≡ is_read (readings m) d =
      e ∙ ap₂ (λ (k n : ℕ). nat_eq (count_ones (slice_index_or m.days k unread_day).marks) n) here long ∙ sym (read_counted d t.0) in
      ap₂ (λ (b : Bool) (k : ℕ). cond b (Some (slice_index_or m.days k unread_day).total) None) same here
