-- The laws of a register's readings.
use Rattle.std.proofs.Common.{◌≡◌, ℕ, ◌+◌, ◌-◌, ◌^◌, ◌<◌, ◌≤◌, Bool, true, false, cond, not, ◌≢◌, length, is_some, Some, None, Ok, Err, Decides, Result, sym, refl, ap, ◌∙◌, subst, ⊎_elim, arith}
use lib.Count.{ones, ones-le}
use Rattle.std.proofs.lemmas.Nat.{pow_pos}
use Rattle.std.proofs.lemmas.List.{get_or-set_same, get_or-set_other}
use Rattle.std.proofs.lemmas.Bool.{and_right, cases_lt, cond-true, ne_eqb, not-false}
use Rattle.std.proofs.lemmas.Bool.Decides.{Decides-and, Decides-at, Decides-like}
use Rattle.amounts.specs.declared.refusal.Refusal.{Refusal}
use Rattle.amounts.proofs.Answered.{answered}
use Rattle.calendar.specs.Days.{new_year}
use Rattle.calendar.specs.Hours.{hours_of}
use Rattle.meters.specs.declared.register.held.Register.{Register}
use Rattle.meters.specs.Marks.{unread_day, marked, all_marked, with_hour}
use Rattle.meters.specs.Register.{Readings, readings, of_year, on_day, is_read, all_read, sum_of, register_kwh, hour_table, with_reading, read_hour, unread}
use Rattle.meters.specs.Spans.{day_count}
use Rattle.meters.specs.Marking.{all_counted, each_marked, marked_here, marked_else, unmarked_above}
use Rattle.meters.specs.Readings.{forward, backward, each_read, one_more, told_all, silent_day}
use Rattle.meters.specs.Registers.{hours_between, in_place, unread_at}

module _ (r : Readings) where
  pub hour_by_hour : (d : ℕ) → Decides (is_read r d) ((of_year r.year d ≡ true) × ((h : ℕ) → h < hours_of d → marked (on_day r d) h ≡ true))
  hour_by_hour d =
      Decides-and (of_year r.year d) (all_marked (on_day r d) (hours_of d)) ((λ e. e), (λ e. e)) (each_marked (hours_of d) (on_day r d))

  told_where : (b : Bool) (x : ℕ) → is_some (cond b (Some x) None) ≡ b
  told_where true x = refl
  told_where false x = refl

  pub day_by_day : (a b : ℕ) → a ≤ b → Decides (is_some (register_kwh r a b)) ((d : ℕ) → a ≤ d → d ≤ b → is_read r d ≡ true)
  day_by_day a b h =
      let n = day_count a b in
      let from : ((k : ℕ) → k < n → is_read r (a + k) ≡ true) → (d : ℕ) → a ≤ d → d ≤ b → is_read r d ≡ true =
      λ all d low high. let at : a + (d - a) ≡ d = omega arith in ap (is_read r) (sym at) ∙ all (d - a) (omega arith) in
      let back : ((d : ℕ) → a ≤ d → d ≤ b → is_read r d ≡ true) → (k : ℕ) → k < n → is_read r (a + k) ≡ true =
      λ all k low. all (a + k) (omega arith) (omega arith) in
      Decides-at (is_some (register_kwh r a b)) (all_read r a n) (ap is_some (forward r a b h) ∙ told_where (all_read r a n) (sum_of r a n))
      (Decides-like (all_read r a n) from back (each_read r a n))

  pub one_day : (d : ℕ) → is_read r d ≡ true → register_kwh r d d ≡ Some (on_day r d).total
  one_day d e =
      let none : d - d ≡ 0 = omega arith in
      let kwh = (on_day r d).total in
      let start : (all_read r d (d - d) ≡ true) × (0 ≡ sum_of r d (d - d)) = (ap (all_read r d) none, ap (sum_of r d) (sym none)) in
      let so = one_more r d d 0 kwh (omega arith) start (sym (cond-true (is_read r d) (Some kwh) None e)) in
      sym (told_all r d d (0 + kwh) (omega arith) so) ∙ ap Some (omega arith)

-- a day without a reading is not read
unread-silent : (n : ℕ) → 0 < n → all_marked unread_day n ≡ false
unread-silent n some = all_counted n unread_day (pow_pos n) ∙ ne_eqb (ones 0) n (λ e. omega (arith, ones-le 0 0 (pow_pos 0)))

unread-not_read : (year d : ℕ) → is_read (unread year) d ≡ false
unfolding unread
unread-not_read year d =
    and_right (of_year year d) _
    (ap (λ x. all_marked x (hours_of d)) (unread_at 366 (d - new_year year)) ∙ unread-silent (hours_of d) (omega (arith, (hours_between d).0)))

pub silent_at_first : (year a b : ℕ) → register_kwh (unread year) a b ≡ None
silent_at_first year a b =
    ⊎_elim (backward (unread year) a b) (λ on. silent_day (unread year) a b a (omega arith) on (unread-not_read year a)) (cases_lt b a)

-- a refused call was not taken
refused : {X : Type 0} (e : Refusal) → ◌≡◌ {A = Result (Unit {0}) Refusal} (Err e) (Ok tt) → X
refused e taken = let z : ◌≡◌ {A = ℕ} 0 1 = cc in absurd (omega arith)

module _ (m : Register) where
  abbrev r : Readings
  r = readings m

  pub no_other_hour : (d h : ℕ) → of_year m.year d ≡ true → hours_of d ≤ h → marked (on_day r d) h ≡ false
  no_other_hour d h inside above =
      let place = d - new_year m.year in
      let at : new_year m.year + place ≡ d = omega (arith, (in_place m.year d inside).0) in
      let Within : ℕ → Type 0 = λ x. (on_day r d).marks < 2 ^ hours_of x in
      unmarked_above (hours_of d) h (on_day r d) (subst Within at (m.within place)) above

  module _ (day hour kwh : ℕ) where
    -- what stands for the day of a taken reading
    taken-day : not (of_year m.year day) ≡ false → on_day (with_reading day hour kwh r) day ≡ with_hour hour kwh (on_day r day)
    taken-day inside =
        let place = day - new_year m.year in
        let within : place < length m.days = omega (arith, (in_place m.year day (not-false (of_year m.year day) inside)).1, m.room) in
        get_or-set_same m.days place (with_hour hour kwh (on_day r day)) unread_day within

    pub on_taken : (read_hour day hour kwh r).0 ≡ Ok tt → on_day (read_hour day hour kwh r).1 day ≡ with_hour hour kwh (on_day r day)
    on_taken taken =
        answered
        (λ a s. a ≡ Ok tt → on_day s day ≡ with_hour hour kwh (on_day r day))
        r
        tt
        (with_reading day hour kwh r)
        refused
        (hour_table day hour kwh r)
        (λ none _. taken-day none.0)
        _
        _
        refl
        taken

    pub other_hours_stay : (h : ℕ) → (h ≡ hour → ⊥) → marked (on_day (read_hour day hour kwh r).1 day) h ≡ marked (on_day r day) h
    other_hours_stay h other =
        answered
        (λ _ s. marked (on_day s day) h ≡ marked (on_day r day) h)
        r
        tt
        (with_reading day hour kwh r)
        (λ _. refl)
        (hour_table day hour kwh r)
        (λ none. ap (λ d. marked d h) (taken-day none.0) ∙ marked_else hour kwh h (on_day r day) other)
        _
        _
        refl

    pub hour_taken : (read_hour day hour kwh r).0 ≡ Ok tt → marked (on_day (read_hour day hour kwh r).1 day) hour ≡ true
    hour_taken taken = ap (λ d. marked d hour) (on_taken taken) ∙ marked_here hour kwh (on_day r day)

    pub kwh_added : (read_hour day hour kwh r).0 ≡ Ok tt → (on_day (read_hour day hour kwh r).1 day).total ≡ (on_day r day).total + kwh
    kwh_added taken = ap (λ d. d.total) (on_taken taken)

pub other_days_stay : (r : Readings) (day hour kwh d : ℕ) → of_year r.year d ≡ true → (d ≡ day → ⊥) → on_day (read_hour day hour kwh r).1 d ≡ on_day r d
other_days_stay r day hour kwh d inside other =
    answered
    (λ _ s. on_day s d ≡ on_day r d)
    r
    tt
    (with_reading day hour kwh r)
    (λ _. refl)
    (hour_table day hour kwh r)
    (λ none.
    let p = in_place r.year d inside in
    let q = in_place r.year day (not-false (of_year r.year day) none.0) in
    let apart : (d - new_year r.year) ≢ (day - new_year r.year) = λ e. other (omega arith) in
    get_or-set_other r.days (day - new_year r.year) (d - new_year r.year) (with_hour hour kwh (on_day r day)) unread_day apart)
    _
    _
    refl
