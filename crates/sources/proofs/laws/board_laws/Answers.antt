use Rattle.std.proofs.Common.{◌≡◌, ℕ, ◌≤◌, length, drop, is_some, Some, None, Ok, refl, ap, ◌∙◌, arith, rules}
use Rattle.std.specs.Option.{option_map}
use Rattle.calendar.specs.Days.{new_year, month_number}
use Rattle.sources.specs.Figures.{quota_on, price_of, pair_of, last_day}
use Rattle.std.proofs.ByRecursion.{All-from_get_or}
use Rattle.std.proofs.lemmas.Bool.{le-leb, lt-leb, cond-true, cond-false, or_parts, or_from, not_from_true, and_from}
use Rattle.sources.specs.declared.figures.QuotaFrom.{QuotaFrom}
use Rattle.sources.specs.declared.figures.MonthPrice.{MonthPrice}
use Rattle.sources.specs.declared.figures.FinalPair.{FinalPair}
use Rattle.sources.specs.declared.figures.YearFigures.{YearFigures}
use Rattle.sources.specs.Board.{figures, quota_table, price_table, final_table, forget_table, tell_quota, tell_price, tell_final, with_quota, with_price, with_pair, known_from}
use Rattle.sources.specs.Laws.{BoardLaws, TellingLaws, ForgettingLaws}
use Rattle.sources.proofs.Items.{first-at, first_none, first_push, first_push_other, first-from_on, first_below, none_with, length-from_on, room_below}
use Rattle.sources.proofs.Quotas.{holds_until_next, silent-before, holding_push, holding_stays, unreplaced-at, unreplaced-before, last-unreplaced, length-unreplaced, room_again}
use Rattle.sources.proofs.Tables.{if_taken, either_way, taken_where}
use Rattle.sources.proofs.laws.board_laws.Goals as goal

-- the readings of an item
abbrev the_quota : QuotaFrom → ℕ
the_quota q = q.quota

abbrev the_price : MonthPrice → ℕ
the_price p = p.price

abbrev the_pair : FinalPair → YearFigures
the_pair p = p.figures

board : BoardLaws
board = record {
  until_next = λ b k d h from before. ap (option_map the_quota) (holds_until_next (figures b).quotas k d b.rising h from before);
  before_first = λ b d before. ap (option_map the_quota) (silent-before (figures b).quotas d b.rising before);
  of_its_month = λ b k h. ap (option_map the_price) (first-at (λ p. p.month) (figures b).prices b.prices.once k (record { month = 0; price = 0 }) h);
  untold_month = λ b m none_of. ap (option_map the_price) (first_none (λ p. p.month) (figures b).prices m (All-from_get_or (λ p. p.month ≡ m → ⊥) (figures b).prices (record { month = 0; price = 0 }) none_of));
  of_its_year = λ b k d h. ap (option_map the_pair) (first-at (λ p. p.year) (figures b).pairs b.pairs.once k d h);
  untold_year = λ b y d none_of. ap (option_map the_pair) (first_none (λ p. p.year) (figures b).pairs y (All-from_get_or (λ p. p.year ≡ y → ⊥) (figures b).pairs d none_of));
}

telling : TellingLaws
telling = record {
  quota_taken = λ f day quota d taken from.
      let q : QuotaFrom = record { from = day; quota = quota } in
      if_taken (λ g. quota_on g.quotas d ≡ Some quota) (quota_table day quota f) f (with_quota q f) (λ _. ap (option_map the_quota) (holding_push f.quotas q d ∙ cond-true _ _ _ (le-leb _ _ from))) taken;
  earlier_days_stay = λ f day quota d before.
      let q : QuotaFrom = record { from = day; quota = quota } in
      either_way (λ g. quota_on g.quotas d ≡ quota_on f.quotas d) (quota_table day quota f) f (with_quota q f) refl (λ _. ap (option_map the_quota) (holding_push f.quotas q d ∙ cond-false _ _ _ (lt-leb _ _ before)));
  price_taken = λ f month price taken.
      let p : MonthPrice = record { month = month; price = price } in
      if_taken (λ g. price_of g.prices month ≡ Some price) (price_table month price f) f (with_price p f) (λ none. ap (option_map the_price) (first_push (λ p. p.month) f.prices p (none_with (λ p. p.month) the_price f.prices month (or_parts _ _ none.1.1.0).1))) taken;
  other_months_stay = λ f month price m other.
      let p : MonthPrice = record { month = month; price = price } in
      either_way (λ g. price_of g.prices m ≡ price_of f.prices m) (price_table month price f) f (with_price p f) refl (λ _. ap (option_map the_price) (first_push_other (λ p. p.month) f.prices p m other));
  pair_taken = λ f year quota price taken.
      let p : FinalPair = record { year = year; figures = record { quota = quota; price = price } } in
      if_taken (λ g. pair_of g.pairs year ≡ Some p.figures) (final_table year quota price f) f (with_pair p f) (λ none. ap (option_map the_pair) (first_push (λ p. p.year) f.pairs p (none_with (λ p. p.year) the_pair f.pairs year (or_parts _ _ none.1.1.0).1))) taken;
  other_years_stay = λ f year quota price y other.
      let p : FinalPair = record { year = year; figures = record { quota = quota; price = price } } in
      either_way (λ g. pair_of g.pairs y ≡ pair_of f.pairs y) (final_table year quota price f) f (with_pair p f) refl (λ _. ap (option_map the_pair) (first_push_other (λ p. p.year) f.pairs p y other));
  in_order = λ f n quota price. search rules;
}

forgetting : ForgettingLaws
forgetting = record {
  later_days_stay = λ f year d from.
      either_way (λ g. quota_on g.quotas d ≡ quota_on f.quotas d) (forget_table year) f (known_from year f) refl (λ _. ap (option_map the_quota) (holding_stays f.quotas (new_year year) d from));
  later_months_stay = λ f year m from.
      either_way (λ g. price_of g.prices m ≡ price_of f.prices m) (forget_table year) f (known_from year f) refl (λ _. ap (option_map the_price) (first-from_on (λ p. p.month) f.prices (month_number year 1) m from));
  later_years_stay = λ f year y from.
      either_way (λ g. pair_of g.pairs y ≡ pair_of f.pairs y) (forget_table year) f (known_from year f) refl (λ _. ap (option_map the_pair) (first-from_on (λ p. p.year) f.pairs year y from));
  earlier_months_silent = λ f year m taken before.
      if_taken (λ g. price_of g.prices m ≡ None) (forget_table year) f (known_from year f) (λ _. ap (option_map the_price) (first_below (λ p. p.month) f.prices (month_number year 1) m before)) taken;
  earlier_years_silent = λ f year y taken before.
      if_taken (λ g. pair_of g.pairs y ≡ None) (forget_table year) f (known_from year f) (λ _. ap (option_map the_pair) (first_below (λ p. p.year) f.pairs year y before)) taken;
  first_kept = λ b year k taken h from before.
      let qs = (figures b).quotas in
      if_taken (λ g. g.quotas ≡ drop k qs) (forget_table year) (figures b) (known_from year (figures b)) (λ _. unreplaced-at qs k (new_year year) b.rising h from before) taken;
  none_dropped = λ b year before.
      let qs = (figures b).quotas in
      either_way (λ g. g.quotas ≡ qs) (forget_table year) (figures b) (known_from year (figures b)) refl (λ _. unreplaced-before qs (new_year year) b.rising before);
  last_stays = λ f year.
      either_way (λ g. last_day g.quotas ≡ last_day f.quotas) (forget_table year) f (known_from year f) refl (λ _. last-unreplaced f.quotas (new_year year));
  never_more = λ f year.
      either_way (λ g. (length g.quotas ≤ length f.quotas) × (length g.prices ≤ length f.prices) × (length g.pairs ≤ length f.pairs)) (forget_table year) f (known_from year f)
      (omega arith, omega arith, omega arith)
      (λ _. (length-unreplaced f.quotas (new_year year), length-from_on (λ p. p.month) f.prices (month_number year 1), length-from_on (λ p. p.year) f.pairs year));
  quota_again = λ b year k day quota taken low h from is-a-day lawful later.
      let g = known_from year (figures b) in
      if_taken (λ f. (tell_quota day quota f).0 ≡ Ok tt) (forget_table year) (figures b) g
      (λ _. ap (λ o. o.0) (taken_where (quota_table day quota g) g (with_quota (record { from = day; quota = quota }) g) (
        not_from_true _ is-a-day,
        (
          lt-leb 16 (length g.quotas) (omega (arith, b.quotas.fits, room_again (figures b).quotas k (new_year year) low h from)),
          (or_from _ _ (not_from_true _ lawful) (lt-leb day (last_day g.quotas) (omega (arith, last-unreplaced (figures b).quotas (new_year year)))), tt),
        ),
      )))
      taken;
  month_again = λ b year month price taken before there is-a-month lawful.
      let g = known_from year (figures b) in
      let january = month_number year 1 in
      if_taken (λ f. (tell_price month price f).0 ≡ Ok tt) (forget_table year) (figures b) g
      (λ _. ap (λ o. o.0) (taken_where (price_table month price g) g (with_price (record { month = month; price = price }) g) (
        not_from_true _ is-a-month,
        (
          lt-leb 48 (length g.prices) (omega (arith, b.prices.fits, room_below (λ p. p.month) the_price (figures b).prices january month before there)),
          (or_from _ _ (not_from_true _ lawful) (ap (λ o. is_some (option_map the_price o)) (first_below (λ p. p.month) (figures b).prices january month before)), tt),
        ),
      )))
      taken;
  year_again = λ b year y quota price taken before there is-a-year lawful lawful-too.
      let g = known_from year (figures b) in
      if_taken (λ f. (tell_final y quota price f).0 ≡ Ok tt) (forget_table year) (figures b) g
      (λ _. ap (λ o. o.0) (taken_where (final_table y quota price g) g (with_pair (record { year = y; figures = record { quota = quota; price = price } }) g) (
        not_from_true _ is-a-year,
        (
          lt-leb 8 (length g.pairs) (omega (arith, b.pairs.fits, room_below (λ p. p.year) the_pair (figures b).pairs year y before there)),
          (or_from _ _ (not_from_true _ (and_from _ _ lawful lawful-too)) (ap (λ o. is_some (option_map the_pair o)) (first_below (λ p. p.year) (figures b).pairs year y before)), tt),
        ),
      )))
      taken;
}

pub returns : goal.returns
returns c = record { says = board; told = telling; forgotten = forgetting }
