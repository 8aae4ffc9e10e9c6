-- Quotas whose days rise: what holds of one more, of each day, and of those that are forgotten.
use Rattle.std.proofs.Common.{◌≡◌, ℕ, zero, suc, ◌+◌, ◌-◌, ◌<◌, ◌≤◌, Bool, true, false, cond, ◌||◌, leb, List, [], ◌∷◌, ◌++◌, length, get_or, take, drop, Some, None, fold, filter, Option, sym, refl, ap, ◌∙◌, ⊎_elim, arith}
use Rattle.std.specs.List.{AllByRecursion}
use Rattle.std.proofs.ByRecursion.{All-from_get_or, All-weaker}
use Rattle.std.proofs.lemmas.List.{take_all}
use Rattle.std.proofs.lemmas.List.Kept.{AllPairs-filter}
use Rattle.std.proofs.lemmas.List.Sums.{fold_more, fold_push}
use Rattle.std.proofs.lemmas.Bool.{cases_lt, cases_Bool, le-leb, lt-leb, leb-true, or_cases, or_parts, or_from, or_left, or_right, false≢true, both_ways, cond-true, cond-false, cond_both}
use Rattle.sources.specs.declared.figures.QuotaFrom.{QuotaFrom}
use Rattle.sources.specs.Figures.{holding, begun_by, unreplaced, day_at, last_day, DaysRise}
use Rattle.sources.specs.Lists.{from_on}
use Rattle.lookup.specs.Order.{first_with}
use Rattle.sources.proofs.Items.{all_pairs_more, all_pairs_head, all_pairs_tail, first_none}

-- what stands past the end
abbrev pub no_quota : QuotaFrom
no_quota = record { from = 0; quota = 0 }

-- one quota holds from an earlier day than another
abbrev pub Earlier : QuotaFrom → QuotaFrom → Type 0
Earlier p q = p.from < q.from

-- the day from which a quota holds; 0, before every day, where none does
abbrev pub since : Option QuotaFrom → ℕ
since None = 0
since (Some q) = q.from

-- what holds on a day, as a quota comes that was told later
abbrev later-told : ℕ → Option QuotaFrom → QuotaFrom → Option QuotaFrom
later-told d o q = cond (leb q.from d) (Some q) o

-- no day is later than the last
pub up_to_last : (qs : List QuotaFrom) → DaysRise qs → (j : ℕ) → j < length qs → day_at qs j ≤ last_day qs
up_to_last qs rising j h =
    ⊎_elim
    (λ (below : j < length qs - 1). omega (arith, rising j (length qs - 1) no_quota below (omega arith)))
    (λ (above : length qs - 1 ≤ j). let e : j ≡ length qs - 1 = omega arith in omega (arith, ap (day_at qs) e))
    (cases_lt j (length qs - 1))

-- a quota from a later day keeps the days rising
pub rising_push : (qs : List QuotaFrom) (q : QuotaFrom) → DaysRise qs → last_day qs < q.from → DaysRise (qs ++ q ∷ [])
rising_push qs q rising later =
    all_pairs_more Earlier qs q rising (All-from_get_or (λ p. p.from < q.from) qs no_quota (λ i h. omega (arith, up_to_last qs rising i h)))

-- no quota is of a day after the last
pub new_day : (qs : List QuotaFrom) (d : ℕ) → DaysRise qs → last_day qs < d → first_with (λ q. q.from) d qs ≡ None
new_day qs d rising later =
    first_none (λ q. q.from) qs d (All-from_get_or (λ q. q.from ≡ d → ⊥) qs no_quota (λ i h e. omega (arith, up_to_last qs rising i h)))

-- the quotas from a day on have days that rise
pub rising_kept : (qs : List QuotaFrom) (d : ℕ) → DaysRise qs → DaysRise (from_on (λ q. q.from) d qs)
rising_kept qs d rising = AllPairs-filter Earlier (λ q. leb d q.from) qs rising

-- one more quota holds from its day on
pub holding_push : (qs : List QuotaFrom) (q : QuotaFrom) (d : ℕ) → holding (qs ++ q ∷ []) d ≡ cond (leb q.from d) (Some q) (holding qs d)
holding_push qs q d = fold_push (later-told d) None qs q

-- the answer of the first places, one place on
holding_more : (qs : List QuotaFrom) (d i : ℕ) → i < length qs → holding (take (i + 1) qs) d ≡ cond (leb (day_at qs i) d) (Some (get_or qs i no_quota)) (holding (take i qs) d)
holding_more qs d i h = fold_more (later-told d) None qs i no_quota h

-- quotas from days after d change nothing on d
later_stay : (qs : List QuotaFrom) (d k n : ℕ) → k + n ≤ length qs → ((i : ℕ) → k ≤ i → i < k + n → d < day_at qs i) → holding (take (k + n) qs) d ≡ holding (take k qs) d
later_stay qs d k zero h after = ap (λ i. holding (take i qs) d) (omega arith)
later_stay qs d k (suc n) h after =
    let e : k + suc n ≡ (k + n) + 1 = omega arith in
    ap (λ i. holding (take i qs) d) e
    ∙ holding_more qs d (k + n) (omega arith)
    ∙ cond-false _ _ _ (lt-leb _ _ (after (k + n) (omega arith) (omega arith)))
    ∙ later_stay qs d k n (omega arith) (λ i low high. after i low (omega arith))

-- on a day before that of each quota from the k-th on, the first k say it
before_rest : (qs : List QuotaFrom) (d k : ℕ) → DaysRise qs → k ≤ length qs → (k < length qs → d < day_at qs k) → holding qs d ≡ holding (take k qs) d
before_rest qs d k rising h before =
    let e : k + (length qs - k) ≡ length qs = omega arith in
    ap (λ xs. holding xs d) (sym (take_all (k + (length qs - k)) qs (omega arith)))
    ∙ later_stay qs d k (length qs - k) (omega arith) (λ i low high.
    ⊎_elim
    (λ (at : k < i). omega (arith, rising k i no_quota at (omega arith), before (omega arith)))
    (λ (past : i ≤ k). let same : k ≡ i = omega arith in omega (arith, ap (day_at qs) same, before (omega arith)))
    (cases_lt k i))

-- before the first day there is silence
pub silent-before : (qs : List QuotaFrom) (d : ℕ) → DaysRise qs → (0 < length qs → d < day_at qs 0) → holding qs d ≡ None
silent-before qs d rising before = before_rest qs d 0 rising (omega arith) before

-- a quota holds from its day until the day before the next one's
pub holds_until_next : (qs : List QuotaFrom) (k d : ℕ) → DaysRise qs → k < length qs → day_at qs k ≤ d → (k + 1 < length qs → d < day_at qs (k + 1)) → holding qs d ≡ Some (get_or qs k no_quota)
holds_until_next qs k d rising h from before =
    before_rest qs d (k + 1) rising (omega arith) before
    ∙ holding_more qs d k h
    ∙ cond-true _ _ _ (le-leb _ _ from)

-- what holds is among the others, where one of them has begun, or else it was there before
either : {X : Type 0} (s b : Bool) (among first start none : X) → cond b among (cond s first start) ≡ cond (s || b) (cond b among (cond s first none)) start
either true true among first start none = refl
either true false among first start none = refl
either false true among first start none = refl
either false false among first start none = refl

holding-after : (d : ℕ) (o : Option QuotaFrom) (qs : List QuotaFrom) → fold (later-told d) o qs ≡ cond (begun_by d qs) (holding qs d) o
holding-after d o [] = refl
holding-after d o (q ∷ qs) =
    holding-after d (later-told d o q) qs
    ∙ either (leb q.from d) (begun_by d qs) (holding qs d) (Some q) o None
    ∙ ap (λ held. cond (leb q.from d || begun_by d qs) held o) (sym (holding-after d (later-told d None q) qs))

-- the first quota holds where none of the others has begun
others_hold : (q : QuotaFrom) (qs : List QuotaFrom) (d : ℕ) → begun_by d qs ≡ true → holding (q ∷ qs) d ≡ holding qs d
others_hold q qs d begun = holding-after d (later-told d None q) qs ∙ cond-true _ _ _ begun

first_holds : (q : QuotaFrom) (qs : List QuotaFrom) (d : ℕ) → begun_by d qs ≡ false → holding (q ∷ qs) d ≡ later-told d None q
first_holds q qs d none = holding-after d (later-told d None q) qs ∙ cond-false _ _ _ none

-- what has begun by a day has begun by a later one
begun-later : (qs : List QuotaFrom) (d e : ℕ) → d ≤ e → begun_by d qs ≡ true → begun_by e qs ≡ true
begun-later [] d e h begun = absurd (false≢true begun)
begun-later (q ∷ qs) d e h begun =
    ⊎_elim
    (λ (its : leb q.from d ≡ true). or_left _ _ (le-leb q.from e (omega (arith, leb-true q.from d its))))
    (λ (others : begun_by d qs ≡ true). or_right _ _ (begun-later qs d e h others))
    (or_cases (leb q.from d) (begun_by d qs) begun)

-- where none has begun none is replaced
none_replaced : (qs : List QuotaFrom) (d : ℕ) → begun_by d qs ≡ false → unreplaced d qs ≡ qs
none_replaced [] d none = refl
none_replaced (q ∷ qs) d none =
    let rest = (or_parts (leb q.from d) (begun_by d qs) none).1 in
    cond-false _ _ _ rest ∙ ap (λ xs. q ∷ xs) (none_replaced qs d rest)

-- the first quota goes, or all stay
first_goes : (q : QuotaFrom) (qs : List QuotaFrom) (d : ℕ) → begun_by d qs ≡ true → unreplaced d (q ∷ qs) ≡ unreplaced d qs
first_goes q qs d begun = cond-true _ _ _ begun

all_stay : (q : QuotaFrom) (qs : List QuotaFrom) (d : ℕ) → begun_by d qs ≡ false → unreplaced d (q ∷ qs) ≡ q ∷ qs
all_stay q qs d none = cond-false _ _ _ none ∙ ap (λ xs. q ∷ xs) (none_replaced qs d none)

-- from the day on what holds is as before
pub holding_stays : (qs : List QuotaFrom) (d e : ℕ) → d ≤ e → holding (unreplaced d qs) e ≡ holding qs e
holding_stays [] d e h = refl
holding_stays (q ∷ qs) d e h =
    ⊎_elim
    (λ (begun : begun_by d qs ≡ true).
    ap (λ xs. holding xs e) (first_goes q qs d begun) ∙ holding_stays qs d e h ∙ sym (others_hold q qs e (begun-later qs d e h begun)))
    (λ (none : begun_by d qs ≡ false). ap (λ xs. holding xs e) (all_stay q qs d none))
    (cases_Bool (begun_by d qs))

-- what holds is later than a day before all
after_all : (qs : List QuotaFrom) (d a : ℕ) → begun_by d qs ≡ true → AllByRecursion (λ p. a < p.from) qs → a < since (holding qs d)
after_all [] d a begun later = absurd (false≢true begun)
after_all (q ∷ qs) d a begun later =
    ⊎_elim
    (λ (others : begun_by d qs ≡ true). rw (others_hold q qs d others) (after_all qs d a others later.1))
    (λ (none : begun_by d qs ≡ false).
    ⊎_elim
    (λ (its : leb q.from d ≡ true). rw (first_holds q qs d none, its) later.0)
    (λ (others : begun_by d qs ≡ true). absurd (both_ways _ none others))
    (or_cases (leb q.from d) (begun_by d qs) begun))
    (cases_Bool (begun_by d qs))

-- what the first quota holds since is no later than its day
since-first : (d : ℕ) (q : QuotaFrom) → since (later-told d None q) ≤ q.from
since-first d q = cond_both (leb q.from d) (Some q) None (λ o. since o ≤ q.from) (λ _. omega arith) (λ _. omega arith)

-- where all pass, all are kept
kept_all : {X : Type 0} (p : X → Bool) (xs : List X) → AllByRecursion (λ x. p x ≡ true) xs → filter p xs ≡ xs
kept_all p [] pass = refl
kept_all p (x ∷ xs) pass = cond-true _ _ _ pass.0 ∙ ap (λ ys. x ∷ ys) (kept_all p xs pass.1)

-- no day is before day 0
from_zero : (qs : List QuotaFrom) → AllByRecursion (λ p. leb 0 p.from ≡ true) qs
from_zero [] = tt
from_zero (q ∷ qs) = (le-leb 0 q.from (omega arith), from_zero qs)

-- the quotas from the one on that holds on a day are those that none replaces by then
pub kept-since : (qs : List QuotaFrom) (d : ℕ) → DaysRise qs → from_on (λ q. q.from) (since (holding qs d)) qs ≡ unreplaced d qs
kept-since [] d rising = refl
kept-since (q ∷ qs) d rising =
    let later = all_pairs_head Earlier q qs rising in
    let kept_from : Option QuotaFrom → List QuotaFrom = λ held. from_on (λ p. p.from) (since held) (q ∷ qs) in
    ⊎_elim
    (λ (begun : begun_by d qs ≡ true).
    ap kept_from (others_hold q qs d begun)
    ∙ cond-false _ _ _ (lt-leb _ _ (after_all qs d q.from begun later))
    ∙ kept-since qs d (all_pairs_tail Earlier q qs rising)
    ∙ sym (first_goes q qs d begun))
    (λ (none : begun_by d qs ≡ false).
    let low = since-first d q in
    ap kept_from (first_holds q qs d none)
    ∙ kept_all (λ p. leb (since (later-told d None q)) p.from) (q ∷ qs)
    (le-leb _ _ low, All-weaker (λ p. q.from < p.from) (λ p. leb (since (later-told d None q)) p.from ≡ true) (λ p h. le-leb (since (later-told d None q)) p.from (omega arith)) qs later)
    ∙ sym (all_stay q qs d none))
    (cases_Bool (begun_by d qs))

-- where one holds, those from its day on
pub held_kept : (qs : List QuotaFrom) (d : ℕ) (q : QuotaFrom) → DaysRise qs → Some q ≡ holding qs d → from_on (λ p. p.from) q.from qs ≡ unreplaced d qs
held_kept qs d q rising held = ap (λ o. from_on (λ p. p.from) (since o) qs) held ∙ kept-since qs d rising

-- where none holds, all
pub none_held : (qs : List QuotaFrom) (d : ℕ) → DaysRise qs → None ≡ holding qs d → qs ≡ unreplaced d qs
none_held qs d rising held =
    sym (kept_all (λ p. leb 0 p.from) qs (from_zero qs)) ∙ ap (λ o. from_on (λ p. p.from) (since o) qs) held ∙ kept-since qs d rising

-- the quotas that stay are no more than there were
pub length-unreplaced : (qs : List QuotaFrom) (d : ℕ) → length (unreplaced d qs) ≤ length qs
length-unreplaced [] d = omega arith
length-unreplaced (q ∷ qs) d =
    let rest = length-unreplaced qs d in
    cond_both (begun_by d qs) (unreplaced d qs) (q ∷ unreplaced d qs) (λ xs. length xs ≤ length (q ∷ qs)) (λ _. omega arith) (λ _. omega arith)

-- one of them begins by the day
begun-at : (qs : List QuotaFrom) (k d : ℕ) → k < length qs → day_at qs k ≤ d → begun_by d qs ≡ true
begun-at [] k d h from = absurd (omega arith)
begun-at (q ∷ qs) zero d h from = or_left _ _ (le-leb q.from d from)
begun-at (q ∷ qs) (suc k) d h from = or_right _ _ (begun-at qs k d (omega arith) from)

-- what has begun is there
some_begun : (qs : List QuotaFrom) (d : ℕ) → begun_by d qs ≡ true → 0 < length qs
some_begun [] d begun = absurd (false≢true begun)
some_begun (q ∷ qs) d begun = omega arith

-- where the first does not, none does
none_begun : (qs : List QuotaFrom) (d : ℕ) → DaysRise qs → (0 < length qs → d < day_at qs 0) → begun_by d qs ≡ false
none_begun [] d rising before = refl
none_begun (q ∷ qs) d rising before =
    or_from _ _ (lt-leb q.from d (before (omega arith)))
    (none_begun qs d (all_pairs_tail Earlier q qs rising) (λ h. omega (arith, before (omega arith), rising 0 1 no_quota (omega arith) (omega arith))))

-- where none holds on a day, none is replaced by then
pub unreplaced-before : (qs : List QuotaFrom) (d : ℕ) → DaysRise qs → (0 < length qs → d < day_at qs 0) → unreplaced d qs ≡ qs
unreplaced-before qs d rising before = none_replaced qs d (none_begun qs d rising before)

-- the quota that holds on a day is the first of those that stay
pub unreplaced-at : (qs : List QuotaFrom) (k d : ℕ) → DaysRise qs → k < length qs → day_at qs k ≤ d → (k + 1 < length qs → d < day_at qs (k + 1)) → unreplaced d qs ≡ drop k qs
unreplaced-at [] k d rising h from before = absurd (omega arith)
unreplaced-at (q ∷ qs) zero d rising h from before =
    all_stay q qs d (none_begun qs d (all_pairs_tail Earlier q qs rising) (λ more. before (omega arith)))
unreplaced-at (q ∷ qs) (suc k) d rising h from before =
    first_goes q qs d (begun-at qs k d (omega arith) from)
    ∙ unreplaced-at qs k d (all_pairs_tail Earlier q qs rising) (omega arith) from (λ more. let e : suc k + 1 ≡ suc (k + 1) = omega arith in omega (arith, ap (day_at (q ∷ qs)) e, before (omega arith)))

-- where a later one begins by the day, there is room
pub room_again : (qs : List QuotaFrom) (k d : ℕ) → 0 < k → k < length qs → day_at qs k ≤ d → length (unreplaced d qs) < length qs
room_again [] k d low h from = absurd (omega arith)
room_again (q ∷ qs) zero d low h from = absurd (omega arith)
room_again (q ∷ qs) (suc k) d low h from =
    rw (first_goes q qs d (begun-at qs k d (omega arith) from)) (omega (arith, length-unreplaced qs d))

-- the day of the last quota is that of the others' last, where there are others
last_of_others : (q : QuotaFrom) (qs : List QuotaFrom) → 0 < length qs → last_day (q ∷ qs) ≡ last_day qs
last_of_others q [] h = absurd (omega arith)
last_of_others q (p ∷ ps) h = let e : length (q ∷ p ∷ ps) - 1 ≡ suc (length (p ∷ ps) - 1) = omega arith in ap (day_at (q ∷ p ∷ ps)) e

-- the last quota stays
pub last-unreplaced : (qs : List QuotaFrom) (d : ℕ) → last_day (unreplaced d qs) ≡ last_day qs
last-unreplaced [] d = refl
last-unreplaced (q ∷ qs) d =
    ⊎_elim
    (λ (begun : begun_by d qs ≡ true). ap last_day (first_goes q qs d begun) ∙ last-unreplaced qs d ∙ sym (last_of_others q qs (some_begun qs d begun)))
    (λ (none : begun_by d qs ≡ false). ap last_day (all_stay q qs d none))
    (cases_Bool (begun_by d qs))
