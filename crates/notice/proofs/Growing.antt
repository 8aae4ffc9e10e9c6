-- One record more in a table.
use Rattle.std.proofs.Common.{◌≡◌, ℕ, ◌-◌, ◌<◌, Bool, true, false, cond, List, [], ◌∷◌, ◌++◌, length, get_or, Some, None, MatchOption, unwrap_or, Option, sym, ap, ◌∙◌, subst, arith}
use Rattle.std.specs.Option.{ForSome}
use Rattle.std.proofs.lemmas.Option.{slice_get-get_or, unwrap_or-slice_get}
use Rattle.lookup.specs.Order.{Rising}
use Rattle.lookup.proofs.Keeping.{rising_push}
use Rattle.notice.specs.Tabled.{last_of}

module _ {T : Type 0} (key : T → ℕ) (xs : List T) (x : T) where
  -- after a push, whether there was memory or not
  pub rises_kept : Rising key xs → (ys : List T) (done : Bool) → ys ≡ cond done (xs ++ x ∷ []) xs → ForSome (last_of xs) (λ last. key last < key x) → Rising key ys
  rises_kept rises ys true is later =
      subst (λ (zs : List T). Rising key zs) (sym is) (rising_push key xs x rises (λ d some. later (get_or xs (length xs - 1) d) (slice_get-get_or xs (length xs - 1) d (omega arith))))
  rises_kept rises ys false is later = subst (λ (zs : List T). Rising key zs) (sym is) rises

-- the date of the last record, or that of `z`, which is 0
pub date_of_last : {T : Type 0} (date : T → ℕ) (xs : List T) (z : T) (o : Option T) (n : ℕ) (Gives : T → Type 0) → date z ≡ 0 → o ≡ last_of xs → MatchOption o (n ≡ 0) Gives → ((x : T) → Gives x → n ≡ date x) → n ≡ date (get_or xs (length xs - 1) z)
date_of_last {T} date xs z o n Gives zero is given says = read o given ∙ ap date (ap (λ (p : Option T). unwrap_or p z) is ∙ unwrap_or-slice_get xs (length xs - 1) z)
  where
    read : (p : Option T) → MatchOption p (n ≡ 0) Gives → n ≡ date (unwrap_or p z)
    read None none = none ∙ sym zero
    read (Some x) gives = says x gives
