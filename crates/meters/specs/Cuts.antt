-- What is told of a span is told of its parts, for any meaning that adds up.
use Rattle.std.specs.Prelude.{◌≡◌, ℕ, ◌+◌, ◌<◌, ◌≤◌, List, [], ◌∷◌, Some, None, Option, refl}
use Rattle.std.proofs.Common.{sym, ap, ◌∙◌, arith}
use Rattle.std.proofs.lemmas.List.Sums.{sum_by-cons}
use Rattle.meters.specs.Spans.{plus, told, Additive, Covers, AddUp}

pub plus_none : (x : Option ℕ) → plus x None ≡ None
plus_none None = refl
plus_none (Some x) = refl

-- a sum is told only where both parts are
pub plus_told : (x y : Option ℕ) (k : ℕ) → plus x y ≡ Some k → (x ≡ Some (told x)) × (y ≡ Some (told y)) × (told x + told y ≡ k)
plus_told None y k e = let z : ◌≡◌ {A = ℕ} 0 1 = cc in absurd (omega arith)
plus_told (Some x) None k e = let z : ◌≡◌ {A = ℕ} 0 1 = cc in absurd (omega arith)
plus_told (Some x) (Some y) k e = (refl, refl, cc)

module _ (means : ℕ → ℕ → Option ℕ) (additive : Additive means) where
  -- a told span, cut after the day b, has both its parts told, and they add up to it
  pub cut_told : (a b c k : ℕ) → a ≤ b → b < c → means a c ≡ Some k → (means a b ≡ Some (told (means a b))) × (means (b + 1) c ≡ Some (told (means (b + 1) c))) × (told (means a b) + told (means (b + 1) c) ≡ k)
  cut_told a b c k h l e = plus_told (means a b) (means (b + 1) c) k (sym (additive a b c h l) ∙ e)

  -- a span is silent where its first part is, and where its last part is
  pub first_silent : (a b c : ℕ) → a ≤ b → b < c → means a b ≡ None → means a c ≡ None
  first_silent a b c h l e = additive a b c h l ∙ ap (λ x. plus x (means (b + 1) c)) e

  pub last_silent : (a b c : ℕ) → a ≤ b → b < c → means (b + 1) c ≡ None → means a c ≡ None
  last_silent a b c h l e = additive a b c h l ∙ ap (plus (means a b)) e ∙ plus_none (means a b)

  -- a told span has each span of a cover told, and they add up to it
  pub covers_told : (spans : List (ℕ × ℕ)) (a c k : ℕ) → Covers a c spans → means a c ≡ Some k → AddUp means spans k
  covers_told [] a c k cover e = absurd cover
  covers_told (s ∷ []) a c k cover e =
      let whole : means s.0 s.1 ≡ Some k = ap (λ x. means x s.1) cover.0 ∙ ap (means a) cover.1 ∙ e in
      let it : told (means s.0 s.1) ≡ k = ap told whole in
      ((whole ∙ ap Some (sym it), tt), sum_by-cons (λ (s : ℕ × ℕ). told (means s.0 s.1)) s [] ∙ omega arith)
  covers_told (s ∷ (t ∷ rest)) a c k cover e =
      let cut = cut_told a s.1 c k cover.1 cover.2 e in
      let here : means s.0 s.1 ≡ means a s.1 = ap (λ x. means x s.1) cover.0 in
      let later = covers_told (t ∷ rest) (s.1 + 1) c (told (means (s.1 + 1) c)) cover.3 cut.1 in
      let first : means s.0 s.1 ≡ Some (told (means s.0 s.1)) = here ∙ cut.0 ∙ ap (λ x. Some (told x)) (sym here) in
      ((first, later.0), sum_by-cons (λ (s : ℕ × ℕ). told (means s.0 s.1)) s (t ∷ rest) ∙ omega (arith, ap told here, later.1, cut.2))
