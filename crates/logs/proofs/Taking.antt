-- A log, taken line by line.
use Rattle.std.proofs.Common.{◌≡◌, ℕ, ◌+◌, ◌-◌, ◌<◌, ◌≤◌, cond, eqb, List, [], ◌∷◌, ◌++◌, length, get_or, take, drop, sym, refl, ap, ◌∙◌, append_assoc, arith}
use Rattle.std.proofs.lemmas.List.{append-nil, drop_all, drop_more, take_all, take_more}
use Rattle.std.proofs.lemmas.Bool.{cond-false, ne_eqb}
use Rattle.logs.specs.Logs.{first_lines}

-- the first lines, when one byte more was taken
pub byte_more : (t total : List ℕ) (i n m : ℕ) → i < length t → (n ≡ 0 → ⊥) → m ≡ cond (eqb (get_or t i 0) 10) (n - 1) n → take i t ++ first_lines n (drop i t) ≡ total → take (i + 1) t ++ first_lines m (drop (i + 1) t) ≡ total
unfolding first_lines
byte_more t total i n m h some next so_far =
    let x = get_or t i 0 in
    let rest = drop (i + 1) t in
    let step : first_lines n (drop i t) ≡ x ∷ first_lines m rest
    = ap (first_lines n) (drop_more t i 0 h) ∙ cond-false _ _ _ (ne_eqb n 0 some) ∙ ap (λ k. x ∷ first_lines k rest) (sym next) in
    ap (λ u. u ++ first_lines m rest) (take_more t i 0 h)
    ∙ append_assoc (take i t) (x ∷ []) (first_lines m rest)
    ∙ ap (λ u. take i t ++ u) (sym step)
    ∙ so_far

-- no lines
pub first_none : (t : List ℕ) → first_lines 0 t ≡ []
unfolding first_lines
first_none [] = refl
first_none (c ∷ cs) = refl

-- no line is left to take
pub lines_none : (t total : List ℕ) (i n : ℕ) → n ≡ 0 → take i t ++ first_lines n (drop i t) ≡ total → take i t ≡ total
lines_none t total i n none so_far =
    sym (ap (λ u. take i t ++ u) (ap (λ k. first_lines k (drop i t)) none ∙ first_none (drop i t)) ∙ append-nil (take i t)) ∙ so_far

-- all of the text was taken
pub lines_all : (t total : List ℕ) (i n : ℕ) → length t ≤ i → take i t ++ first_lines n (drop i t) ≡ total → take (length t) t ≡ total
unfolding first_lines
lines_all t total i n h so_far =
    take_all (length t) t (omega arith)
    ∙ sym (take_all i t h)
    ∙ sym (ap (λ u. take i t ++ first_lines n u) (drop_all i t h) ∙ append-nil (take i t))
    ∙ so_far
