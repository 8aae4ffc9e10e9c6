-- A word looked up in a table, entry after entry.
use Rattle.std.proofs.Common.{◌≡◌, ℕ, ◌<◌, suc, cond, List, map, length, get_or, drop, Some, Bor, ap}
use Rattle.std.proofs.Math.Seq.{drop-cons}
use Rattle.std.specs.Str.{bytes_eq}
use Rattle.commands.specs.Commands.{named}

-- the entries from place i on are the one there and those behind it
pub named_step : {A : Type 0} (xs : List (Bor (List ℕ) × A)) (i : ℕ) (d : Bor (List ℕ) × A) (w : List ℕ) → i < length xs → named (map (λ r. (r.0.now, r.1)) (drop i xs)) w ≡ cond (bytes_eq w (get_or xs i d).0.now) (Some (get_or xs i d).1) (named (map (λ r. (r.0.now, r.1)) (drop (suc i) xs)) w)
named_step xs i d w lt = ap (λ l. named (map (λ r. (r.0.now, r.1)) l) w) (drop-cons xs i d lt)
